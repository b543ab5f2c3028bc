use Rattle.std.proofs.Common.{◌+◌, ◌∙◌, arith, rules}
use Rattle.dbus_texts.specs.Types.{SIGNATURE}
use Rattle.dbus_value_model.proofs.ValueRows.{tree-Sig}
use Rattle.dbus_walk.proofs.Parts.{short_stands, short_counts}
use Rattle.dbus_walk.proofs.ReadThere.{text_there, text_utf8}
use Rattle.dbus_value_model.specs.declared.value.Value.{the_lemmas}
use Rattle.dbus_value_model.proofs.Periods.{no_gap}
use Rattle.dbus_unmarshal.proofs.Leaves.{text_built}
use Rattle.dbus_unmarshal.proofs.texts.short_text_at.Goals as goal

pub overflow_add-spot : goal.overflow_add-spot
overflow_add-spot g c = let is = short_counts c.requires.stands.2 (short_stands c.requires.stands.2 c.requires.code) in omega (arith, is.1)

pub text_in-requires : goal.text_in-requires
text_in-requires g c =
    let s = c.requires.stands.2 in
    let p = short_stands s c.requires.code in
    let is = short_counts s p in
    let at = c.args.spot.now.at in
    record { inside = omega (arith, is.0, is.1, c.requires.counts); utf8 = text_utf8 s 1 p (at + 1) c.args.size (omega (arith, no_gap at)) (c.requires.counts ∙ is.0) }

pub returns : goal.returns
returns g c = λ v rest s.
    let p = short_stands s c.requires.code in
    let at = c.args.spot.now.at in
    let is = c.in_ok-text.ensures.ok ∙ c.text_in.ensures ∙ text_there s 1 p (at + 1) c.args.size (omega (arith, no_gap at)) (c.requires.counts ∙ (short_counts s p).0) in
    record { tree = text_built s p SIGNATURE c.in_ok-text.text _ c.requires.code is (tree-Sig c.in_ok-text.text); packed = search (rules, the_lemmas) }
