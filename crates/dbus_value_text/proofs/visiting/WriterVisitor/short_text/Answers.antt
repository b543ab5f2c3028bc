use Rattle.std.proofs.Common.{◌≡◌, ◌+◌, refl, subst, ◌∙◌, arith}
use Rattle.dbus_value_model.specs.Values.{ValueTree}
use Rattle.dbus_value_model.proofs.Periods.{no_gap}
use Rattle.dbus_walk.proofs.Parts.{short_stands, short_counts}
use Rattle.dbus_walk.proofs.ReadThere.{text_there, text_utf8}
use Rattle.dbus_value_text.proofs.Read.{text_coded, text_held}
use Rattle.dbus_value_text.proofs.visiting.WriterVisitor.short_text.Goals as goal

pub overflow_add-spot : goal.overflow_add-spot
overflow_add-spot g c = let is = short_counts c.requires.stands.2 (short_stands c.requires.stands.2 c.requires.code) in omega (arith, is.1)

pub text_in-requires : goal.text_in-requires
text_in-requires g c =
    let s = c.requires.stands.2 in
    let p = short_stands s c.requires.code in
    let is = short_counts s p in
    let at = c.args.spot.now.at in
    record { inside = omega (arith, is.0, is.1, c.requires.counts); utf8 = text_utf8 s 1 p (at + 1) c.args.size (omega (arith, no_gap at)) (c.requires.counts ∙ is.0) }

pub returns-clause-takes : goal.returns-clause-takes
returns-clause-takes g c = λ v rest s.
    let p = short_stands s c.requires.code in
    let at = c.args.spot.now.at in
    let is : c.text_in.result.now ≡ p.text = c.text_in.ensures ∙ text_there s 1 p (at + 1) c.args.size (omega (arith, no_gap at)) (c.requires.counts ∙ (short_counts s p).0) in
    let w = c.text.ensures.written p.code (text_coded s 1 p ∙ c.requires.code) in
    (w.0, subst (λ (u : ValueTree). g.F.ValueForm.is_text u w.0) (text_held s 1 p c.text_in.result.now is) w.1, record { same = refl; gained = w.2 })
