use Rattle.std.proofs.Common.{◌+◌, ◌∙◌, ◌⊎◌, inl, inr, ◌≡◌, ℕ, arith, rules}
use Rattle.dbus_texts.specs.Types.{STRING, OBJECT_PATH}
use Rattle.dbus_value_model.proofs.ValueRows.{tree-Str, tree-Path}
use Rattle.dbus_walk.proofs.Parts.{long_stands, long_counts}
use Rattle.dbus_walk.proofs.ReadThere.{text_there, text_utf8}
use Rattle.dbus_value_model.specs.declared.value.Value.{the_lemmas}
use Rattle.dbus_unmarshal.proofs.Leaves.{text_built}
use Rattle.dbus_unmarshal.proofs.texts.long_text_at.Goals as goal

path_left : {c : ℕ} → (c ≡ 115) ⊎ (c ≡ 111) → (c ≡ 115 → ⊥) → c ≡ 111
path_left (inl e) n = absurd (n e)
path_left (inr e) n = e

pub overflow_add-start : goal.overflow_add-start
overflow_add-start g c = let p = long_stands c.requires.stands.2 c.requires.code in omega (arith, p.inside, c.requires.begins)

pub text_in-requires : goal.text_in-requires
text_in-requires g c =
    let s = c.requires.stands.2 in
    let p = long_stands s c.requires.code in
    let counts = long_counts s p c.args.start c.args.size c.requires.begins c.requires.counts in
    record { inside = omega (arith, p.inside, c.requires.begins, counts); utf8 = text_utf8 s 4 p (c.args.start + 4) c.args.size (omega (arith, c.requires.begins)) counts }

pub returns-then-spot-eq115 : goal.returns-then-spot-eq115
returns-then-spot-eq115 g c = λ v rest s.
    let p = long_stands s c.requires.code in
    let counts = long_counts s p c.args.start c.args.size c.requires.begins c.requires.counts in
    let is = c.in_ok-text.ensures.ok ∙ c.text_in.ensures ∙ text_there s 4 p (c.args.start + 4) c.args.size (omega (arith, c.requires.begins)) counts in
    record { tree = text_built s p STRING c.in_ok-text.text _ c.if-spot-eq115.true is (tree-Str c.in_ok-text.text); packed = search (rules, the_lemmas) }

pub returns : goal.returns
returns g c = λ v rest s.
    let p = long_stands s c.requires.code in
    let counts = long_counts s p c.args.start c.args.size c.requires.begins c.requires.counts in
    let is = c.in_ok-text.ensures.ok ∙ c.text_in.ensures ∙ text_there s 4 p (c.args.start + 4) c.args.size (omega (arith, c.requires.begins)) counts in
    record { tree = text_built s p OBJECT_PATH c.in_ok-text.text _ (path_left c.requires.code c.if-spot-eq115.false) is (tree-Path c.in_ok-text.text); packed = search (rules, the_lemmas) }
