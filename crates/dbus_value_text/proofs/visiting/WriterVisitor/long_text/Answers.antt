use Rattle.std.proofs.Common.{◌≡◌, ◌+◌, refl, subst, ◌∙◌, arith}
use Rattle.dbus_value_model.specs.Values.{ValueTree}
use Rattle.dbus_walk.proofs.Parts.{long_stands, long_counts}
use Rattle.dbus_walk.proofs.ReadThere.{text_there, text_utf8}
use Rattle.dbus_value_text.proofs.Read.{code_ascii, text_coded, text_held}
use Rattle.dbus_value_text.proofs.visiting.WriterVisitor.long_text.Goals as goal

pub overflow_add-start : goal.overflow_add-start
overflow_add-start g c = let p = long_stands c.requires.stands.2 c.requires.code in omega (arith, p.inside, c.requires.begins)

pub text_in-requires : goal.text_in-requires
text_in-requires g c =
    let s = c.requires.stands.2 in
    let p = long_stands s c.requires.code in
    let counts = long_counts s p c.args.start c.args.size c.requires.begins c.requires.counts in
    record { inside = omega (arith, p.inside, c.requires.begins, counts); utf8 = text_utf8 s 4 p (c.args.start + 4) c.args.size (omega (arith, c.requires.begins)) counts }

pub text-requires : goal.text-requires
text-requires g c = record { ascii = code_ascii c.requires.stands.2 }

pub returns-clause-takes : goal.returns-clause-takes
returns-clause-takes g c = λ v rest s.
    let p = long_stands s c.requires.code in
    let counts = long_counts s p c.args.start c.args.size c.requires.begins c.requires.counts in
    let is : c.text_in.result.now ≡ p.text = c.text_in.ensures ∙ text_there s 4 p (c.args.start + 4) c.args.size (omega (arith, c.requires.begins)) counts in
    let w = c.text.ensures.written p.code (text_coded s 4 p) in
    (w.0, subst (λ (u : ValueTree). g.F.ValueForm.is_text u w.0) (text_held s 4 p c.text_in.result.now is) w.1, record { same = refl; gained = w.2 })
