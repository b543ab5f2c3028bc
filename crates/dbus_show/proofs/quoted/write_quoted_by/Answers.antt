use Rattle.std.proofs.Common.{◌≡◌, List, ℕ, ◌∷◌, [], ◌++◌, take, chars, ap, subst, sym, ◌∙◌}
use Rattle.std.specs.Str.{NonePass}
use Rattle.std.proofs.Math.Seq.{take-length}
use Rattle.dbus_show.specs.Escapes.{is_escaped}
use Rattle.dbus_show.proofs.EscapedText.{plain_itself}
use Rattle.dbus_show.proofs.FieldTexts.{then}
use Rattle.dbus_show.proofs.quoted.write_quoted_by.Goals as goal

pub returns-then-plain_length-text : goal.returns-then-plain_length-text
returns-then-plain_length-text g c =
    let text = c.args.text.now in
    let all : take c.plain_length.result text ≡ text = ap (λ n. take n text) c.if-plain_length-text.true ∙ take-length text in
    let none = subst (λ (t : List ℕ). NonePass (is_escaped c.args.escapes) (chars t)) all c.plain_length.ensures.plain.plain in
    subst (λ (s : List ℕ). g.D.Draft.gains c.args.draft.now (34 ∷ (s ++ 34 ∷ [])) c.push_between.new.self) (sym (plain_itself c.args.escapes text c.utf8.text none)) c.push_between.ensures

pub returns : goal.returns
returns g c = then g.D.Draft.gains g.met.D.Draft.joins c.push_code.ensures (then g.D.Draft.gains g.met.D.Draft.joins c.write_escaped.ensures c.push_code-2.ensures)
