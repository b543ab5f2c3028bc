use Rattle.std.proofs.Common.{◌≡◌, ◌++◌, ap, ◌∙◌, sym, subst, append_assoc, encode_utf8_all, append-nil, [], take, drop}
use Rattle.std.proofs.lemmas.Str.{encodes-IsAscii}
use Rattle.std.specs.Char.Escape.{escape_unicode}
use Rattle.std.specs.Char.Iter.{escape_rest}
use Rattle.dbus_show.proofs.EscapedText.{unicode_ascii}
use Rattle.dbus_show.proofs.FieldTexts.{then}
use Rattle.dbus_show.proofs.escapes.write_code.Goals as goal

pub loop-part-preserved : goal.loop-part-preserved
loop-part-preserved g c =
    let before = c.loop-part.invariant in
    let part = c.encode_utf8.result.now in
    let rest = encode_utf8_all (escape_rest c.next.new.self) in (
      before.0 ++ part,
      then g.D.Draft.gains g.met.D.Draft.joins before.1 c.push_str.ensures,
      append_assoc before.0 part rest ∙ ap (λ s. before.0 ++ s) (ap (λ s. s ++ rest) c.encode_utf8.ensures.value ∙ ap encode_utf8_all (sym c.in-Some.ensures.steps.1.0)) ∙ before.2,
    )

pub returns : goal.returns
returns g c =
    let before = c.loop-part.invariant in
    let it = c.loop-part.part-iterator in
    let text = escape_unicode c.args.character in
    let none : escape_rest it ≡ [] = ap (λ n. take n (drop it.from it.chars)) c.in-None.ensures.steps.1.0 in
    let all : before.0 ≡ text = sym (append-nil before.0) ∙ ap (λ xs. before.0 ++ encode_utf8_all xs) (sym none) ∙ before.2 ∙ encodes-IsAscii text (unicode_ascii c.args.character) in
    subst (λ s. g.D.Draft.gains c.args.draft.now s c.loop-part.draft) all before.1
