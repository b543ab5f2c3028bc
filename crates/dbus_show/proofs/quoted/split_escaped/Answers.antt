use Rattle.std.proofs.Common.{◌≡◌, ◌++◌, List, ℕ, IsUtf8, chars, encode_utf8, length, take, drop, ap, arith, sym, subst, ◌∙◌, length-append, length-drop}
use Rattle.std.specs.Str.{NonePass}
use Rattle.std.proofs.Math.Seq.{take-length}
use Rattle.std.proofs.lemmas.List.{take-append-drop}
use Rattle.std.proofs.lemmas.Str.{IsUtf8-drop, IsUtf8-take, len_utf8_bounds, length-encode}
use Rattle.dbus_show.specs.Escapes.{is_escaped}
use Rattle.dbus_show.proofs.EscapedText.{escaped_split, plain_itself}
use Rattle.dbus_show.proofs.quoted.split_escaped.Goals as goal

pub returns-in_err-character : goal.returns-in_err-character
returns-in_err-character c =
    let text = c.args.text.now in
    let n = c.plain_length.result in
    let place = c.plain_length.ensures.plain.place in
    let none : length (drop n text) ≡ 0 = ap length (sym (c.chars-characters.ensures.rest ∙ c.split_at.ensures.back)) ∙ c.in_err-character.ensures.steps.0.0 in
    let end : n ≡ length text = omega (arith, none, length-drop n text, place.0) in
    let all : take n text ≡ text = ap (λ k. take k text) end ∙ take-length text in
    rw c.from_residual.ensures (plain_itself c.args.escapes text c.utf8.text (subst (λ (t : List ℕ). NonePass (is_escaped c.args.escapes) (chars t)) all c.plain_length.ensures.plain.plain))

pub returns : goal.returns
returns c =
    let text = c.args.text.now in
    let n = c.plain_length.result in
    let d = c.in_ok-character.character in
    let plain = c.split_at.result.0.now in
    let after = c.as_str.result.now in
    let place = c.plain_length.ensures.plain.place in
    let rest : drop n text ≡ encode_utf8 d ++ after = sym c.split_at.ensures.back ∙ (sym c.chars-characters.ensures.rest ∙ (c.in_ok-character.ensures.steps.0 ∙ ap (λ s. encode_utf8 d ++ s) (sym c.as_str.ensures))) in
    let front : take n text ≡ plain = sym c.split_at.ensures.front in
    let whole : text ≡ plain ++ (encode_utf8 d ++ after) = sym (take-append-drop n text) ∙ ap (λ s. take n text ++ s) rest ∙ ap (λ s. s ++ (encode_utf8 d ++ after)) front in
    let stops = c.plain_length.ensures.stops d after rest in (
      escaped_split c.args.escapes text plain after d whole (subst IsUtf8 front (IsUtf8-take text n c.utf8.text place)) (subst IsUtf8 rest (IsUtf8-drop text n c.utf8.text place))
          (subst (λ (t : List ℕ). NonePass (is_escaped c.args.escapes) (chars t)) front c.plain_length.ensures.plain.plain) stops,
      stops,
      omega (arith, ap length whole, length-append plain (encode_utf8 d ++ after), length-append (encode_utf8 d) after, length-encode d, len_utf8_bounds d),
    )
