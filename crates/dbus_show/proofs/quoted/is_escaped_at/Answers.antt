use Rattle.std.proofs.Common.{encode_utf8, length, arith, ap, sym, ◌∙◌, length-append}
use Rattle.std.proofs.lemmas.Str.{encode_same, length-encode, len_utf8_bounds}
use Rattle.dbus_show.specs.Escapes.{is_escaped}
use Rattle.dbus_show.proofs.quoted.is_escaped_at.Goals as goal

pub returns-in-Some : goal.returns-in-Some
returns-in-Some c = λ d rest e.
    let same = encode_same c.in-Some.character d _ rest (sym c.in-Some.ensures.steps.0 ∙ (c.chars.ensures.rest ∙ (c.range_from.ensures.value ∙ e))) in
    c.is_escaped.ensures ∙ ap (is_escaped c.args.escapes) same.0

pub returns-in-None : goal.returns-in-None
returns-in-None c = λ d rest e.
    let whole = c.chars.ensures.rest ∙ (c.range_from.ensures.value ∙ e) in
    let none = c.in-None.ensures.steps.0.0 in
    let long = ap length whole in
    absurd (omega (arith, none, long, length-append (encode_utf8 d) rest, length-encode d, len_utf8_bounds d))
