use Rattle.std.proofs.Common.{◌≡◌, false, FitsSigned, unsigned_abs, sym, ap, ◌∙◌, rules}
use Rattle.std.proofs.lemmas.Int.{to_z-of_z}
use Rattle.std.specs.Fmt.{signed_decimal}
use Rattle.std.specs.Int.{w64}
use Rattle.json.specs.Json as json
use Rattle.json.specs.Value.{value_view}
use Rattle.json.specs.declared.value.Value.{Number, the_lemmas}
use Rattle.dbus_json.specs.JsonIntegers.{may_be_number}
use Rattle.dbus_json_reader.proofs.Wide.{no_signed}
use Rattle.dbus_json_reader.proofs.numbers.signed_64.Goals as goal

pub returns-then-not-may_be_number-clause-none : goal.returns-then-not-may_be_number-clause-none
returns-then-not-may_be_number-clause-none g c = λ none z few spelled.
    let y = c.in_ok-integer-in-Number.integer in
    let fits : FitsSigned w64 y = search rules in
    let text : c.in-Number.text.now ≡ signed_decimal y = let bytes = c.as_bytes.ensures.value in let some = c.in_ok-integer-in-Number.ensures.some in cc in
    let seen : value_view (Number c.in-Number.text) ≡ json.number c.in-Number.text.now = search (rules, the_lemmas) in
    let size : c.unsigned_abs.result ≡ unsigned_abs y = c.unsigned_abs.ensures.value ∙ ap unsigned_abs (to_z-of_z w64 y fits) in
    let may : may_be_number c.args.integers (unsigned_abs y) ≡ false = ap (may_be_number c.args.integers) (sym size) ∙ sym c.may_be_number.ensures ∙ c.if-not-may_be_number.true in
    no_signed c.args.integers y z c.in-Number.text.now (value_view c.args.json.now) (ap value_view c.in-Number.is ∙ seen) text fits may few spelled
