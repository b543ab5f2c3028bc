use Rattle.std.proofs.Common.{◌≡◌, false, sym, ap, ◌∙◌, decimal, arith, rules}
use Rattle.json.specs.Json as json
use Rattle.json.specs.Value.{value_view}
use Rattle.json.specs.declared.value.Value.{Number, the_lemmas}
use Rattle.dbus_json.specs.JsonIntegers.{may_be_number}
use Rattle.dbus_json_reader.proofs.Wide.{no_unsigned}
use Rattle.dbus_json_reader.proofs.numbers.unsigned_64.Goals as goal

pub returns-then-not-may_be_number-clause-none : goal.returns-then-not-may_be_number-clause-none
returns-then-not-may_be_number-clause-none g c = λ none n few spelled.
    let text : c.in-Number.text.now ≡ decimal c.in_ok-integer-in-Number.integer = let bytes = c.as_bytes.ensures.value in let some = c.in_ok-integer-in-Number.ensures.some in cc in
    let seen : value_view (Number c.in-Number.text) ≡ json.number c.in-Number.text.now = search (rules, the_lemmas) in
    let may : may_be_number c.args.integers c.in_ok-integer-in-Number.integer ≡ false = sym c.may_be_number.ensures ∙ c.if-not-may_be_number.true in
    no_unsigned c.args.integers c.in_ok-integer-in-Number.integer n c.in-Number.text.now (value_view c.args.json.now) (ap value_view c.in-Number.is ∙ seen) text (omega arith) may few spelled
