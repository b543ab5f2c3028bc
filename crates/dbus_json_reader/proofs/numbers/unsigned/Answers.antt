use Rattle.std.proofs.Common.{◌≡◌, sym, ap, ◌∙◌, decimal, arith, rules}
use Rattle.json.specs.Json as json
use Rattle.json.specs.Value.{value_view}
use Rattle.json.specs.declared.value.Value.{Number, the_lemmas}
use Rattle.dbus_json_reader.proofs.Decimals.{over}
use Rattle.dbus_json_reader.proofs.numbers.unsigned.Goals as goal

pub returns-then-number-most-clause-none : goal.returns-then-number-most-clause-none
returns-then-number-most-clause-none g c = λ none n few e.
    let text : c.in-Number.text.now ≡ decimal c.in_ok-number.number = let bytes = c.as_bytes.ensures.value in let some = c.in_ok-number.ensures.some in cc in
    let seen : value_view (Number c.in-Number.text) ≡ json.number c.in-Number.text.now = search (rules, the_lemmas) in
    over c.in-Number.text.now c.in_ok-number.number n c.args.most text (omega arith) few (omega arith) c.if-number-most.true (sym seen ∙ sym (ap value_view c.in-Number.is) ∙ e)
