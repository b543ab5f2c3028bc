use Rattle.std.proofs.Common.{◌≡◌, sym, ap, ◌∙◌, arith, rules, FitsSigned}
use Rattle.std.specs.Fmt.{signed_decimal}
use Rattle.std.specs.Int.{w32, w64}
use Rattle.json.specs.Json as json
use Rattle.json.specs.Value.{value_view}
use Rattle.dbus_json_reader.proofs.Narrow.{none_narrow}
use Rattle.dbus_json_reader.proofs.Shapes.{view-Number}
use Rattle.dbus_json_reader.proofs.numbers.signed_32.Goals as goal

pub returns-clause-none : goal.returns-clause-none
returns-clause-none g c = λ none z fits e.
    let y = c.in_ok-signed_in.field-0 in
    let text : c.in-Number.text.now ≡ signed_decimal y = let bytes = c.as_bytes.ensures.value in let some = c.in_ok-signed_in.ensures.some in cc in
    let seen : value_view c.args.json.now ≡ json.number (signed_decimal y) = ap value_view c.in-Number.is ∙ view-Number _ c.in-Number.text ∙ ap json.number text in
    let narrow = fits.sfits in
    let wide : FitsSigned w64 y = search rules in
    let few = wide.sfits in
    none_narrow w32 w64 y z c.try_from.result c.ok.result c.try_from.ensures c.ok.ensures.value none wide (omega (arith, few)) (omega (arith, narrow)) fits (sym seen ∙ e)
