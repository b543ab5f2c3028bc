use Rattle.std.proofs.Common.{sym, ◌∙◌, arith, rules, FitsSigned}
use Rattle.std.specs.Int.{w16, w32}
use Rattle.dbus_json_reader.proofs.Narrow.{none_narrow}
use Rattle.dbus_json_reader.proofs.numbers.signed_16.Goals as goal

pub returns-clause-none : goal.returns-clause-none
returns-clause-none g c = λ none z fits e.
    let y = c.in_ok-signed_32.field-0 in
    let narrow = fits.sfits in
    let wide : FitsSigned w32 y = search rules in
    let few = wide.sfits in
    none_narrow w16 w32 y z c.try_from.result c.ok.result c.try_from.ensures c.ok.ensures.value none wide (omega (arith, few)) (omega (arith, narrow)) fits (sym c.in_ok-signed_32.ensures.some ∙ e)
