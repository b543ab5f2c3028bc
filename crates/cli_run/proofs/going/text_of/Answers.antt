use Rattle.std.proofs.Common.{ℕ, List, ◌++◌, arith}
use Rattle.dbus_value_laws.proofs.ReadSteps.{bytes_from}
use Rattle.dbus_value_model.proofs.Numbers.{IsBytes-append}
use Rattle.cli_report.proofs.FaultFronts.{some_front}
use Rattle.cli_run.proofs.going.text_of.Goals as goal

pub returns-then-settings-clause-front : goal.returns-then-settings-clause-front
returns-then-settings-clause-front g c =
    let held = bytes_from c.args.held.now (λ k. omega (arith, c.type_inv.held k)) in
    let part = bytes_from c.args.part.now (λ k. omega (arith, c.type_inv.part k)) in
    some_front c.args.settings.limits (c.args.held.now ++ c.args.part.now) (IsBytes-append c.args.held.now c.args.part.now held part)

pub returns-clause-front : goal.returns-clause-front
returns-clause-front g c =
    let held = bytes_from c.args.held.now (λ k. omega (arith, c.type_inv.held k)) in
    let part = bytes_from c.args.part.now (λ k. omega (arith, c.type_inv.part k)) in
    some_front c.args.settings.limits (c.args.held.now ++ c.args.part.now) (IsBytes-append c.args.held.now c.args.part.now held part)
