use Rattle.std.proofs.Common.{◌≤◌, length, drop, arith}
use Rattle.dbus_rule.specs.Rules.{condition_pairs}
use Rattle.dbus_rule.proofs.NameReadings.{left_over, no_equals_fault, unknown_fault, clash_fault, key_at}
use Rattle.dbus_rule.proofs.pair.read_key.Goals as goal

pub returns-in-Err-clause-fault : goal.returns-in-Err-clause-fault
returns-in-Err-clause-fault g c =
    no_equals_fault c.args.from (drop c.args.from c.args.text.now) c.in-Err.at c.requires.first (left_over c.args.from c.args.text.now c.requires.within) c.in-Err.ensures.cut

pub returns-in-None-clause-fault : goal.returns-in-None-clause-fault
returns-in-None-clause-fault g c =
    unknown_fault (condition_pairs c.args.conditions.now) c.args.from (drop c.args.from c.args.text.now) c.in-Ok.equals c.requires.first c.in-Ok.ensures.cut c.in-None.ensures

pub returns-in-Some-clash-clause-fault : goal.returns-in-Some-clash-clause-fault
returns-in-Some-clash-clause-fault g c =
    clash_fault (condition_pairs c.args.conditions.now) c.args.from (drop c.args.from c.args.text.now) c.in-Ok.equals c.in-Some.key c.in-Some-clash.reason c.requires.first c.in-Ok.ensures.cut c.in-Some.ensures c.in-Some-clash.ensures

pub returns-in-None-clash-clause-key : goal.returns-in-None-clash-clause-key
returns-in-None-clash-clause-key g c =
    let within : c.args.from ≤ length c.args.text.now = omega (arith, c.requires.within) in
    key_at (condition_pairs c.args.conditions.now) c.args.from c.args.text.now c.in-Ok.equals c.in-Some.key within c.in-Ok.ensures.cut c.in-Some.ensures c.in-None-clash.ensures
