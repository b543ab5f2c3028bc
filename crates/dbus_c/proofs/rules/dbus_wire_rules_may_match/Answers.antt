use Rattle.std.proofs.Common.{option_map}
use Rattle.dbus_c.specs.GivenLimits.{limits_of}
use Rattle.dbus_c.proofs.RuleTelling.{known_by, may_told, nothing_may}
use Rattle.dbus_c.proofs.rules.dbus_wire_rules_may_match.Goals as goal

pub returns-in-Err-clause-may : goal.returns-in-Err-clause-may
returns-in-Err-clause-may c =
    nothing_may c.args.rules.now.state (limits_of c.args.limits.now) c.args.bytes.now c.args.sender.now c.args.may.now
    c.in-Err.answer c.in-Err.ensures.none

pub returns-clause-may : goal.returns-clause-may
returns-clause-may c =
    let known = option_map (λ s. s.now) c.bus_name.result in
    may_told c.args.rules.now.state (limits_of c.args.limits.now) c.args.bytes.now c.args.sender.now c.args.may.now
    c.first_view-view.result c.first_view-view.ensures.viewed known (known_by (λ s. s.now) c.bus_name.result c.args.sender.now c.bus_name.ensures)
    c.any_may_match.result c.any_may_match.ensures.may c.from.result c.from.ensures
