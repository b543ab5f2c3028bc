use Rattle.std.proofs.Common.{List, ℕ, [], subst}
use Rattle.dbus_check.specs.Checks.{Stands, Takes, limits_of}
use Rattle.dbus_stream.proofs.CutterSteps.{takes_front}
use Rattle.dbus_stream.proofs.gatherer.check_again.Goals as goal

pub returns-clause-stands : goal.returns-clause-stands
returns-clause-stands c =
    let held = c.args.held.now in
    let answers = subst (λ limits. Takes limits [] held c.take.result) c.restart.ensures.limits (c.take.ensures.answers [] c.restart.ensures.stands) in
    subst (λ (l : List ℕ). Stands c.take.new.self l) (takes_front (limits_of c.args.checker.now) held c.take.result c.requires answers)
    (c.take.ensures.stands [] c.restart.ensures.stands)
