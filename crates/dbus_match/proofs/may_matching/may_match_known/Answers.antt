use Rattle.std.proofs.Common.{option_map}
use Rattle.dbus_match.proofs.TakenFor.{may_match}
use Rattle.dbus_match.proofs.may_matching.may_match_known.Goals as goal

pub returns-then-conditions-gt-FEW_KEYS : goal.returns-then-conditions-gt-FEW_KEYS
returns-then-conditions-gt-FEW_KEYS g c = λ order m v.
    may_match m (option_map (λ s. s.now) c.args.sender) (g.O.KnownOwners.known c.args.owners.now) c.args.rule.now c.each_may_hold_noted.result (c.each_may_hold_noted.ensures order m v)

pub returns : goal.returns
returns g c = λ order m v.
    may_match m (option_map (λ s. s.now) c.args.sender) (g.O.KnownOwners.known c.args.owners.now) c.args.rule.now c.each_may_hold.result (c.each_may_hold.ensures m (order, v))
