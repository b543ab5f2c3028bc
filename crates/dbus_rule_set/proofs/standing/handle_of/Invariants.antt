use Rattle.std.proofs.Common.{◌≡◌, ◌<◌, true}
use Rattle.dbus_rule.specs.RuleViews.{rule_pairs}
use Rattle.dbus_rule_set.specs.Places.{is_placed}
use Rattle.dbus_rule_set.proofs.standing.handle_of.Given as goal

-- the handle so far
abbrev pub invariant-loop-condition : goal.invariant-loop-condition
invariant-loop-condition g l =
    record {
      kind : l.handle.kind < 137;
      number : l.handle.number ≡ l.number;
      placed : is_placed l.handle (rule_pairs l.rule) ≡ true;
    }
