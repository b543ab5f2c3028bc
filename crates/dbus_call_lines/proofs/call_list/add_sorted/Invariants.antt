use Rattle.std.proofs.Common.{map, take}
use Rattle.dbus_call_lines.specs.Keeping.{ended_kept, kept}
use Rattle.dbus_call_lines.specs.Outcomes.{outcome_seen}
use Rattle.dbus_call_lines.proofs.call_list.add_sorted.Given as goal

abbrev pub invariant-loop-call : goal.invariant-loop-call
invariant-loop-call g l = g.S.CallSink.gains l.initial.sink (ended_kept l.fn.wanted (outcome_seen l.fn.outcome) (map kept (map (λ call. call.now) (take l.call-index l.call-items)))) l.sink
