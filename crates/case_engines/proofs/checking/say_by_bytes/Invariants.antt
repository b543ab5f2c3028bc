use Rattle.case_engines.specs.Checkers.{IsUnderWay}
use Rattle.case_engines.proofs.checking.say_by_bytes.Given as goal

abbrev pub invariant-loop-end : goal.invariant-loop-end
invariant-loop-end l = IsUnderWay l.values
