use Rattle.std.proofs.Common.{◌≡◌, take}
use Rattle.dbus_check.specs.Checks.{Stands, limits_of}
use Rattle.dbus_header.specs.MessageOutcomes.{IsPartial}
use Rattle.cli_report.proofs.fault_front.fault_front.Given as goal

abbrev pub invariant-loop-at : goal.invariant-loop-at
invariant-loop-at l = record {
  stands : Stands l.checker (take l.at l.bytes);
  limits_are : limits_of l.checker ≡ l.fn.limits;
  unshown : IsPartial l.fn.limits (take l.at l.bytes);
}
