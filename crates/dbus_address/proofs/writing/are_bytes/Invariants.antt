use Rattle.std.proofs.Common.{◌<◌, drop}
use Rattle.std.specs.List.{AllByRecursion}
use Rattle.dbus_address.proofs.writing.are_bytes.Given as goal

abbrev pub invariant-loop-b : goal.invariant-loop-b
invariant-loop-b l = AllByRecursion (λ b. b < 256) (drop l.b-index l.text) → AllByRecursion (λ b. b < 256) l.text
