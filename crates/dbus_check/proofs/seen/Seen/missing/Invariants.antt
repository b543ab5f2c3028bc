use Rattle.std.proofs.Common.{◌≡◌, ℕ, List, drop}
use Rattle.dbus_message_model.specs.Messages.{required}
use Rattle.dbus_check.specs.Heading.{missing}
use Rattle.dbus_check.specs.Progress.{Sees}
use Rattle.dbus_check.proofs.CheckSteps.{AreKnown}
use Rattle.dbus_check.proofs.seen.Seen.missing.Given as goal

abbrev pub invariant-loop-code : goal.invariant-loop-code
invariant-loop-code l = record {
  known : AreKnown (drop l.code-index l.code-items);
  same : (codes : List ℕ) → Sees l.self codes → missing (drop l.code-index l.code-items) codes ≡ missing (required l.kind) codes;
}
