use Rattle.std.proofs.Common.{◌≡◌, ℕ, List, drop}
use Rattle.dbus_message_model.specs.Messages.{FieldTree, lacks, required}
use Rattle.dbus_validate.specs.Seen.{AreNoted}
use Rattle.dbus_validate.proofs.seen.FieldPlaces.has_required.Given as goal

abbrev pub invariant-loop-code : goal.invariant-loop-code
invariant-loop-code l = (bytes : List ℕ) (fs : List FieldTree) → AreNoted fs bytes l.self → lacks (drop l.code-index l.code-items) fs ≡ lacks (required l.kind) fs
