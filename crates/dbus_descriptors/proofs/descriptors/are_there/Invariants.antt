use Rattle.std.proofs.Common.{◌<◌, ℕ, List, get_or}
use Rattle.dbus_descriptors.specs.declared.descriptors.Came.{Came}
use Rattle.dbus_descriptors.proofs.descriptors.are_there.Given as goal

-- the first i came before this end
abbrev CameBefore : {T : Type 0} → List (Came T) → (end i : ℕ) → Type 0
CameBefore {T} waiting end i = (k : ℕ) (d : Came T) → k < i → (get_or waiting k d).place < end

abbrev pub invariant-loop-i : goal.invariant-loop-i
invariant-loop-i g l = CameBefore l.waiting.items l.message.end l.i
