-- How a client's end starts.
use Rattle.std.proofs.Common.{◌≡◌, ℕ, [], ◌∷◌, Bool, List, refl, sym, ap, false, if◌then◌else◌}
use Rattle.dbus_auth.specs.Machines.{ClientMechanism, is_empty, next_among}
use Rattle.dbus_auth.specs.Ends.{ClientEndState, client_greets, client_starts, client_takes, status_after}
use Rattle.dbus_connection.specs.Answers.{client_goes_on}
use Rattle.dbus_auth.specs.declared.end_step.Status.{Status}
use Rattle.dbus_auth.specs.declared.end_step.Status.TheVariants as status

-- where it stands, by what it sends
abbrev pub by_sent : List ℕ → Status
by_sent send = if is_empty send then status.Closed else status.Talking

greeted_as : (descriptors : Bool) (left : List ClientMechanism) → by_sent (client_greets (next_among descriptors left).action) ≡ status_after (next_among descriptors left).action
greeted_as descriptors [] = refl
greeted_as descriptors (m ∷ ms) = refl

-- it takes nothing; without a mechanism it sends nothing, and is closed
pub starts_as : (e : ClientEndState) → (0 ≡ (client_starts e).taken) × (by_sent (client_starts e).send ≡ (client_starts e).after.status)
unfolding client_starts
starts_as e = (refl, greeted_as e.machine.descriptors e.machine.left)

-- an end that has not started does so
pub first_call : (e : ClientEndState) (bytes : List ℕ) → e.started ≡ false → client_starts e ≡ client_goes_on e bytes
first_call e bytes is = ap (λ (b : Bool). if b then client_takes e bytes else client_starts e) (sym is)
