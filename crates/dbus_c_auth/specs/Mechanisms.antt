-- Which mechanisms are asked for and offered, by numbers.
-- D-Bus Specification, "Authentication Protocol", "Authentication mechanisms".
use Rattle.std.specs.Prelude.{ℕ, Bool, ◌==◌, List, [], ◌∷◌, ◌++◌, Option, Some, None, if◌then◌else◌, ◌≡◌, ◌⊎◌}
use Rattle.std.specs.Coded.{Coded, code_by, coded_option, coded_list, coded_ℕ, coded⊎}
use Rattle.dbus_auth.specs.Machines.{ClientMechanism, External, Anonymous}
use mathlib.Core.Path.{refl}
use mathlib.Core.Logic.{inl, inr}
use Rattle.dbus_c_auth.specs.declared.mechanisms.Mechanisms.{Mechanisms}
use Rattle.dbus_c_auth.specs.declared.mechanisms.TheConstants.{AS_USER, AS_REPORTED}

-- of a server: the user whom it lets in by EXTERNAL, and whether it offers ANONYMOUS
abbrev pub user_reported : Mechanisms → Option ℕ
user_reported m = if m.external == AS_USER then Some m.user else None

abbrev pub is_anonymous : Mechanisms → Bool
is_anonymous m = m.anonymous == 1

-- of either: whether it passes Unix file descriptors, if the other one does
abbrev pub passes_descriptors : Mechanisms → Bool
passes_descriptors m = m.descriptors == 1

-- of a client: EXTERNAL first, then ANONYMOUS with this trace
abbrev pub external_of : Mechanisms → List ClientMechanism
external_of m =
    if m.external == AS_USER then External (Some m.user) ∷ []
    else if m.external == AS_REPORTED then External None ∷ []
    else []

abbrev pub asked_for : Mechanisms → List ℕ → List ClientMechanism
asked_for m trace = external_of m ++ (if is_anonymous m then Anonymous trace ∷ [] else [])

-- How a client's mechanism is kept in a handle's ghost field.

abbrev parts : ClientMechanism → Option ℕ ⊎ List ℕ
parts (External user) = inl user
parts (Anonymous trace) = inr trace

abbrev whole : Option ℕ ⊎ List ℕ → ClientMechanism
whole (inl user) = External user
whole (inr trace) = Anonymous trace

pub whole_again : (m : ClientMechanism) → whole (parts m) ≡ m
whole_again (External user) = refl
whole_again (Anonymous trace) = refl

abbrev pub coded_mechanism : Coded ClientMechanism
coded_mechanism = code_by (Option ℕ ⊎ List ℕ) (coded⊎ (coded_option coded_ℕ) (coded_list coded_ℕ)) parts whole whole_again
