-- Whether a connection is made, told by a number.
use Rattle.std.proofs.Common.{◌≡◌, Bool, refl, subst, sym}
use Rattle.std.specs.Prelude.{ℕ, Option, Some, None, Result, Ok, Err, MatchResult, true, false}
use Rattle.std.proofs.lemmas.Bool.{false≢true}
use Rattle.std.specs.declared.alloc.AllocError.{AllocError}
use Rattle.dbus_connection.specs.Standing.{Stand}
use Rattle.dbus_connection.specs.declared.settings.Settings.{Settings}
use Rattle.dbus_c_handle.specs.Connections.{Connects}
use Rattle.dbus_c_handle.specs.declared.kept.Kept.{Kept}
use Rattle.dbus_c.specs.Connections.{IsConnectionMade, made, none, no_memory, connected_told}

told : (start : Option Stand) (settings : Settings) (r : Result Bool AllocError) (new : Option Kept)
    → MatchResult r (λ m. Connects start settings new m) (λ _. new ≡ None) → IsConnectionMade start settings (connected_told r) new
told None settings (Ok true) new h = absurd (false≢true (sym h.0))
told None settings (Ok false) new h = none refl refl h.1
told (Some there) settings (Ok true) new h = made there refl refl h
told (Some there) settings (Ok false) new h = absurd (false≢true h.0)
told start settings (Err e) new h = no_memory refl h

pub connection_made : (start : Option Stand) (settings : Settings) (r : Result Bool AllocError) (answer : ℕ) (new : Option Kept) → answer ≡ connected_told r
    → MatchResult r (λ m. Connects start settings new m) (λ _. new ≡ None) → IsConnectionMade start settings answer new
connection_made start settings r answer new is h = subst (λ (n : ℕ). IsConnectionMade start settings n new) (sym is) (told start settings r new h)
