-- Whether an end of a handshake is made, told by a number.
use Rattle.std.proofs.Common.{◌≡◌, Bool, ap, refl, subst, sym}
use Rattle.std.specs.Prelude.{ℕ, Option, Some, None, Result, Ok, Err, MatchResult, is_some}
use Rattle.std.specs.declared.alloc.AllocError.{AllocError}
use Rattle.dbus_c_auth.specs.declared.handshake.Handshake.{Handshake}
use Rattle.dbus_c_handle.specs.Checkers.{kept_as}
use Rattle.dbus_c_handle.specs.declared.kept.Kept.{Kept}
use Rattle.dbus_c.specs.Handshakes.{IsEndMade, made, refused, no_memory, made_told}

told : (asked : Option Handshake) (r : Result Bool AllocError) (new : Option Kept) → MatchResult r (λ b. (b ≡ is_some asked) × (new ≡ kept_as asked)) (λ _. new ≡ None) → IsEndMade asked (made_told r) new
told None (Ok b) new h = refused refl (ap (λ (b : Bool). made_told (Ok b)) h.0) h.1
told (Some x) (Ok b) new h = made x refl (ap (λ (b : Bool). made_told (Ok b)) h.0) h.1
told asked (Err e) new h = no_memory refl h

pub end_made : (asked : Option Handshake) (r : Result Bool AllocError) (answer : ℕ) (new : Option Kept) → answer ≡ made_told r
    → MatchResult r (λ b. (b ≡ is_some asked) × (new ≡ kept_as asked)) (λ _. new ≡ None) → IsEndMade asked answer new
end_made asked r answer new is h = subst (λ (n : ℕ). IsEndMade asked n new) (sym is) (told asked r new h)
