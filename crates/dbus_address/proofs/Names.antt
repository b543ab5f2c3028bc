-- Names, and lists of addresses that have them.
use Rattle.std.proofs.Common.{◌≡◌, ℕ, true, List, [], ◌∷◌, length, map, arith, refl}
use Rattle.std.specs.List.{AllByRecursion}
use Rattle.dbus_address.specs.Bytes.{is_plain}
use Rattle.dbus_address.specs.Addresses.{IsName, Address}
use Rattle.dbus_address.specs.Written.{IsAddress, AreAddresses}

pub name_is : (x : List ℕ) → (length x ≡ 0 → ⊥) → AllByRecursion (λ b. is_plain b ≡ true) x → IsName x
name_is [] h k = h refl
name_is (b ∷ x) h k = k

pub name_plain : (x : List ℕ) → IsName x → AllByRecursion (λ b. is_plain b ≡ true) x × (length x ≡ 0 → ⊥)
name_plain [] h = absurd h
name_plain (b ∷ x) h = (h, λ e. omega (arith, e))

pub addresses_are : {X : Type 0} (f : X → Address) (x : List X) → (length x ≡ 0 → ⊥) → AllByRecursion IsAddress (map f x) → AreAddresses (map f x)
addresses_are f [] h k = h refl
addresses_are f (b ∷ x) h k = k

pub each_address : {X : Type 0} (f : X → Address) (x : List X) → AreAddresses (map f x) → AllByRecursion IsAddress (map f x) × (length x ≡ 0 → ⊥)
each_address f [] h = absurd h
each_address f (b ∷ x) h = (h, λ e. omega (arith, e))
