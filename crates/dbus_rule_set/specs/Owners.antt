-- The owners of names, as a set of names with their owners, and how it changes. D-Bus
-- Specification, "Bus names" and "Message Bus Overview".
use Rattle.std.specs.Prelude.{◌≡◌, ℕ, List, [], not, if◌then◌else◌, refl}
use Rattle.std.specs.Coded.{Coded, code_by, coded×, coded_list, coded_ℕ}
use Rattle.std.specs.Cmp.Lexicographic.{slice_cmp}
use Rattle.std.specs.FinSet as set
use Rattle.std.specs.Ordering.{nat_cmp, on, then_cmp}
use Rattle.std.specs.Str.{bytes_eq}
use Rattle.std.specs.declared.cmp.Ordering.{Ordering}
use Rattle.dbus_match.specs.Matching.{Ownership}

-- by the names, and then by their owners
abbrev pub owner_cmp : Ownership → Ownership → Ordering
owner_cmp = then_cmp (on (λ o. o.name) (slice_cmp nat_cmp)) (on (λ o. o.unique) (slice_cmp nat_cmp))

-- names with their owners, each once
abbrev pub OwnerSet : Type 0
OwnerSet = set.FinSet owner_cmp

-- as a list
abbrev pub owners_in : OwnerSet → List Ownership
owners_in os = set.items os

abbrev pub ownership_code : Coded Ownership
ownership_code =
    code_by (List ℕ × List ℕ) (coded× (coded_list coded_ℕ) (coded_list coded_ℕ)) (λ o. (o.name, o.unique)) (λ p. record { name = p.0; unique = p.1 }) (λ _. refl)

-- those of other names
abbrev pub without_owners : List ℕ → OwnerSet → OwnerSet
without_owners name s = set.retain s (λ o. not (bytes_eq name o.name))

-- the name has this owner no longer
abbrev pub without_owner : (name unique : List ℕ) → OwnerSet → OwnerSet
without_owner name unique s = set.remove s (record { name = name; unique = unique })

-- the owner has no name any more
abbrev pub without_unique : List ℕ → OwnerSet → OwnerSet
without_unique unique s = set.retain s (λ o. not (bytes_eq unique o.unique))

-- the name has this owner alone, or none if that is empty; other names keep theirs
abbrev pub owned_anew : (name unique : List ℕ) → OwnerSet → OwnerSet
owned_anew name unique s = if bytes_eq unique [] then without_owners name s else set.insert (without_owners name s) (record { name = name; unique = unique })
