-- Texts that each text has. No public clause speaks of it.
use Rattle.std.specs.Prelude.{◌≡◌, ℕ, Bool, false, List, String, string_bytes, map}
use Rattle.std.specs.BTreeMap.{BTreeMap, IsOrdered, get_by_text}
use Rattle.std.specs.BTreeSet.{BTreeSet, contains_text}
use Rattle.std.specs.FinSet as set
use Rattle.std.specs.List.{flat_map}
use Rattle.std.specs.Option.{option_map_or}
use Rattle.std.specs.String.{string_cmp}
use Rattle.std.specs.declared.alloc.Global.{Global}
use Rattle.dbus_match.specs.Matching.{Ownership}
use Rattle.dbus_rule_set.specs.Owners.{OwnerSet}

abbrev pub Groups : Type 0
Groups = BTreeMap (String Global) (BTreeSet (String Global))

-- whether the first text has the second
abbrev pub has : Groups → (first second : List ℕ) → Bool
has groups first second = option_map_or (λ group. contains_text group second) (get_by_text groups first) false

-- the name that has owners, with each of them
abbrev pub owned : String Global × BTreeSet (String Global) → List Ownership
owned e = map (λ u. record { name = string_bytes e.0; unique = string_bytes u }) e.1.keys

-- the owners of names that have them
abbrev pub owners_by : Groups → OwnerSet
owners_by groups = set.from_list (flat_map owned groups.entries)

-- the names are in order, and each owner has exactly the names that have it
pub record AreConverse (by_name by_unique : Groups) : Type 0 where
  pub ordered : IsOrdered string_cmp by_name
  pub converse : (name unique : List ℕ) → has by_name name unique ≡ has by_unique unique name
