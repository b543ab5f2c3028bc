-- Which values have all their indexes of descriptors below a number, level by level and along a
-- list.
use Rattle.std.proofs.Common.{◌≡◌, ℕ, ◌+◌, ◌<◌, ◌≤◌, List, [], ◌∷◌, length, get_or, drop, Option, None, Some, refl, sym, subst, inl, inr}
use Rattle.std.proofs.lemmas.List.{drop_more, drop_all}
use Rattle.dbus_texts.specs.Types.{NumberCode, BYTE, BOOLEAN, INT16, UINT16, INT32, UINT32, INT64, UINT64, DOUBLE, UNIX_FD}
use Rattle.dbus_value_model.specs.FdIndexes.{IsIndexBelow, AreIndexesBelow, AreAllBelow}
use Rattle.dbus_value_model.specs.FirstPast.{IsFirstPast}
use Rattle.dbus_value_model.specs.Values.{ValueTree, ValueTrees, NumberValue, TextValue, VariantValue, ArrayValue, StructValue, EntryValue, NoValues, MoreValues}
use Rattle.dbus_value_model.specs.ValueViews.{value_tree, value_trees_of, byte_values}
use Rattle.dbus_value_model.specs.declared.value.Value.{Value}

-- ---- where no number is given, any index stands

any_number : (k : NumberCode) (n : ℕ) → IsIndexBelow None k n
any_number BYTE n = tt
any_number BOOLEAN n = tt
any_number INT16 n = tt
any_number UINT16 n = tt
any_number INT32 n = tt
any_number UINT32 n = tt
any_number INT64 n = tt
any_number UINT64 n = tt
any_number DOUBLE n = tt
any_number UNIX_FD n = tt

mutual
  pub any_below : (v : ValueTree) → AreIndexesBelow None v
  any_below (NumberValue k n) = any_number k n
  any_below (TextValue k t) = tt
  any_below (VariantValue x) = any_below x
  any_below (ArrayValue t xs) = any_all_below xs
  any_below (StructValue xs) = any_all_below xs
  any_below (EntryValue k v) = (any_below k, any_below v)

  pub any_all_below : (vs : ValueTrees) → AreAllBelow None vs
  any_all_below NoValues = tt
  any_all_below (MoreValues v vs) = (any_below v, any_all_below vs)

-- ---- no value is the first where all are below

pub none_past : (fds : Option ℕ) (n : ℕ) (vs : ValueTrees) → AreAllBelow fds vs → IsFirstPast fds n vs None
none_past fds n NoValues h = refl
none_past fds n (MoreValues v vs) h = inr (h.0, none_past fds (n + 1) vs h.1)

pub all_below : (fds : Option ℕ) (n : ℕ) (vs : ValueTrees) → IsFirstPast fds n vs None → AreAllBelow fds vs
all_below fds n NoValues h = tt
all_below fds n (MoreValues v vs) h = elim h [
  | inl w ↦ absurd (cc (w.1))
  | inr w ↦ (w.0, all_below fds (n + 1) vs w.1)
]

-- ---- along a list of values

pub bytes_below : (fds : Option ℕ) (bs : List ℕ) → AreAllBelow fds (byte_values bs)
bytes_below fds [] = tt
bytes_below fds (b ∷ bs) = (tt, bytes_below fds bs)

module _ {A : Type 0} (fds : Option ℕ) (vs : List (Value A)) (i : ℕ) (d : Value A) (n : ℕ) where
  pub past_here : i < length vs → d ≡ get_or vs i d → (AreIndexesBelow fds (value_tree d) → ⊥) → IsFirstPast fds n (value_trees_of (drop i vs)) (Some n)
  past_here l is h = subst (λ us. IsFirstPast fds n (value_trees_of us) (Some n)) (sym (drop_more vs i d l)) (inl (λ k. h (subst (λ x. AreIndexesBelow fds (value_tree x)) (sym is) k), refl))

  pub past_later : (r : Option ℕ) → i < length vs → d ≡ get_or vs i d → AreIndexesBelow fds (value_tree d) → IsFirstPast fds (n + 1) (value_trees_of (drop (i + 1) vs)) r → IsFirstPast fds n (value_trees_of (drop i vs)) r
  past_later r l is h w = subst (λ us. IsFirstPast fds n (value_trees_of us) r) (sym (drop_more vs i d l)) (inr (subst (λ x. AreIndexesBelow fds (value_tree x)) is h, w))

pub past_end : {A : Type 0} (fds : Option ℕ) (vs : List (Value A)) (i n : ℕ) → length vs ≤ i → IsFirstPast fds n (value_trees_of (drop i vs)) None
past_end fds vs i n l = subst (λ us. IsFirstPast fds n (value_trees_of us) None) (sym (drop_all i vs l)) refl
