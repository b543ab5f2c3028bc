-- Values that are taken one after another, by their types.
use Rattle.std.proofs.Common.{◌≡◌, ℕ, List, refl, sym, ap, subst, ◌∙◌}
use Rattle.std.specs.Prelude.{Option, None, Some, MatchOption, is_some, true, false}
use Rattle.dbus_texts.specs.Types.{TypeTree, TypeTrees, NoTypes, MoreTypes, StructType}
use Rattle.dbus_value_model.specs.Values.{ValueTree, ValueTrees, StructValue, NoValues, MoreValues, type_of, types_of}
use Rattle.dbus_values.specs.States.{ValuesState, AreLeft}
use Rattle.dbus_values.specs.Seen.{IsFirst, IsFirstCode}
use Rattle.dbus_typed.specs.Next.{IsNext, IsOfAnother}

pub none_next : (type : TypeTree) (xs : ValueTrees) → xs ≡ NoValues → IsOfAnother type xs
none_next type xs none x us is typed = let e : NoValues ≡ MoreValues x us = sym none ∙ is in cc

pub next_typed : {A : Type 0} (type : TypeTree) (tree : A → ValueTree) (r : Option A) (x : ValueTree) (xs us : ValueTrees) (rest : List ℕ) (left : ValuesState)
    → xs ≡ MoreValues x us → AreLeft left us rest → MatchOption r (type_of x ≡ type → ⊥) (λ y. x ≡ tree y) → MatchOption r (IsOfAnother type xs) (λ y. IsNext (tree y) xs rest left)
next_typed type tree None x xs us rest left is l m = λ y vs e typed.
    let both : MoreValues x us ≡ MoreValues y vs = sym is ∙ e in
    let same : x ≡ y = cc in
    m (ap type_of same ∙ typed)
next_typed type tree (Some y) x xs us rest left is l m = (us, is ∙ ap (λ (z : ValueTree). MoreValues z us) m, l)

-- values of other types, the first of which is of another type
pub another_types : (t : TypeTree) (ts : TypeTrees) (xs : ValueTrees) → IsOfAnother t xs → types_of xs ≡ MoreTypes t ts → ⊥
another_types t ts NoValues h e = cc
another_types t ts (MoreValues x us) h e = let same : type_of x ≡ t = cc in h x us refl same

-- the types of the others
pub other_types : {x : ValueTree} {t : TypeTree} {ts : TypeTrees} {xs us : ValueTrees} → xs ≡ MoreValues x us → types_of xs ≡ MoreTypes t ts → types_of us ≡ ts
other_types {x} {t} {ts} {xs} {us} is e =
    let both : MoreTypes (type_of x) (types_of us) ≡ MoreTypes t ts = sym (ap types_of is) ∙ e in
    cc

-- no values have no types
pub some_left : (xs : ValueTrees) → (xs ≡ NoValues → ⊥) → types_of xs ≡ NoTypes → ⊥
some_left NoValues h e = h refl
some_left (MoreValues x us) h e = cc

-- whether a value is left, by the code of its type
pub some_code : (r : Option ℕ) (xs : ValueTrees) → is_some r ≡ true → MatchOption r (xs ≡ NoValues) (λ code. IsFirstCode xs code) → xs ≡ NoValues → ⊥
some_code None xs some m none = absurd cc
some_code (Some code) xs some m none = let e : NoValues ≡ MoreValues m.0 m.1 = sym none ∙ m.2 in cc

pub no_code : (r : Option ℕ) (xs : ValueTrees) → is_some r ≡ false → MatchOption r (xs ≡ NoValues) (λ code. IsFirstCode xs code) → xs ≡ NoValues
no_code None xs none m = m
no_code (Some code) xs none m = absurd cc

-- a struct, by its fields
pub struct_typed : {A : Type 0} (ts : TypeTrees) (trees : A → ValueTrees) (r : Option A) (v : ValueTree) (xs : ValueTrees) → v ≡ StructValue xs
    → MatchOption r (types_of xs ≡ ts → ⊥) (λ x. xs ≡ trees x) → MatchOption r (type_of v ≡ StructType ts → ⊥) (λ x. v ≡ StructValue (trees x))
struct_typed ts trees None v xs is m = λ typed.
    let both : StructType (types_of xs) ≡ StructType ts = sym (ap type_of is) ∙ typed in
    let same : types_of xs ≡ ts = cc in
    m same
struct_typed ts trees (Some x) v xs is m = is ∙ ap StructValue m

-- what is made of the values that were taken is of all values if none is left
pub ended : {A : Type 0} (r : Option A) (made : A) (ts : TypeTrees) (trees : A → ValueTrees) (xs us : ValueTrees) → (types_of xs ≡ ts → types_of us ≡ NoTypes) → (us ≡ NoValues → xs ≡ trees made)
    → MatchOption r (us ≡ NoValues → ⊥) (λ x. (x ≡ made) × (us ≡ NoValues)) → MatchOption r (types_of xs ≡ ts → ⊥) (λ x. xs ≡ trees x)
ended None made ts trees xs us typed is m = λ e. some_left us m (typed e)
ended (Some x) made ts trees xs us typed is m = is m.1 ∙ sym (ap trees m.0)
