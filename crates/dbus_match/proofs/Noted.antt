-- The first values of a body, noted one after another, and one of them found by its number.
use Rattle.std.proofs.Common.{◌≡◌, ℕ, zero, suc, ◌<◌, List, [], ◌∷◌, ◌++◌, length, get_or, Some, sym, subst, arith, append_assoc, append-nil, ◌&&◌, nat_eq, ap, string_bytes}
use Rattle.std.proofs.lemmas.Bool.Decides.{Decides-and}
use Rattle.std.specs.Bool.{Decides}
use Rattle.std.specs.Cmp.Lexicographic.{pointwise, bytes_decides}
use Rattle.dbus_value_model.specs.Values.{ValueTree, ValueTrees, NoValues, MoreValues}
use Rattle.dbus_message_model.specs.KnownFields.{body_value}
use Rattle.dbus_values.specs.States.{ValuesState, AreLeft}
use Rattle.dbus_match.specs.Arguments.{AreArguments, IsArgument}
use Rattle.dbus_match.specs.declared.argument.Argument.{Argument}
use Rattle.dbus_match.specs.declared.owner.Owner.{Owner}
use Rattle.dbus_match.specs.Matching.{ownership}

-- so many are noted, and the others are left
pub record AreSoFar (xs : ValueTrees) (noted : List Argument) (left : ValuesState) : Type 0 where
  pub us : ValueTrees
  pub stand : AreLeft left us []
  pub more : (ns : List Argument) → AreArguments ns us → AreArguments (noted ++ ns) xs

pub none_noted : (xs : ValueTrees) (noted : List Argument) (left : ValuesState) → noted ≡ [] → AreLeft left xs [] → AreSoFar xs noted left
none_noted xs noted left none stand = record {
  us = xs;
  stand = stand;
  more = λ ns are. subst (λ (bs : List Argument). AreArguments (bs ++ ns) xs) (sym none) are;
}

module _ (xs : ValueTrees) (noted : List Argument) (left : ValuesState) (so_far : AreSoFar xs noted left) where
  pub one_noted : (a : Argument) (x : ValueTree) (us : ValueTrees) (now : List Argument) (next : ValuesState)
      → so_far.us ≡ MoreValues x us → IsArgument a (Some x) → AreLeft next us [] → now ≡ noted ++ a ∷ [] → AreSoFar xs now next
  one_noted a x us now next first is stand pushed = record {
    us = us;
    stand = stand;
    more = λ ns are.
        let all = so_far.more (a ∷ ns) (subst (λ (u : ValueTrees). AreArguments (a ∷ ns) u) (sym first) (is, are)) in
        subst (λ (bs : List Argument). AreArguments (bs ++ ns) xs) (sym pushed) (subst (λ (bs : List Argument). AreArguments bs xs) (sym (append_assoc noted (a ∷ []) ns)) all);
  }

  pub all_noted : AreArguments noted xs
  all_noted = subst (λ (bs : List Argument). AreArguments bs xs) (append-nil noted) (so_far.more [] tt)

-- one of them
pub argument_there : (ns : List Argument) (xs : ValueTrees) (n : ℕ) (a : Argument) → n < length ns → AreArguments ns xs → IsArgument (get_or ns n a) (body_value n xs)
argument_there [] xs n a l are = absurd (omega (arith, l))
argument_there (b ∷ ns) NoValues n a l are = absurd are
argument_there (b ∷ ns) (MoreValues x xs) zero a l are = are.0
argument_there (b ∷ ns) (MoreValues x xs) (suc n) a l are = argument_there ns xs n a (omega (arith, l)) are.1

-- Owners are equal exactly if they have the same names.

pub owners_equal : {A : Type 0} (o p : Owner A)
    → Decides (pointwise nat_eq (string_bytes o.name) (string_bytes p.name) && pointwise nat_eq (string_bytes o.unique) (string_bytes p.unique)) (ownership o ≡ ownership p)
owners_equal o p =
    let names = bytes_decides (string_bytes o.name) (string_bytes p.name) in
    let uniques = bytes_decides (string_bytes o.unique) (string_bytes p.unique) in
    let both = Decides-and (pointwise nat_eq (string_bytes o.name) (string_bytes p.name)) (pointwise nat_eq (string_bytes o.unique) (string_bytes p.unique)) names uniques in
    (λ t. λ i. record { name = (both.0 t).0 i; unique = (both.0 t).1 i }, λ h. both.1 (ap (λ r. r.name) h, ap (λ r. r.unique) h))
