-- The owners of names as a set, and as groups of texts.
use denote.Ref.{Bor}
use Rattle.std.proofs.Common.{◌≡◌, ℕ, Bool, true, false, not, cond, ◌&&◌, ◌||◌, List, [], ◌∷◌, ◌++◌, map, Option, None, Some, Equal, Less, Ordering, inl, inr, ⊎_elim, refl, sym, ap, ◌∙◌, subst, string_bytes}
use Rattle.std.specs.Prelude.{◌↔◌, String}
use Rattle.std.specs.BTreeMap.{BTreeMap, IsOrdered, is_at}
use Rattle.std.specs.BTreeSet.{BTreeSet, contains_text}
use Rattle.std.specs.Cmp.{IsTotalOrder, tied_then}
use Rattle.std.specs.Cmp.Lexicographic.{slice_cmp}
use Rattle.std.specs.FinMap.{IsAntisymmetric}
use Rattle.std.specs.FinSet.{contains, contains-items, contains-from_list, contains-insert, contains-remove, contains-retain, from_list, from_list_push, insert, same_set}
use Rattle.std.specs.List.{AllByRecursion, flat_map, list_any}
use Rattle.std.specs.List.Sorted.{IsStrictlySortedBy}
use Rattle.std.specs.Map.{keys_of, lookup}
use Rattle.std.specs.Option.{option_copied, option_map_or}
use Rattle.std.specs.Ordering.{eq_by_cmp, is_eq, nat_cmp}
use Rattle.std.specs.Str.{bytes_eq}
use Rattle.std.specs.String.{string_cmp}
use Rattle.std.specs.declared.alloc.Global.{Global}
use Rattle.std.proofs.lemmas.Bool.{and_from, and_parts, cond-false, false≢true, or_cases, or_left, or_right}
use Rattle.std.proofs.lemmas.Cmp.{nat_list_cmp_total, on_total, then_total}
use Rattle.std.proofs.lemmas.List.Folds.{list_any-append}
use Rattle.std.proofs.lemmas.Map.Keys.{sorted_head, sorted_tail}
use Rattle.std.proofs.lemmas.Map.Text.{is_eq-slice_cmp}
use Rattle.std.proofs.lemmas.Slice.Eq.{bytes_eq-Decides}
use Rattle.dbus_match.specs.Matching.{IsOwned, Ownership}
use Rattle.dbus_rule_set.proofs.GroupedTexts.{flip}
use Rattle.dbus_rule_set.specs.Groups.{Groups, has, owned, owners_by}
use Rattle.dbus_rule_set.specs.Owners.{OwnerSet, owned_anew, owner_cmp, owners_in, without_owner, without_owners, without_unique}

-- ---- the order

owner_total : IsTotalOrder owner_cmp
owner_total = then_total (on_total (λ o. o.name) nat_list_cmp_total) (on_total (λ o. o.unique) nat_list_cmp_total)

-- two are tied exactly if both names are the same
tied : (o p : Ownership) → eq_by_cmp owner_cmp o p ≡ (bytes_eq o.name p.name && bytes_eq o.unique p.unique)
tied o p = sym (tied_then (slice_cmp nat_cmp o.name p.name) (slice_cmp nat_cmp o.unique p.unique)) ∙ (λ i. is_eq-slice_cmp o.name p.name i && is_eq-slice_cmp o.unique p.unique i)

owner_same : IsAntisymmetric owner_cmp
owner_same o p e =
    let both = and_parts (bytes_eq o.name p.name) (bytes_eq o.unique p.unique) (sym (tied o p) ∙ ap is_eq e) in
    λ i. record { name = (bytes_eq-Decides o.name p.name).0 both.0 i; unique = (bytes_eq-Decides o.unique p.unique).0 both.1 i }

abbrev pub pair : (name unique : List ℕ) → Ownership
pair name unique = record { name = name; unique = unique }

-- ---- the set of groups

abbrev Entry : Type 0
Entry = String Global × BTreeSet (String Global)

abbrev at : List ℕ → String Global → Bool
at w k = is_eq (slice_cmp nat_cmp w (string_bytes k))

among_owned : (e : Entry) (n u : List ℕ) (us : List (String Global)) → list_any (eq_by_cmp owner_cmp (pair n u)) (map (λ k. pair (string_bytes e.0) (string_bytes k)) us) ≡ (at n e.0 && list_any (at u) us)
among_owned e n u [] = nothing (at n e.0)
  where
    nothing : (b : Bool) → false ≡ (b && false)
    nothing true = refl
    nothing false = refl
among_owned e n u (k ∷ us) =
    (λ i. sym (tied_then (slice_cmp nat_cmp n (string_bytes e.0)) (slice_cmp nat_cmp u (string_bytes k))) i || among_owned e n u us i)
    ∙ both (at n e.0) (at u k) (list_any (at u) us)
  where
    both : (b c d : Bool) → (b && c || b && d) ≡ (b && (c || d))
    both true c d = refl
    both false c d = refl

abbrev at_text : List ℕ → List Entry → Option (BTreeSet (String Global))
at_text n es = lookup (is_at (λ k. slice_cmp nat_cmp n (string_bytes k))) es

abbrev has_in : List Entry → List ℕ → List ℕ → Bool
has_in es n u = option_map_or (λ group. contains_text group u) (at_text n es) false

-- a name below all others stands among none of them
none_below : (k : String Global) (es : List Entry) → AllByRecursion (λ y. string_cmp k y ≡ Less) (keys_of es) → at_text (string_bytes k) es ≡ None
none_below k [] all = refl
none_below k (e ∷ es) all = cond-false _ _ _ (ap is_eq all.0) ∙ none_below k es all.1

among_all : (es : List Entry) → IsStrictlySortedBy string_cmp (keys_of es) → (n u : List ℕ) → list_any (eq_by_cmp owner_cmp (pair n u)) (flat_map owned es) ≡ has_in es n u
among_all [] sorted n u = refl
among_all (e ∷ es) sorted n u =
    let rest = among_all es (sorted_tail string_cmp e.0 (keys_of es) sorted) n u in
    let none = none_below e.0 es (sorted_head string_cmp e.0 (keys_of es) sorted) in
    let step : (b : Bool) → at n e.0 ≡ b → (b && contains_text e.1 u || has_in es n u) ≡ option_map_or (λ group. contains_text group u) (cond b (Some e.1) (at_text n es)) false =
    elim [
      | true ↦ λ is.
          let same : n ≡ string_bytes e.0 = (bytes_eq-Decides n (string_bytes e.0)).0 (sym (is_eq-slice_cmp n (string_bytes e.0)) ∙ is) in
          let no : has_in es n u ≡ false = ap (λ o. option_map_or (λ group. contains_text group u) o false) (ap (λ w. at_text w es) same ∙ none) in
          ap (λ b. contains_text e.1 u || b) no ∙ or_false (contains_text e.1 u)
      | false ↦ λ is. refl
    ] in
    list_any-append (eq_by_cmp owner_cmp (pair n u)) (owned e) (flat_map owned es) ∙ ((λ i. among_owned e n u e.1.keys i || rest i) ∙ step (at n e.0) refl)
  where
    or_false : (b : Bool) → (b || false) ≡ b
    or_false true = refl
    or_false false = refl

-- a name has an owner in the set exactly if it has it in the groups
pub held : (groups : Groups) → IsOrdered string_cmp groups → (n u : List ℕ) → contains (owners_by groups) (pair n u) ≡ has groups n u
held groups ordered n u = contains-from_list owner_total (flat_map owned groups.entries) (pair n u) ∙ among_all groups.entries ordered n u

-- ---- sets that are the same

-- the set has what the groups have
pub same_owners : (groups : Groups) → IsOrdered string_cmp groups → (s : OwnerSet) → ((n u : List ℕ) → has groups n u ≡ contains s (pair n u)) → owners_by groups ≡ s
same_owners groups ordered s is = same_set owner_total owner_same (owners_by groups) s (λ q. held groups ordered q.name q.unique ∙ is q.name q.unique)

pub contains_more : (s : OwnerSet) (name unique n u : List ℕ) → contains (insert s (pair name unique)) (pair n u) ≡ (bytes_eq name n && bytes_eq unique u || contains s (pair n u))
contains_more s name unique n u =
    contains-insert owner_total s (pair name unique) (pair n u) ∙ (λ i. (tied (pair n u) (pair name unique) ∙ (λ j. flip n name j && flip u unique j)) i || contains s (pair n u))

pub contains_lost : (s : OwnerSet) (name unique n u : List ℕ) → contains (without_owner name unique s) (pair n u) ≡ (not (bytes_eq name n && bytes_eq unique u) && contains s (pair n u))
contains_lost s name unique n u =
    contains-remove owner_total s (pair name unique) (pair n u) ∙ (λ i. not ((tied (pair n u) (pair name unique) ∙ (λ j. flip n name j && flip u unique j)) i) && contains s (pair n u))

pub contains_less : (s : OwnerSet) (name n u : List ℕ) → contains (without_owners name s) (pair n u) ≡ (contains s (pair n u) && not (bytes_eq name n))
contains_less s name n u = contains-retain s (λ o. not (bytes_eq name o.name)) (pair n u) (λ x e. ap (λ o. not (bytes_eq name o.name)) (sym (owner_same (pair n u) x e)))

pub contains_left : (s : OwnerSet) (unique n u : List ℕ) → contains (without_unique unique s) (pair n u) ≡ (contains s (pair n u) && not (bytes_eq unique u))
contains_left s unique n u = contains-retain s (λ o. not (bytes_eq unique o.unique)) (pair n u) (λ x e. ap (λ o. not (bytes_eq unique o.unique)) (sym (owner_same (pair n u) x e)))

pub contains_anew : (s : OwnerSet) (name unique n u : List ℕ) → bytes_eq unique [] ≡ false → contains (owned_anew name unique s) (pair n u) ≡ cond (bytes_eq name n) (bytes_eq unique u) (contains s (pair n u))
contains_anew s name unique n u some =
    ap (λ (t : OwnerSet). contains t (pair n u)) (cond-false (bytes_eq unique []) (without_owners name s) (insert (without_owners name s) (pair name unique)) some)
    ∙ (contains_more (without_owners name s) name unique n u
    ∙ (ap (λ b. bytes_eq name n && bytes_eq unique u || b) (contains_less s name n u) ∙ this_or (bytes_eq name n) (bytes_eq unique u) (contains s (pair n u))))
  where
    this_or : (b q f : Bool) → (b && q || (f && not b)) ≡ cond b q f
    this_or true true f = refl
    this_or true false true = refl
    this_or true false false = refl
    this_or false q true = refl
    this_or false q false = refl

-- ---- as a list

-- a list with one owner more
pub more_owners : (os : List Ownership) (o : Ownership) → from_list {R = owner_cmp} (os ++ o ∷ []) ≡ insert (from_list os) o
more_owners os o = from_list_push owner_total owner_same os o

owned_any : (os : List Ownership) (v w : List ℕ) → IsOwned os v w ↔ (list_any (eq_by_cmp owner_cmp (pair v w)) os ≡ true)
owned_any [] v w = (λ h. absurd h, λ t. absurd (false≢true t))
owned_any (o ∷ os) v w =
    let rest = owned_any os v w in
    let is = tied (pair v w) o in (
      λ h. ⊎_elim
          (λ e. or_left _ _ (is ∙ and_from _ _ ((bytes_eq-Decides v o.name).1 (sym e.0)) ((bytes_eq-Decides w o.unique).1 (sym e.1))))
          (λ k. or_right _ _ (rest.0 k))
          h,
      λ t. ⊎_elim
          (λ a. let both = and_parts _ _ (sym is ∙ a) in inl (sym ((bytes_eq-Decides v o.name).0 both.0), sym ((bytes_eq-Decides w o.unique).0 both.1)))
          (λ b. inr (rest.1 b))
          (or_cases (eq_by_cmp owner_cmp (pair v w) o) (list_any (eq_by_cmp owner_cmp (pair v w)) os) t),
    )

-- a name has an owner in the list exactly if it has it in the set
pub owned_in : (s : OwnerSet) (v w : List ℕ) → IsOwned (owners_in s) v w ↔ (contains s (pair v w) ≡ true)
owned_in s v w = subst (λ b. IsOwned (owners_in s) v w ↔ (b ≡ true)) (sym (contains-items s (pair v w))) (owned_any (owners_in s) v w)

-- a text is among those of a reference exactly if it is among those of its value
pub found : (o : Option (Bor (BTreeSet (String Global)))) (name : List ℕ) → option_map_or (λ names. contains_text names.now name) o false ≡ option_map_or (λ names. contains_text names name) (option_copied o) false
found None name = refl
found (Some names) name = refl
