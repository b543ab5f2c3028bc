-- The calls that are kept of some calls, in the order of their numbers, are those.
use Rattle.std.proofs.Common.{◌≡◌, ℕ, ◌+◌, suc, nat_eq, List, [], ◌∷◌, Bool, true, false, Less, map, refl, ap, ◌∙◌, sym, subst, arith, ⊎_elim}
use Rattle.std.specs.Cmp.{nat_cmp_total}
use Rattle.std.specs.List.{AllByRecursion, Contains, IsDistinct, slice_index_or}
use Rattle.std.specs.List.Sorted.{IsPermutation, IsSortedBy, IsStrictlySortedBy}
use Rattle.std.specs.Map.{keys_of, values_of}
use Rattle.std.specs.Ordering.{is_lt, nat_cmp}
use Rattle.std.proofs.lemmas.List.Sorted.{Contains-permutation, IsPermutation-sym, ranks_by, sorted_far}
use Rattle.std.proofs.lemmas.Bool.Decides.{nat_tests}
use Rattle.std.proofs.lemmas.Map.Keys.{IsDistinct-IsPermutation}
use Rattle.dbus_call_lines.specs.Keeping.{KeptCall, Texts, kept, kept_of}
use Rattle.dbus_call_lines.specs.Listing.{AreRising, AreThose, Numbered}
use Rattle.dbus_call_lines.specs.declared.wanted.Wanted.{Wanted}
use Rattle.dbus_call_lines.specs.declared.waiting_call.WaitingCall.{WaitingCall}
use Rattle.dbus_call_lines.proofs.Rows.{all_from, either, here, none_in, there}

abbrev pub number : WaitingCall → ℕ
number w = (kept w).place.number

abbrev pub same : WaitingCall → WaitingCall → Bool
same a b = nat_eq (number a) (number b)

abbrev pub later : WaitingCall → WaitingCall → Bool
later a b = is_lt (nat_cmp (number a) (number b))

less : (a b : ℕ) → is_lt (nat_cmp b a) ≡ false → nat_eq a b ≡ false → nat_cmp a b ≡ Less
less a b up apart = grind arith

flips : (a b : WaitingCall) → same a b ≡ same b a
flips a b = grind arith

tail_sorted : (w : WaitingCall) (ws : List WaitingCall) → IsSortedBy later (w ∷ ws) → IsSortedBy later ws
tail_sorted w ws up = λ k d low below. sorted_far later (ranks_by nat_cmp_total number) (w ∷ ws) up (suc k) (suc (k + 1)) d (omega arith) (omega (arith, below))

above : (w : WaitingCall) (ws : List WaitingCall) → IsSortedBy later (w ∷ ws) → (v : WaitingCall) → Contains ws v → later v w ≡ false
above w ws up v h =
    let far : later (slice_index_or (w ∷ ws) (suc h.0) v) w ≡ false = sorted_far later (ranks_by nat_cmp_total number) (w ∷ ws) up 0 (suc h.0) v (omega arith) (omega (arith, h.1)) in
    subst (λ (z : WaitingCall). later z w ≡ false) h.2 far

all_apart : (w : WaitingCall) (ws : List WaitingCall) (v : WaitingCall) → AllByRecursion (λ y. same w y ≡ false) ws → Contains ws v → same w v ≡ false
all_apart w [] v all h = absurd (none_in v h)
all_apart w (y ∷ ys) v all h = ⊎_elim (λ is. subst (λ (z : WaitingCall). same w z ≡ false) is all.0) (λ rest. all_apart w ys v all.1 rest) (either y ys v h)

-- in the order of their numbers, of which no two are the same
pub strict : (ws : List WaitingCall) → IsSortedBy later ws → IsDistinct same ws → IsStrictlySortedBy (λ a b. nat_cmp (number a) (number b)) ws
unfolding IsDistinct IsStrictlySortedBy
strict [] up apart = tt
strict (w ∷ ws) up apart = (
  all_from (λ y. nat_cmp (number w) (number y) ≡ Less) ws (λ v h. less (number w) (number v) (above w ws up v h) (all_apart w ws v apart.0 h)),
  strict ws (tail_sorted w ws up) apart.1,
)

module _ (texts : Texts) (wanted : Wanted) (Is : Numbered → Type 0) where
  -- the calls of which these are kept
  pub record Behind (ws : List WaitingCall) : Type 0 where
    pub calls : List Numbered
    pub alike : map (kept_of texts wanted) calls ≡ map kept ws
    pub are : (n : Numbered) → Contains calls n → Is n
    pub each : (w : WaitingCall) → Contains ws w → (n : Numbered) × Contains calls n × (kept w ≡ kept_of texts wanted n)

  abbrev pub Known : WaitingCall → Type 0
  Known w = (n : Numbered) × Is n × (kept w ≡ kept_of texts wanted n)

  pub behind : (ws : List WaitingCall) → ((w : WaitingCall) → Contains ws w → Known w) → Behind ws
  behind [] known = record { calls = []; alike = refl; are = λ n h. absurd (none_in n h); each = λ w h. absurd (none_in w h) }
  behind (w ∷ ws) known =
      let first = known w (here w ws) in
      let rest : Behind ws = behind ws (λ v h. known v (there w ws v h)) in
      record {
        calls = first.0 ∷ rest.calls;
        alike = λ i. sym first.2 i ∷ rest.alike i;
        are = λ n h. ⊎_elim (λ is. subst Is is first.1) (λ more. rest.are n more) (either first.0 rest.calls n h);
        each = λ v h. ⊎_elim
            (λ is. (first.0, here first.0 rest.calls, subst (λ (z : WaitingCall). kept z ≡ kept_of texts wanted first.0) is first.2))
            (λ more. let e = rest.each v more in (e.0, there first.0 rest.calls e.0 e.1, e.2)) (either w ws v h);
      }

  numbers_above : (w : WaitingCall) (ws : List WaitingCall) (n : Numbered) (ns : List Numbered) → kept_of texts wanted n ≡ kept w → map (kept_of texts wanted) ns ≡ map kept ws
      → AllByRecursion (λ (y : WaitingCall). nat_cmp (number w) (number y) ≡ Less) ws → AllByRecursion (λ (y : Numbered). nat_cmp n.place.number y.place.number ≡ Less) ns
  numbers_above w [] n [] is alike all = tt
  numbers_above w [] n (m ∷ ms) is alike all = absurd (no_cons (kept_of texts wanted m) (map (kept_of texts wanted) ms) alike)
    where
      no_cons : (k : KeptCall) (ks : List KeptCall) → k ∷ ks ≡ [] → ⊥
      no_cons k ks is = cc
  numbers_above w (v ∷ vs) n [] is alike all = tt
  numbers_above w (v ∷ vs) n (m ∷ ms) is alike all =
      let heads : kept_of texts wanted m ≡ kept v = cc in
      let tails : map (kept_of texts wanted) ms ≡ map kept vs = cc in
      (ap (λ a. nat_cmp a m.place.number) (ap (λ k. k.place.number) is) ∙ (ap (λ a. nat_cmp (number w) a) (ap (λ k. k.place.number) heads) ∙ all.0), numbers_above w vs n ms is tails all.1)

  numbers_rise : (ws : List WaitingCall) (ns : List Numbered) → map (kept_of texts wanted) ns ≡ map kept ws → IsStrictlySortedBy (λ (a b : WaitingCall). nat_cmp (number a) (number b)) ws → AreRising ns
  unfolding IsStrictlySortedBy
  numbers_rise ws [] alike up = tt
  numbers_rise [] (n ∷ ns) alike up = absurd (no_cons (kept_of texts wanted n) (map (kept_of texts wanted) ns) alike)
    where
      no_cons : (k : KeptCall) (ks : List KeptCall) → k ∷ ks ≡ [] → ⊥
      no_cons k ks is = cc
  numbers_rise (w ∷ ws) (n ∷ ns) alike up =
      let heads : kept_of texts wanted n ≡ kept w = cc in
      let tails : map (kept_of texts wanted) ns ≡ map kept ws = cc in
      (numbers_above w ws n ns heads tails up.0, numbers_rise ws ns tails up.1)

  -- kept, each once, and sorted: these are all
  module _ (one : (a b : Numbered) → Is a → Is b → a.place.number ≡ b.place.number → a ≡ b) (values sorted : List WaitingCall) (moved : IsPermutation values sorted) (up : IsSortedBy later sorted)
      (apart : IsDistinct same values) (known : (w : WaitingCall) → Contains values w → Known w) (all : (n : Numbered) → Is n → (w : WaitingCall) × Contains values w × (kept w ≡ kept_of texts wanted n)) where
    pub found : Behind sorted
    found = behind sorted (λ w h. known w (Contains-permutation sorted values w (IsPermutation-sym values sorted moved) h))

    pub sorted_those : AreThose Is found.calls
    sorted_those = record {
      all = λ n. (
        λ h. found.are n h,
        λ is.
            let w = all n is in
            let m = found.each w.0 (Contains-permutation values sorted w.0 moved w.1) in
            subst (λ (z : Numbered). Contains found.calls z) (one m.0 n (found.are m.0 m.1) is (ap (λ k. k.place.number) (sym m.2 ∙ w.2))) m.1,
      );
      rising = numbers_rise sorted found.calls found.alike (strict sorted up (IsDistinct-IsPermutation same flips values sorted moved apart));
    }

pub none_same : (b : Bool) → (b ≡ true → ⊥) → b ≡ false
none_same true never = absurd (never refl)
none_same false never = refl

pub no_both : (b : Bool) → b ≡ true → b ≡ false → ⊥
no_both b p q = grind arith

pub same_numbers : (a b : ℕ) → nat_eq a b ≡ true → a ≡ b
same_numbers a b is = grind (arith, nat_tests)

-- ---- the calls of a map, of which each has its own key

module _ (texts : Texts) (wanted : Wanted) (Is : Numbered → Type 0) (one : (a b : Numbered) → Is a → Is b → a.place.number ≡ b.place.number → a ≡ b) {K : Type 0} (eq : K → K → Bool) (Key : K → Numbered → Type 0)
    (keys : (j k : K) (n : Numbered) → Key j n → Key k n → eq j k ≡ true) where
  abbrev pub KnownAt : K × WaitingCall → Type 0
  KnownAt e = (n : Numbered) × Is n × (kept e.1 ≡ kept_of texts wanted n) × Key e.0 n

  abbrev pub AreKnown : List (K × WaitingCall) → Type 0
  AreKnown es = AllByRecursion KnownAt es

  apart_values : (e : K × WaitingCall) → KnownAt e → (es : List (K × WaitingCall)) → AllByRecursion (λ y. eq e.0 y ≡ false) (keys_of es) → AreKnown es → AllByRecursion (λ v. same e.1 v ≡ false) (values_of es)
  apart_values e h [] all known = tt
  apart_values e h (f ∷ fs) all known = (
    none_same (same e.1 f.1) (λ alike.
        let number : h.0.place.number ≡ known.0.0.place.number = sym (ap (λ k. k.place.number) h.2) ∙ (same_numbers (number e.1) (number f.1) alike ∙ ap (λ k. k.place.number) known.0.2) in
        let call : h.0 ≡ known.0.0 = one h.0 known.0.0 h.1 known.0.1 number in
        no_both (eq e.0 f.0) (keys e.0 f.0 known.0.0 (subst (λ (n : Numbered). Key e.0 n) call h.3) known.0.3) all.0),
    apart_values e h fs all.1 known.1,
  )

  pub distinct_values : (es : List (K × WaitingCall)) → IsDistinct eq (keys_of es) → AreKnown es → IsDistinct same (values_of es)
  unfolding IsDistinct
  distinct_values [] apart known = tt
  distinct_values (e ∷ es) apart known = (apart_values e known.0 es apart.0 known.1, distinct_values es apart.1 known.1)

  pub values_known : (es : List (K × WaitingCall)) → AreKnown es → (w : WaitingCall) → Contains (values_of es) w → Known texts wanted Is w
  values_known [] known w h = absurd (none_in w h)
  values_known (e ∷ es) known w h = ⊎_elim
      (λ is. (known.0.0, known.0.1, subst (λ (z : WaitingCall). kept z ≡ kept_of texts wanted known.0.0) is known.0.2))
      (λ rest. values_known es known.1 w rest) (either e.1 (values_of es) w h)
