-- Of messages whose numbers rise something is listed.
use Rattle.std.proofs.Common.{◌≡◌, ℕ, nat_eq, List, [], ◌∷◌, ◌++◌, Bool, true, false, ◌&&◌, ◌⊎◌, inl, inr, ⊎_elim, Option, None, Some, Less, cond, map, refl, ap, ◌∙◌, subst, sym, arith, append_assoc}
use Rattle.std.specs.List.{AllByRecursion, Contains, filter}
use Rattle.std.specs.List.Sorted.{IsStrictlySortedBy}
use Rattle.std.specs.Ordering.{nat_cmp}
use Rattle.std.proofs.lemmas.List.Kept.{IsStrictlySortedBy-filter}
use Rattle.dbus_calls.specs.Events.{caller_of}
use Rattle.dbus_calls.specs.Pairing.{IsOpen, ends, run}
use Rattle.dbus_calls.specs.Waiting.{no_calls}
use Rattle.dbus_calls.proofs.Passes.{keeps_open}
use Rattle.dbus_call_lines.specs.Listing.{AreListed, AreRising, AreThose, IsEnded, ListsAfter, ListsOpen, Numbered, Row, SomeList, message_of, own_row, row}
use Rattle.dbus_call_lines.specs.Outcomes.{outcome_by}
use Rattle.dbus_call_lines.specs.Outcomes.Outcome.{Open}
use Rattle.dbus_call_lines.proofs.Rows.{either, here, none_in, one_number, open_among, there}

-- ---- what passes a test

false_true : false ≡ true → ⊥
false_true is = cc

module _ {A : Type 0} (p : A → Bool) where
  kept_or_later : (b : Bool) (y : A) (ys : List A) (x : A) → p y ≡ b → Contains (cond b (y ∷ ys) ys) x → ((y ≡ x) × (p x ≡ true)) ⊎ Contains ys x
  kept_or_later true y ys x is h = ⊎_elim (λ same. inl (same, subst (λ (z : A). p z ≡ true) same is)) (λ more. inr more) (either y ys x h)
  kept_or_later false y ys x is h = inr h

  among : (xs : List A) (x : A) → Contains (filter p xs) x → Contains xs x × (p x ≡ true)
  among [] x h = absurd (none_in x h)
  among (y ∷ ys) x h = ⊎_elim
      (λ first. (subst (λ (z : A). Contains (y ∷ ys) z) first.0 (here y ys), first.1))
      (λ later. let more = among ys x later in (there y ys x more.0, more.1)) (kept_or_later (p y) y (filter p ys) x refl h)

  keeps : (b : Bool) (y : A) (ys : List A) (x : A) → (y ≡ x → b ≡ true) → (y ≡ x) ⊎ Contains ys x → Contains (cond b (y ∷ ys) ys) x
  keeps true y ys x first h = ⊎_elim (λ is. subst (λ (z : A). Contains (y ∷ ys) z) is (here y ys)) (λ later. there y ys x later) h
  keeps false y ys x first h = ⊎_elim (λ is. absurd (false_true (first is))) (λ later. later) h

  kept_among : (xs : List A) (x : A) → Contains xs x → p x ≡ true → Contains (filter p xs) x
  kept_among [] x h is = absurd (none_in x h)
  kept_among (y ∷ ys) x h is = keeps (p y) y (filter p ys) x (λ same. ap p same ∙ is)
      (⊎_elim (λ same. inl same) (λ later. inr (kept_among ys x later is)) (either y ys x h))

both : (a b : Bool) → (a && b) ≡ true → (a ≡ true) × (b ≡ true)
both a b is = (grind arith, grind arith)

from_both : (a b : Bool) → a ≡ true → b ≡ true → (a && b) ≡ true
from_both a b p q = grind arith

-- ---- those before others rise

all_front : (x : Numbered) (xs ys : List Numbered) → AllByRecursion (λ y. nat_cmp x.place.number y.place.number ≡ Less) (xs ++ ys) → AllByRecursion (λ y. nat_cmp x.place.number y.place.number ≡ Less) xs
all_front x [] ys all = tt
all_front x (z ∷ zs) ys all = (all.0, all_front x zs ys all.1)

pub front_rises : (xs ys : List Numbered) → AreRising (xs ++ ys) → AreRising xs
unfolding IsStrictlySortedBy
front_rises [] ys up = tt
front_rises (x ∷ xs) ys up = (all_front x xs ys up.0, front_rises xs ys up.1)

-- ---- calls

number_own : (n : ℕ) → nat_eq n n ≡ true
number_own n = grind arith

module _ (before : List Numbered) (rising : AreRising before) where
  abbrev WasOpen : Numbered → Type 0
  WasOpen y = IsOpen message_of before y

  abbrev at : Numbered → Option Numbered
  at y = run message_of no_calls before (caller_of y.message) y.message.serial

  -- it is the call that waits
  abbrev is_this : Option Numbered → Numbered → Bool
  is_this None y = false
  is_this (Some z) y = nat_eq z.place.number y.place.number

  abbrev waits : Numbered → Bool
  waits y = is_this (at y) y

  this_open : (o : Option Numbered) (y : Numbered) → at y ≡ o → Contains before y → is_this o y ≡ true → WasOpen y
  this_open None y is h this = absurd (false_true this)
  this_open (Some z) y is h this =
      let was = ((keeps_open message_of before (caller_of y.message) y.message.serial z).0 is).0 in
      subst WasOpen (one_number before rising z y (open_among before z was) h this) was

  open_this : (y : Numbered) → WasOpen y → waits y ≡ true
  open_this y was = ap (λ o. is_this o y) ((keeps_open message_of before (caller_of y.message) y.message.serial y).1 (was, refl, refl)) ∙ number_own y.place.number

  -- those that are open, and have a property that a test decides
  those_of : (Is : Numbered → Type 0) (test : Numbered → Bool) → ((y : Numbered) → WasOpen y → test y ≡ true → Is y) → ((y : Numbered) → Is y → WasOpen y × (test y ≡ true))
      → AreThose Is (filter (λ y. waits y && test y) before)
  those_of Is test into back = record {
    all = λ y. (
      λ h.
          let a = among (λ y. waits y && test y) before y h in
          let b = both (waits y) (test y) a.1 in
          into y (this_open (at y) y refl a.0 b.0) b.1,
      λ is.
          let o = back y is in
          kept_among (λ y. waits y && test y) before y (open_among before y o.0) (from_both (waits y) (test y) (open_this y o.0) o.1),
    );
    rising = IsStrictlySortedBy-filter (λ a b. nat_cmp a.place.number b.place.number) (λ y. waits y && test y) before rising;
  }

  pub some_after : (x : Numbered) → (rows : List Row) × ListsAfter before x rows
  some_after x =
      let calls : List Numbered = filter (λ y. waits y && ends y.message x.message) before in (
        map (row (outcome_by x.place x.message)) calls ++ own_row before x,
        record { calls = calls; calls_are = those_of (IsEnded before x) (λ y. ends y.message x.message) (λ y was is. (was, is)) (λ y is. is); rows_are = refl },
      )

  pub some_open : (rows : List Row) × ListsOpen before rows
  some_open =
      let calls : List Numbered = filter (λ y. waits y && true) before in
      (map (row Open) calls, record { calls = calls; calls_are = those_of WasOpen (λ y. true) (λ y was is. was) (λ y is. (is, refl)); rows_are = refl })

some_rows : (before xs : List Numbered) → AreRising (before ++ xs) → (rows : List Row) × AreListed before xs rows
some_rows before [] rising = some_open before (front_rises before [] rising)
some_rows before (x ∷ xs) rising =
    let here = some_after before (front_rises before (x ∷ xs) rising) x in
    let later = some_rows (before ++ x ∷ []) xs (subst AreRising (sym (append_assoc before (x ∷ []) xs)) rising) in
    (here.0 ++ later.0, (here.0, later.0, here.1, later.1, refl))

pub some_list : SomeList
some_list xs rising = some_rows [] xs rising
