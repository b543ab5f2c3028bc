-- Each call is listed once.
use Rattle.std.proofs.Common.{◌≡◌, ℕ, ◌<◌, nat_eq, List, [], ◌∷◌, ◌++◌, Bool, true, false, ◌||◌, ◌==◌, if◌then◌else◌, ◌⊎◌, inl, inr, ⊎_elim, Option, None, Some, Less, map, refl, ap, ◌∙◌, subst, sym, arith, append_assoc}
use Rattle.std.specs.List.{AllByRecursion, Contains, IsDistinct}
use Rattle.std.specs.List.Sorted.{IsStrictlySortedBy}
use Rattle.std.specs.Ordering.{nat_cmp}
use Rattle.std.proofs.lemmas.Cmp.{ranked}
use Rattle.std.proofs.lemmas.List.Elements.{Contains-append_cases, Contains-append_left, Contains-append_right, Contains-push, Contains-push_cases}
use Rattle.dbus_message_model.specs.Messages.{MessageTree}
use Rattle.dbus_message_model.specs.declared.message_type.TheConstants as message
use Rattle.dbus_calls.specs.Answering.{is_unique}
use Rattle.dbus_calls.specs.Events.{Event, caller_of, departed, replied_to, reply_serial_of, sender_of, wants_reply}
use Rattle.dbus_calls.specs.Events.Event.{Calls, Replies, Leaves, Passes}
use Rattle.dbus_calls.specs.OwnerChanges.{Change, change_of}
use Rattle.dbus_calls.specs.OwnerChanges.Change.{Owned, Free, Lost}
use Rattle.dbus_calls.specs.Pairing.{IsOpen, Waits, ends}
use Rattle.dbus_call_lines.specs.Listing.{AreListed, AreRising, AreThose, IsEnded, ListsAfter, Numbered, OneLineEach, OneList, Row, calls_of, is_call, is_unwanted, message_of, own_row, row, same_number}
use Rattle.dbus_call_lines.specs.Outcomes.{Outcome, outcome_by}
use Rattle.dbus_call_lines.specs.Outcomes.Outcome.{Unwanted, Open}

-- ---- lists

module _ {A : Type 0} where
  pub none_in : (x : A) → Contains [] x → ⊥
  none_in x h = omega (arith, h.1)

  pub here : (x : A) (xs : List A) → Contains (x ∷ xs) x
  here x xs = Contains-append_left (x ∷ []) xs x (Contains-push [] x)

  pub there : (y : A) (xs : List A) (x : A) → Contains xs x → Contains (y ∷ xs) x
  there y xs x h = Contains-append_right (y ∷ []) xs x h

  pub either : (y : A) (xs : List A) (x : A) → Contains (y ∷ xs) x → (y ≡ x) ⊎ Contains xs x
  either y xs x h = ⊎_elim (λ one. ⊎_elim (λ none. absurd (none_in x none)) (λ is. inl is) (Contains-push_cases [] y x one)) (λ later. inr later) (Contains-append_cases (y ∷ []) xs x h)

  pub all_at : (P : A → Type 0) (xs : List A) (x : A) → AllByRecursion P xs → Contains xs x → P x
  all_at P [] x all h = absurd (none_in x h)
  all_at P (y ∷ ys) x all h = ⊎_elim (λ is. subst P is all.0) (λ later. all_at P ys x all.1 later) (either y ys x h)

  pub all_from : (P : A → Type 0) (xs : List A) → ((x : A) → Contains xs x → P x) → AllByRecursion P xs
  all_from P [] each = tt
  all_from P (y ∷ ys) each = (each y (here y ys), all_from P ys (λ x h. each x (there y ys x h)))

  pub all_both : (P : A → Type 0) (xs ys : List A) → AllByRecursion P xs → AllByRecursion P ys → AllByRecursion P (xs ++ ys)
  all_both P [] ys p q = q
  all_both P (x ∷ xs) ys p q = (p.0, all_both P xs ys p.1 q)

  all_parts : (P : A → Type 0) (xs : List A) (x : A) → AllByRecursion P (xs ++ x ∷ []) → AllByRecursion P xs × P x
  all_parts P [] x all = (tt, all.0)
  all_parts P (y ∷ ys) x all = let rest = all_parts P ys x all.1 in ((all.0, rest.0), rest.1)

  pub distinct_both : (e : A → A → Bool) (xs ys : List A) → IsDistinct e xs → IsDistinct e ys → ((a b : A) → Contains xs a → Contains ys b → e a b ≡ false) → IsDistinct e (xs ++ ys)
  unfolding IsDistinct
  distinct_both e [] ys p q apart = q
  distinct_both e (x ∷ xs) ys p q apart = (
    all_both (λ y. e x y ≡ false) xs ys p.0 (all_from (λ y. e x y ≡ false) ys (λ b h. apart x b (here x xs) h)),
    distinct_both e xs ys p.1 q (λ a b h k. apart a b (there x xs a h) k),
  )

-- ---- numbers that rise

below : (a b : ℕ) → nat_cmp a b ≡ Less → nat_eq a b ≡ false
below a b is = let less : a < b = ranked a b Less (sym is) in grind arith

flipped : (a b : ℕ) → nat_eq a b ≡ false → nat_eq b a ≡ false
flipped a b is = grind arith

lower : (a b : Numbered) → nat_cmp a.place.number b.place.number ≡ Less → same_number a b ≡ false
lower a b is = below a.place.number b.place.number is

all_lower : (x : Numbered) (xs : List Numbered) → AllByRecursion (λ y. nat_cmp x.place.number y.place.number ≡ Less) xs → AllByRecursion (λ y. same_number x y ≡ false) xs
all_lower x [] all = tt
all_lower x (y ∷ ys) all = (lower x y all.0, all_lower x ys all.1)

rising_distinct : (xs : List Numbered) → AreRising xs → IsDistinct same_number xs
unfolding IsDistinct IsStrictlySortedBy
rising_distinct [] rising = tt
rising_distinct (x ∷ xs) rising = (all_lower x xs rising.0, rising_distinct xs rising.1)

rising_apart : (xs ys : List Numbered) → AreRising (xs ++ ys) → (a b : Numbered) → Contains xs a → Contains ys b → same_number a b ≡ false
unfolding IsStrictlySortedBy
rising_apart [] ys rising a b h k = absurd (none_in a h)
rising_apart (x ∷ xs) ys rising a b h k = ⊎_elim
    (λ is. subst (λ (z : Numbered). same_number z b ≡ false) is (lower x b (all_at (λ y. nat_cmp x.place.number y.place.number ≡ Less) (xs ++ ys) b rising.0 (Contains-append_right xs ys b k))))
    (λ later. rising_apart xs ys rising.1 a b later k) (either x xs a h)

-- of one number there is one
no_both : (b : Bool) → b ≡ true → b ≡ false → ⊥
no_both b p q = grind arith

pub one_number : (xs : List Numbered) → AreRising xs → (a b : Numbered) → Contains xs a → Contains xs b → same_number a b ≡ true → a ≡ b
unfolding IsStrictlySortedBy
one_number [] rising a b h k same = absurd (none_in a h)
one_number (x ∷ xs) rising a b h k same = ⊎_elim
    (λ (p : x ≡ a). ⊎_elim (λ (q : x ≡ b). sym p ∙ q)
    (λ later. absurd (no_both (same_number a b) same (subst (λ (z : Numbered). same_number z b ≡ false) p (lower x b (all_at (λ y. nat_cmp x.place.number y.place.number ≡ Less) xs b rising.0 later))))) (either x xs b k))
    (λ early. ⊎_elim (λ (q : x ≡ b). absurd (no_both (same_number a b) same (subst (λ (z : Numbered). same_number a z ≡ false) q (flipped x.place.number a.place.number (lower x a (all_at (λ y. nat_cmp x.place.number y.place.number ≡ Less) xs a rising.0 early))))))
    (λ later. one_number xs rising.1 a b early later same) (either x xs b k)) (either x xs a h)

-- ---- calls

module _ (c : List ℕ) (s : ℕ) (w : Bool) where
  none_gone : (b : Bool) (name : List ℕ) → (if b then Leaves name else Passes) ≡ Calls c s w → ⊥
  none_gone true name is = cc
  none_gone false name is = cc

  pub none_departed : (change : Option Change) → departed change ≡ Calls c s w → ⊥
  none_departed None is = cc
  none_departed (Some (Owned o)) is = cc
  none_departed (Some (Free name)) is = none_gone (is_unique name) name is
  none_departed (Some (Lost o)) is = cc

  pub first_kind : (b d : Bool) (caller to : List ℕ) (serial to_serial : ℕ) (wants : Bool) (sender : Option (List ℕ)) (rest : Event) → (rest ≡ Calls c s w → ⊥)
      → (if b then Calls caller serial wants else if d then Replies to to_serial sender else rest) ≡ Calls c s w → (b ≡ true) × (wants ≡ w)
  first_kind true d caller to serial to_serial wants sender rest never is = (refl, cc)
  first_kind false true caller to serial to_serial wants sender rest never is = cc
  first_kind false false caller to serial to_serial wants sender rest never is = absurd (never is)

abbrev pub is_reply : MessageTree → Bool
is_reply m = (m.kind == message.METHOD_RETURN) || (m.kind == message.ERROR)

waits_call : (m : MessageTree) → Waits m → ((m.kind == message.METHOD_CALL) ≡ true) × (wants_reply m ≡ true)
waits_call m is = first_kind (caller_of m) m.serial true (m.kind == message.METHOD_CALL) (is_reply m) (caller_of m) (replied_to m) m.serial
    (reply_serial_of m) (wants_reply m) (sender_of m) (departed (change_of m)) (none_departed (caller_of m) m.serial true (change_of m)) is

call_waits : (m : MessageTree) → (m.kind == message.METHOD_CALL) ≡ true → wants_reply m ≡ true → Waits m
call_waits m is wants =
    ap (λ b. if b then Calls (caller_of m) m.serial (wants_reply m) else if is_reply m then Replies (replied_to m) (reply_serial_of m) (sender_of m) else departed (change_of m)) is
    ∙ ap (λ w. Calls (caller_of m) m.serial w) wants

abbrev WasOpen : List Numbered → Numbered → Type 0
WasOpen before call = IsOpen message_of before call

abbrev Lasts : Numbered → Numbered → Type 0
Lasts call y = ends call.message y.message ≡ false

opened : (before : List Numbered) (x call : Numbered) → WasOpen (before ++ x ∷ []) call → (WasOpen before call × Lasts call x) ⊎ ((x ≡ call) × Waits call.message)
opened [] x call h = ⊎_elim (λ new. inr (new.0, new.1)) (λ none. absurd none) h
opened (y ∷ ys) x call h = ⊎_elim
    (λ first. let rest = all_parts (Lasts call) ys x first.2 in inl (inl (first.0, first.1, rest.0), rest.1))
    (λ later. ⊎_elim (λ old. inl (inr old.0, old.1)) (λ new. inr new) (opened ys x call later)) h

stays_open : (before : List Numbered) (x call : Numbered) → WasOpen before call → Lasts call x → WasOpen (before ++ x ∷ []) call
stays_open [] x call found lasts = absurd found
stays_open (y ∷ ys) x call found lasts = ⊎_elim
    (λ first. inl (first.0, first.1, all_both (Lasts call) ys (x ∷ []) first.2 (lasts, tt)))
    (λ later. inr (stays_open ys x call later lasts)) found

now_open : (before : List Numbered) (x : Numbered) → Waits x.message → WasOpen (before ++ x ∷ []) x
now_open [] x waits = inl (refl, waits, tt)
now_open (y ∷ ys) x waits = inr (now_open ys x waits)

pub open_among : (before : List Numbered) (call : Numbered) → WasOpen before call → Contains before call
open_among [] call found = absurd found
open_among (y ∷ ys) call found = ⊎_elim (λ first. subst (λ (z : Numbered). Contains (y ∷ ys) z) first.0 (here y ys)) (λ later. there y ys call (open_among ys call later)) found

-- ---- rows

same_calls : (outcome : Outcome) (calls : List Numbered) → calls_of (map (row outcome) calls) ≡ calls
same_calls outcome [] = refl
same_calls outcome (x ∷ xs) = ap (λ l. x ∷ l) (same_calls outcome xs)

calls_both : (a b : List Row) → calls_of (a ++ b) ≡ calls_of a ++ calls_of b
calls_both [] b = refl
calls_both (r ∷ a) b = ap (λ l. r.call ∷ l) (calls_both a b)

abbrev own_if : (b : Bool) → Numbered → List Row
own_if b x = if b then row Unwanted x ∷ [] else []

own_is : (b : Bool) (x call : Numbered) → Contains (calls_of (own_if b x)) call → (x ≡ call) × (b ≡ true)
own_is true x call h = (⊎_elim (λ is. is) (λ none. absurd (none_in call none)) (either x [] call h), refl)
own_is false x call h = absurd (none_in call h)

own_there : (b : Bool) (x : Numbered) → b ≡ true → Contains (calls_of (own_if b x)) x
own_there true x is = here x []
own_there false x is = absurd (no_both false is refl)

own_distinct : (b : Bool) (x : Numbered) → IsDistinct same_number (calls_of (own_if b x))
unfolding IsDistinct
own_distinct true x = (tt, tt)
own_distinct false x = tt

module _ (before : List Numbered) (x : Numbered) (now : List Row) (h : ListsAfter before x now) where
  calls_now : calls_of now ≡ h.calls ++ calls_of (own_row before x)
  calls_now = ap calls_of h.rows_are ∙ (calls_both (map (row (outcome_by x.place x.message)) h.calls) (own_row before x) ∙ ap (λ l. l ++ calls_of (own_row before x)) (same_calls (outcome_by x.place x.message) h.calls))

  from_now : (call : Numbered) → Contains (calls_of now) call → IsEnded before x call ⊎ ((x ≡ call) × (is_unwanted x ≡ true))
  from_now call k = ⊎_elim (λ ended. inl ((h.calls_are.all call).0 ended)) (λ own. inr (own_is (is_unwanted x) x call own))
      (Contains-append_cases h.calls (calls_of (own_row before x)) call (subst (λ l. Contains l call) calls_now k))

  ended_now : (call : Numbered) → IsEnded before x call → Contains (calls_of now) call
  ended_now call ended = subst (λ l. Contains l call) (sym calls_now) (Contains-append_left h.calls (calls_of (own_row before x)) call ((h.calls_are.all call).1 ended))

  own_now : is_unwanted x ≡ true → Contains (calls_of now) x
  own_now is = subst (λ l. Contains l x) (sym calls_now) (Contains-append_right h.calls (calls_of (own_row before x)) x (own_there (is_unwanted x) x is))

abbrev IsListed : (before xs : List Numbered) → Numbered → Type 0
IsListed before xs call = WasOpen before call ⊎ (Contains xs call × (is_call call ≡ true))

unwanted_call : (x : Numbered) → is_unwanted x ≡ true → (is_call x ≡ true) × (wants_reply x.message ≡ false)
unwanted_call x is = (grind arith, grind arith)

unwanted_from : (x : Numbered) → is_call x ≡ true → wants_reply x.message ≡ false → is_unwanted x ≡ true
unwanted_from x is wants = grind arith

from_rows : (before xs : List Numbered) (rows : List Row) → AreListed before xs rows → (call : Numbered) → Contains (calls_of rows) call → IsListed before xs call
from_rows before [] rows h call k = inl ((h.calls_are.all call).0 (subst (λ l. Contains l call) (ap calls_of h.rows_are ∙ same_calls Open h.calls) k))
from_rows before (x ∷ xs) rows h call k = ⊎_elim
    (λ now. ⊎_elim (λ ended. inl ended.0) (λ own. inr (subst (λ (z : Numbered). Contains (x ∷ xs) z × (is_call z ≡ true)) own.0 (here x xs, (unwanted_call x own.1).0))) (from_now before x h.0 h.2 call now))
    (λ later. ⊎_elim
    (λ open_after. ⊎_elim (λ old. inl old.0) (λ new. inr (subst (λ (z : Numbered). Contains (x ∷ xs) z) new.0 (here x xs), (waits_call call.message new.1).0)) (opened before x call open_after))
    (λ among. inr (there x xs call among.0, among.1)) (from_rows (before ++ x ∷ []) xs h.1 h.3 call later))
    (Contains-append_cases (calls_of h.0) (calls_of h.1) call (subst (λ l. Contains l call) (ap calls_of h.4 ∙ calls_both h.0 h.1) k))

module _ (before xs : List Numbered) (x : Numbered) (rows : List Row) (h : AreListed before (x ∷ xs) rows) where
  in_now : (call : Numbered) → Contains (calls_of h.0) call → Contains (calls_of rows) call
  in_now call k = subst (λ l. Contains l call) (sym (ap calls_of h.4 ∙ calls_both h.0 h.1)) (Contains-append_left (calls_of h.0) (calls_of h.1) call k)

  in_more : (call : Numbered) → Contains (calls_of h.1) call → Contains (calls_of rows) call
  in_more call k = subst (λ l. Contains l call) (sym (ap calls_of h.4 ∙ calls_both h.0 h.1)) (Contains-append_right (calls_of h.0) (calls_of h.1) call k)

  ended_or : (call : Numbered) → (IsListed (before ++ x ∷ []) xs call → Contains (calls_of rows) call) → (b : Bool) → ends call.message x.message ≡ b → WasOpen before call → Contains (calls_of rows) call
  ended_or call later true e was = in_now call (ended_now before x h.0 h.2 call (was, e))
  ended_or call later false e was = later (inl (stays_open before x call was e))

  itself : (IsListed (before ++ x ∷ []) xs x → Contains (calls_of rows) x) → is_call x ≡ true → (b : Bool) → wants_reply x.message ≡ b → Contains (calls_of rows) x
  itself later is true e = later (inl (now_open before x (call_waits x.message is e)))
  itself later is false e = in_now x (own_now before x h.0 h.2 (unwanted_from x is e))

to_rows : (before xs : List Numbered) (rows : List Row) → AreListed before xs rows → (call : Numbered) → IsListed before xs call → Contains (calls_of rows) call
to_rows before [] rows h call k = ⊎_elim
    (λ is. subst (λ l. Contains l call) (sym (ap calls_of h.rows_are ∙ same_calls Open h.calls)) ((h.calls_are.all call).1 is))
    (λ none. absurd (none_in call none.0)) k
to_rows before (x ∷ xs) rows h call k =
    let later : (z : Numbered) → IsListed (before ++ x ∷ []) xs z → Contains (calls_of rows) z = λ z p. in_more before xs x rows h z (to_rows (before ++ x ∷ []) xs h.1 h.3 z p) in
    ⊎_elim (λ was. ended_or before xs x rows h call (later call) (ends call.message x.message) refl was)
    (λ among. ⊎_elim
    (λ is. subst (λ (z : Numbered). Contains (calls_of rows) z) is (itself before xs x rows h (later x) (subst (λ (z : Numbered). is_call z ≡ true) (sym is) among.1) (wants_reply x.message) refl))
    (λ rest. later call (inr (rest, among.1))) (either x xs call among.0)) k

-- two calls that are listed have two numbers
or_false : (b : Bool) → (b ≡ true → ⊥) → b ≡ false
or_false true never = absurd (never refl)
or_false false never = refl

module _ (before xs : List Numbered) (x : Numbered) (rising : AreRising (before ++ x ∷ xs)) where
  all_rising : AreRising ((before ++ x ∷ []) ++ xs)
  all_rising = subst (λ (l : List Numbered). AreRising l) (sym (append_assoc before (x ∷ []) xs)) rising

  two_before : (a b : Numbered) → WasOpen before a → WasOpen before b → same_number a b ≡ true → a ≡ b
  two_before a b p q same = one_number (before ++ x ∷ xs) rising a b (Contains-append_left before (x ∷ xs) a (open_among before a p)) (Contains-append_left before (x ∷ xs) b (open_among before b q)) same

  from_before : (a : Numbered) → WasOpen before a → same_number a x ≡ false
  from_before a p = rising_apart before (x ∷ xs) rising a x (open_among before a p) (here x xs)

  from_after : (a b : Numbered) → Contains (before ++ x ∷ []) a → Contains xs b → same_number a b ≡ false
  from_after a b h k = rising_apart (before ++ x ∷ []) xs all_rising a b h k

  ended_apart : (a b : Numbered) → IsEnded before x a → IsListed (before ++ x ∷ []) xs b → same_number a b ≡ false
  ended_apart a b ended k = ⊎_elim
      (λ open_after. ⊎_elim
      (λ old. or_false (same_number a b) (λ same. no_both (ends a.message x.message) ended.1 (subst (λ (z : Numbered). ends z.message x.message ≡ false) (sym (two_before a b ended.0 old.0 same)) old.1)))
      (λ new. subst (λ (z : Numbered). same_number a z ≡ false) new.0 (from_before a ended.0)) (opened before x b open_after))
      (λ among. from_after a b (Contains-append_left before (x ∷ []) a (open_among before a ended.0)) among.0) k

  own_apart : (b : Numbered) → is_unwanted x ≡ true → IsListed (before ++ x ∷ []) xs b → same_number x b ≡ false
  own_apart b is k = ⊎_elim
      (λ open_after. ⊎_elim (λ old. flipped b.place.number x.place.number (from_before b old.0))
      (λ new. absurd (no_both (wants_reply x.message) (waits_call x.message (subst (λ (z : Numbered). Waits z.message) (sym new.0) new.1)).1 (unwanted_call x is).1)) (opened before x b open_after))
      (λ among. from_after x b (Contains-append_right before (x ∷ []) x (here x [])) among.0) k

  apart : (a b : Numbered) → IsEnded before x a ⊎ ((x ≡ a) × (is_unwanted x ≡ true)) → IsListed (before ++ x ∷ []) xs b → same_number a b ≡ false
  apart a b h k = ⊎_elim (λ ended. ended_apart a b ended k) (λ own. subst (λ (z : Numbered). same_number z b ≡ false) own.0 (own_apart b own.1 k)) h

  now_distinct : (now : List Row) → ListsAfter before x now → IsDistinct same_number (calls_of now)
  now_distinct now h = subst (λ (l : List Numbered). IsDistinct same_number l) (sym (calls_now before x now h))
      (distinct_both same_number h.calls (calls_of (own_row before x)) (rising_distinct h.calls h.calls_are.rising) (own_distinct (is_unwanted x) x)
      (λ a b ended own. subst (λ (z : Numbered). same_number a z ≡ false) (own_is (is_unwanted x) x b own).0 (from_before a ((h.calls_are.all a).0 ended).0)))

distinct : (before xs : List Numbered) (rows : List Row) → AreRising (before ++ xs) → AreListed before xs rows → IsDistinct same_number (calls_of rows)
distinct before [] rows rising h = subst (λ (l : List Numbered). IsDistinct same_number l) (sym (ap calls_of h.rows_are ∙ same_calls Open h.calls)) (rising_distinct h.calls h.calls_are.rising)
distinct before (x ∷ xs) rows rising h = subst (λ (l : List Numbered). IsDistinct same_number l) (sym (ap calls_of h.4 ∙ calls_both h.0 h.1))
    (distinct_both same_number (calls_of h.0) (calls_of h.1) (now_distinct before xs x rising h.0 h.2) (distinct (before ++ x ∷ []) xs h.1 (all_rising before xs x rising) h.3)
    (λ a b k later. apart before xs x rising a b (from_now before x h.0 h.2 a k) (from_rows (before ++ x ∷ []) xs h.1 h.3 b later)))

pub one_line_each : OneLineEach
one_line_each xs rows rising h = record {
  each = λ x. (λ k. ⊎_elim (λ none. absurd none) (λ is. is) (from_rows [] xs rows h x k), λ k. to_rows [] xs rows h x (inr k));
  once = distinct [] xs rows rising h;
}

-- ---- one list

never_both : (a b : ℕ) → nat_cmp a b ≡ Less → nat_cmp b a ≡ Less → ⊥
never_both a b p q =
    let less : a < b = ranked a b Less (sym p) in
    let more : b < a = ranked b a Less (sym q) in
    omega (arith, less, more)

abbrev AllAbove : Numbered → List Numbered → Type 0
AllAbove x xs = AllByRecursion (λ y. nat_cmp x.place.number y.place.number ≡ Less) xs

module _ (x y : Numbered) (xs ys : List Numbered) (above : AllAbove x xs) where
  first_is : AllAbove y ys → Contains (y ∷ ys) x → Contains (x ∷ xs) y → x ≡ y
  first_is others h k = ⊎_elim (λ is. sym is)
      (λ later. ⊎_elim (λ is. is)
      (λ also. absurd (never_both y.place.number x.place.number (all_at (λ z. nat_cmp y.place.number z.place.number ≡ Less) ys x others later) (all_at (λ z. nat_cmp x.place.number z.place.number ≡ Less) xs y above also))) (either x xs y k))
      (either y ys x h)

  others_in : x ≡ y → ((z : Numbered) → Contains (x ∷ xs) z → Contains (y ∷ ys) z) → (z : Numbered) → Contains xs z → Contains ys z
  others_in is into z k = ⊎_elim
      (λ (same : y ≡ z). let itself = subst (λ (w : Numbered). nat_cmp w.place.number z.place.number ≡ Less) (is ∙ same) (all_at (λ w. nat_cmp x.place.number w.place.number ≡ Less) xs z above k) in
      absurd (never_both z.place.number z.place.number itself itself))
      (λ later. later) (either y ys z (into z (there x xs z k)))

-- what rises and has the same is the same
same_rising : (xs ys : List Numbered) → AreRising xs → AreRising ys → ((z : Numbered) → Contains xs z → Contains ys z) → ((z : Numbered) → Contains ys z → Contains xs z) → xs ≡ ys
unfolding IsStrictlySortedBy
same_rising [] [] p q into back = refl
same_rising [] (y ∷ ys) p q into back = absurd (none_in y (back y (here y ys)))
same_rising (x ∷ xs) [] p q into back = absurd (none_in x (into x (here x xs)))
same_rising (x ∷ xs) (y ∷ ys) p q into back =
    let first : x ≡ y = first_is x y xs ys p.0 q.0 (into x (here x xs)) (back y (here y ys)) in
    let others : xs ≡ ys = same_rising xs ys p.1 q.1 (others_in x y xs ys p.0 first into) (others_in y x ys xs q.0 (sym first) back) in
    λ i. first i ∷ others i

same_those : (Is : Numbered → Type 0) (xs ys : List Numbered) → AreThose Is xs → AreThose Is ys → xs ≡ ys
same_those Is xs ys a b = same_rising xs ys a.rising b.rising (λ z h. (b.all z).1 ((a.all z).0 h)) (λ z h. (a.all z).1 ((b.all z).0 h))

same_rows : (before xs : List Numbered) (rows others : List Row) → AreListed before xs rows → AreListed before xs others → rows ≡ others
same_rows before [] rows others h k = h.rows_are ∙ (ap (map (row Open)) (same_those (WasOpen before) h.calls k.calls h.calls_are k.calls_are) ∙ sym k.rows_are)
same_rows before (x ∷ xs) rows others h k =
    let calls = same_those (IsEnded before x) h.2.calls k.2.calls h.2.calls_are k.2.calls_are in
    let now : h.0 ≡ k.0 = h.2.rows_are ∙ (ap (λ l. map (row (outcome_by x.place x.message)) l ++ own_row before x) calls ∙ sym k.2.rows_are) in
    let more : h.1 ≡ k.1 = same_rows (before ++ x ∷ []) xs h.1 k.1 h.3 k.3 in
    h.4 ∙ ((λ i. now i ++ more i) ∙ sym k.4)

pub one_list : OneList
one_list xs rows others h k = same_rows [] xs rows others h k
