-- A list of calls is at its end: the calls that are kept of all callers.
use Rattle.std.specs.Prelude.{String}
use Rattle.std.proofs.Common.{◌≡◌, ℕ, nat_eq, List, [], ◌∷◌, ◌++◌, Bool, true, false, Option, None, Some, option_map, cond, Bor, string_bytes, map, refl, ap, ◌∙◌, sym, subst, arith, append_assoc, append-nil, ⊎_elim}
use Rattle.std.specs.BTreeMap.{BTreeMap, IsOrdered, get, get_by_text, is_at}
use Rattle.std.specs.List.{All, AllByRecursion, Contains, IsDistinct, flat_map}
use Rattle.std.specs.List.Sorted.{IsStrictlySortedBy}
use Rattle.std.specs.Map.{keys_of, lookup, values_of}
use Rattle.std.specs.Map.Iter.{deref_pair}
use Rattle.std.specs.Cmp.Lexicographic.{slice_cmp}
use Rattle.std.specs.Ordering.{eq_by_cmp, nat_cmp}
use Rattle.std.specs.String.{string_cmp}
use Rattle.std.specs.declared.alloc.Global.{Global}
use Rattle.std.proofs.lemmas.List.Elements.{All-contains, Contains-append_cases, Contains-append_left, Contains-append_right}
use Rattle.std.proofs.lemmas.Map.Keys.{IsDistinct-from_sorted}
use Rattle.std.proofs.lemmas.Map.Text.{is_eq-slice_cmp}
use Rattle.std.proofs.lemmas.Slice.Eq.{bytes_eq-Decides}
use Rattle.dbus_calls.specs.Events.{caller_of}
use Rattle.dbus_calls.specs.Kept.{call_at, call_in, entries_of, waiting}
use Rattle.dbus_calls.specs.declared.caller_calls.CallerCalls.{CallerCalls}
use Rattle.dbus_calls.specs.Pairing.{IsOpen, run}
use Rattle.dbus_calls.specs.Waiting.{Waiting, no_calls}
use Rattle.dbus_calls.proofs.Passes.{keeps_open}
use Rattle.dbus_call_lines.specs.Keeping.{EndedCall, GainsSorted, Keeps, Texts, ended_rows, kept, kept_of}
use Rattle.dbus_call_lines.specs.Listing.{AreRising, ListsOpen, Numbered, Row, message_of, row}
use Rattle.dbus_call_lines.specs.Outcomes.Outcome.{Open}
use Rattle.dbus_call_lines.specs.declared.call_list.CallList.{CallList}
use Rattle.dbus_call_lines.specs.declared.waiting_call.WaitingCall.{WaitingCall}
use Rattle.dbus_call_lines.specs.declared.wanted.Wanted.{Wanted}
use Rattle.dbus_call_lines.proofs.OfCaller.{apart_of, call_kept, each_of, value_in, gains_those}
use Rattle.dbus_call_lines.proofs.Rows.{all_at, all_from, distinct_both, none_in, one_number, open_among}
use Rattle.dbus_call_lines.proofs.Sorting.{Known, no_both, none_same, number, same, same_numbers}
use Rattle.dbus_call_lines.proofs.Steps.{AreKept}

abbrev pub Calls : Type 0
Calls = CallerCalls WaitingCall

abbrev pub Entry : Type 0
Entry = String Global × Calls

-- the calls of a caller are in order, and each is at its serial
abbrev pub IsMap : Entry → Type 0
IsMap e = IsStrictlySortedBy nat_cmp (keys_of (entries_of e.1)) × All (λ f. call_at e.1 f.0 ≡ Some f.1) (entries_of e.1)

-- the calls of all
abbrev pub values_in : List Entry → List WaitingCall
values_in es = flat_map (λ e. values_of (entries_of e.1)) es

-- ---- one caller more

values_push : (ys : List (Bor (String Global) × Bor Calls)) (y : Bor (String Global) × Bor Calls) → values_in (map deref_pair (ys ++ y ∷ [])) ≡ values_in (map deref_pair ys) ++ values_of (entries_of y.1.now)
values_push [] y = append-nil (values_of (entries_of y.1.now))
values_push (z ∷ ys) y = ap (λ (l : List WaitingCall). values_of (entries_of z.1.now) ++ l) (values_push ys y) ∙ sym (append_assoc (values_of (entries_of z.1.now)) (values_in (map deref_pair ys)) (values_of (entries_of y.1.now)))

pub collected_push : (rows old : List WaitingCall) (ys : List (Bor (String Global) × Bor Calls)) (y : Bor (String Global) × Bor Calls) → rows ≡ old ++ values_of (entries_of y.1.now) → old ≡ values_in (map deref_pair ys)
    → rows ≡ values_in (map deref_pair (ys ++ y ∷ []))
collected_push rows old ys y more is = more ∙ (ap (λ (l : List WaitingCall). l ++ values_of (entries_of y.1.now)) is ∙ sym (values_push ys y))

pub maps_push : (ys : List (Bor (String Global) × Bor Calls)) (y : Bor (String Global) × Bor Calls) → AllByRecursion IsMap (map deref_pair ys) → IsMap (deref_pair y) → AllByRecursion IsMap (map deref_pair (ys ++ y ∷ []))
maps_push [] y all is = (is, tt)
maps_push (z ∷ ys) y all is = (all.0, maps_push ys y all.1 is)

-- ---- the call of a caller and a serial

no_call : (call : WaitingCall) → ◌≡◌ {A = Option WaitingCall} None (Some call) → ⊥
no_call call is = grind arith

chosen_in : (b : Bool) (e : Entry) (s : ℕ) (call : WaitingCall) (rest : Option Calls) (more : List WaitingCall) → call_in (cond b (Some e.1) rest) s ≡ Some call → (call_in rest s ≡ Some call → Contains more call)
    → Contains (values_of (entries_of e.1) ++ more) call
chosen_in true e s call rest more is later = Contains-append_left (values_of (entries_of e.1)) more call (value_in (is_at (nat_cmp s)) (entries_of e.1) call is)
chosen_in false e s call rest more is later = Contains-append_right (values_of (entries_of e.1)) more call (later is)

call_among : (test : String Global → Bool) (es : List Entry) (s : ℕ) (call : WaitingCall) → call_in (lookup test es) s ≡ Some call → Contains (values_in es) call
call_among test [] s call is = absurd (no_call call is)
call_among test (e ∷ es) s call is = chosen_in (test e.0) e s call (lookup test es) (values_in es) is (call_among test es s call)

text_same : (a b : String Global) → string_bytes a ≡ string_bytes b → eq_by_cmp string_cmp a b ≡ true
text_same a b is = is_eq-slice_cmp (string_bytes a) (string_bytes b) ∙ grind (arith, bytes_eq-Decides (string_bytes a) (string_bytes b), is)

numbers_same : (a b : ℕ) → a ≡ b → nat_eq a b ≡ true
numbers_same a b is = grind arith

module _ (texts : Texts) (wanted : Wanted) (before : List Numbered) (rising : AreRising before) where
  abbrev w : Waiting Numbered
  w = run message_of no_calls before

  abbrev WasOpen : Numbered → Type 0
  WasOpen n = IsOpen message_of before n

  one : (a b : Numbered) → WasOpen a → WasOpen b → a.place.number ≡ b.place.number → a ≡ b
  one a b p q number = one_number before rising a b (open_among before a p) (open_among before b q) (numbers_same a.place.number b.place.number number)

  -- one of this caller
  abbrev IsOf : List ℕ → Numbered → Type 0
  IsOf name n = WasOpen n × (name ≡ caller_of n.message)

  abbrev KnownOf : List ℕ → WaitingCall → Type 0
  KnownOf name call = Known texts wanted (IsOf name) call

  -- a caller's calls are known, and no two are the same
  abbrev IsCaller : Entry → Type 0
  IsCaller e = IsDistinct same (values_of (entries_of e.1)) × ((call : WaitingCall) → Contains (values_of (entries_of e.1)) call → KnownOf (string_bytes e.0) call)

  both_known : (a b : String Global) (c d : WaitingCall) → KnownOf (string_bytes a) c → KnownOf (string_bytes b) d → eq_by_cmp string_cmp a b ≡ false → same c d ≡ false
  both_known a b c d h k apart = none_same (same c d) (λ alike.
      let number : h.0.place.number ≡ k.0.place.number = sym (ap (λ z. z.place.number) h.2) ∙ (same_numbers (number c) (number d) alike ∙ ap (λ z. z.place.number) k.2) in
      let call : h.0 ≡ k.0 = one h.0 k.0 h.1.0 k.1.0 number in
      no_both (eq_by_cmp string_cmp a b) (text_same a b (h.1.1 ∙ (ap (λ (n : Numbered). caller_of n.message) call ∙ sym k.1.1))) apart)

  apart_from : (e : Entry) (call : WaitingCall) → KnownOf (string_bytes e.0) call → (es : List Entry) → AllByRecursion (λ y. eq_by_cmp string_cmp e.0 y ≡ false) (keys_of es) → AllByRecursion IsCaller es
      → (other : WaitingCall) → Contains (values_in es) other → same call other ≡ false
  apart_from e call known [] apart callers other h = absurd (none_in other h)
  apart_from e call known (f ∷ fs) apart callers other h = ⊎_elim
      (λ here. both_known e.0 f.0 call other known (callers.0.1 other here) apart.0)
      (λ later. apart_from e call known fs apart.1 callers.1 other later) (Contains-append_cases (values_of (entries_of f.1)) (values_in fs) other h)

  all_apart : (es : List Entry) → IsDistinct (eq_by_cmp string_cmp) (keys_of es) → AllByRecursion IsCaller es → IsDistinct same (values_in es)
  unfolding IsDistinct
  all_apart [] apart callers = tt
  all_apart (e ∷ es) apart callers = distinct_both same (values_of (entries_of e.1)) (values_in es) callers.0.0 (all_apart es apart.1 callers.1)
      (λ a b h k. apart_from e a (callers.0.1 a h) es apart.0 callers.1 b k)

  all_known : (es : List Entry) → AllByRecursion IsCaller es → (call : WaitingCall) → Contains (values_in es) call → Known texts wanted WasOpen call
  all_known [] callers call h = absurd (none_in call h)
  all_known (e ∷ es) callers call h = ⊎_elim
      (λ here. let k = callers.0.1 call here in (k.0, k.1.0, k.2))
      (λ later. all_known es callers.1 call later) (Contains-append_cases (values_of (entries_of e.1)) (values_in es) call h)

  module _ (callers : BTreeMap (String Global) Calls) (ordered : IsOrdered string_cmp callers) (gets : All (λ e. get string_cmp callers e.0 ≡ Some e.1) callers.entries) (maps : AllByRecursion IsMap callers.entries)
      (u : Waiting WaitingCall) (are : AreKept texts wanted u w) (kept_are : (c : List ℕ) (s : ℕ) → call_in (get_by_text callers c) s ≡ u c s) where
    caller_at : (e : Entry) → get string_cmp callers e.0 ≡ Some e.1 → IsMap e → IsCaller e
    caller_at e got is =
        let name : List ℕ = string_bytes e.0 in
        let closed : (s : ℕ) → call_at e.1 s ≡ u name s = λ s. ap (λ (m : Option Calls). call_in m s) (sym got) ∙ kept_are name s in
        let by_key : (s : ℕ) (n : Numbered) → w name s ≡ Some n → IsOf name n = λ s n at. (let o = (keeps_open message_of before name s n).0 at in (o.0, o.1)) in
        let one_of : (a b : Numbered) → IsOf name a → IsOf name b → a.place.number ≡ b.place.number → a ≡ b = λ a b p q number. one a b p.0 q.0 number in
        (apart_of texts wanted before (IsOf name) one_of name e.1 is.0 is.1 u are closed by_key, each_of texts wanted before (IsOf name) one_of name e.1 is.0 is.1 u are closed by_key)

    callers_are : AllByRecursion IsCaller callers.entries
    callers_are = all_from IsCaller callers.entries (λ e h. caller_at e (All-contains (λ e. get string_cmp callers e.0 ≡ Some e.1) callers.entries e gets h) (all_at IsMap callers.entries e maps h))

    all_open : (n : Numbered) → WasOpen n → (call : WaitingCall) × Contains (values_in callers.entries) call × (kept call ≡ kept_of texts wanted n)
    all_open n is =
        let name : List ℕ = caller_of n.message in
        let serial : ℕ = n.message.serial in
        let at : w name serial ≡ Some n = (keeps_open message_of before name serial n).1 (is, refl, refl) in
        let k = call_kept texts wanted (u name serial) n (are name serial ∙ ap (option_map (kept_of texts wanted)) at) in
        (k.0, call_among (is_at (λ key. slice_cmp nat_cmp name (string_bytes key))) callers.entries serial k.0 (kept_are name serial ∙ k.1), k.2)

    module _ {S : Type 0} (gains : S → List EndedCall → S → Type 0) (old new : S) (h : GainsSorted gains wanted Open (values_in callers.entries) old new) where
      pub lists_open : (rows : List Row) × ListsOpen before rows × gains old (ended_rows texts wanted rows) new
      lists_open =
          let l = gains_those texts wanted WasOpen one (values_in callers.entries) (all_apart callers.entries (IsDistinct-from_sorted string_cmp (keys_of callers.entries) ordered) callers_are)
          (all_known callers.entries callers_are) all_open gains Open old new h in
          (map (row Open) l.0, record { calls = l.0; calls_are = l.1; rows_are = refl }, l.2)

-- by the form that the list keeps
pub by_form : (texts : Texts) (wanted : Wanted) (before : List Numbered) (list : CallList) (P : Wanted → Type 0) → Keeps texts wanted before list → (AreKept texts list.wanted (waiting list.open) (run message_of no_calls before) → P list.wanted) → P wanted
unfolding Keeps
by_form texts wanted before list P keeps f = subst P keeps.0 (f (λ c s. subst (λ (z : Wanted). option_map kept (waiting list.open c s) ≡ option_map (kept_of texts z) (run message_of no_calls before c s)) (sym keeps.0) (keeps.1 c s)))
