-- The calls that are kept of one caller, and the lines of those that are known.
use Rattle.std.proofs.Common.{◌≡◌, ℕ, List, [], ◌∷◌, Bool, true, false, Option, None, Some, option_map, cond, map, refl, ap, ◌∙◌, sym, subst, arith}
use Rattle.std.specs.BTreeMap.{is_at}
use Rattle.std.specs.List.{All, Contains, IsDistinct}
use Rattle.std.specs.List.Sorted.{IsStrictlySortedBy}
use Rattle.std.specs.Map.{keys_of, lookup, values_of}
use Rattle.std.specs.Ordering.{eq_by_cmp, nat_cmp}
use Rattle.std.proofs.lemmas.List.Elements.{All-contains}
use Rattle.std.proofs.lemmas.Map.Keys.{IsDistinct-from_sorted}
use Rattle.dbus_calls.specs.Kept.{call_at, entries_of}
use Rattle.dbus_calls.specs.declared.caller_calls.CallerCalls.{CallerCalls}
use Rattle.dbus_calls.specs.Pairing.{run}
use Rattle.dbus_calls.specs.Waiting.{Waiting, no_calls}
use Rattle.dbus_calls.proofs.Passes.{keeps_open}
use Rattle.dbus_call_lines.specs.Keeping.{EndedCall, GainsSorted, KeptCall, Texts, ended_kept, ended_rows, kept, kept_of}
use Rattle.dbus_call_lines.specs.Listing.{AreThose, Numbered, message_of, row}
use Rattle.dbus_call_lines.specs.Outcomes.{Outcome}
use Rattle.dbus_call_lines.specs.declared.waiting_call.WaitingCall.{WaitingCall}
use Rattle.dbus_call_lines.specs.declared.wanted.Wanted.{Wanted}
use Rattle.dbus_call_lines.proofs.Rows.{all_from, here, there}
use Rattle.dbus_call_lines.proofs.Sorting.{AreKnown, Behind, Known, KnownAt, same, distinct_values, found, sorted_those, values_known}
use Rattle.dbus_call_lines.proofs.Steps.{AreKept, IsKept, ended_of}

module _ (texts : Texts) (wanted : Wanted) where
  none_some : (x : KeptCall) → ◌≡◌ {A = Option KeptCall} None (Some x) → ⊥
  none_some x is = grind arith

  one_kept : (x y : KeptCall) → ◌≡◌ {A = Option KeptCall} (Some x) (Some y) → x ≡ y
  one_kept x y is = cc

  pub call_behind : (call : WaitingCall) (p : Option Numbered) → IsKept texts wanted (Some call) p → (n : Numbered) × (p ≡ Some n) × (kept call ≡ kept_of texts wanted n)
  call_behind call None is = absurd (none_some (kept call) (sym is))
  call_behind call (Some n) is = (n, refl, one_kept (kept call) (kept_of texts wanted n) is)

  pub call_kept : (o : Option WaitingCall) (n : Numbered) → IsKept texts wanted o (Some n) → (call : WaitingCall) × (o ≡ Some call) × (kept call ≡ kept_of texts wanted n)
  call_kept None n is = absurd (none_some (kept_of texts wanted n) is)
  call_kept (Some call) n is = (call, refl, one_kept (kept call) (kept_of texts wanted n) is)

no_value : (c : WaitingCall) → ◌≡◌ {A = Option WaitingCall} None (Some c) → ⊥
no_value c is = grind arith

one_value : (v c : WaitingCall) → ◌≡◌ {A = Option WaitingCall} (Some v) (Some c) → v ≡ c
one_value v c is = cc

value_at : (b : Bool) (v call : WaitingCall) (rest : Option WaitingCall) (vs : List WaitingCall) → cond b (Some v) rest ≡ Some call → (rest ≡ Some call → Contains vs call) → Contains (v ∷ vs) call
value_at true v call rest vs is later = subst (λ (z : WaitingCall). Contains (v ∷ vs) z) (one_value v call is) (here v vs)
value_at false v call rest vs is later = there v vs call (later is)

pub value_in : (test : ℕ → Bool) (es : List (ℕ × WaitingCall)) (call : WaitingCall) → lookup test es ≡ Some call → Contains (values_of es) call
value_in test [] call is = absurd (no_value call is)
value_in test (e ∷ es) call is = value_at (test e.0) e.1 call (lookup test es) (values_of es) is (value_in test es call)

key_same : (j k : ℕ) → j ≡ k → eq_by_cmp nat_cmp j k ≡ true
key_same j k is = grind arith

-- Of what waits of a caller, each call is known, and no two are the same.
module _ (texts : Texts) (wanted : Wanted) (before : List Numbered) (Is : Numbered → Type 0) (one : (a b : Numbered) → Is a → Is b → a.place.number ≡ b.place.number → a ≡ b) (name : List ℕ) (calls : CallerCalls WaitingCall)
    (ordered : IsStrictlySortedBy nat_cmp (keys_of (entries_of calls))) (gets : All (λ e. call_at calls e.0 ≡ Some e.1) (entries_of calls)) (u : Waiting WaitingCall) (are : AreKept texts wanted u (run message_of no_calls before))
    (closed : (s : ℕ) → call_at calls s ≡ u name s) (by_key : (s : ℕ) (n : Numbered) → run message_of no_calls before name s ≡ Some n → Is n) where
  abbrev w : Waiting Numbered
  w = run message_of no_calls before

  abbrev Key : ℕ → Numbered → Type 0
  Key s n = w name s ≡ Some n

  keys : (j k : ℕ) (n : Numbered) → Key j n → Key k n → eq_by_cmp nat_cmp j k ≡ true
  keys j k n p q = key_same j k (((keeps_open message_of before name j n).0 p).2 ∙ sym ((keeps_open message_of before name k n).0 q).2)

  known_at : (e : ℕ × WaitingCall) → call_at calls e.0 ≡ Some e.1 → KnownAt texts wanted Is one (eq_by_cmp nat_cmp) Key keys e
  known_at e got =
      let b = call_behind texts wanted e.1 (w name e.0) (ap (option_map kept) (sym got ∙ closed e.0) ∙ are name e.0) in
      (b.0, by_key e.0 b.0 b.1, b.2, b.1)

  known : AreKnown texts wanted Is one (eq_by_cmp nat_cmp) Key keys (entries_of calls)
  known = all_from (KnownAt texts wanted Is one (eq_by_cmp nat_cmp) Key keys) (entries_of calls) (λ e h. known_at e (All-contains (λ e. call_at calls e.0 ≡ Some e.1) (entries_of calls) e gets h))

  pub apart_of : IsDistinct same (values_of (entries_of calls))
  apart_of = distinct_values texts wanted Is one (eq_by_cmp nat_cmp) Key keys (entries_of calls) (IsDistinct-from_sorted nat_cmp (keys_of (entries_of calls)) ordered) known

  pub each_of : (call : WaitingCall) → Contains (values_of (entries_of calls)) call → Known texts wanted Is call
  each_of = values_known texts wanted Is one (eq_by_cmp nat_cmp) Key keys (entries_of calls) known

  pub all_of : (s : ℕ) (n : Numbered) → w name s ≡ Some n → (call : WaitingCall) × Contains (values_of (entries_of calls)) call × (kept call ≡ kept_of texts wanted n)
  all_of s n at =
      let k = call_kept texts wanted (u name s) n (are name s ∙ ap (option_map (kept_of texts wanted)) at) in
      (k.0, value_in (is_at (nat_cmp s)) (entries_of calls) k.0 (closed s ∙ k.1), k.2)

-- The lines of calls that are known, each of which is kept once.
module _ (texts : Texts) (wanted : Wanted) (Is : Numbered → Type 0) (one : (a b : Numbered) → Is a → Is b → a.place.number ≡ b.place.number → a ≡ b) (values : List WaitingCall) (apart : IsDistinct same values)
    (each : (call : WaitingCall) → Contains values call → Known texts wanted Is call) (all : (n : Numbered) → Is n → (call : WaitingCall) × Contains values call × (kept call ≡ kept_of texts wanted n))
    {S : Type 0} (gains : S → List EndedCall → S → Type 0) (outcome : Outcome) (old new : S) (h : GainsSorted gains wanted outcome values old new) where
  those_behind : Behind texts wanted Is h.sorted
  those_behind = found texts wanted Is one values h.sorted h.same h.rising apart each all

  pub gains_those : (calls : List Numbered) × AreThose Is calls × gains old (ended_rows texts wanted (map (row outcome) calls)) new
  unfolding those_behind
  gains_those = (
    those_behind.calls,
    sorted_those texts wanted Is one values h.sorted h.same h.rising apart each all,
    subst (λ (t : List EndedCall). gains old t new) (ap (ended_kept wanted outcome) (sym those_behind.alike) ∙ ended_of texts wanted outcome those_behind.calls) h.gains_calls,
  )
