-- What a list of calls writes of a message.
use Rattle.std.proofs.Common.{◌≡◌, ◌↔◌, ℕ, List, [], ◌∷◌, ◌++◌, Bool, true, false, ◌||◌, ◌==◌, Option, None, Some, option_map, if◌then◌else◌, ⊎_elim, map, refl, ap, ◌∙◌, sym, subst, arith, append-nil}
use Rattle.std.specs.List.{Contains}
use Rattle.std.specs.List.Sorted.{IsStrictlySortedBy}
use Rattle.std.specs.Ordering.{nat_cmp}
use Rattle.dbus_message_model.specs.declared.message_type.TheConstants as message
use Rattle.dbus_calls.specs.Events.{Event, caller_of, departed, event_of, replied_to, reply_serial_of, sender_of, wants_reply}
use Rattle.dbus_calls.specs.Events.Event.{Calls, Replies}
use Rattle.dbus_calls.specs.OwnerChanges.{change_of}
use Rattle.dbus_calls.specs.Kept.{waiting}
use Rattle.dbus_calls.specs.Pairing.{run, stepped}
use Rattle.dbus_calls.specs.Waiting.{Waiting, no_calls}
use Rattle.dbus_call_lines.specs.Keeping.{EndedCall, Keeps, Texts, as_list, ended_kept, ended_rows, kept}
use Rattle.dbus_call_lines.specs.Listing.{AreThose, IsEnded, IsTaken, ListsAfter, Numbered, Row, is_unwanted, message_of, own_row, row}
use Rattle.dbus_call_lines.specs.Outcomes.{Outcome, outcome_by}
use Rattle.dbus_call_lines.specs.Outcomes.Outcome.{Unwanted}
use Rattle.dbus_call_lines.specs.declared.call_list.CallList.{CallList}
use Rattle.dbus_call_lines.specs.declared.wanted.Wanted.{Wanted}
use Rattle.dbus_call_lines.specs.declared.waiting_call.WaitingCall.{WaitingCall}
use Rattle.dbus_call_lines.proofs.Rows.{either, here, none_in}
use Rattle.dbus_call_lines.proofs.Steps.{AreKept, IsKept, kept_by, ended_of, list_kept, run_push, to}
use Rattle.dbus_call_lines.proofs.Stray.{NextStray, knows_next}
use Rattle.dbus_call_lines.proofs.Taken.{takes_ended}

-- ---- events

-- a call that wants no reply is one
unwanted_event : (x : Numbered) → is_unwanted x ≡ true → event_of x.message ≡ Calls (caller_of x.message) x.message.serial false
unwanted_event x is =
    let kind : (x.message.kind == message.METHOD_CALL) ≡ true = grind arith in
    let none : wants_reply x.message ≡ false = grind arith in
    ap (λ b. if b then Calls (caller_of x.message) x.message.serial (wants_reply x.message) else if (x.message.kind == message.METHOD_RETURN) || (x.message.kind == message.ERROR) then Replies (replied_to x.message) (reply_serial_of x.message) (sender_of x.message) else departed (change_of x.message)) kind
    ∙ ap (λ w. Calls (caller_of x.message) x.message.serial w) none

abbrev pub WantsNone : Event → Bool
WantsNone (Calls c s false) = true
WantsNone e = false

none_own : (b : Bool) → (b ≡ true → ⊥) → b ≡ false
none_own true never = absurd (never refl)
none_own false never = refl

false_true : false ≡ true → ⊥
false_true is = cc

pub not_unwanted : (x : Numbered) (e : Event) → e ≡ event_of x.message → WantsNone e ≡ false → is_unwanted x ≡ false
not_unwanted x e is none = none_own (is_unwanted x) (λ un. false_true (sym none ∙ ap WantsNone (is ∙ unwanted_event x un)))

-- ---- one call

module _ (before : List Numbered) (x : Numbered) (e : Event) (is : e ≡ event_of x.message) where
  abbrev w : Waiting Numbered
  w = run message_of no_calls before

  in_list : (p : Option Numbered) (call : Numbered) → Contains (as_list p) call → p ≡ Some call
  in_list None call h = absurd (none_in call h)
  in_list (Some c) call h = ⊎_elim (λ same. ap Some same) (λ none. absurd (none_in call none)) (either c [] call h)

  to_list : (p : Option Numbered) (call : Numbered) → p ≡ Some call → Contains (as_list p) call
  to_list p call same = subst (λ (q : Option Numbered). Contains (as_list q) call) (sym same) (here call [])

  one_rises : (p : Option Numbered) → IsStrictlySortedBy (λ a b. nat_cmp a.place.number b.place.number) (as_list p)
  unfolding IsStrictlySortedBy
  one_rises None = tt
  one_rises (Some c) = (tt, tt)

  pub those : (p : Option Numbered) → ((call : Numbered) → IsTaken w e call ↔ (p ≡ Some call)) → AreThose (IsEnded before x) (as_list p)
  those p takes = record {
    all = λ call. (
      λ h. (takes_ended before x call).1 (subst (λ (f : Event). IsTaken w f call) is ((takes call).1 (in_list p call h))),
      λ h. to_list p call ((takes call).0 (subst (λ (f : Event). IsTaken w f call) (sym is) ((takes_ended before x call).0 h))),
    );
    rising = one_rises p;
  }

  -- its line, if the message has none of its own
  pub lists_one : (texts : Texts) (wanted : Wanted) {S : Type 0} (gains : S → List EndedCall → S → Type 0) (old new : S) (outcome : Outcome) (o : Option WaitingCall) (p : Option Numbered) → IsKept texts wanted o p
      → ((call : Numbered) → IsTaken w e call ↔ (p ≡ Some call)) → outcome ≡ outcome_by x.place x.message → WantsNone e ≡ false → gains old (ended_kept wanted outcome (as_list (option_map kept o))) new
      → (rows : List Row) × ListsAfter before x rows × gains old (ended_rows texts wanted rows) new
  lists_one texts wanted {S} gains old new outcome o p same takes by none g =
      let own : own_row before x ≡ [] = ap (λ b. if b then row Unwanted x ∷ [] else []) (not_unwanted x e is none) in
      let rows : List Row = map (row outcome) (as_list p) in
      let text : ended_kept wanted outcome (as_list (option_map kept o)) ≡ ended_rows texts wanted rows
      = ap (λ k. ended_kept wanted outcome (as_list k)) same ∙ (ap (ended_kept wanted outcome) (list_kept texts wanted p) ∙ ended_of texts wanted outcome (as_list p)) in (
        rows,
        record {
          calls = as_list p;
          calls_are = those p takes;
          rows_are = ap (λ (y : Outcome). map (row y) (as_list p)) by ∙ (sym (append-nil (map (row (outcome_by x.place x.message)) (as_list p))) ∙ ap (λ l. map (row (outcome_by x.place x.message)) (as_list p) ++ l) (sym own));
        },
        subst (λ (t : List EndedCall). gains old t new) text g,
      )

  -- what is kept then
  pub keeps_next : (texts : Texts) (wanted : Wanted) (list list' : CallList) → Keeps texts wanted before list → list'.wanted ≡ list.wanted → NextStray before x list.stray list'.stray → (u : Waiting WaitingCall)
      → ((c : List ℕ) (s : ℕ) → waiting list'.open c s ≡ u c s) → AreKept texts wanted u (stepped to w e x) → Keeps texts wanted (before ++ x ∷ []) list'
  unfolding Keeps
  keeps_next texts wanted list list' keeps same next u are kept_then = (
    same ∙ keeps.0,
    kept_by texts wanted u (waiting list'.open) (stepped to w e x) (run message_of no_calls (before ++ x ∷ [])) are kept_then (run_push no_calls before x ∙ ap (λ f. stepped to w f x) (sym is)),
    knows_next before x list.stray list'.stray keeps.2 next,
  )

  pub are_kept : (texts : Texts) (wanted : Wanted) (list : CallList) → Keeps texts wanted before list → AreKept texts wanted (waiting list.open) w
  unfolding Keeps
  are_kept texts wanted list keeps = keeps.1
