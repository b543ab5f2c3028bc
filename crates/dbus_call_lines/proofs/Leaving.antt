-- A list of calls takes a message by which a caller leaves.
use Rattle.std.proofs.Common.{◌≡◌, ℕ, nat_eq, List, [], ◌∷◌, ◌++◌, Bool, true, false, ◌||◌, ◌==◌, Option, Some, inr, if◌then◌else◌, map, refl, ap, ◌∙◌, sym, subst, arith, append-nil}
use Rattle.std.specs.List.{All}
use Rattle.std.specs.List.Sorted.{IsStrictlySortedBy}
use Rattle.std.specs.Map.{keys_of, values_of}
use Rattle.std.specs.Ordering.{nat_cmp}
use Rattle.std.proofs.lemmas.List.Elements.{Contains-append_left}
use Rattle.dbus_message_model.specs.declared.message_type.TheConstants as message
use Rattle.dbus_message_model.specs.declared.field_code.TheConstants as field
use Rattle.dbus_calls.specs.Events.{Event, caller_of, departed, event_of, replied_to, reply_serial_of, sender_of, text_at, wants_reply}
use Rattle.dbus_calls.specs.Events.Event.{Calls, Replies, Leaves}
use Rattle.dbus_calls.specs.OwnerChanges.{change_of}
use Rattle.dbus_calls.specs.Kept.{call_at, entries_of, waiting}
use Rattle.dbus_calls.specs.declared.caller_calls.CallerCalls.{CallerCalls}
use Rattle.dbus_calls.specs.Pairing.{run}
use Rattle.dbus_calls.specs.Waiting.{Waiting, no_calls, without_caller}
use Rattle.dbus_call_lines.specs.Keeping.{EndedCall, GainsSorted, Keeps, Texts}
use Rattle.dbus_call_lines.specs.Listing.{AreRising, IsEnded, IsTaken, Numbered, message_of, own_row, row}
use Rattle.dbus_call_lines.specs.Outcomes.{Outcome, or_dash, outcome_by}
use Rattle.dbus_call_lines.specs.Outcomes.Outcome.{Reply, Error, Unwanted, Left, Replaced}
use Rattle.dbus_call_lines.specs.declared.call_list.CallList.{CallList}
use Rattle.dbus_call_lines.specs.declared.place.Place.{Place}
use Rattle.dbus_call_lines.specs.declared.waiting_call.WaitingCall.{WaitingCall}
use Rattle.dbus_call_lines.specs.declared.wanted.Wanted.{Wanted}
use Rattle.dbus_call_lines.proofs.Ended.{are_kept, keeps_next, not_unwanted}
use Rattle.dbus_call_lines.proofs.OfCaller.{all_of, apart_of, each_of, gains_those}
use Rattle.dbus_call_lines.proofs.Rows.{one_number, open_among}
use Rattle.dbus_call_lines.proofs.Steps.{left_kept}
use Rattle.dbus_call_lines.proofs.Stray.{none_stray}
use Rattle.dbus_call_lines.proofs.Takes.{Result, by_wanted}
use Rattle.dbus_call_lines.proofs.Taken.{takes_ended}

numbers_same : (a b : ℕ) → a ≡ b → nat_eq a b ≡ true
numbers_same a b is = grind arith

-- by what is neither a call nor a reply a call ends without one
left_kind : (b r e : Bool) (c caller to : List ℕ) (serial to_serial : ℕ) (at : Place) (wants : Bool) (sender : Option (List ℕ)) (name : List ℕ) (rest : Event)
    → Leaves c ≡ (if b then Calls caller serial wants else if r || e then Replies to to_serial sender else rest)
    → Left ≡ (if r then Reply at else if e then Error at name else if b then Replaced else Left)
left_kind true r e c caller to serial to_serial at wants sender name rest is = cc
left_kind false true e c caller to serial to_serial at wants sender name rest is = cc
left_kind false false true c caller to serial to_serial at wants sender name rest is = cc
left_kind false false false c caller to serial to_serial at wants sender name rest is = refl

left_by : (x : Numbered) (c : List ℕ) → Leaves c ≡ event_of x.message → Left ≡ outcome_by x.place x.message
left_by x c is = left_kind (x.message.kind == message.METHOD_CALL) (x.message.kind == message.METHOD_RETURN) (x.message.kind == message.ERROR) c (caller_of x.message) (replied_to x.message) x.message.serial
    (reply_serial_of x.message) x.place (wants_reply x.message) (sender_of x.message) (or_dash (text_at field.ERROR_NAME x.message)) (departed (change_of x.message)) is

module _ (texts : Texts) (before : List Numbered) (x : Numbered) {S : Type 0} (gains : S → List EndedCall → S → Type 0) (joins : (a b c : S) (s t : List EndedCall) → gains a s b → gains b t c → gains a (s ++ t) c) (old new : S) (list list' : CallList)
    (wanted : Wanted) (keeps : Keeps texts wanted before list) (same : list'.wanted ≡ list.wanted) (counted : list'.stray ≡ list.stray) (name : List ℕ) (is : Leaves name ≡ event_of x.message)
    (left : (d : List ℕ) (t : ℕ) → waiting list'.open d t ≡ without_caller name (waiting list.open) d t) (rising : AreRising (before ++ x ∷ [])) (calls : CallerCalls WaitingCall)
    (ordered : IsStrictlySortedBy nat_cmp (keys_of (entries_of calls))) (gets : All (λ e. call_at calls e.0 ≡ Some e.1) (entries_of calls)) (closed : (s : ℕ) → call_at calls s ≡ waiting list.open name s)
    (h : GainsSorted gains list.wanted Left (values_of (entries_of calls)) old new) where
  abbrev w : Waiting Numbered
  w = run message_of no_calls before

  abbrev Ended : Numbered → Type 0
  Ended n = IsEnded before x n

  one : (a b : Numbered) → Ended a → Ended b → a.place.number ≡ b.place.number → a ≡ b
  one a b p q number = one_number (before ++ x ∷ []) rising a b (Contains-append_left before (x ∷ []) a (open_among before a p.0)) (Contains-append_left before (x ∷ []) b (open_among before b q.0)) (numbers_same a.place.number b.place.number number)

  by_key : (s : ℕ) (n : Numbered) → w name s ≡ Some n → Ended n
  by_key s n at = (takes_ended before x n).1 (subst (λ e. IsTaken w e n) is (s, at))

  by_end : (n : Numbered) → Ended n → (s : ℕ) × (w name s ≡ Some n)
  by_end n ended = subst (λ e. IsTaken w e n) (sym is) ((takes_ended before x n).0 ended)

  -- a caller that leaves, of which calls wait
  pub leaves_some : Result texts before x gains joins old new list list' wanted
  leaves_some = by_wanted texts before x gains joins old new list list' wanted keeps (λ k.
      let u : Waiting WaitingCall = waiting list.open in
      let are = are_kept before x (Leaves name) is texts list.wanted list k in
      let l = gains_those texts list.wanted Ended one (values_of (entries_of calls)) (apart_of texts list.wanted before Ended one name calls ordered gets u are closed by_key)
      (each_of texts list.wanted before Ended one name calls ordered gets u are closed by_key)
      (λ n ended. let at = by_end n ended in all_of texts list.wanted before Ended one name calls ordered gets u are closed by_key at.0 n at.1) gains Left old new h in
      let own : own_row before x ≡ [] = ap (λ b. if b then row Unwanted x ∷ [] else []) (not_unwanted x (Leaves name) is refl) in (
        keeps_next before x (Leaves name) is texts list.wanted list list' k same (inr (none_stray before x (Leaves name) is refl, counted)) (without_caller name u) left (left_kept texts list.wanted u w are name 0),
        map (row Left) l.0,
        record {
          calls = l.0;
          calls_are = l.1;
          rows_are = ap (λ (y : Outcome). map (row y) l.0) (left_by x name is)
              ∙ (sym (append-nil (map (row (outcome_by x.place x.message)) l.0)) ∙ ap (λ r. map (row (outcome_by x.place x.message)) l.0 ++ r) (sym own));
        },
        l.2,
      ))
