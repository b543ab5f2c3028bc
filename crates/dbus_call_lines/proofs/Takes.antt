-- A list of calls takes a message.
use Rattle.std.proofs.Common.{◌≡◌, ℕ, ◌+◌, ◌-◌, ◌^◌, min, inl, inr, List, [], ◌∷◌, ◌++◌, Bool, true, false, ◌&&◌, not, ◌==◌, Option, None, Some, option_map, if◌then◌else◌, map, refl, ap, ◌∙◌, sym, subst, arith, append-nil}
use Rattle.dbus_message_model.specs.declared.message_type.TheConstants as message
use Rattle.dbus_calls.specs.Events.{Event, caller_of, departed, event_of, replied_to, reply_serial_of, sender_of, wants_reply}
use Rattle.dbus_calls.specs.Events.Event.{Calls, Replies, Leaves, Passes}
use Rattle.dbus_calls.specs.OwnerChanges.{change_of}
use Rattle.dbus_calls.specs.Kept.{waiting}
use Rattle.dbus_calls.specs.Pairing.{run}
use Rattle.dbus_calls.specs.Waiting.{Waiting, after_reply, answered, no_calls, with_call, without_call, without_caller}
use Rattle.dbus_call_lines.specs.Keeping.{EndedCall, Keeps, KeptCall, Texts, as_list, ended_if, ended_kept, ended_rows, kept, kept_of}
use Rattle.dbus_call_lines.specs.Listing.{ListsAfter, Numbered, Row, is_unwanted, message_of, own_row, row}
use Rattle.dbus_call_lines.specs.Outcomes.{outcome_by}
use Rattle.dbus_call_lines.specs.Outcomes.Outcome.{Unwanted, Replaced}
use Rattle.dbus_call_lines.specs.declared.call_list.CallList.{CallList}
use Rattle.dbus_call_lines.specs.declared.wanted.Wanted.{Wanted}
use Rattle.dbus_call_lines.specs.declared.waiting_call.WaitingCall.{WaitingCall}
use Rattle.dbus_call_lines.proofs.Rows.{first_kind, is_reply, none_departed}
use Rattle.dbus_call_lines.proofs.Ended.{are_kept, keeps_next, lists_one, those}
use Rattle.dbus_call_lines.proofs.OfCaller.{call_behind}
use Rattle.dbus_call_lines.proofs.Stray.{NextStray, none_stray, replies, some_stray, stray}
use Rattle.dbus_call_lines.proofs.Steps.{AreKept, IsKept, answer_kept, left_kept, ended_both, ended_of, list_kept, reply_kept, sent_to, to, with_kept, without_kept}

calls_event : (x : Numbered) (c : List ℕ) (s : ℕ) (w : Bool) → Calls c s w ≡ event_of x.message → ((x.message.kind == message.METHOD_CALL) ≡ true) × (wants_reply x.message ≡ w)
calls_event x c s w is = first_kind c s w (x.message.kind == message.METHOD_CALL) (is_reply x.message) (caller_of x.message) (replied_to x.message) x.message.serial
    (reply_serial_of x.message) (wants_reply x.message) (sender_of x.message) (departed (change_of x.message)) (none_departed c s w (change_of x.message)) (sym is)

replaced : (x : Numbered) → (x.message.kind == message.METHOD_CALL) ≡ true → Replaced ≡ outcome_by x.place x.message
replaced x is = grind arith

module _ (texts : Texts) (before : List Numbered) (x : Numbered) {S : Type 0} (gains : S → List EndedCall → S → Type 0) (joins : (a b c : S) (s t : List EndedCall) → gains a s b → gains b t c → gains a (s ++ t) c) (old new : S) (list list' : CallList) where
  abbrev pub Result : Wanted → Type 0
  Result wanted = Keeps texts wanted (before ++ x ∷ []) list' × (rows : List Row) × ListsAfter before x rows × gains old (ended_rows texts wanted rows) new

  abbrev pub own : Wanted → List EndedCall
  own wanted = ended_if wanted Unwanted x.place (texts wanted.form x.place x.names x.message)

  abbrev w : Waiting Numbered
  w = run message_of no_calls before

  -- a message that is no reply
  no_reply : (e : Event) → list'.stray ≡ list.stray → e ≡ event_of x.message → replies e ≡ false → NextStray before x list.stray list'.stray
  no_reply e counted is none = inr (none_stray before x e is none, counted)

  pub by_wanted : (wanted : Wanted) → Keeps texts wanted before list → (Keeps texts list.wanted before list → Result list.wanted) → Result wanted
  unfolding Keeps
  by_wanted wanted keeps f = subst Result keeps.0 (f (refl, λ c s. subst (λ (z : Wanted). option_map kept (waiting list.open c s) ≡ option_map (kept_of texts z) (w c s)) (sym keeps.0) (keeps.1 c s), keeps.2))

  module _ (wanted : Wanted) (keeps : Keeps texts wanted before list) (same : list'.wanted ≡ list.wanted) (c : List ℕ) (s : ℕ) (o : Option WaitingCall) where
    -- a call that wants a reply
    pub opens : (call : WaitingCall) → list'.stray ≡ list.stray → Calls c s true ≡ event_of x.message → kept call ≡ kept_of texts list.wanted x → ((d : List ℕ) (t : ℕ) → waiting list'.open d t ≡ with_call c s call (waiting list.open) d t)
        → o ≡ waiting list.open c s → gains old (ended_kept list.wanted Replaced (as_list (option_map kept o))) new → Result wanted
    opens call counted is own opened at g = by_wanted wanted keeps (λ k.
        let are = are_kept before x (Calls c s true) is texts list.wanted list k in
        let l = lists_one before x (Calls c s true) is texts list.wanted gains old new Replaced o (w c s) (ap (option_map kept) at ∙ are c s) (λ call. (λ h. h, λ h. h)) (replaced x (calls_event x c s true is).0) refl g in
        (keeps_next before x (Calls c s true) is texts list.wanted list list' k same (no_reply (Calls c s true) counted is refl) (with_call c s call (waiting list.open)) opened (with_kept texts list.wanted (waiting list.open) w are c s call x own), l.0, l.1, l.2))

    -- one that wants none
    pub closes : (middle : S) → list'.stray ≡ list.stray → Calls c s false ≡ event_of x.message → ((d : List ℕ) (t : ℕ) → waiting list'.open d t ≡ without_call c s (waiting list.open) d t)
        → o ≡ waiting list.open c s → gains old (ended_kept list.wanted Replaced (as_list (option_map kept o))) middle → gains middle (own list.wanted) new → Result wanted
    closes middle counted is closed at g h = by_wanted wanted keeps (λ k.
        let are = are_kept before x (Calls c s false) is texts list.wanted list k in
        let event = calls_event x c s false is in
        let un : is_unwanted x ≡ true = (λ i. event.0 i && not (event.1 i)) in
        let of_own : own_row before x ≡ row Unwanted x ∷ [] = ap (λ b. if b then row Unwanted x ∷ [] else []) un in
        let ended : List Row = map (row Replaced) (as_list (w c s)) in
        let first : ended_kept list.wanted Replaced (as_list (option_map kept o)) ≡ ended_rows texts list.wanted ended
        = ap (λ (o : Option WaitingCall). ended_kept list.wanted Replaced (as_list (option_map kept o))) at ∙ (ap (λ l. ended_kept list.wanted Replaced (as_list l)) (are c s) ∙ (ap (ended_kept list.wanted Replaced) (list_kept texts list.wanted (w c s)) ∙ ended_of texts list.wanted Replaced (as_list (w c s)))) in
        let last : own list.wanted ≡ ended_rows texts list.wanted (row Unwanted x ∷ []) = sym (append-nil (own list.wanted)) in (
          keeps_next before x (Calls c s false) is texts list.wanted list list' k same (no_reply (Calls c s false) counted is refl) (without_call c s (waiting list.open)) closed (without_kept texts list.wanted (waiting list.open) w are c s),
          ended ++ row Unwanted x ∷ [],
          record {
            calls = as_list (w c s);
            calls_are = those before x (Calls c s false) is (w c s) (λ call. (λ h. h, λ h. h));
            rows_are = ap (λ y. map (row y) (as_list (w c s)) ++ row Unwanted x ∷ []) (replaced x event.0) ∙ ap (λ l. map (row (outcome_by x.place x.message)) (as_list (w c s)) ++ l) (sym of_own);
          },
          subst (λ (t : List EndedCall). gains old t new) ((λ i. first i ++ last i) ∙ sym (ended_both texts list.wanted ended (row Unwanted x ∷ []))) (joins old middle new _ _ g h),
        ))

    -- a reply
    answers : (sender : Option (List ℕ)) → NextStray before x list.stray list'.stray → Replies c s sender ≡ event_of x.message → ((d : List ℕ) (t : ℕ) → waiting list'.open d t ≡ after_reply sent_to (waiting list.open c s) c s sender (waiting list.open) d t)
        → o ≡ answered sent_to (waiting list.open c s) sender → gains old (ended_kept list.wanted (outcome_by x.place x.message) (as_list (option_map kept o))) new → Keeps texts list.wanted before list → Result list.wanted
    answers sender next is left at g k =
        let are = are_kept before x (Replies c s sender) is texts list.wanted list k in
        let l = lists_one before x (Replies c s sender) is texts list.wanted gains old new (outcome_by x.place x.message) o (answered to (w c s) sender) (ap (option_map kept) at ∙ answer_kept texts list.wanted (waiting list.open) w are c s sender) (λ call. (λ h. h, λ h. h)) refl refl g in
        (keeps_next before x (Replies c s sender) is texts list.wanted list list' k same next (after_reply sent_to (waiting list.open c s) c s sender (waiting list.open)) left (reply_kept texts list.wanted (waiting list.open) w are c s sender), l.0, l.1, l.2)

    -- of what is kept of it
    answer_of : (sender : Option (List ℕ)) → AreKept texts list.wanted (waiting list.open) w → o ≡ answered sent_to (waiting list.open c s) sender → IsKept texts list.wanted o (answered to (w c s) sender)
    answer_of sender are at = ap (option_map kept) at ∙ answer_kept texts list.wanted (waiting list.open) w are c s sender

    -- it answers a call
    pub answers_some : (sender : Option (List ℕ)) (call : WaitingCall) → o ≡ Some call → list'.stray ≡ list.stray → Replies c s sender ≡ event_of x.message
        → ((d : List ℕ) (t : ℕ) → waiting list'.open d t ≡ after_reply sent_to (waiting list.open c s) c s sender (waiting list.open) d t)
        → o ≡ answered sent_to (waiting list.open c s) sender → gains old (ended_if list.wanted (outcome_by x.place x.message) (kept call).place (kept call).text) new → Result wanted
    answers_some sender call some counted is left at g =
        let one = subst (λ (t : List EndedCall). gains old t new) (sym (append-nil (ended_if list.wanted (outcome_by x.place x.message) (kept call).place (kept call).text))) g in
        by_wanted wanted keeps (λ k.
        let of = call_behind texts list.wanted call (answered to (w c s) sender) (subst (λ (p : Option WaitingCall). IsKept texts list.wanted p (answered to (w c s) sender)) some
        (answer_of sender (are_kept before x (Replies c s sender) is texts list.wanted list k) at)) in
        answers sender (inr (some_stray before x c s sender is of.0 of.1, counted)) is left at
        (subst (λ (p : Option WaitingCall). gains old (ended_kept list.wanted (outcome_by x.place x.message) (as_list (option_map kept p))) new) (sym some) one) k)

    -- it answers none
    pub answers_none : (sender : Option (List ℕ)) → o ≡ None → list'.stray ≡ min (list.stray + 1) (2 ^ 64 - 1) → Replies c s sender ≡ event_of x.message
        → ((d : List ℕ) (t : ℕ) → waiting list'.open d t ≡ after_reply sent_to (waiting list.open c s) c s sender (waiting list.open) d t)
        → o ≡ answered sent_to (waiting list.open c s) sender → gains old [] new → Result wanted
    answers_none sender none counted is left at g = by_wanted wanted keeps (λ k.
        let of = none_behind (answered to (w c s) sender) (subst (λ (p : Option WaitingCall). IsKept texts list.wanted p (answered to (w c s) sender)) none
        (answer_of sender (are_kept before x (Replies c s sender) is texts list.wanted list k) at)) in
        answers sender (inl (stray before x c s sender is of, counted)) is left at
        (subst (λ (p : Option WaitingCall). gains old (ended_kept list.wanted (outcome_by x.place x.message) (as_list (option_map kept p))) new) (sym none) g) k)
      where
        none_behind : (p : Option Numbered) → IsKept texts list.wanted None p → p ≡ None
        none_behind None is = refl
        none_behind (Some n) is = absurd (none_kept (kept_of texts list.wanted n) is)
          where
            none_kept : (k : KeptCall) → ◌≡◌ {A = Option KeptCall} None (Some k) → ⊥
            none_kept k is = grind arith

    -- any other message
    pub passes : list'.stray ≡ list.stray → Passes ≡ event_of x.message → list'.open ≡ list.open → gains old [] new → Result wanted
    passes counted is left g = by_wanted wanted keeps (λ k.
        let are = are_kept before x Passes is texts list.wanted list k in
        let l = lists_one before x Passes is texts list.wanted gains old new (outcome_by x.place x.message) None None refl (λ call. (λ h. absurd h, λ h. grind arith)) refl refl g in
        (keeps_next before x Passes is texts list.wanted list list' k same (no_reply Passes counted is refl) (waiting list.open) (λ d t. ap (λ z. waiting z d t) left) are, l.0, l.1, l.2))

    -- a caller that leaves, of which no call waits
    none_leaves : (call : Numbered) (t : ℕ) → IsKept texts list.wanted (waiting list.open c t) (w c t) → None ≡ waiting list.open c t → w c t ≡ Some call → ⊥
    none_leaves call t is none some = none_kept (kept_of texts list.wanted call) (ap (option_map kept) none ∙ (is ∙ ap (option_map (kept_of texts list.wanted)) some))
      where
        none_kept : (k : KeptCall) → ◌≡◌ {A = Option KeptCall} None (Some k) → ⊥
        none_kept k is = grind arith

    pub leaves_none : list'.stray ≡ list.stray → Leaves c ≡ event_of x.message → ((d : List ℕ) (t : ℕ) → waiting list'.open d t ≡ without_caller c (waiting list.open) d t)
        → ((t : ℕ) → None ≡ waiting list.open c t) → gains old [] new → Result wanted
    leaves_none counted is left none g = by_wanted wanted keeps (λ k.
        let are = are_kept before x (Leaves c) is texts list.wanted list k in
        let l = lists_one before x (Leaves c) is texts list.wanted gains old new (outcome_by x.place x.message) None None refl (λ call. (λ h. absurd (none_leaves call h.0 (are c h.0) (none h.0) h.1), λ h. absurd (no_none call h))) refl refl g in
        (keeps_next before x (Leaves c) is texts list.wanted list list' k same (no_reply (Leaves c) counted is refl) (without_caller c (waiting list.open)) left (left_kept texts list.wanted (waiting list.open) w are c s), l.0, l.1, l.2))
      where
        no_none : (call : Numbered) → ◌≡◌ {A = Option Numbered} None (Some call) → ⊥
        no_none call is = grind arith
