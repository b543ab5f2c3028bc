-- The table of calls keeps those that wait, and gives the call that a reply answers.
use Rattle.std.proofs.Common.{◌≡◌, ◌↔◌, ℕ, List, [], ◌∷◌, ◌++◌, Bool, true, false, ◌||◌, ◌==◌, Option, None, Some, option_map, string_bytes, if◌then◌else◌, refl, ap, ◌∙◌, sym, subst, arith}
use Rattle.std.proofs.lemmas.Bool.{false≢true}
use Rattle.std.specs.Str.{bytes_eq}
use Rattle.dbus_message_model.specs.Messages.{MessageTree}
use Rattle.dbus_message_model.specs.declared.message_type.TheConstants as message
use Rattle.dbus_calls.specs.Answering.{is_unique, may_answer}
use Rattle.dbus_calls.specs.Events.{Event, caller_of, departed, event_of, replied_to, reply_serial_of, sender_of, wants_reply}
use Rattle.dbus_calls.specs.Events.Event.{Calls, Replies, Leaves, Passes}
use Rattle.dbus_calls.specs.Kept.{waiting}
use Rattle.dbus_calls.specs.OwnerChanges.{Change, change_of}
use Rattle.dbus_calls.specs.OwnerChanges.Change.{Owned, Free, Lost}
use Rattle.dbus_calls.specs.Pairing.{Answers, IsReply, run, stepped}
use Rattle.dbus_calls.specs.Waiting.{Waiting, after_reply, answered, is_same, no_calls, with_call, without_call, without_caller}
use Rattle.dbus_call_lines.specs.Listing.{IsTaken, Numbered, message_of}
use Rattle.dbus_call_lines.proofs.Steps.{run_push, to}
use Rattle.dbus_call_lines.proofs.Taken.{takes_ended}
use Rattle.dbus_list.specs.Pairs.{KeepsCalls, KeptCall, TellsCall, ToldCall, kept, kept_of, told, told_kept, told_of}
use Rattle.dbus_list.specs.declared.call_table.CallTable.{CallTable}
use Rattle.dbus_list.specs.declared.known_call.KnownCall.{KnownCall}

-- ---- what is kept, from one message to the next

abbrev pub sent_to : KnownCall → Option (List ℕ)
sent_to call = option_map string_bytes call.parts.value.destination

abbrev pub IsKept : Option KnownCall → Option Numbered → Type 0
IsKept o p = option_map kept o ≡ option_map kept_of p

abbrev pub AreKept : Waiting KnownCall → Waiting Numbered → Type 0
AreKept w v = (caller : List ℕ) (serial : ℕ) → IsKept (w caller serial) (v caller serial)

either_kept : (b : Bool) (o o' : Option KnownCall) (p p' : Option Numbered) → IsKept o p → IsKept o' p' → IsKept (if b then o else o') (if b then p else p')
either_kept true o o' p p' h k = h
either_kept false o o' p p' h k = k

none_some : (x : KeptCall) → ◌≡◌ {A = Option KeptCall} None (Some x) → ⊥
none_some x is = grind arith

one_kept : (x y : KeptCall) → ◌≡◌ {A = Option KeptCall} (Some x) (Some y) → x ≡ y
one_kept x y is = cc

may_same : (sender : Option (List ℕ)) (call : KnownCall) (x : Numbered) → kept call ≡ kept_of x → may_answer (sent_to call) sender ≡ may_answer (to x) sender
may_same sender call x is = ap (λ k. may_answer k.destination sender) is

answer_kept : (sender : Option (List ℕ)) (o : Option KnownCall) (p : Option Numbered) → IsKept o p → IsKept (answered sent_to o sender) (answered to p sender)
answer_kept sender None None is = refl
answer_kept sender None (Some x) is = absurd (none_some (kept_of x) is)
answer_kept sender (Some call) None is = absurd (none_some (kept call) (sym is))
answer_kept sender (Some call) (Some x) is =
    ap (λ b. option_map kept (if b then Some call else None)) (may_same sender call x (one_kept (kept call) (kept_of x) is))
    ∙ either_kept (may_answer (to x) sender) (Some call) None (Some x) None is refl

module _ (w : Waiting KnownCall) (v : Waiting Numbered) (are : AreKept w v) (c : List ℕ) (s : ℕ) where
  without_kept : AreKept (without_call c s w) (without_call c s v)
  without_kept = λ d t. either_kept (is_same c s d t) None (w d t) None (v d t) refl (are d t)

  reply_kept : (sender : Option (List ℕ)) (o : Option KnownCall) (p : Option Numbered) → IsKept o p → AreKept (after_reply sent_to o c s sender w) (after_reply to p c s sender v)
  reply_kept sender None None is = are
  reply_kept sender None (Some x) is = absurd (none_some (kept_of x) is)
  reply_kept sender (Some call) None is = absurd (none_some (kept call) (sym is))
  reply_kept sender (Some call) (Some x) is = λ d t.
      ap (λ b. option_map kept (if b then without_call c s w d t else w d t)) (may_same sender call x (one_kept (kept call) (kept_of x) is))
      ∙ either_kept (may_answer (to x) sender) (without_call c s w d t) (w d t) (without_call c s v d t) (v d t) (without_kept d t) (are d t)

-- what is told of what is kept
told_both : (replied : Option ℕ) (o : Option KnownCall) → option_map (told replied) o ≡ option_map (told_kept replied) (option_map kept o)
told_both replied None = refl
told_both replied (Some call) = refl

told_all : (replied : Option ℕ) (p : Option Numbered) → option_map (told_kept replied) (option_map kept_of p) ≡ option_map (told_of replied) p
told_all replied None = refl
told_all replied (Some call) = refl

-- ---- a message

abbrev pub is_replies : Event → Bool
is_replies (Replies c s sender) = true
is_replies e = false

not_gone : (b : Bool) (name : List ℕ) → is_replies (if b then Leaves name else Passes) ≡ false
not_gone true name = refl
not_gone false name = refl

not_departed : (change : Option Change) → is_replies (departed change) ≡ false
not_departed None = refl
not_departed (Some (Owned o)) = refl
not_departed (Some (Free name)) = not_gone (is_unique name) name
not_departed (Some (Lost o)) = refl

the_reply : (b d : Bool) (call reply rest : Event) → is_replies call ≡ false → is_replies rest ≡ false → is_replies (if b then call else if d then reply else rest) ≡ true → (if b then call else if d then reply else rest) ≡ reply
the_reply true d call reply rest first last is = absurd (false≢true (sym first ∙ is))
the_reply false true call reply rest first last is = refl
the_reply false false call reply rest first last is = absurd (false≢true (sym last ∙ is))

is_reply : (m : MessageTree) → is_replies (event_of m) ≡ true → IsReply m
is_reply m is = the_reply (m.kind == message.METHOD_CALL) ((m.kind == message.METHOD_RETURN) || (m.kind == message.ERROR)) (Calls (caller_of m) m.serial (wants_reply m)) (Replies (replied_to m) (reply_serial_of m) (sender_of m))
    (departed (change_of m)) refl (not_departed (change_of m)) is

module _ (before : List Numbered) (x : Numbered) (e : Event) (is : e ≡ event_of x.message) where
  abbrev w : Waiting Numbered
  w = run message_of no_calls before

  -- what is told of the call that it answers
  tells : (p : Option Numbered) → ((call : Numbered) → (p ≡ Some call) ↔ Answers message_of before x call) → TellsCall before x (option_map (told_of x.place.time) p)
  tells None takes = λ call h. no_call ((takes call).1 h)
    where
      no_call : {call : Numbered} → ◌≡◌ {A = Option Numbered} None (Some call) → ⊥
      no_call same = grind arith
  tells (Some call) takes = (call, (takes call).0 refl, refl)

  -- no reply answers a call
  pub tells_none : is_replies e ≡ false → TellsCall before x None
  tells_none other = λ call h. false≢true (sym other ∙ ap is_replies (is ∙ h.is_reply))

module _ (before : List Numbered) (x : Numbered) where
  -- the call that waits is answered
  answers : (c : List ℕ) (s : ℕ) (sender : Option (List ℕ)) → Replies c s sender ≡ event_of x.message → (call : Numbered) → (answered to (run message_of no_calls before c s) sender ≡ Some call) ↔ Answers message_of before x call
  answers c s sender is call = (
    λ h. (
        let ended = (takes_ended before x call).1 (subst (λ (f : Event). IsTaken (run message_of no_calls before) f call) is h) in
        record { is_reply = is_reply x.message (ap is_replies (sym is)); open_call = ended.0; ends_it = ended.1 }
        ),
    λ h. subst (λ (f : Event). IsTaken (run message_of no_calls before) f call) (sym is) ((takes_ended before x call).0 (h.open_call, h.ends_it)),
  )

  some_by : (e : Event) → e ≡ event_of x.message → (call : Option ToldCall) × TellsCall before x call
  some_by (Replies c s sender) is = (_, tells before x (Replies c s sender) is (answered to (run message_of no_calls before c s) sender) (answers c s sender is))
  some_by (Calls c s wants) is = (None, tells_none before x (Calls c s wants) is refl)
  some_by (Leaves name) is = (None, tells_none before x (Leaves name) is refl)
  some_by Passes is = (None, tells_none before x Passes is refl)

  -- something is told of each message
  pub some_told : (call : Option ToldCall) × TellsCall before x call
  some_told = some_by (event_of x.message) refl

module _ (before : List Numbered) (x : Numbered) (table table' : CallTable) (keeps : KeepsCalls before table) where
  abbrev v : Waiting Numbered
  v = run message_of no_calls before

  are : AreKept (waiting table.open) v
  unfolding KeepsCalls
  are = keeps

  keeps_next : (e : Event) → e ≡ event_of x.message → (u : Waiting KnownCall) → ((c : List ℕ) (s : ℕ) → waiting table'.open c s ≡ u c s) → AreKept u (stepped to v e x) → KeepsCalls (before ++ x ∷ []) table'
  unfolding KeepsCalls
  keeps_next e is u same kept_then = λ c s.
      let after : stepped to v e x ≡ run message_of no_calls (before ++ x ∷ []) = ap (λ f. stepped to v f x) is ∙ sym (run_push no_calls before x) in
      ap (option_map kept) (same c s) ∙ (kept_then c s ∙ ap (λ f. option_map kept_of (f c s)) after)

  module _ (c : List ℕ) (s : ℕ) where
    pub opens : (call : KnownCall) → Calls c s true ≡ event_of x.message → kept call ≡ kept_of x → ((d : List ℕ) (t : ℕ) → waiting table'.open d t ≡ with_call c s call (waiting table.open) d t) → KeepsCalls (before ++ x ∷ []) table'
    opens call is own opened = keeps_next (Calls c s true) is (with_call c s call (waiting table.open)) opened
        (λ d t. either_kept (is_same c s d t) (Some call) (waiting table.open d t) (Some x) (v d t) (ap Some own) (are d t))

    pub closes : Calls c s false ≡ event_of x.message → ((d : List ℕ) (t : ℕ) → waiting table'.open d t ≡ without_call c s (waiting table.open) d t) → KeepsCalls (before ++ x ∷ []) table'
    closes is closed = keeps_next (Calls c s false) is (without_call c s (waiting table.open)) closed (without_kept (waiting table.open) v are c s)

    pub leaves : Leaves c ≡ event_of x.message → ((d : List ℕ) (t : ℕ) → waiting table'.open d t ≡ without_caller c (waiting table.open) d t) → KeepsCalls (before ++ x ∷ []) table'
    leaves is left = keeps_next (Leaves c) is (without_caller c (waiting table.open)) left (λ d t. either_kept (bytes_eq c d) None (waiting table.open d t) None (v d t) refl (are d t))

    pub passes : Passes ≡ event_of x.message → table'.open ≡ table.open → KeepsCalls (before ++ x ∷ []) table'
    passes is same = keeps_next Passes is (waiting table.open) (λ d t. ap (λ o. waiting o d t) same) are

    module _ (sender : Option (List ℕ)) (is : Replies c s sender ≡ event_of x.message) where
      pub replies : ((d : List ℕ) (t : ℕ) → waiting table'.open d t ≡ after_reply sent_to (waiting table.open c s) c s sender (waiting table.open) d t) → KeepsCalls (before ++ x ∷ []) table'
      replies left = keeps_next (Replies c s sender) is (after_reply sent_to (waiting table.open c s) c s sender (waiting table.open)) left
          (reply_kept (waiting table.open) v are c s sender (waiting table.open c s) (v c s) (are c s))

      -- what is told of the call that it answers
      pub tells_answered : (o : Option KnownCall) → o ≡ answered sent_to (waiting table.open c s) sender → TellsCall before x (option_map (told x.place.time) o)
      tells_answered o at =
          let p = answered to (v c s) sender in
          let same : option_map kept o ≡ option_map kept_of p = ap (option_map kept) at ∙ answer_kept sender (waiting table.open c s) (v c s) (are c s) in
          let all : option_map (told x.place.time) o ≡ option_map (told_of x.place.time) p = told_both x.place.time o ∙ (ap (option_map (told_kept x.place.time)) same ∙ told_all x.place.time p) in
          subst (TellsCall before x) (sym all) (tells before x (Replies c s sender) is p (answers before x c s sender is))
