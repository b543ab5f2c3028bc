-- How many replies answer no call.
use Rattle.std.proofs.Common.{◌≡◌, ℕ, ◌+◌, ◌-◌, ◌^◌, min, List, [], ◌∷◌, ◌++◌, Bool, true, false, Option, None, Some, ◌⊎◌, inl, inr, ⊎_elim, ◌||◌, ◌==◌, if◌then◌else◌, refl, ap, ◌∙◌, sym, subst, arith, append-nil, append_assoc}
use Rattle.dbus_message_model.specs.Messages.{MessageTree}
use Rattle.dbus_message_model.specs.declared.message_type.TheConstants as message
use Rattle.dbus_calls.specs.Answering.{is_unique}
use Rattle.dbus_calls.specs.Events.{Event, caller_of, departed, event_of, replied_to, reply_serial_of, sender_of, wants_reply}
use Rattle.dbus_calls.specs.Events.Event.{Calls, Replies, Leaves, Passes}
use Rattle.dbus_calls.specs.OwnerChanges.{Change, change_of}
use Rattle.dbus_calls.specs.OwnerChanges.Change.{Owned, Free, Lost}
use Rattle.dbus_calls.specs.Pairing.{IsReply, run}
use Rattle.dbus_calls.specs.Waiting.{answered, no_calls}
use Rattle.dbus_call_lines.specs.Keeping.{KnowsStray}
use Rattle.dbus_call_lines.specs.Listing.{CountsStray, HaveStray, IsStray, IsTaken, Numbered, message_of}
use Rattle.dbus_call_lines.proofs.Steps.{to}
use Rattle.dbus_call_lines.proofs.Taken.{takes_ended}

-- ---- one message more

shifted : (before : List Numbered) (x : Numbered) (j n d m : ℕ) → CountsStray before x j n → m ≡ n + d → CountsStray before x (j + d) m
shifted before x j n d m (inl s) is = inl (s.0, omega (arith, s.1, is))
shifted before x j n d m (inr s) is = inr (s.0, omega (arith, s.1, is))

one_more : (before xs : List Numbered) (x : Numbered) (n m : ℕ) → HaveStray before xs n → CountsStray (before ++ xs) x n m → HaveStray before (xs ++ x ∷ []) m
one_more before [] x n m h k = (0, refl, subst (λ (l : List Numbered). CountsStray l x 0 m) (append-nil before) (subst (λ (z : ℕ). CountsStray (before ++ []) x z m) h k))
one_more before (y ∷ ys) x n m h k = ⊎_elim
    (λ stray. (h.0 + 1, one_more (before ++ y ∷ []) ys x h.0 (h.0 + 1) h.1 (inl (subst (λ (l : List Numbered). IsStray l x) (sym (append_assoc before (y ∷ []) ys)) stray.0, refl)), shifted before y h.0 n 1 m h.2 stray.1))
    (λ none. (h.0 + 0, one_more (before ++ y ∷ []) ys x h.0 (h.0 + 0) h.1 (inr (subst (λ (l : List Numbered). IsStray l x → ⊥) (sym (append_assoc before (y ∷ []) ys)) none.0, omega arith)), shifted before y h.0 n 0 m h.2 (omega (arith, none.1)))) k

-- what is known of it then
abbrev pub NextStray : (before : List Numbered) (x : Numbered) (old new : ℕ) → Type 0
NextStray before x old new = (IsStray before x × (new ≡ min (old + 1) (2 ^ 64 - 1))) ⊎ ((IsStray before x → ⊥) × (new ≡ old))

bounded : (n old new : ℕ) → old ≡ min n (2 ^ 64 - 1) → new ≡ min (old + 1) (2 ^ 64 - 1) → new ≡ min (n + 1) (2 ^ 64 - 1)
bounded n old new p q = grind (arith, p, q)

pub knows_next : (before : List Numbered) (x : Numbered) (old new : ℕ) → KnowsStray before old → NextStray before x old new → KnowsStray (before ++ x ∷ []) new
knows_next before x old new h (inl s) = (h.0 + 1, one_more [] before x h.0 (h.0 + 1) h.1 (inl (s.0, refl)), bounded h.0 old new h.2 s.1)
knows_next before x old new h (inr s) = (h.0, one_more [] before x h.0 h.0 h.1 (inr (s.0, refl)), s.1 ∙ h.2)

-- ---- messages have one number of them

one_count : (before : List Numbered) (x : Numbered) (j n m : ℕ) → CountsStray before x j n → CountsStray before x j m → n ≡ m
one_count before x j n m (inl s) (inl t) = s.1 ∙ sym t.1
one_count before x j n m (inl s) (inr t) = absurd (t.0 s.0)
one_count before x j n m (inr s) (inl t) = absurd (s.0 t.0)
one_count before x j n m (inr s) (inr t) = s.1 ∙ sym t.1

pub one_stray : (before xs : List Numbered) (n m : ℕ) → HaveStray before xs n → HaveStray before xs m → n ≡ m
one_stray before [] n m h k = h ∙ sym k
one_stray before (x ∷ xs) n m h k =
    let same = one_stray (before ++ x ∷ []) xs h.0 k.0 h.1 k.1 in
    one_count before x h.0 n m h.2 (subst (λ (j : ℕ). CountsStray before x j m) (sym same) k.2)

-- ---- which messages are such replies

false_true : false ≡ true → ⊥
false_true is = cc

abbrev pub replies : Event → Bool
replies (Replies c s sender) = true
replies e = false

-- no message that is no reply
pub none_stray : (before : List Numbered) (x : Numbered) (e : Event) → e ≡ event_of x.message → replies e ≡ false → IsStray before x → ⊥
none_stray before x e is none stray = false_true (sym none ∙ ap replies (is ∙ stray.0))

gone_replies : (b : Bool) (name : List ℕ) → replies (if b then Leaves name else Passes) ≡ false
gone_replies true name = refl
gone_replies false name = refl

departed_replies : (change : Option Change) → replies (departed change) ≡ false
departed_replies None = refl
departed_replies (Some (Owned o)) = refl
departed_replies (Some (Free name)) = gone_replies (is_unique name) name
departed_replies (Some (Lost o)) = refl

reply_kind : (b r : Bool) (call reply rest : Event) → replies call ≡ false → replies rest ≡ false → replies (if b then call else if r then reply else rest) ≡ true → (if b then call else if r then reply else rest) ≡ reply
reply_kind true r call reply rest p q is = absurd (false_true (sym p ∙ is))
reply_kind false true call reply rest p q is = refl
reply_kind false false call reply rest p q is = absurd (false_true (sym q ∙ is))

is_reply : (m : MessageTree) → replies (event_of m) ≡ true → IsReply m
is_reply m is = reply_kind (m.kind == message.METHOD_CALL) ((m.kind == message.METHOD_RETURN) || (m.kind == message.ERROR)) (Calls (caller_of m) m.serial (wants_reply m))
    (Replies (replied_to m) (reply_serial_of m) (sender_of m)) (departed (change_of m)) refl (departed_replies (change_of m)) is

-- a reply to the call of this caller and serial
module _ (before : List Numbered) (x : Numbered) (c : List ℕ) (s : ℕ) (sender : Option (List ℕ)) (is : Replies c s sender ≡ event_of x.message) where
  abbrev answer : Option Numbered
  answer = answered to (run message_of no_calls before c s) sender

  -- it answers this call
  pub some_stray : (call : Numbered) → answer ≡ Some call → IsStray before x → ⊥
  some_stray call at stray =
      let ended = (takes_ended before x call).1 (subst (λ (e : Event). IsTaken (run message_of no_calls before) e call) is at) in
      stray.1 call (record { is_reply = stray.0; open_call = ended.0; ends_it = ended.1 })

  -- it answers none
  pub stray : answer ≡ None → IsStray before x
  stray none = (
    is_reply x.message (ap replies (sym is)),
    λ call answers.
        let at : answer ≡ Some call = subst (λ (e : Event). IsTaken (run message_of no_calls before) e call) (sym is) ((takes_ended before x call).0 (answers.open_call, answers.ends_it)) in
        none_some call (sym none ∙ at),
  )
    where
      none_some : (call : Numbered) → ◌≡◌ {A = Option Numbered} None (Some call) → ⊥
      none_some call is = grind arith
