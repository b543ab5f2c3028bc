-- One pass keeps exactly the open calls.
use Rattle.std.proofs.Common.{◌≡◌, ℕ, List, [], ◌∷◌, Bool, true, false, ◌⊎◌, inl, inr, ⊎_elim, Option, None, Some, ◌&&◌, if◌then◌else◌, refl, ap, ◌∙◌, subst, sym, arith}
use Rattle.std.specs.List.{AllByRecursion}
use Rattle.std.proofs.lemmas.Slice.Eq.{bytes_eq-Decides}
use Rattle.dbus_message_model.specs.Messages.{MessageTree}
use Rattle.dbus_calls.specs.Waiting.{Waiting, is_same, no_calls, after_reply}
use Rattle.dbus_calls.specs.Answering.{may_answer}
use Rattle.dbus_calls.specs.Events.{Event, event_of, caller_of, destination_of, replied_to, reply_serial_of}
use Rattle.dbus_calls.specs.Events.Event.{Calls, Replies, Leaves, Passes}
use Rattle.dbus_calls.specs.Pairing.{ended_by, ends, IsOpen, stepped, step, run, AnswersOne, KeepsOpen}
use Rattle.dbus_calls.proofs.Callers.{calls_of}

none_is_some : {T : Type 0} (call : T) → ◌≡◌ {A = Option T} None (Some call) → ⊥
none_is_some call is = grind arith

some_of_same : {T : Type 0} (x y : T) → ◌≡◌ {A = Option T} (Some x) (Some y) → x ≡ y
some_of_same x y is = cc

same_key : (c : List ℕ) (s : ℕ) (caller : List ℕ) (serial : ℕ) (may : Bool) → (is_same c s caller serial && may) ≡ true → (c ≡ caller) × (s ≡ serial)
same_key c s caller serial may is = (grind (arith, bytes_eq-Decides c caller), grind (arith, bytes_eq-Decides c caller))

-- One event.
module _ {A : Type 0} (sent_to : A → Option (List ℕ)) (w : Waiting A) where
  -- what waits after it was opened by it, or waited before
  opened : (e : Event) (x : A) (caller : List ℕ) (serial : ℕ) (call : A) → stepped sent_to w e x caller serial ≡ Some call
      → ((x ≡ call) × (e ≡ Calls caller serial true)) ⊎ (w caller serial ≡ Some call)
  opened (Calls c s true) x caller serial call is = grind (arith, bytes_eq-Decides c caller)
  opened (Calls c s false) x caller serial call is = grind (arith, bytes_eq-Decides c caller)
  opened (Replies c s sender) x caller serial call is = grind (arith, bytes_eq-Decides c caller)
  opened (Leaves name) x caller serial call is = grind (arith, bytes_eq-Decides name caller)
  opened Passes x caller serial call is = inr is

  -- a call waits after it
  made : (caller : List ℕ) (serial : ℕ) (call : A) → stepped sent_to w (Calls caller serial true) call caller serial ≡ Some call
  made caller serial call = grind (arith, bytes_eq-Decides caller caller)

  module _ (x call : A) (caller : List ℕ) (serial : ℕ) where
    -- if a call waits and is not ended, it stays
    stays : (e : Event) → w caller serial ≡ Some call → ended_by caller serial (sent_to call) e ≡ false → stepped sent_to w e x caller serial ≡ Some call
    stays (Calls c s true) is lasts = grind (arith, bytes_eq-Decides c caller)
    stays (Calls c s false) is lasts = grind (arith, bytes_eq-Decides c caller)
    stays (Replies c s sender) is lasts = grind (arith, bytes_eq-Decides c caller)
    stays (Leaves name) is lasts = grind (arith, bytes_eq-Decides name caller)
    stays Passes is lasts = is

    -- what waits after it was opened by it, or waited before and is not ended
    abbrev Stayed : (e : Event) → Type 0
    Stayed e = ((x ≡ call) × (e ≡ Calls caller serial true)) ⊎ ((w caller serial ≡ Some call) × (ended_by caller serial (sent_to call) e ≡ false))

    -- A reply to a caller and a serial of which another call waits, or none.
    module _ (c : List ℕ) (s : ℕ) (sender : Option (List ℕ)) where
      abbrev same : Bool
      same = is_same c s caller serial

      unlike : w c s ≡ None → w caller serial ≡ Some call → same ≡ false
      unlike none is = grind (arith, bytes_eq-Decides c caller)

      alike : (other : A) → w c s ≡ Some other → w caller serial ≡ Some call → same ≡ true → other ≡ call
      alike other at is both = grind (arith, bytes_eq-Decides c caller)

      left_by : (b may : Bool) (here : Option A) → (if may then (if b then None else here) else here) ≡ Some call → (here ≡ Some call) × ((b && may) ≡ false)
      left_by true true here is = absurd (none_is_some call is)
      left_by true false here is = (is, refl)
      left_by false true here is = (is, refl)
      left_by false false here is = (is, refl)

      for_call : (b : Bool) (other : A) → (b ≡ true → other ≡ call) → (b && may_answer (sent_to other) sender) ≡ false → (b && may_answer (sent_to call) sender) ≡ false
      for_call false other one is = refl
      for_call true other one is = subst (λ y. may_answer (sent_to y) sender ≡ false) (one refl) is

      replied : (there : Option A) → w c s ≡ there → after_reply sent_to there c s sender w caller serial ≡ Some call → Stayed (Replies c s sender)
      replied None at is = inr (is, ap (λ b. b && may_answer (sent_to call) sender) (unlike at is))
      replied (Some other) at is =
          let left : (w caller serial ≡ Some call) × ((same && may_answer (sent_to other) sender) ≡ false)
          = left_by same (may_answer (sent_to other) sender) (w caller serial) is in
          inr (left.0, for_call same other (alike other at left.0) left.1)

    stayed : (e : Event) → stepped sent_to w e x caller serial ≡ Some call → Stayed e
    stayed (Calls c s true) is = grind (arith, bytes_eq-Decides c caller)
    stayed (Calls c s false) is = grind (arith, bytes_eq-Decides c caller)
    stayed (Replies c s sender) is = replied c s sender (w c s) refl is
    stayed (Leaves name) is = grind (arith, bytes_eq-Decides name caller)
    stayed Passes is = inr (is, refl)

-- All of them.
module _ {A : Type 0} (message : A → MessageTree) where
  -- a call by its caller and its serial
  record IsOf (caller : List ℕ) (serial : ℕ) (call : A) : Type 0 where
    pub caller_is : caller ≡ caller_of (message call)
    pub serial_is : serial ≡ (message call).serial

  -- what waits is kept by its caller and its serial
  abbrev AreKept : Waiting A → Type 0
  AreKept w = (caller : List ℕ) (serial : ℕ) (call : A) → w caller serial ≡ Some call → IsOf caller serial call

  none_kept : AreKept no_calls
  none_kept caller serial call is = absurd (none_is_some call is)

  abbrev to : A → Option (List ℕ)
  to call = destination_of (message call)

  abbrev Lasts : List A → A → Type 0
  Lasts xs call = AllByRecursion (λ y. ends (message call) (message y) ≡ false) xs

  kept_on : (w : Waiting A) (x : A) → AreKept w → AreKept (step message w x)
  kept_on w x kept caller serial call is = ⊎_elim
      (λ new. let of : (caller ≡ caller_of (message x)) × (serial ≡ (message x).serial) = calls_of caller serial true (message x) new.1 in
      record { caller_is = of.0 ∙ ap (λ y. caller_of (message y)) new.0; serial_is = of.1 ∙ ap (λ y. (message y).serial) new.0 })
      (λ old. kept caller serial call old) (opened to w (event_of (message x)) x caller serial call is)

  all_kept : (w : Waiting A) (xs : List A) → AreKept w → AreKept (run message w xs)
  all_kept w [] kept = kept
  all_kept w (x ∷ xs) kept = all_kept (step message w x) xs (kept_on w x kept)

  reached : (w : Waiting A) (xs : List A) (call : A) → run message w xs (caller_of (message call)) (message call).serial ≡ Some call
      → ((w (caller_of (message call)) (message call).serial ≡ Some call) × Lasts xs call) ⊎ IsOpen message xs call
  reached w [] call is = inl (is, tt)
  reached w (x ∷ xs) call is = ⊎_elim
      (λ h. ⊎_elim (λ new. inr (inl (new.0, subst (λ y. event_of (message y) ≡ Calls (caller_of (message call)) (message call).serial true) new.0 new.1, h.1)))
      (λ old. inl (old.0, (old.1, h.1))) (stayed to w x call (caller_of (message call)) (message call).serial (event_of (message x)) h.0))
      (λ later. inr (inr later)) (reached (step message w x) xs call is)

  lasted : (w : Waiting A) (xs : List A) (call : A) → w (caller_of (message call)) (message call).serial ≡ Some call → Lasts xs call
      → run message w xs (caller_of (message call)) (message call).serial ≡ Some call
  lasted w [] call is lasts = is
  lasted w (x ∷ xs) call is lasts = lasted (step message w x) xs call (stays to w x call (caller_of (message call)) (message call).serial (event_of (message x)) is lasts.0) lasts.1

  held : (w : Waiting A) (xs : List A) (call : A) → IsOpen message xs call → run message w xs (caller_of (message call)) (message call).serial ≡ Some call
  held w [] call found = absurd found
  held w (x ∷ xs) call found = ⊎_elim
      (λ h. lasted (step message w x) xs call
      (subst (λ (y : A). stepped to w (event_of (message y)) y (caller_of (message call)) (message call).serial ≡ Some call) (sym h.0)
      (ap (λ e. stepped to w e call (caller_of (message call)) (message call).serial) h.1 ∙ made to w (caller_of (message call)) (message call).serial call)) h.2)
      (λ later. held (step message w x) xs call later) found

  module _ (xs : List A) (caller : List ℕ) (serial : ℕ) (call : A) where
    abbrev IsOpenHere : Type 0
    IsOpenHere = IsOpen message xs call × (caller ≡ caller_of (message call)) × (serial ≡ (message call).serial)

    kept_is_open : run message no_calls xs caller serial ≡ Some call → IsOpenHere
    kept_is_open is =
        let of : IsOf caller serial call = all_kept no_calls xs none_kept caller serial call is in
        let own : run message no_calls xs (caller_of (message call)) (message call).serial ≡ Some call
        = ap (λ s. run message no_calls xs (caller_of (message call)) s) (sym of.serial_is) ∙ (ap (λ c. run message no_calls xs c serial) (sym of.caller_is) ∙ is) in
        (⊎_elim (λ h. absurd (none_is_some call h.0)) (λ found. found) (reached no_calls xs call own), of.caller_is, of.serial_is)

    open_is_kept : IsOpenHere → run message no_calls xs caller serial ≡ Some call
    open_is_kept h = ap (λ c. run message no_calls xs c serial) h.1 ∙ (ap (λ s. run message no_calls xs (caller_of (message call)) s) h.2 ∙ held no_calls xs call h.0)

  -- the pass keeps exactly the open calls
  pub keeps_open : KeepsOpen message
  keeps_open xs caller serial call = (kept_is_open xs caller serial call, open_is_kept xs caller serial call)

  -- a call that a reply to this caller and serial ends is of these
  ended_is_of : (call : A) (c : List ℕ) (s : ℕ) (sender : Option (List ℕ)) → ended_by (caller_of (message call)) (message call).serial (to call) (Replies c s sender) ≡ true
      → (c ≡ caller_of (message call)) × (s ≡ (message call).serial)
  ended_is_of call c s sender is = same_key c s (caller_of (message call)) (message call).serial (may_answer (to call) sender) is

  pub answers_one : AnswersOne message
  answers_one xs reply call other one two =
      let of = ended_is_of call _ _ _ (subst (λ e. ended_by (caller_of (message call)) (message call).serial (to call) e ≡ true) one.is_reply one.ends_it) in
      let at = ended_is_of other _ _ _ (subst (λ e. ended_by (caller_of (message other)) (message other).serial (to other) e ≡ true) two.is_reply two.ends_it) in
      let first : run message no_calls xs (replied_to (message reply)) (reply_serial_of (message reply)) ≡ Some call = open_is_kept xs _ _ call (one.open_call, of.0, of.1) in
      let second : run message no_calls xs (replied_to (message reply)) (reply_serial_of (message reply)) ≡ Some other = open_is_kept xs _ _ other (two.open_call, at.0, at.1) in
      some_of_same call other (sym first ∙ second)
