-- A name by which a connection is known is wanted.
use Rattle.std.proofs.Common.{◌≡◌, ◌⊎◌, ℕ, List, [], ◌∷◌, Bool, true, false, Option, None, Some, option_map, if◌then◌else◌, inl, inr, refl, ap, ◌∙◌, sym}
use Rattle.std.specs.FinSet.{contains}
use Rattle.std.specs.Option.{option_or}
use Rattle.std.specs.Str.{bytes_eq}
use Rattle.dbus_message_model.specs.Messages.{MessageTree}
use Rattle.dbus_rule_set.specs.Owners.{OwnerSet}
use Rattle.dbus_calls.specs.Answering.{may_answer}
use Rattle.dbus_calls.specs.Events.{Event, destination_of, event_of}
use Rattle.dbus_calls.specs.Events.Event.{Calls, Replies, Leaves, Passes}
use Rattle.dbus_calls.specs.OwnerChanges.{Change, change_of, name_of}
use Rattle.dbus_calls.specs.OwnerChanges.Change.{Owned, Free, Lost}
use Rattle.dbus_calls.specs.Pairing.{stepped}
use Rattle.dbus_calls.specs.Waiting.{Waiting, answered, no_calls}
use Rattle.dbus_names.specs.Laws.{KnowsWanted}
use Rattle.dbus_names.specs.NameCalls.{NameCall, name_call_of, receiver_of}
use Rattle.dbus_names.specs.NameStates.{KnownNames, NameState, answered_by, if_had, known_after, known_after_all, known_first, name_said, named_by, names_left, owners_after, told_by, wanted_call, wanted_change}
use Rattle.dbus_names.specs.Telling.{holder_told}
use Rattle.dbus_names.proofs.OpenNames.{AreAsked, asked_in, none_some, one_asked, one_some}

some_of : {A : Type 0} (b : Bool) (x : Option A) (y : A) → (if b then x else None) ≡ Some y → x ≡ Some y
some_of true x y is = is
some_of false x y is = absurd (none_some y is)

had_is : (os : OwnerSet) (u : List ℕ) (x : Option (List ℕ)) (n : List ℕ) → if_had os u x ≡ Some n → x ≡ Some n
had_is os u None n is = is
had_is os u (Some m) n is = some_of (contains os (record { name = m; unique = u })) (Some m) n is

either_is : (x y : Option (List ℕ)) (n : List ℕ) → option_or x y ≡ Some n → (x ≡ Some n) ⊎ (y ≡ Some n)
either_is None y n is = inr is
either_is (Some m) y n is = inl is

left_is : (e : Event) (names : KnownNames) (u n : List ℕ) → names_left e names u ≡ Some n → names u ≡ Some n
left_is (Calls c s w) names u n is = is
left_is (Replies c s sender) names u n is = is
left_is (Leaves name) names u n is = gone (bytes_eq name u) is
  where
    gone : (b : Bool) → (if b then None else names u) ≡ Some n → names u ≡ Some n
    gone true is = absurd (none_some n is)
    gone false is = is
left_is Passes names u n is = is

module _ (wants : List ℕ → Bool) where
  said_wanted : (change : Change) (b : Bool) (u n : List ℕ) → wants (name_of change) ≡ b → name_said (if b then Some change else None) u ≡ Some n → wants n ≡ true
  said_wanted change false u n wanted is = absurd (none_some n is)
  said_wanted (Owned o) true u n wanted is = ap wants (sym (one_some o.name n (some_of (bytes_eq o.unique u) (Some o.name) n is))) ∙ wanted
  said_wanted (Free name) true u n wanted is = absurd (none_some n is)
  said_wanted (Lost o) true u n wanted is = absurd (none_some n is)

  change_wanted : (said : Option Change) (u n : List ℕ) → name_said (wanted_change wants said) u ≡ Some n → wants n ≡ true
  change_wanted None u n is = absurd (none_some n is)
  change_wanted (Some change) u n is = said_wanted change (wants (name_of change)) u n refl is

  -- ---- a call that is kept

  if_wanted : (call asked : NameCall) (b : Bool) → wants call.name ≡ b → (if b then Some call else None) ≡ Some asked → wants asked.name ≡ true
  if_wanted call asked true wanted is = ap (λ (c : NameCall). wants c.name) (sym (one_some call asked is)) ∙ wanted
  if_wanted call asked false wanted is = absurd (none_some asked is)

  call_wanted : (call : Option NameCall) (asked : NameCall) → wanted_call wants call ≡ Some asked → wants asked.name ≡ true
  call_wanted None asked is = absurd (none_some asked is)
  call_wanted (Some call) asked is = if_wanted call asked (wants call.name) refl is

  open_wanted : (call : Option MessageTree) (asked : NameCall) → asked_in wants call ≡ Some asked → wants asked.name ≡ true
  open_wanted None asked is = absurd (none_some asked is)
  open_wanted (Some m) asked is = call_wanted (name_call_of m) asked is

  answered_is : (call : Option NameCall) (sender : Option (List ℕ)) (asked : NameCall) → answered receiver_of call sender ≡ Some asked → call ≡ Some asked
  answered_is None sender asked is = is
  answered_is (Some call) sender asked is = some_of (may_answer (receiver_of call) sender) (Some call) asked is

  answer_wanted : (v : Waiting NameCall) (w : Waiting MessageTree) → AreAsked wants v w → (e : Event) (asked : NameCall) → answered_by v e ≡ Some asked → wants asked.name ≡ true
  answer_wanted v w are (Calls c s r) asked is = absurd (none_some asked is)
  answer_wanted v w are (Replies c s sender) asked is = open_wanted (w c s) asked (sym (are c s) ∙ answered_is (v c s) sender asked is)
  answer_wanted v w are (Leaves name) asked is = absurd (none_some asked is)
  answer_wanted v w are Passes asked is = absurd (none_some asked is)

  reply_wanted : (call : NameCall) (holder : Option (List ℕ)) (u n : List ℕ) → name_said (option_map (λ unique. Owned (record { name = call.name; unique = unique })) holder) u ≡ Some n → wants call.name ≡ true → wants n ≡ true
  reply_wanted call None u n is wanted = absurd (none_some n is)
  reply_wanted call (Some unique) u n is wanted = ap wants (sym (one_some call.name n (some_of (bytes_eq unique u) (Some call.name) n is))) ∙ wanted

  told_wanted : (call : Option NameCall) (m : MessageTree) (u n : List ℕ) → ((asked : NameCall) → call ≡ Some asked → wants asked.name ≡ true) → name_said (told_by wants call m) u ≡ Some n → wants n ≡ true
  told_wanted None m u n all is = change_wanted (change_of m) u n is
  told_wanted (Some call) m u n all is = reply_wanted call (holder_told call.holder m) u n is (all call refl)

  -- ---- one message, and all of them

  abbrev Known : KnownNames → Type 0
  Known names = (u n : List ℕ) → names u ≡ Some n → wants n ≡ true

  one_known : (said : Option Change) (os : OwnerSet) (e : Event) (names : KnownNames) → Known names → ((u n : List ℕ) → name_said said u ≡ Some n → wants n ≡ true) → Known (names_left e (named_by said os names))
  one_known said os e names known all u n is = elim (either_is (if_had os u (names u)) (if_had os u (name_said said u)) n (left_is e (named_by said os names) u n is)) [
    | inl kept ↦ known u n (had_is os u (names u) n kept)
    | inr told ↦ all u n (had_is os u (name_said said u) n told)
  ]

  all_known : (state : NameState) (w : Waiting MessageTree) → AreAsked wants state.calls w → Known state.names → (messages : List MessageTree) → Known (known_after_all wants state messages).names
  all_known state w are known [] = known
  all_known state w are known (m ∷ messages) =
      let call = answered_by state.calls (event_of m) in
      let said = told_by wants call m in
      all_known (known_after wants state m) (stepped destination_of w (event_of m) m) (one_asked wants state.calls w are m (event_of m))
      (one_known said (owners_after said state.owners) (event_of m) state.names known (λ u n. told_wanted call m u n (answer_wanted state.calls w are (event_of m)))) messages

pub knows_wanted : KnowsWanted
knows_wanted wants owners messages = all_known wants (known_first owners) no_calls (λ c s. refl) (λ u n is. absurd (none_some n is)) messages
