-- The calls that a table of names keeps are the open ones whose replies tell who has a name.
use Rattle.std.proofs.Common.{◌≡◌, ◌↔◌, ℕ, List, [], ◌∷◌, Bool, true, false, Option, None, Some, option_map, ◌==◌, if◌then◌else◌, refl, ap, ◌∙◌, sym, arith}
use Rattle.std.specs.Prelude.{option_and_then, codes}
use Rattle.std.specs.Str.{bytes_eq}
use Rattle.std.proofs.lemmas.Slice.Eq.{bytes_eq-Decides}
use Rattle.dbus_message_model.specs.Messages.{MessageTree}
use Rattle.dbus_message_model.specs.KnownFields.{body_value}
use Rattle.dbus_message_model.specs.declared.field_code.TheConstants as field
use Rattle.dbus_message_model.specs.declared.message_type.TheConstants as message
use Rattle.dbus_match.specs.Matching.{string_of}
use Rattle.dbus_rule_set.specs.Owners.{OwnerSet}
use Rattle.dbus_calls.specs.Answering.{bus, is_ownable, may_answer}
use Rattle.dbus_calls.specs.Events.{Event, destination_of, event_of, text_at}
use Rattle.dbus_calls.specs.Events.Event.{Calls, Replies, Leaves, Passes}
use Rattle.dbus_calls.specs.OwnerChanges.{is_text}
use Rattle.dbus_calls.specs.Pairing.{run, stepped}
use Rattle.dbus_calls.specs.Waiting.{Waiting, after_reply, is_same, no_calls, with_call, without_call, without_caller}
use Rattle.dbus_calls.proofs.Passes.{keeps_open}
use Rattle.dbus_names.specs.Laws.{IsAsked, KeepsOpenCalls}
use Rattle.dbus_names.specs.NameCalls.{NameCall, bus_call, call_to, name_call_of, of_ownable, receiver_of}
use Rattle.dbus_names.specs.NameStates.{NameState, asked_by, calls_after, known_after, known_after_all, known_first, wanted_call, with_or_without}
use Rattle.dbus_names.specs.declared.name_call.Holder.{Holder}
use Rattle.dbus_names.specs.declared.name_call.Holder.TheVariants.{Caller, Value, Sender}

pub none_some : {A : Type 0} (x : A) → ◌≡◌ {A = Option A} None (Some x) → ⊥
none_some x is = grind arith

pub one_some : {A : Type 0} (x y : A) → ◌≡◌ {A = Option A} (Some x) (Some y) → x ≡ y
one_some x y is = cc

-- ---- to whom such a call was sent

first_to_bus : (holder : Holder) (text : Option (List ℕ)) (asked : NameCall) → ((name : List ℕ) → receiver_of (record { name = name; holder = holder }) ≡ Some bus)
    → option_map (λ name. record { name = name; holder = holder }) text ≡ Some asked → receiver_of asked ≡ Some bus
first_to_bus holder None asked to is = absurd (none_some asked is)
first_to_bus holder (Some name) asked to is = ap receiver_of (sym (one_some _ asked is)) ∙ to name

bus_called : (request owner : Bool) (text : Option (List ℕ)) (asked : NameCall)
    → (if request then option_map (λ name. record { name = name; holder = Caller }) text else if owner then option_map (λ name. record { name = name; holder = Value }) text else None) ≡ Some asked → receiver_of asked ≡ Some bus
bus_called true owner text asked is = first_to_bus Caller text asked (λ name. refl) is
bus_called false true text asked is = first_to_bus Value text asked (λ name. refl) is
bus_called false false text asked is = absurd (none_some asked is)

called_to : (to : List ℕ) (b : Bool) (m : MessageTree) (asked : NameCall) → bytes_eq to bus ≡ b
    → (if b then bus_call (text_at field.MEMBER m) m else Some (record { name = to; holder = Sender })) ≡ Some asked → receiver_of asked ≡ Some to
called_to to true m asked same is =
    bus_called (is_text (text_at field.MEMBER m) (codes "RequestName")) (is_text (text_at field.MEMBER m) (codes "GetNameOwner")) (string_of (body_value 0 m.body)) asked is
    ∙ ap Some (sym ((bytes_eq-Decides to bus).0 same))
called_to to false m asked same is = ap receiver_of (sym (one_some _ asked is))

called : (d : Option (List ℕ)) (m : MessageTree) (asked : NameCall) → call_to d m ≡ Some asked → receiver_of asked ≡ d
called None m asked is = absurd (none_some asked is)
called (Some to) m asked is = called_to to (bytes_eq to bus) m asked refl is

ownable : (call : Option NameCall) (asked : NameCall) → of_ownable call ≡ Some asked → call ≡ Some asked
ownable None asked is = is
ownable (Some call) asked is = if_so (is_ownable call.name) is
  where
    if_so : (b : Bool) → (if b then Some call else None) ≡ Some asked → Some call ≡ Some asked
    if_so true is = is
    if_so false is = absurd (none_some asked is)

is_called : (b : Bool) (call : Option NameCall) (asked : NameCall) → (if b then call else None) ≡ Some asked → call ≡ Some asked
is_called true call asked is = is
is_called false call asked is = absurd (none_some asked is)

wanted : (wants : List ℕ → Bool) (call : Option NameCall) (asked : NameCall) → wanted_call wants call ≡ Some asked → call ≡ Some asked
wanted wants None asked is = is
wanted wants (Some call) asked is = is_called (wants call.name) (Some call) asked is

-- a call is sent to its destination
sent : (wants : List ℕ → Bool) (m : MessageTree) (asked : NameCall) → asked_by wants m ≡ Some asked → receiver_of asked ≡ destination_of m
sent wants m asked is =
    called (destination_of m) m asked (ownable (call_to (destination_of m) m) asked (is_called (m.kind == message.METHOD_CALL) (of_ownable (call_to (destination_of m) m)) asked
    (wanted wants (name_call_of m) asked is)))

-- ---- one message

module _ (wants : List ℕ → Bool) where
  abbrev pub asked_in : Option MessageTree → Option NameCall
  asked_in call = option_and_then (asked_by wants) call

  abbrev pub AreAsked : Waiting NameCall → Waiting MessageTree → Type 0
  AreAsked v w = (caller : List ℕ) (serial : ℕ) → v caller serial ≡ asked_in (w caller serial)

  either_asked : (b : Bool) (x y : Option NameCall) (p q : Option MessageTree) → x ≡ asked_in p → y ≡ asked_in q → (if b then x else y) ≡ asked_in (if b then p else q)
  either_asked true x y p q h k = h
  either_asked false x y p q h k = k

  module _ (v : Waiting NameCall) (w : Waiting MessageTree) (are : AreAsked v w) (c : List ℕ) (s : ℕ) where
    without_asked : AreAsked (without_call c s v) (without_call c s w)
    without_asked d t = either_asked (is_same c s d t) None (v d t) None (w d t) refl (are d t)

    with_asked : (m : MessageTree) (asked : Option NameCall) → asked ≡ asked_by wants m → AreAsked (with_or_without c s asked v) (with_call c s m w)
    with_asked m None is = λ d t. either_asked (is_same c s d t) None (v d t) (Some m) (w d t) is (are d t)
    with_asked m (Some asked) is = λ d t. either_asked (is_same c s d t) (Some asked) (v d t) (Some m) (w d t) is (are d t)

    left_asked : AreAsked (without_caller c v) (without_caller c w)
    left_asked d t = either_asked (bytes_eq c d) None (v d t) None (w d t) refl (are d t)

    -- a call that asks nothing is not kept, so nothing changes if it is answered
    same_asked : (call : MessageTree) → w c s ≡ Some call → asked_by wants call ≡ None → (d : List ℕ) (t : ℕ) → is_same c s d t ≡ true → v d t ≡ None
    same_asked call at none d t same =
        let names : c ≡ d = grind (arith, bytes_eq-Decides c d) in
        let serials : s ≡ t = grind (arith, bytes_eq-Decides c d) in
        are d t ∙ (ap asked_in ((λ i. w (sym names i) (sym serials i)) ∙ at) ∙ none)

    unasked : (call : MessageTree) → w c s ≡ Some call → asked_by wants call ≡ None → (may : Bool) (d : List ℕ) (t : ℕ) → v d t ≡ asked_in (if may then without_call c s w d t else w d t)
    unasked call at none false d t = are d t
    unasked call at none true d t = by (is_same c s d t) refl
      where
        by : (b : Bool) → is_same c s d t ≡ b → v d t ≡ asked_in (if b then None else w d t)
        by true same = same_asked call at none d t same
        by false same = are d t

    module _ (sender : Option (List ℕ)) where
      asks : (call : MessageTree) (asked : Option NameCall) → w c s ≡ Some call → asked_by wants call ≡ asked → AreAsked (after_reply receiver_of asked c s sender v) (after_reply destination_of (Some call) c s sender w)
      asks call None at is = unasked call at is (may_answer (destination_of call) sender)
      asks call (Some asked) at is = λ d t.
          ap (λ to. if may_answer to sender then without_call c s v d t else v d t) (sent wants call asked is)
          ∙ either_asked (may_answer (destination_of call) sender) (without_call c s v d t) (v d t) (without_call c s w d t) (w d t) (without_asked d t) (are d t)

      replied : (call : Option MessageTree) → w c s ≡ call → AreAsked (after_reply receiver_of (asked_in call) c s sender v) (after_reply destination_of call c s sender w)
      replied None at = are
      replied (Some call) at = asks call (asked_by wants call) at refl

  pub one_asked : (v : Waiting NameCall) (w : Waiting MessageTree) → AreAsked v w → (m : MessageTree) (e : Event) → AreAsked (calls_after v e (asked_by wants m)) (stepped destination_of w e m)
  one_asked v w are m (Calls c s true) = with_asked v w are c s m (asked_by wants m) refl
  one_asked v w are m (Calls c s false) = without_asked v w are c s
  one_asked v w are m (Replies c s sender) = λ d t.
      ap (λ asked. after_reply receiver_of asked c s sender v d t) (are c s) ∙ replied v w are c s sender (w c s) refl d t
  one_asked v w are m (Leaves name) = left_asked v w are name 0
  one_asked v w are m Passes = are

  -- ---- all of them

  all_asked : (state : NameState) (w : Waiting MessageTree) → AreAsked state.calls w → (messages : List MessageTree) → AreAsked (known_after_all wants state messages).calls (run (λ m. m) w messages)
  all_asked state w are [] = are
  all_asked state w are (m ∷ messages) = all_asked (known_after wants state m) (stepped destination_of w (event_of m) m) (one_asked state.calls w are m (event_of m)) messages

  module _ (owners : OwnerSet) (messages : List MessageTree) (caller : List ℕ) (serial : ℕ) (asked : NameCall) where
    abbrev kept : Option NameCall
    kept = (known_after_all wants (known_first owners) messages).calls caller serial

    abbrev waits : Option MessageTree
    waits = run (λ m. m) no_calls messages caller serial

    kept_is : kept ≡ asked_in waits
    kept_is = all_asked (known_first owners) no_calls (λ c s. refl) messages caller serial

    found : (call : Option MessageTree) → waits ≡ call → asked_in call ≡ Some asked → IsAsked wants messages caller serial asked
    found None at is = absurd (none_some asked is)
    found (Some call) at is = let open_call = (keeps_open (λ m. m) messages caller serial call).0 at in (call, open_call.0, open_call.1, open_call.2, is)

    pub keeps_one : (kept ≡ Some asked) ↔ IsAsked wants messages caller serial asked
    keeps_one = (
      λ is. found waits refl (sym kept_is ∙ is),
      λ h. kept_is ∙ (ap asked_in ((keeps_open (λ m. m) messages caller serial h.0).1 (h.1, h.2, h.3)) ∙ h.4),
    )

pub keeps_open_calls : KeepsOpenCalls
keeps_open_calls wants owners messages caller serial asked = keeps_one wants owners messages caller serial asked
