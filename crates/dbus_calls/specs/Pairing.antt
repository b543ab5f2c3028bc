-- Which calls are open after some messages, in the order in which they were sent. D-Bus
-- Specification, "Message Types" ("Method Calls") and "Header Fields" (REPLY_SERIAL).
use Rattle.std.specs.Prelude.{◌≡◌, ◌↔◌, ℕ, List, [], ◌∷◌, Bool, true, false, ◌&&◌, ◌⊎◌, Option, Some}
use Rattle.std.specs.Str.{bytes_eq}
use Rattle.std.specs.List.{AllByRecursion}
use Rattle.dbus_message_model.specs.Messages.{MessageTree}
use Rattle.dbus_calls.specs.Answering.{may_answer}
use Rattle.dbus_calls.specs.Events.{Event, event_of, caller_of, destination_of, replied_to, reply_serial_of, sender_of}
use Rattle.dbus_calls.specs.Events.Event.{Calls, Replies, Leaves, Passes}
use Rattle.dbus_calls.specs.Waiting.{Waiting, is_same, no_calls, with_call, without_call, without_caller, after_reply}

-- a call that wants a reply
abbrev pub Waits : MessageTree → Type 0
Waits call = event_of call ≡ Calls (caller_of call) call.serial true

-- a METHOD_RETURN or an ERROR
abbrev pub IsReply : MessageTree → Type 0
IsReply m = event_of m ≡ Replies (replied_to m) (reply_serial_of m) (sender_of m)

-- What ends a call of this caller and serial to this destination: its serial is used again; a reply
-- to its caller and its serial comes from one who may answer it; its caller is gone.
abbrev pub ended_by : (caller : List ℕ) (serial : ℕ) (destination : Option (List ℕ)) → Event → Bool
ended_by caller serial destination (Calls c s wants) = is_same c s caller serial
ended_by caller serial destination (Replies c s sender) = is_same c s caller serial && may_answer destination sender
ended_by caller serial destination (Leaves name) = bytes_eq name caller
ended_by caller serial destination Passes = false

abbrev pub ends : (call m : MessageTree) → Bool
ends call m = ended_by (caller_of call) call.serial (destination_of call) (event_of m)

-- What waits after an event of one more, in a pass that keeps the calls that wait.
module _ {A : Type 0} (sent_to : A → Option (List ℕ)) where
  abbrev pub stepped : Waiting A → Event → (x : A) → Waiting A
  stepped w (Calls c s true) x = with_call c s x w
  stepped w (Calls c s false) x = without_call c s w
  stepped w (Replies c s sender) x = after_reply sent_to (w c s) c s sender w
  stepped w (Leaves name) x = without_caller name w
  stepped w Passes x = w

-- The messages are those of items, as a message and its number.
module _ {A : Type 0} (message : A → MessageTree) where
  -- the call is among them, it wants a reply, and none after it ends it
  abbrev pub IsOpen : List A → (call : A) → Type 0
  IsOpen [] call = ⊥
  IsOpen (x ∷ xs) call = ((x ≡ call) × Waits (message call) × AllByRecursion (λ y. ends (message call) (message y) ≡ false) xs) ⊎ IsOpen xs call

  -- the reply comes after them, and answers this call: it is open, and the reply ends it
  pub record Answers (xs : List A) (reply call : A) : Type 0 where
    pub is_reply : IsReply (message reply)
    pub open_call : IsOpen xs call
    pub ends_it : ends (message call) (message reply) ≡ true

  -- what waits after one more, and after all of these
  abbrev pub step : Waiting A → A → Waiting A
  step w x = stepped (λ call. destination_of (message call)) w (event_of (message x)) x

  abbrev pub run : Waiting A → List A → Waiting A
  run w [] = w
  run w (x ∷ xs) = run (step w x) xs

  -- One pass keeps exactly the open calls, each by its caller and its serial.
  abbrev pub KeepsOpen : Type 0
  KeepsOpen = (xs : List A) (caller : List ℕ) (serial : ℕ) (call : A) →
      (run no_calls xs caller serial ≡ Some call) ↔ (IsOpen xs call × (caller ≡ caller_of (message call)) × (serial ≡ (message call).serial))

  -- A reply answers at most one call.
  abbrev pub AnswersOne : Type 0
  AnswersOne = (xs : List A) (reply call other : A) → Answers xs reply call → Answers xs reply other → call ≡ other
