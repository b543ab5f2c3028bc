-- One side of a connection, as it is kept for calls that tell no bytes. D-Bus Specification,
-- "Authentication Protocol" and "Message Protocol".
use Rattle.std.specs.Prelude.{◌≡◌, ◌≤◌, ◌<◌, ◌+◌, ◌-◌, ◌^◌, ◌++◌, ◌⊎◌, min, nat_eq, ℕ, Bool, false, List, [], ◌∷◌, length, drop, Option, Some, None, Result, Ok, Err, option_map, string_bytes, if◌then◌else◌}
use Rattle.std.specs.Bool.{OnTrue, OnFalse}
use Rattle.dbus_value_model.specs.declared.order.Order.{Order}
use Rattle.dbus_message_model.specs.Messages.{MessageTree}
use Rattle.dbus_view.specs.Views.{ViewState, Views}
use Rattle.dbus_calls.specs.Events.{event_of}
use Rattle.dbus_pending.specs.Serials.{IsNext}
use Rattle.dbus_pending.specs.Waiting.{AsNext, Stays, allowed, count, last, waiting}
use Rattle.dbus_pending.specs.declared.pending.Pending.{Pending}
use Rattle.dbus_replies.specs.Replies.{answered_by, waiting_after}
use Rattle.dbus_c_auth.specs.declared.handshake.Handshake.{Handshake}
use Rattle.dbus_c_auth.specs.declared.handshake.Handshake.TheVariants as end
use Rattle.dbus_descriptors.specs.Kept.{HasRoom, Kept, closed, kept}
use Rattle.dbus_descriptors.specs.declared.descriptors.NotTaken.{NotTaken}
use Rattle.dbus_connection.specs.Answers.{Answers, gone_on}
use Rattle.dbus_connection.specs.Handing.{Hands, IsLacking}
use Rattle.dbus_connection.specs.Shown.{IsAsBefore, IsNew, settings_of, stand, taken_of, told}
use Rattle.dbus_connection.specs.Standing.{Client, Server, Stand, Told, Wants, Sends as SendsBytes, Begins, Gives, Passes, Refuses, Fails, IsOver, stands_by}
use Rattle.dbus_connection.specs.declared.event.Incoming.{Incoming}
use Rattle.dbus_connection.specs.declared.sending.Asked.{Asked}
use Rattle.dbus_connection.specs.declared.settings.Settings.{Settings}
use Rattle.dbus_c_connection.specs.declared.kept_step.KeptStep.{KeptStep}
use Rattle.dbus_c_connection.specs.declared.kept_step.What.{What}
use Rattle.dbus_c_connection.specs.declared.kept_step.What.TheVariants as what
use Rattle.dbus_c_connection.specs.declared.kept_connection.KeptConnection.{KeptConnection}
use Rattle.dbus_c_connection.specs.declared.kept_connection.TheConstants.{MOST_DESCRIPTORS}
use Rattle.dbus_c_connection.specs.declared.kept_connection.NoCall.{NoCall}
use Rattle.dbus_c_connection.specs.declared.kept_connection.NoCall.TheVariants.{Full, Memory}

-- where it stands, what it has to send, the calls that wait, and the descriptors that do
abbrev pub stands : KeptConnection → Stand
stands k = stand k.connection

abbrev pub unsent : KeptConnection → List ℕ
unsent k = k.unsent.items

abbrev pub calls : KeptConnection → Pending (Asked ℕ)
calls k = k.connection.pending

abbrev pub descriptors : KeptConnection → Kept (Unit {0})
descriptors k = kept k.descriptors

-- where a connection of an end stands; of a client's that has started there is none
abbrev pub unstarted : Handshake → Option Stand
unstarted (end.Client e) = if e.started then None else Some (Client e)
unstarted (end.Server e) = Some (Server e)

-- a connection is made that stands there, if it may be
abbrev pub IsMade : Option Stand → Settings → Option KeptConnection → Type 0
IsMade None settings made = made ≡ None
IsMade (Some there) settings None = ⊥
IsMade (Some there) settings (Some k) =
    IsNew there settings k.connection × (unsent k ≡ [])
    × (descriptors k ≡ record { waiting = []; most = MOST_DESCRIPTORS; passed = 0; over = false })

-- whom a call was sent to
abbrev pub sent_to : Asked ℕ → Option (List ℕ)
sent_to asked = option_map string_bytes asked.destination

-- what came is told so; the calls that wait before it and after it
module _ (old new : Pending (Asked ℕ)) where
  -- the message of a view answers this call, or none. D-Bus Specification, "Message Types"
  pub record IsAnswer (view : ViewState) (call : Option ℕ) : Type 0 where
    pub call_is : (order : Order) (m : MessageTree) → Views view order m
        → call ≡ option_map (λ asked. asked.call) (answered_by sent_to (waiting old) (event_of m))
    pub left : (order : Order) (m : MessageTree) → Views view order m → (s : ℕ)
        → waiting new s ≡ waiting_after sent_to (waiting old) (event_of m) s
    pub same : (last new ≡ last old) × (allowed new ≡ allowed old)

  abbrev pub IsWhat : Told → What → Type 0
  IsWhat (Wants n) w = (w ≡ what.Wants n) × (new ≡ old)
  IsWhat (SendsBytes send) w = (w ≡ what.Unsent) × (new ≡ old)
  IsWhat (Begins send guid agreed) (what.Begun g a) = (option_map (λ x. x.0) g ≡ guid) × (a ≡ agreed) × (new ≡ old)
  IsWhat (Gives view fds) (what.Message size n call) =
      (size ≡ length view.bytes) × (n ≡ fds) × IsAnswer view call
  IsWhat (Passes n header) w =
      (w ≡ what.Passed (record { length = n; header = header })) × (new ≡ old)
  IsWhat (Refuses fault) w = (w ≡ what.Refused fault) × (new ≡ old)
  IsWhat Fails w = (w ≡ what.Failed) × (new ≡ old)
  IsWhat IsOver w = (w ≡ what.Over) × (new ≡ old)
  IsWhat _ w = ⊥

-- the bytes to send
abbrev pub sent_by : Told → List ℕ
sent_by (SendsBytes send) = send
sent_by (Begins send guid agreed) = send
sent_by _ = []

abbrev pub told_message : Incoming → Told
told_message m = Gives m.view m.fds

module _ (old new : KeptConnection) where
  -- it stands there, and has taken so many bytes, and these descriptors wait
  pub record IsSide : Type 0 where
    pub stands : stands new ≡ stands old
    pub keeps : settings_of new.connection ≡ settings_of old.connection
    pub taken : taken_of new.connection ≡ taken_of old.connection
    pub descriptors : descriptors new ≡ descriptors old

  -- nothing is changed
  pub record IsSame : Type 0 where
    pub side : IsSide
    pub unsent : unsent new ≡ unsent old
    pub calls : calls new ≡ calls old

  -- what the bytes begin with is taken, and told
  pub record Took (bytes : List ℕ) (came : KeptStep) : Type 0 where
    pub told : Told
    pub answers : Answers (settings_of old.connection) (stands old) bytes (record { taken = came.taken; told = told })
    pub what : IsWhat (calls old) (calls new) told came.what
    pub stands : stands new ≡ stands_by (gone_on (stands old) bytes) told
    pub unsent : unsent new ≡ sent_by told
    pub keeps : settings_of new.connection ≡ settings_of old.connection
    pub taken : taken_of new.connection ≡ min (2 ^ 64 - 1) (taken_of old.connection + came.taken)
    pub own : List (Unit {0})
    pub hands : Hands (taken_of new.connection) told (descriptors old) (descriptors new) [] own

  -- or a message lacks descriptors, and the connection is closed
  pub record Lacked (bytes : List ℕ) (came : KeptStep) : Type 0 where
    pub why : NotTaken
    pub lacks : IsLacking old.connection new.connection bytes (descriptors old) (descriptors new) why
    pub what : came ≡ record { taken = 0; what = what.TooFew }
    pub unsent : unsent new ≡ unsent old
    pub calls : calls new ≡ calls old
    pub keeps : settings_of new.connection ≡ settings_of old.connection

  -- nothing is, while there are bytes to send
  abbrev pub TakesAfter : (unsent : List ℕ) → (bytes : List ℕ) → KeptStep → Type 0
  TakesAfter [] bytes came = Took bytes came ⊎ Lacked bytes came
  TakesAfter (b ∷ bs) bytes came = (came ≡ record { taken = 0; what = what.Unsent }) × IsSame

  abbrev pub Takes : (bytes : List ℕ) → KeptStep → Type 0
  Takes bytes came = TakesAfter (unsent old) bytes came

  -- one more descriptor waits, which came so many bytes behind those that are taken, or it does not,
  -- and no message takes any from then on
  pub record KeepsOne (at_hand : ℕ) (yes : Bool) : Type 0 where
    pub place : ℕ
    pub place_is : place ≡ min (2 ^ 64 - 1) (taken_of old.connection + at_hand)
    pub kept : OnTrue yes (HasRoom (descriptors old) place × (descriptors new ≡ record (descriptors old)
        { waiting = (descriptors old).waiting ++ record { place = place; descriptor = tt } ∷ [] }))
    pub over : OnFalse yes ((HasRoom (descriptors old) place → ⊥) × (descriptors new ≡ closed (descriptors old)))
    pub side : IsAsBefore old.connection new.connection
    pub unsent : unsent new ≡ unsent old
    pub calls : calls new ≡ calls old

  -- the bytes to send are written over the room's first, if it has place for so many
  pub record Sends (before after : List ℕ) (number : ℕ) : Type 0 where
    pub counted : number ≡ length (unsent old)
    pub written : number ≤ length before → (after ≡ unsent old ++ drop number before) × (unsent new ≡ [])
    pub no_room : length before < number → (after ≡ before) × (unsent new ≡ unsent old)
    pub side : IsSide
    pub calls : calls new ≡ calls old

  -- a message is sent with this serial, and no call waits with it
  pub record Numbers (serial : ℕ) : Type 0 where
    pub next : IsNext (waiting (calls old)) (last (calls old)) serial
    pub last : last (calls new) ≡ serial
    pub others : Stays (calls old) (calls new)
    pub side : IsSide
    pub unsent : unsent new ≡ unsent old

  -- a call to this name waits with this serial
  pub record Waits (destination : Option (List ℕ)) (call serial : ℕ) : Type 0 where
    pub next : IsNext (waiting (calls old)) (last (calls old)) serial
    pub asked : Asked ℕ
    pub waits : AsNext (calls old) (calls new) serial asked
    pub call_is : asked.call ≡ call
    pub destination_is : sent_to asked ≡ destination

  -- why it does not
  abbrev pub IsNoCall : NoCall → Type 0
  IsNoCall Full = allowed (calls old) ≤ count (calls old)
  IsNoCall Memory = Unit {0}

  abbrev pub WaitsOr : (destination : Option (List ℕ)) → (call : ℕ) → Result ℕ NoCall → Type 0
  WaitsOr destination call (Ok serial) = Waits destination call serial
  WaitsOr destination call (Err why) = IsNoCall why × (last (calls new) ≡ last (calls old)) × Stays (calls old) (calls new)

  pub record Calls (destination : Option (List ℕ)) (call : ℕ) (result : Result ℕ NoCall) : Type 0 where
    pub waits : WaitsOr destination call result
    pub side : IsSide
    pub unsent : unsent new ≡ unsent old

  -- the call that waits with the serial waits no longer
  pub record GivesUp (serial : ℕ) (call : Option ℕ) : Type 0 where
    pub given : call ≡ option_map (λ asked. asked.call) (waiting (calls old) serial)
    pub left : (s : ℕ) → waiting (calls new) s ≡ (if nat_eq serial s then None else waiting (calls old) s)
    pub same : (last (calls new) ≡ last (calls old)) × (allowed (calls new) ≡ allowed (calls old))
    pub side : IsSide
    pub unsent : unsent new ≡ unsent old
