-- How a reader goes on behind a message that is refused, where the next message begins. w is what
-- was kept and then read, and bytes are as many of the input as the window has: fewer only if it
-- ends there. D-Bus Specification, "Message Format".
use Rattle.std.specs.Prelude.{◌≡◌, ◌⊎◌, ℕ, ◌+◌, ◌-◌, ◌*◌, ◌<◌, ◌≤◌, max, min, List, [], ◌++◌, Bool, true, false, length, take, drop, Option, None, Some, Result, Ok, Err}
use Rattle.dbus_value_model.specs.declared.fault.Fault.{Fault}
use Rattle.dbus_value_model.specs.declared.limits.Limits.{Limits}
use Rattle.dbus_header.specs.NoMessage.{BeginsWithNone}
use Rattle.dbus_resync.specs.DamagedInputs.{IsLost, IsRest}
use Rattle.dbus_resync.specs.Search.{BeginsAt, Looks as LooksAt, Searches}
use Rattle.dbus_resync.specs.declared.found.Found.{Found}
use Rattle.dbus_resync.specs.declared.found.Found.TheVariants.{At, Nowhere, Spent}
use Rattle.dbus_resync.specs.declared.found.Searched.{Searched}
use Rattle.dbus_stream.specs.Gathering.{fresh, gathering}
use Rattle.dbus_stream.specs.Next as next
use Rattle.dbus_stream.specs.RawReading as raw
use Rattle.dbus_stream.specs.Reading.{part_of}
use Rattle.dbus_stream.specs.StatedSizes.{StatesSize, WantsMore}
use Rattle.dbus_stream.specs.declared.raw_reader.RawReader.{RawReader}
use Rattle.dbus_stream.specs.declared.read_fault.ReadFault.{ReadFault}
use Rattle.dbus_stream.specs.declared.read_fault.ReadFault.TheVariants.{Memory, Format, Device, TooManyReads}

-- it met a fault of bytes
abbrev pub HasFault : Option ReadFault → Type 0
HasFault stopped = (fault : Fault) × (stopped ≡ Some (Format fault))

-- the bytes state this size, and it leads on: behind so many of them a whole message begins, or the
-- input ends, or what begins there states that it goes on past the window
pub record LeadsOn (limits : Limits) (window : ℕ) (bytes : List ℕ) (size : ℕ) : Type 0 where
  pub states : StatesSize limits bytes size
  pub to : BeginsAt limits bytes size ⊎ (((size ≡ length bytes) × (size < window)) ⊎ (WantsMore limits (drop size bytes) × (window ≤ length bytes)))

abbrev pub LeadsNowhere : Limits → (window : ℕ) → List ℕ → Type 0
LeadsNowhere limits window bytes = (size : ℕ) → LeadsOn limits window bytes size → ⊥

-- so many bytes are looked at for a message behind as many as the bytes state; none if these are not
-- all there
abbrev pub LooksBehind : Limits → List ℕ → ℕ → Type 0
LooksBehind limits bytes n = ((size : ℕ) × StatesSize limits bytes size × (size ≤ length bytes) × LooksAt limits (drop size bytes) n)
    ⊎ (((size : ℕ) → StatesSize limits bytes size → length bytes < size) × (n ≡ 0))

-- where messages begin again: where the size leads that the bytes state, which is looked at first; or
-- else at the first message; or the effort is spent
abbrev pub ResumesBehind : Limits → (window effort behind : ℕ) → List ℕ → Searched → Type 0
ResumesBehind limits window effort behind bytes s = ((effort < behind) × (s ≡ record { found = Spent; looked = effort }))
    ⊎ ((behind ≤ effort) × (((size : ℕ) × LeadsOn limits window bytes size × (s ≡ record { found = At size; looked = behind }))
    ⊎ (LeadsNowhere limits window bytes × (first : Searched) × Searches limits bytes (effort - behind) first × (s ≡ record { found = first.found; looked = behind + first.looked }))))

abbrev pub Resumes : Limits → (window effort : ℕ) → List ℕ → Searched → Type 0
Resumes limits window effort bytes s = (behind : ℕ) × LooksBehind limits bytes behind × ResumesBehind limits window effort behind bytes s

-- the one or the other is looked for
abbrev pub Seeks : (by_size : Bool) → Limits → (window effort : ℕ) → List ℕ → Searched → Type 0
Seeks true limits window effort bytes s = Resumes limits window effort bytes s
Seeks false limits window effort bytes s = Searches limits bytes effort s

-- ---- how much may be looked at

-- The effort for one message, after so many bytes were looked at: 16 for each of the window; fewer if
-- those that were looked at are more than 16 for each byte that is done.
abbrev pub effort_of : (window done looked : ℕ) → ℕ
effort_of window done looked = 16 * window - (looked - 16 * done)

-- how many count as looked at after so many more: in all at most 16 for each byte that is done and
-- for each of the window
abbrev pub counted : (window done looked more : ℕ) → ℕ
counted window done looked more = min (looked + more) (max looked (16 * (done + window)))

-- how many bytes were looked at to find a fault
abbrev pub checked : Option ReadFault → ℕ
checked (Some (Format fault)) = fault.at
checked stopped = 0

-- so many bytes are looked ahead at: those of the window, and at least those that state a size
abbrev pub ahead_of : (window : ℕ) → ℕ
ahead_of window = max window 16

-- behind as many bytes as they state a whole message begins, if that is looked for
abbrev pub IsMet : (by_size : Bool) → Limits → List ℕ → Type 0
IsMet true limits bytes = (size : ℕ) × StatesSize limits bytes size × BeginsAt limits bytes size
IsMet false limits bytes = ⊥

-- what is found is the same whatever follows: all that is looked ahead at is there, or such a message
abbrev pub IsSettled : (by_size : Bool) → Limits → (window : ℕ) → List ℕ → Type 0
IsSettled by_size limits window w = (ahead_of window ≤ length w) ⊎ IsMet by_size limits (take window w)

-- this is found among as many bytes of the input as the window has: that is settled, or it has ended
abbrev pub IsFoundIn : (by_size : Bool) → Limits → (window effort : ℕ) → (ended : Bool) → List ℕ → Searched → Type 0
IsFoundIn by_size limits window effort ended w s = (IsSettled by_size limits window w ⊎ (ended ≡ true)) × Seeks by_size limits window effort (take window w) s

module _ {R A : Type 0} where
  -- what is left of the effort
  abbrev pub effort_in : (window : ℕ) → RawReader R A → ℕ
  effort_in window r = effort_of window (raw.done_of r) (raw.looked_of r + checked (raw.stopped_of r))

  -- no more bytes were looked at to go on than 16 for each that is done and for each of the window
  abbrev pub LooksAtFew : (window : ℕ) → RawReader R A → Type 0
  LooksAtFew window r = raw.looked_of r ≤ 16 * (raw.done_of r + window)

  -- what a call read: a read was made only if fewer bytes were there at first than are looked ahead
  -- at, and fewer than twice as many then, and no message was met
  abbrev pub ReadsToGoOn : (by_size : Bool) (window : ℕ) → (R → Option (List ℕ)) → (R → ℕ) → RawReader R A → RawReader R A → Type 0
  ReadsToGoOn by_size window left calls old new =
      next.ReadsWhile gathering (λ before. (length (raw.kept old) < ahead_of window) × (length (raw.kept old ++ before) < 2 * ahead_of window) × (IsMet by_size (raw.limits_of old) (take window (raw.kept old ++ before)) → ⊥)) left calls old.reader new.reader

  module _ (w : List ℕ) (old new : RawReader R A) (by_size : Bool) (window : ℕ) where
    -- twice as many bytes are there, if anything was read, unless the input ended or a message is met:
    -- so the last read gave some
    abbrev pub IsReadFar : Type 0
    IsReadFar = (raw.reads_of new ≡ raw.reads_of old) ⊎ ((2 * ahead_of window ≤ length w) ⊎ ((raw.is_ended new ≡ true) ⊎ IsMet by_size (raw.limits_of old) (take window w)))

    -- one more read is wanted: fewer bytes were kept at first, and fewer than twice as many are there
    -- now, and the input has not ended, nor is a message met
    abbrev pub WantsRead : Type 0
    WantsRead = (length (raw.kept old) < ahead_of window) × (length w < 2 * ahead_of window) × (raw.is_ended new ≡ false) × (IsMet by_size (raw.limits_of old) (take window w) → ⊥)

    -- memory is asked for: to put what is kept into one place, before anything is read; or for what
    -- is read next
    abbrev pub AsksForMemory : Type 0
    AsksForMemory = ((length (part_of old.reader) < length (raw.kept old)) × (w ≡ raw.kept old)) ⊎ WantsRead

  module _ (w : List ℕ) (old new : RawReader R A) where
    -- so many bytes are dropped, and the fault is gone
    pub record GoesTo (offset : ℕ) : Type 0 where
      pub inside : offset ≤ length w
      pub kept : raw.kept new ≡ drop offset w
      pub done : raw.done_of new ≡ raw.done_of old + offset
      pub lent : raw.lent_of new ≡ []
      pub stopped : raw.stopped_of new ≡ None

    -- all is kept, and the fault stays
    pub record StaysThere : Type 0 where
      pub kept : raw.kept new ≡ w
      pub done : raw.done_of new ≡ raw.done_of old
      pub lent : raw.lent_of old ≡ [] → raw.lent_of new ≡ []
      pub stopped : raw.stopped_of new ≡ raw.stopped_of old

    -- this is found within what is left of the effort, and what was looked at counts
    pub record FindsIn (by_size : Bool) (window : ℕ) (found : Found) : Type 0 where
      pub looked : ℕ
      pub is_found : IsFoundIn by_size (raw.limits_of old) window (effort_in window old) (raw.is_ended new) w (record { found = found; looked = looked })
      pub far : IsReadFar w old new by_size window
      pub counts : raw.looked_of new ≡ counted window (raw.done_of old) (raw.looked_of old) (checked (raw.stopped_of old) + looked)

    abbrev pub GoesBy : (by_size : Bool) → (window : ℕ) → Result Found ReadFault → Type 0
    GoesBy by_size window (Ok (At offset)) = FindsIn by_size window (At offset) × GoesTo offset
    GoesBy by_size window (Ok found) = FindsIn by_size window found × StaysThere
    GoesBy by_size window (Err TooManyReads) = StaysThere × (raw.reads_of new ≡ raw.most_reads_of new) × WantsRead w old new by_size window
    GoesBy by_size window (Err Memory) = StaysThere × AsksForMemory w old new by_size window
    -- a read gave bytes of a packet, and it does not note of which packets the bytes are that it holds
    GoesBy by_size window (Err (Format fault)) = StaysThere × (raw.stopped_of old ≡ Some (Format fault)) × (raw.packed_of new ≡ true)
    GoesBy by_size window (Err Device) = StaysThere × WantsRead w old new by_size window

    -- a call that goes on to the first message
    abbrev pub GoesOn : (window : ℕ) → Result Found ReadFault → Type 0
    GoesOn window result = GoesBy false window result

    -- or first where the size leads that the refused message states
    abbrev pub Resyncs : (window : ℕ) → Result Found ReadFault → Type 0
    Resyncs window result = GoesBy true window result

    -- all that was kept and read is in the buffer, and what is found is settled, or the input has ended
    pub record LooksAhead (by_size : Bool) (window : ℕ) : Type 0 where
      pub part : part_of new.reader ≡ w
      pub taker : new.reader.taker ≡ fresh (raw.limits_of old)
      pub done : raw.done_of new ≡ raw.done_of old
      pub stopped : raw.stopped_of new ≡ raw.stopped_of old
      pub nothing : new.refused.dropped ≡ 0
      pub enough : IsSettled by_size (raw.limits_of old) window w ⊎ (raw.is_ended new ≡ true)
      pub far : IsReadFar w old new by_size window

    abbrev pub Looks : (by_size : Bool) (window : ℕ) → Result (Unit {0}) ReadFault → Type 0
    Looks by_size window (Ok x) = LooksAhead by_size window
    Looks by_size window (Err TooManyReads) = StaysThere × (raw.reads_of new ≡ raw.most_reads_of new) × WantsRead w old new by_size window
    Looks by_size window (Err Memory) = StaysThere × AsksForMemory w old new by_size window
    Looks by_size window (Err (Format fault)) = ⊥
    Looks by_size window (Err Device) = StaysThere × WantsRead w old new by_size window

-- ---- laws

-- Bytes are found to go on in one place.
abbrev pub OneResumed : Type 0
OneResumed = (limits : Limits) (window effort : ℕ) (bytes : List ℕ) (s t : Searched) → Resumes limits window effort bytes s → Resumes limits window effort bytes t → s ≡ t

-- What is found is a part of damaged bytes: the bytes before the first message are lost; or, if none
-- begins in the window, they are the rest.
abbrev pub IsPartOf : Limits → (window : ℕ) → List ℕ → Found → Type 0
IsPartOf limits window w (At offset) = IsLost limits window w offset
IsPartOf limits window w Nowhere = IsRest limits window w
IsPartOf limits window w Spent = Unit {0}

-- So is what a call goes on to, if what it kept and read begins with no message.
abbrev pub GoesByParts : (R A : Type 0) → Type 0
GoesByParts R A = (window : ℕ) (w : List ℕ) (old new : RawReader R A) (found : Found) → BeginsWithNone (raw.limits_of old) w → GoesOn w old new window (Ok found) → IsPartOf (raw.limits_of old) window w found

-- And what it goes on to behind a message whose stated size leads nowhere.
abbrev pub ResyncsByParts : (R A : Type 0) → Type 0
ResyncsByParts R A = (window : ℕ) (w : List ℕ) (old new : RawReader R A) (found : Found) → BeginsWithNone (raw.limits_of old) w → LeadsNowhere (raw.limits_of old) window (take window w)
    → Resyncs w old new window (Ok found) → IsPartOf (raw.limits_of old) window w found
