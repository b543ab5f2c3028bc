-- What is read if messages are handed to a visitor from where a reader stands, and what becomes of
-- the visitor. kept is what the reader keeps there, and before is how many messages came before. k
-- is what is known of its taker, and limits are those that each message keeps. Are says what is
-- known of the packets of the input.
use Rattle.std.specs.Prelude.{◌≡◌, ◌⊎◌, ℕ, ◌+◌, ◌-◌, ◌<◌, Bool, List, [], ◌++◌, true, false, length, take, Option, None, Some, Result, Ok, Err}
use Rattle.std.specs.Io.KnownBytes.{Consumes, IsAtEnd}
use Rattle.dbus_value_model.specs.declared.fault.Fault.{Fault}
use Rattle.dbus_value_model.specs.declared.limits.Limits.{Limits}
use Rattle.dbus_header.specs.MessageOutcomes.{IsPartial}
use Rattle.dbus_device.specs.Device.{one_more, RisesBy}
use Rattle.dbus_device.specs.Packets.{Packets}
use Rattle.dbus_device.specs.declared.packet.Packet.{Packet}
use Rattle.dbus_stream.specs.Cut.{CutMessage, BeginWith, CutOutcome, Refused, IsOutcome}
use Rattle.dbus_stream.specs.CutEnds.{fault_at_end, sizes}
use Rattle.dbus_stream.specs.Gathering.{gathering}
use Rattle.dbus_stream.specs.Packets.{HasPackets}
use Rattle.dbus_stream.specs.RawReading as raw
use Rattle.dbus_stream.specs.Reading.{limits_of, source_of, done_of, read_of, last_of, reads_of, most_reads_of, is_ended}
use Rattle.dbus_stream.specs.Taking.{Taking}
use Rattle.dbus_stream.specs.declared.buffer.Buffer.{Ghosts}
use Rattle.dbus_stream.specs.declared.raw_reader.RawReader.{RawReader}
use Rattle.dbus_stream.specs.declared.reader.Reader.{Reader}
use Rattle.dbus_stream.specs.declared.read_fault.ReadFault.{ReadFault}
use Rattle.dbus_stream.specs.declared.read_fault.ReadFault.TheVariants.{Format}
use Rattle.cli_report.specs.declared.ending.Cause.{Cause}
use Rattle.cli_report.specs.declared.ending.Cause.TheVariants.{ReadFailed, TooManyReads}
use Rattle.cli_run.specs.Inputs.{ArePlaced, Placed, wholes}
use Rattle.cli_run.specs.Needed.{IsUnshown, ReadsIf}
use Rattle.cli_run.specs.Visiting.{AreWanted, FillsBy, IsOfReading}
use Rattle.cli_run.specs.declared.counted.Counted.{Counted}
use Rattle.cli_run.specs.declared.visitor.RunStop.{RunStop}
use Rattle.cli_run.specs.declared.visitor.RunStop.TheVariants.{Cause as ByCause}

-- the fault that a reader answers for good after it
abbrev pub stop_of : Option Fault → Option ReadFault
stop_of None = None
stop_of (Some fault) = Some (Format fault)

-- where reading was given up, what is left is no message and no fault, as far as it goes
abbrev pub AreAll : Limits → Cause → List ℕ → Type 0
AreAll limits ReadFailed rest = IsPartial limits rest
AreAll limits TooManyReads rest = IsPartial limits rest
AreAll limits cause rest = Unit {0}

module _ {R T B A : Type 0} {b : Ghosts B} (left : R → Option (List ℕ)) where
  -- where a read gave the end, nothing is left
  abbrev pub IsTrueEnd : Reader R T B A b → Type 0
  IsTrueEnd r = is_ended r ≡ true → IsAtEnd (left (source_of r))

module _ {R T B A : Type 0} {b : Ghosts B} (failures : R → ℕ) where
  -- why no more messages are handed on, as far as the reader shows it
  abbrev pub StopsFor : Cause → Reader R T B A b → Reader R T B A b → Type 0
  StopsFor ReadFailed old new = failures (source_of new) ≡ one_more (failures (source_of old))
  StopsFor TooManyReads old new = (failures (source_of new) ≡ failures (source_of old)) × (reads_of new ≡ most_reads_of new)
  StopsFor cause old new = failures (source_of new) ≡ failures (source_of old)

-- these are the messages that were read from this offset on
abbrev pub AreHanded : (before : ℕ) (Are : Option Packets → Type 0) (offset : ℕ) → List CutMessage → List Placed → Type 0
AreHanded before Are offset items messages = (packets : Option Packets) → Are packets → ArePlaced packets (before + 1) offset (wholes items) messages

module _ {R T B A G : Type 0} {b : Ghosts B} (k : Taking T G) (left : R → Option (List ℕ)) (calls : R → ℕ) (limits : Limits) (kept : List ℕ) where
  -- what was kept and then read is these messages, and then the rest
  pub record HasRead (old new : Reader R T B A b) (items : List CutMessage) (rest : List ℕ) : Type 0 where
    pub bytes : List ℕ
    pub count : ℕ
    pub consumed : Consumes (left (source_of old)) (left (source_of new)) bytes
    pub messages : BeginWith limits (kept ++ bytes) items rest
    pub reads : reads_of new ≡ reads_of old + count
    pub called : RisesBy count (calls (source_of old)) (calls (source_of new))
    pub most_reads : most_reads_of new ≡ most_reads_of old
    pub limits_are : limits_of k new ≡ limits
    pub at_end : IsTrueEnd left old → IsTrueEnd left new
    -- after the end there is nothing to read
    pub settled : is_ended old ≡ true → (bytes ≡ []) × (is_ended new ≡ true)

  module _ {S : Type 0} (failures : R → ℕ) (takes : S → S → List Placed → (told : List ℕ) → Type 0) (leaves : S → S → List Placed → (told : List ℕ) → RunStop → Type 0)
      (full : S → Bool) (before : ℕ) (Are : Option Packets → Type 0) where
    -- all messages were handed on, up to the end of the input or a fault
    pub record HandsAllOn (counted : Counted) (old new : Reader R T B A b) (s0 s1 : S) : Type 0 where
      pub items : List CutMessage
      pub rest : List ℕ
      pub outcome : CutOutcome
      pub read : HasRead old new items rest
      pub outcome_is : IsOutcome limits rest outcome
      -- all that was read and not given is the rest, whose fault shows in what the last read gave
      pub read_all : read_of new ≡ done_of new + length rest
      pub shows_last : IsPartial limits (take (length rest - last_of new) rest)
      -- each read was made only if what had come of it showed none
      pub needed : ReadsIf left calls (λ came. IsUnshown limits (sizes items) rest (length kept + came))
          (source_of old) (source_of new)
      -- without a fault that bytes show, all was read
      pub ended : ((f : Fault) → outcome ≡ Refused f → ⊥) → is_ended new ≡ true
      pub count_is : counted.count ≡ before + length items
      pub size_is : counted.size ≡ done_of old + sizes items
      pub fault_is : counted.fault ≡ fault_at_end rest outcome
      pub done : done_of new ≡ counted.size
      pub messages : List Placed
      pub placed : AreHanded before Are (done_of old) items messages
      pub taken : takes s0 s1 messages []
      pub wanted : AreWanted (FillsBy takes full s0) [] messages
      pub failed : failures (source_of new) ≡ failures (source_of old)

    -- some of the first messages were handed on
    pub record HandsSomeOn (cause : Cause) (old new : Reader R T B A b) (s0 s1 : S) : Type 0 where
      pub items : List CutMessage
      pub rest : List ℕ
      pub read : HasRead old new items rest
      pub all : AreAll limits cause rest
      pub messages : List Placed
      pub placed : AreHanded before Are (done_of old) items messages
      pub wanted : AreWanted (FillsBy takes full s0) [] messages
      pub unfilled : IsOfReading (ByCause cause) → FillsBy takes full s0 messages false
      pub given_up : leaves s0 s1 messages [] (ByCause cause)
      pub caused : StopsFor failures cause old new

    abbrev pub HandsOn : Reader R T B A b → Reader R T B A b → S → S → Result Counted Cause → Type 0
    HandsOn old new s0 s1 (Ok counted) = HandsAllOn counted old new s0 s1
    HandsOn old new s0 s1 (Err cause) = HandsSomeOn cause old new s0 s1

module _ {R T B A : Type 0} {b : Ghosts B} (packets : R → Option Packets) (packet : R → Option Packet) where
  -- the bytes of the input are of these packets, if they are known
  abbrev pub HasPacketsIf : Reader R T B A b → Option Packets → Type 0
  HasPacketsIf r None = Unit {0}
  HasPacketsIf r (Some all) = HasPackets packets packet all r

module _ {R A : Type 0} (packets : R → Option Packets) (packet : R → Option Packet) where
  abbrev pub HasKnownPackets : RawReader R A → Option Packets → Type 0
  HasKnownPackets r known = HasPacketsIf packets packet r.reader known

module _ {R A S : Type 0} (left : R → Option (List ℕ)) (calls failures : R → ℕ) (packets : R → Option Packets) (packet : R → Option Packet)
    (takes : S → S → List Placed → (told : List ℕ) → Type 0) (leaves : S → S → List Placed → (told : List ℕ) → RunStop → Type 0) (full : S → Bool) (limits : Limits) (before : ℕ) where
  -- a reader of raw messages keeps the rest then, and answers the fault. More messages are wanted
  pub record HandsRawOn (counted : Counted) (old new : RawReader R A) (s0 s1 : S) : Type 0 where
    pub all : HandsAllOn gathering left calls limits (raw.kept old) failures takes leaves full before (HasKnownPackets packets packet old) counted old.reader new.reader s0 s1
    pub kept : raw.kept new ≡ all.rest
    pub stopped : raw.stopped_of new ≡ stop_of counted.fault
    pub unfilled : full s1 ≡ false

  -- or no more are wanted after some messages. The reader keeps what follows them
  pub record HandsEnough (counted : Counted) (old new : RawReader R A) (s0 s1 : S) : Type 0 where
    pub items : List CutMessage
    pub read : HasRead gathering left calls limits (raw.kept old) old.reader new.reader items (raw.kept new)
    pub count_is : counted.count ≡ before + length items
    pub size_is : counted.size ≡ raw.done_of old + sizes items
    pub fault_is : counted.fault ≡ None
    pub done : raw.done_of new ≡ counted.size
    pub messages : List Placed
    pub placed : AreHanded before (HasKnownPackets packets packet old) (raw.done_of old) items messages
    pub taken : takes s0 s1 messages []
    pub wanted : AreWanted (FillsBy takes full s0) [] messages
    pub enough : full s1 ≡ true
    pub needed : ReadsIf left calls (λ came. length (raw.kept old) + came < sizes items)
        (raw.source_of old) (raw.source_of new)
    pub failed : failures (raw.source_of new) ≡ failures (raw.source_of old)

  abbrev pub RawHandsOn : RawReader R A → RawReader R A → S → S → Result Counted Cause → Type 0
  RawHandsOn old new s0 s1 (Ok counted) = HandsRawOn counted old new s0 s1 ⊎ HandsEnough counted old new s0 s1
  RawHandsOn old new s0 s1 (Err cause) = HandsSomeOn gathering left calls limits (raw.kept old) failures takes leaves full before (HasKnownPackets packets packet old) cause old.reader new.reader s0 s1
