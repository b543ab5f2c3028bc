-- A reader that gives messages: what it keeps, and what it answers. D-Bus Specification, "Message
-- Protocol".
use Rattle.std.specs.Prelude.{◌≡◌, ◌++◌, ℕ, List, [], slice_range, false, Option, None, Result}
use Rattle.dbus_device.specs.Packets.{Packets}
use Rattle.dbus_device.specs.declared.packet.Packet.{Packet}
use Rattle.dbus_value_model.specs.declared.limits.Limits.{Limits}
use Rattle.dbus_value_model.specs.declared.order.Order.{Order}
use Rattle.dbus_message_model.specs.declared.message.Message.{Message}
use Rattle.dbus_stream.specs.Rooms.{put_or}
use Rattle.dbus_stream.specs.CutterTaking.{cutting}
use Rattle.dbus_stream.specs.Next as next
use Rattle.dbus_stream.specs.Packets as input
use Rattle.dbus_stream.specs.declared.message_reader.MessageReader.{MessageReader}
use Rattle.dbus_stream.specs.declared.read_fault.ReadFault.{ReadFault}

module _ {R A : Type 0} where
  -- the limits that its messages keep
  abbrev pub limits_of : MessageReader R A → Limits
  limits_of r = r.reader.taker.limits

  -- the bytes that were read and not yet given
  abbrev pub kept : MessageReader R A → List ℕ
  kept r = r.reader.taker.held ++ slice_range (put_or r.reader.put r.reader.buffer.bytes) r.reader.start r.reader.end

  -- the device below
  abbrev pub source_of : MessageReader R A → R
  source_of r = r.reader.source

  -- how many bytes all the messages have that were given
  abbrev pub done_of : MessageReader R A → ℕ
  done_of r = r.reader.done

  -- the fault that it answers for good, where it met one
  abbrev pub stopped_of : MessageReader R A → Option ReadFault
  stopped_of r = r.reader.stopped

  -- a reader of the device, which may make so many reads in all, keeps to the limits, and read
  -- nothing yet
  pub record IsNewReader (device : R) (most : ℕ) (within : Limits) (r : MessageReader R A) : Type 0 where
    pub source : source_of r ≡ device
    pub most_reads : r.reader.most_reads ≡ most
    pub limits : limits_of r ≡ within
    pub kept : kept r ≡ []
    pub done : done_of r ≡ 0
    pub reads : r.reader.reads ≡ 0
    pub ended : r.reader.ended ≡ false
    pub stopped : stopped_of r ≡ None

  -- what a call read, and that it counted it
  abbrev pub Reads : (R → Option (List ℕ)) → (R → ℕ) → MessageReader R A → MessageReader R A → Type 0
  Reads left calls old new = next.Reads (cutting A) left calls (kept old) old.reader new.reader

  -- the bytes of the input are still of the packets that they were of, whatever these are
  abbrev pub KeepsPackets : (R → Option Packets) → (R → Option Packet) → MessageReader R A → MessageReader R A → Type 0
  KeepsPackets packets packet old new = input.KeepsPackets packets packet old.reader new.reader

  -- nothing was read
  abbrev pub ReadsNothing : MessageReader R A → MessageReader R A → Type 0
  ReadsNothing old new = next.ReadsNothing (cutting A) old.reader new.reader

  -- what it answers by its limits, where it was not stopped before. w is what was kept and then
  -- what was read
  abbrev pub NextAnswers : List ℕ → MessageReader R A → MessageReader R A → Result (Option (Order × Message A)) ReadFault → Type 0
  NextAnswers w old new answer = next.NextAnswers (cutting A) w old.reader new.reader answer

  -- and what it answers out of what is kept alone
  abbrev pub KeptAnswers : MessageReader R A → MessageReader R A → Result (Option (Order × Message A)) ReadFault → Type 0
  KeptAnswers old new answer = next.KeptAnswers (cutting A) (kept old) old.reader new.reader answer
