-- What an input is made of: messages, and others that are refused and passed over: in a capture up
-- to the next packet, else by the size that their first sixteen bytes state, or, if that is looked
-- for, up to where messages begin again, and by the size only if that is nowhere. D-Bus Specification, "Message Format".
use Rattle.std.specs.Prelude.{◌≡◌, ◌⊎◌, ℕ, ◌+◌, ◌*◌, ◌-◌, ◌<◌, ◌≤◌, Bool, true, false, ◌||◌, List, [], ◌∷◌, length, take, drop, map, Option, None, Some, is_some}
use Rattle.dbus_device.specs.Packets.{Packets}
use Rattle.dbus_device.specs.declared.packet.Packet.{Packet}
use Rattle.dbus_value_model.specs.declared.fault.Fault.{Fault}
use Rattle.dbus_value_model.specs.declared.limits.Limits.{Limits}
use Rattle.dbus_header.specs.MessageOutcomes.{IsWhole, IsRefused}
use Rattle.dbus_resync.specs.declared.found.Found.{Found}
use Rattle.dbus_resync.specs.declared.found.Found.TheVariants.{At}
use Rattle.dbus_resync.specs.declared.found.Searched.{Searched}
use Rattle.cli_options.specs.declared.resync.Resync.{Resync}
use Rattle.cli_options.specs.declared.resync.Resync.TheVariants.{Off, Within}
use Rattle.cli_options.specs.declared.settings.Settings.{Settings}
use Rattle.dbus_stream.specs.Cut.{CutMessage, CutOutcome, Ended, Unfinished, Refused}
use Rattle.dbus_stream.specs.GoingOn.{IsSettled, Resumes, counted, effort_of}
use Rattle.dbus_stream.specs.Lasting.{is_truncated}
use Rattle.dbus_stream.specs.Next.{IsCutShort}
use Rattle.dbus_stream.specs.Packed.{IsOther}
use Rattle.dbus_stream.specs.PassingPackets.{AreOfNumber}
use Rattle.dbus_stream.specs.StatedSizes.{StatesNone, StatesSize, WantsMore}
use Rattle.cli_report.specs.FaultFronts.{IsFaultFront}
use Rattle.cli_run.specs.Refusals.{IsRefusedIn}
use Rattle.cli_run.specs.declared.place.MessagePlace.{MessagePlace}

-- by what the size of a refused message is known: by its first sixteen bytes; by the next packet,
-- after that of its fault, of this number; by where messages begin again within a window, by an
-- effort and how many bytes were looked at, and whether the input ends there; or, if they begin again
-- nowhere in that, by its first sixteen bytes
pub data By : Type 0 where
  Stated : By
  InPacket : ℕ → By
  Resumed : (window effort looked : ℕ) → Bool → By
  PastWindow : (window effort looked : ℕ) → By

-- a part of an input: a message; or one that is refused and passed over, which has so many bytes,
-- with those bytes that show its fault
pub data Part : Type 0 where
  Whole : CutMessage → Part
  PassedOver : (front : List ℕ) → Fault → By → ℕ → Part

abbrev pub size_of : Part → ℕ
size_of (Whole item) = item.size
size_of (PassedOver front fault by size) = size

abbrev pub sizes_of : List Part → ℕ
sizes_of [] = 0
sizes_of (part ∷ parts) = size_of part + sizes_of parts

-- where messages begin again among the first bytes, as many as the window has, by an effort
abbrev pub ResumeIn : Limits → (window effort : ℕ) → List ℕ → Searched → Type 0
ResumeIn limits window effort bytes s = Resumes limits window effort (take window bytes) s

abbrev pub is_there : Found → Bool
is_there (At offset) = true
is_there found = false

-- messages begin again nowhere in the window, and what is found there is settled, unless the input
-- ends before
pub record BeginNowhere (limits : Limits) (window effort : ℕ) (rest : List ℕ) (at_end : Type 0) : Type 0 where
  pub searched : Searched
  pub nowhere : is_there searched.found ≡ false
  pub resumes : ResumeIn limits window effort rest searched
  pub all : IsSettled true limits window rest ⊎ at_end

-- the message that the bytes begin with states that it is larger than the window
abbrev pub IsLarger : Limits → (window : ℕ) → List ℕ → Type 0
IsLarger limits window bytes = (size : ℕ) × StatesSize limits bytes size × (window < size)

-- a refused message has this size: that which it states, and so many bytes are there; or, of a
-- packet, that of at least the bytes that show its fault, and others follow; or messages begin again
-- behind it, and what is found is settled, unless the input ends there; or they begin again
-- nowhere in the window, and it states this size, which is larger, and so many bytes are there
abbrev pub HasSize : Limits → (front bytes : List ℕ) → By → ℕ → Type 0
HasSize limits front bytes Stated size = StatesSize limits bytes size × (size ≤ length bytes)
HasSize limits front bytes (InPacket number) size = (length front ≤ size) × (size < length bytes)
HasSize limits front bytes (Resumed window effort looked to_end) size = ResumeIn limits window effort bytes (record { found = At size; looked = looked }) × (to_end ≡ false → IsSettled true limits window bytes)
HasSize limits front bytes (PastWindow window effort looked) size =
    (none : BeginNowhere limits window effort bytes (Unit {0})) × (none.searched.looked ≡ looked) × StatesSize limits bytes size × (window < size) × (size ≤ length bytes)

-- it is refused for this, and what is found behind it is not settled before the input ends, if that
-- is told; or the input ends within it, and messages begin again before
abbrev pub IsFaultOf : Limits → List ℕ → Fault → By → Type 0
IsFaultOf limits bytes fault (Resumed window effort looked true) = (IsRefused limits bytes fault × (IsSettled true limits window bytes → ⊥)) ⊎ IsCutShort limits bytes fault
IsFaultOf limits bytes fault by = IsRefused limits bytes fault

-- the bytes begin with this part
abbrev pub IsPart : Limits → List ℕ → Part → Type 0
IsPart limits bytes (Whole item) = IsWhole limits bytes item.order item.message item.size
IsPart limits bytes (PassedOver front fault by size) = IsFaultFront limits bytes front × IsFaultOf limits bytes fault by × HasSize limits front bytes by size

-- the input ends within a window that was looked at for one of the parts
abbrev pub is_to_end : By → Bool
is_to_end (Resumed window effort looked to_end) = to_end
is_to_end by = false

abbrev pub reach_end : List Part → Bool
reach_end [] = false
reach_end (Whole item ∷ parts) = reach_end parts
reach_end (PassedOver front fault by size ∷ parts) = is_to_end by || reach_end parts

-- the bytes are these parts, one after the other, and then the rest
abbrev pub BeginWithParts : Limits → List ℕ → List Part → List ℕ → Type 0
BeginWithParts limits bytes [] rest = bytes ≡ rest
BeginWithParts limits bytes (part ∷ parts) rest = IsPart limits bytes part × BeginWithParts limits (drop (size_of part) bytes) parts rest

-- the bytes at these places are of the packet of this number, if the packets of the input are known
abbrev pub AreInPacket : Option Packets → (number from end : ℕ) → Type 0
AreInPacket None number from end = Unit {0}
AreInPacket (Some packets) number from end = AreOfNumber packets number from end

-- the byte at this place is of another packet, or of none
abbrev pub IsInOther : Option Packets → (number place : ℕ) → Type 0
IsInOther None number place = Unit {0}
IsInOther (Some packets) number place = IsOther number (packets place)

-- ---- how messages are looked for behind one that is refused

-- not at all; or in a window of so many bytes, by this effort
pub data Seek : Type 0 where
  Unsought : Seek
  SoughtIn : (window effort : ℕ) → Seek

-- as is asked for, at this offset, after so many bytes were looked at
abbrev pub seek_of : Resync → (offset looked : ℕ) → Seek
seek_of Off offset looked = Unsought
seek_of (Within window) offset looked = SoughtIn window (effort_of window offset looked)

-- how many count as looked at behind a part that begins at this offset, of those before it
abbrev pub looked_for : By → (at offset looked : ℕ) → ℕ
looked_for (Resumed window effort more to_end) at offset looked = counted window offset looked (at + more)
looked_for (PastWindow window effort more) at offset looked = counted window offset looked (at + more)
looked_for by at offset looked = looked

abbrev pub looked_after : Part → (offset looked : ℕ) → ℕ
looked_after (Whole item) offset looked = looked
looked_after (PassedOver front fault by size) offset looked = looked_for by fault.at offset looked

-- behind several
abbrev pub looked_behind : List Part → (offset looked : ℕ) → ℕ
looked_behind [] offset looked = looked
looked_behind (part ∷ parts) offset looked = looked_behind parts (offset + size_of part) (looked_after part offset looked)

-- behind the first parts of an input
abbrev pub looked_in : List Part → ℕ
looked_in parts = looked_behind parts 0 0

-- A message at this offset is refused, and passed over as is asked for: by a byte of no packet; or by
-- one of the packet of this number, and so many of its bytes are passed over: all that follow in the
-- packet, up to the first one of another.
abbrev pub IsPassedBy : Option Packets → Seek → Limits → (offset : ℕ) → (front : List ℕ) → By → (size : ℕ) → Type 0
IsPassedBy packets seek limits offset front Stated size = (seek ≡ Unsought) × IsRefusedIn packets limits offset front None
IsPassedBy packets seek limits offset front (Resumed window effort looked to_end) size = (seek ≡ SoughtIn window effort) × IsRefusedIn packets limits offset front None
IsPassedBy packets seek limits offset front (PastWindow window effort looked) size = (seek ≡ SoughtIn window effort) × IsRefusedIn packets limits offset front None
IsPassedBy packets seek limits offset front (InPacket number) size =
    IsRefusedIn packets limits offset front (Some number) × AreInPacket packets number (offset + length front) (offset + size) × IsInOther packets number (offset + size)

-- the size by which it is passed over is more than there is, or not stated yet; if it is looked for
-- where messages begin again, it is the size of one larger than the window, in which that is nowhere
abbrev pub WantsMoreBy : Seek → Limits → List ℕ → Type 0
WantsMoreBy Unsought limits rest = WantsMore limits rest
WantsMoreBy (SoughtIn window effort) limits rest = BeginNowhere limits window effort rest (Unit {0}) × IsLarger limits window rest × WantsMore limits rest

-- a refused message goes on to the end of the rest: by the size by which it is passed over; or all
-- that follows the bytes that show its fault is of the packet of that
abbrev pub GoesPast : Option Packets → Seek → Limits → (offset : ℕ) → (rest : List ℕ) → Option ℕ → Type 0
GoesPast packets seek limits offset rest None = WantsMoreBy seek limits rest
GoesPast packets seek limits offset rest (Some number) = (front : List ℕ) → IsFaultFront limits rest front → AreInPacket packets number (offset + length front) (offset + length rest)

-- so it does, and this is the packet of its fault, if that is of one
abbrev pub IsCutOff : Option Packets → Seek → Limits → (offset : ℕ) → (rest : List ℕ) → (by : Option ℕ) → Type 0
IsCutOff packets seek limits offset rest by = IsRefusedIn packets limits offset rest by × GoesPast packets seek limits offset rest by

-- ---- what is not passed over

-- a refused message is not passed over, though that is asked for: its fault is of no packet, and it
-- states no size within the limits, or messages begin again nowhere in the window and it states no
-- size that is larger
abbrev pub IsUnpassed : Option Packets → Seek → Limits → (offset : ℕ) → (rest : List ℕ) → Type 0 → Type 0
IsUnpassed packets Unsought limits offset rest at_end = IsRefusedIn packets limits offset rest None × StatesNone limits rest
IsUnpassed packets (SoughtIn window effort) limits offset rest at_end =
    IsRefusedIn packets limits offset rest None × BeginNowhere limits window effort rest at_end × (IsLarger limits window rest → ⊥)

-- nor is one that the input ends within: it came in a packet, or messages begin again nowhere
abbrev pub IsCutUnpassed : Option Packets → Seek → Limits → (offset : ℕ) → (rest : List ℕ) → Type 0 → Type 0
IsCutUnpassed packets Unsought limits offset rest at_end = Unit {0}
IsCutUnpassed packets (SoughtIn window effort) limits offset rest at_end =
    (packet : Option ℕ) × IsRefusedIn packets limits offset rest packet × (packet ≡ None → BeginNowhere limits window effort rest at_end)

-- the fault of the rest shows: it is refused, or the input ends there
abbrev pub IsTellable : CutOutcome → Type 0 → Type 0
IsTellable (Refused fault) at_end = Unit {0}
IsTellable outcome at_end = at_end

-- why nothing follows the parts but the rest, which is at this offset: the input ends there, or
-- within a message; or a message is refused, and the run is not to go on, or it is not passed over;
-- or cut says that one is passed over that goes on to the end of the input, and of which packet its
-- fault is. looked is how many bytes count as looked at before
abbrev pub IsLast : Option Packets → (cut : Option (Option ℕ)) → Settings → Limits → (offset looked : ℕ) → (rest : List ℕ) → CutOutcome → Type 0 → Type 0
IsLast packets None settings limits offset looked rest Ended at_end = at_end
IsLast packets None settings limits offset looked rest Unfinished at_end =
    at_end × (settings.keeps_going ≡ true → IsCutUnpassed packets (seek_of settings.resync offset (looked + length rest)) limits offset rest at_end)
IsLast packets None settings limits offset looked rest (Refused fault) at_end =
    settings.keeps_going ≡ true → is_truncated fault.reason ≡ false → IsUnpassed packets (seek_of settings.resync offset (looked + fault.at)) limits offset rest at_end
IsLast packets (Some by) settings limits offset looked rest (Refused fault) at_end =
    IsCutOff packets (seek_of settings.resync offset (looked + fault.at)) limits offset rest by × at_end × (settings.keeps_going ≡ true)
IsLast packets (Some by) settings limits offset looked rest outcome at_end = ⊥

-- ---- the messages among the parts

-- when a packet was captured, if that is known
abbrev pub time_of : Option Packet → Option ℕ
time_of None = None
time_of (Some packet) = packet.time

-- it is the time of the packet of the byte before this place, if the packets of the input are known
abbrev pub IsTimeBefore : Option Packets → (end : ℕ) → Option ℕ → Type 0
IsTimeBefore None end time = Unit {0}
IsTimeBefore (Some packets) end time = time ≡ time_of (packets (end - 1))

-- this says whether the byte before this place came in a packet, if the packets of the input are
-- known
abbrev pub IsPacketBefore : Option Packets → (end : ℕ) → Bool → Type 0
IsPacketBefore None end in_packet = Unit {0}
IsPacketBefore (Some packets) end in_packet = in_packet ≡ is_some (packets (end - 1))

-- a message of an input, and its place there
pub record Placed : Type 0 where
  pub place : MessagePlace
  pub item : CutMessage

-- this is the n-th message of its input and begins at this offset, and its time is that of its last
-- byte, which came in a packet or not
pub record IsPlaced (packets : Option Packets) (n offset : ℕ) (item : CutMessage) (m : Placed) : Type 0 where
  pub item_is : m.item ≡ item
  pub number_is : m.place.number ≡ n
  pub offset_is : m.place.offset ≡ offset
  pub time_is : IsTimeBefore packets (offset + item.size) m.place.time
  pub packet_is : IsPacketBefore packets (offset + item.size) m.place.in_packet

-- these are the messages among parts, of which the first is the n-th of its input and begins at
-- this offset
abbrev pub ArePlaced : Option Packets → (n offset : ℕ) → List Part → List Placed → Type 0
ArePlaced packets n offset [] messages = messages ≡ []
ArePlaced packets n offset (Whole item ∷ parts) [] = ⊥
ArePlaced packets n offset (Whole item ∷ parts) (m ∷ messages) = IsPlaced packets n offset item m × ArePlaced packets (n + 1) (offset + item.size) parts messages
ArePlaced packets n offset (PassedOver front fault by size ∷ parts) messages = ArePlaced packets (n + 1) (offset + size) parts messages

-- messages alone, as parts
abbrev pub wholes : List CutMessage → List Part
wholes items = map Whole items
