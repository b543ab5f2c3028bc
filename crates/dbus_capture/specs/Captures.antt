-- What a capture reads of its file, and what it hands on.
use Rattle.std.specs.Prelude.{◌≡◌, ◌≢◌, ℕ, ◌+◌, ◌<◌, ◌≤◌, ◌^◌, ◌%◌, ◌⊎◌, ◌++◌, Bool, true, false, if◌then◌else◌, List, [], ◌∷◌, take, length, replicate, get_or, slice_range, Option, Some, None, is_some, Result, Ok, Err, IfOk}
use Rattle.std.specs.Io.KnownBytes.{Consumes, IsAtEnd, prepend_known}
use Rattle.std.specs.List.{All}
use Rattle.dbus_device.specs.Device.{one_more, ReadCounts}
use Rattle.dbus_device.specs.Calls.{joined, HasByte, ReadsPiece, ReadsPieces}
use Rattle.dbus_capture.specs.Types.{DeviceFault, Packet, Scan}
use Rattle.dbus_device.specs.Packets.{Packets}
use Rattle.dbus_capture.specs.Stages.{begun}
use Rattle.dbus_capture.specs.Beginnings.{first_stage}
use Rattle.dbus_capture.specs.Steps.{run, given, packets_given, ended}
use Rattle.dbus_capture.specs.declared.capture.Capture.{Capture}
use Rattle.dbus_capture.specs.declared.input.Input.{Input}

-- ---- a capture

-- what it has read of its input
abbrev pub input_of : {R : Type 0} → Capture R → Input R
input_of s = s.input

-- how often it was called
abbrev pub calls_of : {R : Type 0} → Capture R → ℕ
calls_of s = s.calls

-- the packet of the bytes that were handed on last, if they were of one
abbrev pub last_packet_of : {R : Type 0} → Capture R → Option Packet
last_packet_of s = s.packet

-- ---- its input

-- the source below
abbrev pub source_of : {R : Type 0} → Input R → R
source_of s = s.source

abbrev pub scan_of : {R : Type 0} → Input R → Scan
scan_of s = s.scan

-- the first bytes of a packet that were not handed on yet
abbrev pub owed_of : {R : Type 0} → Input R → List ℕ
owed_of s = s.owed

-- whether it is known what the input is
abbrev pub chosen_of : {R : Type 0} → Input R → Bool
chosen_of s = s.chosen

-- the bytes of the file that were read and not taken yet
abbrev pub kept_of : {R : Type 0} → Input R → List ℕ
kept_of s = slice_range s.bytes s.start s.end

-- how often a read gave up
abbrev pub gave_up_of : {R : Type 0} → Input R → ℕ
gave_up_of s = s.gave_up

-- how often a call failed: the source below failed in it, or it gave up
abbrev pub failures_of : {R : Type 0} → (R → ℕ) → Input R → ℕ
failures_of failures s = (failures (source_of s) + gave_up_of s) % 2 ^ 64

-- the bytes of the file that were not taken yet, if they are known
abbrev pub file_of : {R : Type 0} → (R → Option (List ℕ)) → Input R → Option (List ℕ)
file_of left s = prepend_known (kept_of s) (left (source_of s))

-- what is handed on of bytes, if they are known, after those that are owed
abbrev pub given_of : (owed : List ℕ) → Scan → Option (List ℕ) → Option (List ℕ)
given_of owed s None = None
given_of owed s (Some bytes) = Some (owed ++ given s bytes)

-- What is kept before these bytes, the rest of the file: of an input of which nothing was taken,
-- they say what it is.
abbrev pub opened : {R : Type 0} → Input R → List ℕ → Scan
opened s bytes = if s.chosen then s.scan else record s.scan { head = begun (first_stage bytes) }

-- these bytes, if they are known
abbrev pub known : Option (List ℕ) → List ℕ
known None = []
known (Some bytes) = bytes

abbrev pub opened_of : {R : Type 0} → (R → Option (List ℕ)) → Input R → Scan
opened_of left s = opened s (known (file_of left s))

-- the bytes of the packets that were not handed on yet, if they are known
abbrev pub left_of : {R : Type 0} → (R → Option (List ℕ)) → Input R → Option (List ℕ)
left_of left s = given_of (owed_of s) (opened_of left s) (file_of left s)

-- of which packet each of these is: those that are owed are of the one that began last
abbrev pub packets_from : (owed : List ℕ) → Scan → List ℕ → List (Option Packet)
packets_from owed s bytes = replicate (length owed) s.packet ++ packets_given s bytes

abbrev pub packets_by : (owed : List ℕ) → Scan → Option (List ℕ) → Option Packets
packets_by owed s None = None
packets_by owed s (Some bytes) = Some (λ i. get_or (packets_from owed s bytes) i None)

-- of which packet each byte is that was not handed on yet, if the bytes of the file are known
abbrev pub packets_of : {R : Type 0} → (R → Option (List ℕ)) → Input R → Option Packets
packets_of left s = packets_by (owed_of s) (opened_of left s) (file_of left s)

-- No call of the source below was made but where it was not known what the input is, and fewer than
-- four bytes of it were there; and each of these calls gave a byte.
abbrev pub AreFirst : {R : Type 0} → Input R → (pieces : List (List ℕ)) → Type 0
AreFirst s [] = Unit {0}
AreFirst s (last ∷ before) = (chosen_of s ≡ false) × (length (kept_of s ++ joined before) < 4) × All HasByte before

-- nothing changes but what is kept of the input: calls of the source below gave more of it
pub record Fetches {R : Type 0} (left : R → Option (List ℕ)) (calls : R → ℕ) (old new : Input R) : Type 0 where
  pub pieces : List (List ℕ)
  pub called : ReadsPieces left calls (source_of old) pieces (source_of new)
  pub first : AreFirst old pieces
  pub kept : kept_of new ≡ kept_of old ++ joined pieces
  pub owed : owed_of new ≡ owed_of old
  pub gave_up : gave_up_of new ≡ gave_up_of old

-- Four bytes of an input are there, or it ends; so it is known what it is. Nothing changes if that
-- was known.
pub record Begins {R : Type 0} (left : R → Option (List ℕ)) (calls failures : R → ℕ) (old new : Input R) : Type 0 where
  pub fetches : Fetches left calls old new
  pub enough : (chosen_of old ≡ true) ⊎ ((4 ≤ length (kept_of new)) ⊎ IsAtEnd (left (source_of new)))
  pub scan : scan_of new ≡ opened old (kept_of new)
  pub chosen : chosen_of new ≡ true
  pub unfailed : failures (source_of new) ≡ failures (source_of old)

-- the file has a fault, and nothing is owed
abbrev pub IsStopped : {R : Type 0} → Input R → Type 0
IsStopped s = (is_some (scan_of s).fault ≡ true) × (owed_of s ≡ [])

-- it is not known yet what an input is: the source below failed, or there is no room
pub record Waits {R : Type 0} (left : R → Option (List ℕ)) (calls failures : R → ℕ) (old new : Input R) (result : Result ℕ DeviceFault) (room : ℕ) : Type 0 where
  pub fetches : Fetches left calls old new
  pub scan : scan_of new ≡ scan_of old
  pub before : chosen_of old ≡ false
  pub after : chosen_of new ≡ false
  pub counted : ReadCounts (failures (source_of old)) (failures (source_of new)) result
  pub nothing : IfOk result (λ n. (n ≡ 0) × (0 < room → IsStopped new))

-- bytes of the file are kept, or the input is at its end
abbrev pub HasBytes : {R : Type 0} → (R → Option (List ℕ)) → Input R → Result Bool DeviceFault → Type 0
HasBytes left new (Ok true) = kept_of new ≢ []
HasBytes left new (Ok false) = (kept_of new ≡ []) × IsAtEnd (left (source_of new))
HasBytes left new (Err e) = kept_of new ≡ []

-- bytes are kept, and the source below is not called; or none are, and a call of it gave what is
-- kept then
abbrev pub Fills : {R : Type 0} → (R → Option (List ℕ)) → (R → ℕ) → Input R → Input R → Type 0
Fills left calls old new = ((kept_of old ≢ []) × (new ≡ old)) ⊎ ((kept_of old ≡ []) × ReadsPiece left calls (source_of old) (kept_of new) (source_of new))

-- These bytes of the file were taken, and these were handed on, all of the packet that began last.
-- What was owed is handed on first.
pub record Hands {R : Type 0} (old : Input R) (used out : List ℕ) (new : Input R) : Type 0 where
  pub ran : run (scan_of old) used ≡ scan_of new
  pub gave : owed_of old ++ given (scan_of old) used ≡ out ++ owed_of new
  pub one : packets_from (owed_of old) (scan_of old) used ≡ replicate (length out) (scan_of new).packet ++ replicate (length (owed_of new)) (scan_of new).packet

-- the bytes that were taken were kept
pub record HandsOn {R : Type 0} (old new : Input R) (out : List ℕ) : Type 0 where
  pub used : List ℕ
  pub front : kept_of old ≡ used ++ kept_of new
  pub leads : Hands old used out new

-- bytes of the file were taken
pub record Reads {R : Type 0} (left : R → Option (List ℕ)) (old new : Input R) (out : List ℕ) : Type 0 where
  pub used : List ℕ
  pub consumed : Consumes (file_of left old) (file_of left new) used
  pub leads : Hands old used out new

-- the rest of the file was taken, no byte of which is a packet's
pub record Ends {R : Type 0} (left : R → Option (List ℕ)) (old new : Input R) : Type 0 where
  pub used : List ℕ
  pub consumed : Consumes (file_of left old) (file_of left new) used
  pub gave : owed_of old ++ given (scan_of old) used ≡ []
  pub owed : owed_of new ≡ []
  pub ran : scan_of new ≡ ended (run (scan_of old) used)
  pub nothing : kept_of new ≡ []
  pub at_end : IsAtEnd (left (source_of new))

-- neither did the source below fail, nor did a read give up
pub record IsUnfailed {R : Type 0} (failures : R → ℕ) (old new : Input R) : Type 0 where
  pub source : failures (source_of new) ≡ failures (source_of old)
  pub gave_up : gave_up_of new ≡ gave_up_of old

-- the source below failed, no byte of a packet was taken, and none is kept
pub record SourceFails {R : Type 0} (left : R → Option (List ℕ)) (failures : R → ℕ) (old new : Input R) : Type 0 where
  pub reads : Reads left old new []
  pub source : failures (source_of new) ≡ one_more (failures (source_of old))
  pub gave_up : gave_up_of new ≡ gave_up_of old
  pub nothing : kept_of new ≡ []

-- 2^64 - 1 bytes of the file were taken, or more, none of which is a packet's
pub record GivesUp {R : Type 0} (left : R → Option (List ℕ)) (failures : R → ℕ) (old new : Input R) : Type 0 where
  pub reads : Reads left old new []
  pub many : 2 ^ 64 ≤ length reads.used + 1
  pub source : failures (source_of new) ≡ failures (source_of old)
  pub gave_up : gave_up_of new ≡ one_more (gave_up_of old)

-- What a read does. It gives no byte only at the end of the input, or if the file has a fault, or
-- if there is no room.
abbrev pub ReadsPart : {R : Type 0} → (R → Option (List ℕ)) → (R → ℕ) → Input R → Input R → Result ℕ DeviceFault → List ℕ → Type 0
ReadsPart left failures old new (Ok n) buffer = IsUnfailed failures old new
    × ((Reads left old new (take n buffer) × (n ≡ 0 → 0 < length buffer → IsStopped new))
    ⊎ ((n ≡ 0) × Ends left old new))
ReadsPart left failures old new (Err e) buffer = SourceFails left failures old new ⊎ GivesUp left failures old new

-- No call of the source below was made but where nothing is owed, and the bytes that were kept, and
-- then those that the calls before it gave, hold none of a packet; and each of these calls gave a byte.
abbrev pub AreNeeded : {R : Type 0} → Input R → (pieces : List (List ℕ)) → Type 0
AreNeeded s [] = Unit {0}
AreNeeded s (last ∷ before) = (owed_of s ++ given (scan_of s) (kept_of s ++ joined before) ≡ []) × All HasByte before

-- What a read asks of the source below. A call of it gives no byte only if the read fails, or finds
-- the end.
pub record Asks {R : Type 0} (left : R → Option (List ℕ)) (calls : R → ℕ) (old new : Input R) (result : Result ℕ DeviceFault) : Type 0 where
  pub pieces : List (List ℕ)
  pub called : ReadsPieces left calls (source_of old) pieces (source_of new)
  pub needed : AreNeeded old pieces
  pub found : All HasByte pieces ⊎ IfOk result (λ n. (n ≡ 0) × Ends left old new)

-- after a fault, or if there is no room, nothing is read and nothing changes
pub record IsStill {R : Type 0} (old new : Input R) (result : Result ℕ DeviceFault) : Type 0 where
  pub gives : result ≡ Ok 0
  pub source : source_of new ≡ source_of old
  pub scan : scan_of new ≡ scan_of old
  pub owed : owed_of new ≡ owed_of old

abbrev pub Stops : {R : Type 0} → Input R → Input R → Result ℕ DeviceFault → (room : ℕ) → Type 0
Stops old new result room = IsStopped old ⊎ (room ≡ 0) → IsStill old new result

-- a read of an input of which it is known what it is, after what that took
pub record ReadsOn {R : Type 0} (left : R → Option (List ℕ)) (calls failures : R → ℕ) (old new : Input R) (result : Result ℕ DeviceFault) (buffer : List ℕ) : Type 0 where
  pub mid : Input R
  pub begins : Begins left calls failures old mid
  pub part : ReadsPart left failures mid new result buffer
  pub asks : Asks left calls mid new result
  pub chosen : chosen_of new ≡ true

-- what a read does
abbrev pub ReadsInput : {R : Type 0} → (R → Option (List ℕ)) → (calls failures : R → ℕ) → Input R → Input R → Result ℕ DeviceFault → List ℕ → Type 0
ReadsInput left calls failures old new result buffer = ReadsOn left calls failures old new result buffer ⊎ Waits left calls failures old new result (length buffer)
