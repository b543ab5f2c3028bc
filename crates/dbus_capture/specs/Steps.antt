-- How a file is read, byte by byte. The code takes many bytes at once, and gives what this gives.
use Rattle.std.specs.Prelude.{◌≡◌, ℕ, zero, suc, ◌+◌, ◌-◌, ◌^◌, nat_eq, Bool, true, false, if◌then◌else◌, List, [], ◌∷◌, ◌++◌, length, replicate, get_or, Option, Some, None}
use Rattle.dbus_capture.specs.Types.{Packet, Stage, Record, Block, CaptureFault, Truncated, Scan}
use Rattle.dbus_device.specs.Packets.{Packets}
use Rattle.dbus_capture.specs.Stages.{begun, want, is_raw}
use Rattle.dbus_capture.specs.Scans.{place}
use Rattle.dbus_capture.specs.Heads.{front_out}
use Rattle.dbus_capture.specs.Blocks.{decoded}

-- what is done with the next byte
pub data Turn : Type 0 where
  -- nothing, after a fault
  Stays : Turn
  -- it is handed on, of a stream with no file around it
  Passes : Turn
  -- it is handed on, of a packet
  Gives : Turn
  -- it is passed over
  Skips : Turn
  -- it is a head's
  Gathers : Turn

abbrev pub counted_turn : ℕ → ℕ → Turn
counted_turn zero zero = Gathers
counted_turn zero (suc n) = Skips
counted_turn (suc n) skip = Gives

abbrev pub turn_by : Option CaptureFault → Bool → ℕ → ℕ → Turn
turn_by (Some f) raw give skip = Stays
turn_by None true give skip = Passes
turn_by None false give skip = counted_turn give skip

abbrev pub turn_of : Scan → Turn
turn_of s = turn_by s.fault (is_raw s.head.stage) s.give s.skip

-- these bytes of a head are there
abbrev pub gathered : Scan → List ℕ → Scan
gathered s bytes = if nat_eq (length bytes) (want s.head.stage) then decoded (record s { head = begun s.head.stage }) bytes
    else record s { head = record { stage = s.head.stage; bytes = bytes } }

abbrev pub stepped : Scan → ℕ → Turn → Scan
stepped s b Stays = s
stepped s b Passes = s
stepped s b Gives = record s { give = s.give - 1 }
stepped s b Skips = record s { skip = s.skip - 1 }
stepped s b Gathers = gathered s (s.head.bytes ++ b ∷ [])

-- what is handed on at a byte: it, or the first bytes of a packet at the last of them
abbrev pub gathered_out : Scan → List ℕ → List ℕ
gathered_out s bytes = if nat_eq (length bytes) (want s.head.stage) then front_out s bytes else []

abbrev pub handed : Scan → ℕ → Turn → List ℕ
handed s b Passes = b ∷ []
handed s b Gives = b ∷ []
handed s b Gathers = gathered_out s (s.head.bytes ++ b ∷ [])
handed s b _ = []

unfoldable pub step : Scan → ℕ → Scan
step s b = stepped s b (turn_of s)

-- after these bytes
unfoldable pub run : Scan → List ℕ → Scan
run s [] = s
run s (b ∷ bytes) = run (step s b) bytes

-- what is handed on of these bytes
unfoldable pub given : Scan → List ℕ → List ℕ
given s [] = []
given s (b ∷ bytes) = handed s b (turn_of s) ++ given (step s b) bytes

-- the packet of each byte that is handed on of these: the one that began last
unfoldable pub packets_given : Scan → List ℕ → List (Option Packet)
packets_given s [] = []
packets_given s (b ∷ bytes) = replicate (length (handed s b (turn_of s))) (step s b).packet ++ packets_given (step s b) bytes

-- these bytes lead from one state to another, and those that are handed on of them are these
pub record Leads (old : Scan) (bytes out : List ℕ) (new : Scan) : Type 0 where
  pub ran : run old bytes ≡ new
  pub gave : given old bytes ≡ out

-- the same, and these are all of one packet, the one that began last
pub record LeadsWithin (old : Scan) (bytes out : List ℕ) (new : Scan) : Type 0 where
  pub leads : Leads old bytes out new
  pub one : packets_given old bytes ≡ replicate (length out) new.packet

-- the packet of the byte of this number among those that are handed on
abbrev pub packet_given : Scan → List ℕ → Packets
packet_given s bytes i = get_or (packets_given s bytes) i None

-- whether the file may end here
abbrev pub may_end : Turn → Stage → List ℕ → Bool
may_end Stays stage held = true
may_end Passes stage held = true
may_end Gathers Record [] = true
may_end Gathers Block [] = true
may_end _ stage held = false

-- the input ends here
abbrev pub ended : Scan → Scan
ended s = if may_end (turn_of s) s.head.stage s.head.bytes then s
    else record s { fault = Some (record { at = place (s.next + length s.head.bytes + 2 ^ 64 - place (s.give + s.skip)); reason = Truncated }) }
