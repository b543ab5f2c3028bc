-- What an input is, by its first four bytes: a file of captured packets, or messages with no file
-- around them. "PCAP Capture File Format", "File Header", and "PCAP Now Generic (pcapng) Capture
-- File Format", "Section Header Block".
use Rattle.std.specs.Prelude.{◌≡◌, ℕ, ◌==◌, nat_lt, Bool, if◌then◌else◌, List, ◌∷◌, length, is_some, Any, codes}
use Rattle.dbus_capture.specs.Types.{Little, Stage, Raw, FileHeader, Section, Scan}
use Rattle.dbus_capture.specs.Heads.{magic}
use Rattle.dbus_capture.specs.Numbers.{u32_at}
use Rattle.dbus_capture.specs.Scans.{fresh}

-- Which head comes first, by the first four bytes as a little-endian machine reads them: a magic
-- number of pcap, or the type of a section header block, the same in both orders.
abbrev pub stage_by : ℕ → Stage
stage_by n = if is_some (magic n) then FileHeader else (if n == 0x0a0d0d0a then Section else Raw)

-- which head comes first in an input; in less than four bytes there is none
abbrev pub first_stage : List ℕ → Stage
first_stage bytes = if nat_lt (length bytes) 4 then Raw else stage_by (u32_at Little 0 bytes)

-- nothing was taken yet of an input of these bytes
abbrev pub first_scan : Bool → List ℕ → Scan
first_scan passes bytes = fresh passes (first_stage bytes)

-- What begins as a message, with l or B, or as a handshake, with the byte 0 or the first letter of
-- a command. D-Bus Specification, "Message Format" and "Authentication Protocol".
abbrev pub IsFirstOfStream : ℕ → Type 0
IsFirstOfStream b = Any (λ c. b ≡ c) (0 ∷ codes "lBACDENOR")
