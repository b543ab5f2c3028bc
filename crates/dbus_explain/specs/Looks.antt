-- What an input may be that does not begin as a message does, by its first byte; and what a signal
-- is that has no serial. D-Bus Specification, "Message Format".
use Rattle.std.specs.Prelude.{ℕ, List, [], ◌∷◌, ◌++◌, Bool, true, false, codes, nat_eq, ◌||◌, ◌&&◌, if◌then◌else◌}
use Rattle.std.specs.List.{starts_with}
use Rattle.dbus_value_model.specs.declared.fault.Fault.{Fault}
use Rattle.dbus_value_model.specs.declared.fault.Reason.{Reason}
use Rattle.dbus_value_model.specs.declared.fault.Reason.TheVariants.{ZeroSerial}
use Rattle.dbus_explain.specs.Places.{is_printable}
use Rattle.dbus_explain.specs.declared.message.Refused.{Refused}

-- a printable character of ASCII, a tab or an end of a line
abbrev pub is_letter : ℕ → Bool
is_letter b = nat_eq b 9 || nat_eq b 10 || nat_eq b 13 || is_printable b

abbrev pub begins : List ℕ → (front : List ℕ) → Bool
begins bytes front = starts_with nat_eq bytes front

-- what begins with this byte, and what to do: the handshake of a client or a server, which stands
-- before messages; an ELF program; a gzip, xz or zstd file; or text
abbrev pub look_by : ℕ → List ℕ
look_by b =
    if nat_eq b 0 then codes "; the handshake of a client begins so, and --handshake client passes over it"
    else if nat_eq b 0x1F then codes "; a gzip file begins so, and zcat unpacks it"
    else if nat_eq b 0x7F then codes "; an ELF program begins so"
    else if nat_eq b 0xFD then codes "; an xz file begins so, and xzcat unpacks it"
    else if nat_eq b 0x28 then codes "; text begins so, or a zstd file, which zstdcat unpacks"
    else if nat_eq b 79 || nat_eq b 82 then codes "; text begins so, or the handshake of a server, which --handshake server passes over"
    else if is_letter b then codes "; text begins so, but dbus-monitor --binary and busctl capture write messages"
    else []

-- no more than the first byte is looked at, which alone is refused
abbrev pub look_of : List ℕ → List ℕ
look_of [] = []
look_of (b ∷ bytes) = look_by b

-- such a message is a signal with serial 0
abbrev pub is_zero_serial : Reason → Bool
is_zero_serial ZeroSerial = true
is_zero_serial reason = false

abbrev pub lacks_serial : List ℕ → Fault → Bool
lacks_serial bytes fault = is_zero_serial fault.reason && nat_eq fault.at 8 && (begins bytes (codes "l" ++ (4 ∷ [])) || begins bytes (codes "B" ++ (4 ∷ [])))

-- what is said behind the rule: what the input may be, if its very first byte is refused; or who
-- makes such a signal
abbrev pub look_at : (bytes : List ℕ) → Fault → (offset : ℕ) → List ℕ
look_at bytes fault offset =
    if nat_eq offset 0 && nat_eq fault.at 0 then look_of bytes
    else if lacks_serial bytes fault then codes "; libdbus makes such a signal when its bus ends, and dbus-monitor writes it"
    else []

abbrev pub look_text : Refused → List ℕ
look_text refused = look_at refused.bytes.now refused.fault refused.offset
