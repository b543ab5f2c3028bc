-- Where a message stands, as a caller in C says it of a line of JSON.
use Rattle.std.specs.Prelude.{None, Some, nat_eq, if◌then◌else◌}
use Rattle.dbus_json.specs.declared.place.LinePlace.{LinePlace}
use Rattle.dbus_c.specs.declared.json_lines.WireLinePlace.{WireLinePlace}

-- as a line takes it: its time unless has_time is 0
abbrev pub line_place : WireLinePlace → LinePlace
line_place p = record { number = p.number; offset = p.offset; time = if nat_eq p.has_time 0 then None else Some p.time }
