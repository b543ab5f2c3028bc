-- The line cutter as contracts see it. D-Bus Specification, "Protocol Overview".
use Rattle.std.specs.Prelude.{option_map}
use Rattle.dbus_auth_lines.specs.CutterViews.{CutterState, fault_of}
use Rattle.dbus_auth_lines.specs.declared.cutter.LineCutter.{LineCutter}

abbrev pub cutter_state : {A : Type 0} → LineCutter A → CutterState
cutter_state c = record { kept = c.kept.items; fault = option_map fault_of c.fault }
