use Rattle.std.proofs.Common.{take}
use Rattle.std.specs.List.{flat_map}
use Rattle.dbus_explain.specs.Explained.{byte_text}
use Rattle.dbus_explain.proofs.window.write_bytes.Given as goal

abbrev pub invariant-loop-byte : goal.invariant-loop-byte
invariant-loop-byte g l = g.D.Draft.gains l.initial.draft (flat_map byte_text (take l.byte-index l.bytes)) l.draft
