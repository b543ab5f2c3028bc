use Rattle.dbus_explain.specs.Explained.{byte_text}
use Rattle.dbus_explain.proofs.ThreeLines.{one_more_byte}
use Rattle.dbus_explain.proofs.window.write_bytes.Goals as goal

pub loop-byte-preserved : goal.loop-byte-preserved
loop-byte-preserved g c = one_more_byte g.D.Draft.gains g.met.D.Draft.joins byte_text c.args.bytes.now c.loop-byte.byte-index c.loop-byte-test.true c.loop-byte.invariant c.write_byte.ensures
