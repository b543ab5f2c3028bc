use Rattle.dbus_handshake_input.proofs.SameHandshakes.{one_handshake, one_passing}
use Rattle.dbus_handshake_input.proofs.laws.one_handshake.Goals as goal

pub returns-clause-read : goal.returns-clause-read
returns-clause-read g c = one_handshake g.R.Source.left g.R.Source.calls g.R.Source.packets g.R.Source.packet g.S.Source.left g.S.Source.calls g.S.Source.packets g.S.Source.packet g.V.LineVisitor.hears g.U.LineVisitor.hears

pub returns-clause-passed : goal.returns-clause-passed
returns-clause-passed g c = one_passing g.R.Source.left g.R.Source.calls g.R.Source.packets g.R.Source.packet g.S.Source.left g.S.Source.calls g.S.Source.packets g.S.Source.packet
