use Rattle.dbus_handshake_input.proofs.AheadSteps.{later_part}
use Rattle.dbus_handshake_input.proofs.read_ahead.ReadAhead.pass.Goals as goal

pub returns-clause-rest : goal.returns-clause-rest
returns-clause-rest g c = let now = c.args.self.now in later_part now.bytes now.start now.end c.args.count
