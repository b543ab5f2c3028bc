use Rattle.std.proofs.Common.{arith, refl}
use Rattle.dbus_handshake_input.proofs.AheadSteps.{no_part, took_failed, took_nothing}
use Rattle.dbus_handshake_input.proofs.read_ahead.ReadAhead.has_more.Goals as goal

pub returns-then-self-clause-took : goal.returns-then-self-clause-took
returns-then-self-clause-took g c = took_nothing g.R.Source.left g.R.Source.calls g.R.Source.packets g.R.Source.packet c.args.self.now

pub returns-in_err-count-clause-took : goal.returns-in_err-count-clause-took
returns-in_err-count-clause-took g c =
    let old = c.args.self.now in
    took_failed g.R.Source.left g.R.Source.calls g.R.Source.packets g.R.Source.packet c.from_residual.result old _ c.from_residual.ensures.0 (no_part old.bytes old.start old.end c.if-self.false)
    (no_part c.read.new.buffer 0 0 (omega arith)) c.in_err-count.ensures.bytes c.read.ensures.called refl c.in_err-count.ensures.of_packet
