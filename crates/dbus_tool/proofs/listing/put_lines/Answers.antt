use Rattle.dbus_tool.proofs.SameAsked.{puts_all}
use Rattle.dbus_tool.proofs.listing.put_lines.Goals as goal

pub returns-in-Ok-clause-lines : goal.returns-in-Ok-clause-lines
returns-in-Ok-clause-lines g c =
    puts_all g.R.Source.left g.R.Source.calls g.R.Source.packets g.R.Source.packet g.W.Sink.held g.W.Sink.failures c.args.side c.args.reader.now c.read_handshake.new.input c.in-Ok.size c.args.shown.now c.read_handshake.new.visitor c.write_size.new.draft c.in-Ok.ensures.reads c.write_size.ensures
