use Rattle.cli_report.specs.Gathering.{gathered_bytes}
use Rattle.dbus_tool.proofs.SameAsked.{written_out}
use Rattle.dbus_tool.proofs.listing.write_lines.Goals as goal

pub returns-in-Ok-clause-lines : goal.returns-in-Ok-clause-lines
returns-in-Ok-clause-lines g c =
    written_out g.R.Source.left g.R.Source.calls g.R.Source.packets g.R.Source.packet g.W.Sink.held g.W.Sink.failures c.args.side c.args.reader.now c.gather_lines-read.new.reader c.gather_lines-read.result.0 (gathered_bytes c.gather_lines-read.new.gathered)
    c.args.first.now c.gather_lines-read.new.first c.write_out.new.first c.write_out.result (rw (c.new-gathered.ensures, c.in-Ok.is) at c.gather_lines-read.ensures.lines)
    (rw c.write_out.ensures.emptied at c.write_out.ensures.gathers)
