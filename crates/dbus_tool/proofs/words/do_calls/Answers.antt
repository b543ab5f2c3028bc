use Rattle.std.proofs.Common.{subst}
use Rattle.cli_report.specs.Devices.{writing}
use Rattle.cli_run.specs.CallListing.{ListsCalls}
use Rattle.cli_run.specs.CallSumming.{SumsCalls}
use Rattle.dbus_tool.specs.Handshaking.{ahead}
use Rattle.dbus_tool.proofs.words.do_calls.Goals as goal

pub returns-then-wanted : goal.returns-then-wanted
returns-then-wanted g c =
    let r = ahead g.R.Source.left g.R.Source.calls g.R.Source.failures g.R.Source.packets g.R.Source.packet c.args.reader.now c.sum_calls.new.reader in
    let w = writing g.W.Sink.held g.W.Sink.failures c.args.first.now c.sum_calls.new.first in
    let e = writing g.E.Sink.held g.E.Sink.failures c.args.second.now c.sum_calls.new.second in
    let sums = subst (λ list. SumsCalls r w e c.args.settings list _ c.sum_calls.result) c.calls_wanted-list.ensures c.sum_calls.ensures in
    rw c.if-wanted.true sums

pub returns-else-wanted : goal.returns-else-wanted
returns-else-wanted g c =
    let r = ahead g.R.Source.left g.R.Source.calls g.R.Source.failures g.R.Source.packets g.R.Source.packet c.args.reader.now c.list_calls.new.reader in
    let w = writing g.W.Sink.held g.W.Sink.failures c.args.first.now c.list_calls.new.first in
    let e = writing g.E.Sink.held g.E.Sink.failures c.args.second.now c.list_calls.new.second in
    let lists = subst (λ list. ListsCalls r w e c.args.settings list _ c.list_calls.result) c.calls_wanted-list.ensures c.list_calls.ensures in
    rw c.if-wanted.false lists
