use Rattle.std.proofs.Common.{sym}
use Rattle.std.proofs.Math.Path.{transport}
use Rattle.dbus_stream.specs.RawReading.{IsNewReader}
use Rattle.cli_report.specs.Devices.{reading}
use Rattle.cli_run.specs.Going.{PassesAll}
use Rattle.cli_run.proofs.going.pass_through.Goals as goal

pub hand_parts-ended-requires-clause-new : goal.hand_parts-ended-requires-clause-new
hand_parts-ended-requires-clause-new g c =
    let is = c.within-messages.ensures in
    transport (λ i. IsNewReader (sym is.source i) (sym is.most_reads i) c.args.settings.limits c.within-messages.result) is

pub returns-clause-passes : goal.returns-clause-passes
returns-clause-passes g c =
    let is = c.within-messages.ensures in
    transport (λ i. PassesAll (reading g.R.Source.left g.R.Source.calls g.R.Source.failures g.R.Source.packets (is.source i) (sym c.into_source.ensures i)) c.args.settings (is.most_reads i) c.args.is_check g.V.MessageVisitor.takes
    g.V.MessageVisitor.leaves g.V.MessageVisitor.full c.args.visitor.now c.hand_parts-ended.new.visitor c.hand_parts-ended.result) c.hand_parts-ended.ensures.passes
