use Rattle.std.proofs.Common.{is_some, sym, ◌∙◌, subst}
use Rattle.dbus_stream.specs.Lasting.{is_truncated}
use Rattle.cli_run.specs.PassingOn.{PassesOn, Way}
use Rattle.cli_run.proofs.Ways.{by_next}
use Rattle.cli_run.proofs.going.pass.Goals as goal

pub returns-in-Within-clause-passes : goal.returns-in-Within-clause-passes
returns-in-Within-clause-passes g c =
    let way = by_next (is_some c.args.refusal.packet) (is_truncated c.args.refusal.fault.reason) c.args.resync c.in-Within.window (sym c.is_some.ensures ∙ c.if-is_some.false) c.in-Within.is in
    subst (λ (w : Way). PassesOn g.R.Source.left g.R.Source.calls g.R.Source.packet c.args.messages.now c.seek.new.messages w c.seek.result) (sym way) c.seek.ensures.passes
