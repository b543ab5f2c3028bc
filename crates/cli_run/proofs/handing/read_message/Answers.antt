use Rattle.std.proofs.Common.{[], ◌∙◌}
use Rattle.cli_run.proofs.GivenSteps.{gives_unwritten, stays}
use Rattle.cli_run.proofs.handing.read_message.Goals as goal

pub returns-in-Ok-advance-clause-gives : goal.returns-in-Ok-advance-clause-gives
returns-in-Ok-advance-clause-gives g c =
    let read = c.in-Ok-advance.ensures.read in
    (c.args.messages.now, stays c.args.messages.now c.requires.unstopped, (read.0, read.1 c.requires.unstopped, c.in-Ok-advance.ensures.failed, c.in-Ok.ensures.lets_go, λ _. c.in-Ok.ensures.settled, g.met.V.MessageVisitor.adds_up.still _ _ [] c.in-Ok.ensures.lets_go ∙ c.requires.wanted))

pub returns-in-Err-advance-clause-gives : goal.returns-in-Err-advance-clause-gives
returns-in-Err-advance-clause-gives g c =
    let read = c.in-Err-advance.ensures.read in
    (c.args.messages.now, stays c.args.messages.now c.requires.unstopped, (read.0, read.1 c.requires.unstopped, c.in-Err-advance.ensures.failed, c.in-Ok.ensures.lets_go, c.in-Ok.ensures.settled, g.met.V.MessageVisitor.adds_up.still _ _ [] c.in-Ok.ensures.lets_go ∙ c.requires.wanted))

pub returns-in-Err-clause-gives : goal.returns-in-Err-clause-gives
returns-in-Err-clause-gives g c =
    gives_unwritten g.R.Source.left g.R.Source.calls g.R.Source.failures g.met.V.MessageVisitor.adds_up c.args.messages.now c.args.messages.now c.requires.unstopped (stays c.args.messages.now c.requires.unstopped).unread
    c.args.visitor.now c.settle.new.self c.in-Err.ensures.lets_go
