use Rattle.std.proofs.Common.{sym, ◌∙◌}
use Rattle.cli_run.proofs.GivenSteps.{gives_enough, gives_kept, gives_kept_fault, gives_unwritten, looked, stays}
use Rattle.cli_run.proofs.KnownPackets.{keeps_unread}
use Rattle.cli_run.proofs.handing.next_message.Goals as goal

pub returns-in-Ok-Some-clause-gives : goal.returns-in-Ok-Some-clause-gives
returns-in-Ok-Some-clause-gives g c =
    let kept = rw c.in-Ok-Some.field-0-is at c.in-Ok-Some.ensures.kept in
    gives_kept g.R.Source.left g.R.Source.calls g.R.Source.failures g.met.V.MessageVisitor.adds_up c.args.messages.now c.advance_kept.new.self c.requires c.in-Ok-Some.ensures.unread c.in-Ok-Some.validated c.args.visitor.now (sym c.is_full.ensures ∙ c.if-is_full.false) (kept c.requires)

pub returns-in-Ok-None-clause-gives : goal.returns-in-Ok-None-clause-gives
returns-in-Ok-None-clause-gives g c =
    let kept = rw c.in-Ok-None.field-0-is at c.in-Ok-None.ensures.kept in
    let gives = c.read_message.ensures.gives in
    (gives.0, looked c.args.messages.now c.advance_kept.new.self gives.0 c.in-Ok-None.ensures.unread (kept c.requires) gives.1, gives.2)

pub returns-in-Ok-clause-gives : goal.returns-in-Ok-clause-gives
returns-in-Ok-clause-gives g c =
    gives_enough g.R.Source.left g.R.Source.calls g.R.Source.failures g.met.V.MessageVisitor.adds_up c.args.messages.now c.requires c.args.visitor.now c.settle.new.self (sym c.is_full.ensures ∙ c.if-is_full.true)
    c.in-Ok.ensures.lets_go c.in-Ok.ensures.settled

pub returns-in-Err-clause-gives : goal.returns-in-Err-clause-gives
returns-in-Err-clause-gives g c =
    gives_unwritten g.R.Source.left g.R.Source.calls g.R.Source.failures g.met.V.MessageVisitor.adds_up c.args.messages.now c.args.messages.now c.requires (stays c.args.messages.now c.requires).unread
    c.args.visitor.now c.settle.new.self c.in-Err.ensures.lets_go

pub returns-in-Ok-settle-clause-gives : goal.returns-in-Ok-settle-clause-gives
returns-in-Ok-settle-clause-gives g c =
    gives_kept_fault g.R.Source.left g.R.Source.calls g.R.Source.failures g.met.V.MessageVisitor.adds_up c.args.messages.now c.advance_kept.new.self c.requires c.in-Err-advance_kept.ensures.unread c.in-Err-advance_kept.fault
    c.args.visitor.now c.settle-in-Err-advance_kept.new.self (sym c.is_full.ensures ∙ c.if-is_full.false) (c.in-Err-advance_kept.ensures.kept c.requires) c.in-Err-advance_kept.ensures.failed c.in-Ok-settle.ensures.lets_go
    c.in-Ok-settle.ensures.settled

pub returns-in-Err-settle-clause-gives : goal.returns-in-Err-settle-clause-gives
returns-in-Err-settle-clause-gives g c =
    gives_unwritten g.R.Source.left g.R.Source.calls g.R.Source.failures g.met.V.MessageVisitor.adds_up c.args.messages.now c.advance_kept.new.self c.requires c.in-Err-advance_kept.ensures.unread
    c.args.visitor.now c.settle-in-Err-advance_kept.new.self c.in-Err-settle.ensures.lets_go

pub returns-in-Ok-Some-clause-packets : goal.returns-in-Ok-Some-clause-packets
returns-in-Ok-Some-clause-packets g c = keeps_unread g.R.Source.packets g.R.Source.packet c.args.messages.now c.advance_kept.new.self c.advance_kept.new.self c.in-Ok-Some.ensures.unread (λ all has. has)

pub returns-in-Ok-None-clause-packets : goal.returns-in-Ok-None-clause-packets
returns-in-Ok-None-clause-packets g c =
    keeps_unread g.R.Source.packets g.R.Source.packet c.args.messages.now c.advance_kept.new.self c.read_message.new.messages c.in-Ok-None.ensures.unread c.read_message.ensures.packets

pub returns-in-Ok-settle-clause-packets : goal.returns-in-Ok-settle-clause-packets
returns-in-Ok-settle-clause-packets g c = keeps_unread g.R.Source.packets g.R.Source.packet c.args.messages.now c.advance_kept.new.self c.advance_kept.new.self c.in-Err-advance_kept.ensures.unread (λ all has. has)

pub returns-in-Err-settle-clause-packets : goal.returns-in-Err-settle-clause-packets
returns-in-Err-settle-clause-packets g c = keeps_unread g.R.Source.packets g.R.Source.packet c.args.messages.now c.advance_kept.new.self c.advance_kept.new.self c.in-Err-advance_kept.ensures.unread (λ all has. has)
