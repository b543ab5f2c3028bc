use Rattle.std.proofs.Common.{List, ℕ, refl, subst, inr, ◌∙◌}
use Rattle.std.specs.Prelude.{string_bytes}
use Rattle.cli_report.specs.Gathering.{Breaks, Passes, gathered_bytes}
use Rattle.cli_report.specs.PageLaws.{passes_none}
use Rattle.cli_encode.specs.Outcomes.{IsOutcome, Passed, Written, refused_text}
use Rattle.cli_encode.specs.Running.{TellsLine}
use Rattle.cli_encode.specs.Steps.{outcome_of}
use Rattle.cli_encode.specs.declared.encoder.Made.{Made}
use Rattle.cli_encode.proofs.GoSteps.{wrote_nothing}
use Rattle.cli_encode.proofs.TakeSteps.{or_false, takes_refused}
use Rattle.cli_encode.proofs.encoder.Encoder.finish.Goals as goal

pub returns-in-Passed : goal.returns-in-Passed
returns-in-Passed g c = λ line is.
    let now = c.args.self.now in (
      Passed,
      record {
        is = subst (λ (m : Made g.row.A.Denot). IsOutcome now.encoding now.serial line (outcome_of m now.spare.items)) c.in-Passed.is is;
        encoding = refl;
        number = refl;
        serial = refl;
        refused = or_false now.refused;
        passes = passes_none g.W.Sink.held g.W.Sink.failures (gathered_bytes now.gathered) c.args.first.now;
        settled = λ e. cc;
        tells = wrote_nothing g.E.Sink.held g.E.Sink.failures c.args.second.now;
      },
    )

pub returns-in-Ok : goal.returns-in-Ok
returns-in-Ok g c = λ line is.
    let now = c.args.self.now in (
      Written now.spare.items,
      record {
        is = subst (λ (m : Made g.row.A.Denot). IsOutcome now.encoding now.serial line (outcome_of m now.spare.items)) c.in-Written.is is;
        encoding = refl;
        number = refl;
        serial = c.next_serial-self.ensures;
        refused = or_false now.refused;
        passes = subst (λ (l : List ℕ). Passes g.W.Sink.held g.W.Sink.failures l (gathered_bytes now.gathered) (gathered_bytes c.write_bytes.new.gathered) c.args.first.now c.write_bytes.new.first) c.as_slice.ensures.value c.in-Ok.ensures;
        settled = λ e. cc;
        tells = wrote_nothing g.E.Sink.held g.E.Sink.failures c.args.second.now;
      },
    )

pub returns-in-Ok-settle : goal.returns-in-Ok-settle
returns-in-Ok-settle g c = λ line is.
    let now = c.args.self.now in
    let same = c.settle.ensures.same in
    takes_refused g.W.Sink.held g.W.Sink.failures g.E.Sink.held g.E.Sink.failures line c.in-Refused.refusal (string_bytes c.in-Refused.explained) now c.settle.new.self c.args.first.now c.settle.new.first c.args.second.now c.tell_refused.new.second
    c.tell_refused.result (subst (λ (m : Made g.row.A.Denot). IsOutcome now.encoding now.serial line (outcome_of m now.spare.items)) c.in-Refused.is is) same.encoding same.number
    (same.serial ∙ c.next_serial-self-in-Refused.ensures) same.refused c.in-Ok-settle.ensures.gathers c.settle.ensures.settled
    (subst (λ (text : List ℕ). TellsLine g.E.Sink.held g.E.Sink.failures (refused_text c.settle.new.self.number c.in-Refused.refusal text) c.args.second.now c.tell_refused.new.second c.tell_refused.result) c.as_str.ensures.value c.tell_refused.ensures)
