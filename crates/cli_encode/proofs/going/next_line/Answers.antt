use Rattle.std.proofs.Common.{List, ℕ, Bool, Err, ◌++◌, append-nil, subst, sym}
use Rattle.cli_report.specs.declared.ending.Cause.{Cause}
use Rattle.dbus_lines.specs.LineReading.{GivesLine, Keeps, is_ended}
use Rattle.dbus_lines.proofs.ReadSteps.{gives_whether, reads_after, reads_none}
use Rattle.cli_encode.specs.Runs.{GivesKept, LineAnswers}
use Rattle.cli_encode.proofs.ReadSteps.{line_or_end, no_line}
use Rattle.cli_encode.proofs.going.next_line.Goals as goal

pub returns-then-next_kept-clause-reads : goal.returns-then-next_kept-clause-reads
returns-then-next_kept-clause-reads g c = λ w kept.
    let mid = c.next_kept.new.lines in
    let line = subst (λ (b : Bool). GivesKept w mid b) c.if-next_kept.true (c.next_kept.ensures.kept w kept) in
    (reads_none g.R.Source.left g.R.Source.calls g.R.Source.failures w c.args.lines.now mid c.next_kept.ensures.unread, subst (λ (l : List ℕ). GivesLine (is_ended mid) l mid) (sym (append-nil w)) (gives_whether w mid line))

pub returns-in-Err-clause-reads : goal.returns-in-Err-clause-reads
returns-in-Err-clause-reads g c = λ w kept.
    let mid = c.next_kept.new.lines in
    let keeps = subst (λ (b : Bool). GivesKept w mid b) c.if-next_kept.false (c.next_kept.ensures.kept w kept) in
    (reads_none g.R.Source.left g.R.Source.calls g.R.Source.failures w c.args.lines.now mid c.next_kept.ensures.unread, subst (λ (l : List ℕ). Keeps mid l) (sym (append-nil w)) keeps)

pub returns-in-Ok-next-clause-reads : goal.returns-in-Ok-next-clause-reads
returns-in-Ok-next-clause-reads g c = λ w kept.
    let mid = c.next_kept.new.lines in
    let (r, answers) = c.in-Ok-next.ensures.read w (subst (λ (b : Bool). GivesKept w mid b) c.if-next_kept.false (c.next_kept.ensures.kept w kept)) in
    (reads_after g.R.Source.left g.R.Source.calls g.R.Source.failures w c.args.lines.now mid c.next.new.self c.next_kept.ensures.unread r, line_or_end (w ++ r.bytes) c.next.new.self c.in-Ok-next.more answers)

pub returns-in-Err-next-clause-reads : goal.returns-in-Err-next-clause-reads
returns-in-Err-next-clause-reads g c = λ w kept.
    let mid = c.next_kept.new.lines in
    let (r, answers) = c.in-Err-next.ensures.read w (subst (λ (b : Bool). GivesKept w mid b) c.if-next_kept.false (c.next_kept.ensures.kept w kept)) in (
      reads_after g.R.Source.left g.R.Source.calls g.R.Source.failures w c.args.lines.now mid c.next.new.self c.next_kept.ensures.unread r,
      subst (λ (x : Cause). LineAnswers (w ++ r.bytes) c.next.new.self (Err x)) (sym c.cause_of.ensures) (no_line (w ++ r.bytes) c.next.new.self c.in-Err-next.fault answers),
    )
