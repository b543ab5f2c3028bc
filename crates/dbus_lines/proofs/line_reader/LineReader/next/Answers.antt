use Rattle.std.proofs.Common.{◌≡◌, ◌≤◌, Ok, Err, true, false, List, [], ℕ, sym, ap, ◌∙◌, arith, ◌++◌, subst, append-nil, refl, inr}
use Rattle.dbus_lines.specs.Lines.{IsUnbroken}
use Rattle.dbus_lines.specs.LineReading.{Keeps, part_of, source_of}
use Rattle.dbus_lines.specs.declared.fault.NoLine.TheVariants.{Memory}
use Rattle.dbus_lines.proofs.ReadSteps.{Wants, answers, gave_or_ended, gives_whether, has_begun, reads_one, taken_line, taken_none, wants}
use Rattle.dbus_lines.proofs.line_reader.LineReader.next.Goals as goal
use Rattle.dbus_lines.proofs.line_reader.LineReader.next.Goals.{In-Ok-false}

pub reading-init : goal.reading-init
reading-init g c =
    let b = c.begin.ensures in (
      λ w kept. has_begun g.R.Source.left g.R.Source.calls g.R.Source.failures w c.args.self.now c.begin.new.self b.unread (b.keeps w kept),
      b.ungiven,
      ap g.R.Source.failures b.unread.source,
      ap g.R.Source.reference b.unread.source,
    )

pub returns-in-Ok-true-clause-read : goal.returns-in-Ok-true-clause-read
returns-in-Ok-true-clause-read g c = λ w kept.
    let h = c.reading.invariant.0 w kept in
    let all = w ++ h.reads.bytes in
    let line = taken_line all c.take_kept.new.self c.in-Ok-true.field-0 c.in-Ok-true.field-0-test (c.in-Ok-true.ensures.answers all h.kept) in
    answers g.R.Source.left g.R.Source.calls g.R.Source.failures w c.args.self.now c.reading.self c.take_kept.new.self h (Ok true) c.take_kept.ensures.unread (gives_whether all c.take_kept.new.self line)

pub returns-in-Err-clause-read : goal.returns-in-Err-clause-read
returns-in-Err-clause-read g c = λ w kept.
    let h = c.reading.invariant.0 w kept in
    answers g.R.Source.left g.R.Source.calls g.R.Source.failures w c.args.self.now c.reading.self c.take_kept.new.self h (Err Memory) c.take_kept.ensures.unread (c.in-Err.ensures.answers (w ++ h.reads.bytes) h.kept)

-- no line ends in what is kept, where w was at first
held : (g : _) (c : In-Ok-false g) (w : List ℕ) → Keeps c.args.self.now w → Wants g.R.Source.left g.R.Source.calls g.R.Source.failures w c.args.self.now c.take_kept.new.self
held g c w kept =
    let h = c.reading.invariant.0 w kept in
    let all = w ++ h.reads.bytes in
    wants g.R.Source.left g.R.Source.calls g.R.Source.failures w c.args.self.now c.reading.self c.take_kept.new.self h c.take_kept.ensures.unread
    (taken_none all c.take_kept.new.self c.in-Ok-false.field-0 c.in-Ok-false.field-0-test (c.in-Ok-false.ensures.answers all h.kept))

-- and the buffer has nothing left
drained : (g : _) (c : In-Ok-false g) → (part_of c.take_kept.new.self ≡ []) × (c.take_kept.new.self.given ≡ false)
drained g c = c.in-Ok-false.ensures.drained (ap Ok c.in-Ok-false.field-0-test)

-- no read failed
same_failures : (g : _) (c : In-Ok-false g) → g.R.Source.failures (source_of c.take_kept.new.self) ≡ g.R.Source.failures (source_of c.args.self.now)
same_failures g c = ap g.R.Source.failures c.take_kept.ensures.unread.source ∙ c.reading.invariant.2

pub give_rest-requires : goal.give_rest-requires
give_rest-requires g c = let d = drained g (goal.at.give_rest-requires g c).In-Ok-false in record { ungiven = d.1; drained = d.0; ended = c.if-self.true }

pub returns-then-self-clause-read : goal.returns-then-self-clause-read
returns-then-self-clause-read g c = λ w kept.
    let h = held g (goal.at.returns-then-self-clause-read g c).In-Ok-false w kept in
    answers g.R.Source.left g.R.Source.calls g.R.Source.failures w c.args.self.now c.take_kept.new.self c.give_rest.new.self h.so_far (Ok c.give_rest.result) c.give_rest.ensures.unread
    (c.give_rest.ensures.answers (w ++ h.so_far.reads.bytes) h.so_far.kept)

pub returns-then-self-2-clause-read : goal.returns-then-self-2-clause-read
returns-then-self-2-clause-read g c = λ w kept.
    let h = held g (goal.at.returns-then-self-2-clause-read g c).In-Ok-false w kept in
    let r = c.take_kept.new.self in
    let few : r.reads ≤ r.most_reads = r.few in
    let all : r.reads ≡ r.most_reads = omega arith in
    (h.so_far.reads, (h.so_far.kept, h.unbroken, all, c.if-self.false))

pub fill-requires : goal.fill-requires
fill-requires g c = let d = drained g (goal.at.fill-requires g c).In-Ok-false in record { drained = d.0; more = omega arith; unended = c.if-self.false }

pub reading-preserved : goal.reading-preserved
reading-preserved g c =
    let fill = c.in-Ok.ensures in
    let in_false = (goal.at.reading-preserved g c).In-Ok-false in
    let d = drained g in_false in
    let unread = c.take_kept.ensures.unread in (
      λ w kept.
          let h = held g in_false w kept in
          reads_one g.R.Source.left g.R.Source.calls g.R.Source.failures w c.args.self.now c.take_kept.new.self c.fill.new.self h.so_far fill.fills.0 h.unbroken d.1 d.0 c.if-self.false (same_failures g in_false) fill.calls fill.fills.1
          (gave_or_ended g.R.Source.left g.R.Source.calls g.R.Source.failures w c.take_kept.new.self c.fill.new.self fill.fills.0 c.fill.new.self.ended refl fill.fills.2),
      fill.fills.1.same_given ∙ d.1,
      fill.failed ∙ (ap g.R.Source.failures unread.source ∙ c.reading.invariant.2),
      fill.same_reference ∙ (ap g.R.Source.reference unread.source ∙ c.reading.invariant.3),
    )

pub returns-in-Err-fill-clause-read : goal.returns-in-Err-fill-clause-read
returns-in-Err-fill-clause-read g c = λ w kept.
    let in_false = (goal.at.returns-in-Err-fill-clause-read g c).In-Ok-false in
    let h = held g in_false w kept in
    let d = drained g in_false in
    let more = reads_one g.R.Source.left g.R.Source.calls g.R.Source.failures w c.args.self.now c.take_kept.new.self c.fill.new.self h.so_far [] h.unbroken d.1 d.0 c.if-self.false (same_failures g in_false) c.in-Err-fill.ensures.calls c.in-Err-fill.ensures.fills (inr (inr c.in-Err-fill.ensures.failed)) in
    (more.reads, (more.kept, subst (λ l. IsUnbroken (w ++ l)) (sym (append-nil h.so_far.reads.bytes)) h.unbroken))
