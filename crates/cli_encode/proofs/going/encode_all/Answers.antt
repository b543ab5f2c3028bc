use Rattle.std.proofs.Common.{◌≡◌, ◌++◌, ℕ, List, [], Bool, false, Ok, refl, sym, ap, ◌∙◌, subst, inl, inr, arith}
use Rattle.cli_report.specs.Gathering.{gathered_bytes}
use Rattle.dbus_lines.specs.LineReading.{GivesLine, is_ended}
use Rattle.cli_encode.specs.Outcomes.{is_refused}
use Rattle.cli_encode.specs.Runs.{LineAnswers, Settles}
use Rattle.cli_encode.specs.declared.encoding.Encoding.{Encoding}
use Rattle.cli_encode.proofs.GoSteps.{HasEncoded, begins, came_all, few_lines, fits, reads_on, stops_reading, stops_taking, takes_on}
use Rattle.cli_encode.proofs.TakeSteps.{newly}
use Rattle.cli_encode.proofs.going.encode_all.Goals as goal
use Rattle.cli_encode.proofs.going.encode_all.Goals.{In-Ok-true}

pub lines-init : goal.lines-init
lines-init g c = (
  (
    [],
    c.requires.new.kept,
    begins g.R.Source.left g.R.Source.calls g.R.Source.failures g.R.Source.packets g.W.Sink.held g.W.Sink.failures g.E.Sink.held g.E.Sink.failures c.args.encoder.now.encoding c.args.lines.now
        c.args.first.now c.args.second.now _ c.args.encoder.now c.requires.new c.requires.starts refl,
  ),
  λ e. c.requires.starts.refused,
  refl,
)

pub returns-in-Ok-false-clause-encodes : goal.returns-in-Ok-false-clause-encodes
returns-in-Ok-false-clause-encodes g c =
    let (kept, keeps, h) = c.lines.invariant.0 in
    let (r, a) = c.in-Ok-false.ensures.reads kept keeps in
    let new = c.next_line.new in
    let answers = subst (λ (b : Bool). LineAnswers (kept ++ r.bytes) new.lines (Ok b)) c.in-Ok-false.field-0-test a in
    let settles = subst (λ (b : Bool). Settles g.W.Sink.held g.W.Sink.failures (gathered_bytes c.lines.encoder.gathered) (gathered_bytes new.encoder.gathered) c.lines.first new.first (Ok b)) c.in-Ok-false.field-0-test c.in-Ok-false.ensures.settles in
    let more = reads_on g.R.Source.left g.R.Source.calls g.R.Source.failures g.R.Source.packets g.W.Sink.held g.W.Sink.failures g.E.Sink.held g.E.Sink.failures c.args.encoder.now.encoding c.args.lines.now c.args.first.now
    c.args.second.now kept c.lines.lines new.lines c.lines.encoder new.encoder c.lines.first new.first c.lines.second h r c.next_line.ensures.same settles.0 c.in-Ok-false.ensures.failed in
    came_all g.R.Source.left g.R.Source.calls g.R.Source.failures g.R.Source.packets g.W.Sink.held g.W.Sink.failures g.E.Sink.held g.E.Sink.failures c.args.encoder.now.encoding c.args.lines.now c.args.first.now
    c.args.second.now (kept ++ r.bytes) new.lines new.encoder new.first c.lines.second more settles.1 (inl (answers.0, answers.2))

pub returns-in-Err-clause-encodes : goal.returns-in-Err-clause-encodes
returns-in-Err-clause-encodes g c =
    let (kept, keeps, h) = c.lines.invariant.0 in
    let (r, a) = c.in-Err.ensures.reads kept keeps in
    let new = c.next_line.new in
    stops_reading g.R.Source.left g.R.Source.calls g.R.Source.failures g.R.Source.packets g.W.Sink.held g.W.Sink.failures g.E.Sink.held g.E.Sink.failures c.args.encoder.now.encoding c.args.lines.now c.args.first.now
    c.args.second.now c.in-Err.cause kept c.lines.lines new.lines c.lines.encoder new.encoder c.lines.first new.first c.lines.second h r a c.in-Err.ensures.settles c.in-Err.ensures.failed

-- what was read, of which a line is given, and what became of the lines before
read : (g : _) (c : In-Ok-true g) → (all : List ℕ) × HasEncoded g.R.Source.left g.R.Source.calls g.R.Source.failures g.R.Source.packets g.W.Sink.held g.W.Sink.failures g.E.Sink.held g.E.Sink.failures
    c.args.encoder.now.encoding c.args.lines.now c.args.first.now c.args.second.now all c.next_line.new.lines c.next_line.new.encoder c.next_line.new.first c.lines.second
    × GivesLine (is_ended c.next_line.new.lines) all c.next_line.new.lines
read g c =
    let (kept, keeps, h) = c.lines.invariant.0 in
    let (r, a) = c.in-Ok-true.ensures.reads kept keeps in
    let new = c.next_line.new in
    let settles = subst (λ (b : Bool). Settles g.W.Sink.held g.W.Sink.failures (gathered_bytes c.lines.encoder.gathered) (gathered_bytes new.encoder.gathered) c.lines.first new.first (Ok b)) c.in-Ok-true.field-0-test c.in-Ok-true.ensures.settles in (
      kept ++ r.bytes,
      reads_on g.R.Source.left g.R.Source.calls g.R.Source.failures g.R.Source.packets g.W.Sink.held g.W.Sink.failures g.E.Sink.held g.E.Sink.failures c.args.encoder.now.encoding c.args.lines.now c.args.first.now
          c.args.second.now kept c.lines.lines new.lines c.lines.encoder new.encoder c.lines.first new.first c.lines.second h r c.next_line.ensures.same settles c.in-Ok-true.ensures.failed,
      subst (λ (b : Bool). LineAnswers (kept ++ r.bytes) new.lines (Ok b)) c.in-Ok-true.field-0-test a,
    )

-- unless the run is to go on, none was refused
none_refused : (g : _) (c : In-Ok-true g) → c.args.encoder.now.encoding.keeps_going ≡ false → c.next_line.new.encoder.refused ≡ false
none_refused g c stops = c.next_line.ensures.same.refused ∙ c.lines.invariant.1 stops

pub take-requires : goal.take-requires
take-requires g c =
    let (all, h, l) = read g (goal.at.take-requires g c).In-Ok-true in
    let few = few_lines g.R.Source.left g.R.Source.calls g.R.Source.failures g.R.Source.packets g.W.Sink.held g.W.Sink.failures g.E.Sink.held g.E.Sink.failures c.args.encoder.now.encoding c.args.lines.now c.args.first.now
    c.args.second.now all c.next_line.new.lines c.next_line.new.encoder c.next_line.new.first c.lines.second h c.requires.few in
    omega (arith, few)

pub returns-in-Err-take-clause-encodes : goal.returns-in-Err-take-clause-encodes
returns-in-Err-take-clause-encodes g c =
    let there = (goal.at.returns-in-Err-take-clause-encodes g c).In-Ok-true in
    let (all, h, l) = read g there in
    let within = fits g.R.Source.left g.R.Source.calls g.R.Source.failures g.R.Source.packets g.W.Sink.held g.W.Sink.failures g.E.Sink.held g.E.Sink.failures c.args.encoder.now.encoding c.args.lines.now c.args.first.now
    c.args.second.now all c.next_line.new.lines c.next_line.new.encoder c.next_line.new.first c.lines.second h l _ c.line.ensures in
    stops_taking g.R.Source.left g.R.Source.calls g.R.Source.failures g.R.Source.packets g.W.Sink.held g.W.Sink.failures g.E.Sink.held g.E.Sink.failures c.args.encoder.now.encoding c.args.lines.now c.args.first.now
    c.args.second.now c.in-Err-take.stop all c.next_line.new.lines c.next_line.new.encoder c.next_line.new.first c.take.new.first c.lines.second c.take.new.second h l (none_refused g there) (c.in-Err-take.ensures l.line within)

pub returns-then-is_over-clause-encodes : goal.returns-then-is_over-clause-encodes
returns-then-is_over-clause-encodes g c =
    let there = (goal.at.returns-then-is_over-clause-encodes g c).In-Ok-true in
    let (all, h, l) = read g there in
    let within = fits g.R.Source.left g.R.Source.calls g.R.Source.failures g.R.Source.packets g.W.Sink.held g.W.Sink.failures g.E.Sink.held g.E.Sink.failures c.args.encoder.now.encoding c.args.lines.now c.args.first.now
    c.args.second.now all c.next_line.new.lines c.next_line.new.encoder c.next_line.new.first c.lines.second h l _ c.line.ensures in
    let (done, t) = c.in-Ok.ensures l.line within in
    let more = takes_on g.R.Source.left g.R.Source.calls g.R.Source.failures g.R.Source.packets g.W.Sink.held g.W.Sink.failures g.E.Sink.held g.E.Sink.failures c.args.encoder.now.encoding c.args.lines.now c.args.first.now
    c.args.second.now all c.next_line.new.lines c.next_line.new.encoder c.take.new.self c.next_line.new.first c.take.new.first c.lines.second c.take.new.second h l done (none_refused g there) t in
    let over = c.is_over.ensures.over c.if-is_over.true in
    let stops : c.args.encoder.now.encoding.keeps_going ≡ false = sym (ap (λ (x : Encoding). x.keeps_going) more.encoding_is) ∙ over.0 in
    came_all g.R.Source.left g.R.Source.calls g.R.Source.failures g.R.Source.packets g.W.Sink.held g.W.Sink.failures g.E.Sink.held g.E.Sink.failures c.args.encoder.now.encoding c.args.lines.now c.args.first.now
    c.args.second.now l.left c.next_line.new.lines c.take.new.self c.take.new.first c.take.new.second more
    (t.settled (newly c.next_line.new.encoder.refused (is_refused done) (none_refused g there stops) (sym t.refused ∙ over.1))) (inr (stops, over.1))

pub lines-preserved : goal.lines-preserved
lines-preserved g c =
    let there = (goal.at.lines-preserved g c).In-Ok-true in
    let (all, h, l) = read g there in
    let within = fits g.R.Source.left g.R.Source.calls g.R.Source.failures g.R.Source.packets g.W.Sink.held g.W.Sink.failures g.E.Sink.held g.E.Sink.failures c.args.encoder.now.encoding c.args.lines.now c.args.first.now
    c.args.second.now all c.next_line.new.lines c.next_line.new.encoder c.next_line.new.first c.lines.second h l _ c.line.ensures in
    let (done, t) = c.in-Ok.ensures l.line within in
    let more = takes_on g.R.Source.left g.R.Source.calls g.R.Source.failures g.R.Source.packets g.W.Sink.held g.W.Sink.failures g.E.Sink.held g.E.Sink.failures c.args.encoder.now.encoding c.args.lines.now c.args.first.now
    c.args.second.now all c.next_line.new.lines c.next_line.new.encoder c.take.new.self c.next_line.new.first c.take.new.first c.lines.second c.take.new.second h l done (none_refused g there) t in (
      (l.left, l.kept, more),
      λ stops. c.is_over.ensures.goes_on c.if-is_over.false (ap (λ (x : Encoding). x.keeps_going) more.encoding_is ∙ stops),
      c.next_line.ensures.same_reference ∙ c.lines.invariant.2,
    )

pub lines-smaller : goal.lines-smaller
lines-smaller g c =
    let there = (goal.at.lines-smaller g c).In-Ok-true in
    let (all, h, l) = read g there in
    let within = fits g.R.Source.left g.R.Source.calls g.R.Source.failures g.R.Source.packets g.W.Sink.held g.W.Sink.failures g.E.Sink.held g.E.Sink.failures c.args.encoder.now.encoding c.args.lines.now c.args.first.now
    c.args.second.now all c.next_line.new.lines c.next_line.new.encoder c.next_line.new.first c.lines.second h l _ c.line.ensures in
    let (done, t) = c.in-Ok.ensures l.line within in
    let few = few_lines g.R.Source.left g.R.Source.calls g.R.Source.failures g.R.Source.packets g.W.Sink.held g.W.Sink.failures g.E.Sink.held g.E.Sink.failures c.args.encoder.now.encoding c.args.lines.now c.args.first.now
    c.args.second.now all c.next_line.new.lines c.next_line.new.encoder c.next_line.new.first c.lines.second h c.requires.few in
    omega (arith, few, t.number, c.next_line.ensures.same.number)
