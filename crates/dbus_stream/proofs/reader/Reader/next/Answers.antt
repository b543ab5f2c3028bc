use Rattle.std.specs.Prelude.{Option}
use Rattle.std.proofs.Common.{◌≡◌, ◌≤◌, ◌*◌, List, [], ℕ, ◌++◌, None, Some, Ok, Err, refl, ap, arith, sym, ◌∙◌}
use Rattle.dbus_stream.specs.Reading.{source_of, part_of, stopped_of, Keeps}
use Rattle.dbus_stream.specs.Next.{KeptAnswers}
use Rattle.dbus_stream.specs.Packets.{KeepsPackets}
use Rattle.dbus_stream.proofs.PacketSteps.{unread}
use Rattle.dbus_stream.proofs.NextSteps.{Wants, lasts, few_done, starts, begins, wants, given, ended, cut_short, gave_up, adds_none, failed_read, filled}
use Rattle.dbus_stream.proofs.reader.Reader.next.Goals as goal
use Rattle.dbus_stream.proofs.reader.Reader.next.Goals.{In-Ok-None}

pub returns-in-Some-clause-read : goal.returns-in-Some-clause-read
returns-in-Some-clause-read g c = λ w kept. (
  starts g.T.Taker.known g.R.Source.left g.R.Source.calls w c.args.self.now,
  λ unstopped. let none : Some c.in-Some.fault ≡ None = sym c.in-Some.is ∙ unstopped in cc,
)

pub returns-in-Some-clause-failed : goal.returns-in-Some-clause-failed
returns-in-Some-clause-failed g c =
    lasts (Option g.row.T-Given.Denot) (g.R.Source.failures (source_of c.args.self.now)) (stopped_of c.args.self.now) c.in-Some.fault c.in-Some.is c.args.self.now.lasting

pub reading-init : goal.reading-init
reading-init g c = (λ w kept. begins g.T.Taker.known g.R.Source.left g.R.Source.calls w c.args.self.now kept, c.in_default.is, refl, refl, λ all h. h)

pub returns-in-Ok-Some-clause-read : goal.returns-in-Ok-Some-clause-read
returns-in-Ok-Some-clause-read g c = λ w kept.
    let h = c.reading.invariant.0 w kept in
    let takes : KeptAnswers g.T.Taker.known (w ++ h.reads.bytes) c.reading.self c.take_kept.new.self (Ok (Some c.in-Ok-Some.given)) = rw c.in-Ok-Some.field-0-is at (c.in-Ok-Some.ensures.takes (w ++ h.reads.bytes) h.kept) in
    given g.T.Taker.known g.R.Source.left g.R.Source.calls w c.args.self.now c.reading.self c.take_kept.new.self (Ok (Some c.in-Ok-Some.given)) h (λ e. cc) takes c.take_kept.ensures.unread

pub returns-in-Err-clause-read : goal.returns-in-Err-clause-read
returns-in-Err-clause-read g c = λ w kept.
    let h = c.reading.invariant.0 w kept in
    given g.T.Taker.known g.R.Source.left g.R.Source.calls w c.args.self.now c.reading.self c.take_kept.new.self (Err c.in-Err.fault) h (λ e. cc)
    (c.in-Err.ensures.takes (w ++ h.reads.bytes) h.kept) c.take_kept.ensures.unread

-- the taker was handed all of what is kept, where w was at first
held : (g : _) (c : In-Ok-None g) (w : List ℕ) → Keeps g.T.Taker.known c.args.self.now w
    → Wants g.T.Taker.known g.R.Source.left g.R.Source.calls w c.args.self.now c.take_kept.new.self
held g c w kept =
    let h = c.reading.invariant.0 w kept in
    let takes : KeptAnswers g.T.Taker.known (w ++ h.reads.bytes) c.reading.self c.take_kept.new.self (Ok None) = rw c.in-Ok-None.field-0-is at (c.in-Ok-None.ensures.takes (w ++ h.reads.bytes) h.kept) in
    wants g.T.Taker.known g.R.Source.left g.R.Source.calls w c.args.self.now c.reading.self c.take_kept.new.self h takes c.take_kept.ensures.unread

-- and the buffer has nothing left
drained : (g : _) (c : In-Ok-None g) → (part_of c.take_kept.new.self ≡ []) × (stopped_of c.take_kept.new.self ≡ None)
drained g c = rw c.in-Ok-None.field-0-is at c.in-Ok-None.ensures.takes_all

pub returns-then-self-eq0-clause-read : goal.returns-then-self-eq0-clause-read
returns-then-self-eq0-clause-read g c = λ w kept.
    let in_none = (goal.at.returns-then-self-eq0-clause-read g c).In-Ok-None in
    let d = drained g in_none in
    ended g.T.Taker.known g.R.Source.left g.R.Source.calls w c.args.self.now c.take_kept.new.self (held g in_none w kept) d.0 d.1 c.if-self.true c.if-self-eq0.true

pub returns-then-self-clause-read : goal.returns-then-self-clause-read
returns-then-self-clause-read g c = λ w kept.
    let in_none = (goal.at.returns-then-self-clause-read g c).In-Ok-None in
    let some = c.if-self-eq0.false in
    cut_short g.T.Taker.known g.R.Source.left g.R.Source.calls w c.args.self.now c.take_kept.new.self c.stop.new.self (held g in_none w kept) (drained g in_none).0 c.if-self.true
    (omega (arith, some)) _ refl c.stop.ensures.stops c.stop.ensures.unread

pub returns-then-self-2-clause-read : goal.returns-then-self-2-clause-read
returns-then-self-2-clause-read g c = λ w kept.
    let r = c.take_kept.new.self in
    let few : r.reads ≤ r.most_reads = r.few_reads in
    let all : r.reads ≡ r.most_reads = omega arith in
    gave_up g.T.Taker.known g.R.Source.left g.R.Source.calls w c.args.self.now r c.stop-then-self-2.new.self
    (held g (goal.at.returns-then-self-2-clause-read g c).In-Ok-None w kept) all c.if-self.false c.stop-then-self-2.ensures.stops c.stop-then-self-2.ensures.unread

pub returns-in-Err-fill-clause-read : goal.returns-in-Err-fill-clause-read
returns-in-Err-fill-clause-read g c = λ w kept.
    let fill = c.in-Err-fill.ensures in
    let in_none = (goal.at.returns-in-Err-fill-clause-read g c).In-Ok-None in
    let d = drained g in_none in
    let adds = adds_none g.R.Source.left c.take_kept.new.self c.fill.new.self c.if-self.false fill.fills in
    failed_read g.T.Taker.known g.R.Source.left g.R.Source.calls w c.args.self.now c.take_kept.new.self c.fill.new.self [] (held g in_none w kept) d.0 c.if-self.false fill.calls adds
    refl (fill.calls.stopped ∙ d.1)

-- the packets of the input are still what they were
taken : (g : _) (c : In-Ok-None g) → KeepsPackets g.R.Source.packets g.R.Source.packet c.args.self.now c.take_kept.new.self
taken g c = unread g.R.Source.packets g.R.Source.packet g.T.Taker.known c.args.self.now c.reading.self c.take_kept.new.self c.reading.invariant.4 c.take_kept.ensures.unread

pub reading-preserved : goal.reading-preserved
reading-preserved g c =
    let fill = c.in-Ok.ensures in
    let in_none = (goal.at.reading-preserved g c).In-Ok-None in
    let d = drained g in_none in
    let unread = c.take_kept.ensures.unread in (
      λ w kept.
          filled g.T.Taker.known g.R.Source.left g.R.Source.calls w c.args.self.now c.take_kept.new.self c.fill.new.self fill.fills.0
          (held g in_none w kept) d.0 c.if-self.false fill.calls fill.fills.1 fill.fills.2,
      fill.calls.stopped ∙ d.1,
      fill.failed ∙ (ap g.R.Source.failures unread.source ∙ c.reading.invariant.2),
      fill.same_reference ∙ (ap g.R.Source.reference unread.source ∙ c.reading.invariant.3),
      λ all h. fill.packets all (taken g in_none all h),
    )

pub returns-in-Err-fill-clause-few : goal.returns-in-Err-fill-clause-few
returns-in-Err-fill-clause-few g c =
    let r = c.fill.new.self in
    let counted = r.counted in
    let done : r.done ≤ g.B.Buffer.room.size * r.reads = omega (arith, counted) in
    few_done g.B.Buffer.room.size r.done r.reads r.most_reads done r.few_reads r.low_most

-- ---- the packets of the input

pub returns-in-Ok-Some-clause-packets : goal.returns-in-Ok-Some-clause-packets
returns-in-Ok-Some-clause-packets g c =
    unread g.R.Source.packets g.R.Source.packet g.T.Taker.known c.args.self.now c.reading.self c.take_kept.new.self c.reading.invariant.4 c.take_kept.ensures.unread

pub returns-in-Err-clause-packets : goal.returns-in-Err-clause-packets
returns-in-Err-clause-packets g c =
    unread g.R.Source.packets g.R.Source.packet g.T.Taker.known c.args.self.now c.reading.self c.take_kept.new.self c.reading.invariant.4 c.take_kept.ensures.unread

pub returns-then-self-eq0-clause-packets : goal.returns-then-self-eq0-clause-packets
returns-then-self-eq0-clause-packets g c = taken g (goal.at.returns-then-self-eq0-clause-packets g c).In-Ok-None

pub returns-then-self-clause-packets : goal.returns-then-self-clause-packets
returns-then-self-clause-packets g c =
    unread g.R.Source.packets g.R.Source.packet g.T.Taker.known c.args.self.now c.take_kept.new.self c.stop.new.self
    (taken g (goal.at.returns-then-self-clause-packets g c).In-Ok-None) c.stop.ensures.unread

pub returns-then-self-2-clause-packets : goal.returns-then-self-2-clause-packets
returns-then-self-2-clause-packets g c =
    unread g.R.Source.packets g.R.Source.packet g.T.Taker.known c.args.self.now c.take_kept.new.self c.stop-then-self-2.new.self
    (taken g (goal.at.returns-then-self-2-clause-packets g c).In-Ok-None) c.stop-then-self-2.ensures.unread

pub returns-in-Err-fill-clause-packets : goal.returns-in-Err-fill-clause-packets
returns-in-Err-fill-clause-packets g c = λ all h.
    c.in-Err-fill.ensures.packets all (taken g (goal.at.returns-in-Err-fill-clause-packets g c).In-Ok-None all h)
