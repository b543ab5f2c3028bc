use Rattle.std.proofs.Common.{rules, ◌≡◌, ◌≤◌, ◌-◌, ◌++◌, List, [], ℕ, length, refl, ap, ◌∙◌, subst, arith, length-append}
use Rattle.dbus_stream.specs.Dropping.{HasDropped}
use Rattle.dbus_stream.specs.Packets.{KeepsPackets}
use Rattle.dbus_stream.specs.Reading.{done_of, part_of}
use Rattle.dbus_stream.specs.StatedSizes.{StatesNone, StatesSize, WantsMore}
use Rattle.dbus_stream.specs.Steps.{Drops}
use Rattle.dbus_stream.proofs.NextSteps.{adds_none}
use Rattle.dbus_stream.proofs.PacketSteps.{still, unread}
use Rattle.dbus_stream.proofs.PassSteps.{HasSkippedAll, bytes_of, skip_held, skip_read, skip_rest, skip_size, skips_failed}
use Rattle.dbus_stream.proofs.SizeSteps.{inside_more, witness}
use Rattle.dbus_stream.proofs.reader.Reader.pass_over.Goals as goal
use Rattle.dbus_stream.proofs.reader.Reader.pass_over.Goals.{After-skip-in-reading, In-There}

pub reading-init : goal.reading-init
reading-init g c = (
  λ gone has. skip_held g.T.Taker.known c.args.limits gone g.R.Source.left g.R.Source.calls c.args.self.now _ c.args.refused.now has (c.requires.inside gone has)
      (record { source = refl; reads = refl; most_reads = refl; limits = refl; ended = refl; read = omega arith; last = refl; packed = refl }) refl refl refl refl refl,
  c.requires.counted,
  refl,
  refl,
  still g.R.Source.packets g.R.Source.packet c.args.self.now _ refl (omega arith) refl refl,
)

-- ---- the message is all there

states : (g : _) (c : In-There g) (gone : List ℕ) (has : HasDropped c.args.refused.now gone)
    → StatesSize c.args.limits ((gone ++ (c.reading.invariant.0 gone has).more) ++ part_of c.reading.self) c.in-There.size
    × (c.in-There.size ≤ length ((gone ++ (c.reading.invariant.0 gone has).more) ++ part_of c.reading.self)) × (length (gone ++ (c.reading.invariant.0 gone has).more) ≤ c.in-There.size)
states g c gone has =
    let h = c.reading.invariant.0 gone has in
    let s = c.in-There.ensures ((gone ++ h.more) ++ part_of c.reading.self) (subst (λ (l : List ℕ). HasDropped c.drop_bytes.new.self ((gone ++ h.more) ++ l)) c.part-in-reading.ensures (c.drop_bytes.ensures.dropped (gone ++ h.more) h.dropped)) in
    (s.0, s.1, inside_more c.args.limits (gone ++ h.more) (part_of c.reading.self) c.in-There.size h.inside s.0)

pub overflow_sub-size : goal.overflow_sub-size
overflow_sub-size g c =
    let there = (goal.at.overflow_sub-size g c).In-There in
    let w = (witness c.args.refused.now (let all : length c.args.refused.now.front ≡ 16 = search rules in all)) in
    let s = states g there w.0 w.1 in
    let count = (c.reading.invariant.0 w.0 w.1).dropped.count in
    omega (arith, s.2, count)

pub skip-requires : goal.skip-requires
skip-requires g c =
    let there = (goal.at.skip-requires g c).In-There in
    let w = (witness c.args.refused.now (let all : length c.args.refused.now.front ≡ 16 = search rules in all)) in
    let h = c.reading.invariant.0 w.0 w.1 in
    let s = states g there w.0 w.1 in
    let count = h.dropped.count in
    let both = length-append (w.0 ++ h.more) (part_of c.reading.self) in
    omega (arith, s.1, count, both)

pub returns-in-There-clause-passes : goal.returns-in-There-clause-passes
returns-in-There-clause-passes g c = λ gone has.
    let there = (goal.at.returns-in-There-clause-passes g c).In-There in
    let h = c.reading.invariant.0 gone has in
    let s = states g there gone has in
    let drops = subst (λ (n : ℕ). Drops (c.in-There.size - n) c.reading.self c.skip.new.self) h.dropped.count c.skip.ensures.drops in
    skip_size g.T.Taker.known c.args.limits gone g.R.Source.left g.R.Source.calls c.args.self.now c.reading.self c.skip.new.self c.reading.refused h c.in-There.size s.0 s.1 s.2 _ drops c.skip.ensures.unread
    (record { source = refl; reads = refl; most_reads = refl; limits = refl; ended = refl; read = refl; last = refl; packed = refl }) refl refl refl c.nothing.result c.nothing.ensures

pub returns-in-There-clause-nothing : goal.returns-in-There-clause-nothing
returns-in-There-clause-nothing g c =
    let there = (goal.at.returns-in-There-clause-nothing g c).In-There in
    let w = (witness c.args.refused.now (let all : length c.args.refused.now.front ≡ 16 = search rules in all)) in
    let h = c.reading.invariant.0 w.0 w.1 in
    let b = c.skip.ensures.drops.buffers in
    (b.taker ∙ h.since.taker, b.held ∙ h.since.held)

-- ---- all that there is is dropped

dropped_all : (g : _) (c : After-skip-in-reading g) (gone : List ℕ) (has : HasDropped c.args.refused.now gone)
    → (a : HasSkippedAll g.T.Taker.known c.args.limits gone g.R.Source.left g.R.Source.calls c.args.self.now c.skip-in-reading.new.self c.drop_bytes.new.self)
    × WantsMore c.args.limits (bytes_of g.T.Taker.known c.args.limits gone g.R.Source.left g.R.Source.calls c.args.self.now c.skip-in-reading.new.self a.since)
dropped_all g c gone has =
    let h = c.reading.invariant.0 gone has in
    let drops = subst (λ (l : List ℕ). Drops (length l) c.reading.self c.skip-in-reading.new.self) c.part.ensures c.skip-in-reading.ensures.drops in
    let all = (subst (λ (l : List ℕ). HasDropped c.drop_bytes.new.self ((gone ++ h.more) ++ l)) c.part-in-reading.ensures (c.drop_bytes.ensures.dropped (gone ++ h.more) h.dropped)) in
    let a = skip_rest g.T.Taker.known c.args.limits gone g.R.Source.left g.R.Source.calls c.args.self.now c.reading.self c.skip-in-reading.new.self c.reading.refused h c.drop_bytes.new.self all drops c.skip-in-reading.ensures.unread in
    (a.0, subst (WantsMore c.args.limits) a.1 (c.in-Wanted.ensures ((gone ++ h.more) ++ part_of c.reading.self) all))

-- they are no more than were read
counted_all : (g : _) (c : After-skip-in-reading g) → c.drop_bytes.new.self.dropped ≤ done_of c.skip-in-reading.new.self
counted_all g c =
    let w = (witness c.args.refused.now (let all : length c.args.refused.now.front ≡ 16 = search rules in all)) in
    let a = (dropped_all g c w.0 w.1).0.skips in
    let done = a.done in
    let all = a.dropped.count in
    let first = w.1.count in
    let low = c.requires.counted in
    omega (arith, done, all, first, low)

pub returns-in-Unstated-clause-passes : goal.returns-in-Unstated-clause-passes
returns-in-Unstated-clause-passes g c = λ gone has.
    let h = c.reading.invariant.0 gone has in
    let drops = subst (λ (l : List ℕ). Drops (length l) c.reading.self c.skip-in-Unstated.new.self) c.part.ensures c.skip-in-Unstated.ensures.drops in
    let all = (subst (λ (l : List ℕ). HasDropped c.drop_bytes.new.self ((gone ++ h.more) ++ l)) c.part-in-reading.ensures (c.drop_bytes.ensures.dropped (gone ++ h.more) h.dropped)) in
    let a = skip_rest g.T.Taker.known c.args.limits gone g.R.Source.left g.R.Source.calls c.args.self.now c.reading.self c.skip-in-Unstated.new.self c.reading.refused h c.drop_bytes.new.self all drops c.skip-in-Unstated.ensures.unread in
    (a.0.since.reads, (subst (StatesNone c.args.limits) a.1 (c.in-Unstated.ensures ((gone ++ h.more) ++ part_of c.reading.self) all), a.0.skips))

pub returns-in-Unstated-clause-nothing : goal.returns-in-Unstated-clause-nothing
returns-in-Unstated-clause-nothing g c =
    let w = (witness c.args.refused.now (let all : length c.args.refused.now.front ≡ 16 = search rules in all)) in
    let h = c.reading.invariant.0 w.0 w.1 in
    let b = c.skip-in-Unstated.ensures.drops.buffers in
    (b.taker ∙ h.since.taker, b.held ∙ h.since.held)

pub returns-in-Unstated-clause-counted : goal.returns-in-Unstated-clause-counted
returns-in-Unstated-clause-counted g c =
    let w = (witness c.args.refused.now (let all : length c.args.refused.now.front ≡ 16 = search rules in all)) in
    let h = c.reading.invariant.0 w.0 w.1 in
    let drops = subst (λ (l : List ℕ). Drops (length l) c.reading.self c.skip-in-Unstated.new.self) c.part.ensures c.skip-in-Unstated.ensures.drops in
    let a = (skip_rest g.T.Taker.known c.args.limits w.0 g.R.Source.left g.R.Source.calls c.args.self.now c.reading.self c.skip-in-Unstated.new.self c.reading.refused h c.drop_bytes.new.self (subst (λ (l : List ℕ). HasDropped c.drop_bytes.new.self ((w.0 ++ h.more) ++ l)) c.part-in-reading.ensures (c.drop_bytes.ensures.dropped (w.0 ++ h.more) h.dropped)) drops
    c.skip-in-Unstated.ensures.unread).0.skips in
    let done = a.done in
    let all = a.dropped.count in
    let first = w.1.count in
    let low = c.requires.counted in
    omega (arith, done, all, first, low)

pub returns-then-self-clause-passes : goal.returns-then-self-clause-passes
returns-then-self-clause-passes g c = λ gone has.
    let a = dropped_all g (goal.at.returns-then-self-clause-passes g c).After-skip-in-reading gone has in
    (a.0.since.reads, (a.1, a.0.skips, c.if-self.true))

pub returns-then-self-clause-nothing : goal.returns-then-self-clause-nothing
returns-then-self-clause-nothing g c =
    let there = (goal.at.returns-then-self-clause-nothing g c).After-skip-in-reading in
    let w = (witness c.args.refused.now (let all : length c.args.refused.now.front ≡ 16 = search rules in all)) in
    let s = (dropped_all g there w.0 w.1).0.since in
    (s.taker, s.held)

pub returns-then-self-clause-counted : goal.returns-then-self-clause-counted
returns-then-self-clause-counted g c = counted_all g (goal.at.returns-then-self-clause-counted g c).After-skip-in-reading

pub returns-then-self-2-clause-passes : goal.returns-then-self-2-clause-passes
returns-then-self-2-clause-passes g c = λ gone has.
    let a = dropped_all g (goal.at.returns-then-self-2-clause-passes g c).After-skip-in-reading gone has in
    let r = c.skip-in-reading.new.self in
    let few : r.reads ≤ r.most_reads = r.few_reads in
    let all : r.reads ≡ r.most_reads = omega arith in
    (a.0.since.reads, (a.1, a.0.skips, all, c.if-self.false))

pub returns-then-self-2-clause-nothing : goal.returns-then-self-2-clause-nothing
returns-then-self-2-clause-nothing g c =
    let there = (goal.at.returns-then-self-2-clause-nothing g c).After-skip-in-reading in
    let w = (witness c.args.refused.now (let all : length c.args.refused.now.front ≡ 16 = search rules in all)) in
    let s = (dropped_all g there w.0 w.1).0.since in
    (s.taker, s.held)

pub returns-then-self-2-clause-counted : goal.returns-then-self-2-clause-counted
returns-then-self-2-clause-counted g c = counted_all g (goal.at.returns-then-self-2-clause-counted g c).After-skip-in-reading

-- the packets of the input are still what they were
skipped : (g : _) (c : After-skip-in-reading g) → KeepsPackets g.R.Source.packets g.R.Source.packet c.args.self.now c.skip-in-reading.new.self
skipped g c = unread g.R.Source.packets g.R.Source.packet g.T.Taker.known c.args.self.now c.reading.self c.skip-in-reading.new.self c.reading.invariant.4 c.skip-in-reading.ensures.unread

pub reading-preserved : goal.reading-preserved
reading-preserved g c =
    let there = (goal.at.reading-preserved g c).After-skip-in-reading in
    let fill = c.in-Ok.ensures in
    let unread = c.skip-in-reading.ensures.unread in
    let low = counted_all g there in
    let done = fill.calls.done in (
      λ gone has.
          let a = dropped_all g there gone has in
          skip_read g.T.Taker.known c.args.limits gone g.R.Source.left g.R.Source.calls c.args.self.now c.skip-in-reading.new.self c.drop_bytes.new.self a.0 a.1 c.fill.new.self fill.fills.0 c.if-self.false fill.calls fill.fills.1 fill.fills.2,
      omega (arith, low, done),
      fill.failed ∙ (ap g.R.Source.failures unread.source ∙ c.reading.invariant.2),
      fill.same_reference ∙ (ap g.R.Source.reference unread.source ∙ c.reading.invariant.3),
      λ all h. fill.packets all (skipped g there all h),
    )

pub returns-in-Err-clause-passes : goal.returns-in-Err-clause-passes
returns-in-Err-clause-passes g c = λ gone has.
    let a = dropped_all g (goal.at.returns-in-Err-clause-passes g c).After-skip-in-reading gone has in
    let fill = c.in-Err.ensures in
    let adds = adds_none g.R.Source.left c.skip-in-reading.new.self c.fill.new.self c.if-self.false fill.fills in
    skips_failed g.T.Taker.known c.args.limits gone g.R.Source.left g.R.Source.calls c.args.self.now c.skip-in-reading.new.self c.drop_bytes.new.self a.0 a.1 c.fill.new.self [] c.if-self.false fill.calls adds refl

pub returns-in-Err-clause-nothing : goal.returns-in-Err-clause-nothing
returns-in-Err-clause-nothing g c =
    let there = (goal.at.returns-in-Err-clause-nothing g c).After-skip-in-reading in
    let w = (witness c.args.refused.now (let all : length c.args.refused.now.front ≡ 16 = search rules in all)) in
    let s = (dropped_all g there w.0 w.1).0.since in
    let b = c.in-Err.ensures.fills.buffers in
    (b.taker ∙ s.taker, b.held ∙ s.held)

pub returns-in-Err-clause-counted : goal.returns-in-Err-clause-counted
returns-in-Err-clause-counted g c =
    let low = counted_all g (goal.at.returns-in-Err-clause-counted g c).After-skip-in-reading in
    let done = c.in-Err.ensures.calls.done in
    omega (arith, low, done)

-- ---- the packets of the input

pub returns-in-There-clause-packets : goal.returns-in-There-clause-packets
returns-in-There-clause-packets g c =
    let skipped = unread g.R.Source.packets g.R.Source.packet g.T.Taker.known c.args.self.now c.reading.self c.skip.new.self c.reading.invariant.4 c.skip.ensures.unread in
    λ all h. still g.R.Source.packets g.R.Source.packet c.skip.new.self _ refl refl refl refl all (skipped all h)

pub returns-in-Unstated-clause-packets : goal.returns-in-Unstated-clause-packets
returns-in-Unstated-clause-packets g c =
    unread g.R.Source.packets g.R.Source.packet g.T.Taker.known c.args.self.now c.reading.self c.skip-in-Unstated.new.self c.reading.invariant.4 c.skip-in-Unstated.ensures.unread

pub returns-then-self-clause-packets : goal.returns-then-self-clause-packets
returns-then-self-clause-packets g c = skipped g (goal.at.returns-then-self-clause-packets g c).After-skip-in-reading

pub returns-then-self-2-clause-packets : goal.returns-then-self-2-clause-packets
returns-then-self-2-clause-packets g c = skipped g (goal.at.returns-then-self-2-clause-packets g c).After-skip-in-reading

pub returns-in-Err-clause-packets : goal.returns-in-Err-clause-packets
returns-in-Err-clause-packets g c = λ all h. c.in-Err.ensures.packets all (skipped g (goal.at.returns-in-Err-clause-packets g c).After-skip-in-reading all h)
