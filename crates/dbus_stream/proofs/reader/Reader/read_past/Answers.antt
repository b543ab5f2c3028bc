use Rattle.std.proofs.Common.{◌≡◌, ◌<◌, [], length, Some, refl, sym, ap, ◌∙◌, arith}
use Rattle.dbus_stream.specs.Packed.{number_of}
use Rattle.dbus_stream.specs.Packets.{KeepsPackets}
use Rattle.dbus_stream.specs.Reading.{source_of}
use Rattle.dbus_stream.proofs.NextSteps.{adds_none}
use Rattle.dbus_stream.proofs.PacketPassing.{passed_failed, passed_more, passed_none, passed_other}
use Rattle.dbus_stream.proofs.PacketSteps.{still, unread}
use Rattle.dbus_stream.proofs.reader.Reader.read_past.Goals as goal
use Rattle.dbus_stream.proofs.reader.Reader.read_past.Goals.{else-count-gt0-via-then-count-gt0+else-is_other, else-count-gt0-via-else-count-gt0}

pub reading-init : goal.reading-init
reading-init g c = (passed_none g.T.Taker.known g.R.Source.left g.R.Source.calls g.R.Source.packets g.R.Source.packet c.args.number c.args.self.now c.requires.drained, refl, refl, λ all h. h)

pub returns-then-self-clause-past : goal.returns-then-self-clause-past
returns-then-self-clause-past g c = let h = c.reading.invariant.0 in (h.reads, (h.past, c.if-self.true))

pub returns-then-self-2-clause-past : goal.returns-then-self-2-clause-past
returns-then-self-2-clause-past g c =
    let h = c.reading.invariant.0 in
    let few = c.reading.self.few_reads in
    (h.reads, (h.past, omega (arith, few, c.if-self-2.true), c.if-self.false))

pub returns-in-Err-clause-past : goal.returns-in-Err-clause-past
returns-in-Err-clause-past g c =
    let fill = c.in-Err.ensures in
    let adds = adds_none g.R.Source.left c.reading.self c.fill.new.self c.if-self.false fill.fills in
    passed_failed g.T.Taker.known g.R.Source.left g.R.Source.calls g.R.Source.packets g.R.Source.packet c.args.number c.args.self.now c.reading.self c.fill.new.self c.reading.invariant.0 c.if-self.false fill.calls [] adds refl

pub returns-then-is_other-clause-past : goal.returns-then-is_other-clause-past
returns-then-is_other-clause-past g c =
    let fill = c.in-Ok.ensures in
    let size = ap length c.part.ensures in
    passed_other g.T.Taker.known g.R.Source.left g.R.Source.calls g.R.Source.packets g.R.Source.packet c.args.number c.args.self.now c.reading.self c.fill.new.self c.reading.invariant.0 c.if-self.false fill.calls fill.fills.0 fill.fills.1
    fill.fills.2 (omega (arith, c.if-count-gt0.true, size)) (λ e. c.is_other.ensures.other c.if-is_other.true (ap number_of c.packet.ensures ∙ e)) _ (record { source = refl; reads = refl; most_reads = refl; limits = refl; ended = refl; read = refl; last = refl; packed = refl }) refl refl refl refl refl

pub returns-then-is_other-clause-packets : goal.returns-then-is_other-clause-packets
returns-then-is_other-clause-packets g c = λ all h. still g.R.Source.packets g.R.Source.packet c.fill.new.self _ refl refl refl refl all (c.in-Ok.ensures.packets all (c.reading.invariant.3 all h))

pub reading-preserved : goal.reading-preserved
reading-preserved g c =
    let i = c.reading.invariant in
    let fill = c.in-Ok.ensures in
    let n = c.skip.ensures.unread in
    let count = length c.part.result.now in
    let keeps : KeepsPackets g.R.Source.packets g.R.Source.packet c.args.self.now c.fill.new.self = λ all h. fill.packets all (i.3 all h) in
    let same = elim c.else-count-gt0.branch as (λ _. 0 < count → number_of (g.R.Source.packet (source_of c.fill.new.self)) ≡ Some c.args.number) [
      | else-count-gt0-via-then-count-gt0+else-is_other w ↦ λ _. ap number_of (sym w.packet.ensures) ∙ w.is_other.ensures.same w.if-is_other.false
      | else-count-gt0-via-else-count-gt0 w ↦ λ some. absurd (let none = w.if-count-gt0.false in omega (arith, some, none))
    ] in (
      passed_more g.T.Taker.known g.R.Source.left g.R.Source.calls g.R.Source.packets g.R.Source.packet c.args.number c.args.self.now c.reading.self c.fill.new.self i.0 c.if-self.false fill.calls fill.fills.0 fill.fills.1
          c.requires.held fill.fills.2 keeps count (ap length c.part.ensures) same c.skip.new.self c.skip.ensures.drops n,
      ap g.R.Source.failures n.source ∙ (fill.failed ∙ i.1),
      ap g.R.Source.reference n.source ∙ (fill.same_reference ∙ i.2),
      unread g.R.Source.packets g.R.Source.packet g.T.Taker.known c.args.self.now c.fill.new.self c.skip.new.self keeps n,
    )
