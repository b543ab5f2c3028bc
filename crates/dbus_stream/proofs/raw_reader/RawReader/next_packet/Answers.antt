use Rattle.std.proofs.Common.{◌≡◌, ℕ, Some, refl, sym, ap, ◌∙◌, subst, arith, inl}
use Rattle.dbus_device.specs.Packets.{Packets}
use Rattle.dbus_stream.specs.Gathering.{GathererState, gathering}
use Rattle.dbus_stream.specs.Next.{ReadsNothing}
use Rattle.dbus_stream.specs.Packed.{number_of}
use Rattle.dbus_stream.specs.Packets.{HasPackets}
use Rattle.dbus_stream.specs.PassingPackets.{IsBeforeOther}
use Rattle.dbus_stream.specs.RawReading.{source_of}
use Rattle.dbus_stream.specs.Reading.{done_of}
use Rattle.dbus_stream.proofs.AheadSteps.{unread_both}
use Rattle.dbus_stream.proofs.PacketPassing.{before_other, onward_reads, packet_answers}
use Rattle.dbus_stream.proofs.PacketSteps.{unread}
use Rattle.dbus_stream.proofs.raw_reader.RawReader.next_packet.Goals as goal

-- all that was kept counts as done
dropped : (g : _) (c : goal.After-self-2-1 g) → ReadsNothing gathering c.args.self.now.reader c.drop_kept.new.self
dropped g c =
    unread_both c.args.self.now.reader _ c.drop_kept.new.self
    (record { source = refl; reads = refl; most_reads = refl; limits = ap (λ (t : GathererState). t.limits) c.let_go.ensures; ended = refl; read = refl; last = refl; packed = refl }) c.drop_kept.ensures.unread

still_of : (g : _) (c : goal.After-self-2-1 g) (all : Packets) → HasPackets g.R.Source.packets g.R.Source.packet all c.args.self.now.reader → HasPackets g.R.Source.packets g.R.Source.packet all c.drop_kept.new.self
still_of g c all has = unread g.R.Source.packets g.R.Source.packet gathering c.args.self.now.reader c.args.self.now.reader c.drop_kept.new.self (λ all has. has) (dropped g c) all has

-- the packet of the last read
number_is : (g : _) (c : goal.After-self-2-1 g) → number_of (g.R.Source.packet (source_of c.args.self.now)) ≡ Some c.in-Some.packet.number
number_is g c = ap number_of (sym c.packet.ensures ∙ c.in-Some.is)

pub returns-clause-passes : goal.returns-clause-passes
returns-clause-passes g c =
    let drops = c.drop_kept.ensures.drops in
    let past = c.read_past.ensures.past in
    inl (
      c.in-Some.packet.number,
      number_is g c,
      onward_reads g.R.Source.left g.R.Source.calls g.R.Source.packet c.in-Some.packet.number c.args.self.now c.drop_kept.new.self c.read_past.new.self (dropped g c) past.0,
      packet_answers g.R.Source.left g.R.Source.calls g.R.Source.packet c.in-Some.packet.number c.args.self.now _ c.drop_kept.new.self (dropped g c) (drops.taker ∙ c.let_go.ensures) drops.done drops.stopped past.0 c.read_past.result past.1,
    )

pub returns-clause-of_one : goal.returns-clause-of_one
returns-clause-of_one g c = λ all number has is i from before.
    let same : number ≡ c.in-Some.packet.number = (let both = sym is ∙ number_is g c in cc) in
    let read = (dropped g c).read in
    c.read_past.ensures.of_one all (still_of g c all has) i (omega (arith, from, read)) before ∙ ap Some (sym same)

pub returns-clause-packets : goal.returns-clause-packets
returns-clause-packets g c = λ all has. c.read_past.ensures.packets all (still_of g c all has)

pub returns-clause-next_other : goal.returns-clause-next_other
returns-clause-next_other g c = λ all number has is.
    let same : c.in-Some.packet.number ≡ number = (let both = sym (number_is g c) ∙ is in cc) in
    let past = c.read_past.ensures.past in
    subst (λ (n : ℕ). IsBeforeOther all n (done_of c.read_past.new.self) c.read_past.result) same
    (before_other gathering g.R.Source.left g.R.Source.calls g.R.Source.packets g.R.Source.packet c.in-Some.packet.number c.drop_kept.new.self all c.read_past.new.self c.drop_kept.ensures.drops.held
    (c.read_past.ensures.packets all (still_of g c all has)) past.0 c.read_past.result past.1)
