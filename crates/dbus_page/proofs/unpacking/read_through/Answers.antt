use Rattle.std.proofs.Common.{rules, length, ◌-◌, ◌<◌, Option, inr, refl, sym, subst, arith, ◌∙◌}
use Rattle.std.proofs.KnownBytes.{Consumes-nil}
use Rattle.dbus_capture.specs.Captures.{input_of, left_of, packets_of}
use Rattle.dbus_device.specs.Packets.{AreOfPacket}
use Rattle.dbus_device.specs.declared.packet.Packet.{Packet}
use Rattle.dbus_page.proofs.FileSteps.{input_ran, input_unfailed, ran_nothing, end_fault, read_fails}
use Rattle.dbus_page.proofs.PartSteps.{front_read, more_read, none_read, same_read}
use Rattle.dbus_page.proofs.unpacking.read_through.Goals as goal

pub loop-number-preserved : goal.loop-number-preserved
loop-number-preserved g c =
    let l = c.loop-number in
    let left = g.R.Source.left in
    let packets = packets_of left in
    let k = c.in-Ok.count in
    let m = length l.room - l.length in
    let read = c.in-Ok.ensures in
    let of = subst (λ (p : Option Packet). AreOfPacket k (packets (input_of l.capture)) p) (sym c.packet.ensures) read.of_packet.1 in (
      more_read (left_of left) packets (input_of c.args.capture.now) (input_of l.capture) (input_of c.read.new.self) l.room c.read.new.buffer l.length m k l.parts l.number c.part_of.result c.packet.result
          l.invariant.0 (omega (arith, c.if-count-eq0.false)) read.bound (omega (arith, c.loop-number-test.true, l.auto.parts)) read.bytes.0 read.of_packet.0 of c.part_of.ensures.begins c.part_of.ensures.numbered c.part_of.ensures.timed
          (front_read l.room c.read.new.buffer l.length m k l.invariant.0.within read.bound),
      input_ran left g.R.Source.calls g.R.Source.failures (input_of c.args.capture.now) (input_of l.capture) (input_of c.read.new.self) c.read.new.buffer l.invariant.1 k read.input c.if-count-eq0.false,
      input_unfailed left g.R.Source.calls g.R.Source.failures (input_of c.args.capture.now) (input_of l.capture) (input_of c.read.new.self) c.read.new.buffer l.invariant.1 k read.input ∙ l.invariant.2,
    )

pub loop-number-init : goal.loop-number-init
loop-number-init g c =
    let left = g.R.Source.left in
    let capture = input_of c.args.capture.now in (
      none_read (left_of left) (packets_of left) capture c.args.room.now c.args.parts.now (Consumes-nil (left_of left capture)),
      ran_nothing left g.R.Source.calls g.R.Source.failures capture,
      refl,
    )

pub returns-then-count-eq0-clause-read : goal.returns-then-count-eq0-clause-read
returns-then-count-eq0-clause-read g c =
    let l = c.loop-number in
    let left = g.R.Source.left in
    same_read (left_of left) (packets_of left) (input_of c.args.capture.now) (input_of l.capture) (input_of c.read.new.self) l.room c.read.new.buffer l.length (length l.room - l.length) c.in-Ok.count l.parts l.number
    l.invariant.0 c.if-count-eq0.true c.in-Ok.ensures.bytes.0

pub returns-then-count-eq0-clause-fault : goal.returns-then-count-eq0-clause-fault
returns-then-count-eq0-clause-fault g c = λ some bytes is.
    let l = c.loop-number in
    let room : 0 < length c.read.new.buffer = search rules in
    end_fault g.R.Source.left g.R.Source.calls g.R.Source.failures (input_of c.args.capture.now) (input_of l.capture) (input_of c.read.new.self) c.read.new.buffer l.invariant.1 c.in-Ok.count bytes c.in-Ok.ensures.input c.if-count-eq0.true room is

pub returns-in-Err-clause-full : goal.returns-in-Err-clause-full
returns-in-Err-clause-full g c = λ none bytes is.
    let l = c.loop-number in
    inr (read_fails g.R.Source.left g.R.Source.calls g.R.Source.failures (input_of c.args.capture.now) (input_of l.capture) (input_of c.read.new.self) c.read.new.buffer l.invariant.1 c.in-Err.field-0 bytes l.invariant.2 is c.in-Err.ensures.input)
