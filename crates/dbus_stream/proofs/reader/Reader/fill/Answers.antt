use Rattle.std.proofs.Common.{◌≤◌, arith, ap, length, refl, sym, ◌∙◌}
use Rattle.dbus_stream.proofs.CutLaws.{no_part, part_size}
use Rattle.dbus_stream.proofs.PacketSteps.{none_of, none_packed, read_more}
use Rattle.dbus_stream.proofs.reader.Reader.fill.Goals as goal

pub returns-clause-packets : goal.returns-clause-packets
returns-clause-packets g c =
    let e = c.in_ok-count.ensures in
    let n = c.in_ok-count.count in
    let there : n ≤ length (g.B.Buffer.room.bytes c.read_from.new.self) = e.there in
    let none = ap length c.requires.drained in
    let size = part_size (g.B.Buffer.room.bytes c.read_from.new.self) 0 n (omega arith) there in
    read_more g.R.Source.packets g.R.Source.packet n c.args.self.now _ (omega (arith, none, size)) refl e.of_packet.0 e.of_packet.1 e.leaves_packet
    (λ none. let p = none_packed c.args.self.now.packed _ (sym c.is_packed-self.ensures ∙ none) in (p.0, λ _. sym c.packet.ensures ∙ p.1))

pub returns-in_err-count-clause-packets : goal.returns-in_err-count-clause-packets
returns-in_err-count-clause-packets g c =
    let e = c.in_err-count.ensures in
    let none = ap length c.requires.drained in
    let size = ap length (no_part (g.B.Buffer.room.bytes c.read_from.new.self) 0 0 refl) in
    read_more g.R.Source.packets g.R.Source.packet 0 c.args.self.now _ (omega (arith, none, size)) refl e.of_packet (none_of _ _) (λ _. e.leaves_packet) (λ none. (none, λ some. absurd (omega (arith, some))))
