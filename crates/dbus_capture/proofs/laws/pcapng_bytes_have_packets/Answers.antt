use Rattle.std.proofs.Common.{[], Bool, false, length, sym, subst}
use Rattle.dbus_capture.specs.CutPackets.{Captured, IsCaptured}
use Rattle.dbus_capture.proofs.Leads.{packet_from}
use Rattle.dbus_capture.specs.BlockFiles.{interfaces_all, last_section}
use Rattle.dbus_capture.proofs.BlockReads.{block_begins}
use Rattle.dbus_capture.proofs.SectionReads.{first_of_sections, file_read}
use Rattle.dbus_capture.proofs.laws.pcapng_bytes_have_packets.Goals as goal

pub returns : goal.returns
returns c passes x sections i form packet rest more n f g captured fits body whole timed found link_type low =
    let last = last_section x sections in
    let read = file_read passes x sections f g captured in
    let one : Captured = record { original = length packet; bytes = packet } in
    let still = subst (λ (a : Bool). IsCaptured false a one) (sym read.alone) whole in
    let begins = block_begins last.order (interfaces_all [] last.blocks) read.final i form packet rest fits body still timed found link_type in
    packet_from (first_of_sections x sections) read begins more n low
