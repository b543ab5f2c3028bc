use Rattle.std.proofs.Common.{drop, take, length, ◌≤◌, ◌∙◌, ap, arith}
use Rattle.std.specs.List.{slice_range}
use Rattle.dbus_handshake_input.proofs.AheadSteps.{front_given}
use Rattle.dbus_handshake_input.proofs.read_ahead.ReadAhead.give.Goals as goal

pub returns-clause-bytes : goal.returns-clause-bytes
returns-clause-bytes g c =
    let now = c.args.self.now in
    let n = c.min-count.result in
    let size = ap length c.kept-kept.ensures in
    let count = c.min-count.ensures in
    let within : n ≤ length (slice_range now.bytes now.start now.end) = omega (arith, size, count) in
    front_given now.bytes c.copy_from_slice.new.self (drop n c.args.buffer.now) now.start now.end n within (c.copy_from_slice.ensures.after ∙ ap (take n) c.kept-kept.ensures)
