use Rattle.std.proofs.Common.{◌≤◌, arith, ap, length, refl, sym}
use Rattle.std.specs.List.{slice_range}
use Rattle.std.proofs.lemmas.List.{length-drop}
use Rattle.dbus_stream.specs.Rooms.{put_or}
use Rattle.dbus_stream.proofs.CutLaws.{left_of}
use Rattle.dbus_stream.proofs.reader.Reader.skip.Goals as goal

pub returns-clause-drops : goal.returns-clause-drops
returns-clause-drops g c =
    let now = c.args.self.now in
    record { buffers = record { taker = refl; held = refl; left = sym (left_of (put_or now.put (g.B.Buffer.room.bytes now.buffer)) now.start now.end c.args.count) }; done = refl; stopped = refl }

pub returns-clause-unread : goal.returns-clause-unread
returns-clause-unread g c =
    let now = c.args.self.now in
    let part = slice_range (put_or now.put (g.B.Buffer.room.bytes now.buffer)) now.start now.end in
    let there : c.args.count ≤ length part = c.requires in
    let left = ap length (left_of (put_or now.put (g.B.Buffer.room.bytes now.buffer)) now.start now.end c.args.count) in
    let size = length-drop c.args.count part in
    record { source = refl; reads = refl; most_reads = refl; limits = refl; ended = refl; read = omega (arith, there, left, size); last = refl; packed = refl }
