use Rattle.std.proofs.Common.{◌+◌, length, reverse, arith}
use Rattle.dbus_value_checker.proofs.FrameLaws.{inner_of, frame_within}
use Rattle.dbus_value_checker.proofs.values.ValueChecker.advance.Goals as goal

pub overflow_add-self : goal.overflow_add-self
overflow_add-self c =
    let x = c.args.self.now in
    let q = x.offset + c.in-Some.size in
    let goes = c.in-Some.ensures.goes c.requires.valid.0 c.requires.valid.1 in
    let low = (inner_of (record x { offset = q }) q goes.ws goes.frames).low in
    let near = (frame_within q q (length x.text.items) x.end x.text.items x.inner (reverse x.frames.items) goes.ws goes.frames).2 in
    omega arith
