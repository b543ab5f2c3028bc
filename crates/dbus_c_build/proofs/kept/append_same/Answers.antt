use Rattle.std.proofs.Common.{◌+◌, ◌-◌, ◌++◌, ℕ, List, take, drop, ap, ◌∙◌, arith}
use Rattle.std.proofs.lemmas.List.{length-drop}
use Rattle.dbus_message_model.specs.Messages.{field_struct}
use Rattle.dbus_walk.proofs.Parts.{stands_positive}
use Rattle.dbus_c_build.proofs.Anywhere.{coded, struct_copied, struct_inside}
use Rattle.dbus_c_build.proofs.Spelling.{if_ok}
use Rattle.dbus_c_build.proofs.kept.append_same.Goals as goal

pub overflow_add-start : goal.overflow_add-start
overflow_add-start g c =
    let source = c.args.source.now in
    let r = c.requires.stands in
    let some = stands_positive source.order (field_struct r.1) c.args.at r.3.stands.shaped in
    omega (arith, struct_inside source.order (coded r.1) source.bytes.now r.2 c.args.at (c.args.at + c.gap.result) c.args.end r.3.stands.spelled some (omega (arith, c.gap.ensures)) r.4)

pub slice_bounds-field-count : goal.slice_bounds-field-count
slice_bounds-field-count g c =
    let source = c.args.source.now in
    let r = c.requires.stands in
    let some = stands_positive source.order (field_struct r.1) c.args.at r.3.stands.shaped in
    omega (arith, struct_inside source.order (coded r.1) source.bytes.now r.2 c.args.at (c.args.at + c.gap.result) c.args.end r.3.stands.spelled some (omega (arith, c.gap.ensures)) r.4)

pub slice_bounds-field-start : goal.slice_bounds-field-start
slice_bounds-field-start g c =
    let source = c.args.source.now in
    let r = c.requires.stands in
    let some = stands_positive source.order (field_struct r.1) c.args.at r.3.stands.shaped in
    omega (arith, struct_inside source.order (coded r.1) source.bytes.now r.2 c.args.at (c.args.at + c.gap.result) c.args.end r.3.stands.spelled some (omega (arith, c.gap.ensures)) r.4)

pub slice_bounds-field-end : goal.slice_bounds-field-end
slice_bounds-field-end g c =
    let source = c.args.source.now in
    let r = c.requires.stands in
    let some = stands_positive source.order (field_struct r.1) c.args.at r.3.stands.shaped in
    omega (arith, struct_inside source.order (coded r.1) source.bytes.now r.2 c.args.at (c.args.at + c.gap.result) c.args.end r.3.stands.spelled some (omega (arith, c.gap.ensures)) r.4, length-drop (c.args.at + c.gap.result) source.bytes.now)

pub returns : goal.returns
returns g c = λ depth f rest s ends.
    let source = c.args.source.now in
    let front = c.args.out.now.items in
    let start = c.args.at + c.gap.result in
    let copied = struct_copied source.order (coded f) front source.bytes.now rest c.args.at start c.args.end s.stands.spelled (omega (arith, c.gap.ensures)) ends in
    let field = take (c.args.end - start) (drop start source.bytes.now) in
    if_ok c.extend_from_slice.result c.extend_from_slice.new.self.items _ c.begin_struct.new.out.items _ c.extend_from_slice.ensures.items (ap (λ (l : List ℕ). l ++ field) c.in_ok-begin_struct.ensures.written ∙ copied)
