use Rattle.std.proofs.Common.{◌+◌, sym, arith}
use Rattle.dbus_walk.proofs.FieldParts.{field_apart, field_inside}
use Rattle.dbus_walk.proofs.fields.field_at.Goals as goal

pub overflow_add-start : goal.overflow_add-start
overflow_add-start c = omega (arith, field_inside c.requires.stands c.gap.ensures)

pub overflow_add-variant : goal.overflow_add-variant
overflow_add-variant c = omega (arith, field_inside c.requires.stands c.gap.ensures)

pub bounds-source-variant : goal.bounds-source-variant
bounds-source-variant c = omega (arith, field_inside c.requires.stands c.gap.ensures)

pub overflow_add-first : goal.overflow_add-first
overflow_add-first c = omega (arith, field_inside c.requires.stands c.gap.ensures)

pub bounds-source-start : goal.bounds-source-start
bounds-source-start c = omega (arith, field_inside c.requires.stands c.gap.ensures)

pub overflow_add-end : goal.overflow_add-end
overflow_add-end c = omega (arith, field_inside c.requires.stands c.gap.ensures, c.from-size.ensures)

pub slice_bounds-result-end : goal.slice_bounds-result-end
slice_bounds-result-end c = omega (arith, field_inside c.requires.stands c.gap.ensures, c.from-size.ensures)

pub overflow_add-result : goal.overflow_add-result
overflow_add-result c = omega (arith, field_inside c.requires.stands c.gap.ensures, c.from-size.ensures)

pub returns : goal.returns
returns c = λ f rest s.
    let p = field_apart c.args.source.now c.args.depth_left c.args.at f rest s (c.args.at + c.gap.result) (omega (arith, c.gap.ensures)) c.from-size.result c.from-size.ensures in
    record { code = sym p.code; few = omega (arith, p.few); single = p.single; begins = omega (arith, p.value_begins, c.gap.ensures); value = p.value; ends = p.ends }
