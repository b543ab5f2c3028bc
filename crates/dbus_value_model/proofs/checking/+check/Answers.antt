use Rattle.std.proofs.Common.{arith, rules}
use Rattle.dbus_value_model.specs.declared.value.Value.{the_lemmas}
use Rattle.dbus_value_model.proofs.Formed.{below_most}
use Rattle.dbus_value_model.proofs.Verdicts.{found_more, array_found, struct_found, variant_found, bytes_found}
use Rattle.dbus_value_model.proofs.checking.+check.Goals as goal

pub check_parts-check_all-requires : goal.check_parts-check_all-requires
check_parts-check_all-requires g t c κs within =
    let measure = rw c.in-Array.is at c.decreases in
    (rw (c.deref-in-Array-2.ensures.value, ← measure) (search (rules, the_lemmas)), within)

pub check_parts-check_all-requires-in-Struct : goal.check_parts-check_all-requires-in-Struct
check_parts-check_all-requires-in-Struct g t c κs within =
    let measure = rw c.in-Struct.is at c.decreases in
    (rw (c.deref-in-Struct.ensures.value, ← measure) (search (rules, the_lemmas)), within)

pub check_all-check_parts-requires : goal.check_all-check_parts-requires
check_all-check_parts-requires g t c κs within = (
  rw (← c.decreases) (below_most _ c.args.values.now c.loop-value.value-index c.value-item.result c.loop-value-test.true
      c.value-item.is),
  within,
)

pub check_parts-returns-else-depth_left-eq0 : goal.check_parts-returns-else-depth_left-eq0
check_parts-returns-else-depth_left-eq0 g t c = rw c.in-Bytes.is
    (bytes_found c.args.depth_left c.in-Bytes.bytes (omega (arith, c.if-depth_left-eq0.false))
    (rw c.deref.ensures.value at c.bytes_in_range.ensures))

pub check_parts-returns-else-depth_left-eq0-2 : goal.check_parts-returns-else-depth_left-eq0-2
check_parts-returns-else-depth_left-eq0-2 g t c =
    rw (c.in-Array.is, c.earlier.ensures) (array_found c.args.depth_left c.in-Array.element c.in-Array.items c.check_items-found.result
    c.check_all.result (omega (arith, c.if-depth_left-eq0-2.false)) (rw c.deref-in-Array.ensures.value at c.check_items-found.ensures)
    (rw c.deref-in-Array-2.ensures.value at c.check_all.ensures))

pub check_parts-returns-else-depth_left-eq0-3 : goal.check_parts-returns-else-depth_left-eq0-3
check_parts-returns-else-depth_left-eq0-3 g t c =
    rw c.in-Struct.is (struct_found c.args.depth_left c.in-Struct.fields c.check_all-in-Struct.result
    (omega (arith, c.if-depth_left-eq0-3.false)) (rw c.deref-in-Struct.ensures.value at c.check_all-in-Struct.ensures))

pub check_parts-returns-else-depth_left-eq0-4 : goal.check_parts-returns-else-depth_left-eq0-4
check_parts-returns-else-depth_left-eq0-4 g t c =
    rw (c.in-Variant.is, c.earlier-in-Variant.ensures) (variant_found c.args.depth_left c.in-Variant.inner c.check_single.result
    c.check_parts-in-Variant.result (omega (arith, c.if-depth_left-eq0-4.false))
    (rw c.deref-in-Variant.ensures at c.check_single.ensures) (rw c.deref-in-Variant-2.ensures at c.check_parts-in-Variant.ensures))

pub check_all-loop-value-preserved : goal.check_all-loop-value-preserved
check_all-loop-value-preserved g t c =
    rw c.earlier-found.ensures (found_more c.args.depth_left c.args.values.now c.loop-value.value-index c.value-item.result
    c.loop-value.found c.check_parts.result c.loop-value-test.true c.value-item.is c.loop-value.invariant c.check_parts.ensures)
