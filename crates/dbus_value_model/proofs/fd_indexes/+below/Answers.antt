use Rattle.std.proofs.Common.{Some, refl, sym, subst, rules}
use Rattle.std.proofs.lemmas.Bool.{false≢true}
use Rattle.dbus_value_model.specs.FdIndexes.{AreIndexesBelow, AreAllBelow}
use Rattle.dbus_value_model.specs.ValueViews.{value_tree, value_trees_of}
use Rattle.dbus_value_model.specs.declared.value.Value.{the_lemmas}
use Rattle.dbus_value_model.proofs.Formed.{below_most}
use Rattle.dbus_value_model.proofs.ValueRows.{tree-Array, tree-Struct, tree-Bytes, item_of, items_from}
use Rattle.dbus_value_model.proofs.Indexes.{bytes_below}
use Rattle.dbus_value_model.proofs.fd_indexes.+below.Goals as goal

pub is_below-are_below-requires : goal.is_below-are_below-requires
is_below-are_below-requires g t c κs within =
    let measure = rw c.in-Array.is at c.decreases in
    (rw (c.deref.ensures.value, ← measure) (search (rules, the_lemmas)), within)

pub is_below-are_below-requires-in-Struct : goal.is_below-are_below-requires-in-Struct
is_below-are_below-requires-in-Struct g t c κs within =
    let measure = rw c.in-Struct.is at c.decreases in
    (rw (c.deref-in-Struct.ensures.value, ← measure) (search (rules, the_lemmas)), within)

pub are_below-is_below-requires : goal.are_below-is_below-requires
are_below-is_below-requires g t c κs within =
    (rw (← c.decreases) (below_most _ c.args.values.now c.loop-value.value-index c.value-item.result c.loop-value-test.true c.value-item.is), within)

pub is_below-returns-in-Array : goal.is_below-returns-in-Array
is_below-returns-in-Array g t c =
    let items = rw c.deref.ensures.value at c.are_below.ensures in
    let fds = Some c.args.limit in
    rw c.in-Array.is (λ e. subst (AreIndexesBelow fds) (sym (tree-Array c.in-Array.field-0 c.in-Array.items)) (items.0 e), λ h. items.1 (subst (AreIndexesBelow fds) (tree-Array c.in-Array.field-0 c.in-Array.items) h))

pub is_below-returns-in-Struct : goal.is_below-returns-in-Struct
is_below-returns-in-Struct g t c =
    let fields = rw c.deref-in-Struct.ensures.value at c.are_below-in-Struct.ensures in
    let fds = Some c.args.limit in
    rw c.in-Struct.is (λ e. subst (AreIndexesBelow fds) (sym (tree-Struct c.in-Struct.fields)) (fields.0 e), λ h. fields.1 (subst (AreIndexesBelow fds) (tree-Struct c.in-Struct.fields) h))

pub is_below-returns-in-Bytes : goal.is_below-returns-in-Bytes
is_below-returns-in-Bytes g t c = rw c.in-Bytes.is (λ e. subst (AreIndexesBelow (Some c.args.limit)) (sym (tree-Bytes c.in-Bytes.field-0)) (bytes_below (Some c.args.limit) c.in-Bytes.field-0.items), λ h. refl)

pub are_below-returns-then-not-is_below : goal.are_below-returns-then-not-is_below
are_below-returns-then-not-is_below g t c = (
  λ e. absurd (false≢true e),
  λ h. absurd (false≢true (c.if-not-is_below.ensures.1 (item_of (λ vs. AreAllBelow (Some c.args.limit) (value_trees_of vs)) (λ v. AreIndexesBelow (Some c.args.limit) (value_tree v)) (λ v vs h. h) c.args.values.now c.loop-value.value-index c.value-item.result c.loop-value-test.true c.value-item.is h))),
)

pub are_below-loop-value-preserved : goal.are_below-loop-value-preserved
are_below-loop-value-preserved g t c = λ h. c.loop-value.invariant (items_from (λ vs. AreAllBelow (Some c.args.limit) (value_trees_of vs)) c.args.values.now c.loop-value.value-index c.value-item.result c.loop-value-test.true c.value-item.is (c.if-not-is_below.ensures.0 refl, h))
