use Rattle.std.proofs.Common.{◌+◌, ◌<◌, false, List, [], ◌∷◌, Some, None, length, drop, sym, ap, subst, ◌∙◌, arith}
use Rattle.std.proofs.lemmas.Bool.{eqb-false}
use Rattle.std.proofs.lemmas.List.{at_drop_all}
use Rattle.dbus_texts.specs.Types.{TypeTrees, AreSome}
use Rattle.dbus_types.specs.Parses.{LeavesOfType, LeavesOfTypes}
use Rattle.dbus_types.proofs.PrefixSteps.{struct_leaves, none_leave, more_leave, first_leaves_none}
use Rattle.dbus_value_model.specs.Values.{type_of, types_of}
use Rattle.dbus_value_model.specs.ValueViews.{value_tree, value_trees_of}
use Rattle.dbus_value_model.specs.declared.value.Value.{Value, the_lemmas}
use Rattle.dbus_value_model.proofs.ValueRows.{items_from, tree-Struct}
use Rattle.dbus_value_model.proofs.typed.+type_left.Goals as goal

are_some : {A : Type 0} (vs : List (Value A)) → 0 < length vs → AreSome (types_of (value_trees_of vs))
are_some [] h = absurd (omega arith)
are_some (v ∷ vs) h = tt

pub type_left-types_left-requires : goal.type_left-types_left-requires
type_left-types_left-requires g t c κs within =
    let is = c.in-Struct.is in
    let there = c.deref.ensures.value in
    let measure = rw is at c.decreases in
    (rw (there, ← measure) (grind (arith, the_lemmas)), within)

pub type_left-returns-else-is_empty : goal.type_left-returns-else-is_empty
type_left-returns-else-is_empty g t c =
    let vs = c.in-Struct.fields.items in
    let long : 0 < length vs = omega (arith, eqb-false c.in-Struct.fields.len 0 (sym c.if-is_empty.ensures), c.in-Struct.fields.ok.0) in
    let left = rw c.deref.ensures.value at c.types_left.ensures in
    subst (λ u. LeavesOfType u false 0 c.args.structs c.args.left c.types_left.result) (sym (ap (λ v. type_of (value_tree v)) c.in-Struct.is ∙ ap type_of (tree-Struct c.in-Struct.fields)))
    (struct_leaves (types_of (value_trees_of vs)) false 0 c.args.structs c.args.left c.types_left.result (omega arith) (omega arith) (are_some vs long) left)

pub types_left-returns-in_err-left : goal.types_left-returns-in_err-left
types_left-returns-in_err-left g t c =
    let vs = c.args.values.now in
    let i = c.loop-value.value-index in
    let x = c.value-item.result in
    rw c.from_residual.ensures (c.loop-value.invariant None (items_from (λ us. LeavesOfTypes (types_of (value_trees_of us)) 0 c.args.structs c.loop-value.left None) vs i x c.loop-value-test.true c.value-item.is (first_leaves_none (type_of (value_tree x)) (types_of (value_trees_of (drop (i + 1) vs))) 0 c.args.structs c.loop-value.left c.in_err-left.ensures)))

pub types_left-loop-value-preserved : goal.types_left-loop-value-preserved
types_left-loop-value-preserved g t c = λ r h.
    let vs = c.args.values.now in
    let i = c.loop-value.value-index in
    let x = c.value-item.result in
    c.loop-value.invariant r (items_from (λ us. LeavesOfTypes (types_of (value_trees_of us)) 0 c.args.structs c.loop-value.left r) vs i x c.loop-value-test.true c.value-item.is (more_leave (type_of (value_tree x)) (types_of (value_trees_of (drop (i + 1) vs))) 0 c.args.structs c.loop-value.left c.in_ok-left.left r c.in_ok-left.ensures h))

pub types_left-returns : goal.types_left-returns
types_left-returns g t c =
    c.loop-value.invariant (Some c.loop-value.left)
    (subst (λ (us : TypeTrees). LeavesOfTypes us 0 c.args.structs c.loop-value.left (Some c.loop-value.left)) (sym (at_drop_all (λ vs. types_of (value_trees_of vs)) c.args.values.now c.loop-value.value-index c.loop-value-test.false)) (none_leave 0 c.args.structs c.loop-value.left))
