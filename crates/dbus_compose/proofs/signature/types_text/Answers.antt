use Rattle.std.proofs.Common.{◌+◌, ◌++◌, ℕ, List, drop, string_bytes, sym, ap, ◌∙◌, append_assoc}
use Rattle.dbus_texts.specs.Types.{TypeTree, sig, sigs}
use Rattle.dbus_value_model.specs.Values.{type_of, types_of}
use Rattle.dbus_value_model.specs.ValueViews.{value_tree, value_trees_of}
use Rattle.dbus_value_model.proofs.TypeRows.{types_more}
use Rattle.dbus_compose.proofs.signature.types_text.Goals as goal

pub loop-value-preserved : goal.loop-value-preserved
loop-value-preserved g c =
    let so_far = string_bytes c.loop-value.text in
    let rest = sigs (types_of (value_trees_of (drop (c.loop-value.value-index + 1) c.args.values.now))) in
    ap (λ (t : List ℕ). t ++ rest) (c.in_ok-push_type.ensures.written ∙ ap (λ (ty : TypeTree). so_far ++ sig ty) c.in_ok-ty.ensures)
    ∙ append_assoc so_far (sig (type_of (value_tree c.value-item.result))) rest
    ∙ ap (λ (t : List ℕ). so_far ++ t) (sym (types_more c.args.values.now c.loop-value.value-index c.value-item.result c.loop-value-test.true c.value-item.is))
    ∙ c.loop-value.invariant
