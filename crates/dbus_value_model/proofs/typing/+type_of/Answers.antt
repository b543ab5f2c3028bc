use Rattle.std.proofs.Common.{take_all, ◌≡◌, ◌++◌, ◌∷◌, [], map, take, sym, ap, ◌∙◌, rules}
use Rattle.std.proofs.lemmas.List.{map_push, map_more}
use Rattle.dbus_texts.specs.Types.{StructType}
use Rattle.dbus_types.specs.SigTypes.{type_tree, type_trees_of}
use Rattle.dbus_value_model.specs.Values.{StructValue, type_of as tree_type}
use Rattle.dbus_value_model.specs.ValueViews.{value_tree, value_trees_of}
use Rattle.dbus_types.proofs.TypeEnds.{type_tree-Struct}
use Rattle.dbus_value_model.proofs.ValueRows.{tree-Struct}
use Rattle.dbus_value_model.proofs.TypeRows.{struct_type, entry_type}
use Rattle.dbus_value_model.proofs.typing.+type_of.Goals as goal

pub type_of-returns-in_ok-new-in-Struct : goal.type_of-returns-in_ok-new-in-Struct
type_of-returns-in_ok-new-in-Struct g t c =
    let made = c.in_ok-new-in-Struct.field-0 in
    let types = c.in_ok-types-in-Struct.types in
    let fields = c.in-Struct.fields in
    type_tree-Struct made ∙ ap (λ v. StructType (type_trees_of v.items)) c.in_ok-new-in-Struct.ensures.ok ∙ struct_type types.items c.deref.result.now c.in_ok-types-in-Struct.ensures
    ∙ ap (λ vs. tree_type (StructValue (value_trees_of vs))) c.deref.ensures.value
    ∙ ap tree_type (sym (tree-Struct fields)) ∙ ap (λ v. tree_type (value_tree v)) (sym c.in-Struct.is)

pub type_of-returns-in_ok-new-in-Entry-2 : goal.type_of-returns-in_ok-new-in-Entry-2
type_of-returns-in_ok-new-in-Entry-2 g t c =
    let key = ap type_tree c.in_ok-new-in-Entry.ensures.ok ∙ c.in_ok-key-in-Entry.ensures ∙ ap (λ e. tree_type (value_tree e.key)) c.deref-in-Entry.ensures in
    let held = ap type_tree c.in_ok-new-in-Entry-2.ensures.ok ∙ c.in_ok-value-in-Entry.ensures ∙ ap (λ e. tree_type (value_tree e.value)) c.deref-in-Entry-2.ensures in
    rw c.in-Entry.is (entry_type c.in_ok-new-in-Entry.field-0 c.in_ok-new-in-Entry-2.field-0 c.in-Entry.entry key held)

pub types_of-loop-value-preserved : goal.types_of-loop-value-preserved
types_of-loop-value-preserved g t c =
    let xs = c.args.values.now in
    let i = c.loop-value.value-index in
    let x = c.value-item.result in
    let made = c.in_ok-type_of.field-0 in
    let pushed : c.push.new.self.items ≡ c.loop-value.types.items ++ made ∷ [] = search rules in
    ap (map type_tree) pushed ∙ map_push type_tree c.loop-value.types.items made
    ∙ ap (λ l. l ++ type_tree made ∷ []) c.loop-value.invariant
    ∙ ap (λ u. map (λ v. tree_type (value_tree v)) (take i xs) ++ u ∷ []) (c.in_ok-type_of.ensures ∙ ap (λ v. tree_type (value_tree v)) c.value-item.is)
    ∙ sym (map_more (λ v. tree_type (value_tree v)) xs i x c.loop-value-test.true)

pub types_of-returns : goal.types_of-returns
types_of-returns g t c = c.loop-value.invariant ∙ ap (map (λ v. tree_type (value_tree v))) (take_all c.loop-value.value-index c.args.values.now c.loop-value-test.false)
