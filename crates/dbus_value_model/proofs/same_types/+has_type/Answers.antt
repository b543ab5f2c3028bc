use Rattle.std.proofs.Common.{◌+◌, ◌<◌, length, drop, refl, sym, ap, ◌∙◌, arith, rules}
use Rattle.std.proofs.lemmas.Bool.{false≢true}
use Rattle.dbus_types.specs.SigTypes.{type_tree}
use Rattle.dbus_value_model.specs.Values.{type_of}
use Rattle.dbus_value_model.specs.ValueViews.{value_tree}
use Rattle.dbus_value_model.specs.declared.value.Value.{Value, the_lemmas}
use Rattle.dbus_texts.specs.Types.{TypeTree}
use Rattle.dbus_types.proofs.TypeEnds.{type_tree-Array, type_tree-Struct, type_tree-Entry}
use Rattle.dbus_value_model.proofs.Formed.{below_most}
use Rattle.dbus_value_model.proofs.ValueRows.{tree-Bytes, tree-Array, tree-Struct, tree-Entry}
use Rattle.dbus_value_model.proofs.TypeRows.{types_of-trees, same_length, differ_at, same_more, structs_same, arrays_same, entries_same, entries_differ, array_told, struct_told, entry_told, told_apart}
use Rattle.dbus_value_model.proofs.same_types.+has_type.Goals as goal

abbrev own : {A : Type 0} → Value A → TypeTree
own v = type_of (value_tree v)

pub has_type-returns-in_default-ty : goal.has_type-returns-in_default-ty
has_type-returns-in_default-ty g t c =
    rw (c.in-Bytes.is, tree-Bytes c.in-Bytes.field-0) (told_apart _ _ (array_told c.args.ty.now c.in_default-ty.not-Array _))

pub has_type-returns-in_default-ty-2 : goal.has_type-returns-in_default-ty-2
has_type-returns-in_default-ty-2 g t c =
    rw (c.in-Array.is, tree-Array c.in-Array.own c.in-Array.field-1) (told_apart _ _ (array_told c.args.ty.now c.in_default-ty-2.not-Array _))

pub has_type-returns-in_default-ty-3 : goal.has_type-returns-in_default-ty-3
has_type-returns-in_default-ty-3 g t c =
    rw (c.in-Struct.is, tree-Struct c.in-Struct.fields) (told_apart _ _ (struct_told c.args.ty.now c.in_default-ty-3.not-Struct _))

pub has_type-returns-in_default-ty-4 : goal.has_type-returns-in_default-ty-4
has_type-returns-in_default-ty-4 g t c =
    rw (c.in-Entry.is, tree-Entry c.in-Entry.entry) (told_apart _ _ (entry_told c.args.ty.now c.in_default-ty-4.not-Entry _ _))

pub has_type-have_types-requires : goal.has_type-have_types-requires
has_type-have_types-requires g t c κs within =
    let measure = rw c.in-Struct.is at c.decreases in
    (rw (c.deref-in-Struct-ty.ensures.value, ← measure) (search (rules, the_lemmas)), within)

pub has_type-has_type-requires : goal.has_type-has_type-requires
has_type-has_type-requires g t c κs within =
    let measure = rw c.in-Entry.is at c.decreases in
    (rw (c.deref-in-Entry-ty.ensures, ← measure) (search (rules, the_lemmas)), within)

pub has_type-has_type-requires-then-has_type : goal.has_type-has_type-requires-then-has_type
has_type-has_type-requires-then-has_type g t c κs within =
    let measure = rw c.in-Entry.is at c.decreases in
    (rw (c.deref-then-has_type.ensures, ← measure) (search (rules, the_lemmas)), within)

pub have_types-has_type-requires : goal.have_types-has_type-requires
have_types-has_type-requires g t c κs within =
    (rw (← c.decreases) (below_most _ c.args.values.now c.loop-i.i c.index-values-i.result c.loop-i-test.true c.index-values-i.is), within)

pub has_type-returns-in-Array-ty-2 : goal.has_type-returns-in-Array-ty-2
has_type-returns-in-Array-ty-2 g t c =
    let elements = rw c.deref-in-Array-ty-2.ensures at c.same_type-in-Array-ty-2.ensures in
    arrays_same _ _ _ _ c.same_type-in-Array-ty-2.result (ap own c.in-Array.is ∙ ap type_of (tree-Array c.in-Array.own c.in-Array.field-1)) (ap type_tree c.in-Array-ty-2.is ∙ type_tree-Array c.in-Array-ty-2.element) elements

pub has_type-returns-then-has_type : goal.has_type-returns-then-has_type
has_type-returns-then-has_type g t c =
    let key = rw (c.deref-in-Entry-ty.ensures, c.deref-in-Entry-ty-2.ensures) at c.has_type.ensures in
    let held = rw (c.deref-then-has_type.ensures, c.deref-then-has_type-2.ensures) at c.has_type-then-has_type.ensures in
    entries_same _ _ _ _ _ _ c.has_type-then-has_type.result (ap own c.in-Entry.is ∙ ap type_of (tree-Entry c.in-Entry.entry)) (ap type_tree c.in-Entry-ty.is ∙ type_tree-Entry c.in-Entry-ty.key c.in-Entry-ty.held) (key.0 c.if-has_type.true) held

pub has_type-returns-else-has_type : goal.has_type-returns-else-has_type
has_type-returns-else-has_type g t c =
    let key = rw (c.deref-in-Entry-ty.ensures, c.deref-in-Entry-ty-2.ensures) at c.has_type.ensures in
    entries_differ _ _ _ _ _ _ c.has_type.result (ap own c.in-Entry.is ∙ ap type_of (tree-Entry c.in-Entry.entry)) (ap type_tree c.in-Entry-ty.is ∙ type_tree-Entry c.in-Entry-ty.key c.in-Entry-ty.held) c.if-has_type.false key

pub has_type-returns-in-Some : goal.has_type-returns-in-Some
has_type-returns-in-Some g t c = rw (← c.in-Some.ensures.1) c.same_type-in-Some.ensures

pub has_type-returns-in-Struct-ty : goal.has_type-returns-in-Struct-ty
has_type-returns-in-Struct-ty g t c =
    let fields = rw (c.deref-in-Struct-ty.ensures.value, c.deref-in-Struct-ty-3.ensures.value, c.deref-in-Struct-ty-2.ensures) at c.have_types.ensures in
    structs_same _ _ _ _ c.have_types.result (ap own c.in-Struct.is ∙ ap type_of (tree-Struct c.in-Struct.fields)) (ap type_tree c.in-Struct-ty.is ∙ type_tree-Struct c.in-Struct-ty.types) fields

pub have_types-returns-then-values-types : goal.have_types-returns-then-values-types
have_types-returns-then-values-types g t c = (
  λ e. absurd (false≢true e),
  λ e. absurd (c.if-values-types.true (same_length own type_tree c.args.values.now c.args.types.now (sym (types_of-trees c.args.values.now) ∙ e))),
)

pub have_types-returns-then-not-has_type : goal.have_types-returns-then-not-has_type
have_types-returns-then-not-has_type g t c =
    let n = c.if-not-has_type.ensures in
    let x = c.index-values-i.result in
    let y = c.index-types-i.result in
    let long : c.loop-i.i < length c.args.types.now = omega (arith, c.loop-i-test.true, c.if-values-types.false) in (
      λ e. absurd (false≢true e),
      λ e. absurd (differ_at own type_tree c.args.values.now c.args.types.now c.loop-i.i x y c.loop-i-test.true long (λ s. false≢true (n.1 (ap own c.index-values-i.is ∙ s ∙ sym (ap type_tree c.index-types-i.is)))) (sym (types_of-trees c.args.values.now) ∙ e)),
    )

pub have_types-loop-i-preserved : goal.have_types-loop-i-preserved
have_types-loop-i-preserved g t c =
    let n = c.if-not-has_type.ensures.0 refl in
    let x = c.index-values-i.result in
    let y = c.index-types-i.result in
    let long : c.loop-i.i < length c.args.types.now = omega (arith, c.loop-i-test.true, c.if-values-types.false) in
    λ h. c.loop-i.invariant (types_of-trees (drop c.loop-i.i c.args.values.now) ∙ same_more own type_tree c.args.values.now c.args.types.now c.loop-i.i x y c.loop-i-test.true long (sym (ap own c.index-values-i.is) ∙ n ∙ ap type_tree c.index-types-i.is) (sym (types_of-trees (drop (c.loop-i.i + 1) c.args.values.now)) ∙ h))
