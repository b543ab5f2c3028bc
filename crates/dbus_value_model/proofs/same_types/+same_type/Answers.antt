use Rattle.std.proofs.Common.{◌<◌, length, refl, sym, ap, ◌∙◌, arith, rules}
use Rattle.std.proofs.lemmas.Bool.{false≢true}
use Rattle.dbus_types.specs.SigTypes.{type_tree}
use Rattle.dbus_types.specs.declared.sig_type.SigType.{the_lemmas}
use Rattle.dbus_types.proofs.TypeEnds.{type_tree-Array, type_tree-Struct, type_tree-Entry}
use Rattle.dbus_value_model.proofs.Formed.{below_most}
use Rattle.dbus_value_model.proofs.TypeRows.{same_length, differ_at, same_more, structs_same, array_told, struct_told, entry_told, told_apart}
use Rattle.dbus_value_model.proofs.same_types.+same_type.Goals as goal

pub same_type-returns-in-Struct-other : goal.same_type-returns-in-Struct-other
same_type-returns-in-Struct-other g t c =
    let fields = rw (c.deref-in-Struct-other-2.ensures.value, c.deref-in-Struct-other.ensures, c.deref-in-Struct-other-4.ensures.value, c.deref-in-Struct-other-3.ensures) at c.same_types.ensures in
    rw (c.in-Struct.is, c.in-Struct-other.is) (structs_same _ _ _ _ c.same_types.result (type_tree-Struct c.in-Struct.fields) (type_tree-Struct c.in-Struct-other.others) fields)

pub same_type-returns-in_default-other : goal.same_type-returns-in_default-other
same_type-returns-in_default-other g t c =
    rw (c.in-Array.is, type_tree-Array c.in-Array.element) (told_apart _ _ (array_told c.args.other.now c.in_default-other.not-Array _))

pub same_type-returns-in_default-other-2 : goal.same_type-returns-in_default-other-2
same_type-returns-in_default-other-2 g t c =
    rw (c.in-Struct.is, type_tree-Struct c.in-Struct.fields) (told_apart _ _ (struct_told c.args.other.now c.in_default-other-2.not-Struct _))

pub same_type-returns-in_default-other-3 : goal.same_type-returns-in_default-other-3
same_type-returns-in_default-other-3 g t c =
    rw (c.in-Entry.is, type_tree-Entry c.in-Entry.key c.in-Entry.value) (told_apart _ _ (entry_told c.args.other.now c.in_default-other-3.not-Entry _ _))

pub same_type-same_types-requires : goal.same_type-same_types-requires
same_type-same_types-requires g t c κs within =
    let measure = rw c.in-Struct.is at c.decreases in
    (rw (c.deref-in-Struct-other-2.ensures.value, c.deref-in-Struct-other.ensures, ← measure) (search (rules, the_lemmas)), within)

pub same_type-same_type-requires : goal.same_type-same_type-requires
same_type-same_type-requires g t c κs within =
    let measure = rw c.in-Array.is at c.decreases in
    (rw (c.deref.ensures, ← measure) (search (rules, the_lemmas)), within)

pub same_type-same_type-requires-in-Entry-other : goal.same_type-same_type-requires-in-Entry-other
same_type-same_type-requires-in-Entry-other g t c κs within =
    let measure = rw c.in-Entry.is at c.decreases in
    (rw (c.deref-in-Entry-other.ensures, ← measure) (search (rules, the_lemmas)), within)

pub same_type-same_type-requires-then-same_type : goal.same_type-same_type-requires-then-same_type
same_type-same_type-requires-then-same_type g t c κs within =
    let measure = rw c.in-Entry.is at c.decreases in
    (rw (c.deref-then-same_type.ensures, ← measure) (search (rules, the_lemmas)), within)

pub same_types-same_type-requires : goal.same_types-same_type-requires
same_types-same_type-requires g t c κs within =
    (rw (← c.decreases) (below_most _ c.args.types.now c.loop-i.i c.index-types-i.result c.loop-i-test.true c.index-types-i.is), within)

pub same_types-returns-then-types-others : goal.same_types-returns-then-types-others
same_types-returns-then-types-others g t c = (
  λ e. absurd (false≢true e),
  λ e. absurd (c.if-types-others.true (same_length type_tree type_tree c.args.types.now c.args.others.now e)),
)

pub same_types-returns-then-not-same_type : goal.same_types-returns-then-not-same_type
same_types-returns-then-not-same_type g t c =
    let n = c.if-not-same_type.ensures in
    let x = c.index-types-i.result in
    let y = c.index-others-i.result in
    let long : c.loop-i.i < length c.args.others.now = omega (arith, c.loop-i-test.true, c.if-types-others.false) in (
      λ e. absurd (false≢true e),
      λ e. absurd (differ_at type_tree type_tree c.args.types.now c.args.others.now c.loop-i.i x y c.loop-i-test.true long (λ s. false≢true (n.1 (ap type_tree c.index-types-i.is ∙ s ∙ sym (ap type_tree c.index-others-i.is)))) e),
    )

pub same_types-loop-i-preserved : goal.same_types-loop-i-preserved
same_types-loop-i-preserved g t c =
    let n = c.if-not-same_type.ensures.0 refl in
    let x = c.index-types-i.result in
    let y = c.index-others-i.result in
    let long : c.loop-i.i < length c.args.others.now = omega (arith, c.loop-i-test.true, c.if-types-others.false) in
    λ h. c.loop-i.invariant (same_more type_tree type_tree c.args.types.now c.args.others.now c.loop-i.i x y c.loop-i-test.true long (sym (ap type_tree c.index-types-i.is) ∙ n ∙ ap type_tree c.index-others-i.is) h)
