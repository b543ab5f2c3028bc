use Rattle.std.proofs.Common.{ℕ, ◌+◌, ◌-◌, ◌<◌, false, List, [], ◌∷◌, Some, None, length, get_or, drop, refl, sym, ap, subst, ◌∙◌, arith}
use Rattle.std.proofs.lemmas.Bool.{eqb-false}
use Rattle.std.proofs.lemmas.List.{drop_more, at_drop_all}
use Rattle.dbus_texts.specs.Types.{TypeTrees, AreSome, IsBasic}
use Rattle.dbus_types.specs.SigTypes.{type_tree, type_trees_of}
use Rattle.dbus_types.specs.Parses.{LeavesOfType, LeavesOfTypes}
use Rattle.dbus_types.specs.declared.sig_type.SigType.{SigType}
use Rattle.dbus_types.proofs.TypeEnds.{type_tree-Struct, type_tree-Entry}
use Rattle.dbus_types.proofs.PrefixSteps.{struct_leaves, entry_leaves, none_leave, more_leave, first_leaves_none}
use Rattle.dbus_types.proofs.shape.+text_left.Goals as goal

are_some : {A : Type 0} (ts : List (SigType A)) → 0 < length ts → AreSome (type_trees_of ts)
are_some [] h = absurd (omega arith)
are_some (t ∷ ts) h = tt

pub text_left-returns-else-is_empty : goal.text_left-returns-else-is_empty
text_left-returns-else-is_empty g t c =
    let z = eqb-false (length c.as_slice-fields.result.now) 0 (sym c.if-is_empty.ensures) in
    let same = c.as_slice-fields.ensures.value ∙ ap (λ v. v.items) c.deref-in-Struct.ensures in
    let long : 0 < length c.in-Struct.fields.value.items = omega (arith, z, ap length same) in
    let left = subst (λ ts. LeavesOfTypes (type_trees_of ts) c.args.arrays (c.args.structs + 1) (c.args.left - 2) c.texts_left.result) same c.texts_left.ensures in
    subst (λ u. LeavesOfType u c.args.inside c.args.arrays c.args.structs c.args.left c.texts_left.result) (sym (ap type_tree c.in-Struct.is ∙ type_tree-Struct c.in-Struct.fields))
    (struct_leaves (type_trees_of c.in-Struct.fields.value.items) c.args.inside c.args.arrays c.args.structs c.args.left c.texts_left.result (omega arith) (omega arith) (are_some c.in-Struct.fields.value.items long) left)

pub text_left-returns-else-not-is_basic_type : goal.text_left-returns-else-not-is_basic_type
text_left-returns-else-not-is_basic_type g t c =
    let basic = subst (λ x. IsBasic (type_tree x)) c.deref-else-left-lt3.ensures (c.if-not-is_basic_type.ensures.0 refl) in
    let left = subst (λ x. LeavesOfType (type_tree x) false c.args.arrays c.args.structs (c.args.left - 3) c.text_left-in-Entry.result) c.deref-in-Entry.ensures c.text_left-in-Entry.ensures in
    subst (λ u. LeavesOfType u c.args.inside c.args.arrays c.args.structs c.args.left c.text_left-in-Entry.result) (sym (ap type_tree c.in-Entry.is ∙ type_tree-Entry c.in-Entry.key c.in-Entry.value))
    (entry_leaves (type_tree c.in-Entry.key.value) (type_tree c.in-Entry.value.value) c.args.inside c.args.arrays c.args.structs c.args.left c.text_left-in-Entry.result c.if-not-inside.false (omega arith) basic left)

pub texts_left-returns-in_err-left : goal.texts_left-returns-in_err-left
texts_left-returns-in_err-left g t c =
    let ts = c.args.types.now in
    let i = c.loop-ty.ty-index in
    let x = c.ty-item.result in
    let first = subst (λ y. LeavesOfType (type_tree y) false c.args.arrays c.args.structs c.loop-ty.left None) c.ty-item.is c.in_err-left.ensures in
    rw c.from_residual.ensures (c.loop-ty.invariant None (subst (λ us. LeavesOfTypes (type_trees_of us) c.args.arrays c.args.structs c.loop-ty.left None) (sym (drop_more ts i x c.loop-ty-test.true)) (first_leaves_none (type_tree (get_or ts i x)) (type_trees_of (drop (i + 1) ts)) c.args.arrays c.args.structs c.loop-ty.left first)))

pub texts_left-loop-ty-preserved : goal.texts_left-loop-ty-preserved
texts_left-loop-ty-preserved g t c = λ r h.
    let ts = c.args.types.now in
    let i = c.loop-ty.ty-index in
    let x = c.ty-item.result in
    let first = subst (λ y. LeavesOfType (type_tree y) false c.args.arrays c.args.structs c.loop-ty.left (Some c.in_ok-left.left)) c.ty-item.is c.in_ok-left.ensures in
    c.loop-ty.invariant r (subst (λ us. LeavesOfTypes (type_trees_of us) c.args.arrays c.args.structs c.loop-ty.left r) (sym (drop_more ts i x c.loop-ty-test.true)) (more_leave (type_tree (get_or ts i x)) (type_trees_of (drop (i + 1) ts)) c.args.arrays c.args.structs c.loop-ty.left c.in_ok-left.left r first h))

pub texts_left-returns : goal.texts_left-returns
texts_left-returns g t c =
    c.loop-ty.invariant (Some c.loop-ty.left)
    (subst (λ (us : TypeTrees). LeavesOfTypes us c.args.arrays c.args.structs c.loop-ty.left (Some c.loop-ty.left)) (sym (at_drop_all (λ us. type_trees_of us) c.args.types.now c.loop-ty.ty-index c.loop-ty-test.false)) (none_leave c.args.arrays c.args.structs c.loop-ty.left))
