use Rattle.std.proofs.Common.{◌≡◌, ℕ, ◌+◌, ◌*◌, ◌<◌, ◌≤◌, ◌++◌, List, length, get_or, drop, sym, ap, ◌∙◌, arith, append_assoc}
use Rattle.std.proofs.lemmas.List.{length-append}
use Rattle.dbus_texts.specs.Types.{sig, sigs}
use Rattle.dbus_types.specs.SigTypes.{type_tree, type_trees_of}
use Rattle.dbus_value_model.proofs.TypeRows.{sigs_more}
use Rattle.dbus_value_model.proofs.Formed.{below_most}
use Rattle.dbus_unmarshal.proofs.type_text.+text.Goals as goal

pub put_types-put_type-requires : goal.put_types-put_type-requires
put_types-put_type-requires g t c κs within =
    let ts = c.args.types.now in
    let i = c.loop-ty.ty-index in
    let x = c.ty-item.result in
    let left = ap length (sigs_more ts i x c.loop-ty-test.true c.ty-item.is) in
    let all = ap length c.loop-ty.invariant in
    let fits : length c.loop-ty.out.items + length (sig (type_tree x)) ≤ 255 = omega (arith, c.requires.fits, all, left, length-append c.loop-ty.out.items (sigs (type_trees_of (drop i ts))), length-append c.args.out.now.items (sigs (type_trees_of ts)), length-append (sig (type_tree x)) (sigs (type_trees_of (drop (i + 1) ts)))) in
    (rw (← c.decreases) (below_most _ ts i x c.loop-ty-test.true c.ty-item.is), (within, fits))

pub put_types-loop-ty-preserved : goal.put_types-loop-ty-preserved
put_types-loop-ty-preserved g t c =
    let ts = c.args.types.now in
    let i = c.loop-ty.ty-index in
    let x = c.ty-item.result in
    let rest = sigs (type_trees_of (drop (i + 1) ts)) in
    ap (λ (s : List ℕ). s ++ rest) c.put_type.ensures ∙ append_assoc c.loop-ty.out.items (sig (type_tree x)) rest
    ∙ ap (λ (s : List ℕ). c.loop-ty.out.items ++ s) (sym (sigs_more ts i x c.loop-ty-test.true c.ty-item.is)) ∙ c.loop-ty.invariant
