use Rattle.std.proofs.Common.{Ok, Err, ◌∙◌, arith, rules}
use Rattle.std.proofs.lemmas.Result.{err_from_is_err_and}
use Rattle.dbus_value_model.specs.declared.value.Value.{the_lemmas}
use Rattle.dbus_value_model.proofs.Formed.{below_most}
use Rattle.dbus_marshal.proofs.Sizing.{sized_bytes, sized_array, sized_struct, sized_entry, sized_variant, sizes_step, sizes_stop}
use Rattle.dbus_value_model.proofs.ValueRows.{tree-Array, tree-Struct}
use Rattle.dbus_marshal.proofs.Spells.{short_more}
use Rattle.dbus_marshal.proofs.sizes.+size.Goals as goal

pub size_value-size_values-requires : goal.size_value-size_values-requires
size_value-size_values-requires g t c κs within =
    let is = c.in-Array.is in
    let there = c.deref-in-Array.ensures.value in
    let measure = rw is at c.decreases in
    let short = rw (is, tree-Array) at c.requires.signed in
    (rw (there, ← measure) (grind (arith, the_lemmas)), (within, (search rules, (search rules, rw there short))))

pub size_value-size_values-requires-in-Struct : goal.size_value-size_values-requires-in-Struct
size_value-size_values-requires-in-Struct g t c κs within =
    let is = c.in-Struct.is in
    let there = c.deref-in-Struct.ensures.value in
    let measure = rw is at c.decreases in
    let short = rw (is, tree-Struct) at c.requires.signed in
    (rw (there, ← measure) (grind (arith, the_lemmas)), (within, (search rules, (search rules, rw there short))))

pub size_value-returns-in_err-offset-in-Variant-clause-exact :
    goal.size_value-returns-in_err-offset-in-Variant-clause-exact
size_value-returns-in_err-offset-in-Variant-clause-exact g t c =
    let p = err_from_is_err_and c.from_residual-in_err-offset-in-Variant.result c.from_residual-in_err-offset-in-Variant.ensures.1 in
    let stops = rw (c.signature_length.ensures, c.deref-in-Variant.ensures) at c.in_err-offset-in-Variant.ensures.exact in
    rw (p.1, p.2, c.in-Variant.is) (sized_variant c.args.limits c.args.bound c.args.offset c.in-Variant.inner (Err c.in_err-offset-in-Variant.field-0.0) stops)

pub size_value-returns-in_ok-offset-in-Bytes-clause-exact :
    goal.size_value-returns-in_ok-offset-in-Bytes-clause-exact
size_value-returns-in_ok-offset-in-Bytes-clause-exact g t c =
    let here = c.in_ok-offset-in-Bytes.offset in
    let sizing = rw (c.narrowed.ensures.exact, c.deref.ensures.value) at c.size_bytes.ensures.exact in
    rw c.in-Bytes.is (sizing ∙ sized_bytes c.args.limits c.args.bound c.args.offset here c.in-Bytes.bytes c.in_ok-offset-in-Bytes.ensures.exact)

pub size_value-returns-in_ok-offset-in-Array-2-clause-exact :
    goal.size_value-returns-in_ok-offset-in-Array-2-clause-exact
size_value-returns-in_ok-offset-in-Array-2-clause-exact g t c =
    let sizing = rw (c.narrowed-in-Array.ensures.exact, c.deref-in-Array.ensures.value) at c.size_values.ensures.exact in
    let padded = rw c.alignment.ensures at c.in_ok-offset-in-Array-2.ensures.exact in
    rw c.in-Array.is (sizing ∙ sized_array c.args.limits c.args.bound c.args.offset c.in_ok-offset-in-Array.offset c.in_ok-offset-in-Array-2.offset c.in-Array.element c.in-Array.items c.in_ok-offset-in-Array.ensures.exact padded)

pub size_value-returns-in_ok-offset-in-Variant-clause-exact :
    goal.size_value-returns-in_ok-offset-in-Variant-clause-exact
size_value-returns-in_ok-offset-in-Variant-clause-exact g t c =
    let text = rw (c.signature_length.ensures, c.deref-in-Variant.ensures) at c.in_ok-offset-in-Variant.ensures.exact in
    let inner = rw c.deref-in-Variant-2.ensures at c.size_value-in-Variant.ensures.exact in
    rw c.in-Variant.is (inner ∙ sized_variant c.args.limits c.args.bound c.args.offset c.in-Variant.inner (Ok c.in_ok-offset-in-Variant.offset) text)

pub size_values-size_value-requires : goal.size_values-size_value-requires
size_values-size_value-requires g t c κs within =
    let xs = c.args.values.now in
    let i = c.loop-value.value-index in
    let x = c.value-item.result in
    let parts = short_more xs i x c.loop-value-test.true c.value-item.is c.loop-value.invariant.2 in
    (rw (← c.decreases) (below_most _ xs i x c.loop-value-test.true c.value-item.is), (within, (c.loop-value.invariant.1, (c.requires.bounded, parts.0))))

pub size_values-returns-in_err-at-clause-exact : goal.size_values-returns-in_err-at-clause-exact
size_values-returns-in_err-at-clause-exact g t c =
    let p = err_from_is_err_and c.from_residual.result c.from_residual.ensures.1 in
    rw (p.1, p.2)
    (sizes_stop c.args.limits c.args.bound c.loop-value.at c.args.values.now c.loop-value.value-index c.value-item.result c.in_err-at.field-0.0 c.loop-value-test.true c.value-item.is c.in_err-at.ensures.exact
    ∙ c.loop-value.invariant.0)

pub size_values-loop-value-preserved : goal.size_values-loop-value-preserved
size_values-loop-value-preserved g t c =
    let xs = c.args.values.now in
    let i = c.loop-value.value-index in
    let x = c.value-item.result in
    let parts = short_more xs i x c.loop-value-test.true c.value-item.is c.loop-value.invariant.2 in
    let step = sizes_step c.args.limits c.args.bound c.loop-value.at c.in_ok-at.at xs i x c.loop-value-test.true c.value-item.is c.in_ok-at.ensures.exact in
    (step ∙ c.loop-value.invariant.0, c.in_ok-at.ensures.within, parts.1)

pub size_value-returns-in_ok-offset-in-Struct-clause-exact : goal.size_value-returns-in_ok-offset-in-Struct-clause-exact
size_value-returns-in_ok-offset-in-Struct-clause-exact g t c =
    let fields = rw c.deref-in-Struct.ensures.value at c.size_values-in-Struct.ensures.exact in
    rw c.in-Struct.is (fields ∙ sized_struct c.args.limits c.args.bound c.args.offset c.in_ok-offset-in-Struct.offset c.in-Struct.fields c.in_ok-offset-in-Struct.ensures.exact)

pub size_value-returns-in_ok-offset-in-Entry-2-clause-exact : goal.size_value-returns-in_ok-offset-in-Entry-2-clause-exact
size_value-returns-in_ok-offset-in-Entry-2-clause-exact g t c =
    let key = rw c.deref-in-Entry.ensures at c.in_ok-offset-in-Entry-2.ensures.exact in
    let held = rw c.deref-in-Entry-2.ensures at c.size_value-in-Entry.ensures.exact in
    rw c.in-Entry.is (held ∙ sized_entry c.args.limits c.args.bound c.args.offset c.in_ok-offset-in-Entry.offset c.in_ok-offset-in-Entry-2.offset c.in-Entry.entry c.in_ok-offset-in-Entry.ensures.exact key)
