use Rattle.std.proofs.Common.{◌≡◌, ◌≤◌, ◌+◌, cond, length, take, drop, sym, ap, ◌∙◌, arith, rules}
use Rattle.std.proofs.lemmas.List.{length-take-le}
use Rattle.std.specs.Int.{cast_unsigned, w16, w32, w64}
use Rattle.std.specs.Prelude.{string_bytes}
use Rattle.dbus_texts.specs.Types.{BYTE, BOOLEAN, INT16, UINT16, INT32, UINT32, INT64, UINT64, DOUBLE, UNIX_FD, SIGNATURE}
use Rattle.dbus_types.specs.Alignments.{alignment_of}
use Rattle.dbus_types.specs.SigTypes.{type_tree}
use Rattle.dbus_value_model.specs.SizeLimits.{with_padding, with_value, with_values}
use Rattle.dbus_value_model.specs.Values.{TextValue}
use Rattle.dbus_value_model.specs.ValueViews.{value_tree, value_trees_of}
use Rattle.dbus_value_model.specs.declared.value.Value.{the_lemmas}
use Rattle.dbus_value_model.proofs.Formed.{below_most_of_three}
use Rattle.dbus_marshal.proofs.Patching.{array_written, length_array, array_grows, after_count}
use Rattle.dbus_marshal.proofs.Spells.{short_more, number_fits, number_is, variant_fits, writes_more, writes_end}
use Rattle.dbus_value_model.proofs.ValueRows.{tree-Byte, tree-Bool, tree-I16, tree-U16, tree-I32, tree-U32, tree-I64, tree-U64, tree-Double, tree-Fd, tree-Array, tree-Struct, tree-Entry, tree-Sig, tree-Variant}
use Rattle.dbus_marshal.proofs.Written.{length_value, length_values, length_text, no_padding, written_struct, written_entry, written_variant}
use Rattle.dbus_marshal.proofs.marshalling.+write.Goals as goal

pub write_value-write_number-requires-clause-space : goal.write_value-write_number-requires-clause-space
write_value-write_number-requires-clause-space g t c = number_fits BYTE c.args.value.now c.args.order (take c.args.at c.args.out.now) c.in-Byte.n (rw c.in-Byte.is (tree-Byte _ _)) _ c.requires.space

pub write_value-returns-in-Byte-clause-written : goal.write_value-returns-in-Byte-clause-written
write_value-returns-in-Byte-clause-written g t c =
    number_is BYTE c.args.value.now c.args.order (take c.args.at c.args.out.now) c.in-Byte.n (rw c.in-Byte.is (tree-Byte _ _)) _ _ c.write_number.ensures.written (search rules)

pub write_value-write_number-requires-in-Bool-clause-space : goal.write_value-write_number-requires-in-Bool-clause-space
write_value-write_number-requires-in-Bool-clause-space g t c = number_fits BOOLEAN c.args.value.now c.args.order (take c.args.at c.args.out.now) (cond c.in-Bool.b 1 0) (rw c.in-Bool.is (tree-Bool _ _)) _ c.requires.space

pub write_value-returns-in-Bool-clause-written : goal.write_value-returns-in-Bool-clause-written
write_value-returns-in-Bool-clause-written g t c =
    number_is BOOLEAN c.args.value.now c.args.order (take c.args.at c.args.out.now) (cond c.in-Bool.b 1 0) (rw c.in-Bool.is (tree-Bool _ _)) _ _ c.write_number-in-Bool.ensures.written (search rules)

pub write_value-write_number-requires-in-I16-clause-space : goal.write_value-write_number-requires-in-I16-clause-space
write_value-write_number-requires-in-I16-clause-space g t c = number_fits INT16 c.args.value.now c.args.order (take c.args.at c.args.out.now) (cast_unsigned w16 c.in-I16.n) (rw c.in-I16.is (tree-I16 _ _)) _ c.requires.space

pub write_value-returns-in-I16-clause-written : goal.write_value-returns-in-I16-clause-written
write_value-returns-in-I16-clause-written g t c =
    number_is INT16 c.args.value.now c.args.order (take c.args.at c.args.out.now) (cast_unsigned w16 c.in-I16.n) (rw c.in-I16.is (tree-I16 _ _)) _ _ c.write_number-in-I16.ensures.written (search rules)

pub write_value-write_number-requires-in-U16-clause-space : goal.write_value-write_number-requires-in-U16-clause-space
write_value-write_number-requires-in-U16-clause-space g t c = number_fits UINT16 c.args.value.now c.args.order (take c.args.at c.args.out.now) c.in-U16.n (rw c.in-U16.is (tree-U16 _ _)) _ c.requires.space

pub write_value-returns-in-U16-clause-written : goal.write_value-returns-in-U16-clause-written
write_value-returns-in-U16-clause-written g t c =
    number_is UINT16 c.args.value.now c.args.order (take c.args.at c.args.out.now) c.in-U16.n (rw c.in-U16.is (tree-U16 _ _)) _ _ c.write_number-in-U16.ensures.written (search rules)

pub write_value-write_number-requires-in-I32-clause-space : goal.write_value-write_number-requires-in-I32-clause-space
write_value-write_number-requires-in-I32-clause-space g t c = number_fits INT32 c.args.value.now c.args.order (take c.args.at c.args.out.now) (cast_unsigned w32 c.in-I32.n) (rw c.in-I32.is (tree-I32 _ _)) _ c.requires.space

pub write_value-returns-in-I32-clause-written : goal.write_value-returns-in-I32-clause-written
write_value-returns-in-I32-clause-written g t c =
    number_is INT32 c.args.value.now c.args.order (take c.args.at c.args.out.now) (cast_unsigned w32 c.in-I32.n) (rw c.in-I32.is (tree-I32 _ _)) _ _ c.write_number-in-I32.ensures.written (search rules)

pub write_value-write_number-requires-in-U32-clause-space : goal.write_value-write_number-requires-in-U32-clause-space
write_value-write_number-requires-in-U32-clause-space g t c = number_fits UINT32 c.args.value.now c.args.order (take c.args.at c.args.out.now) c.in-U32.n (rw c.in-U32.is (tree-U32 _ _)) _ c.requires.space

pub write_value-returns-in-U32-clause-written : goal.write_value-returns-in-U32-clause-written
write_value-returns-in-U32-clause-written g t c =
    number_is UINT32 c.args.value.now c.args.order (take c.args.at c.args.out.now) c.in-U32.n (rw c.in-U32.is (tree-U32 _ _)) _ _ c.write_number-in-U32.ensures.written (search rules)

pub write_value-write_number-requires-in-Fd-clause-space : goal.write_value-write_number-requires-in-Fd-clause-space
write_value-write_number-requires-in-Fd-clause-space g t c = number_fits UNIX_FD c.args.value.now c.args.order (take c.args.at c.args.out.now) c.in-Fd.n (rw c.in-Fd.is (tree-Fd _ _)) _ c.requires.space

pub write_value-returns-in-Fd-clause-written : goal.write_value-returns-in-Fd-clause-written
write_value-returns-in-Fd-clause-written g t c =
    number_is UNIX_FD c.args.value.now c.args.order (take c.args.at c.args.out.now) c.in-Fd.n (rw c.in-Fd.is (tree-Fd _ _)) _ _ c.write_number-in-Fd.ensures.written (search rules)

pub write_value-write_number-requires-in-I64-clause-space : goal.write_value-write_number-requires-in-I64-clause-space
write_value-write_number-requires-in-I64-clause-space g t c = number_fits INT64 c.args.value.now c.args.order (take c.args.at c.args.out.now) (cast_unsigned w64 c.in-I64.n) (rw c.in-I64.is (tree-I64 _ _)) _ c.requires.space

pub write_value-returns-in-I64-clause-written : goal.write_value-returns-in-I64-clause-written
write_value-returns-in-I64-clause-written g t c =
    number_is INT64 c.args.value.now c.args.order (take c.args.at c.args.out.now) (cast_unsigned w64 c.in-I64.n) (rw c.in-I64.is (tree-I64 _ _)) _ _ c.write_number-in-I64.ensures.written (search rules)

pub write_value-write_number-requires-in-U64-clause-space : goal.write_value-write_number-requires-in-U64-clause-space
write_value-write_number-requires-in-U64-clause-space g t c = number_fits UINT64 c.args.value.now c.args.order (take c.args.at c.args.out.now) c.in-U64.n (rw c.in-U64.is (tree-U64 _ _)) _ c.requires.space

pub write_value-returns-in-U64-clause-written : goal.write_value-returns-in-U64-clause-written
write_value-returns-in-U64-clause-written g t c =
    number_is UINT64 c.args.value.now c.args.order (take c.args.at c.args.out.now) c.in-U64.n (rw c.in-U64.is (tree-U64 _ _)) _ _ c.write_number-in-U64.ensures.written (search rules)

pub write_value-write_number-requires-in-Double-clause-space : goal.write_value-write_number-requires-in-Double-clause-space
write_value-write_number-requires-in-Double-clause-space g t c = number_fits DOUBLE c.args.value.now c.args.order (take c.args.at c.args.out.now) c.in-Double.n (rw c.in-Double.is (tree-Double _ _)) _ c.requires.space

pub write_value-returns-in-Double-clause-written : goal.write_value-returns-in-Double-clause-written
write_value-returns-in-Double-clause-written g t c =
    number_is DOUBLE c.args.value.now c.args.order (take c.args.at c.args.out.now) c.in-Double.n (rw c.in-Double.is (tree-Double _ _)) _ _ c.write_number-in-Double.ensures.written (search rules)

pub write_value-write_array-requires : goal.write_value-write_array-requires
write_value-write_array-requires g t c κs within =
    let is = c.in-Array.is in
    let there = c.deref-in-Array.ensures.value in
    let measure = rw is at c.decreases in
    let space = rw (is, tree-Array) at c.requires.space in
    let short = rw (is, tree-Array) at c.requires.signed in
    (rw (there, ← measure) (grind (arith, the_lemmas)), (within, (c.requires.start, (rw there space, (c.requires.fits, rw there short)))))

pub write_value-write_padding-place-requires-clause-space : goal.write_value-write_padding-place-requires-clause-space
write_value-write_padding-place-requires-clause-space g t c =
    let order = c.args.order in
    let front = take c.args.at c.args.out.now in
    let space = rw (c.in-Struct.is, tree-Struct, written_struct) at c.requires.space in
    omega (arith, space, length_values order (value_trees_of c.in-Struct.fields.items) (with_padding 8 front))

pub write_value-write_values-requires : goal.write_value-write_values-requires
write_value-write_values-requires g t c κs within =
    let is = c.in-Struct.is in
    let there = c.deref-in-Struct.ensures.value in
    let measure = rw is at c.decreases in
    let space = rw (is, tree-Struct, written_struct) at c.requires.space in
    let short = rw (is, tree-Struct) at c.requires.signed in
    (rw (there, ← measure) (grind (arith, the_lemmas)), (within, (c.write_padding-place.ensures.within, (rw (there, c.write_padding-place.ensures.written) (omega (arith, space)), (omega arith, rw there short)))))

pub write_value-returns-in-Struct-clause-written : goal.write_value-returns-in-Struct-clause-written
write_value-returns-in-Struct-clause-written g t c =
    let written = rw (c.deref-in-Struct.ensures.value, c.write_padding-place.ensures.written) at c.write_values.ensures.written in
    rw (c.in-Struct.is, tree-Struct, written_struct) written

pub write_value-write_padding-place-requires-in-Entry-clause-space : goal.write_value-write_padding-place-requires-in-Entry-clause-space
write_value-write_padding-place-requires-in-Entry-clause-space g t c =
    let order = c.args.order in
    let front = take c.args.at c.args.out.now in
    let padded = with_padding 8 front in
    let k = value_tree c.in-Entry.entry.value.key in
    let space = rw (c.in-Entry.is, tree-Entry, written_entry) at c.requires.space in
    omega (arith, space, length_value order k padded, length_value order (value_tree c.in-Entry.entry.value.value) (with_value order k padded))

pub write_value-write_value-place-requires : goal.write_value-write_value-place-requires
write_value-write_value-place-requires g t c κs within =
    let is = c.in-Entry.is in
    let there = c.deref-in-Entry.ensures in
    let order = c.args.order in
    let front = take c.args.at c.args.out.now in
    let measure = rw is at c.decreases in
    let space = rw (is, tree-Entry, written_entry) at c.requires.space in
    let short = rw (is, tree-Entry) at c.requires.signed in
    let grows = length_value order (value_tree c.in-Entry.entry.value.value) (with_value order (value_tree c.in-Entry.entry.value.key) (with_padding 8 front)) in
    let wrote = c.write_padding-place-in-Entry.ensures.written in
    (rw (there, ← measure) (grind (arith, the_lemmas)), (within, (c.write_padding-place-in-Entry.ensures.within, (rw (there, wrote) (omega (arith, space, grows)), (omega arith, rw there short.0)))))

pub write_value-write_value-requires : goal.write_value-write_value-requires
write_value-write_value-requires g t c κs within =
    let is = c.in-Entry.is in
    let there = c.deref-in-Entry-2.ensures in
    let measure = rw is at c.decreases in
    let space = rw (is, tree-Entry, written_entry) at c.requires.space in
    let short = rw (is, tree-Entry) at c.requires.signed in
    let wrote = rw (c.deref-in-Entry.ensures, c.write_padding-place-in-Entry.ensures.written) at c.write_value-place.ensures.written in
    (rw (there, ← measure) (grind (arith, the_lemmas)), (within, (c.write_value-place.ensures.within, (rw (there, wrote) (omega (arith, space)), (omega arith, rw there short.1)))))

pub write_value-returns-in-Entry-clause-written : goal.write_value-returns-in-Entry-clause-written
write_value-returns-in-Entry-clause-written g t c =
    let key = rw (c.deref-in-Entry.ensures, c.write_padding-place-in-Entry.ensures.written) at c.write_value-place.ensures.written in
    let both = rw (c.deref-in-Entry-2.ensures, key) at c.write_value.ensures.written in
    rw (c.in-Entry.is, tree-Entry, written_entry) both

pub write_value-write_signature-requires-clause-space : goal.write_value-write_signature-requires-clause-space
write_value-write_signature-requires-clause-space g t c =
    let order = c.args.order in
    let front = take c.args.at c.args.out.now in
    let text = string_bytes c.in-Sig.text in
    let space = rw (c.in-Sig.is, tree-Sig) at c.requires.space in
    let long : length (with_value order (TextValue SIGNATURE text) front) ≡ length (with_padding 1 front) + 1 + length text + 1 = length_text order SIGNATURE text front in
    rw c.as_bytes-in-Sig.ensures.value (omega (arith, space, long, ap length (no_padding front), length-take-le c.args.at c.args.out.now c.requires.start))

pub write_value-returns-in-Sig-clause-within : goal.write_value-returns-in-Sig-clause-within
write_value-returns-in-Sig-clause-within g t c =
    let front = take c.args.at c.args.out.now in
    let text = string_bytes c.in-Sig.text in
    let space = rw (c.in-Sig.is, tree-Sig) at c.requires.space in
    let long : length (with_value c.args.order (TextValue SIGNATURE text) front) ≡ length (with_padding 1 front) + 1 + length text + 1 = length_text c.args.order SIGNATURE text front in
    let ends = rw c.as_bytes-in-Sig.ensures.value at c.write_signature.ensures.ends in
    omega (arith, ends, space, long, ap length (no_padding front), length-take-le c.args.at c.args.out.now c.requires.start)

pub write_value-write_variant_signature-place-requires-clause-space : goal.write_value-write_variant_signature-place-requires-clause-space
write_value-write_variant_signature-place-requires-clause-space g t c =
    let front = take c.args.at c.args.out.now in
    let space = rw (c.in-Variant.is, tree-Variant, written_variant) at c.requires.space in
    rw c.deref-in-Variant.ensures (omega (arith, variant_fits c.args.order (value_tree c.in-Variant.inner.value) front _ space, length-take-le c.args.at c.args.out.now c.requires.start))

pub write_value-write_value-requires-in-Variant : goal.write_value-write_value-requires-in-Variant
write_value-write_value-requires-in-Variant g t c κs within =
    let is = c.in-Variant.is in
    let there = c.deref-in-Variant-2.ensures in
    let measure = rw is at c.decreases in
    let front = take c.args.at c.args.out.now in
    let space = rw (is, tree-Variant, written_variant) at c.requires.space in
    let short = rw (is, tree-Variant) at c.requires.signed in
    let wrote = rw c.deref-in-Variant.ensures at (c.write_variant_signature-place.ensures.written c.args.order) in
    let ends = rw c.deref-in-Variant.ensures at c.write_variant_signature-place.ensures.ends in
    let start : c.write_variant_signature-place.result ≤ length c.write_variant_signature-place.new.out = omega (arith, ends, variant_fits c.args.order (value_tree c.in-Variant.inner.value) front _ space, length-take-le c.args.at c.args.out.now c.requires.start) in
    (rw (there, ← measure) (grind (arith, the_lemmas)), (within, (start, (rw (there, wrote) (omega (arith, space)), (omega arith, rw there short.1)))))

pub write_value-returns-in-Variant-clause-written : goal.write_value-returns-in-Variant-clause-written
write_value-returns-in-Variant-clause-written g t c =
    let signature = rw c.deref-in-Variant.ensures at (c.write_variant_signature-place.ensures.written c.args.order) in
    let both = rw (c.deref-in-Variant-2.ensures, signature) at c.write_value-in-Variant.ensures.written in
    rw (c.in-Variant.is, tree-Variant, written_variant) both

pub write_values-write_value-place-requires : goal.write_values-write_value-place-requires
write_values-write_value-place-requires g t c κs within =
    let order = c.args.order in
    let xs = c.args.values.now in
    let i = c.loop-value.value-index in
    let x = c.value-item.result in
    let here = take c.loop-value.place c.loop-value.out in
    let parts = short_more xs i x c.loop-value-test.true c.value-item.is c.loop-value.invariant.signed in
    let more = writes_more order xs i x here c.loop-value-test.true c.value-item.is in
    let whole = ap length (sym more ∙ c.loop-value.invariant.left) in
    let grows = length_values order (value_trees_of (drop (i + 1) xs)) (with_value order (value_tree x) here) in
    (rw (← c.decreases) (below_most_of_three _ xs i x c.loop-value-test.true c.value-item.is), (within, (c.loop-value.invariant.within, (omega (arith, whole, grows, c.requires.space, c.loop-value.auto.out), (omega arith, parts.0)))))

pub write_values-loop-value-preserved : goal.write_values-loop-value-preserved
write_values-loop-value-preserved g t c =
    let order = c.args.order in
    let xs = c.args.values.now in
    let i = c.loop-value.value-index in
    let x = c.value-item.result in
    let more = writes_more order xs i x (take c.loop-value.place c.loop-value.out) c.loop-value-test.true c.value-item.is in
    record {
      left = ap (with_values order (value_trees_of (drop (i + 1) xs))) c.write_value-place.ensures.written ∙ sym more ∙ c.loop-value.invariant.left;
      within = c.write_value-place.ensures.within;
      signed = (short_more xs i x c.loop-value-test.true c.value-item.is c.loop-value.invariant.signed).1;
    }

pub write_values-returns-clause-written : goal.write_values-returns-clause-written
write_values-returns-clause-written g t c =
    sym (writes_end c.args.order c.args.values.now c.loop-value.value-index (take c.loop-value.place c.loop-value.out) c.loop-value-test.false) ∙ c.loop-value.invariant.left

pub write_array-write_number-counted-requires-clause-space : goal.write_array-write_number-counted-requires-clause-space
write_array-write_number-counted-requires-clause-space g t c =
    omega (arith, (array_grows c.args.order (type_tree c.args.element.now) (value_trees_of c.args.items.now) 0 (take c.args.at c.args.out.now)).0, c.requires.space)

pub write_array-write_padding-start-requires-clause-space : goal.write_array-write_padding-start-requires-clause-space
write_array-write_padding-start-requires-clause-space g t c =
    let front = take c.args.at c.args.out.now in
    let a = array_grows c.args.order (type_tree c.args.element.now) (value_trees_of c.args.items.now) 0 front in
    rw (c.alignment.ensures, c.write_number-counted.ensures.written) (omega (arith, a.1, c.requires.space))

pub write_array-write_values-end-requires : goal.write_array-write_values-end-requires
write_array-write_values-end-requires g t c κs within =
    let front = take c.args.at c.args.out.now in
    let l = length_array c.args.order (type_tree c.args.element.now) (value_trees_of c.args.items.now) 0 front in
    let wrote = rw (c.alignment.ensures, c.write_number-counted.ensures.written) at c.write_padding-start.ensures.written in
    (rw (← c.decreases) (omega arith), (within, (c.write_padding-start.ensures.within, (rw wrote (omega (arith, l, c.requires.space)), (omega arith, c.requires.signed)))))

pub write_array-overflow_sub-end : goal.write_array-overflow_sub-end
write_array-overflow_sub-end g t c =
    let first = length-take-le c.write_padding-start.result c.write_padding-start.new.out c.write_padding-start.ensures.within in
    let last = length-take-le c.write_values-end.result c.write_values-end.new.out c.write_values-end.ensures.within in
    omega (arith, first, last, ap length c.write_values-end.ensures.written, length_values c.args.order (value_trees_of c.args.items.now) (take c.write_padding-start.result c.write_padding-start.new.out))

pub write_array-returns-clause-written : goal.write_array-returns-clause-written
write_array-returns-clause-written g t c =
    let front = take c.args.at c.args.out.now in
    let ty = type_tree c.args.element.now in
    let z = c.write_number-counted in
    let y = c.write_padding-start in
    let x = c.write_values-end in
    let is_y : take y.result y.new.out ≡ with_padding (alignment_of ty) (take z.result z.new.out) = y.ensures.written ∙ ap (λ a. with_padding a (take z.result z.new.out)) c.alignment.ensures in
    ap (take x.result) c.overwrite_32.ensures.written
    ∙ array_written c.args.order ty (value_trees_of c.args.items.now) front z.new.out y.new.out x.new.out z.result y.result x.result z.ensures.within y.ensures.within x.ensures.within z.ensures.written is_y x.ensures.written

pub write_array-overflow_sub-counted : goal.write_array-overflow_sub-counted
write_array-overflow_sub-counted g t c = let z = c.write_number-counted in after_count c.args.order (take c.args.at c.args.out.now) z.new.out z.result 0 z.ensures.within z.ensures.written

pub write_array-overwrite_32-requires : goal.write_array-overwrite_32-requires
write_array-overwrite_32-requires g t c =
    let z = c.write_number-counted in
    record { there = omega (arith, after_count c.args.order (take c.args.at c.args.out.now) z.new.out z.result 0 z.ensures.within z.ensures.written) }
