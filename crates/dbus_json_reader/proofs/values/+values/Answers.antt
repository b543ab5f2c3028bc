use Rattle.std.proofs.Common.{◌≡◌, ◌-◌, ◌*◌, ◌<◌, suc, ◌∷◌, [], ◌++◌, length, not, ◌&&◌, Result, Ok, Err, IfOk, refl, sym, ap, ◌∙◌, subst, arith, rules}
use Rattle.std.proofs.lemmas.Bool.{and_from}
use Rattle.json.specs.Tree.{json_tokens}
use Rattle.json.specs.Value.{value_view, items_view, members_view}
use Rattle.dbus_texts.specs.Types.{sig, StructType}
use Rattle.dbus_texts.specs.PlainTypes.{is_byte}
use Rattle.dbus_types.specs.SigTypes.{type_tree, type_trees_of}
use Rattle.dbus_types.proofs.TypeEnds.{type_tree-Struct}
use Rattle.dbus_value_model.specs.Values.{ArrayValue, EntryValue, VariantValue}
use Rattle.dbus_value_model.specs.PackedBytes.{keeps_bytes}
use Rattle.dbus_value_model.specs.ValueViews.{value_tree, value_trees_of}
use Rattle.dbus_value_model.proofs.Formed.{keeps-Array, keeps-Struct, keeps-Variant, keeps-Bytes, keep_push}
use Rattle.dbus_value_model.proofs.ValueRows.{tree-Bytes, tree-Array, tree-Struct, tree-Entry, tree-Variant}
use Rattle.dbus_json_reader.specs.JsonValues.{IsRead, AreElements, AreRead, IsTyped}
use Rattle.dbus_json_reader.proofs.Going.{begins_at, next_element, no_element, all_elements, next_value, no_value, all_values, one_each}
use Rattle.dbus_json_reader.proofs.Packed.{keeps_none, keeps-Entry}
use Rattle.dbus_json_reader.proofs.Shapes.{no_array, no_object, moved, failed, through, array_seen, object_seen, read_as, smaller_item, smaller_pair, smaller_typed, bytes_made, array_made, array_read, struct_made, struct_read, entry_made, entry_read, variant_made, variant_read, typed_same, one_type, arrays_same, objects_same, pairs_same}
use Rattle.dbus_json_reader.proofs.values.+values.Goals as goal

-- ---- arrays

pub read_array-returns-then-depth-eq0-clause-refused : goal.read_array-returns-then-depth-eq0-clause-refused
read_array-returns-then-depth-eq0-clause-refused g t c = λ b e v h. let r = array_read c.args.integers _ _ v _ h in let deep = r.deep in omega (arith, deep, c.if-depth-eq0.true)

pub read_array-returns-in_err-read_bytes-clause-refused : goal.read_array-returns-in_err-read_bytes-clause-refused
read_array-returns-in_err-read_bytes-clause-refused g t c = λ broken e v h.
    let r = array_read c.args.integers _ _ v _ h in
    let b = r.bytes (sym c.is_byte.ensures ∙ c.if-is_byte.true) in
    c.in_err-read_bytes.ensures.refused broken (failed c.from_residual.result c.in_err-read_bytes.field-0.0 c.from_residual.ensures.1 broken e) b.0 _ b.1 b.2

pub read_array-returns-then-is_byte-clause-ok : goal.read_array-returns-then-is_byte-clause-ok
read_array-returns-then-is_byte-clause-ok g t c =
    let b = c.in_ok-read_bytes.ensures.ok in
    moved c.args.integers _ _ _ _ _ _ (tree-Bytes c.in_ok-read_bytes.field-0) b.1 (bytes_made c.args.integers _ (c.args.depth - 1) _ _ b.0 (omega (arith, c.if-depth-eq0.false)) (sym c.is_byte.ensures ∙ c.if-is_byte.true) b.2)

pub read_array-returns-in_default : goal.read_array-returns-in_default
read_array-returns-in_default g t c = record {
  ok = search rules;
  packed = search rules;
  refused = λ b e v h. let r = array_read c.args.integers _ _ v _ h in let all = r.items (sym c.is_byte.ensures ∙ c.if-is_byte.false) in no_array c.args.json.now c.in_default.not-Array all.0 (sym all.1);
}

pub read_array-loop-i-init : goal.read_array-loop-i-init
read_array-loop-i-init g t c = (begins_at _ _ _ c.in_ok-values.ensures.items, keeps_none _ c.in_ok-values.ensures.items)

pub read_array-read_value-requires : goal.read_array-read_value-requires
read_array-read_value-requires g t c κs within =
    let l = c.as_slice-items.result.now in
    let seen = array_seen c.args.json.now c.in-Array.items l c.in-Array.is c.as_slice-items.ensures.value in
    (subst (λ n. suc (2 * length (json_tokens (value_view c.index-items-i.result))) < n) c.decreases (smaller_item c.args.json.now l c.loop-i.i c.index-items-i.result seen c.loop-i-test.true c.index-items-i.is), within)

pub read_array-returns-in-Err-clause-refused : goal.read_array-returns-in-Err-clause-refused
read_array-returns-in-Err-clause-refused g t c = λ b e v h.
    let l = c.as_slice-items.result.now in
    let seen = array_seen c.args.json.now c.in-Array.items l c.in-Array.is c.as_slice-items.ensures.value in
    let r = array_read c.args.integers _ _ v _ h in
    let deep = r.deep in
    let all = r.items (sym c.is_byte.ensures ∙ c.if-is_byte.false) in
    let items = arrays_same _ _ (sym all.1 ∙ seen) in
    let less : r.less ≡ c.args.depth - 1 = omega (arith, deep) in
    let elements = subst (λ d. AreElements c.args.integers d (type_tree c.args.element.now) r.xs (items_view l)) less (subst (λ js. AreElements c.args.integers r.less (type_tree c.args.element.now) r.xs js) items all.2) in
    no_element c.args.integers (c.args.depth - 1) (type_tree c.args.element.now) l c.loop-i.i c.loop-i.values.items c.loop-i.invariant.0 c.index-items-i.result c.loop-i-test.true c.index-items-i.is (through c.after.result c.in-Err.why c.after.ensures.unspelled b e c.in-Err.ensures.refused) r.xs elements

pub read_array-loop-i-preserved : goal.read_array-loop-i-preserved
read_array-loop-i-preserved g t c =
    let pushed : c.push.new.self.items ≡ c.loop-i.values.items ++ c.in-Ok.value ∷ [] = search rules in (
      next_element c.args.integers _ _ c.as_slice-items.result.now c.loop-i.i c.loop-i.values.items c.loop-i.invariant.0 c.index-items-i.result c.loop-i-test.true c.index-items-i.is c.in-Ok.value c.push.new.self.items pushed c.in-Ok.ensures.ok,
      keep_push _ _ _ pushed c.loop-i.invariant.1 c.in-Ok.ensures.packed,
    )

pub read_array-returns-clause-ok : goal.read_array-returns-clause-ok
read_array-returns-clause-ok g t c =
    let l = c.as_slice-items.result.now in
    let seen = array_seen c.args.json.now c.in-Array.items l c.in-Array.is c.as_slice-items.ensures.value in
    let elements = all_elements c.args.integers _ _ l c.loop-i.i c.loop-i.values.items c.loop-i.invariant.0 c.loop-i-test.false in
    let is = tree-Array c.in_ok-clone.field-0 c.loop-i.values ∙ ap (λ u. ArrayValue u (value_trees_of c.loop-i.values.items)) c.in_ok-clone.ensures.cases in
    moved c.args.integers _ _ _ _ _ _ is seen (array_made c.args.integers _ (c.args.depth - 1) _ _ _ (omega (arith, c.if-depth-eq0.false)) (sym c.is_byte.ensures ∙ c.if-is_byte.false) elements)

pub read_array-returns-then-is_byte-clause-packed : goal.read_array-returns-then-is_byte-clause-packed
read_array-returns-then-is_byte-clause-packed g t c = keeps-Bytes c.in_ok-read_bytes.field-0

pub read_array-returns-clause-packed : goal.read_array-returns-clause-packed
read_array-returns-clause-packed g t c =
    keeps-Array c.in_ok-clone.field-0 c.loop-i.values
    ∙ and_from _ _ (ap (λ u. not (is_byte u)) c.in_ok-clone.ensures.cases ∙ ap not (sym c.is_byte.ensures ∙ c.if-is_byte.false)) c.loop-i.invariant.1

-- ---- dict entries

pub read_entry-returns-in_default-clause-refused : goal.read_entry-returns-in_default-clause-refused
read_entry-returns-in_default-clause-refused g t c = λ b e v h. let r = entry_read c.args.integers _ _ _ v _ h in c.pair_of.ensures.none c.in_default.is r.key r.value r.is

pub read_entry-read_value-requires : goal.read_entry-read_value-requires
read_entry-read_value-requires g t c κs within =
    (subst (λ n. suc (2 * length (json_tokens (value_view c.in-Some.first.now))) < n) c.decreases (smaller_pair _ _ _ c.in-Some.ensures.some).0, within)

pub read_entry-read_value-requires-2 : goal.read_entry-read_value-requires-2
read_entry-read_value-requires-2 g t c κs within =
    (subst (λ n. suc (2 * length (json_tokens (value_view c.in-Some.second.now))) < n) c.decreases (smaller_pair _ _ _ c.in-Some.ensures.some).1, within)

pub read_entry-returns-in-Err-clause-refused : goal.read_entry-returns-in-Err-clause-refused
read_entry-returns-in-Err-clause-refused g t c = λ b e v h.
    let r = entry_read c.args.integers _ _ _ v _ h in
    let same = pairs_same r.key r.value _ _ (sym r.is ∙ c.in-Some.ensures.some) in
    through c.after.result c.in-Err.why c.after.ensures.unspelled b e c.in-Err.ensures.refused r.x (read_as c.args.integers _ _ _ _ r.x _ _ refl refl same.0 r.reads_key)

pub read_entry-returns-in-Err-read_value-clause-refused : goal.read_entry-returns-in-Err-read_value-clause-refused
read_entry-returns-in-Err-read_value-clause-refused g t c = λ b e v h.
    let r = entry_read c.args.integers _ _ _ v _ h in
    let same = pairs_same r.key r.value _ _ (sym r.is ∙ c.in-Some.ensures.some) in
    through c.after-in-Err-read_value.result c.in-Err-read_value.why c.after-in-Err-read_value.ensures.unspelled b e c.in-Err-read_value.ensures.refused r.y (read_as c.args.integers _ _ _ _ r.y _ _ refl refl same.1 r.reads_value)

pub read_entry-returns-clause-ok : goal.read_entry-returns-clause-ok
read_entry-returns-clause-ok g t c =
    let is = tree-Entry c.in_ok-new.field-0 ∙ ap (λ e. EntryValue (value_tree e.key) (value_tree e.value)) c.in_ok-new.ensures.ok in
    moved c.args.integers _ _ _ _ _ _ is c.in-Some.ensures.some (entry_made c.args.integers _ _ _ _ _ _ _ c.in-Ok.ensures.ok c.in-Ok-read_value.ensures.ok)

pub read_entry-returns-clause-packed : goal.read_entry-returns-clause-packed
read_entry-returns-clause-packed g t c =
    keeps-Entry c.in_ok-new.field-0 ∙ ap (λ e. keeps_bytes e.key && keeps_bytes e.value) c.in_ok-new.ensures.ok ∙ and_from _ _ c.in-Ok.ensures.packed c.in-Ok-read_value.ensures.packed

-- ---- several values

pub read_values-returns-then-items-types-clause-refused : goal.read_values-returns-then-items-types-clause-refused
read_values-returns-then-items-types-clause-refused g t c = λ b e js xs is h.
    let items = arrays_same _ _ (sym is ∙ array_seen c.args.json.now c.in-Array.items c.as_slice-items.result.now c.in-Array.is c.as_slice-items.ensures.value) in
    c.if-items-types.true (one_each c.args.integers _ c.args.types.now xs c.as_slice-items.result.now (subst (λ ks. AreRead c.args.integers c.args.depth (type_trees_of c.args.types.now) xs ks) items h))

pub read_values-loop-i-init : goal.read_values-loop-i-init
read_values-loop-i-init g t c = (begins_at _ _ _ c.in_ok-values.ensures.items, keeps_none _ c.in_ok-values.ensures.items)

pub read_values-read_value-requires : goal.read_values-read_value-requires
read_values-read_value-requires g t c κs within =
    let l = c.as_slice-items.result.now in
    let seen = array_seen c.args.json.now c.in-Array.items l c.in-Array.is c.as_slice-items.ensures.value in
    (subst (λ n. suc (2 * length (json_tokens (value_view c.index-items-i.result))) < n) c.decreases (smaller_item c.args.json.now l c.loop-i.i c.index-items-i.result seen c.loop-i-test.true c.index-items-i.is), within)

pub read_values-returns-in-Err-clause-refused : goal.read_values-returns-in-Err-clause-refused
read_values-returns-in-Err-clause-refused g t c = λ b e js xs is h.
    let l = c.as_slice-items.result.now in
    let seen = array_seen c.args.json.now c.in-Array.items l c.in-Array.is c.as_slice-items.ensures.value in
    let items = arrays_same _ _ (sym is ∙ seen) in
    no_value c.args.integers _ c.args.types.now l c.loop-i.i c.loop-i.values.items c.loop-i.invariant.0 c.if-items-types.false c.index-items-i.result c.index-types-i.result c.loop-i-test.true c.index-items-i.is c.index-types-i.is (through c.after.result c.in-Err.why c.after.ensures.unspelled b e c.in-Err.ensures.refused) xs (subst (λ ks. AreRead c.args.integers c.args.depth (type_trees_of c.args.types.now) xs ks) items h)

pub read_values-loop-i-preserved : goal.read_values-loop-i-preserved
read_values-loop-i-preserved g t c =
    let l = c.as_slice-items.result.now in
    let pushed : c.push.new.self.items ≡ c.loop-i.values.items ++ c.in-Ok.value ∷ [] = search rules in (
      next_value c.args.integers _ c.args.types.now l c.loop-i.i c.loop-i.values.items c.loop-i.invariant.0 c.if-items-types.false c.index-items-i.result c.index-types-i.result c.loop-i-test.true c.index-items-i.is c.index-types-i.is c.in-Ok.value c.push.new.self.items pushed c.in-Ok.ensures.ok,
      keep_push _ _ _ pushed c.loop-i.invariant.1 c.in-Ok.ensures.packed,
    )

pub read_values-returns-clause-ok : goal.read_values-returns-clause-ok
read_values-returns-clause-ok g t c =
    let l = c.as_slice-items.result.now in
    (_, array_seen c.args.json.now c.in-Array.items l c.in-Array.is c.as_slice-items.ensures.value, all_values c.args.integers _ c.args.types.now l c.loop-i.i c.loop-i.values.items c.loop-i.invariant.0 c.if-items-types.false c.loop-i-test.false)

pub read_values-returns-clause-packed : goal.read_values-returns-clause-packed
read_values-returns-clause-packed g t c = c.loop-i.invariant.1

-- ---- variants

pub read_variant-returns-in_default : goal.read_variant-returns-in_default
read_variant-returns-in_default g t c = record {
  ok = search rules;
  packed = search rules;
  refused = λ b e v h. let r = variant_read c.args.integers _ v _ h in no_object c.args.json.now c.in_default.not-Object _ (sym r.is);
}

pub read_variant-returns-in_default-typed_members-clause-refused : goal.read_variant-returns-in_default-typed_members-clause-refused
read_variant-returns-in_default-typed_members-clause-refused g t c = λ b e v h.
    let r = variant_read c.args.integers _ v _ h in
    let seen = object_seen c.args.json.now c.in-Object.members c.as_slice-members.result.now c.in-Object.is c.as_slice-members.ensures.value in
    c.typed_members.ensures.none c.in_default-typed_members.is (sig r.t) r.value (subst (λ ms. IsTyped (sig r.t) r.value ms) (objects_same _ _ (sym r.is ∙ seen)) r.pair)

pub read_variant-returns-then-depth-eq0-clause-refused : goal.read_variant-returns-then-depth-eq0-clause-refused
read_variant-returns-then-depth-eq0-clause-refused g t c = λ b e v h. let r = variant_read c.args.integers _ v _ h in let deep = r.deep in omega (arith, deep, c.if-depth-eq0.true)

pub read_variant-returns-in-Err-clause-refused : goal.read_variant-returns-in-Err-clause-refused
read_variant-returns-in-Err-clause-refused g t c = λ b e v h.
    let r = variant_read c.args.integers _ v _ h in
    let seen = object_seen c.args.json.now c.in-Object.members c.as_slice-members.result.now c.in-Object.is c.as_slice-members.ensures.value in
    let pair = subst (λ ms. IsTyped (sig r.t) r.value ms) (objects_same _ _ (sym r.is ∙ seen)) r.pair in
    let parts = typed_same (sig r.t) c.in-Some.text.now r.value (value_view c.in-Some.value.now) _ pair c.in-Some.ensures.some in
    through c.after.result c.in-Err.why c.after.ensures.unspelled b e c.in-Err.ensures.refused r.t r.single parts.0

pub read_variant-read_value-requires : goal.read_variant-read_value-requires
read_variant-read_value-requires g t c κs within =
    let seen = object_seen c.args.json.now c.in-Object.members c.as_slice-members.result.now c.in-Object.is c.as_slice-members.ensures.value in
    (subst (λ n. suc (2 * length (json_tokens (value_view c.in-Some.value.now))) < n) c.decreases (smaller_typed _ _ _ _ seen c.in-Some.ensures.some), within)

pub read_variant-returns-in-Err-read_value-clause-refused : goal.read_variant-returns-in-Err-read_value-clause-refused
read_variant-returns-in-Err-read_value-clause-refused g t c = λ b e v h.
    let r = variant_read c.args.integers _ v _ h in
    let deep = r.deep in
    let seen = object_seen c.args.json.now c.in-Object.members c.as_slice-members.result.now c.in-Object.is c.as_slice-members.ensures.value in
    let pair = subst (λ ms. IsTyped (sig r.t) r.value ms) (objects_same _ _ (sym r.is ∙ seen)) r.pair in
    let parts = typed_same (sig r.t) c.in-Some.text.now r.value (value_view c.in-Some.value.now) _ pair c.in-Some.ensures.some in
    let less : r.less ≡ c.args.depth - 1 = omega (arith, deep) in
    let type : r.t ≡ type_tree c.in-Ok.ty = one_type _ _ (parts.0 ∙ sym c.in-Ok.ensures.ok.1) in
    through c.after-in-Err-read_value.result c.in-Err-read_value.why c.after-in-Err-read_value.ensures.unspelled b e c.in-Err-read_value.ensures.refused r.x (read_as c.args.integers _ _ _ _ r.x _ _ less type parts.1 r.reads)

pub read_variant-returns-clause-ok : goal.read_variant-returns-clause-ok
read_variant-returns-clause-ok g t c =
    let seen = object_seen c.args.json.now c.in-Object.members c.as_slice-members.result.now c.in-Object.is c.as_slice-members.ensures.value in
    let type = c.in-Ok.ensures.ok in
    let pair = subst (λ s. IsTyped s (value_view c.in-Some.value.now) (members_view c.as_slice-members.result.now)) (sym type.1) c.in-Some.ensures.some in
    let is = tree-Variant c.in_ok-new.field-0 ∙ ap (λ w. VariantValue (value_tree w)) c.in_ok-new.ensures.ok in
    moved c.args.integers _ _ _ _ _ _ is seen (variant_made c.args.integers _ (c.args.depth - 1) (type_tree c.in-Ok.ty) _ (value_view c.in-Some.value.now) _ (omega (arith, c.if-depth-eq0.false)) type.0 pair c.in-Ok-read_value.ensures.ok)

pub read_variant-returns-clause-packed : goal.read_variant-returns-clause-packed
read_variant-returns-clause-packed g t c = keeps-Variant c.in_ok-new.field-0 ∙ ap keeps_bytes c.in_ok-new.ensures.ok ∙ c.in-Ok-read_value.ensures.packed

-- ---- any type

pub read_value-returns-then-depth-eq0-clause-refused : goal.read_value-returns-then-depth-eq0-clause-refused
read_value-returns-then-depth-eq0-clause-refused g t c = λ b e v h.
    let r = struct_read c.args.integers _ _ v _ (subst (λ u. IsRead c.args.integers c.args.depth u v (value_view c.args.json.now)) (ap type_tree c.in-Struct.is ∙ type_tree-Struct c.in-Struct.fields) h) in
    let deep = r.deep in omega (arith, deep, c.if-depth-eq0.true)

pub read_value-returns-in_err-read_values-in-Struct-clause-refused : goal.read_value-returns-in_err-read_values-in-Struct-clause-refused
read_value-returns-in_err-read_values-in-Struct-clause-refused g t c = λ b e v h.
    let type = ap type_tree c.in-Struct.is ∙ type_tree-Struct c.in-Struct.fields ∙ ap (λ l. StructType (type_trees_of l)) (sym (c.deref-in-Struct-2.ensures.value ∙ ap (λ w. w.items) c.deref-in-Struct.ensures)) in
    let r = struct_read c.args.integers c.args.depth (type_trees_of c.deref-in-Struct-2.result.now) v _ (read_as c.args.integers _ _ _ _ v _ _ refl type refl h) in
    let deep = r.deep in
    let less : r.less ≡ c.args.depth - 1 = omega (arith, deep) in
    c.in_err-read_values-in-Struct.ensures.refused b (failed c.from_residual.result c.in_err-read_values-in-Struct.field-0.0 c.from_residual.ensures.1 b e) r.js r.xs r.is (subst (λ d. AreRead c.args.integers d (type_trees_of c.deref-in-Struct-2.result.now) r.xs r.js) less r.fields)

pub read_value-returns-in_ok-read_values-in-Struct-clause-ok : goal.read_value-returns-in_ok-read_values-in-Struct-clause-ok
read_value-returns-in_ok-read_values-in-Struct-clause-ok g t c =
    let type = ap type_tree c.in-Struct.is ∙ type_tree-Struct c.in-Struct.fields ∙ ap (λ l. StructType (type_trees_of l)) (sym (c.deref-in-Struct-2.ensures.value ∙ ap (λ w. w.items) c.deref-in-Struct.ensures)) in
    let all = c.in_ok-read_values-in-Struct.ensures.ok in
    read_as c.args.integers _ _ _ _ _ _ _ refl (sym type) refl (moved c.args.integers _ _ _ _ _ _ (tree-Struct c.in_ok-read_values-in-Struct.field-0) all.1 (struct_made c.args.integers _ (c.args.depth - 1) _ _ all.0 (omega (arith, c.if-depth-eq0.false)) all.2))

pub read_value-returns-in_ok-read_values-in-Struct-clause-packed : goal.read_value-returns-in_ok-read_values-in-Struct-clause-packed
read_value-returns-in_ok-read_values-in-Struct-clause-packed g t c = keeps-Struct c.in_ok-read_values-in-Struct.field-0 ∙ c.in_ok-read_values-in-Struct.ensures.packed

if_ok : {T E : Type 0} (P Q : T → Type 0) (r : Result T E) → IfOk r P → ((v : T) → P v → Q v) → IfOk r Q
if_ok P Q (Ok v) h f = f v h
if_ok P Q (Err e) h f = tt

pub read_value-returns-in_default : goal.read_value-returns-in_default
read_value-returns-in_default g t c = record {
  ok = if_ok _ _ c.read_basic.result c.read_basic.ensures.ok (λ v h. h c.args.depth);
  packed = c.read_basic.ensures.packed;
  refused = λ b e v h. c.read_basic.ensures.refused b e c.args.depth v h;
}
