use Rattle.std.proofs.Common.{◌≡◌, ℕ, ◌+◌, length, drop, None, Some, Option, inl, inr, ◌∙◌, arith}
use Rattle.std.specs.Prelude.{string_bytes}
use Rattle.dbus_value_model.specs.declared.value.Value.{the_lemmas}
use Rattle.dbus_value_model.specs.SizeLimits.{AreMeasured}
use Rattle.dbus_value_model.specs.ValueViews.{value_trees_of}
use Rattle.dbus_value_model.proofs.Formed.{below_most}
use Rattle.dbus_texts.specs.Types.{BYTE, BOOLEAN, INT16, UINT16, INT32, UINT32, INT64, UINT64, DOUBLE, UNIX_FD, STRING, OBJECT_PATH, SIGNATURE}
use Rattle.dbus_value_model.proofs.ValueRows.{tree-Byte, tree-Bool, tree-I16, tree-U16, tree-I32, tree-U32, tree-I64, tree-U64, tree-Double, tree-Str, tree-Path, tree-Sig, tree-Fd, tree-Bytes, tree-Array, tree-Struct, tree-Entry, tree-Variant}
use Rattle.dbus_marshal.proofs.MeasureSteps.{measured-number, measured-text, measured-bytes, measured-array, measured-items, measured-struct, measured-entry, measured-key, measured-variant, measured-rest, measured-stop, measured-end}
use Rattle.dbus_marshal.proofs.Spells.{short_more}
use Rattle.dbus_marshal.proofs.measures.+size.Goals as goal

pub measure-measure_all-requires : goal.measure-measure_all-requires
measure-measure_all-requires g t c κs within =
    let is = c.in-Array.is in
    let there = c.deref.ensures.value in
    let measure = rw is at c.decreases in
    let short = rw (is, tree-Array) at c.requires.signed in
    (rw (there, ← measure) (grind (arith, the_lemmas)), (within, (omega arith, rw there short)))

pub measure-returns-in_err-end-in-Array-clause-exact : goal.measure-returns-in_err-end-in-Array-clause-exact
measure-returns-in_err-end-in-Array-clause-exact g t c =
    let begins = rw c.alignment.ensures at c.boundary-start.ensures.exact in
    let inner = rw c.deref.ensures.value at c.in_err-end-in-Array.ensures.exact in
    rw (c.from_residual.ensures, c.in-Array.is, tree-Array) (measured-items c.args.limits _ _ _ _ _ c.number-in-Array.ensures.exact begins inner)

pub measure-measure_all-requires-in-Struct : goal.measure-measure_all-requires-in-Struct
measure-measure_all-requires-in-Struct g t c κs within =
    let is = c.in-Struct.is in
    let there = c.deref-in-Struct.ensures.value in
    let measure = rw is at c.decreases in
    let short = rw (is, tree-Struct) at c.requires.signed in
    (rw (there, ← measure) (grind (arith, the_lemmas)), (within, (omega arith, rw there short)))

pub measure-returns-in_err-key_end-in-Entry-clause-exact :
    goal.measure-returns-in_err-key_end-in-Entry-clause-exact
measure-returns-in_err-key_end-in-Entry-clause-exact g t c =
    let key = rw c.deref-in-Entry.ensures at c.in_err-key_end-in-Entry.ensures.exact in
    rw (c.from_residual-in_err-key_end-in-Entry.ensures, c.in-Entry.is, tree-Entry) (measured-key c.args.limits _ _ _ _ c.boundary-in-Entry.ensures.exact key)

pub measure-returns-in-Struct-clause-exact : goal.measure-returns-in-Struct-clause-exact
measure-returns-in-Struct-clause-exact g t c =
    let inner = rw c.deref-in-Struct.ensures.value at c.measure_all-in-Struct.ensures.exact in
    rw (c.in-Struct.is, tree-Struct) (measured-struct c.args.limits _ _ _ _ c.boundary.ensures.exact inner)

pub measure-returns-in_ok-key_end-in-Entry-clause-exact :
    goal.measure-returns-in_ok-key_end-in-Entry-clause-exact
measure-returns-in_ok-key_end-in-Entry-clause-exact g t c =
    let key = rw c.deref-in-Entry.ensures at c.in_ok-key_end-in-Entry.ensures.exact in
    let held = rw c.deref-in-Entry-2.ensures at c.measure-in-Entry.ensures.exact in
    rw (c.in-Entry.is, tree-Entry) (measured-entry c.args.limits _ _ _ _ _ _ c.boundary-in-Entry.ensures.exact key held)

pub measure-returns-in-Variant-clause-exact : goal.measure-returns-in-Variant-clause-exact
measure-returns-in-Variant-clause-exact g t c =
    let text = rw (c.signature_length.ensures, c.deref-in-Variant-2.ensures) at c.text-in-Variant.ensures.exact in
    let inner = rw c.deref-in-Variant.ensures at c.measure-in-Variant.ensures.exact in
    rw (c.in-Variant.is, tree-Variant) (measured-variant c.args.limits _ _ _ _ text inner)

pub measure_all-returns-in_err-end-clause-exact :
    goal.measure_all-returns-in_err-end-clause-exact
measure_all-returns-in_err-end-clause-exact g t c =
    let xs = c.args.values.now in
    rw c.from_residual.ensures
    (c.loop-value.invariant.0 None (measured-stop c.args.limits xs c.loop-value.value-index c.loop-value.end c.value-item.result c.loop-value-test.true c.value-item.is c.in_err-end.ensures.exact))

pub measure_all-loop-value-preserved : goal.measure_all-loop-value-preserved
measure_all-loop-value-preserved g t c =
    let xs = c.args.values.now in
    let i = c.loop-value.value-index in
    let x = c.value-item.result in
    let parts = short_more xs i x c.loop-value-test.true c.value-item.is c.loop-value.invariant.2 in
    let go = λ (r : Option ℕ) (rest : AreMeasured c.args.limits.array (value_trees_of (drop (i + 1) xs)) c.in_ok-end.end r).
    c.loop-value.invariant.0 r (measured-rest c.args.limits xs i c.loop-value.end c.in_ok-end.end r x c.loop-value-test.true c.value-item.is c.in_ok-end.ensures.exact rest)
    in
    (go, omega (arith, c.in_ok-end.ensures.within), parts.1)

pub measure_all-returns-clause-exact : goal.measure_all-returns-clause-exact
measure_all-returns-clause-exact g t c =
    let xs = c.args.values.now in
    c.loop-value.invariant.0 (Some c.loop-value.end) (measured-end c.args.limits xs c.loop-value.value-index c.loop-value.end (omega arith) c.loop-value.invariant.1)

pub measure-returns-in-Byte-clause-exact : goal.measure-returns-in-Byte-clause-exact
measure-returns-in-Byte-clause-exact g t c = rw (c.in-Byte.is, tree-Byte) (measured-number c.args.limits BYTE _ _ _ c.number.ensures.exact)

pub measure-returns-in-I16-clause-exact : goal.measure-returns-in-I16-clause-exact
measure-returns-in-I16-clause-exact g t c = elim c.in-I16.is [
  | inl w ↦ rw (w.1, tree-I16) (measured-number c.args.limits INT16 _ _ _ c.number-in-I16.ensures.exact)
  | inr w ↦ rw (w.1, tree-U16) (measured-number c.args.limits UINT16 _ _ _ c.number-in-I16.ensures.exact)
]

pub measure-returns-in-Bool-clause-exact : goal.measure-returns-in-Bool-clause-exact
measure-returns-in-Bool-clause-exact g t c = elim c.in-Bool.is [
  | inl w ↦ rw (w.1, tree-Bool) (measured-number c.args.limits BOOLEAN _ _ _ c.number-in-Bool.ensures.exact)
  | inr (inl w) ↦ rw (w.1, tree-I32) (measured-number c.args.limits INT32 _ _ _ c.number-in-Bool.ensures.exact)
  | inr (inr (inl w)) ↦ rw (w.1, tree-U32) (measured-number c.args.limits UINT32 _ _ _ c.number-in-Bool.ensures.exact)
  | inr (inr (inr w)) ↦ rw (w.1, tree-Fd) (measured-number c.args.limits UNIX_FD _ _ _ c.number-in-Bool.ensures.exact)
]

pub measure-returns-in-I64-clause-exact : goal.measure-returns-in-I64-clause-exact
measure-returns-in-I64-clause-exact g t c = elim c.in-I64.is [
  | inl w ↦ rw (w.1, tree-I64) (measured-number c.args.limits INT64 _ _ _ c.number-in-I64.ensures.exact)
  | inr (inl w) ↦ rw (w.1, tree-U64) (measured-number c.args.limits UINT64 _ _ _ c.number-in-I64.ensures.exact)
  | inr (inr w) ↦ rw (w.1, tree-Double) (measured-number c.args.limits DOUBLE _ _ _ c.number-in-I64.ensures.exact)
]

pub measure-returns-in-Sig-clause-exact : goal.measure-returns-in-Sig-clause-exact
measure-returns-in-Sig-clause-exact g t c =
    let len : c.len.result ≡ length (string_bytes c.in-Sig.types) = c.len.ensures ∙ c.in-Sig.types.bytes.ok.0 in
    rw (c.in-Sig.is, tree-Sig) (measured-text c.args.limits SIGNATURE _ _ _ (rw len at c.text.ensures.exact))

pub measure-returns-in-Str-clause-exact : goal.measure-returns-in-Str-clause-exact
measure-returns-in-Str-clause-exact g t c =
    let len : c.len-in-Str.result ≡ length (string_bytes c.in-Str.words) = c.len-in-Str.ensures ∙ c.in-Str.words.bytes.ok.0 in
    let text = rw len at c.text-in-Str.ensures.exact in
    elim c.in-Str.is [
      | inl w ↦ rw (w, tree-Str) (measured-text c.args.limits STRING _ _ _ text)
      | inr w ↦ rw (w, tree-Path) (measured-text c.args.limits OBJECT_PATH _ _ _ text)
    ]

pub measure_all-measure-requires : goal.measure_all-measure-requires
measure_all-measure-requires g t c κs within =
    let xs = c.args.values.now in
    let i = c.loop-value.value-index in
    let x = c.value-item.result in
    let parts = short_more xs i x c.loop-value-test.true c.value-item.is c.loop-value.invariant.2 in
    (rw (← c.decreases) (below_most _ xs i x c.loop-value-test.true c.value-item.is), (within, (c.loop-value.invariant.1, parts.0)))

pub measure-returns-in_ok-end-in-Array-clause-exact : goal.measure-returns-in_ok-end-in-Array-clause-exact
measure-returns-in_ok-end-in-Array-clause-exact g t c =
    let begins = rw c.alignment.ensures at c.boundary-start.ensures.exact in
    let inner = rw c.deref.ensures.value at c.in_ok-end-in-Array.ensures.exact in
    rw (c.in-Array.is, tree-Array) (measured-array c.args.limits _ _ _ _ _ c.number-in-Array.ensures.exact begins _ _ inner c.array_end-in-Array.ensures.exact)

pub measure-returns-in-Bytes-clause-exact : goal.measure-returns-in-Bytes-clause-exact
measure-returns-in-Bytes-clause-exact g t c =
    let len : c.len-in-Bytes.result ≡ length c.in-Bytes.bytes.items = omega arith in
    let ends = rw (c.cap.ensures.exact, len) at c.cap-in-Bytes.ensures.exact in
    rw (c.in-Bytes.is, tree-Bytes) (measured-bytes c.args.limits _ _ _ _ _ c.number-start.ensures.exact ends c.array_end.ensures.exact)
