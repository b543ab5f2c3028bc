use Rattle.std.proofs.Common.{◌≡◌, ◌++◌, ◌∷◌, [], ap, ◌∙◌, rules}
use Rattle.dbus_value_model.specs.PackedBytes.{packing}
use Rattle.dbus_value_model.specs.ValueViews.{value_tree}
use Rattle.dbus_value_model.proofs.Copied.{array_equal, array_same_bytes, struct_equal, struct_same_bytes, entry_equal, entry_same_bytes, more_copied}
use Rattle.dbus_value_model.proofs.copying.+copy.Goals as goal

pub copy-returns-in_ok-clone-in-Array-clause-equal : goal.copy-returns-in_ok-clone-in-Array-clause-equal
copy-returns-in_ok-clone-in-Array-clause-equal g t c =
    rw c.in-Array.is (array_equal c.in_ok-items-in-Array.items c.in-Array.items c.in_ok-clone-in-Array.field-0 c.in-Array.element c.in_ok-clone-in-Array.ensures.cases (rw (← c.deref-in-Array.ensures.value) c.in_ok-items-in-Array.ensures.equal))

pub copy-returns-in_ok-clone-in-Array-clause-same_bytes : goal.copy-returns-in_ok-clone-in-Array-clause-same_bytes
copy-returns-in_ok-clone-in-Array-clause-same_bytes g t c =
    rw c.in-Array.is (array_same_bytes c.in_ok-items-in-Array.items c.in-Array.items c.in_ok-clone-in-Array.field-0 c.in-Array.element (rw (← c.deref-in-Array.ensures.value) c.in_ok-items-in-Array.ensures.same_bytes))

pub copy-returns-in_ok-copy_all-in-Struct-clause-equal : goal.copy-returns-in_ok-copy_all-in-Struct-clause-equal
copy-returns-in_ok-copy_all-in-Struct-clause-equal g t c =
    rw c.in-Struct.is (struct_equal c.in_ok-copy_all-in-Struct.field-0 c.in-Struct.fields (rw (← c.deref-in-Struct.ensures.value) c.in_ok-copy_all-in-Struct.ensures.equal))

pub copy-returns-in_ok-copy_all-in-Struct-clause-same_bytes : goal.copy-returns-in_ok-copy_all-in-Struct-clause-same_bytes
copy-returns-in_ok-copy_all-in-Struct-clause-same_bytes g t c =
    rw c.in-Struct.is (struct_same_bytes c.in_ok-copy_all-in-Struct.field-0 c.in-Struct.fields (rw (← c.deref-in-Struct.ensures.value) c.in_ok-copy_all-in-Struct.ensures.same_bytes))

pub copy-returns-in_ok-new-in-Entry-clause-equal : goal.copy-returns-in_ok-new-in-Entry-clause-equal
copy-returns-in_ok-new-in-Entry-clause-equal g t c =
    let made = c.in_ok-new-in-Entry.ensures.ok in
    let key = ap (λ e. value_tree e.key) made ∙ c.in_ok-key-in-Entry.ensures.equal ∙ ap (λ e. value_tree e.key) c.deref-in-Entry.ensures in
    let held = ap (λ e. value_tree e.value) made ∙ c.in_ok-value-in-Entry.ensures.equal ∙ ap (λ e. value_tree e.value) c.deref-in-Entry-2.ensures in
    rw c.in-Entry.is (entry_equal c.in_ok-new-in-Entry.field-0 c.in-Entry.entry key held)

pub copy-returns-in_ok-new-in-Entry-clause-same_bytes : goal.copy-returns-in_ok-new-in-Entry-clause-same_bytes
copy-returns-in_ok-new-in-Entry-clause-same_bytes g t c =
    let made = c.in_ok-new-in-Entry.ensures.ok in
    let key = ap (λ e. packing e.key) made ∙ c.in_ok-key-in-Entry.ensures.same_bytes ∙ ap (λ e. packing e.key) c.deref-in-Entry.ensures in
    let held = ap (λ e. packing e.value) made ∙ c.in_ok-value-in-Entry.ensures.same_bytes ∙ ap (λ e. packing e.value) c.deref-in-Entry-2.ensures in
    rw c.in-Entry.is (entry_same_bytes c.in_ok-new-in-Entry.field-0 c.in-Entry.entry key held)

pub copy_all-loop-value-preserved : goal.copy_all-loop-value-preserved
copy_all-loop-value-preserved g t c =
    let xs = c.args.values.now in
    let us = c.loop-value.copies.items in
    let i = c.loop-value.value-index in
    let x = c.value-item.result in
    let made = c.in_ok-copy.field-0 in
    let pushed : c.push.new.self.items ≡ us ++ made ∷ [] = search rules in
    record {
      equal = more_copied value_tree xs us i x made _ c.loop-value-test.true pushed c.loop-value.invariant.equal (rw (← c.value-item.is) c.in_ok-copy.ensures.equal);
      same_bytes = more_copied packing xs us i x made _ c.loop-value-test.true pushed c.loop-value.invariant.same_bytes (rw (← c.value-item.is) c.in_ok-copy.ensures.same_bytes);
    }
