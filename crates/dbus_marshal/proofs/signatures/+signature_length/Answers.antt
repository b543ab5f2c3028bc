use Rattle.std.proofs.Common.{arith, rules}
use Rattle.dbus_value_model.specs.declared.value.Value.{the_lemmas}
use Rattle.dbus_value_model.proofs.TypeRows.{value_length-Array, value_length-Struct, value_length-Entry, value_length_more, value_length_end}
use Rattle.dbus_value_model.proofs.Formed.{below_most}
use Rattle.dbus_marshal.proofs.signatures.+signature_length.Goals as goal

pub signature_length-signatures_length-requires : goal.signature_length-signatures_length-requires
signature_length-signatures_length-requires g t c κs within =
    let is = c.in-Struct.is in
    let there = c.deref.ensures.value in
    let measure = rw is at c.decreases in
    let short = rw is at c.requires in
    (rw (there, ← measure) (search (rules, the_lemmas)), (within, rw there (omega (arith, short, value_length-Struct c.in-Struct.fields))))

pub signature_length-overflow_add-result-in-Struct : goal.signature_length-overflow_add-result-in-Struct
signature_length-overflow_add-result-in-Struct g t c =
    let short = rw c.in-Struct.is at c.requires in
    let fields = rw c.deref.ensures.value at c.signatures_length.ensures in
    omega (arith, short, fields, value_length-Struct c.in-Struct.fields)

pub signature_length-returns-in-Struct : goal.signature_length-returns-in-Struct
signature_length-returns-in-Struct g t c =
    let fields = rw c.deref.ensures.value at c.signatures_length.ensures in
    rw c.in-Struct.is (omega (arith, fields, value_length-Struct c.in-Struct.fields))

pub signature_length-overflow_add-result-in-Entry : goal.signature_length-overflow_add-result-in-Entry
signature_length-overflow_add-result-in-Entry g t c =
    let short = rw c.in-Entry.is at c.requires in
    let key = rw c.deref-in-Entry.ensures at c.signature_length.ensures in
    omega (arith, short, key, value_length-Entry c.in-Entry.entry)

pub signature_length-overflow_add-result-in-Entry-2 : goal.signature_length-overflow_add-result-in-Entry-2
signature_length-overflow_add-result-in-Entry-2 g t c =
    let short = rw c.in-Entry.is at c.requires in
    let key = rw c.deref-in-Entry.ensures at c.signature_length.ensures in
    let held = rw c.deref-in-Entry-2.ensures at c.signature_length-in-Entry.ensures in
    omega (arith, short, key, held, value_length-Entry c.in-Entry.entry)

pub signature_length-returns-in-Entry : goal.signature_length-returns-in-Entry
signature_length-returns-in-Entry g t c =
    let key = rw c.deref-in-Entry.ensures at c.signature_length.ensures in
    let held = rw c.deref-in-Entry-2.ensures at c.signature_length-in-Entry.ensures in
    rw c.in-Entry.is (omega (arith, key, held, value_length-Entry c.in-Entry.entry))

pub signatures_length-signature_length-len-requires : goal.signatures_length-signature_length-len-requires
signatures_length-signature_length-len-requires g t c κs within =
    let more = value_length_more c.args.values.now c.loop-value.value-index c.value-item.result c.loop-value-test.true c.value-item.is in
    (rw (← c.decreases) (below_most _ c.args.values.now c.loop-value.value-index c.value-item.result c.loop-value-test.true c.value-item.is), (within, omega (arith, c.requires, c.loop-value.invariant, more)))

pub signatures_length-loop-value-preserved : goal.signatures_length-loop-value-preserved
signatures_length-loop-value-preserved g t c =
    let more = value_length_more c.args.values.now c.loop-value.value-index c.value-item.result c.loop-value-test.true c.value-item.is in
    omega (arith, c.loop-value.invariant, more, c.signature_length-len.ensures)

pub signatures_length-returns : goal.signatures_length-returns
signatures_length-returns g t c =
    omega (arith, c.loop-value.invariant, value_length_end c.args.values.now c.loop-value.value-index c.loop-value-test.false)

pub signature_length-returns-in-Array : goal.signature_length-returns-in-Array
signature_length-returns-in-Array g t c = rw c.in-Array.is (omega (arith, c.type_length.ensures, value_length-Array c.in-Array.element c.in-Array.field-1))

pub signature_length-overflow_add-result : goal.signature_length-overflow_add-result
signature_length-overflow_add-result g t c =
    let short = rw c.in-Array.is at c.requires in
    omega (arith, short, c.type_length.ensures, value_length-Array c.in-Array.element c.in-Array.field-1)

pub signature_length-signature_length-requires : goal.signature_length-signature_length-requires
signature_length-signature_length-requires g t c κs within =
    let is = c.in-Entry.is in
    let measure = rw is at c.decreases in
    let short = rw is at c.requires in
    (rw (c.deref-in-Entry.ensures, ← measure) (search (rules, the_lemmas)), (within, rw c.deref-in-Entry.ensures (omega (arith, short, value_length-Entry c.in-Entry.entry))))

pub signature_length-signature_length-requires-in-Entry : goal.signature_length-signature_length-requires-in-Entry
signature_length-signature_length-requires-in-Entry g t c κs within =
    let is = c.in-Entry.is in
    let measure = rw is at c.decreases in
    let short = rw is at c.requires in
    (rw (c.deref-in-Entry-2.ensures, ← measure) (search (rules, the_lemmas)), (within, rw c.deref-in-Entry-2.ensures (omega (arith, short, value_length-Entry c.in-Entry.entry))))

pub signatures_length-overflow_add-len : goal.signatures_length-overflow_add-len
signatures_length-overflow_add-len g t c =
    let more = value_length_more c.args.values.now c.loop-value.value-index c.value-item.result c.loop-value-test.true c.value-item.is in
    omega (arith, c.requires, c.loop-value.invariant, more, c.signature_length-len.ensures)

pub signature_length-type_length-requires : goal.signature_length-type_length-requires
signature_length-type_length-requires g t c =
    let short = rw c.in-Array.is at c.requires in
    omega (arith, short, value_length-Array c.in-Array.element c.in-Array.field-1)
