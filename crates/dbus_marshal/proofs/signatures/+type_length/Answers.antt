use Rattle.std.proofs.Common.{arith, rules}
use Rattle.dbus_types.specs.declared.sig_type.SigType.{the_lemmas}
use Rattle.dbus_value_model.proofs.Formed.{below_most}
use Rattle.dbus_value_model.proofs.TypeRows.{length-Array, length-Struct, length-Entry, length_more, length_end}
use Rattle.dbus_marshal.proofs.signatures.+type_length.Goals as goal

pub type_length-overflow_add-result-in-Struct : goal.type_length-overflow_add-result-in-Struct
type_length-overflow_add-result-in-Struct g t c =
    let short = rw c.in-Struct.is at c.requires in
    let fields = rw (c.deref-in-Struct-2.ensures.value, c.deref-in-Struct.ensures) at c.types_length.ensures in
    omega (arith, short, fields, length-Struct c.in-Struct.fields)

pub type_length-returns-in-Struct : goal.type_length-returns-in-Struct
type_length-returns-in-Struct g t c =
    let fields = rw (c.deref-in-Struct-2.ensures.value, c.deref-in-Struct.ensures) at c.types_length.ensures in
    rw c.in-Struct.is (omega (arith, fields, length-Struct c.in-Struct.fields))

pub type_length-overflow_add-result-in-Entry : goal.type_length-overflow_add-result-in-Entry
type_length-overflow_add-result-in-Entry g t c =
    let short = rw c.in-Entry.is at c.requires in
    let key = rw c.deref-in-Entry.ensures at c.type_length-in-Entry.ensures in
    omega (arith, short, key, length-Entry c.in-Entry.key c.in-Entry.value)

pub type_length-overflow_add-result-in-Entry-2 : goal.type_length-overflow_add-result-in-Entry-2
type_length-overflow_add-result-in-Entry-2 g t c =
    let short = rw c.in-Entry.is at c.requires in
    let key = rw c.deref-in-Entry.ensures at c.type_length-in-Entry.ensures in
    let held = rw c.deref-in-Entry-2.ensures at c.type_length-in-Entry-2.ensures in
    omega (arith, short, key, held, length-Entry c.in-Entry.key c.in-Entry.value)

pub type_length-returns-in-Entry : goal.type_length-returns-in-Entry
type_length-returns-in-Entry g t c =
    let key = rw c.deref-in-Entry.ensures at c.type_length-in-Entry.ensures in
    let held = rw c.deref-in-Entry-2.ensures at c.type_length-in-Entry-2.ensures in
    rw c.in-Entry.is (omega (arith, key, held, length-Entry c.in-Entry.key c.in-Entry.value))

pub type_length-type_length-requires : goal.type_length-type_length-requires
type_length-type_length-requires g t c κs within =
    let is = c.in-Array.is in
    let measure = rw is at c.decreases in
    let short = rw is at c.requires in
    (rw (c.deref.ensures, ← measure) (search (rules, the_lemmas)), (within, rw c.deref.ensures (omega (arith, short, length-Array c.in-Array.element))))

pub type_length-types_length-requires : goal.type_length-types_length-requires
type_length-types_length-requires g t c κs within =
    let is = c.in-Struct.is in
    let measure = rw is at c.decreases in
    let short = rw is at c.requires in
    (rw (c.deref-in-Struct-2.ensures.value, c.deref-in-Struct.ensures, ← measure) (search (rules, the_lemmas)), (within, rw (c.deref-in-Struct-2.ensures.value, c.deref-in-Struct.ensures) (omega (arith, short, length-Struct c.in-Struct.fields))))

pub type_length-type_length-requires-in-Entry : goal.type_length-type_length-requires-in-Entry
type_length-type_length-requires-in-Entry g t c κs within =
    let is = c.in-Entry.is in
    let measure = rw is at c.decreases in
    let short = rw is at c.requires in
    (rw (c.deref-in-Entry.ensures, ← measure) (search (rules, the_lemmas)), (within, rw c.deref-in-Entry.ensures (omega (arith, short, length-Entry c.in-Entry.key c.in-Entry.value))))

pub type_length-type_length-requires-in-Entry-2 : goal.type_length-type_length-requires-in-Entry-2
type_length-type_length-requires-in-Entry-2 g t c κs within =
    let is = c.in-Entry.is in
    let measure = rw is at c.decreases in
    let short = rw is at c.requires in
    (rw (c.deref-in-Entry-2.ensures, ← measure) (search (rules, the_lemmas)), (within, rw c.deref-in-Entry-2.ensures (omega (arith, short, length-Entry c.in-Entry.key c.in-Entry.value))))

pub type_length-overflow_add-result : goal.type_length-overflow_add-result
type_length-overflow_add-result g t c =
    let short = rw c.in-Array.is at c.requires in
    let element = rw c.deref.ensures at c.type_length.ensures in
    omega (arith, short, element, length-Array c.in-Array.element)

pub type_length-returns-in-Array : goal.type_length-returns-in-Array
type_length-returns-in-Array g t c =
    let element = rw c.deref.ensures at c.type_length.ensures in
    rw c.in-Array.is (omega (arith, element, length-Array c.in-Array.element))

pub types_length-type_length-len-requires : goal.types_length-type_length-len-requires
types_length-type_length-len-requires g t c κs within =
    let more = length_more c.args.types.now c.loop-ty.ty-index c.ty-item.result c.loop-ty-test.true c.ty-item.is in
    (rw (← c.decreases) (below_most _ c.args.types.now c.loop-ty.ty-index c.ty-item.result c.loop-ty-test.true c.ty-item.is), (within, omega (arith, c.requires, c.loop-ty.invariant, more)))

pub types_length-overflow_add-len : goal.types_length-overflow_add-len
types_length-overflow_add-len g t c =
    let more = length_more c.args.types.now c.loop-ty.ty-index c.ty-item.result c.loop-ty-test.true c.ty-item.is in
    omega (arith, c.requires, c.loop-ty.invariant, more, c.type_length-len.ensures)

pub types_length-loop-ty-preserved : goal.types_length-loop-ty-preserved
types_length-loop-ty-preserved g t c =
    let more = length_more c.args.types.now c.loop-ty.ty-index c.ty-item.result c.loop-ty-test.true c.ty-item.is in
    omega (arith, c.loop-ty.invariant, more, c.type_length-len.ensures)

pub types_length-returns : goal.types_length-returns
types_length-returns g t c = omega (arith, c.loop-ty.invariant, length_end c.args.types.now c.loop-ty.ty-index c.loop-ty-test.false)
