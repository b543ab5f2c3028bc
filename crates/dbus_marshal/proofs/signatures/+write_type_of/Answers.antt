use Rattle.std.proofs.Common.{arith, rules}
use Rattle.dbus_value_model.specs.declared.value.Value.{the_lemmas}
use Rattle.dbus_marshal.proofs.Spells.{join_assoc, join_around, join_two, step_joined}
use Rattle.dbus_value_model.proofs.Formed.{below_most}
use Rattle.dbus_value_model.proofs.TypeRows.{type-Array, type-Struct, type-Entry, types_more, value_length-Array, value_length-Struct, value_length-Entry, value_length_more}
use Rattle.dbus_marshal.proofs.signatures.+write_type_of.Goals as goal

pub write_type_of-write_byte-requires : goal.write_type_of-write_byte-requires
write_type_of-write_byte-requires g t c =
    let space = rw c.in-Struct.is at c.requires.space in
    let fields = rw c.deref.ensures.value at c.write_types_of-place.ensures.ends in
    record { space = omega (arith, space, fields, value_length-Struct c.in-Struct.fields) }

pub write_type_of-returns-in-Struct-clause-ends : goal.write_type_of-returns-in-Struct-clause-ends
write_type_of-returns-in-Struct-clause-ends g t c =
    let fields = rw c.deref.ensures.value at c.write_types_of-place.ensures.ends in
    rw c.in-Struct.is (omega (arith, fields, value_length-Struct c.in-Struct.fields))

pub write_type_of-write_byte-requires-in-Entry : goal.write_type_of-write_byte-requires-in-Entry
write_type_of-write_byte-requires-in-Entry g t c =
    let space = rw c.in-Entry.is at c.requires.space in
    let key = rw c.deref-in-Entry.ensures at c.write_type_of-place.ensures.ends in
    let held = rw c.deref-in-Entry-2.ensures at c.write_type_of-place-in-Entry.ensures.ends in
    record { space = omega (arith, space, key, held, value_length-Entry c.in-Entry.entry) }

pub write_type_of-returns-in-Entry-clause-ends : goal.write_type_of-returns-in-Entry-clause-ends
write_type_of-returns-in-Entry-clause-ends g t c =
    let key = rw c.deref-in-Entry.ensures at c.write_type_of-place.ensures.ends in
    let held = rw c.deref-in-Entry-2.ensures at c.write_type_of-place-in-Entry.ensures.ends in
    rw c.in-Entry.is (omega (arith, key, held, value_length-Entry c.in-Entry.entry))

pub write_type_of-returns-in-Array-clause-written : goal.write_type_of-returns-in-Array-clause-written
write_type_of-returns-in-Array-clause-written g t c =
    rw (c.in-Array.is, type-Array c.in-Array.element c.in-Array.field-1) (join_assoc _ _ _ _ _ c.write_byte-place.ensures.written c.write_type.ensures.written)

pub write_type_of-returns-in-Struct-clause-written : goal.write_type_of-returns-in-Struct-clause-written
write_type_of-returns-in-Struct-clause-written g t c =
    let fields = rw c.deref.ensures.value at c.write_types_of-place.ensures.written in
    rw (c.in-Struct.is, type-Struct c.in-Struct.fields) (join_around _ _ _ _ _ _ _ c.write_byte-place-in-Struct.ensures.written fields c.write_byte.ensures.written)

pub write_type_of-returns-in-Entry-clause-written : goal.write_type_of-returns-in-Entry-clause-written
write_type_of-returns-in-Entry-clause-written g t c =
    let key = rw c.deref-in-Entry.ensures at c.write_type_of-place.ensures.written in
    let held = rw c.deref-in-Entry-2.ensures at c.write_type_of-place-in-Entry.ensures.written in
    rw (c.in-Entry.is, type-Entry c.in-Entry.entry) (join_two _ _ _ _ _ _ _ _ _ c.write_byte-place-in-Entry.ensures.written key held c.write_byte-in-Entry.ensures.written)

pub write_types_of-write_type_of-place-requires : goal.write_types_of-write_type_of-place-requires
write_types_of-write_type_of-place-requires g t c κs within =
    let vs = c.args.values.now in
    let i = c.loop-value.value-index in
    let x = c.value-item.result in
    let more = value_length_more vs i x c.loop-value-test.true c.value-item.is in
    (rw (← c.decreases) (below_most _ vs i x c.loop-value-test.true c.value-item.is), (within, omega (arith, more, c.requires.space, c.loop-value.invariant.ends, c.loop-value.auto.out)))

pub write_types_of-loop-value-preserved : goal.write_types_of-loop-value-preserved
write_types_of-loop-value-preserved g t c =
    let vs = c.args.values.now in
    let i = c.loop-value.value-index in
    let x = c.value-item.result in
    record {
      joined = step_joined _ _ _ _ _ _ c.loop-value.invariant.joined (types_more vs i x c.loop-value-test.true c.value-item.is) c.write_type_of-place.ensures.written;
      ends = omega (arith, value_length_more vs i x c.loop-value-test.true c.value-item.is, c.loop-value.invariant.ends, c.write_type_of-place.ensures.ends);
    }

pub write_type_of-write_byte-place-requires : goal.write_type_of-write_byte-place-requires
write_type_of-write_byte-place-requires g t c =
    let space = rw c.in-Array.is at c.requires.space in
    record { space = omega (arith, space, value_length-Array c.in-Array.element c.in-Array.field-1) }

pub write_type_of-write_type-requires : goal.write_type_of-write_type-requires
write_type_of-write_type-requires g t c =
    let space = rw c.in-Array.is at c.requires.space in
    record { space = omega (arith, space, value_length-Array c.in-Array.element c.in-Array.field-1) }

pub write_type_of-returns-in-Array-clause-ends : goal.write_type_of-returns-in-Array-clause-ends
write_type_of-returns-in-Array-clause-ends g t c =
    rw c.in-Array.is (omega (arith, c.write_type.ensures.ends, value_length-Array c.in-Array.element c.in-Array.field-1))

pub write_type_of-write_byte-place-requires-in-Struct : goal.write_type_of-write_byte-place-requires-in-Struct
write_type_of-write_byte-place-requires-in-Struct g t c =
    let space = rw c.in-Struct.is at c.requires.space in
    record { space = omega (arith, space, value_length-Struct c.in-Struct.fields) }

pub write_type_of-write_types_of-place-requires : goal.write_type_of-write_types_of-place-requires
write_type_of-write_types_of-place-requires g t c κs within =
    let is = c.in-Struct.is in
    let there = c.deref.ensures.value in
    let measure = rw is at c.decreases in
    let space = rw is at c.requires.space in
    (rw (there, ← measure) (search (rules, the_lemmas)), (within, rw there (omega (arith, space, value_length-Struct c.in-Struct.fields))))

pub write_type_of-write_byte-place-requires-in-Entry : goal.write_type_of-write_byte-place-requires-in-Entry
write_type_of-write_byte-place-requires-in-Entry g t c =
    let space = rw c.in-Entry.is at c.requires.space in
    record { space = omega (arith, space, value_length-Entry c.in-Entry.entry) }

pub write_type_of-write_type_of-place-requires : goal.write_type_of-write_type_of-place-requires
write_type_of-write_type_of-place-requires g t c κs within =
    let is = c.in-Entry.is in
    let measure = rw is at c.decreases in
    let space = rw is at c.requires.space in
    (rw (c.deref-in-Entry.ensures, ← measure) (search (rules, the_lemmas)), (within, rw c.deref-in-Entry.ensures (omega (arith, space, value_length-Entry c.in-Entry.entry))))

pub write_type_of-write_type_of-place-requires-in-Entry : goal.write_type_of-write_type_of-place-requires-in-Entry
write_type_of-write_type_of-place-requires-in-Entry g t c κs within =
    let is = c.in-Entry.is in
    let measure = rw is at c.decreases in
    let space = rw is at c.requires.space in
    let key = rw c.deref-in-Entry.ensures at c.write_type_of-place.ensures.ends in
    (rw (c.deref-in-Entry-2.ensures, ← measure) (search (rules, the_lemmas)), (within, rw c.deref-in-Entry-2.ensures (omega (arith, space, key, value_length-Entry c.in-Entry.entry))))
