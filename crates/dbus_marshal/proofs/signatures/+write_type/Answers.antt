use Rattle.std.proofs.Common.{arith, rules}
use Rattle.dbus_types.specs.declared.sig_type.SigType.{the_lemmas}
use Rattle.dbus_marshal.proofs.Spells.{join_assoc, join_around, join_two, step_joined}
use Rattle.dbus_value_model.proofs.Formed.{below_most}
use Rattle.dbus_value_model.proofs.TypeRows.{sig-Array, sig-Struct, sig-Entry, sigs_more, length-Array, length-Struct, length-Entry, length_more}
use Rattle.dbus_marshal.proofs.signatures.+write_type.Goals as goal

pub write_type-returns-in-Array-clause-written : goal.write_type-returns-in-Array-clause-written
write_type-returns-in-Array-clause-written g t c =
    let held = rw c.deref.ensures at c.write_type.ensures.written in
    rw (c.in-Array.is, sig-Array c.in-Array.element) (join_assoc _ _ _ _ _ c.write_byte-place.ensures.written held)

pub write_type-returns-in-Struct-clause-written : goal.write_type-returns-in-Struct-clause-written
write_type-returns-in-Struct-clause-written g t c =
    let fields = rw (c.deref-in-Struct-2.ensures.value, c.deref-in-Struct.ensures) at c.write_types-place.ensures.written in
    rw (c.in-Struct.is, sig-Struct c.in-Struct.fields) (join_around _ _ _ _ _ _ _ c.write_byte-place-in-Struct.ensures.written fields c.write_byte.ensures.written)

pub write_type-returns-in-Entry-clause-written : goal.write_type-returns-in-Entry-clause-written
write_type-returns-in-Entry-clause-written g t c =
    let key = rw c.deref-in-Entry.ensures at c.write_type-place.ensures.written in
    let held = rw c.deref-in-Entry-2.ensures at c.write_type-place-in-Entry.ensures.written in
    rw (c.in-Entry.is, sig-Entry c.in-Entry.key c.in-Entry.value) (join_two _ _ _ _ _ _ _ _ _ c.write_byte-place-in-Entry.ensures.written key held c.write_byte-in-Entry.ensures.written)

pub write_types-write_type-place-requires : goal.write_types-write_type-place-requires
write_types-write_type-place-requires g t c κs within =
    let ts = c.args.types.now in
    let i = c.loop-ty.ty-index in
    let x = c.ty-item.result in
    let more = length_more ts i x c.loop-ty-test.true c.ty-item.is in
    (rw (← c.decreases) (below_most _ ts i x c.loop-ty-test.true c.ty-item.is), (within, omega (arith, more, c.requires.space, c.loop-ty.invariant.ends, c.loop-ty.auto.out)))

pub write_types-loop-ty-preserved : goal.write_types-loop-ty-preserved
write_types-loop-ty-preserved g t c =
    let ts = c.args.types.now in
    let i = c.loop-ty.ty-index in
    let x = c.ty-item.result in
    record {
      joined = step_joined _ _ _ _ _ _ c.loop-ty.invariant.joined (sigs_more ts i x c.loop-ty-test.true c.ty-item.is) c.write_type-place.ensures.written;
      ends = omega (arith, length_more ts i x c.loop-ty-test.true c.ty-item.is, c.loop-ty.invariant.ends, c.write_type-place.ensures.ends);
    }

pub write_type-write_byte-place-requires : goal.write_type-write_byte-place-requires
write_type-write_byte-place-requires g t c =
    let space = rw c.in-Array.is at c.requires.space in
    record { space = omega (arith, space, length-Array c.in-Array.element) }

pub write_type-write_type-requires : goal.write_type-write_type-requires
write_type-write_type-requires g t c κs within =
    let is = c.in-Array.is in
    let measure = rw is at c.decreases in
    let space = rw is at c.requires.space in
    (rw (c.deref.ensures, ← measure) (search (rules, the_lemmas)), (within, rw c.deref.ensures (omega (arith, space, length-Array c.in-Array.element))))

pub write_type-returns-in-Array-clause-ends : goal.write_type-returns-in-Array-clause-ends
write_type-returns-in-Array-clause-ends g t c =
    let held = rw c.deref.ensures at c.write_type.ensures.ends in
    rw c.in-Array.is (omega (arith, held, length-Array c.in-Array.element))

pub write_type-write_byte-place-requires-in-Struct : goal.write_type-write_byte-place-requires-in-Struct
write_type-write_byte-place-requires-in-Struct g t c =
    let space = rw c.in-Struct.is at c.requires.space in
    record { space = omega (arith, space, length-Struct c.in-Struct.fields) }

pub write_type-write_types-place-requires : goal.write_type-write_types-place-requires
write_type-write_types-place-requires g t c κs within =
    let is = c.in-Struct.is in
    let measure = rw is at c.decreases in
    let space = rw is at c.requires.space in
    let there = c.deref-in-Struct-2.ensures.value in
    (rw (there, c.deref-in-Struct.ensures, ← measure) (search (rules, the_lemmas)), (within, rw (there, c.deref-in-Struct.ensures) (omega (arith, space, length-Struct c.in-Struct.fields))))

pub write_type-write_byte-requires : goal.write_type-write_byte-requires
write_type-write_byte-requires g t c =
    let space = rw c.in-Struct.is at c.requires.space in
    let fields = rw (c.deref-in-Struct-2.ensures.value, c.deref-in-Struct.ensures) at c.write_types-place.ensures.ends in
    record { space = omega (arith, space, fields, length-Struct c.in-Struct.fields) }

pub write_type-returns-in-Struct-clause-ends : goal.write_type-returns-in-Struct-clause-ends
write_type-returns-in-Struct-clause-ends g t c =
    let fields = rw (c.deref-in-Struct-2.ensures.value, c.deref-in-Struct.ensures) at c.write_types-place.ensures.ends in
    rw c.in-Struct.is (omega (arith, fields, length-Struct c.in-Struct.fields))

pub write_type-write_byte-place-requires-in-Entry : goal.write_type-write_byte-place-requires-in-Entry
write_type-write_byte-place-requires-in-Entry g t c =
    let space = rw c.in-Entry.is at c.requires.space in
    record { space = omega (arith, space, length-Entry c.in-Entry.key c.in-Entry.value) }

pub write_type-write_type-place-requires : goal.write_type-write_type-place-requires
write_type-write_type-place-requires g t c κs within =
    let is = c.in-Entry.is in
    let measure = rw is at c.decreases in
    let space = rw is at c.requires.space in
    (rw (c.deref-in-Entry.ensures, ← measure) (search (rules, the_lemmas)), (within, rw c.deref-in-Entry.ensures (omega (arith, space, length-Entry c.in-Entry.key c.in-Entry.value))))

pub write_type-write_type-place-requires-in-Entry : goal.write_type-write_type-place-requires-in-Entry
write_type-write_type-place-requires-in-Entry g t c κs within =
    let is = c.in-Entry.is in
    let measure = rw is at c.decreases in
    let space = rw is at c.requires.space in
    let key = rw c.deref-in-Entry.ensures at c.write_type-place.ensures.ends in
    (rw (c.deref-in-Entry-2.ensures, ← measure) (search (rules, the_lemmas)), (within, rw c.deref-in-Entry-2.ensures (omega (arith, space, key, length-Entry c.in-Entry.key c.in-Entry.value))))

pub write_type-write_byte-requires-in-Entry : goal.write_type-write_byte-requires-in-Entry
write_type-write_byte-requires-in-Entry g t c =
    let space = rw c.in-Entry.is at c.requires.space in
    let key = rw c.deref-in-Entry.ensures at c.write_type-place.ensures.ends in
    let held = rw c.deref-in-Entry-2.ensures at c.write_type-place-in-Entry.ensures.ends in
    record { space = omega (arith, space, key, held, length-Entry c.in-Entry.key c.in-Entry.value) }

pub write_type-returns-in-Entry-clause-ends : goal.write_type-returns-in-Entry-clause-ends
write_type-returns-in-Entry-clause-ends g t c =
    let key = rw c.deref-in-Entry.ensures at c.write_type-place.ensures.ends in
    let held = rw c.deref-in-Entry-2.ensures at c.write_type-place-in-Entry.ensures.ends in
    rw c.in-Entry.is (omega (arith, key, held, length-Entry c.in-Entry.key c.in-Entry.value))
