use Rattle.std.proofs.Common.{◌∙◌, arith}
use Rattle.dbus_walk.proofs.FieldParts.{none_walked, next_field, field_walked, all_walked}
use Rattle.dbus_swap.proofs.ByteswappedFields.{FieldsByteswapped, field_byteswaps, fields_opened, field_byteswapped, all_fields_byteswapped}
use Rattle.dbus_swap.proofs.fields.byteswap_fields.Goals as goal

pub byteswap_4-requires : goal.byteswap_4-requires
byteswap_4-requires c =
    let there = c.requires.stand in
    omega (arith, (c.fields_end-end.ensures c.args.depth_left there.0 there.1 there.2).stand.inside, c.requires.as_long)

pub loop-place-init : goal.loop-place-init
loop-place-init c = record {
  as_long = omega (arith, c.byteswap_4.auto.out, c.requires.as_long);
  byteswapped = λ fs rest s. none_walked c.args.source.now c.args.depth_left 16 c.fields_end-end.result fs rest (FieldsByteswapped c.args.source.now.order fs c.args.out.now c.byteswap_4.new.out 16)
      (c.fields_end-end.ensures c.args.depth_left fs rest s) (fields_opened c.args.source.now.order fs c.args.out.now c.byteswap_4.new.out c.byteswap_4.ensures);
}

pub field_at-field-requires : goal.field_at-field-requires
field_at-field-requires c =
    let there = c.requires.stand in
    let n = next_field (c.loop-place.invariant.byteswapped there.0 there.1 there.2) c.loop-place-test.true in
    record { stands = (n.f, n.after, n.stands) }

pub lengths_of-requires : goal.lengths_of-requires
lengths_of-requires c =
    let there = c.requires.stand in
    let n = next_field (c.loop-place.invariant.byteswapped there.0 there.1 there.2) c.loop-place-test.true in
    record { few = (c.field_at-field.ensures n.f n.after n.stands).few }

pub byteswap_value-place-requires-clause-stands : goal.byteswap_value-place-requires-clause-stands
byteswap_value-place-requires-clause-stands c =
    let there = c.requires.stand in
    let n = next_field (c.loop-place.invariant.byteswapped there.0 there.1 there.2) c.loop-place-test.true in
    (n.f.value, n.after, (c.field_at-field.ensures n.f n.after n.stands).value)

pub loop-place-smaller : goal.loop-place-smaller
loop-place-smaller c =
    let there = c.requires.stand in
    let n = next_field (c.loop-place.invariant.byteswapped there.0 there.1 there.2) c.loop-place-test.true in
    let p = c.field_at-field.ensures n.f n.after n.stands in
    omega (arith, (c.byteswap_value-place.ensures.byteswapped n.f.value n.after p.value).1, p.ends, n.some, c.loop-place-test.true)

pub loop-place-preserved : goal.loop-place-preserved
loop-place-preserved c = record {
  as_long = omega (arith, c.byteswap_value-place.auto.out, c.loop-place.invariant.as_long);
  byteswapped = λ fs rest s.
      let order = c.args.source.now.order in
      let place = c.loop-place.place in
      let w = c.loop-place.invariant.byteswapped fs rest s in
      let n = next_field w c.loop-place-test.true in
      let p = c.field_at-field.ensures n.f n.after n.stands in
      let one = c.byteswap_value-place.ensures.byteswapped n.f.value n.after p.value in
      let next = c.byteswap_value-place.new.out in
      let after = c.byteswap_value-place.result in
      field_walked w (FieldsByteswapped order fs c.args.out.now next after) n after (one.1 ∙ p.ends)
      (field_byteswapped order fs c.args.out.now c.loop-place.out place after w.done n.f next w.walked (one.1 ∙ p.ends) (field_byteswaps order place c.field_at-field.result.at n.f c.loop-place.out next p.begins one.0));
}

pub returns : goal.returns
returns c = record {
  byteswapped = λ fs rest s.
      all_fields_byteswapped c.args.source.now.order fs c.args.out.now c.loop-place.out c.loop-place.place (all_walked (c.loop-place.invariant.byteswapped fs rest s) c.loop-place-test.false);
}
