use Rattle.std.proofs.Common.{◌≡◌, ℕ, List, sym, ap, subst, ◌∙◌, arith}
use Rattle.std.specs.List.{flat_map}
use Rattle.std.proofs.lemmas.List.{length-take}
use Rattle.dbus_value_model.specs.declared.order.Order.{Order}
use Rattle.dbus_value_model.specs.SizeLimits.{with_value}
use Rattle.dbus_message_model.specs.Messages.{FieldTree, field_struct}
use Rattle.dbus_marshal.proofs.Written.{written_none}
use Rattle.dbus_validate.proofs.WholeParts.{inside}
use Rattle.dbus_walk.proofs.FieldParts.{none_walked, next_field, field_walked, all_walked}
use Rattle.dbus_c_build.specs.Drafts.{field_given, in_place, stays}
use Rattle.dbus_c_build.specs.Building.{with_fields}
use Rattle.dbus_c_build.proofs.SameFields.{is_kept, kept_there, none_kept, noted}
use Rattle.dbus_c_build.proofs.Spelling.{fields_next, given_in_place, same_in_place}
use Rattle.dbus_c_build.proofs.kept.append_kept.Goals as goal

pub returns-in-None-clause-appended : goal.returns-in-None-clause-appended
returns-in-None-clause-appended g c = λ fs kept.
    let order = c.args.parts.now.order in
    let front = c.args.out.now.items in
    let none = none_kept c.args.given.now order fs kept c.in-None.is in
    let P : List FieldTree → Type 0 = λ gs. front ≡ with_fields order (flat_map (in_place c.args.parts.now gs) gs) front in
    subst P (sym none) (sym (written_none order front))

pub slice_bounds-source-end : goal.slice_bounds-source-end
slice_bounds-source-end g c =
    let r = c.requires.kept in
    let k = is_kept c.args.given.now c.args.parts.now.order r.0 r.1 c.in-Some.kept c.in-Some.is in
    omega (arith, inside _ _ _ k.first, length-take c.in-Some.kept.length c.args.given.now.bytes.now)

pub fields_end-end-requires : goal.fields_end-end-requires
fields_end-end-requires g c =
    let r = c.requires.kept in
    let there = kept_there _ _ _ _ _ (is_kept c.args.given.now c.args.parts.now.order r.0 r.1 c.in-Some.kept c.in-Some.is) in
    record { stand = (c.args.given.now.limits.depth, r.0, there.0, there.1) }

pub loop-place-init : goal.loop-place-init
loop-place-init g c = λ fs rest k s.
    let order = c.args.parts.now.order in
    let front = c.args.out.now.items in
    none_walked _ c.args.given.now.limits.depth 16 c.fields_end-end.result fs rest
    (λ done. front ≡ with_fields order (flat_map (in_place c.args.parts.now fs) done) front)
    (c.fields_end-end.ensures c.args.given.now.limits.depth fs rest s) (sym (written_none order front))

pub field_at-field-requires : goal.field_at-field-requires
field_at-field-requires g c =
    let r = c.requires.kept in
    let k = is_kept c.args.given.now c.args.parts.now.order r.0 r.1 c.in-Some.kept c.in-Some.is in
    let there = kept_there _ _ _ _ _ k in
    let n = next_field (c.loop-place.invariant r.0 there.0 k there.1) c.loop-place-test.true in
    record { stands = (n.f, n.after, n.stands) }

pub lengths_of-requires : goal.lengths_of-requires
lengths_of-requires g c =
    let r = c.requires.kept in
    let k = is_kept c.args.given.now c.args.parts.now.order r.0 r.1 c.in-Some.kept c.in-Some.is in
    let there = kept_there _ _ _ _ _ k in
    let n = next_field (c.loop-place.invariant r.0 there.0 k there.1) c.loop-place-test.true in
    record { few = (c.field_at-field.ensures n.f n.after n.stands).few }

pub skip_value-place-requires-clause-stands : goal.skip_value-place-requires-clause-stands
skip_value-place-requires-clause-stands g c =
    let r = c.requires.kept in
    let k = is_kept c.args.given.now c.args.parts.now.order r.0 r.1 c.in-Some.kept c.in-Some.is in
    let there = kept_there _ _ _ _ _ k in
    let n = next_field (c.loop-place.invariant r.0 there.0 k there.1) c.loop-place-test.true in
    (n.f.value, n.after, (c.field_at-field.ensures n.f n.after n.stands).value)

pub append_same-requires : goal.append_same-requires
append_same-requires g c =
    let r = c.requires.kept in
    let k = is_kept c.args.given.now c.args.parts.now.order r.0 r.1 c.in-Some.kept c.in-Some.is in
    let there = kept_there _ _ _ _ _ k in
    let n = next_field (c.loop-place.invariant r.0 there.0 k there.1) c.loop-place-test.true in
    let p = c.field_at-field.ensures n.f n.after n.stands in
    record { stands = (c.args.given.now.limits.depth, n.f, n.after, n.stands, c.skip_value-place.ensures n.f.value n.after p.value ∙ p.ends) }

pub loop-place-smaller-in-Continue-1 : goal.loop-place-smaller-in-Continue-1
loop-place-smaller-in-Continue-1 g c =
    let r = c.requires.kept in
    let k = is_kept c.args.given.now c.args.parts.now.order r.0 r.1 c.in-Some.kept c.in-Some.is in
    let there = kept_there _ _ _ _ _ k in
    let n = next_field (c.loop-place.invariant r.0 there.0 k there.1) c.loop-place-test.true in
    let p = c.field_at-field.ensures n.f n.after n.stands in
    omega (arith, c.skip_value-place.ensures n.f.value n.after p.value ∙ p.ends, n.some, c.loop-place-test.true)

pub loop-place-smaller : goal.loop-place-smaller
loop-place-smaller g c =
    let r = c.requires.kept in
    let k = is_kept c.args.given.now c.args.parts.now.order r.0 r.1 c.in-Some.kept c.in-Some.is in
    let there = kept_there _ _ _ _ _ k in
    let n = next_field (c.loop-place.invariant r.0 there.0 k there.1) c.loop-place-test.true in
    let p = c.field_at-field.ensures n.f n.after n.stands in
    omega (arith, c.skip_value-place.ensures n.f.value n.after p.value ∙ p.ends, n.some, c.loop-place-test.true)

pub loop-place-preserved-in-Continue-1 : goal.loop-place-preserved-in-Continue-1
loop-place-preserved-in-Continue-1 g c = λ fs rest k s.
    let given = c.args.given.now in
    let parts = c.args.parts.now in
    let order = parts.order in
    let out = c.loop-place.out.items in
    let next = c.append_same.new.out.items in
    let w = c.loop-place.invariant fs rest k s in
    let n = next_field w c.loop-place-test.true in
    let p = c.field_at-field.ensures n.f n.after n.stands in
    let ended = c.skip_value-place.ensures n.f.value n.after p.value ∙ p.ends in
    let stay = ap (stays parts fs) p.code ∙ sym (c.stays.ensures _ fs (noted given.limits given.bytes.now order c.in-Some.kept fs k)) ∙ c.if-stays.true in
    let put = subst (λ (o : Order). next ≡ with_value o (field_struct n.f) out) k.order_is (c.in_ok-append_same.ensures given.limits.depth n.f n.after n.stands ended) in
    field_walked w (λ done. next ≡ with_fields order (flat_map (in_place parts fs) done) c.args.out.now.items) n c.skip_value-place.result ended
    (fields_next order (in_place parts fs) w.done n.f c.args.out.now.items out next w.walked (same_in_place order parts fs n.f out next stay put))

pub loop-place-preserved : goal.loop-place-preserved
loop-place-preserved g c = λ fs rest k s.
    let given = c.args.given.now in
    let parts = c.args.parts.now in
    let order = parts.order in
    let out = c.loop-place.out.items in
    let next = c.append_given.new.out.items in
    let w = c.loop-place.invariant fs rest k s in
    let n = next_field w c.loop-place-test.true in
    let p = c.field_at-field.ensures n.f n.after n.stands in
    let ended = c.skip_value-place.ensures n.f.value n.after p.value ∙ p.ends in
    let stay = ap (stays parts fs) p.code ∙ sym (c.stays.ensures _ fs (noted given.limits given.bytes.now order c.in-Some.kept fs k)) ∙ c.if-stays.false in
    let put = c.in_ok-append_given.ensures.appended ∙ ap (λ (code : ℕ). with_fields order (field_given parts code) out) (sym p.code) in
    field_walked w (λ done. next ≡ with_fields order (flat_map (in_place parts fs) done) c.args.out.now.items) n c.skip_value-place.result ended
    (fields_next order (in_place parts fs) w.done n.f c.args.out.now.items out next w.walked (given_in_place order parts fs n.f out next stay put))

pub returns-clause-appended : goal.returns-clause-appended
returns-clause-appended g c = λ fs kept.
    let k = is_kept c.args.given.now c.args.parts.now.order fs kept c.in-Some.kept c.in-Some.is in
    let there = kept_there _ _ _ _ _ k in
    all_walked (c.loop-place.invariant fs there.0 k there.1) c.loop-place-test.false
