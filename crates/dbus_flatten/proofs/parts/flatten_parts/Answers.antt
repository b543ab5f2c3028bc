use Rattle.std.proofs.Common.{◌≡◌, ◌∙◌, ℕ, ◌<◌, ◌^◌, List, ◌++◌, arith, rules, sym, subst, refl}
use Rattle.dbus_message_model.specs.Messages.{field_struct}
use Rattle.dbus_value_model.specs.Values.{ValueTrees, value_trees}
use Rattle.dbus_walk.proofs.FieldParts.{all_walked, field_walked, next_field, none_walked}
use Rattle.dbus_flatten.specs.declared.flat_item.FlatItem.{FlatItem}
use Rattle.dbus_flatten.specs.FlattenerLaws.{then_gained}
use Rattle.dbus_flatten.specs.Flattening.{AreOver, flat_fields, flats}
use Rattle.dbus_flatten.proofs.FieldsThere.{FieldsFlat, no_fields_flat, one_more_flat}
use Rattle.dbus_flatten.proofs.FlatThere.{count_of, row_of}
use Rattle.dbus_flatten.proofs.parts.flatten_parts.Goals as goal

pub loop-at-init : goal.loop-at-init
loop-at-init c = λ fs rest s. none_walked _ c.args.depth_left 16 c.args.end fs rest _ s (no_fields_flat c.args.source.now.order _)

pub walk_value-requires-clause-stands : goal.walk_value-requires-clause-stands
walk_value-requires-clause-stands c =
    let h = c.requires.fields in
    let n = next_field (c.loop-at.invariant h.0 h.1 h.2) c.loop-at-test.true in
    (field_struct n.f, n.after, n.stands.stands)

pub loop-at-smaller : goal.loop-at-smaller
loop-at-smaller c =
    let h = c.requires.fields in
    let n = next_field (c.loop-at.invariant h.0 h.1 h.2) c.loop-at-test.true in
    let w = c.in-Ok.ensures.walked (field_struct n.f) n.after n.stands.stands in
    omega (arith, w.1, n.some, c.loop-at-test.true)

pub loop-at-preserved : goal.loop-at-preserved
loop-at-preserved c = λ fs rest s.
    let l = c.loop-at.invariant fs rest s in
    let n = next_field l c.loop-at-test.true in
    let w = c.in-Ok.ensures.walked (field_struct n.f) n.after n.stands.stands in
    let order = c.args.source.now.order in
    field_walked l (FieldsFlat order _ c.walk_value.new.visitor c.in-Ok.after) n c.in-Ok.after w.1
    (one_more_flat order _ _ c.walk_value.new.visitor c.loop-at.at c.in-Ok.after _ l.done n.f l.walked w.0 w.1)

pub returns : goal.returns
returns c = record {
  flat = λ fs rest vs after s b.
      let order = c.args.source.now.order in
      let at = c.args.body.now.at in
      let fields = all_walked (c.loop-at.invariant fs rest s) c.loop-at-test.false in
      let w = (c.in-Ok-walk_values.ensures.walked vs after b).0 in
      let begun = fields.gained.gained in
      let items = flat_fields order fs ++ flats order at (value_trees w.0) in
      let both = then_gained _ _ _ (flat_fields order fs) (flats order at (value_trees w.0)) begun w.2.gained in
      let word : c.total.result < 2 ^ 64 = c.total.type_inv in
      let fits : c.walk_values.new.visitor.count < 2 ^ 64 = omega (arith, word, c.total.ensures) in
      let row = row_of items _ _ both refl fits in
      let out = c.walk_values.new.visitor.out.now in
      let back : c.walk_values.new.visitor.out.now ≡ _ = search rules in
      let told = subst (λ (us : ValueTrees). AreOver (flat_fields order fs ++ flats order at us) c.args.first c.args.out.now out c.walk_values.new.visitor.count) (sym w.1) row in
      record {
        fields = c.total-fields.ensures ∙ count_of (flat_fields order fs) _ _ begun refl (let few : c.total-fields.result < 2 ^ 64 = c.total-fields.type_inv in omega (arith, few, c.total-fields.ensures));
        all = subst (λ (l : List FlatItem). AreOver (flat_fields order fs ++ flats order at vs) c.args.first c.args.out.now l c.total.result) back
            (subst (λ (k : ℕ). AreOver (flat_fields order fs ++ flats order at vs) c.args.first c.args.out.now out k) (sym c.total.ensures) told);
      };
}
