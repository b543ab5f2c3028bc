use Rattle.std.proofs.Common.{◌≡◌, [], ◌∷◌, ◌++◌, arith, refl, ap, ◌∙◌}
use Rattle.std.proofs.lemmas.List.{map_push}
use Rattle.dbus_value_model.proofs.Formed.{keep_push}
use Rattle.dbus_message_model.specs.PackedParts.{field_values}
use Rattle.dbus_message_model.specs.PartsViews.{field_tree, field_trees}
use Rattle.dbus_walk.proofs.FieldParts.{none_walked, next_field, field_walked, all_walked}
use Rattle.dbus_decode.proofs.building.build_fields.Goals as goal

pub overflow_sub-end : goal.overflow_sub-end
overflow_sub-end g c =
    let there = c.requires.stand in
    omega (arith, (c.fields_end-end.ensures c.args.depth_left there.0 there.1 there.2).stand.ends)

pub loop-place-init : goal.loop-place-init
loop-place-init g c = record {
  packed = rw c.in_ok-fields.ensures.items refl;
  built = λ fs rest s. none_walked c.args.source.now c.args.depth_left 16 c.fields_end-end.result fs rest (λ done. field_trees c.in_ok-fields.fields.items ≡ done) (c.fields_end-end.ensures c.args.depth_left fs rest s) (ap field_trees c.in_ok-fields.ensures.items);
}

pub build_field-requires : goal.build_field-requires
build_field-requires g c =
    let there = c.requires.stand in
    let n = next_field (c.loop-place.invariant.built there.0 there.1 there.2) c.loop-place-test.true in
    record { stands = (n.f, n.after, n.stands) }

pub loop-place-smaller : goal.loop-place-smaller
loop-place-smaller g c =
    let there = c.requires.stand in
    let n = next_field (c.loop-place.invariant.built there.0 there.1 there.2) c.loop-place-test.true in
    omega (arith, (c.in_ok-field.ensures.built n.f n.after n.stands).1, n.some, c.loop-place-test.true)

pub loop-place-preserved : goal.loop-place-preserved
loop-place-preserved g c =
    let done = c.loop-place.fields.items in
    let field = c.in_ok-field.field in
    let pushed : c.push.new.self.items ≡ done ++ field ∷ [] = c.in_ok-push.ensures.items in
    let views = ap field_trees pushed ∙ map_push field_tree done field in
    let values = ap field_values pushed ∙ map_push (λ f. f.value) done field in
    record {
      packed = keep_push (field_values done) field.value _ values c.loop-place.invariant.packed c.in_ok-field.ensures.packed;
      built = λ fs rest s.
          let w = c.loop-place.invariant.built fs rest s in
          let n = next_field w c.loop-place-test.true in
          let one = c.in_ok-field.ensures.built n.f n.after n.stands in
          field_walked w (λ u. field_trees c.push.new.self.items ≡ u) n c.in_ok-field.after one.1
          (views ∙ ap (λ u. u ++ field_tree field ∷ []) w.walked ∙ ap (λ f. w.done ++ f ∷ []) one.0);
    }

pub returns-clause-built : goal.returns-clause-built
returns-clause-built g c = λ fs rest s. all_walked (c.loop-place.invariant.built fs rest s) c.loop-place-test.false
