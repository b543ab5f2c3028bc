use Rattle.std.proofs.Common.{◌∙◌}
use Rattle.dbus_types.specs.SigTypes.{type_tree}
use Rattle.dbus_value_model.specs.Values.{type_of}
use Rattle.dbus_unmarshal.proofs.Gathering.{one_gathered, same_type}
use Rattle.dbus_unmarshal.proofs.values.build_value.Goals as goal

pub held_value-requires : goal.held_value-requires
held_value-requires g c =
    let v = c.requires.stands.0 in
    let s = c.requires.stands.2 in
    let typed = c.in_ok-clone.ensures.cases ∙ same_type (type_tree c.args.wanted.now) (type_of v) c.args.spot.now.types.now c.requires.wanted s.text in
    (v, one_gathered c.walk_value.new.gathered v c.in_ok-clone.field-0 c.args.spot.now.depth_left s.formed typed (c.in_ok-after.ensures.walked v c.requires.stands.1 s).0)

pub returns-clause-built : goal.returns-clause-built
returns-clause-built g c = λ v rest s.
    let typed = c.in_ok-clone.ensures.cases ∙ same_type (type_tree c.args.wanted.now) (type_of v) c.args.spot.now.types.now c.requires.wanted s.text in
    let w = c.in_ok-after.ensures.walked v rest s in
    ((c.held_value.ensures v (one_gathered c.walk_value.new.gathered v c.in_ok-clone.field-0 c.args.spot.now.depth_left s.formed typed w.0)).tree, w.1)

pub returns-clause-packed : goal.returns-clause-packed
returns-clause-packed g c =
    let v = c.requires.stands.0 in
    let s = c.requires.stands.2 in
    let typed = c.in_ok-clone.ensures.cases ∙ same_type (type_tree c.args.wanted.now) (type_of v) c.args.spot.now.types.now c.requires.wanted s.text in
    (c.held_value.ensures v (one_gathered c.walk_value.new.gathered v c.in_ok-clone.field-0 c.args.spot.now.depth_left s.formed typed (c.in_ok-after.ensures.walked v c.requires.stands.1 s).0)).packed
