use Rattle.std.proofs.Common.{sym, ap, ◌∙◌}
use Rattle.dbus_value_model.specs.Values.{types_of, value_trees}
use Rattle.dbus_unmarshal.proofs.Gathering.{all_gathered}
use Rattle.dbus_unmarshal.proofs.values.build_values.Goals as goal

pub spelled_types-requires : goal.spelled_types-requires
spelled_types-requires g c = (types_of c.requires.stand.0, sym c.requires.stand.2.text)

pub fields_of-requires : goal.fields_of-requires
fields_of-requires g c =
    let s = c.requires.stand.2 in
    let w = (c.in_ok-walk_values.ensures.walked c.requires.stand.0 c.requires.stand.1 s).0 in
    (c.requires.stand.0, w.0, all_gathered c.walk_values.new.gathered w.0 c.in_ok-new.field-0 c.in_ok-types.types c.in_ok-list.list c.args.spot.now.depth_left c.in_ok-new.ensures.ok c.in_ok-list.ensures.items c.in_ok-types.ensures s.text s.formed w.1 w.2)

pub returns-clause-built : goal.returns-clause-built
returns-clause-built g c = λ vs rest s.
    let w = (c.in_ok-walk_values.ensures.walked vs rest s).0 in
    ap value_trees (c.fields_of.ensures vs w.0 (all_gathered c.walk_values.new.gathered w.0 c.in_ok-new.field-0 c.in_ok-types.types c.in_ok-list.list c.args.spot.now.depth_left c.in_ok-new.ensures.ok c.in_ok-list.ensures.items c.in_ok-types.ensures s.text s.formed w.1 w.2)).trees ∙ sym w.1

pub returns-clause-packed : goal.returns-clause-packed
returns-clause-packed g c =
    let s = c.requires.stand.2 in
    let w = (c.in_ok-walk_values.ensures.walked c.requires.stand.0 c.requires.stand.1 s).0 in
    (c.fields_of.ensures c.requires.stand.0 w.0 (all_gathered c.walk_values.new.gathered w.0 c.in_ok-new.field-0 c.in_ok-types.types c.in_ok-list.list c.args.spot.now.depth_left c.in_ok-new.ensures.ok c.in_ok-list.ensures.items c.in_ok-types.ensures s.text s.formed w.1 w.2)).packed
