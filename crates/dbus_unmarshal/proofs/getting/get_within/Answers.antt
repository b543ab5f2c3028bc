use Rattle.std.proofs.Common.{◌≡◌, ◌-◌, ◌++◌, ℕ, List, sym, ap, ◌∙◌}
use Rattle.dbus_texts.specs.Types.{sig}
use Rattle.dbus_types.specs.SigTypes.{type_tree}
use Rattle.dbus_value_model.specs.Bounds.{bounds_with}
use Rattle.dbus_value_model.specs.ValueViews.{value_tree}
use Rattle.dbus_unmarshal.proofs.Validating.{whole_there, stand_there, got}
use Rattle.dbus_unmarshal.proofs.getting.get_within.Goals as goal

pub build_value-requires-clause-stands : goal.build_value-requires-clause-stands
build_value-requires-clause-stands g c =
    let t = type_tree c.args.wanted.now in
    let text : c.as_slice-types.result.now ≡ sig t = c.as_slice-types.ensures.value ∙ c.put_type.ensures ∙ ap (λ (l : List ℕ). l ++ sig t) c.new-text.ensures in
    let depth_left = c.args.limits.depth - c.args.depth in
    let whole = whole_there c.bounds_with.result (bounds_with c.args.limits c.args.fds) c.args.order depth_left c.args.end t c.args.at c.args.bytes.now c.in-Ok-true.field-0 c.bounds_with.ensures c.in-Ok-true.field-0-test (c.in-Ok-true.ensures t c.requires.single text) in
    stand_there (bounds_with c.args.limits c.args.fds) c.args.order depth_left c.args.end t c.args.at c.args.bytes.now c.as_slice-types.result.now c.requires.single text whole

pub build_value-requires-clause-wanted : goal.build_value-requires-clause-wanted
build_value-requires-clause-wanted g c =
    let t = type_tree c.args.wanted.now in
    sym (c.as_slice-types.ensures.value ∙ c.put_type.ensures ∙ ap (λ (l : List ℕ). l ++ sig t) c.new-text.ensures)

pub returns-in-Ok-clause-gets : goal.returns-in-Ok-clause-gets
returns-in-Ok-clause-gets g c =
    let t = type_tree c.args.wanted.now in
    let text : c.as_slice-types.result.now ≡ sig t = c.as_slice-types.ensures.value ∙ c.put_type.ensures ∙ ap (λ (l : List ℕ). l ++ sig t) c.new-text.ensures in
    let depth_left = c.args.limits.depth - c.args.depth in
    let whole = whole_there c.bounds_with.result (bounds_with c.args.limits c.args.fds) c.args.order depth_left c.args.end t c.args.at c.args.bytes.now c.in-Ok-true.field-0 c.bounds_with.ensures c.in-Ok-true.field-0-test (c.in-Ok-true.ensures t c.requires.single text) in
    got (bounds_with c.args.limits c.args.fds) c.args.order depth_left c.args.end t c.args.at c.args.bytes.now c.as_slice-types.result.now c.requires.single text (value_tree c.in-Ok.value) c.in-Ok.next whole c.in-Ok.ensures.built
