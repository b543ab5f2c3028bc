use Rattle.std.proofs.Common.{◌<◌, ◌≤◌, List, length, ap, ◌∙◌, rules}
use Rattle.dbus_message_model.specs.PartsViews.{field_tree, field_trees}
use Rattle.dbus_message_model.specs.declared.header_field.HeaderField.{HeaderField}
use Rattle.dbus_compose.specs.Drafts.{put}
use Rattle.dbus_compose.proofs.FieldPlaces.{put_here, put_before, put_last}
use Rattle.dbus_compose.proofs.parts.put_field.Goals as goal

pub returns-then-field-code : goal.returns-then-field-code
returns-then-field-code g c =
    let there : c.loop-i.i < length c.loop-i.fields.items = search rules in
    put_here c.loop-i.fields.items c.args.field c.loop-i.i c.index.result.now there c.index.ensures c.loop-i.invariant.from c.if-field-code.true
    ∙ ap (λ (fs : List (HeaderField g.row.A.Denot)). put (field_tree c.args.field) (field_trees fs)) c.loop-i.invariant.same

pub returns-then-field-code-2 : goal.returns-then-field-code-2
returns-then-field-code-2 g c =
    let there : c.loop-i.i < length c.loop-i.fields.items = search rules in
    ap field_trees c.in_ok-insert.ensures.items
    ∙ put_before c.loop-i.fields.items c.args.field c.loop-i.i c.index.result.now there c.index.ensures c.loop-i.invariant.from c.if-field-code-2.true
    ∙ ap (λ (fs : List (HeaderField g.row.A.Denot)). put (field_tree c.args.field) (field_trees fs)) c.loop-i.invariant.same

pub returns : goal.returns
returns g c =
    let past : length c.loop-i.fields.items ≤ c.loop-i.i = search rules in
    ap field_trees c.in_ok-push.ensures.items
    ∙ put_last c.loop-i.fields.items c.args.field c.loop-i.i past c.loop-i.invariant.from
    ∙ ap (λ (fs : List (HeaderField g.row.A.Denot)). put (field_tree c.args.field) (field_trees fs)) c.loop-i.invariant.same
