use Rattle.std.proofs.Common.{arith}
use Rattle.dbus_view.specs.Views.{FieldsAreLeft}
use Rattle.dbus_view.proofs.Numbered.{fields_there}
use Rattle.dbus_view.proofs.Whole.{as_viewed, views_one}
use Rattle.dbus_view.proofs.view.MessageView.fields.Goals as goal

pub new-requires : goal.new-requires
new-requires c =
    let v = c.self.inside in
    let h = c.self.invariant in
    let there = fields_there v.limits v.bytes.now v.validated h (omega (arith, v.limits.array_in)) in
    (h.validated.message.fields, there.0, there.1)

pub returns-clause-left : goal.returns-clause-left
returns-clause-left c =
    let v = c.self.inside in
    let h = c.self.invariant in
    let there = fields_there v.limits v.bytes.now v.validated h (omega (arith, v.limits.array_in)) in
    as_viewed v.limits v.bytes.now v.validated h c.args.self.now c.self.view_is (λ u o t. FieldsAreLeft c.new.result t.fields) (c.new.ensures h.validated.message.fields there.0 there.1)

pub returns-clause-one : goal.returns-clause-one
returns-clause-one c = views_one c.self.inside.limits c.self.inside.bytes.now c.self.inside.validated c.self.invariant c.args.self.now c.self.view_is
