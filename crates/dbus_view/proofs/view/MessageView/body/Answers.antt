use Rattle.std.proofs.Common.{◌≡◌, [], sym, subst, ◌∙◌, arith}
use Rattle.dbus_values.specs.States.{ValuesState, AreLeft}
use Rattle.dbus_view.specs.Bodies.{all_values}
use Rattle.dbus_validate.proofs.WholeParts.{noted_there}
use Rattle.dbus_view.proofs.Numbered.{body_left, noted_all, some_left}
use Rattle.dbus_view.proofs.Whole.{as_viewed, views_one}
use Rattle.dbus_view.proofs.view.MessageView.body.Goals as goal

pub signature-types-requires : goal.signature-types-requires
signature-types-requires c =
    let v = c.self.inside in
    let h = c.self.invariant in
    record { noted = (h.validated.message.fields, noted_there v.limits v.bytes.now v.validated h.validated) }

pub new-requires : goal.new-requires
new-requires c =
    let v = c.self.inside in
    let h = c.self.invariant in
    some_left v.limits v.bytes.now v.validated h (omega (arith, v.limits.array_in)) c.signature-types.result.now (c.signature-types.ensures h.validated.message.fields (noted_there v.limits v.bytes.now v.validated h.validated))

pub returns-clause-all : goal.returns-clause-all
returns-clause-all c =
    let v = c.self.inside in
    let h = c.self.invariant in
    let all = noted_all v.limits v.bytes.now v.validated h (omega (arith, v.limits.array_in)) c.signature-types.result.now (c.signature-types.ensures h.validated.message.fields (noted_there v.limits v.bytes.now v.validated h.validated)) in
    as_viewed v.limits v.bytes.now v.validated h c.args.self.now c.self.view_is (λ u o t. c.new.result ≡ all_values u o t) (c.new.ensures ∙ all)

pub returns-clause-left : goal.returns-clause-left
returns-clause-left c =
    let v = c.self.inside in
    let h = c.self.invariant in
    let all = noted_all v.limits v.bytes.now v.validated h (omega (arith, v.limits.array_in)) c.signature-types.result.now (c.signature-types.ensures h.validated.message.fields (noted_there v.limits v.bytes.now v.validated h.validated)) in
    as_viewed v.limits v.bytes.now v.validated h c.args.self.now c.self.view_is (λ u o t. AreLeft c.new.result t.body [])
    (subst (λ (s : ValuesState). AreLeft s h.validated.message.body []) (sym (c.new.ensures ∙ all)) (body_left v.limits v.bytes.now v.validated h (omega (arith, v.limits.array_in))))

pub returns-clause-one : goal.returns-clause-one
returns-clause-one c = views_one c.self.inside.limits c.self.inside.bytes.now c.self.inside.validated c.self.invariant c.args.self.now c.self.view_is
