use Rattle.std.proofs.Common.{◌≡◌, ℕ, List, Option, Some, sym, ap, subst, ◌∙◌}
use Rattle.dbus_value_model.specs.Values.{ValueTree}
use Rattle.dbus_message_model.specs.KnownFields.{field_value, IsTextOf}
use Rattle.dbus_message_model.specs.Messages.{MessageTree, want}
use Rattle.dbus_view.proofs.KnownFields.{text_there, no_text}
use Rattle.dbus_view.proofs.Whole.{same}
use Rattle.dbus_view.proofs.view.MessageView.text.Goals as goal

pub returns-in_err-place : goal.returns-in_err-place
returns-in_err-place c = λ order m w.
    let v = c.self.inside in
    let both = same v.limits v.bytes.now v.validated c.self.invariant c.args.self.now c.self.view_is order m w in
    let none = no_text v.limits v.bytes.now v.validated c.self.invariant c.args.code c.requires (sym c.in_err-place.was ∙ c.get.ensures) in
    rw c.from_residual.ensures (ap (λ (u : MessageTree). field_value c.args.code u.fields) (sym both.1) ∙ none)

pub text_in-requires-clause-inside : goal.text_in-requires-clause-inside
text_in-requires-clause-inside c =
    let v = c.self.inside in
    (text_there v.limits v.bytes.now v.validated c.self.invariant c.args.code c.requires c.in_ok-place.place (sym c.in_ok-place.was ∙ c.get.ensures)).inside

pub text_in-requires-clause-utf8 : goal.text_in-requires-clause-utf8
text_in-requires-clause-utf8 c =
    let v = c.self.inside in
    (text_there v.limits v.bytes.now v.validated c.self.invariant c.args.code c.requires c.in_ok-place.place (sym c.in_ok-place.was ∙ c.get.ensures)).utf8

pub returns : goal.returns
returns c = λ order m w.
    let v = c.self.inside in
    let both = same v.limits v.bytes.now v.validated c.self.invariant c.args.self.now c.self.view_is order m w in
    let there = text_there v.limits v.bytes.now v.validated c.self.invariant c.args.code c.requires c.in_ok-place.place (sym c.in_ok-place.was ∙ c.get.ensures) in
    let value : Some there.value ≡ field_value c.args.code m.fields = sym there.is ∙ ap (λ (u : MessageTree). field_value c.args.code u.fields) both.1 in
    subst (λ (x : Option ValueTree). IsTextOf (want c.args.code) x c.text_in.result.now) value
    (subst (λ (t : List ℕ). IsTextOf (want c.args.code) (Some there.value) t) (sym c.text_in.ensures) there.text)
