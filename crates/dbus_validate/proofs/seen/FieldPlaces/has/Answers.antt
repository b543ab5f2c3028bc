use Rattle.std.proofs.Common.{◌≡◌, ◌&&◌, Bool, true, sym, ap, ◌∙◌}
use Rattle.std.specs.Option.{is_some}
use Rattle.dbus_message_model.specs.Messages.{is_known, has_code}
use Rattle.dbus_validate.proofs.SeenSteps.{has_noted}
use Rattle.dbus_validate.proofs.seen.FieldPlaces.has.Goals as goal

pub returns-then-is_known : goal.returns-then-is_known
returns-then-is_known c = λ bytes fs noted.
    let known : is_known c.args.code ≡ true = sym c.is_known.ensures ∙ c.if-is_known.true in
    c.is_some.ensures ∙ ap is_some c.get.ensures ∙ has_noted fs bytes c.args.self.now noted c.args.code known ∙ ap (λ (b : Bool). b && has_code c.args.code fs) (sym known)
