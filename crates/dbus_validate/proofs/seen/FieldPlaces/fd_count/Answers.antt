use Rattle.std.proofs.Common.{sym, ap, ◌∙◌}
use Rattle.dbus_validate.proofs.SeenSteps.{number_at, count_there}
use Rattle.dbus_validate.proofs.seen.FieldPlaces.fd_count.Goals as goal

pub returns-in-Some : goal.returns-in-Some
returns-in-Some c = λ bytes fs noted. ap (number_at bytes) c.in-Some.ensures ∙ sym (count_there bytes fs c.args.self.now noted)

pub returns-in-None : goal.returns-in-None
returns-in-None c = λ bytes fs noted. ap (number_at bytes) c.in-None.ensures ∙ sym (count_there bytes fs c.args.self.now noted)
