use Rattle.std.proofs.Common.{refl}
use Rattle.std.proofs.lemmas.Bool.{false≢true}
use Rattle.dbus_build.proofs.within.keeps_arrays.Goals as goal

pub returns-in-Some : goal.returns-in-Some
returns-in-Some g c = (λ e. c.in-Some.ensures.0, λ kept. refl)

pub returns-in-None : goal.returns-in-None
returns-in-None g c = (λ e. absurd (false≢true e), λ kept. absurd (c.in-None.ensures kept))
