use Rattle.std.proofs.Common.{[]}
use Rattle.dbus_c.proofs.flattening.spot_of.Goals as goal

pub returns-in-Fields-clause-stand : goal.returns-in-Fields-clause-stand
returns-in-Fields-clause-stand c = λ source m own whole. rw c.in-Fields.is (c.fields.ensures.stand source m own whole)

pub returns-in-Body-clause-stand : goal.returns-in-Body-clause-stand
returns-in-Body-clause-stand c = λ source m own whole. let t = c.body.ensures.stand source m own whole in rw c.in-Body.is ([], t)
