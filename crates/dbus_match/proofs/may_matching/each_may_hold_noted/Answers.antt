use Rattle.dbus_match.proofs.may_matching.each_may_hold_noted.Goals as goal

pub returns : goal.returns
returns g c = λ order m v. c.each_may_hold.ensures m (order, v)
