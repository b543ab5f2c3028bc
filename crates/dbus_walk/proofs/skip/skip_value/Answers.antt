use Rattle.dbus_walk.proofs.skip.skip_value.Goals as goal

pub returns : goal.returns
returns c = λ v rest s. (c.in-Ok.ensures.walked v rest s).1
