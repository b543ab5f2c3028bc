use Rattle.dbus_build.proofs.building.first_index_past.Goals as goal

pub returns : goal.returns
returns g c = rw (c.index_limit-fds.ensures, c.fd_count.ensures, c.deref.ensures.value, c.deref-2.ensures.value) at c.first_past.ensures
