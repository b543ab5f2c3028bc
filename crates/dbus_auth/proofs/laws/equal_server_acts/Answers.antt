use Rattle.dbus_auth.proofs.Steps.{server_acts_equal}
use Rattle.dbus_auth.proofs.laws.equal_server_acts.Goals as goal

pub returns : goal.returns
returns g c =
    let e = c.eq.ensures in
    rw e (server_acts_equal g.row.A g.A.Allocator g.A.Allocator-dict g.A.Destruct-dict c.args.a.now c.args.b.now)
