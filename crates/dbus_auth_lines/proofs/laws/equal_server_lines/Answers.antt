use Rattle.dbus_auth_lines.proofs.SameLines.{server_lines_equal}
use Rattle.dbus_auth_lines.proofs.laws.equal_server_lines.Goals as goal

pub returns : goal.returns
returns g c =
    let e = c.eq.ensures in
    rw e (server_lines_equal g.row.A g.A.Allocator g.A.Allocator-dict g.A.Destruct-dict c.args.a.now c.args.b.now)
