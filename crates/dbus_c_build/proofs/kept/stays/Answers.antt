use Rattle.std.proofs.Common.{nat_eq, sym, ap, ◌∙◌}
use Rattle.dbus_c_build.specs.Drafts.{stays}
use Rattle.dbus_c_build.proofs.kept.stays.Goals as goal

pub returns-then-code-eq-UNIX_FDS : goal.returns-then-code-eq-UNIX_FDS
returns-then-code-eq-UNIX_FDS c = λ bytes fs noted.
    ap (nat_eq c.args.parts.now.unix_fds) (c.fd_count.ensures bytes fs noted) ∙ ap (stays c.args.parts.now fs) (sym c.if-code-eq-UNIX_FDS.true)
