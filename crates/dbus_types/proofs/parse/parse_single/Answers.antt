use Rattle.std.proofs.Common.{sym, ap, subst, arith, length}
use Rattle.dbus_texts.specs.Kinds.{IsSingle}
use Rattle.dbus_types.proofs.Parsing.{single_type}
use Rattle.dbus_types.proofs.parse.parse_single.Goals as goal

pub returns : goal.returns
returns g c =
    let e = c.in_ok-spelled_type.ensures in
    let h = c.in_ok-check_single.ensures in
    (single_type _ (subst IsSingle (sym e) h.0) (omega (arith, h.1, ap length e)), e)
