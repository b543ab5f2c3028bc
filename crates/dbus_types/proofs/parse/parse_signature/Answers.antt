use Rattle.std.proofs.Common.{sym, ap, subst, arith, length}
use Rattle.dbus_texts.specs.Kinds.{IsSignature}
use Rattle.dbus_types.proofs.Parsing.{spelled_types}
use Rattle.dbus_types.proofs.parse.parse_signature.Goals as goal

pub returns : goal.returns
returns g c =
    let e = c.in_ok-spelled_types.ensures in
    let h = c.in_ok-check_signature.ensures in
    (spelled_types _ (subst IsSignature (sym e) h.0) (omega (arith, h.1, ap length e)), e)
