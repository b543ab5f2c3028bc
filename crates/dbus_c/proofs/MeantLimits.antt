-- The limits that the specification's numbers stand for.
use Rattle.std.proofs.Common.{◌≡◌, ◌≤◌, ap, ◌∙◌}
use Rattle.std.proofs.Math.Bridge.{le_prop}
use Rattle.std.proofs.Math.Nat.{min-le_right, le_refl}
use Rattle.dbus_value_model.specs.Specification.{specification}
use Rattle.dbus_value_model.specs.declared.fd_rule.FdRule.TheVariants.{Any}
use Rattle.dbus_value_model.specs.declared.limits.Limits.{Limits}
use Rattle.dbus_value_model.specs.declared.limits.TheConstants.{MESSAGE_LIMIT, ARRAY_LIMIT, DEPTH_LIMIT}
use Rattle.dbus_c.specs.GivenLimits.{limits_of, specification_given}

abbrev bounded : MESSAGE_LIMIT ≤ MESSAGE_LIMIT → ARRAY_LIMIT ≤ ARRAY_LIMIT → DEPTH_LIMIT ≤ DEPTH_LIMIT → Limits
bounded message array depth = record { message = MESSAGE_LIMIT; array = ARRAY_LIMIT; depth = DEPTH_LIMIT; fds = Any; message_in = message; array_in = array; depth_in = depth }

pub specification_meant : limits_of specification_given ≡ specification
specification_meant =
    let message = min-le_right MESSAGE_LIMIT MESSAGE_LIMIT in
    let array = min-le_right ARRAY_LIMIT ARRAY_LIMIT in
    let depth = min-le_right DEPTH_LIMIT DEPTH_LIMIT in
    ap (λ (h : MESSAGE_LIMIT ≤ MESSAGE_LIMIT). bounded h array depth) (le_prop message (le_refl MESSAGE_LIMIT))
    ∙ ap (λ (h : ARRAY_LIMIT ≤ ARRAY_LIMIT). bounded (le_refl MESSAGE_LIMIT) h depth) (le_prop array (le_refl ARRAY_LIMIT))
    ∙ ap (λ (h : DEPTH_LIMIT ≤ DEPTH_LIMIT). bounded (le_refl MESSAGE_LIMIT) (le_refl ARRAY_LIMIT) h) (le_prop depth (le_refl DEPTH_LIMIT))
