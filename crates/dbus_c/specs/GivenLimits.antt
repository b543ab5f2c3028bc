-- The limits that numbers stand for. D-Bus Specification, "Message Format", "Marshaling (Wire
-- Format)", "Valid Signatures", "Header Fields".
use Rattle.std.specs.Prelude.{ℕ, min, nat_eq, if◌then◌else◌}
use Rattle.std.proofs.Math.Nat.{min-le_right}
use Rattle.dbus_value_model.specs.declared.fd_rule.FdRule.{FdRule}
use Rattle.dbus_value_model.specs.declared.fd_rule.FdRule.TheVariants.{Any, BelowCount}
use Rattle.dbus_value_model.specs.declared.limits.Limits.{Limits}
use Rattle.dbus_value_model.specs.declared.limits.TheConstants.{MESSAGE_LIMIT, ARRAY_LIMIT, DEPTH_LIMIT}
use Rattle.dbus_c.specs.declared.given_limits.TheConstants.{ANY_INDEX}
use Rattle.dbus_c.specs.declared.given_limits.WireLimits.{WireLimits}

-- the rule on indexes of descriptors that a number stands for
abbrev pub rule_of : ℕ → FdRule
rule_of number = if nat_eq number ANY_INDEX then Any else BelowCount

-- the specification's, as numbers
abbrev pub specification_given : WireLimits
specification_given = record { message = MESSAGE_LIMIT; array = ARRAY_LIMIT; depth = DEPTH_LIMIT; fds = ANY_INDEX }

-- the limits that the numbers stand for: one that is over the specification's stands for the
-- specification's
abbrev pub limits_of : WireLimits → Limits
limits_of given = record {
  message = min given.message MESSAGE_LIMIT;
  array = min given.array ARRAY_LIMIT;
  depth = min given.depth DEPTH_LIMIT;
  fds = rule_of given.fds;
  message_in = min-le_right given.message MESSAGE_LIMIT;
  array_in = min-le_right given.array ARRAY_LIMIT;
  depth_in = min-le_right given.depth DEPTH_LIMIT;
}
