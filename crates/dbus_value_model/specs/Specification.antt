-- Which limits there are, those of the specification, and what values keep under limits. D-Bus
-- Specification, "Message Format", "Marshaling (Wire Format)", "Valid Signatures", "Header Fields".
use Rattle.std.specs.Prelude.{◌≡◌, ◌⊎◌, ℕ, ◌<◌, Option, Some, None}
use Rattle.std.proofs.Math.Nat.{le_refl}
use Rattle.dbus_value_model.specs.declared.fd_rule.FdRule.{FdRule}
use Rattle.dbus_value_model.specs.declared.fd_rule.FdRule.TheVariants.{Any}
use Rattle.dbus_value_model.specs.declared.limits.Limits.{Limits}
use Rattle.dbus_value_model.specs.declared.limits.TheConstants.{MESSAGE_LIMIT, ARRAY_LIMIT, DEPTH_LIMIT}

-- the limits that are asked for, under which any index of a descriptor stands, or nothing where one
-- of them is over that of the specification
abbrev pub IsLimits : ℕ → ℕ → ℕ → Option Limits → Type 0
IsLimits message array depth None = (MESSAGE_LIMIT < message) ⊎ ((ARRAY_LIMIT < array) ⊎ (DEPTH_LIMIT < depth))
IsLimits message array depth (Some limits) = (limits.message ≡ message) × (limits.array ≡ array) × (limits.depth ≡ depth) × (limits.fds ≡ Any)

-- the limits of the specification
abbrev pub specification : Limits
specification = record { message = MESSAGE_LIMIT; array = ARRAY_LIMIT; depth = DEPTH_LIMIT; fds = Any; message_in = le_refl MESSAGE_LIMIT; array_in = le_refl ARRAY_LIMIT; depth_in = le_refl DEPTH_LIMIT }

-- limits that have another rule on the indexes of descriptors
abbrev pub with_fds : Limits → FdRule → Limits
with_fds limits rule = record { message = limits.message; array = limits.array; depth = limits.depth; fds = rule; message_in = limits.message_in; array_in = limits.array_in; depth_in = limits.depth_in }
