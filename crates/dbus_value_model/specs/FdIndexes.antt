-- Trusted by the headline.
-- Indexes of file descriptors, and the values whose indexes are all below a number.
-- D-Bus Specification, "Basic types" for UNIX_FD, "Header Fields" for UNIX_FDS.
use Rattle.std.specs.Prelude.{ℕ, ◌<◌, Option, Some, None, IfSome}
use Rattle.dbus_texts.specs.Types.{NumberCode, UNIX_FD}
use Rattle.dbus_value_model.specs.Values.{ValueTree, ValueTrees, NumberValue, TextValue, VariantValue, ArrayValue, StructValue, EntryValue, NoValues, MoreValues}
use Rattle.dbus_value_model.specs.declared.fd_rule.FdRule.{FdRule}
use Rattle.dbus_value_model.specs.declared.fd_rule.FdRule.TheVariants.{Any, BelowCount}

-- the number that indexes are to be below where so many descriptors come with a message, or nothing
-- where any index may stand
abbrev pub index_limit : FdRule → ℕ → Option ℕ
index_limit Any count = None
index_limit BelowCount count = Some count

-- of numbers a UNIX_FD alone is an index
abbrev pub IsIndexBelow : Option ℕ → NumberCode → ℕ → Type 0
IsIndexBelow fds UNIX_FD n = IfSome fds (λ limit. n < limit)
IsIndexBelow fds k n = Unit {0}

-- every index anywhere in a value is below the number fds, where there is one
abbrev mutual
  pub AreIndexesBelow : Option ℕ → ValueTree → Type 0
  AreIndexesBelow fds (NumberValue k n) = IsIndexBelow fds k n
  AreIndexesBelow fds (TextValue k t) = Unit {0}
  AreIndexesBelow fds (VariantValue x) = AreIndexesBelow fds x
  AreIndexesBelow fds (ArrayValue t xs) = AreAllBelow fds xs
  AreIndexesBelow fds (StructValue xs) = AreAllBelow fds xs
  AreIndexesBelow fds (EntryValue k v) = AreIndexesBelow fds k × AreIndexesBelow fds v

  pub AreAllBelow : Option ℕ → ValueTrees → Type 0
  AreAllBelow fds NoValues = Unit {0}
  AreAllBelow fds (MoreValues x xs) = AreIndexesBelow fds x × AreAllBelow fds xs
