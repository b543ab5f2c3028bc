use Rattle.std.proofs.Common.{◌≡◌, ◌⊎◌, ◌+◌, inl, inr, ℕ, List, [], subst}
use Rattle.dbus_value_model.specs.declared.limits.Limits.{Limits}
use Rattle.dbus_header.specs.MessageOutcomes.{IsRefused, IsPartial}
use Rattle.dbus_check.specs.Checks.{Takes}
use Rattle.dbus_check.specs.declared.check.Check.{Check}
use Rattle.dbus_check.specs.declared.check.Check.TheVariants as check
use Rattle.dbus_header.specs.NoMessage.{BeginsWithNone}
use Rattle.dbus_check.proofs.fault.fault_of.Goals as goal

is_partial : (limits : Limits) (bytes : List ℕ) (answer : Check) → (answer ≡ check.Partial) ⊎ ((n : ℕ) × (answer ≡ check.Done n)) → Takes limits [] bytes answer → BeginsWithNone limits bytes → IsPartial limits bytes
is_partial limits bytes check.Partial either takes none = takes
is_partial limits bytes (check.Done n) either takes none = absurd (none takes.1 takes.2 (0 + n) takes.3)
is_partial limits bytes (check.Refused f) (inl e) takes none = absurd cc
is_partial limits bytes (check.Refused f) (inr d) takes none = let e = d.1 in absurd cc

pub returns-in-Refused : goal.returns-in-Refused
returns-in-Refused c = subst (λ (l : Limits). IsRefused l c.args.bytes.now c.in-Refused.fault) c.within.ensures.limits (c.in-Refused.ensures.answers [] c.within.ensures.stands)

pub returns-in-Partial : goal.returns-in-Partial
returns-in-Partial c =
    let takes = subst (λ (l : Limits). Takes l [] c.args.bytes.now c.take.result) c.within.ensures.limits (c.take.ensures.answers [] c.within.ensures.stands) in
    is_partial c.args.limits c.args.bytes.now c.take.result c.in-Partial.is takes c.requires
