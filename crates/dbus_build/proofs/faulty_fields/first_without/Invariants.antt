use Rattle.std.proofs.Common.{ℕ, Option, drop}
use Rattle.dbus_build.specs.BuildFaults.{IsFirstWithout, Keeps}
use Rattle.dbus_build.proofs.faulty_fields.first_without.Given as goal

abbrev pub invariant-loop-field : goal.invariant-loop-field
invariant-loop-field g l =
    (r : Option ℕ) → IsFirstWithout (Keeps l.rule) (λ n f. f.code) l.field-index (drop l.field-index l.fields) r
    → IsFirstWithout (Keeps l.rule) (λ n f. f.code) 0 l.fields r
