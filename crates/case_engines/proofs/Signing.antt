-- The types that a signature spells, as a checker wants them.
use Rattle.std.proofs.Common.{◌≡◌, ℕ, List, sym}
use Rattle.dbus_texts.specs.ComputedKinds.{types_spelled}
use Rattle.dbus_texts.specs.Kinds.{IsKind}
use Rattle.dbus_texts.specs.Types.{TypeTrees, sigs, AreShaped}
use Rattle.dbus_texts.specs.declared.text_kind.TextKind.TheVariants as kinds
use Rattle.dbus_value_laws.proofs.KindLaws.{signature_types}
use Rattle.dbus_value_model.specs.declared.limits.Bounds.{Bounds}
use Rattle.dbus_value_model.specs.declared.order.Order.{Order}
use Rattle.dbus_value_checker.specs.declared.values.ValueChecker.{ValueChecker}
use Rattle.dbus_value_checker.specs.Denotations.{Denotes}
use Rattle.dbus_value_checker.specs.Moves.{values_on}
use Rattle.dbus_value_checker.specs.Suspended.{On, done}
use Rattle.case_engines.specs.Checkers.{IsUnderWay}

-- a checker that began with them is under way
pub begun : (x : ValueChecker) (bounds : Bounds) (order : Order) (room end at : ℕ) (types : List ℕ) → IsKind kinds.Signature types
    → ((ts : TypeTrees) (last : On) → types ≡ sigs ts → AreShaped ts → Denotes x (values_on bounds order room end ts last at)) → IsUnderWay x
begun x bounds order room end at types kind begins =
    let w = signature_types types kind in
    (values_on bounds order room end w.0 done at, begins w.0 done w.1.0 w.1.1)
