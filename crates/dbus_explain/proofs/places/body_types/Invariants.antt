use Rattle.std.proofs.Common.{◌<◌, ◌≤◌, ℕ, List}
use Rattle.dbus_explain.specs.Places.{IsSignatureField, Pass, field_type}
use Rattle.dbus_explain.proofs.places.body_types.Given as goal

abbrev pub invariant-loop : goal.invariant-loop
invariant-loop l = (l.place ≤ l.search.at) × Pass l.search.bytes.now l.search.at field_type l.counter 16 l.place
    × ((m q : ℕ) (w : List ℕ) → m < l.counter → Pass l.search.bytes.now l.search.at field_type m 16 q → IsSignatureField l.search.bytes.now l.search.at q w → ⊥)
