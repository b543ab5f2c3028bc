use Rattle.std.proofs.Common.{◌≡◌, ◌≤◌, true}
use Rattle.dbus_texts.specs.Types.{TypeTree, IsShaped, sig}
use Rattle.dbus_explain.specs.Places.{Pass}
use Rattle.dbus_explain.proofs.search.Search.after_values.Given as goal

abbrev pub invariant-loop-count : goal.invariant-loop-count
invariant-loop-count l = record {
  within : l.place ≤ l.self.at;
  passed : (t : TypeTree) → sig t ≡ l.fn.first.types.now → IsShaped true t → Pass l.self.bytes.now l.self.at t l.count l.fn.first.place l.place;
}
