use Rattle.std.proofs.Common.{◌≡◌, ◌≤◌, ◌+◌, length}
use Rattle.dbus_texts.specs.Types.{TypeTrees, AreShaped, sigs}
use Rattle.dbus_explain.specs.Places.{PassEach}
use Rattle.dbus_explain.proofs.search.Search.after_each.Given as goal

abbrev pub invariant-loop-number : goal.invariant-loop-number
invariant-loop-number l = record {
  within : l.left.place ≤ l.self.at;
  fewer : l.number + length l.left.types.now ≤ length l.fn.values.types.now;
  passed : (ts : TypeTrees) → sigs ts ≡ l.fn.values.types.now → AreShaped ts → (us : TypeTrees) × (sigs us ≡ l.left.types.now) × AreShaped us × PassEach l.self.bytes.now l.self.at l.number ts l.fn.values.place us l.left.place;
}
