use Rattle.std.proofs.Common.{◌≡◌, ◌++◌, drop, string_bytes}
use Rattle.dbus_texts.specs.Types.{sigs}
use Rattle.dbus_value_model.specs.Values.{types_of}
use Rattle.dbus_value_model.specs.ValueViews.{value_trees_of}
use Rattle.dbus_compose.proofs.signature.types_text.Given as goal

abbrev pub invariant-loop-value : goal.invariant-loop-value
invariant-loop-value g l = string_bytes l.text ++ sigs (types_of (value_trees_of (drop l.value-index l.values))) ≡ sigs (types_of (value_trees_of l.values))
