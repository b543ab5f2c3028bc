use Rattle.std.proofs.Common.{◌≡◌, ◌+◌, drop, length}
use Rattle.dbus_texts.specs.Types.{sigs}
use Rattle.dbus_value_model.specs.Values.{types_of}
use Rattle.dbus_value_model.specs.ValueViews.{value_trees_of}
use Rattle.dbus_marshal.proofs.signatures.+signature_length.Given as goal

abbrev pub invariant-signatures_length-loop-value : goal.invariant-signatures_length-loop-value
invariant-signatures_length-loop-value g l =
    l.len + length (sigs (types_of (value_trees_of (drop l.value-index l.values)))) ≡ length (sigs (types_of (value_trees_of l.values)))
