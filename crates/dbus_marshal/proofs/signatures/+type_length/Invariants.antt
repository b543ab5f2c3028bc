use Rattle.std.proofs.Common.{◌≡◌, ◌+◌, drop, length}
use Rattle.dbus_texts.specs.Types.{sigs}
use Rattle.dbus_types.specs.SigTypes.{type_trees_of}
use Rattle.dbus_marshal.proofs.signatures.+type_length.Given as goal

abbrev pub invariant-types_length-loop-ty : goal.invariant-types_length-loop-ty
invariant-types_length-loop-ty g l = l.len + length (sigs (type_trees_of (drop l.ty-index l.types))) ≡ length (sigs (type_trees_of l.types))
