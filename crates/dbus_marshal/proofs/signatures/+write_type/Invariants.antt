use Rattle.std.proofs.Common.{◌≡◌, ◌+◌, ◌++◌, drop, length, take}
use Rattle.dbus_texts.specs.Types.{sigs}
use Rattle.dbus_types.specs.SigTypes.{type_trees_of}
use Rattle.dbus_marshal.proofs.signatures.+write_type.Given as goal

abbrev pub invariant-write_types-loop-ty : goal.invariant-write_types-loop-ty
invariant-write_types-loop-ty g l = record {
  joined : take l.place l.out ++ sigs (type_trees_of (drop l.ty-index l.types)) ≡ take l.at l.fn.out ++ sigs (type_trees_of l.types);
  ends : l.place + length (sigs (type_trees_of (drop l.ty-index l.types))) ≡ l.at + length (sigs (type_trees_of l.types));
}
