use Rattle.std.proofs.Common.{◌≡◌, ◌++◌, string_bytes, take}
use Rattle.dbus_types.specs.SigTypes.{type_trees_of}
use Rattle.dbus_texts.specs.Types.{sigs}
use Rattle.dbus_types.proofs.spell.+spell.Given as goal

abbrev pub invariant-push_types-loop-ty : goal.invariant-push_types-loop-ty
invariant-push_types-loop-ty g l = string_bytes l.out ≡ string_bytes l.fn.out ++ sigs (type_trees_of (take l.ty-index l.types))
