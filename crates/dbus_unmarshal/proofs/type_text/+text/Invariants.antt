use Rattle.std.proofs.Common.{◌≡◌, ◌++◌, drop}
use Rattle.dbus_texts.specs.Types.{sigs}
use Rattle.dbus_types.specs.SigTypes.{type_trees_of}
use Rattle.dbus_unmarshal.proofs.type_text.+text.Given as goal

abbrev pub invariant-put_types-loop-ty : goal.invariant-put_types-loop-ty
invariant-put_types-loop-ty g l = l.out.items ++ sigs (type_trees_of (drop l.ty-index l.types)) ≡ l.fn.out.items ++ sigs (type_trees_of l.types)
