use Rattle.std.proofs.Common.{ℕ, Option, drop}
use Rattle.dbus_types.specs.SigTypes.{type_trees_of}
use Rattle.dbus_types.specs.Parses.{LeavesOfTypes}
use Rattle.dbus_types.proofs.shape.+text_left.Given as goal

abbrev pub invariant-texts_left-loop-ty : goal.invariant-texts_left-loop-ty
invariant-texts_left-loop-ty g l =
    (r : Option ℕ) → LeavesOfTypes (type_trees_of (drop l.ty-index l.types)) l.fn.arrays l.fn.structs l.left r → LeavesOfTypes (type_trees_of l.types) l.fn.arrays l.fn.structs l.fn.left r
