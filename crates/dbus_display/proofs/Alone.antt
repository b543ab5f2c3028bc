-- The first of the values that are left stands alone.
use Rattle.std.proofs.Common.{ℕ, List, take, subst}
use Rattle.dbus_texts.specs.Types.{AreShaped}
use Rattle.dbus_value_model.specs.Values.{ValueTrees, NoValues, MoreValues, types_of}
use Rattle.dbus_walk.specs.Standing.{AllStand}
use Rattle.dbus_values.specs.States.{ValuesState, AreLeft}
use Rattle.dbus_values.proofs.Views.{FirstValue, one_left}

pub first_left : {s : ValuesState} {xs : ValueTrees} {rest : List ℕ} {end : ℕ} → AreLeft s xs rest → (f : FirstValue s xs rest end)
    → (after : List ℕ) × AllStand s.order s.depth_left (take end s.types) s.at s.bytes (MoreValues f.x NoValues) after
first_left l f = (_, one_left f.stands (subst (λ (us : ValueTrees). AreShaped (types_of us)) f.begins l.shaped).0)
