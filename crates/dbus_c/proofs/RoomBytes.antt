-- What bytes leave in a room that it gains one by one.
use Rattle.std.proofs.Common.{ℕ, ◌+◌, ◌<◌, List, [], ◌∷◌, length, take, get_or, sym, subst}
use Rattle.std.proofs.lemmas.List.{take_more}
use Rattle.dbus_room.specs.RoomLaws.{joins}
use Rattle.dbus_room.specs.Rooms.{Gains}
use Rattle.dbus_room.specs.declared.room.Room.{Room}

-- one more byte of some, of which the first are there already
pub one_more : {a b c : Room} (bs : List ℕ) (i : ℕ) → i < length bs → Gains a (take i bs) b
    → Gains b (get_or bs i 0 ∷ []) c → Gains a (take (i + 1) bs) c
one_more {a} {b} {c} bs i more first last =
    subst (λ t. Gains a t c) (sym (take_more bs i 0 more)) (joins a b c (take i bs) (get_or bs i 0 ∷ []) first last)
