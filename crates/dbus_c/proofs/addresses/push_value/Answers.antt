use Rattle.std.proofs.Common.{rules, ◌≡◌, List, ℕ, [], ◌∷◌, ◌++◌, subst, sym, ap, ◌∙◌, append_assoc}
use Rattle.dbus_address.specs.Views.{bytes_of}
use Rattle.dbus_c.proofs.addresses.push_value.Goals as goal
use Rattle.dbus_room.specs.RoomLaws.{nothing, joins}
use Rattle.dbus_room.specs.Rooms.{Gains}

pub loop-b-init : goal.loop-b-init
loop-b-init c = record { so_far = nothing c.args.room.now; left = search rules }

pub loop-b-preserved : goal.loop-b-preserved
loop-b-preserved c =
    let done = c.loop-b.yielded in
    let rest = bytes_of c.next.new.self in
    let steps : bytes_of c.loop-b.b-iterator ≡ c.in-Some.b ∷ rest = search rules in
    record {
      so_far = joins c.args.room.now c.loop-b.room c.push_byte.new.room done (c.in-Some.b ∷ []) c.loop-b.invariant.so_far c.push_byte.ensures;
      left = c.loop-b.invariant.left ∙ (ap (λ (t : List ℕ). done ++ t) steps ∙ sym (append_assoc done (c.in-Some.b ∷ []) rest));
    }

pub returns : goal.returns
returns c = subst (λ (t : List ℕ). Gains c.args.room.now t c.loop-b.room) (search rules) c.loop-b.invariant.so_far
