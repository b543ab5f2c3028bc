-- What a text that was written, and a 0 after it, leave in the caller's bytes, and what is answered.
use Rattle.std.proofs.Common.{◌≡◌, ℕ, ◌+◌, List, [], ◌∷◌, ◌++◌, Bool, true, false, length, take, drop, refl, sym, ap, ◌∙◌, arith, length-append, if◌then◌else◌}
use Rattle.dbus_c.specs.Written.{IsWritten}
use Rattle.dbus_c.specs.declared.answers.TheConstants.{WHOLE, NO_ROOM}
use Rattle.dbus_room.proofs.Ending.{all, filled}
use Rattle.dbus_room.specs.RoomLaws.{joins}
use Rattle.dbus_room.specs.Rooms.{Begins, Gains}
use Rattle.dbus_room.specs.declared.room.Room.{Room}

not_false : (b : Bool) → (b ≡ false → ⊥) → b ≡ true
not_false true h = refl
not_false false h = absurd (h refl)

module _ (old text : List ℕ) (a b c : Room) (begins : Begins old a) (gains : Gains a text b) (zero_behind : Gains b (0 ∷ []) c) where
  with_zero : Gains a (text ++ 0 ∷ []) c
  with_zero = joins a b c text (0 ∷ []) gains zero_behind

  long : length (text ++ 0 ∷ []) ≡ length text + 1
  long = length-append text (0 ∷ [])

  pub ended : (new : List ℕ) (answer : ℕ) → c.bytes.now ≡ new → answer ≡ (if c.is_cut then NO_ROOM else WHOLE) → IsWritten text old new answer
  ended new answer new_is answer_is =
      let whole = all old (text ++ 0 ∷ []) a c begins with_zero in
      record {
        written = sym new_is ∙ filled old (text ++ 0 ∷ []) a c begins with_zero ∙ ap (λ (n : ℕ). take (length old) (text ++ 0 ∷ []) ++ drop n old) long;
        whole = λ fits. answer_is ∙ ap (λ (x : Bool). if x then NO_ROOM else WHOLE) (whole.1 (omega (arith, fits, long)));
        cut = λ few. answer_is ∙ ap (λ (x : Bool). if x then NO_ROOM else WHOLE) (not_false c.is_cut (λ e. absurd (omega (arith, whole.0 e, few, long))));
      }
