-- What a text that was written leaves in the caller's bytes, and what is answered.
use Rattle.std.proofs.Common.{◌≡◌, ℕ, List, Bool, true, false, refl, sym, ap, ◌∙◌, arith, if◌then◌else◌}
use Rattle.dbus_page.specs.Written.{IsWritten}
use Rattle.dbus_page.specs.declared.answers.TheConstants.{WHOLE, NO_ROOM}
use Rattle.dbus_room.proofs.Ending.{all, filled, long}
use Rattle.dbus_room.specs.Rooms.{Begins, Gains}
use Rattle.dbus_room.specs.declared.room.Room.{Room}

not_false : (b : Bool) → (b ≡ false → ⊥) → b ≡ true
not_false true h = refl
not_false false h = absurd (h refl)

module _ (old text : List ℕ) (before after : Room) (begins : Begins old before) (gains : Gains before text after) where
  pub ended : (new : List ℕ) (count answer : ℕ) → after.bytes.now ≡ new → count ≡ after.len → answer ≡ (if after.is_cut then NO_ROOM else WHOLE) → IsWritten text old new count answer
  ended new count answer new_is count_is answer_is = record {
    written = sym new_is ∙ filled old text before after begins gains;
    counted = count_is ∙ long old text before after begins gains;
    whole = λ fits. answer_is ∙ ap (λ (b : Bool). if b then NO_ROOM else WHOLE) ((all old text before after begins gains).1 fits);
    cut = λ few. answer_is ∙ ap (λ (b : Bool). if b then NO_ROOM else WHOLE) (not_false after.is_cut (λ e. absurd (omega (arith, (all old text before after begins gains).0 e, few))));
  }
