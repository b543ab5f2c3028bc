-- What a draft makes with the next serial.
use Rattle.std.proofs.Common.{◌≡◌, ◌∙◌, ℕ, Option, Some, None, Ok, option_map, refl, sym, ap, subst, Global}
use Rattle.dbus_message_model.specs.Messages.{MessageTree}
use Rattle.dbus_message_model.specs.MessageViews.{message_tree}
use Rattle.dbus_message_model.specs.declared.message.Message.{Message}
use Rattle.dbus_compose.specs.Drafts.{Draft, IsComposed, draft_tree, with_serial}
use Rattle.dbus_calls.specs.Events.{destination_of}
use Rattle.dbus_pending.specs.declared.pending.Pending.{Pending}
use Rattle.dbus_connection.specs.Sending.{IsNextOf, IsNextSerial}

module _ {T : Type 0} (before : Pending T) where
  pub made : (d : Option (Draft Global)) (serial : ℕ) (m : Message Global)
      → IsNextSerial before serial → IsComposed (option_map (with_serial serial) d) (Ok m)
      → IsNextOf before d (message_tree m)
  made None serial m next is = absurd is
  made (Some d) serial m next is =
      let n : (message_tree m).serial ≡ serial = ap (λ (t : MessageTree). t.serial) is in
      record {
        next = subst (IsNextSerial before) (sym n) next;
        draft = d;
        drafted = refl;
        message = is ∙ ap (λ (s : ℕ). draft_tree (with_serial s d)) (sym n);
      }

  -- the draft says whom it is for
  pub goes_to : (d : Option (Draft Global)) (m : MessageTree) (e : Draft Global)
      → IsNextOf before d m → d ≡ Some e → destination_of m ≡ destination_of (draft_tree e)
  goes_to d m e is same =
      let draft : is.draft ≡ e = cc (is.drafted, same) in
      ap destination_of is.message ∙ ap (λ (x : Draft Global). destination_of (draft_tree x)) draft
