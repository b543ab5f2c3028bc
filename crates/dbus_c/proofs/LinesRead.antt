-- A line that spells a message is read back.
use Rattle.std.proofs.Common.{◌≡◌, ◌⊎◌, ℕ, ◌<◌, ◌≤◌, List, ◌++◌, length, drop, inl, inr, subst}
use Rattle.std.proofs.lemmas.Bool.{cases_lt}
use Rattle.dbus_json.specs.declared.integers.Integers.TheVariants.{Exact}
use Rattle.dbus_json_lines.specs.JsonLines.{IsLineOf}
use Rattle.dbus_message_model.specs.Messages.{MessageTree, message_bytes}
use Rattle.dbus_value_model.specs.declared.limits.Limits.{Limits}
use Rattle.dbus_value_model.specs.declared.order.Order.{Order}
use Rattle.dbus_c.specs.Checking.{whole_told}
use Rattle.dbus_c.specs.LinesRead.{ReadsLine, no_room, written}
use Rattle.dbus_c.specs.declared.checking.Checked.{Checked}

module _ (limits : Limits) (serial : ℕ) (line : List ℕ) (answer : ℕ) (told : Checked) (old new : List ℕ) (order : Order) where
  read_if : (m : MessageTree) → IsLineOf Exact limits serial line order m → told ≡ whole_told order (length (message_bytes order m))
      → (length (message_bytes order m) ≤ length old → (answer ≡ 0) × (new ≡ message_bytes order m ++ drop (length (message_bytes order m)) old))
      → (length old < length (message_bytes order m) → (answer ≡ 4) × (new ≡ old))
      → ((length old < length (message_bytes order m)) ⊎ (length (message_bytes order m) ≤ length old)) → ReadsLine limits serial line answer told old new
  read_if m spelled is_told left few (inr room) = written order m spelled room (left room).0 is_told (left room).1
  read_if m spelled is_told left few (inl short) = no_room order m spelled short (few short).0 is_told (few short).1

  -- the bytes are those of its message, and are written if there is room
  pub message_read : (bytes : List ℕ) (m : MessageTree) → IsLineOf Exact limits serial line order m → bytes ≡ message_bytes order m → told ≡ whole_told order (length bytes)
      → (length bytes ≤ length old → (answer ≡ 0) × (new ≡ bytes ++ drop (length bytes) old)) → (length old < length bytes → (answer ≡ 4) × (new ≡ old))
      → ReadsLine limits serial line answer told old new
  message_read bytes m spelled is is_told left few =
      read_if m spelled
      (subst (λ (l : List ℕ). told ≡ whole_told order (length l)) is is_told)
      (subst (λ (l : List ℕ). length l ≤ length old → (answer ≡ 0) × (new ≡ l ++ drop (length l) old)) is left)
      (subst (λ (l : List ℕ). length old < length l → (answer ≡ 4) × (new ≡ old)) is few)
      (cases_lt (length old) (length (message_bytes order m)))
