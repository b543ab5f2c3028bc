use Rattle.std.proofs.Common.{◌≡◌, ◌+◌, ℕ, suc, length, drop}
use Rattle.json.specs.Tree.{items_tokens, members_tokens}
use Rattle.json.specs.Value.{items_view, members_view}
use Rattle.dbus_json_reader.specs.JsonFaults.{counted}
use Rattle.dbus_json_reader.proofs.tokens.+tokens.Given as goal

abbrev pub invariant-tokens_in_items-loop-item : goal.invariant-tokens_in_items-loop-item
invariant-tokens_in_items-loop-item g l =
    (n : ℕ) × (l.tokens ≡ counted n) × (n + length (items_tokens (items_view (drop l.item-index l.items))) ≡ suc (length (items_tokens (items_view l.items))))

abbrev pub invariant-tokens_in_members-loop-member : goal.invariant-tokens_in_members-loop-member
invariant-tokens_in_members-loop-member g l =
    (n : ℕ) × (l.tokens ≡ counted n)
    × (n + length (members_tokens (members_view (drop l.member-index l.members))) ≡ suc (length (members_tokens (members_view l.members))))
