-- How many tokens items and members have, by the first of them.
use Rattle.std.proofs.Common.{◌≡◌, ◌+◌, ◌-◌, ◌^◌, ℕ, min, List, ◌∷◌, length, suc, ap, arith}
use Rattle.std.proofs.lemmas.List.{length-append}
use Rattle.std.specs.Borrow.{Bor}
use Rattle.json.specs.Tree.{json_tokens, items_tokens, members_tokens}
use Rattle.json.specs.Value.{value_view, items_view, members_view}
use Rattle.json.specs.declared.value.Value.{Value}
use Rattle.dbus_json_reader.specs.JsonFaults.{counted}

abbrev pub Key : Type 0
Key = Bor (List ℕ)

pub item_step : {A : Type 0} → (x : Value A) (xs : List (Value A)) → length (items_tokens (items_view (x ∷ xs))) ≡ length (json_tokens (value_view x)) + length (items_tokens (items_view xs))
item_step x xs = length-append (json_tokens (value_view x)) (items_tokens (items_view xs))

pub member_step : {A : Type 0} → (x : Key × Value A) (xs : List (Key × Value A)) → length (members_tokens (members_view (x ∷ xs))) ≡ suc (length (json_tokens (value_view x.1)) + length (members_tokens (members_view xs)))
member_step x xs = ap suc (length-append (json_tokens (value_view x.1)) (members_tokens (members_view xs)))

-- a sum that stays at the greatest number counts as the sum does
pub counted_sum : (sum x y a b : ℕ) → sum ≡ min (x + y) (2 ^ 64 - 1) → x ≡ counted a → y ≡ counted b → sum ≡ counted (a + b)
counted_sum sum x y a b is first second = omega (arith, is, first, second)
