use Rattle.std.proofs.Common.{◌≡◌, ◌+◌, ◌∷◌, List, length, drop, refl, sym, ap, ◌∙◌, arith}
use Rattle.std.proofs.lemmas.List.{drop_more, at_drop_all}
use Rattle.json.specs.Json.{Json, Items, Members}
use Rattle.json.specs.Tree.{json_tokens, items_tokens, members_tokens}
use Rattle.json.specs.Value.{value_view, items_view, members_view}
use Rattle.json.specs.declared.value.Value.{Value}
use Rattle.dbus_json_reader.specs.JsonFaults.{counted}
use Rattle.dbus_json_reader.proofs.Shapes.{array_seen, object_seen}
use Rattle.dbus_json_reader.proofs.TokenCounts.{counted_sum, item_step, member_step, Key}
use Rattle.dbus_json_reader.proofs.tokens.+tokens.Goals as goal

pub tokens_in-returns-in-Array : goal.tokens_in-returns-in-Array
tokens_in-returns-in-Array g t c =
    let l = c.as_slice.result.now in
    let seen = array_seen c.args.value.now c.in-Array.items l c.in-Array.is c.as_slice.ensures.value in
    counted_sum _ _ _ (length (items_tokens (items_view l))) 1 c.saturating_add.ensures c.tokens_in_items.ensures refl
    ∙ ap counted (omega (arith, ap (λ (j : Json). length (json_tokens j)) seen))

pub tokens_in-returns-in-Object : goal.tokens_in-returns-in-Object
tokens_in-returns-in-Object g t c =
    let l = c.as_slice-in-Object.result.now in
    let seen = object_seen c.args.value.now c.in-Object.members l c.in-Object.is c.as_slice-in-Object.ensures.value in
    counted_sum _ _ _ (length (members_tokens (members_view l))) 1 c.saturating_add-in-Object.ensures c.tokens_in_members.ensures refl
    ∙ ap counted (omega (arith, ap (λ (j : Json). length (json_tokens j)) seen))

pub tokens_in_items-loop-item-preserved : goal.tokens_in_items-loop-item-preserved
tokens_in_items-loop-item-preserved g t c =
    let l = c.loop-item in
    let xs = c.args.items.now in
    let x = c.item-item.result in
    let here : drop l.item-index xs ≡ x ∷ drop (l.item-index + 1) xs = drop_more xs l.item-index x c.loop-item-test.true ∙ ap (λ y. y ∷ drop (l.item-index + 1) xs) (sym c.item-item.is) in
    let step = ap (λ (ys : List (Value g.row.A.Denot)). length (items_tokens (items_view ys))) here ∙ item_step x (drop (l.item-index + 1) xs) in
    let more = length (json_tokens (value_view x)) in
    let before = l.invariant in
    (before.0 + more, counted_sum _ _ _ before.0 more c.saturating_add-tokens.ensures before.1 c.tokens_in.ensures, omega (arith, before.2, step))

pub tokens_in_items-returns : goal.tokens_in_items-returns
tokens_in_items-returns g t c =
    let l = c.loop-item in
    let before = l.invariant in
    let none : length (items_tokens (items_view (drop l.item-index c.args.items.now))) ≡ 1 = ap (λ (js : Items). length (items_tokens js)) (at_drop_all items_view c.args.items.now l.item-index c.loop-item-test.false) in
    before.1 ∙ ap counted (omega (arith, before.2, none))

pub tokens_in_members-loop-member-preserved : goal.tokens_in_members-loop-member-preserved
tokens_in_members-loop-member-preserved g t c =
    let l = c.loop-member in
    let xs = c.args.members.now in
    let x = c.member-item.result in
    let here : drop l.member-index xs ≡ x ∷ drop (l.member-index + 1) xs = drop_more xs l.member-index x c.loop-member-test.true ∙ ap (λ y. y ∷ drop (l.member-index + 1) xs) (sym c.member-item.is) in
    let step = ap (λ (ys : List (Key × Value g.row.A.Denot)). length (members_tokens (members_view ys))) here ∙ member_step x (drop (l.member-index + 1) xs) in
    let more = length (json_tokens (value_view x.1)) in
    let before = l.invariant in
    let value = counted_sum _ _ _ before.0 more c.saturating_add.ensures before.1 c.tokens_in.ensures in
    (before.0 + more + 1, counted_sum _ _ _ (before.0 + more) 1 c.saturating_add-tokens.ensures value refl, omega (arith, before.2, step))

pub tokens_in_members-returns : goal.tokens_in_members-returns
tokens_in_members-returns g t c =
    let l = c.loop-member in
    let before = l.invariant in
    let none : length (members_tokens (members_view (drop l.member-index c.args.members.now))) ≡ 1 =
    ap (λ (ms : Members). length (members_tokens ms)) (at_drop_all members_view c.args.members.now l.member-index c.loop-member-test.false) in
    before.1 ∙ ap counted (omega (arith, before.2, none))

pub tokens_in_items-loop-item-init : goal.tokens_in_items-loop-item-init
tokens_in_items-loop-item-init g t c = (1, refl, omega arith)

pub tokens_in_members-loop-member-init : goal.tokens_in_members-loop-member-init
tokens_in_members-loop-member-init g t c = (1, refl, omega arith)
