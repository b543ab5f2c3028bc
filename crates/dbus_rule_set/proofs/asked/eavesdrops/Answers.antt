use Rattle.std.proofs.Common.{◌≡◌, ◌∙◌, ◌||◌, Bool, List, [], ◌∷◌, map, refl, ap}
use Rattle.std.specs.List.{list_any}
use Rattle.dbus_rule.specs.Rules.{Pair, condition_pair}
use Rattle.dbus_rule_set.specs.Eavesdropping.{is_eavesdrop}
use Rattle.dbus_rule_set.proofs.asked.eavesdrops.Goals as goal

any_mapped : {X Y : Type 0} (p : Y → Bool) (f : X → Y) (xs : List X) → list_any (λ x. p (f x)) xs ≡ list_any p (map f xs)
any_mapped p f [] = refl
any_mapped p f (x ∷ xs) = ap (λ b. p (f x) || b) (any_mapped p f xs)

pub returns : goal.returns
returns g c =
    c.any_eavesdrop.ensures ∙ (any_mapped (λ (p : Pair). is_eavesdrop p.key p.value) condition_pair c.conditions.result.now ∙ ap (λ cs. list_any (λ (p : Pair). is_eavesdrop p.key p.value) (map condition_pair cs)) c.conditions.ensures)
