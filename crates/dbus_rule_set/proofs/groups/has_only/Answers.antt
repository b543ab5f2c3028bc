use Rattle.std.proofs.Common.{◌≡◌, Bool, true, false, Some, length, refl, sym, ap, ◌∙◌, arith}
use Rattle.std.specs.Bool.{OnTrue}
use Rattle.std.specs.BTreeMap.{get_by_text}
use Rattle.std.specs.BTreeSet.{contains_text}
use Rattle.std.specs.Option.{option_map_or}
use Rattle.std.proofs.lemmas.Map.Text.{text_keys}
use Rattle.dbus_rule_set.proofs.GroupedTexts.{alone}
use Rattle.dbus_rule_set.proofs.groups.has_only.Goals as goal

on_true : {P : Type 0} (b : Bool) → (b ≡ true → P) → OnTrue b P
on_true true f = f refl
on_true false f = tt

pub returns-then-len-eq1 : goal.returns-then-len-eq1
returns-then-len-eq1 c = on_true c.contains.result (λ yes u.
    let group = c.in-Some.group.now in
    let found : get_by_text c.args.groups.now c.args.first.now ≡ Some group = grind (arith, text_keys) in
    let one : length group.keys ≡ 1 = grind arith in
    ap (λ o. option_map_or (λ group. contains_text group u) o false) found ∙ alone group c.args.second.now one (sym c.contains.ensures ∙ yes) u)
