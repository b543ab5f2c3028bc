use Rattle.std.proofs.Common.{arith, ap, sym, ◌∙◌, ◌≡◌, ◌&&◌, not, Bool, true, false, refl}
use Rattle.std.specs.BTreeSet.{contains_text}
use Rattle.std.specs.Str.{bytes_eq}
use Rattle.std.proofs.lemmas.Map.Text.{text_keys}
use Rattle.dbus_rule_set.proofs.GroupedTexts.{all_gone}
use Rattle.dbus_rule_set.proofs.OwnerSets.{contains_left, held, same_owners}
use Rattle.dbus_rule_set.specs.Owners.{without_unique}
use Rattle.dbus_rule_set.specs.Groups.{has, owners_by}
use Rattle.dbus_rule_set.proofs.owners.Owners.forget.Goals as goal

turned : (a b : Bool) → (not a && b) ≡ (b && not a)
turned true true = refl
turned true false = refl
turned false true = refl
turned false false = refl

pub invariant_of-self : goal.invariant_of-self
invariant_of-self c =
    let unique = c.args.unique.now in
    let before = c.self.inside.by_unique in
    record {
      ordered = c.leave_each.ensures.ordered c.self.invariant.ordered;
      converse = λ n u.
          let went : has c.remove.new.self u n ≡ (not (bytes_eq unique u) && has before u n) = grind (arith, text_keys) in
          let had : contains_text c.in-Some.names n ≡ has before unique n = grind (arith, text_keys) in
          c.leave_each.ensures.left n u
          ∙ (ap (λ b. not (contains_text c.in-Some.names n && bytes_eq unique u) && b) (c.self.invariant.converse n u)
          ∙ (all_gone (has before) unique u n (contains_text c.in-Some.names n) had ∙ sym went));
    }

pub returns-in-Some : goal.returns-in-Some
returns-in-Some c = rw (← c.self.view_is) (
    let unique = c.args.unique.now in
    let owners = c.self.inside.by_name in
    let before = c.self.inside.by_unique in
    same_owners c.leave_each.new.groups (c.leave_each.ensures.ordered c.self.invariant.ordered) (without_unique unique (owners_by owners))
    (λ n u.
    let had : contains_text c.in-Some.names n ≡ has before unique n = grind (arith, text_keys) in
    c.leave_each.ensures.left n u
    ∙ (ap (λ b. not (contains_text c.in-Some.names n && bytes_eq unique u) && b) (c.self.invariant.converse n u)
    ∙ (all_gone (has before) unique u n (contains_text c.in-Some.names n) had
    ∙ (ap (λ b. not (bytes_eq unique u) && b) (sym (c.self.invariant.converse n u) ∙ sym (held owners c.self.invariant.ordered n u))
    ∙ (turned (bytes_eq unique u) _ ∙ sym (contains_left (owners_by owners) unique n u)))))))

pub returns-in_default : goal.returns-in_default
returns-in_default c = rw (← c.self.view_is) (
    let unique = c.args.unique.now in
    let owners = c.self.inside.by_name in
    same_owners owners c.self.invariant.ordered (without_unique unique (owners_by owners))
    (λ n u. let left = contains_left (owners_by owners) unique n u in let is = held owners c.self.invariant.ordered n u in let both = c.self.invariant.converse n u in grind (arith, text_keys)))
