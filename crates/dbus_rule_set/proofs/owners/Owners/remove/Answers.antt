use Rattle.std.proofs.Common.{arith, ap, sym, ◌∙◌, ◌≡◌, ◌&&◌, not}
use Rattle.std.specs.BTreeSet.{contains_text}
use Rattle.std.specs.Str.{bytes_eq}
use Rattle.std.proofs.lemmas.Map.Text.{text_keys}
use Rattle.dbus_rule_set.proofs.GroupedTexts.{all_gone}
use Rattle.dbus_rule_set.proofs.OwnerSets.{contains_less, held, same_owners}
use Rattle.dbus_rule_set.specs.Owners.{without_owners}
use Rattle.dbus_rule_set.specs.Groups.{has, owners_by}
use Rattle.dbus_rule_set.proofs.owners.Owners.remove.Goals as goal

pub invariant_of-self : goal.invariant_of-self
invariant_of-self c =
    let name = c.args.name.now in
    let before = c.self.inside.by_name in
    record {
      ordered = c.remove.ensures.ordered;
      converse = λ n u.
          let went : has c.remove.new.self n u ≡ (not (bytes_eq name n) && has before n u) = grind (arith, text_keys) in
          let owned : contains_text c.in-Some.owners u ≡ has before name u = grind (arith, text_keys) in
          went
          ∙ (sym (all_gone (has before) name n u (contains_text c.in-Some.owners u) owned)
          ∙ (ap (λ b. not (contains_text c.in-Some.owners u && bytes_eq name n) && b) (c.self.invariant.converse n u) ∙ sym (c.leave_each.ensures.left u n)));
    }

pub returns-in-Some : goal.returns-in-Some
returns-in-Some c = rw (← c.self.view_is) (
    let name = c.args.name.now in
    let before = c.self.inside.by_name in
    same_owners c.remove.new.self c.remove.ensures.ordered (without_owners name (owners_by before))
    (λ n u. let less = contains_less (owners_by before) name n u in let is = held before c.self.invariant.ordered n u in grind (arith, text_keys)))

pub returns-in_default : goal.returns-in_default
returns-in_default c = rw (← c.self.view_is) (
    let name = c.args.name.now in
    let before = c.self.inside.by_name in
    same_owners c.remove.new.self c.remove.ensures.ordered (without_owners name (owners_by before))
    (λ n u. let less = contains_less (owners_by before) name n u in let is = held before c.self.invariant.ordered n u in grind (arith, text_keys)))
