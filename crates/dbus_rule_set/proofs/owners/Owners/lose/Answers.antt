use Rattle.std.proofs.Common.{ap, sym, ◌∙◌, ◌≡◌, ◌&&◌, not, Bool, true, false, refl}
use Rattle.std.specs.Str.{bytes_eq}
use Rattle.dbus_rule_set.proofs.OwnerSets.{contains_lost, held, same_owners}
use Rattle.dbus_rule_set.specs.Owners.{without_owner}
use Rattle.dbus_rule_set.specs.Groups.{owners_by}
use Rattle.dbus_rule_set.proofs.owners.Owners.lose.Goals as goal

both : (a b : Bool) → (a && b) ≡ (b && a)
both true true = refl
both true false = refl
both false true = refl
both false false = refl

pub invariant_of-self : goal.invariant_of-self
invariant_of-self c =
    let name = c.args.name.now in
    let unique = c.args.unique.now in
    let before = c.self.inside.by_name in
    record {
      ordered = c.leave.ensures.ordered;
      converse = λ n u.
          c.leave.ensures.left n u
          ∙ ((λ i. not (both (bytes_eq name n) (bytes_eq unique u) i) && c.self.invariant.converse n u i) ∙ sym (c.leave-2.ensures.left u n));
    }

pub returns : goal.returns
returns c = rw (← c.self.view_is) (
    let name = c.args.name.now in
    let unique = c.args.unique.now in
    let before = c.self.inside.by_name in
    same_owners c.leave.new.groups c.leave.ensures.ordered (without_owner name unique (owners_by before))
    (λ n u. c.leave.ensures.left n u
    ∙ (ap (λ b. not (bytes_eq name n && bytes_eq unique u) && b) (sym (held before c.self.invariant.ordered n u)) ∙ sym (contains_lost (owners_by before) name unique n u))))
