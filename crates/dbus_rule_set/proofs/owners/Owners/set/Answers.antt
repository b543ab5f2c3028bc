use Rattle.std.proofs.Common.{rules, arith, ap, sym, refl, ◌∙◌, ◌≡◌, ◌&&◌, ◌||◌, not, cond, [], List, ℕ, Bool, true, false, string_bytes}
use Rattle.std.specs.BTreeSet.{contains_text}
use Rattle.std.specs.Str.{bytes_eq}
use Rattle.std.proofs.lemmas.Map.Text.{text_keys}
use Rattle.std.proofs.lemmas.Slice.Eq.{bytes_eq-Decides}
use Rattle.dbus_rule_set.proofs.GroupedTexts.{one_anew, one_new}
use Rattle.dbus_rule_set.proofs.OwnerSets.{contains_anew, held, same_owners}
use Rattle.dbus_rule_set.specs.Owners.{owned_anew}
use Rattle.dbus_rule_set.specs.Groups.{has, owners_by}
use Rattle.dbus_rule_set.proofs.owners.Owners.set.Goals as goal

kept_only : (b q h : Bool) → (b ≡ true → h ≡ q) → h ≡ cond b q h
kept_only true q h is = is refl
kept_only false q h is = refl

pub returns-then-has_only-clause-set : goal.returns-then-has_only-clause-set
returns-then-has_only-clause-set c = rw (← c.self.view_is) (
    let name = c.args.name.now in
    let unique = c.args.unique.now in
    let before = c.self.inside.by_name in
    let some : bytes_eq unique [] ≡ false = search rules in
    same_owners before c.self.invariant.ordered (owned_anew name unique (owners_by before))
    (λ n u. kept_only (bytes_eq name n) (bytes_eq unique u) (has before n u) (λ same. ap (λ w. has before w u) (sym ((bytes_eq-Decides name n).0 same)) ∙ c.if-has_only.ensures u)
    ∙ (ap (λ h. cond (bytes_eq name n) (bytes_eq unique u) h) (sym (held before c.self.invariant.ordered n u)) ∙ sym (contains_anew (owners_by before) name unique n u some))))

pub invariant_of-self-in-Ok-None : goal.invariant_of-self-in-Ok-None
invariant_of-self-in-Ok-None c =
    let name = c.args.name.now in
    let unique = c.args.unique.now in
    let before = c.self.inside.by_name in
    record {
      ordered = c.insert.ensures.ordered;
      converse = λ n u.
          let q = bytes_eq unique u in
          let went : has c.insert.new.self n u ≡ cond (bytes_eq name n) q (has before n u) = grind (arith, text_keys) in
          let none : has before name u ≡ false = grind (arith, text_keys) in
          went
          ∙ (sym (one_new (has before) name n u q none)
          ∙ (ap (λ b. q && bytes_eq name n || b) (c.self.invariant.converse n u) ∙ sym (c.in_ok-join.ensures.joined u n)));
    }

pub returns-in-Ok-None-clause-set : goal.returns-in-Ok-None-clause-set
returns-in-Ok-None-clause-set c = rw (← c.self.view_is) (
    let name = c.args.name.now in
    let unique = c.args.unique.now in
    let before = c.self.inside.by_name in
    let some : bytes_eq unique [] ≡ false = search rules in
    same_owners c.insert.new.self c.insert.ensures.ordered (owned_anew name unique (owners_by before))
    (λ n u. let anew = contains_anew (owners_by before) name unique n u some in let is = held before c.self.invariant.ordered n u in grind (arith, text_keys)))

pub invariant_of-self-in-Ok-Some : goal.invariant_of-self-in-Ok-Some
invariant_of-self-in-Ok-Some c =
    let name = c.args.name.now in
    let unique = c.args.unique.now in
    let before = c.self.inside.by_name in
    record {
      ordered = c.insert.ensures.ordered;
      converse = λ n u.
          let q = bytes_eq unique u in
          let o = contains_text c.forget.new.group u in
          let went : has c.insert.new.self n u ≡ cond (bytes_eq name n) q (has before n u) = grind (arith, text_keys) in
          let had : contains_text c.in-Ok-Some.others u ≡ has before name u = grind (arith, text_keys) in
          let left : o ≡ (not q && has before name u) = c.forget.ensures.left u ∙ ap (λ b. not q && b) had in
          went
          ∙ (sym (one_anew (has before) name n u q o left)
          ∙ ((λ i. not (o && bytes_eq name n) && (q && bytes_eq name n || c.self.invariant.converse n u i))
          ∙ (ap (λ b. not (o && bytes_eq name n) && b) (sym (c.in_ok-join.ensures.joined u n)) ∙ sym (c.leave_each.ensures.left u n))));
    }

pub returns-in-Ok-Some-clause-set : goal.returns-in-Ok-Some-clause-set
returns-in-Ok-Some-clause-set c = rw (← c.self.view_is) (
    let name = c.args.name.now in
    let unique = c.args.unique.now in
    let before = c.self.inside.by_name in
    let some : bytes_eq unique [] ≡ false = search rules in
    same_owners c.insert.new.self c.insert.ensures.ordered (owned_anew name unique (owners_by before))
    (λ n u. let anew = contains_anew (owners_by before) name unique n u some in let is = held before c.self.invariant.ordered n u in grind (arith, text_keys)))
