use Rattle.std.proofs.Common.{◌≡◌, [], ⊎_elim, inl, inr, option_map, refl, sym, ◌∙◌, subst}
use Rattle.std.specs.Map.Iter.{deref_pair}
use Rattle.std.proofs.lemmas.Bool.{false≢true}
use Rattle.std.proofs.lemmas.Map.Iter.{rest_all}
use Rattle.dbus_rule_set.specs.Held.{EntryMayMatch, HoldsOfAny}
use Rattle.dbus_rule_set.proofs.rule_set.RuleSet.any_may_match.Goals as goal

pub returns : goal.returns
returns g c = λ order m v.
    let l = c.loop-handle in
    let P = EntryMayMatch c.args.self.now.as_bus m (option_map (λ s. s.now) c.args.sender) c.args.owners.now in
    let none : l._handle-iterator ≡ [] = rest_all deref_pair l._handle-iterator c.next.new.self c.next.result c.in-None.is c.next.ensures.steps in
    (λ t. absurd (false≢true t), λ h. absurd (subst (HoldsOfAny P) none ((l.invariant order m v).1 h)))
