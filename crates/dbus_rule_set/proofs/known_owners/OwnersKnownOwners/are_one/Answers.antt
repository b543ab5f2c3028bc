use Rattle.std.proofs.Common.{inr, ⊎_elim, sym, ◌∙◌, subst}
use Rattle.std.proofs.lemmas.Bool.{false≢true}
use Rattle.dbus_match.specs.TakenFor.{Names}
use Rattle.dbus_rule_set.specs.Owners.{owners_in}
use Rattle.dbus_rule_set.proofs.known_owners.OwnersKnownOwners.are_one.Goals as goal

pub returns-else-names : goal.returns-else-names
returns-else-names c = (
  λ t. let r = c.shares.ensures.0 t in (r.0, inr r.1, r.2),
  λ h.
      ⊎_elim
      (λ e. absurd (false≢true (sym c.if-names.false ∙ c.names.ensures.1 (subst (λ x. Names (owners_in c.args.self.now) c.args.other.now x) (sym e) h.2))))
      (λ o. c.shares.ensures.1 (h.0, o, h.2))
      h.1,
)
