use Rattle.std.proofs.Common.{List, ℕ, subst, sym, ◌∙◌}
use Rattle.std.proofs.lemmas.Bool.{false≢true}
use Rattle.dbus_header.specs.MessageOutcomes.{IsPartial}
use Rattle.dbus_header.proofs.OutcomeLaws.{nothing_partial}
use Rattle.dbus_check.specs.Checks.{Stands}
use Rattle.dbus_stream.proofs.gatherer.Gatherer.let_go.Goals as goal

pub invariant_of-self : goal.invariant_of-self
invariant_of-self g c =
    let none = sym c.clear.ensures.items in
    let limits = c.self.inside.limits in
    record {
      partial = subst (λ (l : List ℕ). IsPartial limits l) none (nothing_partial limits);
      stands = subst (λ (l : List ℕ). Stands c.restart.new.self l) none c.restart.ensures.stands;
      same_limits = c.restart.ensures.limits ∙ c.self.invariant.same_limits;
      complete = λ whole. absurd (false≢true whole);
    }
