use Rattle.std.proofs.Common.{List, ℕ, subst, sym}
use Rattle.std.proofs.lemmas.Bool.{false≢true}
use Rattle.dbus_header.specs.MessageOutcomes.{IsPartial}
use Rattle.dbus_header.proofs.OutcomeLaws.{nothing_partial}
use Rattle.dbus_check.specs.Checks.{Stands}
use Rattle.dbus_stream.proofs.gatherer.Gatherer.within.Goals as goal

pub invariant_of-result : goal.invariant_of-result
invariant_of-result g c =
    let none = sym c.new.ensures.items in
    record {
      partial = subst (λ l. IsPartial c.args.limits l) none (nothing_partial c.args.limits);
      stands = subst (λ (l : List ℕ). Stands c.within.result l) none c.within.ensures.stands;
      same_limits = c.within.ensures.limits;
      complete = λ whole. absurd (false≢true whole);
    }
