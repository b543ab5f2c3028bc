use Rattle.std.proofs.Common.{rules, sym, ◌∙◌}
use Rattle.std.proofs.lemmas.Bool.{false≢true}
use Rattle.dbus_rule.specs.Rules.{condition_pairs}
use Rattle.dbus_rule.proofs.PairReadings.{bad_fault}
use Rattle.dbus_rule.proofs.pair.read_pair.Goals as goal

pub returns-then-not-takes-clause-fault : goal.returns-then-not-takes-clause-fault
returns-then-not-takes-clause-fault g c = bad_fault (condition_pairs c.args.conditions.now) c.args.text.now c.args.from c.in_ok-key.key c.in_ok-key.value_from c.as_str.result.now c.in_ok-value.end (search rules) (search rules) (λ f. false≢true (sym c.if-not-takes.true ∙ c.takes.ensures.1 f))
