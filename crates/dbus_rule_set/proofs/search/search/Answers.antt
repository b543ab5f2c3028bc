use Rattle.std.proofs.Common.{◌≡◌, inl, sym, ◌∙◌, subst, arith}
use Rattle.std.proofs.lemmas.List.{take_all}
use Rattle.dbus_rule_set.specs.Held.{Collects, EntryMatches}
use Rattle.dbus_rule_set.specs.Searches.{within}
use Rattle.dbus_rule_set.proofs.Begins.{begins_on}
use Rattle.dbus_rule_set.proofs.Collected.{any_between, none, along, on_ok}
use Rattle.dbus_rule_set.proofs.Kept.{standing}
use Rattle.dbus_rule_set.proofs.Parted.{Below, more_found, skipped_kind, none_below, all_below}
use Rattle.dbus_rule_set.proofs.search.search.Goals as goal

-- the rules of all kinds are all rules
pub returns-then-len-le-FEW-clause-found : goal.returns-then-len-le-FEW-clause-found
returns-then-len-le-FEW-clause-found g c = λ order m v.
    let P = EntryMatches c.args.asked.now.as_bus m c.args.asked.now.owners.now in
    let es = c.args.rules.now.entries in
    let from = g.V.RuleVisitor.gathered c.args.visitor.now in
    let to = g.V.RuleVisitor.gathered c.ask_each.new.visitor in
    let between = c.rules_between in
    on_ok c.ask_each.result
    (λ some. along (Below P 137 0) P es from to (all_below P c.args.kinds.now es c.requires.indexed)
    (more_found P 0 0 137 0 es between.result from from to (inl (omega arith)) between.ensures.ordered between.ensures.between
    (none (Below P 0 0) es from (none_below P es)) some))
    (c.ask_each.ensures.found order m v)

pub returns-then-len-le-FEW-clause-stopped : goal.returns-then-len-le-FEW-clause-stopped
returns-then-len-le-FEW-clause-stopped g c = λ order m v.
    let P = EntryMatches c.args.asked.now.as_bus m c.args.asked.now.owners.now in
    any_between P (λ e. within 0 0 137 0 e.0) c.args.rules.now.entries c.rules_between.result
    c.ask_each.result c.rules_between.ensures.between (c.ask_each.ensures.stopped order m v)

pub loop-kind-init : goal.loop-kind-init
loop-kind-init g c =
    record {
      found = λ order m v.
          let P = EntryMatches c.args.asked.now.as_bus m c.args.asked.now.owners.now in
          none (Below P 0 0) c.args.rules.now.entries _ (none_below P c.args.rules.now.entries);
      kept = take_all _ _ (omega arith);
    }

pub ask_kind-requires : goal.ask_kind-requires
ask_kind-requires g c =
    record {
      small = omega (arith, c.loop-kind-test.true);
      placed = standing c.args.kinds.now c.args.rules.now.entries c.requires.indexed;
    }

pub loop-kind-preserved : goal.loop-kind-preserved
loop-kind-preserved g c =
    let l = c.loop-kind in
    let gathered = g.V.RuleVisitor.gathered in
    let first = gathered c.args.visitor.now in
    record {
      found = λ order m v. c.in_ok-ask_kind.ensures.found order m v first (l.invariant.found order m v);
      kept = begins_on first (gathered l.visitor) (gathered c.ask_kind.new.visitor) l.invariant.kept c.ask_kind.ensures.kept;
    }

pub loop-kind-preserved-then-not-has : goal.loop-kind-preserved-then-not-has
loop-kind-preserved-then-not-has g c =
    let l = c.loop-kind in
    let gathered = g.V.RuleVisitor.gathered in
    record {
      found = λ order m v.
          let P = EntryMatches c.args.asked.now.as_bus m c.args.asked.now.owners.now in
          skipped_kind P l.kind c.args.kinds.now c.args.rules.now.entries (gathered c.args.visitor.now) (gathered l.visitor)
          (sym c.has.ensures ∙ c.if-not-has.true) c.requires.indexed (l.invariant.found order m v);
      kept = l.invariant.kept;
    }

pub returns-clause-found : goal.returns-clause-found
returns-clause-found g c = λ order m v.
    let l = c.loop-kind in
    let e : l.kind ≡ 137 = omega (arith, c.loop-kind-test.false, l.auto.kind-end) in
    let P = EntryMatches c.args.asked.now.as_bus m c.args.asked.now.owners.now in
    let es = c.args.rules.now.entries in
    let from = g.V.RuleVisitor.gathered c.args.visitor.now in
    let to = g.V.RuleVisitor.gathered l.visitor in
    along (Below P 137 0) P es from to (all_below P c.args.kinds.now es c.requires.indexed)
    (subst (λ k. Collects (Below P k 0) es from to) e (l.invariant.found order m v))
