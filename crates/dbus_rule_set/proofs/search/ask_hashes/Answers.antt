use Rattle.std.proofs.Common.{◌+◌, Some, None, inr, refl, sym, subst, arith}
use Rattle.std.proofs.lemmas.List.{take_all}
use Rattle.dbus_rule_set.specs.Held.{EntryMatches, HoldsOfAny}
use Rattle.dbus_rule_set.specs.Places.{IsNext}
use Rattle.dbus_rule_set.specs.Searches.{within}
use Rattle.dbus_rule_set.proofs.Begins.{begins_on}
use Rattle.dbus_rule_set.proofs.Collected.{any_passed}
use Rattle.dbus_rule_set.proofs.GroupedTexts.{on_any}
use Rattle.dbus_rule_set.proofs.Parted.{more_found, skipped_to, skipped_past}
use Rattle.dbus_rule_set.proofs.search.ask_hashes.Goals as goal

pub loop-hash-init : goal.loop-hash-init
loop-hash-init g c =
    record {
      found = λ order m v all first before. before;
      kept = take_all _ _ (omega arith);
      bound = omega arith;
    }

pub rules_between-there-requires : goal.rules_between-there-requires
rules_between-there-requires g c = inr (refl, omega arith)

pub loop-hash-preserved : goal.loop-hash-preserved
loop-hash-preserved g c =
    let l = c.loop-hash in
    let gathered = g.V.RuleVisitor.gathered in
    let kind = c.args.kind in
    let hs = c.args.hashes.now in
    let hash = c.from-first.result in
    let there = c.rules_between-there in
    let told : IsNext l.from (Some c.in-Some.hash) hs =
    subst (λ o. IsNext l.from o hs) c.in-Some.is c.next_of.ensures in
    let next : IsNext l.from (Some hash) hs =
    subst (λ n. IsNext l.from (Some n) hs) (sym c.from-first.ensures) told in
    record {
      found = λ order m v all first before.
          let P = EntryMatches c.args.asked.now.as_bus m c.args.asked.now.owners.now in
          let es = c.args.rules.now.entries in
          let old = gathered l.visitor in
          more_found P kind hash kind (hash + 1) es there.result first old (gathered c.ask_each.new.visitor)
          (inr (refl, omega arith)) there.ensures.ordered there.ensures.between
          (skipped_to P kind l.from hash hs es first old next all (l.invariant.found order m v all first before))
          (c.in_ok-ask_each.ensures.found order m v);
      kept = begins_on (gathered c.args.visitor.now) (gathered l.visitor) (gathered c.ask_each.new.visitor)
          l.invariant.kept c.ask_each.ensures.kept;
      bound = omega arith;
    }

pub returns-in_err-ask_each-clause-stopped : goal.returns-in_err-ask_each-clause-stopped
returns-in_err-ask_each-clause-stopped g c = λ order m v.
    let P = EntryMatches c.args.asked.now.as_bus m c.args.asked.now.owners.now in
    let kind = c.args.kind in
    let hash = c.from-first.result in
    on_any c.from_residual.result
    (any_passed P (λ e. within kind hash kind (hash + 1) e.0) c.args.rules.now.entries
    (subst (HoldsOfAny P) c.rules_between-there.ensures.between (c.in_err-ask_each.ensures.stopped order m v)))

pub returns-clause-found : goal.returns-clause-found
returns-clause-found g c = λ order m v all first before.
    let l = c.loop-hash in
    let P = EntryMatches c.args.asked.now.as_bus m c.args.asked.now.owners.now in
    let hs = c.args.hashes.now in
    let last : IsNext l.from None hs = subst (λ o. IsNext l.from o hs) c.in_default.is c.next_of.ensures in
    skipped_past P c.args.kind l.from hs c.args.rules.now.entries first (g.V.RuleVisitor.gathered l.visitor) last all
    (l.invariant.found order m v all first before)
