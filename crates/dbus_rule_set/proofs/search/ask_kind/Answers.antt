use Rattle.std.proofs.Common.{◌+◌, inl, sym, subst, arith}
use Rattle.dbus_rule_set.specs.Held.{EntryMatches}
use Rattle.dbus_rule_set.specs.Places.{IsAmong, place_hash}
use Rattle.dbus_rule_set.specs.Searches.{within}
use Rattle.dbus_rule_set.proofs.Collected.{any_between, on_ok}
use Rattle.dbus_rule_set.proofs.Parted.{more_found}
use Rattle.dbus_rule_set.proofs.Placed.{have_met}
use Rattle.dbus_rule_set.proofs.search.ask_kind.Goals as goal

pub rules_between-requires : goal.rules_between-requires
rules_between-requires g c = inl (omega arith)

pub returns-in-Some-clause-found : goal.returns-in-Some-clause-found
returns-in-Some-clause-found g c = λ order m v.
    let os = c.args.asked.now.owners.now in
    let key = c.key_of.result in
    let hs = c.as_slice.result.now in
    c.ask_hashes.ensures.found order m v
    (have_met c.args.asked.now.as_bus m os key c.args.kind (λ h. IsAmong h hs) c.key_of.ensures.keyed
    (λ e. c.in-Some.ensures.all (c.key_of.ensures.others e))
    (λ value holds. subst (IsAmong (place_hash key value)) (sym c.as_slice.ensures.value)
    (c.in-Some.ensures.met order m v value holds))
    c.args.rules.now.entries c.requires.placed)

pub returns-in-None-clause-found : goal.returns-in-None-clause-found
returns-in-None-clause-found g c = λ order m v.
    let P = EntryMatches c.args.asked.now.as_bus m c.args.asked.now.owners.now in
    let gathered = g.V.RuleVisitor.gathered in
    let between = c.rules_between in
    on_ok c.ask_each.result
    (λ some first before. more_found P c.args.kind 0 (c.args.kind + 1) 0 c.args.rules.now.entries between.result first
    (gathered c.args.visitor.now) (gathered c.ask_each.new.visitor) (inl (omega arith))
    between.ensures.ordered between.ensures.between before some)
    (c.ask_each.ensures.found order m v)

pub returns-in-None-clause-stopped : goal.returns-in-None-clause-stopped
returns-in-None-clause-stopped g c = λ order m v.
    let P = EntryMatches c.args.asked.now.as_bus m c.args.asked.now.owners.now in
    any_between P (λ e. within c.args.kind 0 (c.args.kind + 1) 0 e.0) c.args.rules.now.entries c.rules_between.result
    c.ask_each.result c.rules_between.ensures.between (c.ask_each.ensures.stopped order m v)
