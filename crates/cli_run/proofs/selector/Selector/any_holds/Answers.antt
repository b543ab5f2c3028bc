use Rattle.std.proofs.Common.{◌≡◌, ℕ, List, Option, None, Some, Bor, MatchOption, option_map, sym, ap, subst}
use Rattle.dbus_texts.specs.Types.{STRING}
use Rattle.dbus_value_model.specs.Values.{ValueTree, TextValue}
use Rattle.dbus_match.specs.Matching.{text_of}
use Rattle.dbus_match.specs.TakenFor.{text_at}
use Rattle.dbus_message_model.specs.declared.field_code.TheConstants as field
use Rattle.dbus_rule_set.specs.Held.{EntryMatches, EntryMayMatch, HoldsOfAny, held}
use Rattle.std.specs.Bool.{Decides}
use Rattle.cli_options.specs.declared.selection.Question.TheVariants as questions
use Rattle.cli_run.proofs.RuleSets.{any_met}
use Rattle.cli_run.proofs.selector.Selector.any_holds.Goals as goal

pub returns-in-Matches : goal.returns-in-Matches
returns-in-Matches c = λ order m viewed.
    let os = c.args.owners.now in
    let set = c.args.self.now.rules in
    let as_bus = c.args.self.now.selection.now.as_bus in
    let asks = c.args.self.now.as_bus in
    rw c.in-Matches.is (any_met as_bus questions.Matches m os (EntryMatches as_bus m os) (λ e. (λ h. h, λ h. h)) (held set) c.any_matches.result
    (subst (λ b. Decides c.any_matches.result (HoldsOfAny (EntryMatches b m os) (held set))) asks (c.any_matches.ensures order m viewed)))

-- the text that a view gives of a field
text_seen : (o : Option (Bor (List ℕ))) (v : Option ValueTree) → MatchOption o (v ≡ None) (λ s. v ≡ Some (TextValue STRING s.now)) → option_map (λ t. t.now) o ≡ text_of v
text_seen None v is = sym (ap text_of is)
text_seen (Some s) v is = sym (ap text_of is)

pub returns-in-MayMatch : goal.returns-in-MayMatch
returns-in-MayMatch c = λ order m viewed.
    let os = c.args.owners.now in
    let set = c.args.self.now.rules in
    let as_bus = c.args.self.now.selection.now.as_bus in
    let known = text_at field.SENDER m in
    let same = text_seen c.sender.result _ (c.sender.ensures order m viewed) in
    let may = subst (λ k. Decides c.any_may_match.result (HoldsOfAny (EntryMayMatch c.args.self.now.rules.as_bus m k os) (held set))) same (c.any_may_match.ensures order m viewed) in
    rw c.in-MayMatch.is (any_met as_bus questions.MayMatch m os (EntryMayMatch as_bus m known os) (λ e. (λ h. h, λ h. h)) (held set) c.any_may_match.result
    (subst (λ b. Decides c.any_may_match.result (HoldsOfAny (EntryMayMatch b m known os) (held set))) c.args.self.now.as_bus may))
