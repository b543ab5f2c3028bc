use Rattle.std.proofs.Common.{length, take, sym, subst}
use Rattle.std.proofs.lemmas.List.{take_all}
use Rattle.json.specs.Tree.{members_tokens}
use Rattle.json.specs.Value.{members_view}
use Rattle.dbus_json_reader.specs.JsonNames.{AreNamed, IsNameFault, names_for}
use Rattle.dbus_json_reader.proofs.MemberNames.{named_more, not_named, fault_at}
use Rattle.dbus_json_reader.proofs.Shown.{one_shown}
use Rattle.dbus_json_reader.proofs.names.strange_member.Goals as goal

pub returns-in-Some-clause-some : goal.returns-in-Some-clause-some
returns-in-Some-clause-some g c =
    let l = c.args.members.now in
    let names = names_for c.args.names in
    let before = length (members_tokens (members_view (take c.loop-i.i l))) in
    one_shown (IsNameFault names (members_view l)) c.after.result c.in-Some.reason before (c.after.ensures.shown c.in-Some.reason before 0 c.tokens_in_members.ensures c.here.ensures)
    (fault_at l c.loop-i.i c.index-members-i.result c.loop-i-test.true c.index-members-i.is names c.in-Some.reason (sym c.in-Some.ensures.reason) c.loop-i.invariant)

pub returns-in-Some-clause-refused : goal.returns-in-Some-clause-refused
returns-in-Some-clause-refused g c =
    not_named c.args.members.now c.loop-i.i c.index-members-i.result c.loop-i-test.true c.index-members-i.is (names_for c.args.names) c.in-Some.reason (sym c.in-Some.ensures.reason)

pub loop-i-preserved : goal.loop-i-preserved
loop-i-preserved g c =
    named_more c.args.members.now c.loop-i.i c.index-members-i.result c.loop-i-test.true c.index-members-i.is (names_for c.args.names) c.loop-i.invariant (sym c.in_default.ensures.reason)

pub returns-clause-none : goal.returns-clause-none
returns-clause-none g c = λ none. subst (λ ms. AreNamed (names_for c.args.names) (members_view ms)) (take_all c.loop-i.i c.args.members.now c.loop-i-test.false) c.loop-i.invariant
