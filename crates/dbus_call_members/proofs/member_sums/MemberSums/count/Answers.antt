use Rattle.std.proofs.Common.{arith}
use Rattle.std.proofs.lemmas.Map.Text.{text_keys}
use Rattle.dbus_call_members.specs.Summing.{sums_in}
use Rattle.dbus_call_members.proofs.member_sums.MemberSums.count.Goals as goal

pub returns-in-Some-clause-adds : goal.returns-in-Some-clause-adds
unfolding sums_in
returns-in-Some-clause-adds c = λ name. grind (arith, text_keys)

pub returns-clause-adds : goal.returns-clause-adds
unfolding sums_in
returns-clause-adds c = λ name. grind (arith, text_keys)
