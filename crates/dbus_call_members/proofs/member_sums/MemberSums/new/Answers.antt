use Rattle.std.proofs.Common.{arith}
use Rattle.std.proofs.lemmas.Map.Text.{text_keys}
use Rattle.dbus_call_members.specs.Summing.{sums_in}
use Rattle.dbus_call_members.proofs.member_sums.MemberSums.new.Goals as goal

pub returns-clause-sums : goal.returns-clause-sums
unfolding sums_in
returns-clause-sums c = λ name. grind (arith, text_keys)
