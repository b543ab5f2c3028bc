use Rattle.std.proofs.Common.{refl}
use Rattle.dbus_call_members.specs.Summing.{members}
use Rattle.cli_run.specs.CallSumming.{first_sums}
use Rattle.cli_run.proofs.SumSteps.{follow, starts}
use Rattle.cli_run.proofs.call_summing.sum_calls.Goals as goal

pub returns : goal.returns
returns g c =
    let wanted = c.args.wanted in
    c.run_to_end.ensures (first_sums wanted) (starts wanted _ refl refl (record { keeps = c.new.ensures members; sums = c.new-2.ensures.sums; all = c.new-2.ensures.short })) (follow wanted (g.R.Source.packets c.args.reader.now))
