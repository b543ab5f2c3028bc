use Rattle.std.proofs.Common.{◌≡◌, ◌-◌, ◌^◌, ℕ, List, []}
use Rattle.dbus_stream.specs.CheckReading.{Keeps, limits_of, lengths}
use Rattle.dbus_stream.specs.Reading.{done_of, source_of}
use Rattle.cli_run.specs.Onward.{HasPacketsIf}
use Rattle.cli_run.proofs.CountSteps.{counts, never_full, none_known}
use Rattle.cli_run.proofs.HandSteps.{HasHanded}
use Rattle.cli_run.proofs.counting.count_all.Given as goal

abbrev pub invariant-messages : goal.invariant-messages
invariant-messages g l = (rest : List ℕ) × Keeps l.messages rest
    × HasHanded lengths g.R.Source.left g.R.Source.calls g.R.Source.failures counts never_full (limits_of l.fn.messages) [] 0 none_known l.count l.fn.messages l.messages rest tt tt
    × (g.R.Source.reference (source_of l.messages) ≡ g.R.Source.reference (source_of l.fn.messages))
    × HasPacketsIf g.R.Source.packets g.R.Source.packet l.messages (g.R.Source.packets (source_of l.fn.messages))

abbrev pub decreases-messages : goal.decreases-messages
decreases-messages g l = 2 ^ 50 - done_of l.messages
