use Rattle.std.proofs.Common.{ap, refl, ◌∙◌}
use Rattle.dbus_call_lines.specs.CallLines.{front}
use Rattle.dbus_names.specs.NameStates.{known_first}
use Rattle.cli_run.specs.CallListing.{first_calls}
use Rattle.cli_run.proofs.CallSteps.{follow, starts}
use Rattle.cli_run.proofs.call_listing.list_calls.Goals as goal

pub returns : goal.returns
returns g c =
    let wanted = c.args.wanted in
    c.run_to_end.ensures (first_calls wanted) (starts wanted _ refl (c.new-3.ensures ∙ ap known_first c.new-2.ensures) refl (c.new.ensures front)) (follow wanted (g.R.Source.packets c.args.reader.now))
