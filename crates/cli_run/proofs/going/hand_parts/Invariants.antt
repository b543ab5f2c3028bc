use Rattle.std.proofs.Common.{◌≡◌, ◌-◌, ◌^◌, None}
use Rattle.dbus_stream.specs.RawReading.{done_of, source_of, stopped_of}
use Rattle.cli_run.specs.Onward.{HasKnownPackets}
use Rattle.cli_run.proofs.GoSteps.{HasGone}
use Rattle.cli_run.proofs.going.hand_parts.Given as goal

abbrev pub invariant-parts : goal.invariant-parts
invariant-parts g l =
    HasGone (record {
      left = g.R.Source.left;
      calls = g.R.Source.calls;
      failures = g.R.Source.failures;
      packets = g.R.Source.packets;
      packet = g.R.Source.packet;
      settings = l.settings;
      is_check = l.is_check;
      old = l.fn.messages;
      s0 = l.fn.visitor;
    }) g.V.MessageVisitor.takes g.V.MessageVisitor.full l.messages l.tally l.visitor
    × (stopped_of l.messages ≡ None) × g.V.MessageVisitor.settled l.visitor × (g.R.Source.reference (source_of l.messages) ≡ g.R.Source.reference (source_of l.fn.messages))
    × HasKnownPackets g.R.Source.packets g.R.Source.packet l.messages (g.R.Source.packets (source_of l.fn.messages))
    × (l.tally.passed ≡ 0 → (source_of l.messages ≡ source_of l.fn.messages) × (l.tally.size ≡ 0))

abbrev pub decreases-parts : goal.decreases-parts
decreases-parts g l = 2 ^ 50 - done_of l.messages
