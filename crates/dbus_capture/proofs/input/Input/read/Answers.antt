use Rattle.std.proofs.Common.{inl}
use Rattle.dbus_capture.proofs.BeginSteps.{begins_still}
use Rattle.dbus_capture.proofs.input.Input.read.Goals as goal

pub returns-then-self-clause-input : goal.returns-then-self-clause-input
returns-then-self-clause-input g c =
    let e = c.read_part.ensures in
    inl (record {
      mid = c.args.self.now;
      begins = begins_still g.R.Source.left g.R.Source.calls g.R.Source.failures c.args.self.now c.if-self.true;
      part = e.part.0;
      asks = e.part.1;
      chosen = e.chosen;
    })

pub returns-clause-input : goal.returns-clause-input
returns-clause-input g c =
    let e = c.read_part-2.ensures in
    inl (record { mid = c.choose.new.self; begins = c.in_ok-choose.ensures.begins; part = e.part.0; asks = e.part.1; chosen = e.chosen })
