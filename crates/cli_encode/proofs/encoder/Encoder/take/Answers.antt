use Rattle.std.proofs.Common.{refl}
use Rattle.cli_encode.proofs.TakeSteps.{takes_same}
use Rattle.cli_encode.proofs.encoder.Encoder.take.Goals as goal

pub returns-in-Ok : goal.returns-in-Ok
returns-in-Ok g c = λ bytes fits.
    takes_same g.W.Sink.held g.W.Sink.failures g.E.Sink.held g.E.Sink.failures bytes c.args.self.now _ c.finish.new.self c.args.first.now c.finish.new.first c.args.second.now c.finish.new.second c.finish.result
    (record { encoding = refl; number = refl; serial = refl; refused = refl }) refl (c.finish.ensures bytes (c.in-Ok.ensures bytes fits))
