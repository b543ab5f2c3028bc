use Rattle.std.proofs.Common.{take}
use Rattle.dbus_value_checker.specs.Denotations.{after_piece}
use Rattle.dbus_value_checker.proofs.TextSteps.{nuls_pass, nuls_stops}
use Rattle.dbus_value_checker.proofs.values.ValueChecker.nul.Goals as goal

pub next-requires : goal.next-requires
next-requires c =
    record { valid = (after_piece c.requires.valid.0 (take 1 c.args.bytes.now), nuls_pass c.args.self.now c.requires.valid.0 c.requires.valid.1 c.args.bytes.now c.in-Ok.ensures.gives) }

pub returns-in-Ok-clause-moves : goal.returns-in-Ok-clause-moves
returns-in-Ok-clause-moves c = λ answer u.
    (c.in-Ok.ensures.gives.0, c.next.ensures (after_piece answer (take 1 c.args.bytes.now)) (nuls_pass c.args.self.now answer u c.args.bytes.now c.in-Ok.ensures.gives))

pub returns-in-Err-clause-moves : goal.returns-in-Err-clause-moves
returns-in-Err-clause-moves c = λ answer u. nuls_stops c.args.self.now answer u c.args.bytes.now c.in-Err.stop c.in-Err.ensures.gives
