use Rattle.dbus_value_checker.proofs.PaddedValues.{number_goes, number_stops}
use Rattle.dbus_value_checker.proofs.values.ValueChecker.number.Goals as goal

pub next-requires : goal.next-requires
next-requires c =
    let a = c.args in let m = c.in-Ok.ensures in
    record { valid = (_, number_goes a.self.now a.pos a.stop a.n c.requires.valid.0 c.requires.valid.1 a.code c.requires.code c.requires.alone a.bytes.now c.in-Ok.width m.gives m.moves.0 m.moves.2) }

pub returns-in-Ok-clause-moves : goal.returns-in-Ok-clause-moves
returns-in-Ok-clause-moves c = λ answer r.
    let a = c.args in let m = c.in-Ok.ensures in
    (m.moves.1, c.next.ensures _ (number_goes a.self.now a.pos a.stop a.n answer r a.code c.requires.code c.requires.alone a.bytes.now c.in-Ok.width m.gives m.moves.0 m.moves.2))

pub returns-in-Err-clause-moves : goal.returns-in-Err-clause-moves
returns-in-Err-clause-moves c = λ answer r.
    let a = c.args in
    number_stops a.self.now a.pos a.stop a.n answer r a.code c.requires.code c.requires.alone a.bytes.now c.in-Err.stop c.in-Err.ensures.gives
