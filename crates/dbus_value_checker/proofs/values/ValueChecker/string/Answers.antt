use Rattle.dbus_value_checker.proofs.PaddedValues.{text_stops, text_starts}
use Rattle.dbus_value_checker.proofs.Calls.{opens_after}
use Rattle.dbus_value_checker.proofs.values.ValueChecker.string.Goals as goal

pub text_on-requires : goal.text_on-requires
text_on-requires c =
    let a = c.args in let q = c.requires in let m = c.in-Ok.ensures in
    record { valid = (_, text_starts a.self.now a.pos a.stop a.n q.valid.0 q.valid.1 a.code q.code q.text a.bytes.now c.in-Ok.size c.in-Ok.width m.gives m.moves.0 m.moves.2 c.kind_of_code-kind.result c.kind_of_code-kind.ensures c.new-self.result c.new-self.ensures.kind c.new-self.ensures.stands) }

pub returns-in-Ok-text_on-clause-moves : goal.returns-in-Ok-text_on-clause-moves
returns-in-Ok-text_on-clause-moves c = λ answer r.
    let a = c.args in let q = c.requires in let m = c.in-Ok.ensures in
    (m.moves.1, c.in-Ok-text_on.ensures.opens _ (text_starts a.self.now a.pos a.stop a.n answer r a.code q.code q.text a.bytes.now c.in-Ok.size c.in-Ok.width m.gives m.moves.0 m.moves.2 c.kind_of_code-kind.result c.kind_of_code-kind.ensures c.new-self.result c.new-self.ensures.kind c.new-self.ensures.stands))

pub returns-in-Err-text_on-clause-moves : goal.returns-in-Err-text_on-clause-moves
returns-in-Err-text_on-clause-moves c = λ answer r.
    let a = c.args in let q = c.requires in let m = c.in-Ok.ensures in
    opens_after a.self.now c.text_on.new.self a.bytes.now c.in-Ok.width c.in-Err-text_on.stop answer
    (c.in-Err-text_on.ensures.opens _ (text_starts a.self.now a.pos a.stop a.n answer r a.code q.code q.text a.bytes.now c.in-Ok.size c.in-Ok.width m.gives m.moves.0 m.moves.2 c.kind_of_code-kind.result c.kind_of_code-kind.ensures c.new-self.result c.new-self.ensures.kind c.new-self.ensures.stands))

pub returns-in-Err-text_on-clause-short : goal.returns-in-Err-text_on-clause-short
returns-in-Err-text_on-clause-short c = λ e. absurd (c.in-Err-text_on.ensures.decided e)

pub returns-in-Err-clause-moves : goal.returns-in-Err-clause-moves
returns-in-Err-clause-moves c = λ answer r.
    let a = c.args in let q = c.requires in
    text_stops a.self.now a.pos a.stop a.n answer r a.code q.code q.text a.bytes.now c.in-Err.stop c.in-Err.ensures.gives
