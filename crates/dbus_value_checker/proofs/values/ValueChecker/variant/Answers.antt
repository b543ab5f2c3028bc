use Rattle.std.proofs.Common.{◌-◌, arith, refl}
use Rattle.dbus_value_checker.proofs.PaddedValues.{variant_deep, variant_stops, variant_starts}
use Rattle.dbus_value_checker.proofs.Calls.{opens_after}
use Rattle.dbus_value_checker.proofs.values.ValueChecker.variant.Goals as goal

pub returns-then-depth_left-eq0-clause-moves : goal.returns-then-depth_left-eq0-clause-moves
returns-then-depth_left-eq0-clause-moves c = λ answer r. rw c.refuse.ensures (λ s. variant_deep c.args.self.now c.args.pos c.args.stop c.args.n answer r 118 c.requires.code refl c.if-depth_left-eq0.true _)

pub text_on-requires : goal.text_on-requires
text_on-requires c =
    let a = c.args in let x = a.self.now in let q = c.requires in let m = c.in-Ok.ensures in
    record { valid = (_, variant_starts x a.pos a.stop a.n q.valid.0 q.valid.1 118 q.code refl (x.inner.depth_left - 1) (omega arith) a.bytes.now c.in-Ok.size (m.gives x.order) m.moves.0 m.moves.2 c.new-self.result c.clear.new.self c.new-self.ensures.kind c.new-self.ensures.stands c.clear.ensures) }

pub returns-in-Ok-text_on-clause-moves : goal.returns-in-Ok-text_on-clause-moves
returns-in-Ok-text_on-clause-moves c = λ answer r.
    let a = c.args in let x = a.self.now in let m = c.in-Ok.ensures in
    (m.moves.1, c.in-Ok-text_on.ensures.opens _ (variant_starts x a.pos a.stop a.n answer r 118 c.requires.code refl (x.inner.depth_left - 1) (omega arith) a.bytes.now c.in-Ok.size (m.gives x.order) m.moves.0 m.moves.2 c.new-self.result c.clear.new.self c.new-self.ensures.kind c.new-self.ensures.stands c.clear.ensures))

pub returns-in-Err-text_on-clause-moves : goal.returns-in-Err-text_on-clause-moves
returns-in-Err-text_on-clause-moves c = λ answer r.
    let a = c.args in let x = a.self.now in let m = c.in-Ok.ensures in
    opens_after x c.text_on.new.self a.bytes.now 1 c.in-Err-text_on.stop answer
    (c.in-Err-text_on.ensures.opens _ (variant_starts x a.pos a.stop a.n answer r 118 c.requires.code refl (x.inner.depth_left - 1) (omega arith) a.bytes.now c.in-Ok.size (m.gives x.order) m.moves.0 m.moves.2 c.new-self.result c.clear.new.self c.new-self.ensures.kind c.new-self.ensures.stands c.clear.ensures))

pub returns-in-Err-text_on-clause-short : goal.returns-in-Err-text_on-clause-short
returns-in-Err-text_on-clause-short c = λ e. absurd (c.in-Err-text_on.ensures.decided e)

pub returns-in-Err-clause-moves : goal.returns-in-Err-clause-moves
returns-in-Err-clause-moves c = λ answer r.
    let a = c.args in let x = a.self.now in
    variant_stops x a.pos a.stop a.n answer r 118 c.requires.code refl (x.inner.depth_left - 1) (omega arith) a.bytes.now c.in-Err.stop (c.in-Err.ensures.gives x.order)
