use Rattle.std.proofs.Common.{◌-◌, arith, refl, inl}
use Rattle.dbus_value_checker.proofs.PaddedValues.{bracket_fits, bracket_opens, deep_struct}
use Rattle.dbus_value_checker.proofs.values.ValueChecker.open_struct.Goals as goal

pub inside-requires : goal.inside-requires
inside-requires c =
    let f = bracket_fits c.args.self.now c.args.pos c.args.stop c.args.n c.requires.valid.0 c.requires.valid.1 40 c.requires.code (c.args.self.now.inner.depth_left - 1) (inl (refl, omega arith)) in
    let r = c.requires.valid.1 in
    record { near = omega arith; few = f.0; some = f.1; there = r.there; noted = r.wants.noted; type_noted = r.wants.type_noted }

pub returns-then-depth_left-eq0-clause-opens : goal.returns-then-depth_left-eq0-clause-opens
returns-then-depth_left-eq0-clause-opens c = λ answer r. rw c.refuse.ensures (deep_struct c.args.self.now c.args.pos c.args.stop c.args.n answer r 40 c.requires.code refl c.if-depth_left-eq0.true)

pub returns-clause-opens : goal.returns-clause-opens
returns-clause-opens c = λ answer r. c.inside.ensures.opens answer (bracket_opens c.args.self.now c.args.pos c.args.stop c.args.n answer r 40 c.requires.code (c.args.self.now.inner.depth_left - 1) (inl (refl, omega arith)))
