use Rattle.std.proofs.Common.{arith, refl, inr}
use Rattle.dbus_value_checker.proofs.PaddedValues.{bracket_fits, bracket_opens}
use Rattle.dbus_value_checker.proofs.values.ValueChecker.open_entry.Goals as goal

pub inside-requires : goal.inside-requires
inside-requires c =
    let f = bracket_fits c.args.self.now c.args.pos c.args.stop c.args.n c.requires.valid.0 c.requires.valid.1 123 c.requires.code c.args.self.now.inner.depth_left (inr (refl, refl)) in
    let r = c.requires.valid.1 in
    record { near = omega arith; few = f.0; some = f.1; there = r.there; noted = r.wants.noted; type_noted = r.wants.type_noted }

pub returns-clause-opens : goal.returns-clause-opens
returns-clause-opens c = λ answer r. c.inside.ensures.opens answer (bracket_opens c.args.self.now c.args.pos c.args.stop c.args.n answer r 123 c.requires.code c.args.self.now.inner.depth_left (inr (refl, refl)))
