use Rattle.std.proofs.Common.{◌≡◌, ◌≤◌, ℕ, length, refl, arith, subst}
use Rattle.dbus_explain.specs.Places.{Pass}
use Rattle.dbus_explain.proofs.WholeFields.{none_behind, pass_moves}
use Rattle.dbus_explain.proofs.search.Search.after_values.Goals as goal

pub returns-in-None-clause-passed : goal.returns-in-None-clause-passed
returns-in-None-clause-passed c = λ t is shaped. (c.loop-count.invariant.passed t is shaped, c.in-None.ensures.none refl t is shaped)

pub returns-clause-passed : goal.returns-clause-passed
returns-clause-passed c = λ t is shaped.
    let self = c.args.self.now in
    let bytes = self.bytes.now in
    let passed = c.loop-count.invariant.passed t is shaped in
    let all : c.loop-count.count ≡ length bytes = omega (arith, c.loop-count-test.false, c.loop-count.auto.count-end) in
    let moved = pass_moves bytes self.at t shaped c.loop-count.count c.args.first.place c.loop-count.place passed in
    let behind : self.at ≤ c.loop-count.place = let within = self.within in omega (arith, moved, all) in
    (subst (λ (n : ℕ). Pass bytes self.at t n c.args.first.place c.loop-count.place) all passed, none_behind bytes self.at t shaped c.loop-count.place behind)
