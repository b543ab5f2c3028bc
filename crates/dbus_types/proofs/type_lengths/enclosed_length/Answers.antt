use Rattle.std.proofs.Common.{◌≡◌, ℕ, ◌+◌, ◌-◌, ◌⊎◌, inl, inr, length, get_or, sym, subst, arith}
use Rattle.dbus_texts.specs.Types.{sig}
use Rattle.dbus_types.proofs.TypeLengths.{Enclosed, enclosed_all, enclosed_less, enclosed_inside, enclosed_none}
use Rattle.dbus_types.proofs.type_lengths.enclosed_length.Goals as goal
use Rattle.dbus_types.proofs.type_lengths.enclosed_length.Goals.{then-loop-place-test+then-types-place-ne41+else-types-place-ne125, then-loop-place-test+else-types-place-ne41, else-loop-place-test}

pub loop-place-init : goal.loop-place-init
loop-place-init c = record {
  begun = omega arith;
  within = omega arith;
  left = λ t more e. enclosed_all c.args.types.now c.args.at t more c.requires.inside c.requires.opens e;
}

pub loop-place-preserved : goal.loop-place-preserved
loop-place-preserved c =
    let l = c.loop-place in
    let some = c.requires.noted.some l.place (omega arith) (omega arith) in
    let within = c.requires.noted.within l.place (omega arith) (omega arith) in
    record {
      begun = omega (arith, some);
      within = omega (arith, within);
      left = λ t more e.
          subst (λ (k : ℕ). Enclosed c.args.types.now c.args.at t more (l.place + k)) (sym c.from-place.ensures)
          (enclosed_less c.args.types.now c.args.at t more l.place (l.invariant.left t more e) c.args.lengths.now c.requires.noted l.invariant.begun c.loop-place-test.true c.if-types-place-ne41.true c.if-types-place-ne125.true);
    }

pub returns-clause-value : goal.returns-clause-value
returns-clause-value c = λ t more e.
    let l = c.loop-place in
    let left = l.invariant.left t more e in
    let inside = enclosed_inside c.args.types.now c.args.at t more l.place left in
    let ends : (get_or c.args.types.now l.place 0 ≡ 41) ⊎ (get_or c.args.types.now l.place 0 ≡ 125) → c.min-end.result - c.args.at ≡ length (sig t) =
    λ close. let none = enclosed_none c.args.types.now c.args.at t more l.place left close in omega (arith, c.min-end.ensures, inside, none) in
    elim c.loop-place-test.branch [
      | then-loop-place-test+then-types-place-ne41+else-types-place-ne125 w ↦ ends (inr w.if-types-place-ne125.false)
      | then-loop-place-test+else-types-place-ne41 w ↦ ends (inl w.if-types-place-ne41.false)
      | else-loop-place-test w ↦ absurd (omega (arith, w.loop-place-test.false, inside))
    ]
