use Rattle.std.proofs.Common.{◌≡◌, ℕ, ◌+◌, length, ap, subst, ◌∙◌, arith}
use Rattle.dbus_texts.specs.Types.{NumberType}
use Rattle.dbus_texts.proofs.TypeTexts.{sig_positive}
use Rattle.dbus_value_model.specs.Bytes.{gap_to}
use Rattle.dbus_walk.specs.Standing.{ElementsStand}
use Rattle.dbus_walk.proofs.Parts.{number_stands, number_ends}
use Rattle.dbus_walk.proofs.Walks.{all_left, next_element, element_left, no_element}
use Rattle.dbus_values.proofs.NumberRuns.{stays_aligned, elements_within}
use Rattle.dbus_unmarshal.specs.Builds.{AreBuilt}
use Rattle.dbus_unmarshal.proofs.Gathering.{none_built, built_more}
use Rattle.dbus_unmarshal.proofs.Leaves.{number_coded, number_built}
use Rattle.dbus_unmarshal.proofs.numbers.numbers_up_to.Goals as goal

pub bounds-spot-0 : goal.bounds-spot-0
bounds-spot-0 g c = let e = c.requires.stand.2 in omega (arith, ap length e.text, sig_positive e.type)

pub overflow_sub-end : goal.overflow_sub-end
overflow_sub-end g c = omega (arith, elements_within c.requires.stand.2)

pub loop-place-init : goal.loop-place-init
loop-place-init g c = record {
  aligned = c.requires.aligned;
  left = λ vs rest e.
      all_left c.args.source.now.order c.args.spot.now.at vs (λ place us. ElementsStand c.args.source.now.order c.args.spot.now.depth_left c.args.spot.now.types.now place c.args.end c.args.source.now.bytes.now us rest) (λ done. AreBuilt done c.in_ok-values.values.items) e (none_built c.in_ok-values.ensures.items);
}

pub number_at-requires-clause-inside : goal.number_at-requires-clause-inside
number_at-requires-clause-inside g c = λ k e.
    let there = c.requires.stand in
    let n = next_element (c.loop-place.invariant.left there.0 there.1 there.2) c.loop-place-test.true in
    let p = number_stands n.stands c.args.size c.requires.some c.requires.wide in
    omega (arith, p.inside, c.loop-place.invariant.aligned, c.requires.wide (NumberType k) e)

pub number_at-requires-clause-known : goal.number_at-requires-clause-known
number_at-requires-clause-known g c =
    let there = c.requires.stand in
    let n = next_element (c.loop-place.invariant.left there.0 there.1 there.2) c.loop-place-test.true in
    let p = number_stands n.stands c.args.size c.requires.some c.requires.wide in
    (p.code, number_coded n.stands c.args.size p)

pub overflow_add-place : goal.overflow_add-place
overflow_add-place g c =
    let there = c.requires.stand in
    let n = next_element (c.loop-place.invariant.left there.0 there.1 there.2) c.loop-place-test.true in
    let p = number_stands n.stands c.args.size c.requires.some c.requires.wide in
    omega (arith, p.inside, c.loop-place.invariant.aligned, c.from-width.ensures)

pub loop-place-preserved : goal.loop-place-preserved
loop-place-preserved g c =
    let there = c.requires.stand in
    let place = c.loop-place.place in
    let size = c.args.size in
    let aligned = c.loop-place.invariant.aligned in
    let begins : place ≡ place + gap_to size place = omega (arith, aligned) in
    let one = next_element (c.loop-place.invariant.left there.0 there.1 there.2) c.loop-place-test.true in
    let number = number_stands one.stands size c.requires.some c.requires.wide in
    let next : place + c.from-width.result ≡ place + size = omega (arith, c.from-width.ensures) in
    record {
      aligned = rw next (subst (λ (w : ℕ). gap_to w place ≡ 0 → gap_to w (place + w) ≡ 0) number.wide (stays_aligned number.code place) aligned);
      left = λ vs rest e.
          let l = c.loop-place.invariant.left vs rest e in
          let n = next_element l c.loop-place-test.true in
          let p = number_stands n.stands size c.requires.some c.requires.wide in
          element_left l (λ done. AreBuilt done c.push_part.new.values.items) n (place + c.from-width.result) (next ∙ number_ends n.stands size place p begins)
          (built_more c.loop-place.values.items c.push_part.new.values.items c.in_ok-push_part.ensures l.walked
          (record { tree = number_built n.stands size p place c.number_at.result begins c.number_at.ensures.built; packed = c.number_at.ensures.packed }));
    }

pub returns : goal.returns
returns g c = λ vs rest e.
    let l = c.loop-place.invariant.left vs rest e in
    (l.done, (no_element l c.loop-place-test.false).0, l.walked)
