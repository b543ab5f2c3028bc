use Rattle.std.proofs.Common.{◌≡◌, ℕ, List, ◌<◌, ◌++◌, [], length, take, refl, sym, ap, ◌∙◌, subst, arith}
use Rattle.std.proofs.Math.Seq.{take-append_seam}
use Rattle.dbus_stream.specs.LookingAhead.{Meets}
use Rattle.dbus_stream.proofs.AheadSteps.{looked_failed, looked_more, looked_none}
use Rattle.dbus_stream.specs.Reading.{part_of}
use Rattle.dbus_stream.proofs.MetSteps.{nothing_met}
use Rattle.dbus_stream.proofs.NextSteps.{adds_none}
use Rattle.dbus_stream.proofs.PacketSteps.{unread}
use Rattle.dbus_stream.proofs.reader.Reader.read_ahead.Goals as goal

pub reading-init : goal.reading-init
reading-init g c = (looked_none g.T.Taker.known g.R.Source.left g.R.Source.calls c.args.behind c.args.far c.args.ahead.now.items c.args.self.now c.requires.drained, refl, refl, λ all h. h, nothing_met c.args.behind c.args.ahead.now.items)

pub returns-in-Err-clause-ahead : goal.returns-in-Err-clause-ahead
returns-in-Err-clause-ahead g c =
    let short : (length c.reading.ahead.items < c.args.far) × (Meets c.args.behind c.reading.ahead.items → ⊥) = (
      omega (arith, c.len.ensures, c.reading-test.true),
      subst (λ (l : List ℕ). Meets c.args.behind l → ⊥) c.as_slice.ensures.value (c.is_met.ensures.none c.if-is_met.false (subst (λ (l : List ℕ). Meets c.args.behind (take c.reading.before l) → ⊥) (sym c.as_slice.ensures.value) c.reading.invariant.4)),
    ) in
    let fill = c.in-Err.ensures in
    let adds = adds_none g.R.Source.left c.reading.self c.fill.new.self c.if-self.false fill.fills in
    let h = looked_failed g.T.Taker.known g.R.Source.left g.R.Source.calls c.args.behind c.args.far c.args.ahead.now.items c.args.self.now c.reading.ahead.items c.reading.self c.fill.new.self c.reading.invariant.0 short c.if-self.false fill.calls [] adds refl in
    rw c.reserve.ensures.items h

pub reading-preserved : goal.reading-preserved
reading-preserved g c =
    let i = c.reading.invariant in
    let short : (length c.reading.ahead.items < c.args.far) × (Meets c.args.behind c.reading.ahead.items → ⊥) = (
      omega (arith, c.len.ensures, c.reading-test.true),
      subst (λ (l : List ℕ). Meets c.args.behind l → ⊥) c.as_slice.ensures.value (c.is_met.ensures.none c.if-is_met.false (subst (λ (l : List ℕ). Meets c.args.behind (take c.reading.before l) → ⊥) (sym c.as_slice.ensures.value) c.reading.invariant.4)),
    ) in
    let fill = c.in-Ok.ensures in
    let n = c.skip.ensures.unread in
    let joined = c.in-Ok-extend_from_slice.ensures.items ∙ (λ j. c.reserve.ensures.items j ++ c.part.ensures j) in (
      looked_more g.T.Taker.known g.R.Source.left g.R.Source.calls c.args.behind c.args.far c.args.ahead.now.items c.args.self.now c.reading.ahead.items c.reading.self c.fill.new.self i.0 short c.if-self.false fill.calls fill.fills.0 fill.fills.1
          fill.fills.2 (length c.part-in-reading.result.now) (ap length c.part-in-reading.ensures) c.skip.new.self c.skip.ensures.drops n c.extend_from_slice.new.self.items joined,
      ap g.R.Source.failures n.source ∙ (fill.failed ∙ i.1),
      ap g.R.Source.reference n.source ∙ (fill.same_reference ∙ i.2),
      unread g.R.Source.packets g.R.Source.packet g.T.Taker.known c.args.self.now c.fill.new.self c.skip.new.self (λ all h. fill.packets all (i.3 all h)) n,
      λ met. short.1 (subst (Meets c.args.behind) ((λ j. take (c.len-before.ensures j) (joined j)) ∙ (ap (λ (k : ℕ). take k (c.reading.ahead.items ++ part_of c.fill.new.self)) (sym c.as_slice.ensures.len ∙ ap length c.as_slice.ensures.value) ∙ take-append_seam c.reading.ahead.items (part_of c.fill.new.self))) met),
    )
