use Rattle.std.proofs.Common.{◌≡◌, ℕ, Bool, not, true, false, Option, None, Some, is_some, inl, inr, ap, arith, refl, sym, ◌∙◌}
use Rattle.std.specs.Option.{is_none}
use Rattle.std.proofs.lemmas.Bool.{false≢true}
use Rattle.dbus_stream.specs.RawReading.{done_of}
use Rattle.cli_run.specs.Onward.{stop_of}
use Rattle.cli_run.specs.Refusals.{number_of}
use Rattle.cli_run.proofs.CloseSteps.{closes, closes_enough}
use Rattle.cli_run.proofs.GoEnds.{breaks, ends_short, finished, goes_on, grows, halts, not_less, not_told, stays}
use Rattle.cli_run.specs.declared.tally.Tally.{Tally}
use Rattle.cli_run.proofs.KnownPackets.{known_first, known_still}
use Rattle.cli_run.proofs.GoSteps.{gone_none, within, done_small, reach, reach_enough, at_fault, stop_hand}
use Rattle.cli_run.proofs.going.hand_parts.Goals as goal

-- a flag that is not set, or is
unset : (b : Bool) → not b ≡ true → b ≡ false
unset true e = sym e
unset false e = refl

set : (b : Bool) → not b ≡ false → b ≡ true
set true e = refl
set false e = sym e

-- a packet that is not there
none_if : (p : Option ℕ) (b : Bool) → is_some p ≡ not b → b ≡ is_none p
none_if None true e = refl
none_if None false e = absurd (false≢true e)
none_if (Some n) true e = absurd (false≢true (sym e))
none_if (Some n) false e = refl

pub parts-init : goal.parts-init
parts-init g c = (gone_none _ _ _ g.met.V.MessageVisitor.adds_up.nothing c.requires.new, c.requires.new.stopped, c.requires.settled, refl, known_first g.R.Source.packets g.R.Source.packet c.args.messages.now _ _ c.requires.new, λ _. (refl, refl))

pub hand_all-requires : goal.hand_all-requires
hand_all-requires g c =
    let h = c.parts.invariant.0 in
    record { unstopped = c.parts.invariant.1; within = h.covered.limits_are; few = (within h).count }

pub returns-in-Err-clause-passes : goal.returns-in-Err-clause-passes
returns-in-Err-clause-passes g c =
    stop_hand c.parts.invariant.0 g.met.V.MessageVisitor.adds_up c.parts.invariant.4 c.hand_all.new.messages c.hand_all.new.visitor c.in-Err.cause c.in-Err.ensures.hands

pub returns-in-None-clause-passes : goal.returns-in-None-clause-passes
returns-in-None-clause-passes g c =
    let laws = g.met.V.MessageVisitor.adds_up in
    let known = known_still g.R.Source.packets g.R.Source.packet c.parts.messages c.hand_all.new.messages _ c.hand_all.ensures.packets c.parts.invariant.4 in
    elim c.in-Ok.ensures.hands [
      | inl all ↦ closes (finished laws (reach c.parts.invariant.0 laws c.parts.invariant.4 c.hand_all.new.messages c.hand_all.new.visitor known c.hand_all.ensures.looked c.in-Ok.counted c.up_to-tally.result c.up_to-tally.ensures all) c.in-None.is) laws
          c.in-Ok.ensures.settled c.close.new.visitor c.close.result c.close.ensures.closes
      | inr enough ↦ closes_enough (reach_enough c.parts.invariant.0 laws c.parts.invariant.4 c.hand_all.new.messages c.hand_all.new.visitor c.parts.invariant.5 c.in-Ok.counted c.up_to-tally.result c.up_to-tally.ensures enough) laws
          c.in-Ok.ensures.settled c.close.new.visitor c.close.result c.close.ensures.closes
    ]

pub overflow_add-refusal : goal.overflow_add-refusal
overflow_add-refusal g c =
    let r = reach c.parts.invariant.0 g.met.V.MessageVisitor.adds_up c.parts.invariant.4 c.hand_all.new.messages c.hand_all.new.visitor
    (known_still g.R.Source.packets g.R.Source.packet c.parts.messages c.hand_all.new.messages _ c.hand_all.ensures.packets c.parts.invariant.4) c.hand_all.ensures.looked c.in-Ok.counted c.up_to-tally.result c.up_to-tally.ensures (at_fault c.parts.invariant.0 g.met.V.MessageVisitor.adds_up c.parts.invariant.4 c.hand_all.new.messages c.hand_all.new.visitor c.in-Ok.counted _ c.in-Some.is c.in-Ok.ensures.hands) in
    let far = within r.gone in
    omega (arith, far.count, far.small, r.count_is)

pub returns-in-Err-tell-clause-passes : goal.returns-in-Err-tell-clause-passes
returns-in-Err-tell-clause-passes g c =
    let laws = g.met.V.MessageVisitor.adds_up in
    let r = reach c.parts.invariant.0 laws c.parts.invariant.4 c.hand_all.new.messages c.hand_all.new.visitor
    (known_still g.R.Source.packets g.R.Source.packet c.parts.messages c.hand_all.new.messages _ c.hand_all.ensures.packets c.parts.invariant.4) c.hand_all.ensures.looked c.in-Ok.counted c.up_to-tally.result c.up_to-tally.ensures (at_fault c.parts.invariant.0 g.met.V.MessageVisitor.adds_up c.parts.invariant.4 c.hand_all.new.messages c.hand_all.new.visitor c.in-Ok.counted _ c.in-Some.is c.in-Ok.ensures.hands) in
    not_told laws r c.in-Some.is c.number_of.result (c.number_of.ensures ∙ ap number_of c.packet.ensures) c.tell.ensures.front.0 c.tell.ensures.front.1 c.in-Ok.ensures.settled c.tell.new.visitor c.in-Err-tell.stop c.in-Err-tell.ensures.tells

pub returns-then-not-settings-clause-passes : goal.returns-then-not-settings-clause-passes
returns-then-not-settings-clause-passes g c =
    let laws = g.met.V.MessageVisitor.adds_up in
    let r = reach c.parts.invariant.0 laws c.parts.invariant.4 c.hand_all.new.messages c.hand_all.new.visitor
    (known_still g.R.Source.packets g.R.Source.packet c.parts.messages c.hand_all.new.messages _ c.hand_all.ensures.packets c.parts.invariant.4) c.hand_all.ensures.looked c.in-Ok.counted c.up_to-tally.result c.up_to-tally.ensures (at_fault c.parts.invariant.0 g.met.V.MessageVisitor.adds_up c.parts.invariant.4 c.hand_all.new.messages c.hand_all.new.visitor c.in-Ok.counted _ c.in-Some.is c.in-Ok.ensures.hands) in
    let told = c.in-Ok-tell.ensures.tells in
    let ended = halts laws r c.in-Some.is c.number_of.result (c.number_of.ensures ∙ ap number_of c.packet.ensures) c.tell.ensures.front.0 c.tell.ensures.front.1 told.0 told.1 told.2 (unset c.args.settings.keeps_going c.if-not-settings.true) in
    closes ended laws c.in-Ok-tell.ensures.settled c.close-then-not-settings.new.visitor c.close-then-not-settings.result c.close-then-not-settings.ensures.closes

pub returns-in-Ok-CutOff-clause-passes : goal.returns-in-Ok-CutOff-clause-passes
returns-in-Ok-CutOff-clause-passes g c =
    let laws = g.met.V.MessageVisitor.adds_up in
    let r = reach c.parts.invariant.0 laws c.parts.invariant.4 c.hand_all.new.messages c.hand_all.new.visitor
    (known_still g.R.Source.packets g.R.Source.packet c.parts.messages c.hand_all.new.messages _ c.hand_all.ensures.packets c.parts.invariant.4) c.hand_all.ensures.looked c.in-Ok.counted c.up_to-tally.result c.up_to-tally.ensures (at_fault c.parts.invariant.0 g.met.V.MessageVisitor.adds_up c.parts.invariant.4 c.hand_all.new.messages c.hand_all.new.visitor c.in-Ok.counted _ c.in-Some.is c.in-Ok.ensures.hands) in
    let told = c.in-Ok-tell.ensures.tells in
    let ended = ends_short laws r c.in-Some.is c.number_of.result (c.number_of.ensures ∙ ap number_of c.packet.ensures) c.tell.ensures.front.0 c.tell.ensures.front.1 told.0 told.1 told.2 c.pass.new.messages (known_still g.R.Source.packets g.R.Source.packet c.parts.messages c.hand_all.new.messages _ c.hand_all.ensures.packets c.parts.invariant.4) c.at_end-ended.result c.done-in-Ok-CutOff.result c.is_none.result (none_if c.number_of.result c.is_none.result c.is_none.ensures) c.done-in-Ok-CutOff.ensures c.at_end-ended.ensures (set c.args.settings.keeps_going c.if-not-settings.false) (rw c.in-Ok-CutOff.field-0-is at c.in-Ok-CutOff.ensures.passes) (rw c.in-Ok-CutOff.field-0-is at c.in-Ok-CutOff.ensures.in_packet) c.in-Ok-CutOff.ensures.failed in
    closes ended laws c.in-Ok-tell.ensures.settled c.close-in-Ok-CutOff.new.visitor c.close-in-Ok-CutOff.result c.close-in-Ok-CutOff.ensures.closes

pub returns-in-Ok-Not-clause-passes : goal.returns-in-Ok-Not-clause-passes
returns-in-Ok-Not-clause-passes g c =
    let laws = g.met.V.MessageVisitor.adds_up in
    let r = reach c.parts.invariant.0 laws c.parts.invariant.4 c.hand_all.new.messages c.hand_all.new.visitor
    (known_still g.R.Source.packets g.R.Source.packet c.parts.messages c.hand_all.new.messages _ c.hand_all.ensures.packets c.parts.invariant.4) c.hand_all.ensures.looked c.in-Ok.counted c.up_to-tally.result c.up_to-tally.ensures (at_fault c.parts.invariant.0 g.met.V.MessageVisitor.adds_up c.parts.invariant.4 c.hand_all.new.messages c.hand_all.new.visitor c.in-Ok.counted _ c.in-Some.is c.in-Ok.ensures.hands) in
    let told = c.in-Ok-tell.ensures.tells in
    let ended = stays laws r c.in-Some.is c.number_of.result (c.number_of.ensures ∙ ap number_of c.packet.ensures) c.tell.ensures.front.0 c.tell.ensures.front.1 told.0 told.1 told.2 c.pass.new.messages (known_still g.R.Source.packets g.R.Source.packet c.parts.messages c.hand_all.new.messages _ c.hand_all.ensures.packets c.parts.invariant.4) (set c.args.settings.keeps_going c.if-not-settings.false) (rw c.in-Ok-Not.field-0-is at c.in-Ok-Not.ensures.passes) (rw c.in-Ok-Not.field-0-is at c.in-Ok-Not.ensures.in_packet) c.in-Ok-Not.ensures.failed in
    closes ended laws c.in-Ok-tell.ensures.settled c.close-in-Ok-Not.new.visitor c.close-in-Ok-Not.result c.close-in-Ok-Not.ensures.closes

pub returns-in-Err-pass-clause-passes : goal.returns-in-Err-pass-clause-passes
returns-in-Err-pass-clause-passes g c =
    let laws = g.met.V.MessageVisitor.adds_up in
    let r = reach c.parts.invariant.0 laws c.parts.invariant.4 c.hand_all.new.messages c.hand_all.new.visitor
    (known_still g.R.Source.packets g.R.Source.packet c.parts.messages c.hand_all.new.messages _ c.hand_all.ensures.packets c.parts.invariant.4) c.hand_all.ensures.looked c.in-Ok.counted c.up_to-tally.result c.up_to-tally.ensures (at_fault c.parts.invariant.0 g.met.V.MessageVisitor.adds_up c.parts.invariant.4 c.hand_all.new.messages c.hand_all.new.visitor c.in-Ok.counted _ c.in-Some.is c.in-Ok.ensures.hands) in
    let told = c.in-Ok-tell.ensures.tells in
    rw c.cause_of.ensures
    (breaks laws r c.in-Some.is c.number_of.result (c.number_of.ensures ∙ ap number_of c.packet.ensures) c.tell.ensures.front.0 c.tell.ensures.front.1 told.0 told.1 told.2 c.pass.new.messages (known_still g.R.Source.packets g.R.Source.packet c.parts.messages c.hand_all.new.messages _ c.hand_all.ensures.packets c.parts.invariant.4) c.in-Ok-tell.ensures.settled (set c.args.settings.keeps_going c.if-not-settings.false) c.in-Err-pass.fault
    c.in-Err-pass.ensures.passes c.in-Err-pass.ensures.in_packet c.in-Err-pass.ensures.failed)

pub pass-requires : goal.pass-requires
pass-requires g c =
    let r = reach c.parts.invariant.0 g.met.V.MessageVisitor.adds_up c.parts.invariant.4 c.hand_all.new.messages c.hand_all.new.visitor
    (known_still g.R.Source.packets g.R.Source.packet c.parts.messages c.hand_all.new.messages _ c.hand_all.ensures.packets c.parts.invariant.4) c.hand_all.ensures.looked c.in-Ok.counted c.up_to-tally.result c.up_to-tally.ensures (at_fault c.parts.invariant.0 g.met.V.MessageVisitor.adds_up c.parts.invariant.4 c.hand_all.new.messages c.hand_all.new.visitor c.in-Ok.counted _ c.in-Some.is c.in-Ok.ensures.hands) in
    (c.in-Some.fault, r.stopped ∙ ap stop_of c.in-Some.is)

pub at_end-ended-requires : goal.at_end-ended-requires
at_end-ended-requires g c =
    let r = reach c.parts.invariant.0 g.met.V.MessageVisitor.adds_up c.parts.invariant.4 c.hand_all.new.messages c.hand_all.new.visitor
    (known_still g.R.Source.packets g.R.Source.packet c.parts.messages c.hand_all.new.messages _ c.hand_all.ensures.packets c.parts.invariant.4) c.hand_all.ensures.looked c.in-Ok.counted c.up_to-tally.result c.up_to-tally.ensures (at_fault c.parts.invariant.0 g.met.V.MessageVisitor.adds_up c.parts.invariant.4 c.hand_all.new.messages c.hand_all.new.visitor c.in-Ok.counted _ c.in-Some.is c.in-Ok.ensures.hands) in
    let far = within r.gone in
    let on = not_less g.met.V.MessageVisitor.adds_up r c.in-Some.is c.number_of.result (c.number_of.ensures ∙ ap number_of c.packet.ensures) c.tell.ensures.front.0 c.tell.ensures.front.1 c.pass.new.messages (known_still g.R.Source.packets g.R.Source.packet c.parts.messages c.hand_all.new.messages _ c.hand_all.ensures.packets c.parts.invariant.4) (rw c.in-Ok-CutOff.field-0-is at c.in-Ok-CutOff.ensures.passes) (rw c.in-Ok-CutOff.field-0-is at c.in-Ok-CutOff.ensures.in_packet) in
    let small = done_small c.pass.new.messages in
    let end : c.done-in-Ok-CutOff.result ≡ done_of c.pass.new.messages = c.done-in-Ok-CutOff.ensures in
    record {
      few = omega (arith, far.count, far.small);
      few_passed = far.passed;
      after = omega (arith, far.size, on, end);
      low = omega (arith, far.size, far.passed_size, on, end, small);
    }

pub past-tally-requires : goal.past-tally-requires
past-tally-requires g c =
    let r = reach c.parts.invariant.0 g.met.V.MessageVisitor.adds_up c.parts.invariant.4 c.hand_all.new.messages c.hand_all.new.visitor
    (known_still g.R.Source.packets g.R.Source.packet c.parts.messages c.hand_all.new.messages _ c.hand_all.ensures.packets c.parts.invariant.4) c.hand_all.ensures.looked c.in-Ok.counted c.up_to-tally.result c.up_to-tally.ensures (at_fault c.parts.invariant.0 g.met.V.MessageVisitor.adds_up c.parts.invariant.4 c.hand_all.new.messages c.hand_all.new.visitor c.in-Ok.counted _ c.in-Some.is c.in-Ok.ensures.hands) in
    let far = within r.gone in
    let on = grows g.met.V.MessageVisitor.adds_up r c.in-Some.is c.number_of.result (c.number_of.ensures ∙ ap number_of c.packet.ensures) c.tell.ensures.front.0 c.tell.ensures.front.1 c.pass.new.messages (known_still g.R.Source.packets g.R.Source.packet c.parts.messages c.hand_all.new.messages _ c.hand_all.ensures.packets c.parts.invariant.4) (rw c.in-Ok-Over.field-0-is at c.in-Ok-Over.ensures.passes) (rw c.in-Ok-Over.field-0-is at c.in-Ok-Over.ensures.in_packet) in
    let small = done_small c.pass.new.messages in
    let end : c.done.result ≡ done_of c.pass.new.messages = c.done.ensures in
    record {
      few = omega (arith, far.count, far.small);
      few_passed = far.passed;
      after = omega (arith, far.size, on.1, end);
      low = omega (arith, far.size, far.passed_size, on.1, end, small);
    }

pub parts-preserved : goal.parts-preserved
parts-preserved g c =
    let laws = g.met.V.MessageVisitor.adds_up in
    let r = reach c.parts.invariant.0 laws c.parts.invariant.4 c.hand_all.new.messages c.hand_all.new.visitor
    (known_still g.R.Source.packets g.R.Source.packet c.parts.messages c.hand_all.new.messages _ c.hand_all.ensures.packets c.parts.invariant.4) c.hand_all.ensures.looked c.in-Ok.counted c.up_to-tally.result c.up_to-tally.ensures (at_fault c.parts.invariant.0 g.met.V.MessageVisitor.adds_up c.parts.invariant.4 c.hand_all.new.messages c.hand_all.new.visitor c.in-Ok.counted _ c.in-Some.is c.in-Ok.ensures.hands) in
    let told = c.in-Ok-tell.ensures.tells in
    let known = known_still g.R.Source.packets g.R.Source.packet c.parts.messages c.hand_all.new.messages _ c.hand_all.ensures.packets c.parts.invariant.4 in
    let passes = rw c.in-Ok-Over.field-0-is at c.in-Ok-Over.ensures.passes in
    let input = rw c.in-Ok-Over.field-0-is at c.in-Ok-Over.ensures.in_packet in (
      goes_on laws r c.in-Some.is c.number_of.result (c.number_of.ensures ∙ ap number_of c.packet.ensures) c.tell.ensures.front.0 c.tell.ensures.front.1 told.0 told.1 told.2 c.pass.new.messages known c.past-tally.result c.done.result c.done.ensures c.past-tally.ensures
          (set c.args.settings.keeps_going c.if-not-settings.false) passes input c.in-Ok-Over.ensures.failed,
      (grows laws r c.in-Some.is c.number_of.result (c.number_of.ensures ∙ ap number_of c.packet.ensures) c.tell.ensures.front.0 c.tell.ensures.front.1 c.pass.new.messages known passes input).0,
      c.in-Ok-tell.ensures.settled,
      c.pass.ensures.same_reference ∙ (c.hand_all.ensures.same_reference ∙ c.parts.invariant.3),
      known_still g.R.Source.packets g.R.Source.packet c.hand_all.new.messages c.pass.new.messages _ c.in-Ok-Over.ensures.packets
          (known_still g.R.Source.packets g.R.Source.packet c.parts.messages c.hand_all.new.messages _ c.hand_all.ensures.packets c.parts.invariant.4),
      λ none. absurd (omega (arith, none, ap (λ (t : Tally). t.passed) c.past-tally.ensures)),
    )

pub parts-smaller : goal.parts-smaller
parts-smaller g c =
    let r = reach c.parts.invariant.0 g.met.V.MessageVisitor.adds_up c.parts.invariant.4 c.hand_all.new.messages c.hand_all.new.visitor
    (known_still g.R.Source.packets g.R.Source.packet c.parts.messages c.hand_all.new.messages _ c.hand_all.ensures.packets c.parts.invariant.4) c.hand_all.ensures.looked c.in-Ok.counted c.up_to-tally.result c.up_to-tally.ensures (at_fault c.parts.invariant.0 g.met.V.MessageVisitor.adds_up c.parts.invariant.4 c.hand_all.new.messages c.hand_all.new.visitor c.in-Ok.counted _ c.in-Some.is c.in-Ok.ensures.hands) in
    let all = (at_fault c.parts.invariant.0 g.met.V.MessageVisitor.adds_up c.parts.invariant.4 c.hand_all.new.messages c.hand_all.new.visitor c.in-Ok.counted _ c.in-Some.is c.in-Ok.ensures.hands).all in
    let on = grows g.met.V.MessageVisitor.adds_up r c.in-Some.is c.number_of.result (c.number_of.ensures ∙ ap number_of c.packet.ensures) c.tell.ensures.front.0 c.tell.ensures.front.1 c.pass.new.messages (known_still g.R.Source.packets g.R.Source.packet c.parts.messages c.hand_all.new.messages _ c.hand_all.ensures.packets c.parts.invariant.4) (rw c.in-Ok-Over.field-0-is at c.in-Ok-Over.ensures.passes) (rw c.in-Ok-Over.field-0-is at c.in-Ok-Over.ensures.in_packet) in
    omega (arith, all.done, all.size_is, on.1, done_small c.pass.new.messages)
