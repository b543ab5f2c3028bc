use Rattle.std.proofs.Common.{◌≡◌, ℕ, ◌+◌, ◌-◌, List, [], ◌++◌, length, drop, get_or, sym, ap, subst, ◌∙◌, rules, arith}
use Rattle.dbus_types.specs.SignatureCodes.{IsTypeEnd, AreLengths}
use Rattle.dbus_types.proofs.TypeLengths.{ends_by, lengths_within}
use Rattle.dbus_value_model.specs.Values.{ValueTrees}
use Rattle.dbus_value_model.specs.Spelling.{spelling, spellings}
use Rattle.dbus_walk.specs.Standing.{AllStand}
use Rattle.dbus_walk.proofs.Walks.{all_left, next_value, value_left, no_value}
use Rattle.dbus_value_text.specs.Forms.{AreTexts}
use Rattle.dbus_value_text.proofs.Rows.{ValuesLed, no_values_led, value_led}
use Rattle.dbus_value_text.proofs.body.write_body.Goals as goal

-- the type that begins there ends where its length says
ends_at : {types lengths : List ℕ} → AreLengths types lengths → (pos : ℕ) {k : ℕ} → k ≡ get_or lengths pos 0 → IsTypeEnd types pos (pos + k)
ends_at {types} {lengths} noted pos is t more e = ap (λ (n : ℕ). pos + n) is ∙ ends_by types lengths noted pos t more e

pub loop-pos-init : goal.loop-pos-init
loop-pos-init g c =
    let source = c.source-source.result in
    let body = c.body-body.result in
    record {
      within = omega arith;
      left = λ vs rest e.
          all_left source.order body.at vs (λ place us. AllStand source.order body.depth_left (drop 0 body.types.now) place source.bytes.now us rest)
          (ValuesLed g.D.Draft.gains c.args.lead.now c.args.separator.now c.args.draft.now g.F.ValueForm.is_text c.args.draft.now c.args.lead.now) e (no_values_led g.D.Draft.gains c.args.lead.now c.args.separator.now c.args.draft.now g.F.ValueForm.is_text (g.met.D.Draft.nothing c.args.draft.now));
      utf8 = search rules;
    }

pub slice_bounds-spot-end : goal.slice_bounds-spot-end
slice_bounds-spot-end g c =
    let h = c.requires.validated in
    let body = c.body-body in
    let left = c.loop-pos.invariant.left h.message.body [] (body.ensures.stand c.source-source.result h.message c.source-source.ensures.own h.whole) in
    let n = next_value body.result.types.now c.loop-pos.pos left _ c.loop-pos-test.true (ends_at body.ensures.noted c.loop-pos.pos c.from.ensures) in
    omega (arith, n.inside)

pub loop-pos-smaller : goal.loop-pos-smaller
loop-pos-smaller g c =
    let h = c.requires.validated in
    let body = c.body-body in
    let left = c.loop-pos.invariant.left h.message.body [] (body.ensures.stand c.source-source.result h.message c.source-source.ensures.own h.whole) in
    let n = next_value body.result.types.now c.loop-pos.pos left _ c.loop-pos-test.true (ends_at body.ensures.noted c.loop-pos.pos c.from.ensures) in
    omega (arith, n.some, n.inside)

pub write_value-place-requires : goal.write_value-place-requires
write_value-place-requires g c =
    let h = c.requires.validated in
    let body = c.body-body in
    let pos = c.loop-pos.pos in
    let left = c.loop-pos.invariant.left h.message.body [] (body.ensures.stand c.source-source.result h.message c.source-source.ensures.own h.whole) in
    let n = next_value body.result.types.now pos left _ c.loop-pos-test.true (ends_at body.ensures.noted pos c.from.ensures) in
    record {
      stands = (n.v, _, n.stands);
      noted = lengths_within body.result.types.now body.result.lengths.now body.ensures.noted pos (pos + c.from.result - pos);
    }

pub loop-pos-preserved : goal.loop-pos-preserved
loop-pos-preserved g c =
    let h = c.requires.validated in
    let order = c.source-source.result.order in
    let body = c.body-body in
    let types = body.result.types.now in
    let pos = c.loop-pos.pos in
    let place = c.loop-pos.place in
    let is = ends_at body.ensures.noted pos c.from.ensures in
    let one = next_value types pos (c.loop-pos.invariant.left h.message.body [] (body.ensures.stand c.source-source.result h.message c.source-source.ensures.own h.whole)) _ c.loop-pos-test.true is in
    record {
      within = one.inside;
      left = λ vs rest e.
          let l = c.loop-pos.invariant.left vs rest e in
          let n = next_value types pos l _ c.loop-pos-test.true is in
          let w = c.write_value-place.ensures.written n.v (spellings order (place + length (spelling order place n.v)) n.us ++ rest) n.stands in
          value_left types pos l (ValuesLed g.D.Draft.gains c.args.lead.now c.args.separator.now c.args.draft.now g.F.ValueForm.is_text c.write_value-place.new.draft c.args.separator.now) _ n c.write_value-place.result w.1
          (value_led g.D.Draft.gains c.args.lead.now c.args.separator.now c.args.draft.now g.F.ValueForm.is_text g.met.D.Draft.joins c.loop-pos.draft c.push_str.new.self c.write_value-place.new.draft c.loop-pos.before.now l.done n.v w.0.0 l.walked c.push_str.ensures w.0.1 w.0.2);
      utf8 = search rules;
    }

pub returns : goal.returns
returns g c = record {
  written = λ m whole.
      let l = c.loop-pos.invariant.left m.body [] (c.body-body.ensures.stand c.source-source.result m c.source-source.ensures.own whole) in
      let ended = no_value c.body-body.result.types.now c.loop-pos.pos l c.loop-pos-test.false in
      let led = l.walked in
      (led.0, subst (λ (us : ValueTrees). AreTexts g.F.ValueForm.is_text us led.0) (sym ended.0) led.1, led.2.gained);
}
