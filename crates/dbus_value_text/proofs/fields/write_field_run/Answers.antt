use Rattle.std.proofs.Common.{ℕ, ◌+◌, true, false, sym, ap, subst, ◌∙◌, rules, arith}
use Rattle.dbus_walk.proofs.FieldParts.{none_walked, next_field, field_walked, all_walked}
use Rattle.dbus_value_text.proofs.Rows.{FieldsLed, no_fields_led, field_led, field_passed}
use Rattle.dbus_value_text.proofs.fields.write_field_run.Goals as goal

pub loop-at-init : goal.loop-at-init
loop-at-init g c = record {
  left = λ fs rest s. none_walked _ c.args.run.now.depth_left 16 c.args.run.now.end fs rest
      (FieldsLed g.D.Draft.gains c.args.lead.now c.args.separator.now c.args.draft.now g.F.FieldForm.is_taken (g.F.FieldForm.is_text c.args.form.now) c.args.draft.now c.args.lead.now 0 (record { all = true; end = 0 })) s
      (no_fields_led g.D.Draft.gains c.args.lead.now c.args.separator.now c.args.draft.now g.F.FieldForm.is_taken (g.F.FieldForm.is_text c.args.form.now) (g.met.D.Draft.nothing c.args.draft.now));
  few = omega arith;
  utf8 = search rules;
}

pub field_at-field-requires : goal.field_at-field-requires
field_at-field-requires g c =
    let h = c.requires.stand in
    let n = next_field (c.loop-at.invariant.left h.0 h.1 h.2) c.loop-at-test.true in
    record { stands = (n.f, n.after, n.stands) }

pub lengths_of-requires : goal.lengths_of-requires
lengths_of-requires g c =
    let h = c.requires.stand in
    let n = next_field (c.loop-at.invariant.left h.0 h.1 h.2) c.loop-at-test.true in
    record { few = (c.field_at-field.ensures n.f n.after n.stands).few }

pub field-at-requires-clause-stands : goal.field-at-requires-clause-stands
field-at-requires-clause-stands g c =
    let h = c.requires.stand in
    let n = next_field (c.loop-at.invariant.left h.0 h.1 h.2) c.loop-at-test.true in
    (n.f.value, n.after, (c.field_at-field.ensures n.f n.after n.stands).value)

pub skip_value-at-requires-clause-stands : goal.skip_value-at-requires-clause-stands
skip_value-at-requires-clause-stands g c =
    let h = c.requires.stand in
    let n = next_field (c.loop-at.invariant.left h.0 h.1 h.2) c.loop-at-test.true in
    (n.f.value, n.after, (c.field_at-field.ensures n.f n.after n.stands).value)

pub loop-at-smaller-then-takes : goal.loop-at-smaller-then-takes
loop-at-smaller-then-takes g c =
    let h = c.requires.stand in
    let n = next_field (c.loop-at.invariant.left h.0 h.1 h.2) c.loop-at-test.true in
    let p = c.field_at-field.ensures n.f n.after n.stands in
    let w = c.field-at.ensures.written n.f.value n.after p.value in
    omega (arith, w.1 ∙ p.ends, n.some, c.loop-at-test.true)

pub loop-at-smaller : goal.loop-at-smaller
loop-at-smaller g c =
    let h = c.requires.stand in
    let n = next_field (c.loop-at.invariant.left h.0 h.1 h.2) c.loop-at-test.true in
    let p = c.field_at-field.ensures n.f n.after n.stands in
    omega (arith, c.skip_value-at.ensures n.f.value n.after p.value ∙ p.ends, n.some, c.loop-at-test.true)

pub loop-at-preserved-then-takes : goal.loop-at-preserved-then-takes
loop-at-preserved-then-takes g c = record {
  left = λ fs rest s.
      let l = c.loop-at.invariant.left fs rest s in
      let n = next_field l c.loop-at-test.true in
      let p = c.field_at-field.ensures n.f n.after n.stands in
      let w = c.field-at.ensures.written n.f.value n.after p.value in
      let is_text = g.F.FieldForm.is_text c.args.form.now in
      let taken = ap g.F.FieldForm.is_taken p.code ∙ sym c.takes.ensures ∙ c.if-takes.true in
      field_walked l (FieldsLed g.D.Draft.gains c.args.lead.now c.args.separator.now c.args.draft.now g.F.FieldForm.is_taken is_text c.field-at.new.draft c.args.separator.now (c.loop-at.place + 1) (record { all = c.loop-at.taken.all; end = c.loop-at.place + 1 })) n c.field-at.result (w.1 ∙ p.ends)
      (field_led g.D.Draft.gains c.args.lead.now c.args.separator.now c.args.draft.now g.F.FieldForm.is_taken is_text g.met.D.Draft.joins c.loop-at.draft c.push_str.new.self c.field-at.new.draft c.loop-at.before.now c.loop-at.place c.loop-at.taken l.done n.f w.0.0 l.walked taken
      c.push_str.ensures (subst (λ (k : ℕ). is_text c.loop-at.place k n.f.value w.0.0) (sym p.code) w.0.1) w.0.2);
  few =
      let h = c.requires.stand in
      let n = next_field (c.loop-at.invariant.left h.0 h.1 h.2) c.loop-at-test.true in
      let p = c.field_at-field.ensures n.f n.after n.stands in
      let w = c.field-at.ensures.written n.f.value n.after p.value in
      omega (arith, w.1 ∙ p.ends, n.some, c.loop-at.invariant.few);
  utf8 = search rules;
}

pub loop-at-preserved : goal.loop-at-preserved
loop-at-preserved g c = record {
  left = λ fs rest s.
      let l = c.loop-at.invariant.left fs rest s in
      let n = next_field l c.loop-at-test.true in
      let p = c.field_at-field.ensures n.f n.after n.stands in
      let passed = ap g.F.FieldForm.is_taken p.code ∙ sym c.takes.ensures ∙ c.if-takes.false in
      field_walked l (FieldsLed g.D.Draft.gains c.args.lead.now c.args.separator.now c.args.draft.now g.F.FieldForm.is_taken (g.F.FieldForm.is_text c.args.form.now) c.loop-at.draft c.loop-at.before.now (c.loop-at.place + 1) (record { all = false; end = c.loop-at.taken.end })) n
      c.skip_value-at.result (c.skip_value-at.ensures n.f.value n.after p.value ∙ p.ends)
      (field_passed g.D.Draft.gains c.args.lead.now c.args.separator.now c.args.draft.now g.F.FieldForm.is_taken (g.F.FieldForm.is_text c.args.form.now) c.loop-at.draft c.loop-at.before.now c.loop-at.place c.loop-at.taken l.done n.f l.walked passed);
  few =
      let h = c.requires.stand in
      let n = next_field (c.loop-at.invariant.left h.0 h.1 h.2) c.loop-at-test.true in
      let p = c.field_at-field.ensures n.f n.after n.stands in
      omega (arith, c.skip_value-at.ensures n.f.value n.after p.value ∙ p.ends, n.some, c.loop-at.invariant.few);
  utf8 = search rules;
}

pub returns : goal.returns
returns g c = record {
  written = λ fs rest s.
      let led = all_walked (c.loop-at.invariant.left fs rest s) c.loop-at-test.false in
      (led.texts, led.are, led.led.gained);
  all = λ fs rest s. (all_walked (c.loop-at.invariant.left fs rest s) c.loop-at-test.false).all;
  end = λ fs rest s. (all_walked (c.loop-at.invariant.left fs rest s) c.loop-at-test.false).end;
}
