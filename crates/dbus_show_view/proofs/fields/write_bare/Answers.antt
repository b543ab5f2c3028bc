use Rattle.std.proofs.Common.{◌≡◌, ℕ, List, decimal, sym, ap, subst, ◌∙◌, arith}
use Rattle.dbus_show.specs.ShownValues.{value_text}
use Rattle.dbus_show.specs.ShownMessages.{bare}
use Rattle.dbus_show_view.proofs.FieldParts.{text_utf8, text_bare, number_wide, number_bare, number_other, laid_other}
use Rattle.dbus_show_view.proofs.fields.write_bare.Goals as goal
use Rattle.dbus_show_view.proofs.fields.write_bare.Goals.{in_default-via-in-Number+else-spot-eq117, in_default-via-in_default}

pub overflow_add-start : goal.overflow_add-start
overflow_add-start g c = let there = c.requires.stands in let p = c.in-LongText.ensures there.0 there.1 there.2 in omega (arith, p.inside)

pub text_in-requires-clause-inside : goal.text_in-requires-clause-inside
text_in-requires-clause-inside g c = let there = c.requires.stands in let p = c.in-LongText.ensures there.0 there.1 there.2 in omega (arith, p.inside)

pub text_in-requires-clause-utf8 : goal.text_in-requires-clause-utf8
text_in-requires-clause-utf8 g c = let there = c.requires.stands in text_utf8 there.2 (c.in-LongText.ensures there.0 there.1 there.2)

pub overflow_add-result : goal.overflow_add-result
overflow_add-result g c = let there = c.requires.stands in let p = c.in-LongText.ensures there.0 there.1 there.2 in omega (arith, p.inside)

pub overflow_add-result-in-LongText : goal.overflow_add-result-in-LongText
overflow_add-result-in-LongText g c = let there = c.requires.stands in let p = c.in-LongText.ensures there.0 there.1 there.2 in omega (arith, p.inside)

pub overflow_add-result-in-LongText-2 : goal.overflow_add-result-in-LongText-2
overflow_add-result-in-LongText-2 g c = let there = c.requires.stands in let p = c.in-LongText.ensures there.0 there.1 there.2 in omega (arith, p.inside)

pub returns-in-LongText : goal.returns-in-LongText
returns-in-LongText g c = record {
  shown = λ v rest s.
      let p = c.in-LongText.ensures v rest s in
      (subst (λ (text : List ℕ). g.D.Draft.gains c.args.draft.now text c.push_str.new.self) (c.text_in.ensures ∙ text_bare s p) c.push_str.ensures, p.ends);
}

pub overflow_add-spot : goal.overflow_add-spot
overflow_add-spot g c = let there = c.requires.stands in let p = c.in-ShortText.ensures there.0 there.1 there.2 in omega (arith, p.inside)

pub text_in-requires-in-ShortText-clause-inside : goal.text_in-requires-in-ShortText-clause-inside
text_in-requires-in-ShortText-clause-inside g c = let there = c.requires.stands in let p = c.in-ShortText.ensures there.0 there.1 there.2 in omega (arith, p.inside)

pub text_in-requires-in-ShortText-clause-utf8 : goal.text_in-requires-in-ShortText-clause-utf8
text_in-requires-in-ShortText-clause-utf8 g c = let there = c.requires.stands in text_utf8 there.2 (c.in-ShortText.ensures there.0 there.1 there.2)

pub overflow_add-result-in-ShortText : goal.overflow_add-result-in-ShortText
overflow_add-result-in-ShortText g c = let there = c.requires.stands in let p = c.in-ShortText.ensures there.0 there.1 there.2 in omega (arith, p.inside)

pub overflow_add-result-in-ShortText-2 : goal.overflow_add-result-in-ShortText-2
overflow_add-result-in-ShortText-2 g c = let there = c.requires.stands in let p = c.in-ShortText.ensures there.0 there.1 there.2 in omega (arith, p.inside)

pub overflow_add-result-in-ShortText-3 : goal.overflow_add-result-in-ShortText-3
overflow_add-result-in-ShortText-3 g c = let there = c.requires.stands in let p = c.in-ShortText.ensures there.0 there.1 there.2 in omega (arith, p.inside)

pub returns-in-ShortText : goal.returns-in-ShortText
returns-in-ShortText g c = record {
  shown = λ v rest s.
      let p = c.in-ShortText.ensures v rest s in
      (subst (λ (text : List ℕ). g.D.Draft.gains c.args.draft.now text c.push_str-in-ShortText.new.self) (c.text_in-in-ShortText.ensures ∙ text_bare s p) c.push_str-in-ShortText.ensures, p.ends);
}

pub u32_at-requires : goal.u32_at-requires
u32_at-requires g c =
    let there = c.requires.stands in
    let p = c.in-Number.ensures there.0 there.1 there.2 in
    omega (arith, p.inside, number_wide there.2 p c.if-spot-eq117.true)

pub overflow_add-result-in-Number : goal.overflow_add-result-in-Number
overflow_add-result-in-Number g c =
    let there = c.requires.stands in
    let p = c.in-Number.ensures there.0 there.1 there.2 in
    omega (arith, p.inside, number_wide there.2 p c.if-spot-eq117.true)

pub returns-in-Number : goal.returns-in-Number
returns-in-Number g c = record {
  shown = λ v rest s.
      let p = c.in-Number.ensures v rest s in
      let text = ap decimal c.u32_at.ensures.spelled ∙ number_bare s p c.if-spot-eq117.true in
      (subst (λ (text : List ℕ). g.D.Draft.gains c.args.draft.now text c.write_integer.new.draft) text c.write_integer.ensures, omega (arith, p.ends, number_wide s p c.if-spot-eq117.true));
}

pub returns-in_default : goal.returns-in_default
returns-in_default g c = record {
  shown = λ v rest s.
      let w = c.write_value.ensures.written v rest s in
      let same : bare v ≡ value_text v =
      elim c.in_default.branch [ in_default-via-in-Number+else-spot-eq117 b ↦ number_other s (b.in-Number.ensures v rest s) b.if-spot-eq117.false | in_default-via-in_default b ↦ laid_other c.args.source.now c.args.spot.now v rest c.layout.result (c.layout.ensures v rest s) b.in_default.not-Number b.in_default.not-LongText b.in_default.not-ShortText ] in
      (subst (λ (text : List ℕ). g.D.Draft.gains c.args.draft.now text c.write_value.new.draft) (w.0.1 ∙ sym same) w.0.2, w.1);
}
