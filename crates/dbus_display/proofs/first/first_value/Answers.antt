use Rattle.std.proofs.Common.{ℕ, List, length, sym, ap, subst, ◌∙◌, arith, ◌≤◌}
use Rattle.std.proofs.lemmas.Bool.{eqb-true, eqb-false}
use Rattle.std.proofs.lemmas.List.{length-take}
use Rattle.dbus_value_model.specs.Values.{NoValues, MoreValues}
use Rattle.dbus_values.specs.States.{ValuesState, AreLeft, values_at}
use Rattle.dbus_values.proofs.Views.{no_values, value_of}
use Rattle.dbus_display.proofs.Alone.{first_left}
use Rattle.dbus_display.proofs.first.first_value.Goals as goal

pub returns-then-is_empty : goal.returns-then-is_empty
returns-then-is_empty c = record {
  first = λ xs rest l.
      let none = eqb-true (length c.place.result.1.types.now) 0 (sym c.if-is_empty.ensures) in
      no_values c.args.values.now xs rest l (ap (λ (s : ValuesState). length s.types) (sym c.place.ensures.place) ∙ none);
}

pub new-requires : goal.new-requires
new-requires c =
    let some = c.place.ensures.some in
    let not = eqb-false (length c.place.result.1.types.now) 0 (sym c.if-is_empty.ensures) in
    let few = subst (λ (s : ValuesState). length s.types ≤ 255) (sym c.place.ensures.place) some.0 in
    let l = subst (λ (s : ValuesState). AreLeft s some.1 some.2) (sym c.place.ensures.place) some.3 in
    let f = value_of (values_at c.place.result.0 c.place.result.1) some.1 some.2 c.type_end-end.result l (omega (arith, not)) c.type_end-end.ensures.value in
    let alone = first_left l f in
    (omega (arith, few, length-take c.type_end-end.result c.place.result.1.types.now), MoreValues f.x NoValues, alone.0, alone.1)

pub returns : goal.returns
returns c = record {
  first = λ xs rest l.
      let not = eqb-false (length c.place.result.1.types.now) 0 (sym c.if-is_empty.ensures) in
      let there = subst (λ (s : ValuesState). AreLeft s xs rest) (sym c.place.ensures.place) l in
      let f = value_of (values_at c.place.result.0 c.place.result.1) xs rest c.type_end-end.result there (omega (arith, not)) c.type_end-end.ensures.value in
      let alone = subst (λ (s : ValuesState). (after : List ℕ) × AreLeft s (MoreValues f.x NoValues) after) (sym c.new.ensures) (first_left there f) in
      (f.x, f.us, alone.0, f.begins, alone.1);
}
