use Rattle.std.proofs.Common.{length, sym, ap, subst, ◌∙◌, arith}
use Rattle.std.proofs.lemmas.Bool.{eqb-true, eqb-false}
use Rattle.dbus_value_model.specs.Values.{ValueTree, MoreValues}
use Rattle.dbus_values.specs.States.{ValuesState, AreLeft, values_at}
use Rattle.dbus_values.proofs.Views.{no_values, value_of}
use Rattle.dbus_unmarshal.proofs.copying.copy_value.Goals as goal

pub returns-then-is_empty-clause-copied : goal.returns-then-is_empty-clause-copied
returns-then-is_empty-clause-copied g c = λ xs rest l.
    let none = eqb-true (length c.place.result.1.types.now) 0 (sym c.if-is_empty.ensures) in
    no_values c.args.values.now xs rest l (ap (λ (s : ValuesState). length s.types) (sym c.place.ensures.place) ∙ none)

pub build_typed-requires-clause-stands : goal.build_typed-requires-clause-stands
build_typed-requires-clause-stands g c =
    let some = c.place.ensures.some in
    let not = eqb-false (length c.place.result.1.types.now) 0 (sym c.if-is_empty.ensures) in
    let l = subst (λ (s : ValuesState). AreLeft s some.1 some.2) (sym c.place.ensures.place) some.3 in
    let f = value_of (values_at c.place.result.0 c.place.result.1) some.1 some.2 c.type_end-end.result l (omega (arith, not)) c.type_end-end.ensures.value in
    (f.x, _, f.stands)

pub returns-clause-copied : goal.returns-clause-copied
returns-clause-copied g c = λ xs rest l.
    let not = eqb-false (length c.place.result.1.types.now) 0 (sym c.if-is_empty.ensures) in
    let there = subst (λ (s : ValuesState). AreLeft s xs rest) (sym c.place.ensures.place) l in
    let f = value_of (values_at c.place.result.0 c.place.result.1) xs rest c.type_end-end.result there (omega (arith, not)) c.type_end-end.ensures.value in
    let one = c.in_ok-value.ensures.built f.x _ f.stands in
    (f.us, f.begins ∙ ap (λ (v : ValueTree). MoreValues v f.us) (sym one.0))
