use Rattle.std.proofs.Common.{◌≡◌, ℕ, ◌+◌, ◌-◌, ◌<◌, ◌≤◌, List, [], ◌∷◌, ◌++◌, length, drop, Bool, true, false, refl, sym, ap, subst, ◌∙◌, arith, append-nil, inl, inr}
use Rattle.dbus_texts.specs.Types.{sig}
use Rattle.dbus_value_model.specs.Bytes.{gap_to}
use Rattle.std.proofs.lemmas.List.{length-take, length-drop}
use Rattle.std.proofs.lemmas.Bool.{eqb-false, eqb-true}
use Rattle.dbus_types.specs.SignatureCodes.{first_code}
use Rattle.dbus_types.proofs.TypeCodes.{code_is}
use Rattle.dbus_types.proofs.TypeLengths.{lengths_within, lengths_rest, one_length}
use Rattle.dbus_value_model.specs.Spelling.{spelling, spellings}
use Rattle.dbus_value_model.specs.Values.{ValueTree, ValueTrees, NoValues, MoreValues, VariantValue, StructValue, EntryValue, type_of, value_trees}
use Rattle.dbus_value_laws.proofs.ReadSteps.{one_byte}
use Rattle.dbus_walk.specs.declared.container.Container.TheVariants as kind
use Rattle.dbus_walk.specs.Standing.{AllStand, ElementsStand}
use Rattle.dbus_walk.specs.Containers.{IsOf, inside, is_none, parts}
use Rattle.dbus_walk.proofs.Laid.{long_coded, short_coded, laid_as}
use Rattle.dbus_walk.proofs.Together.{no_row, aligned, between_long, one_struct, one_ends, fields_inside, outermost}
use Rattle.dbus_walk.proofs.Lists.{no_elements}
use Rattle.dbus_value_model.proofs.Periods.{no_gap}
use Rattle.dbus_walk.proofs.Parts.{types_some, ends_within}
use Rattle.dbus_walk.proofs.Walks.{passed_over, not_ok, held_ok, ok_from, Taken, none_taken, more_taken, starts, first_part, all_left, next_element, element_left, no_element, first_ends, of_first, of_others, next_value, value_left, no_value}
use Rattle.dbus_walk.proofs.walk.+walk.Goals as goal

pub elements-loop-place-init : goal.elements-loop-place-init
elements-loop-place-init g t c =
    let order = c.args.source.now.order in
    let at = c.args.spot.now.at in
    let many : List ValueTree → Type 0 = λ (done : List ValueTree). g.V.Visitor.many c.args.visitor.now c.args.gathered.now order at done c.args.gathered.now c.args.visitor.now in
    record {
      ready = c.requires.ready;
      left = λ vs rest e. all_left order at vs (λ place us. ElementsStand order c.args.spot.now.depth_left c.args.spot.now.types.now place c.args.end c.args.source.now.bytes.now us rest) (Taken many order at at true) e
          (none_taken many order at (g.met.V.Visitor.none c.args.visitor.now c.args.gathered.now order at));
    }

pub elements-value-walked-requires : goal.elements-value-walked-requires
elements-value-walked-requires g t c κs within =
    let there = c.requires.stand in
    let n = next_element (c.loop-place.invariant.left there.0 there.1 there.2) c.loop-place-test.true in
    (omega arith, (within.0, (within.1.0, (within.1.1, (c.next_part.ensures.ready, ((n.v, spellings c.args.source.now.order (c.loop-place.place + length (spelling c.args.source.now.order c.loop-place.place n.v)) n.us ++ there.1, n.stands), (c.requires.noted, c.row_of-row.ensures)))))))

pub elements-loop-place-smaller : goal.elements-loop-place-smaller
elements-loop-place-smaller g t c =
    let there = c.requires.stand in
    let n = next_element (c.loop-place.invariant.left there.0 there.1 there.2) c.loop-place-test.true in
    let w = held_ok c.value-walked.result _ (sym c.is_err.ensures.value ∙ c.if-is_err.false) (c.value-walked.ensures.walked n.v (spellings c.args.source.now.order (c.loop-place.place + length (spelling c.args.source.now.order c.loop-place.place n.v)) n.us ++ there.1) n.stands) in
    omega (arith, w.1, n.some, c.loop-place-test.true)

pub elements-loop-place-preserved : goal.elements-loop-place-preserved
elements-loop-place-preserved g t c =
    let order = c.args.source.now.order in
    let at = c.args.spot.now.at in
    let place = c.loop-place.place in
    let later : List ValueTree → Type 0 = λ (done : List ValueTree). g.V.Visitor.many c.args.visitor.now c.args.gathered.now order at done c.value-walked.new.gathered c.value-walked.new.visitor in
    record {
      ready = c.value-walked.ensures.ready;
      left = λ vs rest e.
          let l = c.loop-place.invariant.left vs rest e in
          let n = next_element l c.loop-place-test.true in
          let w = held_ok c.value-walked.result _ (sym c.is_err.ensures.value ∙ c.if-is_err.false) (c.value-walked.ensures.walked n.v (spellings order (place + length (spelling order place n.v)) n.us ++ rest) n.stands) in
          element_left l (Taken later order at c.value-walked.new.spot.at false) n c.value-walked.new.spot.at w.1
          (more_taken later l.done n.v c.value-walked.new.spot.at l.walked w.1
          (g.met.V.Visitor.more c.args.visitor.now c.loop-place.visitor c.next_part.new.visitor c.value-walked.new.visitor c.args.gathered.now c.loop-place.gathered c.value-walked.new.gathered order at place l.done n.v l.walked.taken
          (subst (λ (b : Bool). g.V.Visitor.parted c.loop-place.visitor b c.next_part.new.visitor) l.walked.first c.next_part.ensures.takes) l.walked.ends w.0));
    }

pub elements-returns-then-is_err-clause-walked : goal.elements-returns-then-is_err-clause-walked
elements-returns-then-is_err-clause-walked g t c = λ vs rest e. not_ok c.value-walked.result _ (sym c.is_err.ensures.value ∙ c.if-is_err.true)

pub elements-returns-then-spot-end-clause-walked : goal.elements-returns-then-spot-end-clause-walked
elements-returns-then-spot-end-clause-walked g t c = λ vs rest e.
    ([], no_elements vs e c.if-spot-end.true, g.met.V.Visitor.none c.args.visitor.now c.args.gathered.now c.args.source.now.order c.args.spot.now.at)

pub elements-returns-then-wants_no_more-clause-walked : goal.elements-returns-then-wants_no_more-clause-walked
elements-returns-then-wants_no_more-clause-walked g t c = λ vs rest e.
    let l = c.loop-place.invariant.left vs rest e in
    let order = c.args.source.now.order in
    let at = c.args.spot.now.at in
    let s = c.loop-place.visitor in
    let m = c.loop-place.gathered in
    let no_more = c.wants_no_more.ensures in
    let all = passed_over c.args.spot.now.depth_left (λ (done : List ValueTree). g.V.Visitor.many c.args.visitor.now c.args.gathered.now order at done m s)
    (λ done v formed many. g.met.V.Visitor.more c.args.visitor.now s s s c.args.gathered.now m m order at (at + length (spellings order at (value_trees done))) done v many (no_more.parts c.if-wants_no_more.true (is_none done)) refl
    (no_more.values c.if-wants_no_more.true order (at + length (spellings order at (value_trees done))) c.args.spot.now.depth_left v formed))
    l.done l.us l.keeps.formed l.walked.taken in
    (all.0, l.joins ∙ all.1, all.2)

pub elements-returns-clause-walked : goal.elements-returns-clause-walked
elements-returns-clause-walked g t c = λ vs rest e.
    let l = c.loop-place.invariant.left vs rest e in
    (l.done, (no_element l c.loop-place-test.false).0, l.walked.taken)

pub walk_values-loop-types-init : goal.walk_values-loop-types-init
walk_values-loop-types-init g t c =
    let order = c.args.source.now.order in
    let at = c.args.spot.now.at in
    let many : List ValueTree → Type 0 = λ (done : List ValueTree). g.V.Visitor.many c.args.visitor.now c.args.gathered.now order at done c.args.gathered.now c.args.visitor.now in
    record {
      ready = c.requires.ready;
      noted = c.requires.noted;
      within = omega arith;
      left = λ vs rest e. all_left order at vs (λ place us. AllStand order c.args.spot.now.depth_left c.args.spot.now.types.now place c.args.source.now.bytes.now us rest) (Taken many order at at true) e
          (none_taken many order at (g.met.V.Visitor.none c.args.visitor.now c.args.gathered.now order at));
    }

pub walk_values-slice_bounds-next-end : goal.walk_values-slice_bounds-next-end
walk_values-slice_bounds-next-end g t c =
    let there = c.requires.stand in
    let types = c.loop-types.types.now in
    let noted = c.loop-types.invariant.noted in
    let some : 0 < length types = omega (arith, eqb-false (length types) 0 (sym c.loop-types-test.ensures)) in
    let n = next_value types 0 (c.loop-types.invariant.left there.0 there.1 there.2) c.from-end.result some (first_ends noted c.from-end.ensures) in
    omega (arith, n.inside, length-take c.from-end.result types)

pub walk_values-slice_bounds-next-end-in-loop-types : goal.walk_values-slice_bounds-next-end-in-loop-types
walk_values-slice_bounds-next-end-in-loop-types g t c =
    let there = c.requires.stand in
    let types = c.loop-types.types.now in
    let noted = c.loop-types.invariant.noted in
    let some : 0 < length types = omega (arith, eqb-false (length types) 0 (sym c.loop-types-test.ensures)) in
    let n = next_value types 0 (c.loop-types.invariant.left there.0 there.1 there.2) c.from-end.result some (first_ends noted c.from-end.ensures) in
    omega (arith, n.inside, noted.same, length-take c.from-end.result c.loop-types.lengths.now)

pub walk_values-slice_bounds-types-count : goal.walk_values-slice_bounds-types-count
walk_values-slice_bounds-types-count g t c =
    let there = c.requires.stand in
    let types = c.loop-types.types.now in
    let noted = c.loop-types.invariant.noted in
    let some : 0 < length types = omega (arith, eqb-false (length types) 0 (sym c.loop-types-test.ensures)) in
    let n = next_value types 0 (c.loop-types.invariant.left there.0 there.1 there.2) c.from-end.result some (first_ends noted c.from-end.ensures) in
    omega (arith, n.inside, noted.same)

pub walk_values-slice_bounds-types-start : goal.walk_values-slice_bounds-types-start
walk_values-slice_bounds-types-start g t c =
    let there = c.requires.stand in
    let types = c.loop-types.types.now in
    let noted = c.loop-types.invariant.noted in
    let some : 0 < length types = omega (arith, eqb-false (length types) 0 (sym c.loop-types-test.ensures)) in
    let n = next_value types 0 (c.loop-types.invariant.left there.0 there.1 there.2) c.from-end.result some (first_ends noted c.from-end.ensures) in
    omega (arith, n.inside, noted.same)

pub walk_values-slice_bounds-lengths-count : goal.walk_values-slice_bounds-lengths-count
walk_values-slice_bounds-lengths-count g t c =
    let there = c.requires.stand in
    let types = c.loop-types.types.now in
    let noted = c.loop-types.invariant.noted in
    let some : 0 < length types = omega (arith, eqb-false (length types) 0 (sym c.loop-types-test.ensures)) in
    let n = next_value types 0 (c.loop-types.invariant.left there.0 there.1 there.2) c.from-end.result some (first_ends noted c.from-end.ensures) in
    omega (arith, n.inside, noted.same)

pub walk_values-slice_bounds-lengths-start : goal.walk_values-slice_bounds-lengths-start
walk_values-slice_bounds-lengths-start g t c =
    let there = c.requires.stand in
    let types = c.loop-types.types.now in
    let noted = c.loop-types.invariant.noted in
    let some : 0 < length types = omega (arith, eqb-false (length types) 0 (sym c.loop-types-test.ensures)) in
    let n = next_value types 0 (c.loop-types.invariant.left there.0 there.1 there.2) c.from-end.result some (first_ends noted c.from-end.ensures) in
    omega (arith, n.inside, noted.same)

pub walk_values-loop-types-smaller : goal.walk_values-loop-types-smaller
walk_values-loop-types-smaller g t c =
    let there = c.requires.stand in
    let types = c.loop-types.types.now in
    let noted = c.loop-types.invariant.noted in
    let some : 0 < length types = omega (arith, eqb-false (length types) 0 (sym c.loop-types-test.ensures)) in
    let n = next_value types 0 (c.loop-types.invariant.left there.0 there.1 there.2) c.from-end.result some (first_ends noted c.from-end.ensures) in
    omega (arith, n.some, n.inside, length-take (length types - c.from-end.result) (drop c.from-end.result types), length-drop c.from-end.result types)

pub walk_values-value-requires : goal.walk_values-value-requires
walk_values-value-requires g t c κs within =
    let there = c.requires.stand in
    let order = c.args.source.now.order in
    let types = c.loop-types.types.now in
    let place = c.loop-types.place in
    let noted = c.loop-types.invariant.noted in
    let some : 0 < length types = omega (arith, eqb-false (length types) 0 (sym c.loop-types-test.ensures)) in
    let n = next_value types 0 (c.loop-types.invariant.left there.0 there.1 there.2) c.from-end.result some (first_ends noted c.from-end.ensures) in
    (omega (arith, n.inside, c.loop-types.invariant.within, length-take c.from-end.result types), (within.0, (within.1.0, (within.1.1, (c.next_part.ensures.ready, ((n.v, spellings order (place + length (spelling order place n.v)) n.us ++ there.1, of_first types c.from-end.result n.stands), (lengths_within types c.loop-types.lengths.now noted 0 c.from-end.result, no_row)))))))

pub walk_values-loop-types-preserved : goal.walk_values-loop-types-preserved
walk_values-loop-types-preserved g t c =
    let order = c.args.source.now.order in
    let at = c.args.spot.now.at in
    let types = c.loop-types.types.now in
    let lengths = c.loop-types.lengths.now in
    let place = c.loop-types.place in
    let end = c.from-end.result in
    let noted = c.loop-types.invariant.noted in
    let some : 0 < length types = omega (arith, eqb-false (length types) 0 (sym c.loop-types-test.ensures)) in
    let later : List ValueTree → Type 0 = λ (done : List ValueTree). g.V.Visitor.many c.args.visitor.now c.args.gathered.now order at done c.value.new.gathered c.value.new.visitor in
    record {
      ready = c.in_ok-value.ensures.ready;
      noted = lengths_rest types lengths noted end;
      within = omega (arith, c.loop-types.invariant.within, length-take (length types - end) (drop end types));
      left = λ vs rest e.
          let l = c.loop-types.invariant.left vs rest e in
          let n = next_value types 0 l end some (first_ends noted c.from-end.ensures) in
          let w = c.in_ok-value.ensures.walked n.v (spellings order (place + length (spelling order place n.v)) n.us ++ rest) (of_first types end n.stands) in
          of_others types end (value_left types 0 l (Taken later order at c.value.new.spot.at false) end n c.value.new.spot.at w.1
          (more_taken later l.done n.v c.value.new.spot.at l.walked w.1
          (g.met.V.Visitor.more c.args.visitor.now c.loop-types.visitor c.next_part.new.visitor c.value.new.visitor c.args.gathered.now c.loop-types.gathered c.value.new.gathered order at place l.done n.v l.walked.taken
          (subst (λ (b : Bool). g.V.Visitor.parted c.loop-types.visitor b c.next_part.new.visitor) l.walked.first c.next_part.ensures.takes) l.walked.ends w.0)));
    }

pub walk_values-returns-clause-walked : goal.walk_values-returns-clause-walked
walk_values-returns-clause-walked g t c = λ vs rest e.
    let l = c.loop-types.invariant.left vs rest e in
    let ended = no_value c.loop-types.types.now 0 l (omega (arith, eqb-true (length c.loop-types.types.now) 0 (sym c.loop-types-test.ensures))) in
    ((l.done, ended.0, l.walked.taken), ended.1)

pub array-returns-then-at_one_stroke-clause-walked : goal.array-returns-then-at_one_stroke-clause-walked
array-returns-then-at_one_stroke-clause-walked g t c = λ v rest s. (c.in_ok-whole_array.ensures.takes v rest s, (c.requires.laid v rest s).ends)

pub array-open_array-requires-clause-listed : goal.array-open_array-requires-clause-listed
array-open_array-requires-clause-listed g t c = λ u e. ap (g.V.Visitor.strokes _) (sym (c.requires.found.wide u e)) ∙ sym c.at_one_stroke.ensures ∙ c.if-at_one_stroke.false

pub array-overflow_sub-held : goal.array-overflow_sub-held
array-overflow_sub-held g t c = let s = c.requires.stands in omega (arith, (c.requires.laid s.0 s.1 s.2).some)

pub array-elements-requires : goal.array-elements-requires
array-elements-requires g t c κs within =
    let s = c.requires.stands in
    let p = c.requires.laid s.0 s.1 s.2 in
    let types = c.args.spot.now.types.now in
    (omega (arith, p.some, c.requires.found.long, length-take (length types - 1) (drop 1 types)), (within.0, (within.1.0, (within.1.1, (c.in_ok-many.ensures.ready, ((p.xs, s.1, p.held), lengths_rest types c.args.spot.now.lengths.now c.requires.noted 1))))))

pub array-returns-clause-walked : goal.array-returns-clause-walked
array-returns-clause-walked g t c = λ v rest s.
    let p = c.requires.laid v rest s in
    let order = c.args.source.now.order in
    let held = c.in_ok-elements.ensures.walked p.xs rest p.held in
    let is_of : IsOf kind.Array v = subst (IsOf kind.Array) (sym p.is) tt in
    let many = subst (λ (q : ℕ). g.V.Visitor.many c.open_array.new.self c.in_ok-many.many order q held.0 c.elements.new.gathered c.elements.new.visitor) p.begins held.2 in (
      g.met.V.Visitor.whole c.args.visitor.now c.open_array.new.self c.elements.new.visitor c.close.new.self c.args.gathered.now c.in_ok-many.many c.elements.new.gathered c.close.new.gathered kind.Array order c.args.spot.now.at v held.0 is_of (c.in_ok-many.ensures.takes v rest s) (ap parts p.is ∙ held.1) many (c.in_ok-close.ensures.takes v is_of),
      p.ends,
    )

pub variant-overflow_sub-held : goal.variant-overflow_sub-held
variant-overflow_sub-held g t c = let s = c.requires.stands in omega (arith, (c.requires.laid s.0 s.1 s.2).some)

pub variant-variant_of-walked-requires : goal.variant-variant_of-walked-requires
variant-variant_of-walked-requires g t c κs within =
    let s = c.requires.stands in
    let p = c.requires.laid s.0 s.1 s.2 in
    (omega (arith, p.some, p.few, types_some s.2), (within.0, (within.1.0, (within.1.1, (c.requires.ready, ((p.x, s.1, p.held), (((type_of p.x, p.single.0, sym p.held.text), p.few), (one_length c.args.types.now c.if-types-eq1.true, omega (arith, ends_within s.2)))))))))

pub variant-noted_variant-walked-requires : goal.variant-noted_variant-walked-requires
variant-noted_variant-walked-requires g t c κs within =
    let s = c.requires.stands in
    let p = c.requires.laid s.0 s.1 s.2 in
    (omega (arith, p.some, p.few, types_some s.2), (within.0, (within.1.0, (within.1.1, (c.requires.ready, ((p.x, s.1, p.held), (((type_of p.x, p.single.0, sym p.held.text), p.few), omega (arith, ends_within s.2))))))))

pub variant-returns-then-types-eq1-clause-walked : goal.variant-returns-then-types-eq1-clause-walked
variant-returns-then-types-eq1-clause-walked g t c = λ v rest s.
    let p = c.requires.laid v rest s in
    let order = c.args.source.now.order in
    let at = c.args.spot.now.at in
    ok_from c.variant_of-walked.result _ _
    (λ w. (subst (λ (u : ValueTree). g.V.Visitor.one c.args.visitor.now c.args.gathered.now order at u c.variant_of-walked.new.gathered c.variant_of-walked.new.visitor) (sym p.is) w.0, w.1 ∙ p.ends))
    (c.variant_of-walked.ensures.walked p.x rest p.held (p.begins ∙ ap (inside order at) p.is))

pub variant-returns-clause-walked : goal.variant-returns-clause-walked
variant-returns-clause-walked g t c = λ v rest s.
    let p = c.requires.laid v rest s in
    let order = c.args.source.now.order in
    let at = c.args.spot.now.at in
    ok_from c.noted_variant-walked.result _ _
    (λ w. (subst (λ (u : ValueTree). g.V.Visitor.one c.args.visitor.now c.args.gathered.now order at u c.noted_variant-walked.new.gathered c.noted_variant-walked.new.visitor) (sym p.is) w.0, w.1 ∙ p.ends))
    (c.noted_variant-walked.ensures.walked p.x rest p.held (p.begins ∙ ap (inside order at) p.is))

pub variant_of-value-walked-requires : goal.variant_of-value-walked-requires
variant_of-value-walked-requires g t c κs within = (omega arith, (within.0, (within.1.0, (within.1.1, (c.part.ensures.ready, (c.requires.stands, (c.requires.noted, no_row)))))))

pub variant_of-returns-then-is_err-clause-walked : goal.variant_of-returns-then-is_err-clause-walked
variant_of-returns-then-is_err-clause-walked g t c = λ x rest s begins. not_ok c.value-walked.result _ (sym c.is_err.ensures.value ∙ c.if-is_err.true)

pub variant_of-returns-clause-walked : goal.variant_of-returns-clause-walked
variant_of-returns-clause-walked g t c = λ x rest s begins.
    let order = c.args.source.now.order in
    let q = c.args.held.now.at in
    let begin = c.args.start in
    let place : begin ≡ begin + gap_to 1 begin = omega (arith, no_gap begin) in
    let opened = c.open.new.self in
    let filled = c.value-walked.new.visitor in
    let none = c.in_ok-many.many in
    let many = c.value-walked.new.gathered in
    ok_from c.value-walked.result _ _ (λ w.
    let held = g.met.V.Visitor.more opened opened c.part.new.self filled none none many order q q [] x (g.met.V.Visitor.none opened none order q) c.part.ensures.takes (starts order q) w.0 in
    let all = subst (λ (k : ℕ). g.V.Visitor.many opened none order k (x ∷ []) many filled) begins held in (
      g.met.V.Visitor.whole c.args.visitor.now opened filled c.close.new.self c.args.gathered.now none many c.close.new.gathered kind.Variant order begin (VariantValue x) (x ∷ []) tt (c.in_ok-many.ensures.takes order begin (VariantValue x) tt (append-nil (sig (type_of x)) ∙ s.text) place) refl all (c.in_ok-close.ensures.takes (VariantValue x) tt),
      w.1,
    )) (c.value-walked.ensures.walked x rest s)

pub value-number-requires : goal.value-number-requires
value-number-requires g t c = let s = c.requires.stands in let p = laid_as c.args.source.now c.args.spot.now c.in-Number.is c.layout.ensures s.0 s.1 s.2 in record { ready = c.requires.ready; stands = s; some = p.some; wide = p.widths; begins = p.begins }

pub value-overflow_add-spot : goal.value-overflow_add-spot
value-overflow_add-spot g t c = let s = c.requires.stands in let p = laid_as c.args.source.now c.args.spot.now c.in-Number.is c.layout.ensures s.0 s.1 s.2 in omega (arith, p.inside, c.from.ensures)

pub value-long_text-requires : goal.value-long_text-requires
value-long_text-requires g t c = let s = c.requires.stands in let p = laid_as c.args.source.now c.args.spot.now c.in-LongText.is c.layout.ensures s.0 s.1 s.2 in
    record { ready = c.requires.ready; stands = s; code = long_coded p.code p.wide (sym (code_is (type_of s.0) c.args.spot.now.types.now s.2.text) ∙ ap (λ (u : ValueTree). first_code (type_of u)) p.is); begins = p.begins; counts = p.counts }

pub value-overflow_add-spot-in-LongText : goal.value-overflow_add-spot-in-LongText
value-overflow_add-spot-in-LongText g t c = let s = c.requires.stands in let p = laid_as c.args.source.now c.args.spot.now c.in-LongText.is c.layout.ensures s.0 s.1 s.2 in omega (arith, p.inside)

pub value-overflow_add-spot-in-LongText-2 : goal.value-overflow_add-spot-in-LongText-2
value-overflow_add-spot-in-LongText-2 g t c = let s = c.requires.stands in let p = laid_as c.args.source.now c.args.spot.now c.in-LongText.is c.layout.ensures s.0 s.1 s.2 in omega (arith, p.inside)

pub value-overflow_add-spot-in-LongText-3 : goal.value-overflow_add-spot-in-LongText-3
value-overflow_add-spot-in-LongText-3 g t c = let s = c.requires.stands in let p = laid_as c.args.source.now c.args.spot.now c.in-LongText.is c.layout.ensures s.0 s.1 s.2 in omega (arith, p.inside)

pub value-short_text-requires : goal.value-short_text-requires
value-short_text-requires g t c = let s = c.requires.stands in let p = laid_as c.args.source.now c.args.spot.now c.in-ShortText.is c.layout.ensures s.0 s.1 s.2 in
    record { ready = c.requires.ready; stands = s; code = short_coded p.code p.wide (sym (code_is (type_of s.0) c.args.spot.now.types.now s.2.text) ∙ ap (λ (u : ValueTree). first_code (type_of u)) p.is); counts = p.counts ∙ sym (one_byte c.args.source.now.order c.args.source.now.bytes.now c.args.spot.now.at (omega (arith, p.inside))) }

pub value-overflow_add-spot-in-ShortText : goal.value-overflow_add-spot-in-ShortText
value-overflow_add-spot-in-ShortText g t c = let s = c.requires.stands in let p = laid_as c.args.source.now c.args.spot.now c.in-ShortText.is c.layout.ensures s.0 s.1 s.2 in omega (arith, p.inside)

pub value-overflow_add-spot-in-ShortText-2 : goal.value-overflow_add-spot-in-ShortText-2
value-overflow_add-spot-in-ShortText-2 g t c = let s = c.requires.stands in let p = laid_as c.args.source.now c.args.spot.now c.in-ShortText.is c.layout.ensures s.0 s.1 s.2 in omega (arith, p.inside)

pub value-overflow_add-spot-in-ShortText-3 : goal.value-overflow_add-spot-in-ShortText-3
value-overflow_add-spot-in-ShortText-3 g t c = let s = c.requires.stands in let p = laid_as c.args.source.now c.args.spot.now c.in-ShortText.is c.layout.ensures s.0 s.1 s.2 in omega (arith, p.inside)

pub value-variant-requires : goal.value-variant-requires
value-variant-requires g t c κs within =
    (omega (arith, types_some c.requires.stands.2), (within.0, (within.1.0, (within.1.1, (c.requires.ready, (c.requires.stands, laid_as c.args.source.now c.args.spot.now c.in-Variant.is c.layout.ensures))))))

pub value-array-requires : goal.value-array-requires
value-array-requires g t c κs within = let s = c.requires.stands in let p = laid_as c.args.source.now c.args.spot.now c.in-Array.is c.layout.ensures s.0 s.1 s.2 in
    (omega (arith, types_some s.2), (within.0, (within.1.0, (within.1.1, (c.requires.ready, (s, (c.requires.noted, (p.found, laid_as c.args.source.now c.args.spot.now c.in-Array.is c.layout.ensures))))))))

pub value-returns-in_ok-number-in-Number-clause-walked : goal.value-returns-in_ok-number-in-Number-clause-walked
value-returns-in_ok-number-in-Number-clause-walked g t c = λ v rest s. let p = laid_as c.args.source.now c.args.spot.now c.in-Number.is c.layout.ensures v rest s in (c.in_ok-number-in-Number.ensures.takes v rest s, omega (arith, p.ends, c.from.ensures))

pub value-returns-in_ok-long_text-in-LongText-clause-walked : goal.value-returns-in_ok-long_text-in-LongText-clause-walked
value-returns-in_ok-long_text-in-LongText-clause-walked g t c = λ v rest s. let p = laid_as c.args.source.now c.args.spot.now c.in-LongText.is c.layout.ensures v rest s in (c.in_ok-long_text-in-LongText.ensures.takes v rest s, p.ends)

pub value-returns-in_ok-short_text-in-ShortText-clause-walked : goal.value-returns-in_ok-short_text-in-ShortText-clause-walked
value-returns-in_ok-short_text-in-ShortText-clause-walked g t c = λ v rest s. let p = laid_as c.args.source.now c.args.spot.now c.in-ShortText.is c.layout.ensures v rest s in (c.in_ok-short_text-in-ShortText.ensures.takes v rest s, p.ends)

pub value-entry-requires : goal.value-entry-requires
value-entry-requires g t c κs within = let s = c.requires.stands in let p = laid_as c.args.source.now c.args.spot.now c.in-Entry.is c.layout.ensures in
    (omega (arith, types_some s.2), (within.0, (within.1.0, (within.1.1, (c.requires.ready, (s, (c.requires.noted, ((p s.0 s.1 s.2).long, p))))))))

pub nested-nested_fields-walked-requires : goal.nested-nested_fields-walked-requires
nested-nested_fields-walked-requires g t c κs within = (omega arith, (within.0, (within.1.0, (within.1.1, (c.in_ok-many.ensures.ready, (c.requires.stand, (c.requires.noted, (c.requires.together, (c.requires.long, (c.requires.deep, c.requires.padded))))))))))

pub nested-returns-then-is_err-clause-walked : goal.nested-returns-then-is_err-clause-walked
nested-returns-then-is_err-clause-walked g t c = λ at vs rest begins a. not_ok c.nested_fields-walked.result _ (sym c.is_err.ensures.value ∙ c.if-is_err.true)

pub nested-returns-clause-walked : goal.nested-returns-clause-walked
nested-returns-clause-walked g t c = λ at vs rest begins a.
    let order = c.args.source.now.order in
    ok_from c.nested_fields-walked.result _ _ (λ held. (
      g.met.V.Visitor.whole c.args.visitor.now c.open.new.self c.nested_fields-walked.new.visitor c.close.new.self c.args.gathered.now c.in_ok-many.many c.nested_fields-walked.new.gathered c.close.new.gathered kind.Struct order at (StructValue vs) held.0.0 tt (c.in_ok-many.ensures.takes order at (StructValue vs) tt a.text begins) held.0.1
          (subst (λ (q : ℕ). g.V.Visitor.many c.open.new.self c.in_ok-many.many order q held.0.0 c.nested_fields-walked.new.gathered c.nested_fields-walked.new.visitor) begins held.0.2) (c.in_ok-close.ensures.takes (StructValue vs) tt),
      held.1,
    )) (c.nested_fields-walked.ensures.walked vs rest a)

pub nested_fields-nested-requires : goal.nested_fields-nested-requires
nested_fields-nested-requires g t c κs within =
    let s = c.requires.stand in
    let types = c.args.spot.now.types.now in
    let outer = c.args.outer in
    let o = one_struct c.requires.noted c.requires.together (outer + 1) c.if-first-row.true s.0 s.2 in
    let long : 2 + (outer + 1) + (outer + 1) ≤ length types = omega (arith, c.requires.together.long, c.if-first-row.true) in
    (omega (arith, o.some, between_long types (outer + 1), between_long types (outer + 1 + 1)), (within.0, (within.1.0, (within.1.1, (c.part.ensures.ready, ((o.xs, s.1, fields_inside c.args.source.now c.args.spot.now outer c.requires.padded o), (c.requires.noted, (c.requires.together, (long, (omega (arith, o.some), c.requires.padded))))))))))

pub nested_fields-fields-requires : goal.nested_fields-fields-requires
nested_fields-fields-requires g t c κs within = (omega arith, (within.0, (within.1.0, (within.1.1, (c.requires.ready, (c.requires.stand, (c.requires.noted, (c.requires.long, c.requires.deep))))))))

pub fields-walk_values-requires : goal.fields-walk_values-requires
fields-walk_values-requires g t c κs within =
    let types = c.args.spot.now.types.now in
    let first = c.args.outer + 1 in
    (omega arith, (within.0, (within.1.0, (within.1.1, (c.requires.ready, (c.requires.stand, lengths_within types c.args.spot.now.lengths.now c.requires.noted first (length types - first - first)))))))

pub nested_fields-returns-then-first-row-clause-walked : goal.nested_fields-returns-then-first-row-clause-walked
nested_fields-returns-then-first-row-clause-walked g t c = λ vs rest a.
    let order = c.args.source.now.order in
    let at = c.args.spot.now.at in
    let before = c.args.visitor.now in
    let gathered = c.args.gathered.now in
    let o = one_struct c.requires.noted c.requires.together (c.args.outer + 1) c.if-first-row.true vs a in
    let place : at ≡ at + gap_to 8 at = omega (arith, c.requires.padded) in
    ok_from c.nested.result _ _ (λ w.
    let held = g.met.V.Visitor.more before before c.part.new.self c.nested.new.visitor gathered gathered c.nested.new.gathered order at at [] (StructValue o.xs) (g.met.V.Visitor.none before gathered order at) c.part.ensures.takes (starts order at) w.0 in
    ((StructValue o.xs ∷ [], o.is, held), w.1 ∙ one_ends order at o.xs c.requires.padded ∙ ap (λ (us : ValueTrees). at + length (spellings order at us)) (sym o.is)))
    (c.nested.ensures.walked at o.xs rest place (fields_inside c.args.source.now c.args.spot.now c.args.outer c.requires.padded o))

pub value-structure-requires : goal.value-structure-requires
value-structure-requires g t c κs within = let s = c.requires.stands in let p = laid_as c.args.source.now c.args.spot.now c.in-Struct.is c.layout.ensures in
    (omega (arith, types_some s.2), (within.0, (within.1.0, (within.1.1, (c.requires.ready, (s, (c.requires.noted, (c.requires.together, ((p s.0 s.1 s.2).long, ((p s.0 s.1 s.2).some, p))))))))))

pub alone-whole-walked-requires : goal.alone-whole-walked-requires
alone-whole-walked-requires g t c κs within =
    let s = c.requires.stands in
    let p = c.requires.laid s.0 s.1 s.2 in
    let types = c.args.spot.now.types.now in
    (omega (arith, p.some, p.long, between_long types 1), (within.0, (within.1.0, (within.1.1, (c.requires.ready, ((p.xs, s.1, p.held), (lengths_within types c.args.spot.now.lengths.now c.requires.noted 1 (length types - 1 - 1), inl refl)))))))

pub alone-returns-clause-walked : goal.alone-returns-clause-walked
alone-returns-clause-walked g t c = λ v rest s.
    let p = c.requires.laid v rest s in
    let order = c.args.source.now.order in
    let at = c.args.spot.now.at in
    ok_from c.whole-walked.result _ _
    (λ w. (subst (λ (u : ValueTree). g.V.Visitor.one c.args.visitor.now c.args.gathered.now order at u c.whole-walked.new.gathered c.whole-walked.new.visitor) (sym p.is) w.0, w.1 ∙ p.ends))
    (c.whole-walked.ensures.walked at (StructValue p.xs) rest tt p.held (p.begins ∙ ap (inside order at) p.is))

pub together-nested-walked-requires : goal.together-nested-walked-requires
together-nested-walked-requires g t c κs within =
    let s = c.requires.stands in
    let p = c.requires.laid s.0 s.1 s.2 in
    let order = c.args.source.now.order in
    let at = c.args.spot.now.at in
    let padded = ap (gap_to 8) (p.begins ∙ ap (inside order at) p.is) ∙ aligned at in
    (omega (arith, p.some, p.long, between_long c.args.spot.now.types.now 1), (within.0, (within.1.0, (within.1.1, (c.requires.ready, ((p.xs, s.1, outermost (c.args.spot.now.depth_left - 1) p.held), (c.requires.noted, (c.requires.together, (p.long, (omega arith, padded))))))))))

pub together-returns-clause-walked : goal.together-returns-clause-walked
together-returns-clause-walked g t c = λ v rest s.
    let p = c.requires.laid v rest s in
    let order = c.args.source.now.order in
    let at = c.args.spot.now.at in
    ok_from c.nested-walked.result _ _
    (λ w. (subst (λ (u : ValueTree). g.V.Visitor.one c.args.visitor.now c.args.gathered.now order at u c.nested-walked.new.gathered c.nested-walked.new.visitor) (sym p.is) w.0, w.1 ∙ p.ends))
    (c.nested-walked.ensures.walked at p.xs rest (p.begins ∙ ap (inside order at) p.is) (outermost (c.args.spot.now.depth_left - 1) p.held))

pub entry-whole-walked-requires : goal.entry-whole-walked-requires
entry-whole-walked-requires g t c κs within =
    let s = c.requires.stands in
    let p = c.requires.laid s.0 s.1 s.2 in
    let types = c.args.spot.now.types.now in
    (omega (arith, p.long, between_long types 1), (within.0, (within.1.0, (within.1.1, (c.requires.ready, ((MoreValues p.x (MoreValues p.y NoValues), s.1, p.held), (lengths_within types c.args.spot.now.lengths.now c.requires.noted 1 (length types - 1 - 1), inr refl)))))))

pub entry-returns-clause-walked : goal.entry-returns-clause-walked
entry-returns-clause-walked g t c = λ v rest s.
    let p = c.requires.laid v rest s in
    let order = c.args.source.now.order in
    let at = c.args.spot.now.at in
    ok_from c.whole-walked.result _ _
    (λ w. (subst (λ (u : ValueTree). g.V.Visitor.one c.args.visitor.now c.args.gathered.now order at u c.whole-walked.new.gathered c.whole-walked.new.visitor) (sym p.is) w.0, w.1 ∙ p.ends))
    (c.whole-walked.ensures.walked at (EntryValue p.x p.y) rest tt p.held (p.begins ∙ ap (inside order at) p.is))

pub whole-listed-walked-requires : goal.whole-listed-walked-requires
whole-listed-walked-requires g t c κs within = (omega arith, (within.0, (within.1.0, (within.1.1, (c.in_ok-many.ensures.ready, (c.requires.stand, c.requires.noted))))))

pub whole-returns-then-is_err-clause-walked : goal.whole-returns-then-is_err-clause-walked
whole-returns-then-is_err-clause-walked g t c = λ at v rest is_of a begins. not_ok c.listed-walked.result _ (sym c.is_err.ensures.value ∙ c.if-is_err.true)

pub whole-returns-clause-walked : goal.whole-returns-clause-walked
whole-returns-clause-walked g t c = λ at v rest is_of a begins.
    let order = c.args.source.now.order in
    ok_from c.listed-walked.result _ _ (λ held. (
      g.met.V.Visitor.whole c.args.visitor.now c.open.new.self c.listed-walked.new.visitor c.close.new.self c.args.gathered.now c.in_ok-many.many c.listed-walked.new.gathered c.close.new.gathered c.args.kind order at v held.0.0 is_of (c.in_ok-many.ensures.takes order at v is_of a.text (first_part order at v c.requires.kind is_of begins)) held.0.1
          (subst (λ (q : ℕ). g.V.Visitor.many c.open.new.self c.in_ok-many.many order q held.0.0 c.listed-walked.new.gathered c.listed-walked.new.visitor) begins held.0.2) (c.in_ok-close.ensures.takes v is_of),
      held.1,
    )) (c.listed-walked.ensures.walked (parts v) rest a)

pub listed-walk_values-requires : goal.listed-walk_values-requires
listed-walk_values-requires g t c κs within = (omega arith, (within.0, (within.1.0, (within.1.1, (c.requires.ready, (c.requires.stand, c.requires.noted))))))
