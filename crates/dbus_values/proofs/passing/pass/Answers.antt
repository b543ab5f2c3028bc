use Rattle.std.proofs.Common.{◌-◌, length, drop, refl, sym, ap, subst, ◌∙◌, arith}
use Rattle.std.proofs.lemmas.List.{length-take}
use Rattle.dbus_texts.specs.Types.{sig}
use Rattle.dbus_types.proofs.TypeLengths.{one_length}
use Rattle.dbus_value_model.specs.Values.{ValueTree, NoValues, MoreValues, type_of}
use Rattle.dbus_walk.proofs.Laid.{laid_as}
use Rattle.dbus_values.specs.States.{ValuesState, AreLeft}
use Rattle.dbus_values.proofs.Views.{number_coded, number_inside, number_seen, number_apart, text_utf8, string_seen, path_seen}
use Rattle.dbus_values.proofs.Views.{signature_seen, variant_left}
use Rattle.dbus_values.proofs.passing.pass.Goals as goal

pub number_view-requires-clause-inside : goal.number_view-requires-clause-inside
number_view-requires-clause-inside c = let s = c.requires.stands in let p =
    laid_as c.args.source.now c.args.spot.now c.in-Number.is c.layout.ensures s.0 s.1 s.2 in
    number_inside c.args.source.now c.args.spot.now s.0 s.1 s.2 c.in-Number.start _ p

pub number_view-requires-clause-known : goal.number_view-requires-clause-known
number_view-requires-clause-known c = let s = c.requires.stands in let p =
    laid_as c.args.source.now c.args.spot.now c.in-Number.is c.layout.ensures s.0 s.1 s.2 in
    (p.code, number_coded c.args.source.now c.args.spot.now s.0 s.1 s.2 c.in-Number.start _ p)

pub overflow_add-result : goal.overflow_add-result
overflow_add-result c = let s = c.requires.stands in let p = laid_as c.args.source.now c.args.spot.now c.in-Number.is c.layout.ensures s.0
    s.1 s.2 in omega (arith, p.inside, c.from.ensures)

pub returns-in-Number-clause-seen : goal.returns-in-Number-clause-seen
returns-in-Number-clause-seen c = λ v rest s. let p = laid_as c.args.source.now c.args.spot.now c.in-Number.is c.layout.ensures v rest s in (
  number_seen c.args.source.now c.args.spot.now v rest s c.in-Number.start _ p c.number_view.result c.number_view.ensures.seen,
  omega
      (arith, p.ends, c.from.ensures),
)

pub returns-in-Number-clause-parts : goal.returns-in-Number-clause-parts
returns-in-Number-clause-parts c = λ v rest s. let p = laid_as c.args.source.now c.args.spot.now c.in-Number.is c.layout.ensures v rest s in
    number_apart c.args.source.now.order c.args.source.now.bytes.now c.args.spot.now.at v c.number_view.result p.code p.n p.is
    (number_seen c.args.source.now c.args.spot.now v rest s c.in-Number.start _ p c.number_view.result c.number_view.ensures.seen)

pub overflow_add-start : goal.overflow_add-start
overflow_add-start c = let s = c.requires.stands in let p = laid_as c.args.source.now c.args.spot.now c.in-LongText.is c.layout.ensures s.0
    s.1 s.2 in omega (arith, p.inside)

pub text_in-text-requires-clause-inside : goal.text_in-text-requires-clause-inside
text_in-text-requires-clause-inside c = let s = c.requires.stands in let p =
    laid_as c.args.source.now c.args.spot.now c.in-LongText.is c.layout.ensures s.0 s.1 s.2 in omega (arith, p.inside)

pub overflow_add-after : goal.overflow_add-after
overflow_add-after c = let s = c.requires.stands in let p = laid_as c.args.source.now c.args.spot.now c.in-LongText.is c.layout.ensures s.0
    s.1 s.2 in omega (arith, p.inside)

pub overflow_add-after-in-LongText : goal.overflow_add-after-in-LongText
overflow_add-after-in-LongText c = let s = c.requires.stands in let p =
    laid_as c.args.source.now c.args.spot.now c.in-LongText.is c.layout.ensures s.0 s.1 s.2 in omega (arith, p.inside)

pub overflow_add-after-in-LongText-2 : goal.overflow_add-after-in-LongText-2
overflow_add-after-in-LongText-2 c = let s = c.requires.stands in let p =
    laid_as c.args.source.now c.args.spot.now c.in-LongText.is c.layout.ensures s.0 s.1 s.2 in omega (arith, p.inside)

pub text_in-text-requires-clause-utf8 : goal.text_in-text-requires-clause-utf8
text_in-text-requires-clause-utf8 c = let s = c.requires.stands in let p =
    laid_as c.args.source.now c.args.spot.now c.in-LongText.is c.layout.ensures s.0 s.1 s.2 in
    text_utf8 c.args.source.now c.args.spot.now s.0 s.1 s.2 4 c.in-LongText.start c.in-LongText.size p

pub returns-then-spot-eq115-clause-seen : goal.returns-then-spot-eq115-clause-seen
returns-then-spot-eq115-clause-seen c = λ v rest s. let p = laid_as c.args.source.now c.args.spot.now c.in-LongText.is c.layout.ensures v
    rest s in (
      string_seen c.args.source.now c.args.spot.now v rest s 4 c.in-LongText.start c.in-LongText.size p c.text_in-text.result.now
          c.if-spot-eq115.true c.text_in-text.ensures,
      p.ends,
    )

pub returns-else-spot-eq115-clause-seen : goal.returns-else-spot-eq115-clause-seen
returns-else-spot-eq115-clause-seen c = λ v rest s. let p = laid_as c.args.source.now c.args.spot.now c.in-LongText.is c.layout.ensures v
    rest s in (
      path_seen c.args.source.now c.args.spot.now v rest s 4 c.in-LongText.start c.in-LongText.size p c.text_in-text.result.now refl
          c.if-spot-eq115.false c.text_in-text.ensures,
      p.ends,
    )

pub overflow_add-spot : goal.overflow_add-spot
overflow_add-spot c = let s = c.requires.stands in let p = laid_as c.args.source.now c.args.spot.now c.in-ShortText.is c.layout.ensures s.0
    s.1 s.2 in omega (arith, p.inside)

pub text_in-text-requires-in-ShortText-clause-inside : goal.text_in-text-requires-in-ShortText-clause-inside
text_in-text-requires-in-ShortText-clause-inside c = let s = c.requires.stands in let p =
    laid_as c.args.source.now c.args.spot.now c.in-ShortText.is c.layout.ensures s.0 s.1 s.2 in omega (arith, p.inside)

pub overflow_add-result-in-ShortText : goal.overflow_add-result-in-ShortText
overflow_add-result-in-ShortText c = let s = c.requires.stands in let p =
    laid_as c.args.source.now c.args.spot.now c.in-ShortText.is c.layout.ensures s.0 s.1 s.2 in omega (arith, p.inside)

pub overflow_add-result-in-ShortText-2 : goal.overflow_add-result-in-ShortText-2
overflow_add-result-in-ShortText-2 c = let s = c.requires.stands in let p =
    laid_as c.args.source.now c.args.spot.now c.in-ShortText.is c.layout.ensures s.0 s.1 s.2 in omega (arith, p.inside)

pub text_in-text-requires-in-ShortText-clause-utf8 : goal.text_in-text-requires-in-ShortText-clause-utf8
text_in-text-requires-in-ShortText-clause-utf8 c = let s = c.requires.stands in let p =
    laid_as c.args.source.now c.args.spot.now c.in-ShortText.is c.layout.ensures s.0 s.1 s.2 in
    text_utf8 c.args.source.now c.args.spot.now s.0 s.1 s.2 1 c.args.spot.now.at c.in-ShortText.size p

pub overflow_add-result-in-ShortText-3 : goal.overflow_add-result-in-ShortText-3
overflow_add-result-in-ShortText-3 c = let s = c.requires.stands in let p =
    laid_as c.args.source.now c.args.spot.now c.in-ShortText.is c.layout.ensures s.0 s.1 s.2 in omega (arith, p.inside)

pub returns-in-ShortText-clause-seen : goal.returns-in-ShortText-clause-seen
returns-in-ShortText-clause-seen c = λ v rest s. let p = laid_as c.args.source.now c.args.spot.now c.in-ShortText.is c.layout.ensures v rest
    s in (
      signature_seen c.args.source.now c.args.spot.now v rest s 1 c.args.spot.now.at c.in-ShortText.size p
          c.text_in-text-in-ShortText.result.now refl c.text_in-text-in-ShortText.ensures,
      p.ends,
    )

pub overflow_sub-spot : goal.overflow_sub-spot
overflow_sub-spot c = let s = c.requires.stands in let p = laid_as c.args.source.now c.args.spot.now c.in-Variant.is c.layout.ensures s.0
    s.1 s.2 in omega (arith, p.some)

pub new-held-requires : goal.new-held-requires
new-held-requires c = let s = c.requires.stands in let p = laid_as c.args.source.now c.args.spot.now c.in-Variant.is c.layout.ensures s.0
    s.1 s.2 in (
      p.few,
      MoreValues p.x NoValues,
      s.1,
      variant_left c.args.source.now c.args.spot.now s.0 s.1 s.2 c.in-Variant.types.now c.in-Variant.at
          p,
    )

pub skip_value-requires-clause-noted : goal.skip_value-requires-clause-noted
skip_value-requires-clause-noted c = let s = c.requires.stands in let p =
    laid_as c.args.source.now c.args.spot.now c.in-Variant.is c.layout.ensures s.0 s.1 s.2 in
    one_length c.args.spot.now.types.now (ap length (sym s.2.text) ∙ ap (λ (u : ValueTree). length (sig (type_of u))) p.is)

pub returns-in-Variant-clause-seen : goal.returns-in-Variant-clause-seen
returns-in-Variant-clause-seen c = λ v rest s. let p = laid_as c.args.source.now c.args.spot.now c.in-Variant.is c.layout.ensures v rest
    s in (
      (
        p.x,
        rest,
        p.is,
        subst (λ (l : ValuesState). AreLeft l (MoreValues p.x NoValues) rest) (sym c.new-held.ensures)
            (variant_left c.args.source.now c.args.spot.now v rest s c.in-Variant.types.now c.in-Variant.at p),
      ),
      c.skip_value.ensures v rest s,
    )

pub returns-in-Variant-clause-parts : goal.returns-in-Variant-clause-parts
returns-in-Variant-clause-parts c = λ v rest s. let p = laid_as c.args.source.now c.args.spot.now c.in-Variant.is c.layout.ensures v rest
    s in (
      ap (λ (l : ValuesState). l.order) c.new-held.ensures,
      ap (λ (l : ValuesState). l.bytes) c.new-held.ensures,
      ap
          (λ (l : ValuesState). l.at) c.new-held.ensures ∙ p.begins,
    )

pub returns-in-Variant-clause-less : goal.returns-in-Variant-clause-less
returns-in-Variant-clause-less c = let s = c.requires.stands in let p =
    laid_as c.args.source.now c.args.spot.now c.in-Variant.is c.layout.ensures s.0 s.1 s.2 in
    omega (
      arith,
      p.some,
      p.few,
      ap (λ (l : ValuesState). l.depth_left) c.new-held.ensures,
      ap (λ (l : ValuesState). length l.types)
          c.new-held.ensures,
    )

pub returns-in-Array-clause-seen : goal.returns-in-Array-clause-seen
returns-in-Array-clause-seen c = λ v rest s. let p = laid_as c.args.source.now c.args.spot.now c.in-Array.is c.layout.ensures v rest s in
    (c.array_view.ensures.seen v rest s, p.ends)

pub returns-in-Array-clause-parts : goal.returns-in-Array-clause-parts
returns-in-Array-clause-parts c = λ v rest s. c.array_view.ensures.parts v rest s

pub slice_bounds-fields-count : goal.slice_bounds-fields-count
slice_bounds-fields-count c = let s = c.requires.stands in let p =
    laid_as c.args.source.now c.args.spot.now c.in-Struct.is c.layout.ensures s.0 s.1 s.2 in omega (arith, p.long)

pub slice_bounds-fields-start : goal.slice_bounds-fields-start
slice_bounds-fields-start c = let s = c.requires.stands in let p =
    laid_as c.args.source.now c.args.spot.now c.in-Struct.is c.layout.ensures s.0 s.1 s.2 in omega (arith, p.long)

pub overflow_sub-spot-in-Struct : goal.overflow_sub-spot-in-Struct
overflow_sub-spot-in-Struct c = let s = c.requires.stands in let p =
    laid_as c.args.source.now c.args.spot.now c.in-Struct.is c.layout.ensures s.0 s.1 s.2 in omega (arith, p.some)

pub new-parts-requires : goal.new-parts-requires
new-parts-requires c = let s = c.requires.stands in let p = laid_as c.args.source.now c.args.spot.now c.in-Struct.is c.layout.ensures s.0
    s.1 s.2 in (
      omega (arith, c.requires.few, length-take (length c.args.spot.now.types.now - 1 - 1) (drop 1 c.args.spot.now.types.now)),
      p.xs,
      s.1,
      p.held,
    )

pub returns-in-Struct-clause-seen : goal.returns-in-Struct-clause-seen
returns-in-Struct-clause-seen c = λ v rest s. let p = laid_as c.args.source.now c.args.spot.now c.in-Struct.is c.layout.ensures v rest s in
    ((p.xs, rest, p.is, subst (λ (l : ValuesState). AreLeft l p.xs rest) (sym c.new-parts.ensures) p.held), c.after_parts.ensures v rest s)

pub returns-in-Struct-clause-parts : goal.returns-in-Struct-clause-parts
returns-in-Struct-clause-parts c = λ v rest s. let p = laid_as c.args.source.now c.args.spot.now c.in-Struct.is c.layout.ensures v rest s in (
  ap (λ (l : ValuesState). l.order) c.new-parts.ensures,
  ap (λ (l : ValuesState). l.bytes) c.new-parts.ensures,
  ap
      (λ (l : ValuesState). l.at) c.new-parts.ensures ∙ p.begins,
)

pub slice_bounds-both-count : goal.slice_bounds-both-count
slice_bounds-both-count c = let s = c.requires.stands in let p =
    laid_as c.args.source.now c.args.spot.now c.in-Entry.is c.layout.ensures s.0 s.1 s.2 in omega (arith, p.long)

pub slice_bounds-both-start : goal.slice_bounds-both-start
slice_bounds-both-start c = let s = c.requires.stands in let p =
    laid_as c.args.source.now c.args.spot.now c.in-Entry.is c.layout.ensures s.0 s.1 s.2 in omega (arith, p.long)

pub new-parts-requires-in-Entry : goal.new-parts-requires-in-Entry
new-parts-requires-in-Entry c = let s = c.requires.stands in let p =
    laid_as c.args.source.now c.args.spot.now c.in-Entry.is c.layout.ensures s.0 s.1 s.2 in (
      omega (arith, c.requires.few, length-take (length c.args.spot.now.types.now - 1 - 1) (drop 1 c.args.spot.now.types.now)),
      MoreValues
          p.x (MoreValues p.y NoValues),
      s.1,
      p.held,
    )

pub returns-in-Entry-clause-seen : goal.returns-in-Entry-clause-seen
returns-in-Entry-clause-seen c = λ v rest s. let p = laid_as c.args.source.now c.args.spot.now c.in-Entry.is c.layout.ensures v rest s in (
  (
    p.x,
    p.y,
    rest,
    p.is,
    subst (λ (l : ValuesState). AreLeft l (MoreValues p.x (MoreValues p.y NoValues)) rest)
        (sym c.new-parts-in-Entry.ensures) p.held,
  ),
  c.after_parts-in-Entry.ensures v rest s,
)

pub returns-in-Entry-clause-parts : goal.returns-in-Entry-clause-parts
returns-in-Entry-clause-parts c = λ v rest s. let p = laid_as c.args.source.now c.args.spot.now c.in-Entry.is c.layout.ensures v rest s in (
  ap (λ (l : ValuesState). l.order) c.new-parts-in-Entry.ensures,
  ap (λ (l : ValuesState). l.bytes) c.new-parts-in-Entry.ensures,
  ap
      (λ (l : ValuesState). l.at) c.new-parts-in-Entry.ensures ∙ p.begins,
)
