use Rattle.std.proofs.Common.{sym, ap, ◌∙◌, arith}
use Rattle.dbus_texts.specs.Types.{NumberType}
use Rattle.dbus_types.specs.SignatureCodes.{first_code}
use Rattle.dbus_types.proofs.TypeCodes.{code_is}
use Rattle.dbus_value_laws.proofs.ReadSteps.{one_byte}
use Rattle.dbus_value_model.specs.Values.{ValueTree, type_of}
use Rattle.dbus_walk.proofs.Laid.{laid_as, long_coded, short_coded}
use Rattle.dbus_walk.proofs.Parts.{number_stands}
use Rattle.dbus_unmarshal.proofs.Leaves.{number_coded, number_built}
use Rattle.dbus_unmarshal.proofs.values.build_at.Goals as goal

pub number_at-value-requires-clause-inside : goal.number_at-value-requires-clause-inside
number_at-value-requires-clause-inside g c = λ k e.
    let s = c.requires.stands in
    let p = laid_as c.args.source.now c.args.spot.now c.in-Number.is c.layout.ensures s.0 s.1 s.2 in
    omega (arith, p.inside, p.widths (NumberType k) e)

pub number_at-value-requires-clause-known : goal.number_at-value-requires-clause-known
number_at-value-requires-clause-known g c =
    let s = c.requires.stands in
    let p = laid_as c.args.source.now c.args.spot.now c.in-Number.is c.layout.ensures s.0 s.1 s.2 in
    let n = number_stands s.2 c.in-Number.size p.some p.widths in
    (n.code, number_coded s.2 c.in-Number.size n)

pub overflow_add-result : goal.overflow_add-result
overflow_add-result g c = let s = c.requires.stands in let p = laid_as c.args.source.now c.args.spot.now c.in-Number.is c.layout.ensures s.0 s.1 s.2 in omega (arith, p.inside, c.from.ensures)

pub long_text_at-requires : goal.long_text_at-requires
long_text_at-requires g c =
    let s = c.requires.stands in
    let p = laid_as c.args.source.now c.args.spot.now c.in-LongText.is c.layout.ensures s.0 s.1 s.2 in
    record { stands = s; code = long_coded p.code p.wide (sym (code_is (type_of s.0) c.args.spot.now.types.now s.2.text) ∙ ap (λ (u : ValueTree). first_code (type_of u)) p.is); begins = p.begins; counts = p.counts }

pub short_text_at-requires : goal.short_text_at-requires
short_text_at-requires g c =
    let s = c.requires.stands in
    let p = laid_as c.args.source.now c.args.spot.now c.in-ShortText.is c.layout.ensures s.0 s.1 s.2 in
    record { stands = s; code = short_coded p.code p.wide (sym (code_is (type_of s.0) c.args.spot.now.types.now s.2.text) ∙ ap (λ (u : ValueTree). first_code (type_of u)) p.is); counts = p.counts ∙ sym (one_byte c.args.source.now.order c.args.source.now.bytes.now c.args.spot.now.at (omega (arith, p.inside))) }

pub overflow_add-result-in-LongText : goal.overflow_add-result-in-LongText
overflow_add-result-in-LongText g c = let s = c.requires.stands in let p = laid_as c.args.source.now c.args.spot.now c.in-LongText.is c.layout.ensures s.0 s.1 s.2 in omega (arith, p.inside)

pub overflow_add-result-in-LongText-2 : goal.overflow_add-result-in-LongText-2
overflow_add-result-in-LongText-2 g c = let s = c.requires.stands in let p = laid_as c.args.source.now c.args.spot.now c.in-LongText.is c.layout.ensures s.0 s.1 s.2 in omega (arith, p.inside)

pub overflow_add-result-in-LongText-3 : goal.overflow_add-result-in-LongText-3
overflow_add-result-in-LongText-3 g c = let s = c.requires.stands in let p = laid_as c.args.source.now c.args.spot.now c.in-LongText.is c.layout.ensures s.0 s.1 s.2 in omega (arith, p.inside)

pub overflow_add-result-in-ShortText : goal.overflow_add-result-in-ShortText
overflow_add-result-in-ShortText g c = let s = c.requires.stands in let p = laid_as c.args.source.now c.args.spot.now c.in-ShortText.is c.layout.ensures s.0 s.1 s.2 in omega (arith, p.inside)

pub overflow_add-result-in-ShortText-2 : goal.overflow_add-result-in-ShortText-2
overflow_add-result-in-ShortText-2 g c = let s = c.requires.stands in let p = laid_as c.args.source.now c.args.spot.now c.in-ShortText.is c.layout.ensures s.0 s.1 s.2 in omega (arith, p.inside)

pub overflow_add-result-in-ShortText-3 : goal.overflow_add-result-in-ShortText-3
overflow_add-result-in-ShortText-3 g c = let s = c.requires.stands in let p = laid_as c.args.source.now c.args.spot.now c.in-ShortText.is c.layout.ensures s.0 s.1 s.2 in omega (arith, p.inside)

pub returns-in-Number-clause-built : goal.returns-in-Number-clause-built
returns-in-Number-clause-built g c = λ v rest s.
    let p = laid_as c.args.source.now c.args.spot.now c.in-Number.is c.layout.ensures v rest s in
    (number_built s c.in-Number.size (number_stands s c.in-Number.size p.some p.widths) c.in-Number.start c.number_at-value.result p.begins c.number_at-value.ensures.built, omega (arith, p.ends, c.from.ensures))

pub returns-in_ok-value-in-LongText-clause-built : goal.returns-in_ok-value-in-LongText-clause-built
returns-in_ok-value-in-LongText-clause-built g c = λ v rest s. ((c.in_ok-value-in-LongText.ensures v rest s).tree, (laid_as c.args.source.now c.args.spot.now c.in-LongText.is c.layout.ensures v rest s).ends)

pub returns-in_ok-value-in-LongText-clause-packed : goal.returns-in_ok-value-in-LongText-clause-packed
returns-in_ok-value-in-LongText-clause-packed g c = let s = c.requires.stands in (c.in_ok-value-in-LongText.ensures s.0 s.1 s.2).packed

pub returns-in_ok-value-in-ShortText-clause-built : goal.returns-in_ok-value-in-ShortText-clause-built
returns-in_ok-value-in-ShortText-clause-built g c = λ v rest s. ((c.in_ok-value-in-ShortText.ensures v rest s).tree, (laid_as c.args.source.now c.args.spot.now c.in-ShortText.is c.layout.ensures v rest s).ends)

pub returns-in_ok-value-in-ShortText-clause-packed : goal.returns-in_ok-value-in-ShortText-clause-packed
returns-in_ok-value-in-ShortText-clause-packed g c = let s = c.requires.stands in (c.in_ok-value-in-ShortText.ensures s.0 s.1 s.2).packed
