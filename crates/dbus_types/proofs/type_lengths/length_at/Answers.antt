use Rattle.std.proofs.Common.{◌+◌, length, arith, sym, ap}
use Rattle.std.proofs.lemmas.List.{length-drop, length-append}
use Rattle.dbus_texts.specs.Types.{sig}
use Rattle.dbus_texts.proofs.TypeTexts.{sig_positive}
use Rattle.dbus_types.proofs.TypeLengths.{array_there, one_byte}
use Rattle.dbus_types.proofs.type_lengths.length_at.Goals as goal

pub returns-in-97-clause-value : goal.returns-in-97-clause-value
returns-in-97-clause-value c = λ t more e.
    let a = array_there c.args.types.now c.args.at t more c.requires.inside e c.in-97.is in
    let long = c.requires.noted.value (c.args.at + 1) a.element more (omega arith) a.here in
    omega (arith, a.long, long)

pub returns-in_default-clause-value : goal.returns-in_default-clause-value
returns-in_default-clause-value c = λ t more e.
    let a = array_there c.args.types.now c.args.at t more c.requires.inside e c.in-97.is in
    absurd (omega (arith, ap length a.here, length-drop (c.args.at + 1) c.args.types.now, length-append (sig a.element) more, sig_positive a.element))

pub returns-in_default-2-clause-value : goal.returns-in_default-2-clause-value
returns-in_default-2-clause-value c = λ t more e. sym (one_byte c.args.types.now c.args.at t more c.requires.inside e (λ z. omega (arith, c.in_default, z)) (λ z. omega (arith, c.in_default, z)) (λ z. omega (arith, c.in_default, z)))
