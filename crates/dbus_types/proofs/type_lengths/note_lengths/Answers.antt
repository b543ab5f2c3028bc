use Rattle.std.proofs.Common.{arith, ap, length}
use Rattle.std.proofs.lemmas.List.{length-drop, length-append}
use Rattle.dbus_texts.proofs.TypeTexts.{sig_positive}
use Rattle.dbus_texts.specs.Types.{sig}
use Rattle.dbus_types.proofs.type_lengths.note_lengths.Goals as goal

pub loop-at-init : goal.loop-at-init
loop-at-init c = record {
  within = omega arith;
  noted = record {
    same = c.requires.same;
    value = λ pos t more after e. absurd (omega (arith, after, ap length e, length-drop pos c.args.types.now, length-append (sig t) more, sig_positive t));
    some = λ pos after lt. absurd (omega (arith, after, lt));
    within = λ pos after lt. absurd (omega (arith, after, lt));
  };
}
