use Rattle.std.proofs.Common.{refl}
use Rattle.dbus_show.specs.ShownValues.{quoted}
use Rattle.dbus_list.proofs.QuotedTexts.{quoted_utf8}
use Rattle.dbus_list.proofs.brief.BriefValueForm.text.Goals as goal

-- it is text, so that the draft need not gain it
pub returns-else-not-is_full : goal.returns-else-not-is_full
returns-else-not-is_full g c = record {
  written = λ k e. (quoted c.args.text.now, refl, c.is_full.ensures c.if-not-is_full.false (quoted c.args.text.now) (quoted_utf8 c.args.text.now c.utf8.text));
}
