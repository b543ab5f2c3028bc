use Rattle.std.proofs.Common.{refl}
use Rattle.dbus_show.specs.Escapes.{visible}
use Rattle.dbus_show.proofs.VisibleTexts.{visible_utf8}
use Rattle.dbus_list.proofs.line_draft.LineDraftDraft.is_full.Goals as goal

pub returns : goal.returns
returns g c = λ full text utf8. record { same = refl; is_text = utf8; gained = c.is_full.ensures full (visible text) (visible_utf8 text utf8) }
