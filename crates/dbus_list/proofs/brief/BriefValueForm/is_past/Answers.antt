use Rattle.std.proofs.Common.{codes}
use Rattle.dbus_list.proofs.SomeLines.{separator_utf8, some_brief}
use Rattle.dbus_list.proofs.brief.BriefValueForm.is_past.Goals as goal

-- a draft that is full gains no text
pub returns : goal.returns
returns g c = record {
  values = λ is depth v formed. let some = some_brief v in (some.0, some.1, c.is_full.ensures is some.0 (some.2 depth formed));
  separators = λ is. c.is_full.ensures is (codes ", ") separator_utf8;
}
