use Rattle.std.proofs.Common.{ℕ, List, refl, rules, sym, subst}
use Rattle.dbus_show.specs.Escapes.{visible}
use Rattle.dbus_show.proofs.VisibleTexts.{ascii_visible, visible_utf8}
use Rattle.dbus_list.specs.Cutting.{Gains}
use Rattle.dbus_list.proofs.line_draft.LineDraftDraft.push_str.Goals as goal

pub returns-then-is_full : goal.returns-then-is_full
returns-then-is_full g c = record {
  same = refl;
  is_text = c.utf8.text;
  gained = c.is_full.ensures c.if-is_full.true (visible c.args.text.now) (visible_utf8 c.args.text.now c.utf8.text);
}

pub returns-in-Left : goal.returns-in-Left
returns-in-Left g c = record {
  same = refl;
  is_text = c.utf8.text;
  gained = subst (λ (t : List ℕ). Gains g.D.Draft.gains c.args.self.now.cut.now t c.push_ascii.new.self) (sym (ascii_visible c.args.text.now (search rules))) c.push_ascii.ensures;
}

pub returns-in_default : goal.returns-in_default
returns-in_default g c = record {
  same = refl;
  is_text = c.utf8.text;
  gained = subst (λ (t : List ℕ). Gains g.D.Draft.gains c.args.self.now.cut.now t c.push_str.new.self) (sym (ascii_visible c.args.text.now (search rules))) c.push_str.ensures;
}
