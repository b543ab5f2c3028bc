use Rattle.std.proofs.Common.{◌≡◌, List, [], ℕ, Bool, true, false, refl}
use Rattle.dbus_value_text.specs.Forms.{part_text}
use Rattle.dbus_value_text.proofs.visiting.WriterVisitor.wants_no_more.Goals as goal

-- what comes before a part, if nothing and a separator may
either : (Gained : List ℕ → Type 0) (separator : List ℕ) (is_first : Bool) → Gained [] → Gained separator → Gained (part_text separator is_first)
either Gained separator true none some = none
either Gained separator false none some = some

-- a draft that gains nothing of values gains a text of each, and what comes between two
pub returns : goal.returns
returns g c = record {
  values = λ is order at depth v formed. let some = c.is_past.ensures.values is depth v formed in (some.0, some.1, record { same = refl; gained = some.2 });
  parts = λ is is_first. record { same = refl; gained = either (λ (text : List ℕ). g.D.Draft.gains c.args.self.now.draft.now text c.args.self.now.draft.now) g.F.ValueForm.separator_text is_first (g.met.D.Draft.nothing c.args.self.now.draft.now) (c.is_past.ensures.separators is) };
}
