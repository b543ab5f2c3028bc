use Rattle.std.proofs.Common.{◌-◌, ◌≤◌, ℕ, List}
use Rattle.dbus_message_model.specs.Messages.{FieldTree}
use Rattle.dbus_walk.proofs.FieldParts.{Walked}
use Rattle.dbus_value_text.specs.Runs.{AreInRun}
use Rattle.dbus_value_text.proofs.Rows.{FieldsLed}
use Rattle.dbus_value_text.proofs.fields.write_field_run.Given as goal
use denote.Shadow.{shadow}
use denote.Text.{Utf8}

abbrev pub invariant-loop-at : goal.invariant-loop-at
invariant-loop-at g l = record {
  left : (fs : List FieldTree) (rest : List ℕ) → AreInRun l.run fs rest → Walked l.run.source l.run.depth_left l.run.end fs rest (FieldsLed g.D.Draft.gains l.lead l.separator l.initial.draft g.F.FieldForm.is_taken (g.F.FieldForm.is_text l.form) l.draft l.before l.place l.taken) l.at;
  few : l.place ≤ l.at;
  utf8 : shadow (Utf8 l.before);
}

abbrev pub decreases-loop-at : goal.decreases-loop-at
decreases-loop-at g l = l.run.end - l.at
