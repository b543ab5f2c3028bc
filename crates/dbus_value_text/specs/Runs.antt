-- Header fields that stand in the bytes of a message up to an end.
-- D-Bus Specification, "Message Format" and "Header Fields".
use Rattle.std.specs.Prelude.{ℕ, List}
use Rattle.dbus_message_model.specs.Messages.{FieldTree}
use Rattle.dbus_walk.specs.Fields.{FieldsLeft}
use Rattle.dbus_value_text.specs.declared.fields.FieldRun.{FieldRun}

-- these fields stand from offset 16 up to the end of the run, and rest are the bytes after them
abbrev pub AreInRun : FieldRun → List FieldTree → (rest : List ℕ) → Type 0
AreInRun run fs rest = FieldsLeft run.source run.depth_left 16 run.end fs rest

-- some do
abbrev pub IsRun : FieldRun → Type 0
IsRun run = (fs : List FieldTree) × (rest : List ℕ) × AreInRun run fs rest
