-- Trusted by the headline.
-- The trees that a header field and a message's parts stand for.
-- D-Bus Specification, "Message Format", "Header Fields".
use Rattle.std.specs.Prelude.{List, map}
use Rattle.dbus_value_model.specs.ValueViews.{value_tree, value_trees_of}
use Rattle.dbus_message_model.specs.Messages.{FieldTree, MessageTree}
use Rattle.dbus_message_model.specs.declared.header_field.HeaderField.{HeaderField}
use Rattle.dbus_message_model.specs.declared.parts.Parts.{Parts}

abbrev pub field_tree : {A : Type 0} → HeaderField A → FieldTree
field_tree f = record { code = f.code; value = value_tree f.value }

abbrev pub field_trees : {A : Type 0} → List (HeaderField A) → List FieldTree
field_trees fs = map field_tree fs

abbrev pub parts_tree : {A : Type 0} → Parts A → MessageTree
parts_tree p = record { kind = p.kind; flags = p.flags; serial = p.serial; fields = field_trees p.fields.items; body = value_trees_of p.body.items }
