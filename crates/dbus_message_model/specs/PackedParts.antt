-- Where an array of bytes is `Bytes` in a message's parts: the one thing of their values that their
-- tree does not show. D-Bus Specification, "Marshaling (Wire Format)".
use Rattle.std.specs.Prelude.{List, map, IsTrue}
use Rattle.dbus_value_model.specs.PackedBytes.{keep_bytes}
use Rattle.dbus_value_model.specs.declared.value.Value.{Value}
use Rattle.dbus_message_model.specs.declared.header_field.HeaderField.{HeaderField}
use Rattle.dbus_message_model.specs.declared.parts.Parts.{Parts}

abbrev pub field_values : {A : Type 0} → List (HeaderField A) → List (Value A)
field_values fs = map (λ f. f.value) fs

-- no `Array` of BYTE stands in a value of the fields or of the body, however deep
abbrev pub PartsKeepBytes : {A : Type 0} → Parts A → Type 0
PartsKeepBytes p = IsTrue (keep_bytes (field_values p.fields.items)) × IsTrue (keep_bytes p.body.items)
