-- The text or the number of a known field, in the type that is wanted of it.
-- D-Bus Specification, "Header Fields".
use Rattle.std.specs.Prelude.{◌≡◌, ℕ, List, Option, Some, zero, suc, [], ◌∷◌, nat_eq, if◌then◌else◌, None}
use Rattle.dbus_texts.specs.Types.{UINT32, STRING, NumberType, TextType, OBJECT_PATH, SIGNATURE}
use Rattle.dbus_value_model.specs.Values.{ValueTree, TextValue, ValueTrees, NoValues, MoreValues}
use Rattle.dbus_value_model.specs.WantedTexts.{Of}
use Rattle.dbus_value_model.specs.declared.fault.Reason.{Reason}
use Rattle.dbus_value_model.specs.declared.fault.Reason.TheVariants.{FieldMissing}
use Rattle.dbus_message_model.specs.Messages.{Want, OfType, Name, Serial, FieldTree, Anything}
use Rattle.dbus_message_model.specs.declared.field_table.Wanted.{Wanted}
use Rattle.dbus_message_model.specs.declared.field_table.Wanted.TheVariants as wanted

-- a text is wanted
abbrev pub WantsText : Want → Type 0
WantsText (OfType (TextType k)) = Unit {0}
WantsText (Name k) = Unit {0}
WantsText _ = ⊥

-- the value is that text, of the type that is wanted
abbrev pub IsTextOf : Want → Option ValueTree → List ℕ → Type 0
IsTextOf (OfType (TextType k)) v t = v ≡ Some (TextValue k t)
IsTextOf (Name k) v t = v ≡ Some (TextValue STRING t)
IsTextOf _ v t = ⊥

-- a UINT32 is wanted
abbrev pub WantsNumber : Want → Type 0
WantsNumber (OfType (NumberType UINT32)) = Unit {0}
WantsNumber Serial = Unit {0}
WantsNumber _ = ⊥

-- The first field of a code, and the body's values by number.
-- D-Bus Specification, "Header Fields" and "Message Format".

abbrev pub field_value : ℕ → List FieldTree → Option ValueTree
field_value c [] = None
field_value c (f ∷ fs) = if nat_eq f.code c then Some f.value else field_value c fs

abbrev pub body_value : ℕ → ValueTrees → Option ValueTree
body_value n NoValues = None
body_value zero (MoreValues x xs) = Some x
body_value (suc n) (MoreValues x xs) = body_value n xs

-- What is wanted of a field's value, as the code names it.
-- D-Bus Specification, "Header Fields".

abbrev pub want_of : Wanted → Want
want_of wanted.Anything = Anything
want_of wanted.Path = OfType (TextType OBJECT_PATH)
want_of (wanted.Name kind) = Name (Of kind)
want_of wanted.Serial = Serial
want_of wanted.Signature = OfType (TextType SIGNATURE)
want_of wanted.Number = OfType (NumberType UINT32)

-- The field that a message lacks, as the code names it.
-- D-Bus Specification, "Header Fields".

abbrev pub IsMissing : Option Reason → Option ℕ → Type 0
IsMissing why None = why ≡ None
IsMissing why (Some code) = why ≡ Some (FieldMissing code)
