-- The text of a container by those of its parts.
-- RFC 8259, sections 4 and 5; D-Bus Specification, "Marshaling (Wire Format)".
use Rattle.std.proofs.Common.{◌≡◌, ℕ, List, [], ◌∷◌, ◌++◌, true, false, refl, sym, ◌∙◌, append-nil, append_assoc}
use Rattle.dbus_value_model.specs.Values.{ValueTree, ValueTrees, NumberValue, TextValue, VariantValue, ArrayValue, StructValue, EntryValue, NoValues, MoreValues}
use Rattle.dbus_walk.specs.Containers.{parts}
use Rattle.dbus_value_text.specs.Forms.{AreTexts, IsListed}
use Rattle.dbus_json.specs.declared.integers.Integers.{Integers}
use Rattle.dbus_json.specs.JsonValues.{listed, IsJson, AreJson}
use Rattle.dbus_json.specs.Form.{open_text, close_text}

pub are_json : (integers : Integers) (vs : ValueTrees) (texts : List (List ℕ)) → AreTexts (IsJson integers) vs texts → AreJson integers vs texts
are_json integers NoValues [] h = h
are_json integers NoValues (t ∷ texts) h = absurd h
are_json integers (MoreValues x xs) [] h = absurd h
are_json integers (MoreValues x xs) (t ∷ texts) h = (h.0, are_json integers xs texts h.1)

pub whole_json : (integers : Integers) (v : ValueTree) (texts : List (List ℕ)) → IsListed v → AreTexts (IsJson integers) (parts v) texts → IsJson integers v (open_text v ++ (listed texts ++ close_text v))
whole_json integers (NumberValue k n) texts l are = absurd l
whole_json integers (TextValue k t) texts l are = absurd l
whole_json integers (VariantValue x) [] l are = absurd are
whole_json integers (VariantValue x) (value ∷ []) l are = (value, are.0, simp (append_assoc, append-nil))
whole_json integers (VariantValue x) (value ∷ text ∷ texts) l are = absurd are.1
whole_json integers (ArrayValue t xs) texts l are = ((λ e. let no : true ≡ false = sym e ∙ l in cc), λ e. (texts, are_json integers xs texts are, refl))
whole_json integers (StructValue xs) texts l are = (texts, are_json integers xs texts are, refl)
whole_json integers (EntryValue x y) [] l are = absurd are
whole_json integers (EntryValue x y) (key ∷ []) l are = absurd are.1
whole_json integers (EntryValue x y) (key ∷ value ∷ []) l are = (key, value, are.0, are.1.0, refl)
whole_json integers (EntryValue x y) (key ∷ value ∷ text ∷ texts) l are = absurd are.1.1
