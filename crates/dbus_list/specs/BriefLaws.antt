-- The text of a container by those of its parts. D-Bus Specification, "Marshaling (Wire Format)".
use Rattle.std.proofs.Common.{◌≡◌, ℕ, List, [], ◌∷◌, ◌++◌, true, false, refl, sym, ◌∙◌}
use Rattle.dbus_value_model.specs.Values.{ValueTree, ValueTrees, NumberValue, TextValue, VariantValue, ArrayValue, StructValue, EntryValue, NoValues, MoreValues}
use Rattle.dbus_walk.specs.Containers.{parts}
use Rattle.dbus_show.specs.ShownValues.{joined}
use Rattle.dbus_value_text.specs.Forms.{AreTexts, IsListed}
use Rattle.dbus_list.specs.BriefValues.{AreBrief, IsBrief, close_text, open_text}

pub are_brief : (vs : ValueTrees) (texts : List (List ℕ)) → AreTexts IsBrief vs texts → AreBrief vs texts
are_brief NoValues [] h = h
are_brief NoValues (t ∷ texts) h = absurd h
are_brief (MoreValues x xs) [] h = absurd h
are_brief (MoreValues x xs) (t ∷ texts) h = (h.0, are_brief xs texts h.1)

pub whole_brief : (v : ValueTree) (texts : List (List ℕ)) → IsListed v → AreTexts IsBrief (parts v) texts → IsBrief v (open_text v ++ (joined texts ++ close_text v))
whole_brief (NumberValue k n) texts l are = absurd l
whole_brief (TextValue k t) texts l are = absurd l
whole_brief (VariantValue x) [] l are = absurd are
whole_brief (VariantValue x) (value ∷ []) l are = (value, are.0, refl)
whole_brief (VariantValue x) (value ∷ text ∷ texts) l are = absurd are.1
whole_brief (ArrayValue t xs) texts l are = ((λ e. let no : true ≡ false = sym e ∙ l in cc), λ e. (texts, are_brief xs texts are, refl))
whole_brief (StructValue xs) texts l are = (texts, are_brief xs texts are, refl)
whole_brief (EntryValue x y) [] l are = absurd are
whole_brief (EntryValue x y) (key ∷ []) l are = absurd are.1
whole_brief (EntryValue x y) (key ∷ value ∷ []) l are = (key, value, are.0, are.1.0, refl)
whole_brief (EntryValue x y) (key ∷ value ∷ text ∷ texts) l are = absurd are.1.1
