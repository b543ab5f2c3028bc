-- The texts of values in a form.
-- D-Bus Specification, "Marshaling (Wire Format)".
use Rattle.std.specs.Prelude.{◌≡◌, ℕ, List, [], ◌∷◌, ◌++◌, Bool, true, false, filter}
use Rattle.std.specs.List.{enumerate_from, join_by}
use Rattle.dbus_texts.specs.Types.{ArrayType, sig, sigs}
use Rattle.dbus_texts.specs.PlainTypes.{is_byte}
use Rattle.dbus_value_model.specs.Values.{ValueTree, ValueTrees, NumberValue, TextValue, ArrayValue, NoValues, MoreValues, types_of}
use Rattle.dbus_walk.specs.Containers.{parts}
use Rattle.dbus_message_model.specs.Messages.{FieldTree}

-- values, and a text of each
abbrev pub AreTexts : (ValueTree → List ℕ → Type 0) → ValueTrees → List (List ℕ) → Type 0
AreTexts Is NoValues [] = Unit {0}
AreTexts Is (MoreValues x xs) (text ∷ texts) = Is x text × AreTexts Is xs texts
AreTexts Is NoValues (text ∷ texts) = ⊥
AreTexts Is (MoreValues x xs) [] = ⊥

-- texts in a row
abbrev pub joined : (separator : List ℕ) → List (List ℕ) → List ℕ
joined separator texts = join_by (λ text. text) separator texts

-- texts, the first of them after a lead, and each other after a separator
abbrev pub led : (lead separator : List ℕ) → List (List ℕ) → List ℕ
led lead separator [] = []
led lead separator (text ∷ texts) = lead ++ joined separator (text ∷ texts)

-- what stands before the first part, and before a later one
abbrev pub part_text : (separator : List ℕ) → Bool → List ℕ
part_text separator true = []
part_text separator false = separator

-- it is a container whose parts are written one by one: no array of BYTE, which is written at one
-- stroke
abbrev pub IsListed : ValueTree → Type 0
IsListed (NumberValue k n) = ⊥
IsListed (TextValue k t) = ⊥
IsListed (ArrayValue t xs) = is_byte t ≡ false
IsListed _ = Unit {0}

-- the types that are told as it opens: an array's own, and of another container those of its parts
abbrev pub told_types : ValueTree → List ℕ
told_types (ArrayValue t xs) = sig (ArrayType t)
told_types v = sigs (types_of (parts v))

-- The texts of header fields in a form.
-- D-Bus Specification, "Header Fields".

-- the fields with the codes that are taken, in their order, each after its place among all
abbrev pub taken_fields : (is_taken : ℕ → Bool) → List FieldTree → List (ℕ × FieldTree)
taken_fields is_taken fs = filter (λ p. is_taken p.1.code) (enumerate_from 0 fs)

-- fields, each after its place, and a text of each
abbrev pub AreFieldTexts : ((place code : ℕ) → ValueTree → List ℕ → Type 0) → List (ℕ × FieldTree) → List (List ℕ) → Type 0
AreFieldTexts Is [] [] = Unit {0}
AreFieldTexts Is (p ∷ ps) (text ∷ texts) = Is p.0 p.1.code p.1.value text × AreFieldTexts Is ps texts
AreFieldTexts Is [] (text ∷ texts) = ⊥
AreFieldTexts Is (p ∷ ps) [] = ⊥
