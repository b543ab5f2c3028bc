-- The text of a container by those of its parts.
use Rattle.std.proofs.Common.{◌≡◌, ℕ, List, [], ◌∷◌, ◌++◌, refl, sym, ap, ◌∙◌, append-nil, append_assoc}
use Rattle.dbus_texts.specs.Types.{sig}
use Rattle.dbus_value_model.specs.Values.{ValueTree, ValueTrees, NumberValue, TextValue, VariantValue, ArrayValue, StructValue, EntryValue, NoValues, MoreValues}
use Rattle.dbus_walk.specs.Containers.{parts}
use Rattle.dbus_show.specs.ShownValues.{joined, value_text, value_texts}
use Rattle.dbus_value_text.specs.Forms.{AreTexts, IsListed}
use Rattle.dbus_show_view.specs.Plain.{open_text, close_text}

pub texts_are : (vs : ValueTrees) (texts : List (List ℕ)) → AreTexts (λ v text. text ≡ value_text v) vs texts → texts ≡ value_texts vs
texts_are NoValues [] h = refl
texts_are NoValues (t ∷ texts) h = absurd h
texts_are (MoreValues x xs) [] h = absurd h
texts_are (MoreValues x xs) (t ∷ texts) h = ap (λ (s : List ℕ). s ∷ texts) h.0 ∙ ap (λ (ts : List (List ℕ)). value_text x ∷ ts) (texts_are xs texts h.1)

by_parts : (v : ValueTree) → IsListed v → open_text v ++ (joined (value_texts (parts v)) ++ close_text v) ≡ value_text v
by_parts (NumberValue k n) l = absurd l
by_parts (TextValue k t) l = absurd l
by_parts (VariantValue x) l = ap (λ (s : List ℕ). 60 ∷ (s ++ 62 ∷ [])) (append-nil (value_text x))
by_parts (ArrayValue t xs) l =
    let items = joined (value_texts xs) in
    let whole : value_text (ArrayValue t xs) ≡ 97 ∷ (sig t ++ (58 ∷ 91 ∷ (items ++ 93 ∷ []))) = rw l refl in
    let apart : (97 ∷ (sig t ++ (58 ∷ 91 ∷ []))) ++ (items ++ 93 ∷ []) ≡ 97 ∷ (sig t ++ (58 ∷ 91 ∷ (items ++ 93 ∷ []))) = simp append_assoc in
    apart ∙ sym whole
by_parts (StructValue xs) l = refl
by_parts (EntryValue x y) l = simp append_assoc

pub whole_text : (v : ValueTree) (texts : List (List ℕ)) → IsListed v → AreTexts (λ v text. text ≡ value_text v) (parts v) texts → open_text v ++ (joined texts ++ close_text v) ≡ value_text v
whole_text v texts l are = ap (λ (ts : List (List ℕ)). open_text v ++ (joined ts ++ close_text v)) (texts_are (parts v) texts are) ∙ by_parts v l
