-- The texts of header fields, by their parts.
use Rattle.std.proofs.Common.{◌≡◌, ℕ, suc, ◌+◌, List, [], ◌∷◌, ◌++◌, Bool, true, false, not, cond, filter, nat_lt, drop, codes, decimal, append_assoc, refl, sym, ap, subst, ◌∙◌}
use Rattle.std.specs.List.{enumerate_from, list_all, list_any}
use Rattle.std.proofs.lemmas.Bool.{and_parts}
use Rattle.std.proofs.lemmas.List.{append-nil}
use Rattle.dbus_texts.specs.Types.{sig}
use Rattle.dbus_value_model.specs.Values.{ValueTree, type_of}
use Rattle.dbus_message_model.specs.Messages.{FieldTree, is_known}
use Rattle.dbus_value_text.specs.Forms.{AreFieldTexts}
use Rattle.dbus_json.specs.declared.integers.Integers.{Integers}
use Rattle.dbus_json.specs.JsonValues.{plain, member, object}
use Rattle.dbus_json.specs.JsonMessages.{AreOthers, IsOther, place_members, end_text, is_before_known}

-- ---- a field that is not known

abbrev pub other : Bool → (place code : ℕ) → ValueTree → List ℕ → List ℕ
other before_known place code v value = object (member (codes "code") (decimal code) ∷ member (codes "type") (plain (sig (type_of v))) ∷ member (codes "value") value ∷ place_members before_known place)

other_parts : (code type value : List ℕ)
    → codes "{\"code\":" ++ (code ++ (codes ",\"type\":\"" ++ (type ++ (codes "\",\"value\":" ++ (value ++ codes "}")))))
    ≡ codes "{\"code\":" ++ ((code ++ ((codes ",\"type\":\"" ++ (type ++ codes "\"")) ++ ((codes ",\"value\":" ++ value) ++ []))) ++ codes "}")
other_parts code type value =
    let x = codes ",\"type\":\"" ++ (type ++ codes "\"") in
    let y = codes ",\"value\":" ++ value in
    let e = codes "}" in
    sym
    (ap (λ (s : List ℕ). codes "{\"code\":" ++ ((code ++ (x ++ s)) ++ e)) (append-nil y)
    ∙ ap (λ (s : List ℕ). codes "{\"code\":" ++ s) (append_assoc code (x ++ y) e ∙ ap (λ (s : List ℕ). code ++ s) (append_assoc x y e ∙ ap (λ (s : List ℕ). codes ",\"type\":\"" ++ s) (append_assoc type (codes "\"") (y ++ e)))))

placed_parts : (code type value place : List ℕ)
    → codes "{\"code\":" ++ (code ++ (codes ",\"type\":\"" ++ (type ++ (codes "\",\"value\":" ++ (value ++ (codes ",\"place\":" ++ (place ++ codes "}")))))))
    ≡ codes "{\"code\":" ++ ((code ++ ((codes ",\"type\":\"" ++ (type ++ codes "\"")) ++ ((codes ",\"value\":" ++ value) ++ ((codes ",\"place\":" ++ place) ++ [])))) ++ codes "}")
placed_parts code type value place =
    let x = codes ",\"type\":\"" ++ (type ++ codes "\"") in
    let v = codes ",\"value\":" ++ value in
    let y = codes ",\"place\":" ++ place in
    let e = codes "}" in
    sym
    (ap (λ (s : List ℕ). codes "{\"code\":" ++ ((code ++ (x ++ (v ++ s))) ++ e)) (append-nil y)
    ∙ ap (λ (s : List ℕ). codes "{\"code\":" ++ s) (append_assoc code (x ++ (v ++ y)) e
    ∙ ap (λ (s : List ℕ). code ++ s) (append_assoc x (v ++ y) e
    ∙ ap (λ (s : List ℕ). x ++ s) (append_assoc v y e)
    ∙ ap (λ (s : List ℕ). codes ",\"type\":\"" ++ s) (append_assoc type (codes "\"") (v ++ (y ++ e))))))

other_whole : (before_known : Bool) (place code : ℕ) (v : ValueTree) (value types : List ℕ) → sig (type_of v) ≡ types
    → codes "{\"code\":" ++ (decimal code ++ (codes ",\"type\":\"" ++ (sig (type_of v) ++ (codes "\",\"value\":" ++ (value ++ end_text before_known place))))) ≡ other before_known place code v value
other_whole true place code v value types is =
    ap (λ (s : List ℕ). codes "{\"code\":" ++ (decimal code ++ (codes ",\"type\":\"" ++ (sig (type_of v) ++ (codes "\",\"value\":" ++ (value ++ s))))))
    (ap (λ (s : List ℕ). codes "," ++ (s ++ codes "}")) (append-nil (member (codes "place") (decimal place))) ∙ append_assoc (codes ",\"place\":") (decimal place) (codes "}"))
    ∙ placed_parts (decimal code) (sig (type_of v)) value (decimal place)
other_whole false place code v value types is = other_parts (decimal code) (sig (type_of v)) value

pub other_text : (before_known : Bool) (place code : ℕ) (v : ValueTree) (value types : List ℕ) → sig (type_of v) ≡ types
    → codes "{\"code\":" ++ (decimal code ++ (codes ",\"type\":\"" ++ (types ++ (codes "\",\"value\":" ++ (value ++ end_text before_known place))))) ≡ other before_known place code v value
other_text before_known place code v value types is =
    ap (λ (t : List ℕ). codes "{\"code\":" ++ (decimal code ++ (codes ",\"type\":\"" ++ (t ++ (codes "\",\"value\":" ++ (value ++ end_text before_known place)))))) (sym is)
    ∙ other_whole before_known place code v value types is

-- its place stands last
pub place_last : (place : ℕ) → codes ",\"place\":" ++ (decimal place ++ codes "}") ≡ end_text true place
place_last place =
    sym
    (ap (λ (s : List ℕ). codes "," ++ (s ++ codes "}")) (append-nil (member (codes "place") (decimal place))) ∙ append_assoc (codes ",\"place\":") (decimal place) (codes "}"))

-- ---- fields that are not known

-- where the known fields end, and which others a known one stands after
pub others_are : (integers : Integers) (end : ℕ) (fs : List FieldTree) → ((n : ℕ) → list_any (λ (f : FieldTree). is_known f.code) (drop n fs) ≡ nat_lt n end) → (ps : List (ℕ × FieldTree)) (texts : List (List ℕ))
    → AreFieldTexts (λ place code v text. IsOther integers (nat_lt (suc place) end) place code v text) ps texts → AreFieldTexts (λ place code v text. IsOther integers (is_before_known fs place) place code v text) ps texts
others_are integers end fs h [] [] are = tt
others_are integers end fs h [] (t ∷ texts) are = absurd are
others_are integers end fs h (p ∷ ps) [] are = absurd are
others_are integers end fs h (p ∷ ps) (t ∷ texts) are =
    (subst (λ (b : Bool). IsOther integers b p.0 p.1.code p.1.value t) (sym (h (suc p.0))) are.0, others_are integers end fs h ps texts are.1)

-- if all are known
all_passed : (n : ℕ) (fs : List FieldTree) → list_all (λ (f : FieldTree). is_known f.code) fs ≡ true → filter (λ (p : ℕ × FieldTree). not (is_known p.1.code)) (enumerate_from n fs) ≡ []
all_passed n [] h = refl
all_passed n (f ∷ fs) h =
    let both = and_parts _ _ h in
    let rest = filter (λ (p : ℕ × FieldTree). not (is_known p.1.code)) (enumerate_from (n + 1) fs) in
    ap (λ (b : Bool). cond (not b) ((n, f) ∷ rest) rest) both.0 ∙ all_passed (n + 1) fs both.1

pub no_others : (integers : Integers) (fs : List FieldTree) → list_all (λ (f : FieldTree). is_known f.code) fs ≡ true → AreOthers integers fs []
no_others integers fs h = subst (λ (ps : List (ℕ × FieldTree)). AreFieldTexts (λ place code v text. IsOther integers (is_before_known fs place) place code v text) ps []) (sym (all_passed 0 fs h)) tt
