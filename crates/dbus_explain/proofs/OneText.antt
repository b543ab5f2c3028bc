-- What is said of a refused message is one text.
use Rattle.std.proofs.Common.{◌≡◌, ℕ, ◌+◌, List, [], ◌∷◌, ◌++◌, codes, decimal, Bool, true, false, cond, nat_eq, ◌&&◌, if◌then◌else◌, filter, min, not, Option, refl, sym, ap, ◌∙◌, subst, arith}
use Rattle.std.specs.List.{enumerate_from, flat_map}
use Rattle.std.proofs.Math.Path.{transport}
use Rattle.dbus_texts.specs.Types.{DOUBLE, sig}
use Rattle.dbus_texts.specs.PlainTypes.{is_byte}
use Rattle.dbus_value_model.specs.declared.fault.Fault.{Fault}
use Rattle.dbus_value_model.specs.Values.{ValueTree, ValueTrees, NumberValue, TextValue, VariantValue, ArrayValue, StructValue, EntryValue, NoValues, MoreValues, type_of}
use Rattle.dbus_value_model.specs.declared.order.Order.{Order}
use Rattle.dbus_message_model.specs.Messages.{FieldTree, is_known}
use Rattle.dbus_show.specs.ShownMessages.{field_name}
use Rattle.dbus_value_text.specs.Forms.{AreFieldTexts}
use Rattle.dbus_json.specs.declared.integers.Integers.TheVariants.{Exact}
use Rattle.dbus_json.specs.JsonMessages.{IsJsonHeader, IsKnown, IsOther, head_members, is_before_known, known_fields, other_fields, place_members}
use Rattle.dbus_json.specs.JsonValues.{AreJson, IsJson, array, listed, member, object, plain, string}
use Rattle.dbus_explain.specs.Explained.{bytes_line, place_in, rule_line}
use Rattle.dbus_explain.specs.Heads.{AreWhole, IsHead, flags_of, head_lines, kind_of, serial_of}
use Rattle.dbus_explain.specs.Laws.{AreOfOne, FieldsHaveNoDouble, HasNoDouble, HaveNoDouble, OneExplanation, OneRefusal}
use Rattle.dbus_explain.specs.Looks.{look_at}
use Rattle.dbus_explain.specs.Members.{AreMembersOf, IsJsonHead}
use Rattle.dbus_explain.specs.Members as members
use Rattle.dbus_explain.specs.Names.{IsNameOf, text_part}
use Rattle.dbus_explain.specs.Places.{fields_end, order_of}
use Rattle.dbus_explain.specs.Rules.{rule_text}
use Rattle.dbus_explain.specs.declared.message.Refused.{Refused}
use Rattle.dbus_explain.specs.declared.search.StatedText.{StatedText}
use Rattle.dbus_explain.proofs.OneHead.{head_one, whole_one}
use Rattle.dbus_explain.proofs.OneName.{name_one}

-- ---- an explanation

-- its lines, by what they depend on
abbrev lines_of : (bytes : List ℕ) → Fault → (number offset : ℕ) → (name : List ℕ) → Option StatedText → Option (List ℕ) → List (List ℕ)
lines_of bytes fault number offset name text head =
    let at = place_in bytes fault in
    (codes "  message " ++ (decimal number ++ (codes " at " ++ (decimal offset ++ (codes ", byte " ++ (decimal at ++ (codes ": " ++ (name ++ text_part text))))))))
    ∷ (head_lines head ++ (bytes_line bytes at ∷ rule_line (rule_text fault.reason ++ look_at bytes fault offset) ∷ []))

same_name : (a b : Refused) (x y : List ℕ) (t u : Option StatedText) → AreOfOne a b → IsNameOf a.bytes.now a.fault.reason (place_in a.bytes.now a.fault) x t → IsNameOf b.bytes.now b.fault.reason (place_in b.bytes.now b.fault) y u
    → (x ≡ y) × (t ≡ u)
same_name a b x y t u same h k =
    name_one a.bytes.now (place_in a.bytes.now a.fault) a.fault.reason x y t u h
    (transport (λ i. IsNameOf (sym same.bytes i) (sym same.fault i).reason (place_in (sym same.bytes i) (sym same.fault i)) y u) k)

pub one_explanation : OneExplanation
one_explanation a b x y same h k =
    let name = same_name a b h.name k.name h.stated k.stated same h.named k.named in
    let head = head_one a.bytes.now (place_in a.bytes.now a.fault) a.number h.head k.head h.headed
    (transport (λ i. IsHead (sym same.bytes i) (place_in (sym same.bytes i) (sym same.fault i)) (sym same.number i) k.head) k.headed) in
    h.lines.text_is ∙ (ap (λ (l : List (List ℕ)). flat_map (λ line. line ++ codes "\n") l) (λ i. lines_of (same.bytes i) (same.fault i) (same.number i) (same.offset i) (name.0 i) (name.1 i) (head i)) ∙ sym k.lines.text_is)

-- ---- JSON of values without DOUBLEs

array_one : (b : Bool) (x y text : List ℕ) (P Q : Type 0) → (P → Q → x ≡ y) → (b ≡ true → x ≡ text) × (b ≡ false → P) → (b ≡ true → y ≡ text) × (b ≡ false → Q) → x ≡ y
array_one true x y text P Q one h k = h.0 refl ∙ sym (k.0 refl)
array_one false x y text P Q one h k = one (h.1 refl) (k.1 refl)

mutual
  json_one : (v : ValueTree) (x y : List ℕ) → HasNoDouble v → IsJson Exact v x → IsJson Exact v y → x ≡ y
  json_one (NumberValue DOUBLE n) x y none h k = absurd none
  json_one (NumberValue c n) x y none h k = h ∙ sym k
  json_one (TextValue c t) x y none h k = h ∙ sym k
  json_one (ArrayValue t xs) x y none h k =
      array_one (is_byte t) x y _ _ _ (λ p q. p.2 ∙ (ap array (jsons_one xs p.0 q.0 none p.1 q.1) ∙ sym q.2)) h k
  json_one (StructValue xs) x y none h k = h.2 ∙ (ap array (jsons_one xs h.0 k.0 none h.1 k.1) ∙ sym k.2)
  json_one (EntryValue u w) x y none h k =
      let key = json_one u h.0 k.0 none.0 h.2 k.2 in
      let value = json_one w h.1 k.1 none.1 h.3 k.3 in
      h.4 ∙ ((λ i. array (key i ∷ value i ∷ [])) ∙ sym k.4)
  json_one (VariantValue w) x y none h k =
      let value = json_one w h.0 k.0 none h.1 k.1 in
      h.2 ∙ ((λ i. object (member (codes "type") (plain (sig (type_of w))) ∷ member (codes "value") (value i) ∷ [])) ∙ sym k.2)

  jsons_one : (vs : ValueTrees) (x y : List (List ℕ)) → HaveNoDouble vs → AreJson Exact vs x → AreJson Exact vs y → x ≡ y
  jsons_one NoValues [] [] none h k = refl
  jsons_one NoValues (t ∷ x) y none h k = absurd h
  jsons_one NoValues [] (t ∷ y) none h k = absurd k
  jsons_one (MoreValues v vs) [] y none h k = absurd h
  jsons_one (MoreValues v vs) (t ∷ x) [] none h k = absurd k
  jsons_one (MoreValues v vs) (t ∷ x) (u ∷ y) none h k = λ i. json_one v t u none.0 h.0 k.0 i ∷ jsons_one vs x y none.1 h.1 k.1 i

-- ---- a header

-- fields, each after its place, have no DOUBLE
abbrev TakenHaveNone : List (ℕ × FieldTree) → Type 0
TakenHaveNone [] = Unit {0}
TakenHaveNone (p ∷ ps) = HasNoDouble p.1.value × TakenHaveNone ps

kept_none : (b : Bool) (p : ℕ × FieldTree) (ps : List (ℕ × FieldTree)) → HasNoDouble p.1.value → TakenHaveNone ps → TakenHaveNone (cond b (p ∷ ps) ps)
kept_none true p ps one more = (one, more)
kept_none false p ps one more = more

taken_none : (taken : ℕ → Bool) (n : ℕ) (fs : List FieldTree) → FieldsHaveNoDouble fs → TakenHaveNone (filter (λ (p : ℕ × FieldTree). taken p.1.code) (enumerate_from n fs))
taken_none taken n [] h = tt
taken_none taken n (f ∷ fs) h = kept_none (taken f.code) (n, f) _ h.0 (taken_none taken (n + 1) fs h.1)

texts_one : (Is : (place code : ℕ) → ValueTree → List ℕ → Type 0) → ((place code : ℕ) (v : ValueTree) (x y : List ℕ) → HasNoDouble v → Is place code v x → Is place code v y → x ≡ y)
    → (ps : List (ℕ × FieldTree)) (x y : List (List ℕ)) → TakenHaveNone ps → AreFieldTexts Is ps x → AreFieldTexts Is ps y → x ≡ y
texts_one Is one [] [] [] none h k = refl
texts_one Is one [] (t ∷ x) y none h k = absurd h
texts_one Is one [] [] (t ∷ y) none h k = absurd k
texts_one Is one (p ∷ ps) [] y none h k = absurd h
texts_one Is one (p ∷ ps) (t ∷ x) [] none h k = absurd k
texts_one Is one (p ∷ ps) (t ∷ x) (u ∷ y) none h k = λ i. one p.0 p.1.code p.1.value t u none.0 h.0 k.0 i ∷ texts_one Is one ps x y none.1 h.1 k.1 i

known_one : (code : ℕ) (v : ValueTree) (x y : List ℕ) → HasNoDouble v → IsKnown Exact code v x → IsKnown Exact code v y → x ≡ y
known_one code v x y none h k = h.is ∙ (ap (λ (l : List ℕ). member (field_name code) l) (json_one v h.value k.value none h.json k.json) ∙ sym k.is)

other_one : (before : Bool) (place code : ℕ) (v : ValueTree) (x y : List ℕ) → HasNoDouble v → IsOther Exact before place code v x → IsOther Exact before place code v y → x ≡ y
other_one before place code v x y none h k =
    let value = json_one v h.value k.value none h.json k.json in
    h.is ∙ ((λ i. object (member (codes "code") (decimal code) ∷ member (codes "type") (plain (sig (type_of v))) ∷ member (codes "value") (value i) ∷ place_members before place)) ∙ sym k.is)

header_one : (order : Order) (kind flags serial : ℕ) (fs : List FieldTree) (x y : List ℕ) → FieldsHaveNoDouble fs → IsJsonHeader order kind flags serial fs x → IsJsonHeader order kind flags serial fs y → x ≡ y
header_one order kind flags serial fs x y none h k =
    let known = texts_one (λ _ code v text. IsKnown Exact code v text) (λ _ code v t u. known_one code v t u) (known_fields fs) h.known k.known (taken_none is_known 0 fs none) h.fields.0 k.fields.0 in
    let others = texts_one (λ place code v text. IsOther Exact (is_before_known fs place) place code v text) (λ place code v t u. other_one (is_before_known fs place) place code v t u) (other_fields fs) h.others k.others
    (taken_none (λ code. not (is_known code)) 0 fs none) h.fields.1 k.fields.1 in
    h.is ∙ ((λ i. object (head_members order kind flags serial ++ (known i ++ (member (codes "fields") (array (others i)) ∷ [])))) ∙ sym k.is)

module _ (bytes : List ℕ) (at : ℕ) (none : (fs : List FieldTree) → AreWhole bytes (min at (fields_end bytes)) fs → FieldsHaveNoDouble fs) where
  json_head_one : (x y : List ℕ) → IsJsonHead bytes at x → IsJsonHead bytes at y → x ≡ y
  json_head_one x y (members.none h) (members.none k) = refl
  json_head_one x y (members.none h) (members.typed k l) = absurd (omega (arith, h, k))
  json_head_one x y (members.none h) (members.fields gs t k l m) = absurd (omega (arith, h, k))
  json_head_one x y (members.typed h l) (members.none k) = absurd (omega (arith, h, k))
  json_head_one x y (members.typed h l) (members.typed k m) = refl
  json_head_one x y (members.typed h l) (members.fields gs t k m n) = absurd (omega (arith, l, k))
  json_head_one x y (members.fields fs s h l m) (members.none k) = absurd (omega (arith, h, k))
  json_head_one x y (members.fields fs s h l m) (members.typed k n) = absurd (omega (arith, h, n))
  json_head_one x y (members.fields fs s h l m) (members.fields gs t k n o) =
      let same = whole_one bytes (min at (fields_end bytes)) fs gs l n in
      header_one (order_of bytes) (kind_of bytes) (flags_of bytes) (serial_of bytes) fs s t (none fs l) m
      (subst (λ (fields : List FieldTree). IsJsonHeader (order_of bytes) (kind_of bytes) (flags_of bytes) (serial_of bytes) fields t) (sym same) o)

pub one_refusal : OneRefusal
one_refusal a b x y same none h k =
    let name = same_name a b h.name k.name h.text k.text same h.named k.named in
    let header = json_head_one a.bytes.now (place_in a.bytes.now a.fault) none h.header k.header h.headed
    (transport (λ i. IsJsonHead (sym same.bytes i) (place_in (sym same.bytes i) (sym same.fault i)) k.header) k.headed) in
    h.is ∙ ((λ i. listed (member (codes "place") (string (name.0 i ++ text_part (name.1 i))) ∷ member (codes "rule") (string (rule_text (same.fault i).reason)) ∷ member (codes "header") (header i) ∷ [])) ∙ sym k.is)
