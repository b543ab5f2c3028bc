-- No JSON spells two messages.
use Rattle.std.proofs.Common.{◌≡◌, ℕ, suc, ◌+◌, ◌-◌, ◌^◌, ◌<◌, List, [], ◌∷◌, length, map, get_or, Option, Some, None, inl, inr, codes, refl, sym, ap, ◌∙◌, subst, arith}
use Rattle.std.proofs.lemmas.Option.{same_Some}
use Rattle.json.specs.Find.{get}
use Rattle.json.specs.Json.{Json, string}
use Rattle.json.specs.Json as json
use Rattle.dbus_value_model.specs.declared.limits.Limits.{Limits}
use Rattle.dbus_value_model.specs.declared.order.Order.{Order}
use Rattle.dbus_value_model.specs.declared.order.Order.TheVariants.{Little}
use Rattle.dbus_value_model.specs.Specification.{specification}
use Rattle.dbus_value_model.specs.Spelling.{contents_start}
use Rattle.dbus_message_model.specs.Messages.{FieldTree, MessageTree, field_type, body_signature}
use Rattle.dbus_message_model.proofs.Widening.{widest_valid}
use Rattle.dbus_json.specs.declared.integers.Integers.{Integers}
use Rattle.dbus_json.specs.JsonMessages.{known_fields}
use Rattle.dbus_json_reader.specs.JsonMembers.{SpellsKind}
use Rattle.dbus_json_reader.specs.JsonMessages.{SpellsOrder, IsReadMessage}
use Rattle.dbus_json_reader.specs.JsonParts.{AreReadFields, IsOtherField}
use Rattle.dbus_json_reader.proofs.Merging.{Mixed, next_object, one_other, only_known}
use Rattle.dbus_json_reader.proofs.Messages.{fields_of, known_of, body_of, one_kind, one_number, one_body, same_message}
use Rattle.dbus_json_reader.proofs.Placing.{field_of, read_row, read_known}
use Rattle.dbus_json_reader.proofs.Shapes.{strings_same}
use Rattle.dbus_json_laws.specs.Reading.{IsOneMessageEach}
use Rattle.dbus_json_laws.proofs.Fields.{few_fields}
use Rattle.dbus_json_laws.proofs.Lines.{order_same}

-- ---- one row

long_row : (integers : Integers) (depth n : ℕ) (ks : List FieldTree) (js : List Json) (fs : List FieldTree) → Mixed integers depth n ks js fs → length fs ≡ length ks + length js
long_row integers depth n ks js [] h = let a : length ks ≡ 0 = ap length h.0 in let b : length js ≡ 0 = ap length h.1 in omega (arith, a, b)
long_row integers depth n ks js (f ∷ fs) (inl h) =
    let more = long_row integers depth (n + 1) h.0 js fs h.3 in
    let long : length ks ≡ suc (length h.0) = ap length h.2 in
    omega (arith, more, long)
long_row integers depth n ks js (f ∷ fs) (inr h) =
    let more = long_row integers depth (n + 1) ks h.1 fs h.4 in
    let long : length js ≡ suc (length h.1) = ap length h.2 in
    omega (arith, more, long)

same_fields : (f g : FieldTree) (fs gs : List FieldTree) → f ∷ fs ≡ g ∷ gs → (f ≡ g) × (fs ≡ gs)
same_fields f g fs gs e = (cc, cc)

same_objects : (i j : Json) (is js : List Json) → i ∷ is ≡ j ∷ js → (i ≡ j) × (is ≡ js)
same_objects i j is js e = (cc, cc)

-- a known field is not where the field of an object is
not_here : (integers : Integers) (depth n : ℕ) (f g : FieldTree) (ks more : List FieldTree) (j : Json) (js : List Json) (fs : List FieldTree) → n + length ks < 2 ^ 64 → ks ≡ f ∷ more → Mixed integers depth (n + 1) more (j ∷ js) fs → IsOtherField integers depth (n + length ks) n g j → ⊥
not_here integers depth n f g ks more j js fs few is h one =
    let r = next_object integers depth (n + 1) more j js fs h in
    let long : length ks ≡ suc (length more) = ap length is in
    let end : n + 1 + length more ≡ n + length ks = omega (arith, long) in
    let same = (one_other integers depth (n + length ks) (n + 1 + length r.ahead) n r.f g j few (subst (λ (k : ℕ). IsOtherField integers depth k (n + 1 + length r.ahead) r.f j) end r.one) one).0 in
    omega (arith, same)

one_mixed : (integers : Integers) (depth n : ℕ) (ks : List FieldTree) (js : List Json) (fs gs : List FieldTree) → n + length ks + length js < 2 ^ 64 → Mixed integers depth n ks js fs → Mixed integers depth n ks js gs → fs ≡ gs
one_mixed integers depth n ks js [] [] few h k = refl
one_mixed integers depth n ks js [] (g ∷ gs) few h k = absurd (let a = long_row integers depth n ks js [] h in let b = long_row integers depth n ks js (g ∷ gs) k in omega (arith, a, b))
one_mixed integers depth n ks js (f ∷ fs) [] few h k = absurd (let a = long_row integers depth n ks js (f ∷ fs) h in let b = long_row integers depth n ks js [] k in omega (arith, a, b))
one_mixed integers depth n ks js (f ∷ fs) (g ∷ gs) few (inl h) (inl k) =
    let same = same_fields f g h.0 k.0 (sym h.2 ∙ k.2) in
    let long : length ks ≡ suc (length k.0) = ap length k.2 in
    let more = one_mixed integers depth (n + 1) k.0 js fs gs (omega (arith, few, long)) (subst (λ (l : List FieldTree). Mixed integers depth (n + 1) l js fs) same.1 h.3) k.3 in
    ap (λ (l : FieldTree). l ∷ fs) same.0 ∙ ap (λ (l : List FieldTree). g ∷ l) more
one_mixed integers depth n ks js (f ∷ fs) (g ∷ gs) few (inl h) (inr k) =
    absurd (not_here integers depth n f g ks h.0 k.0 k.1 fs (omega (arith, few)) h.2 (subst (λ (l : List Json). Mixed integers depth (n + 1) h.0 l fs) k.2 h.3) k.3)
one_mixed integers depth n ks js (f ∷ fs) (g ∷ gs) few (inr h) (inl k) =
    absurd (not_here integers depth n g f ks k.0 h.0 h.1 gs (omega (arith, few)) k.2 (subst (λ (l : List Json). Mixed integers depth (n + 1) k.0 l gs) h.2 k.3) h.3)
one_mixed integers depth n ks js (f ∷ fs) (g ∷ gs) few (inr h) (inr k) =
    let same = same_objects h.0 k.0 h.1 k.1 (sym h.2 ∙ k.2) in
    let long : length js ≡ suc (length k.1) = ap length k.2 in
    let one = (one_other integers depth (n + length ks) n n f g k.0 (omega (arith, few)) (subst (λ (i : Json). IsOtherField integers depth (n + length ks) n f i) same.0 h.3) k.3).1 in
    let more = one_mixed integers depth (n + 1) ks k.1 fs gs (omega (arith, few, long)) (subst (λ (l : List Json). Mixed integers depth (n + 1) ks l fs) same.1 h.4) k.4 in
    ap (λ (l : FieldTree). l ∷ fs) one ∙ ap (λ (l : List FieldTree). g ∷ l) more

one_row : (integers : Integers) (depth : ℕ) (ks : List FieldTree) (told : Option Json) (fs gs : List FieldTree) → length fs < 2 ^ 64 → AreReadFields integers depth ks told fs → AreReadFields integers depth ks told gs → fs ≡ gs
one_row integers depth ks None fs gs few a b =
    only_known integers depth 0 ks fs (read_known integers depth ks None refl fs a) ∙ sym (only_known integers depth 0 ks gs (read_known integers depth ks None refl gs b))
one_row integers depth ks (Some j) fs gs few a b =
    let js = a.others.0 in
    let m = read_row integers depth ks (Some j) j js refl a.others.1 fs a in
    let w = read_row integers depth ks (Some j) j js refl a.others.1 gs b in
    let long = long_row integers depth 0 ks js fs m in
    one_mixed integers depth 0 ks js fs gs (omega (arith, few, long)) m w

-- ---- one message

letters : (a b : ℕ) → json.string (a ∷ []) ≡ json.string (b ∷ []) → a ≡ b
letters a b e = ap (λ (s : List ℕ). get_or s 0 0) (strings_same _ _ e)

one_order : (order other : Order) (told : Option Json) → SpellsOrder order told → SpellsOrder other told → order ≡ other
one_order order other None a b = a ∙ sym b
one_order order other (Some j) a b = order_same order other (letters _ _ (sym a ∙ b))

widest : (integers : Integers) (limits : Limits) (number : ℕ) (order : Order) (m : MessageTree) (j : Json) → IsReadMessage integers limits number order m j → IsReadMessage integers specification number order m j
widest integers limits number order m j h = record { spelled = h.spelled; valid = widest_valid limits m h.valid }

same_within : (integers : Integers) (number : ℕ) (order other : Order) (m w : MessageTree) (j : Json) → IsReadMessage integers specification number order m j → IsReadMessage integers specification number other w j → (order ≡ other) × (m ≡ w)
same_within integers number order other m w j h k =
    let v = h.valid Little in
    let u = k.valid Little in
    let flags = v.flags in
    let serial = v.serial_fits in
    let own = u.flags in
    let mine = u.serial_fits in
    let ms = h.spelled.ms in
    let is = h.spelled.is in
    let type = same_Some _ _ (sym h.spelled.told ∙ k.spelled.told) in
    let known = known_of integers specification number order m j h ms is in
    let few = few_fields Little (contents_start field_type 12) m.fields in
    let most = v.within_fields.0 in
    let array = specification.array_in in
    let fields = one_row integers (specification.depth - 3) (map field_of (known_fields m.fields)) (get (codes "fields") j) m.fields w.fields (omega (arith, few, most, array))
    (fields_of integers specification number order m j h ms is (map field_of (known_fields m.fields)) known) (fields_of integers specification number other w j k ms is (map field_of (known_fields m.fields)) known) in (
      one_order order other (get (codes "order") j) h.spelled.ordered k.spelled.ordered,
      same_message m w
          (one_kind m.kind w.kind k.spelled.type v.kind_fits u.kind_fits (subst (SpellsKind m.kind) type h.spelled.kind) k.spelled.kind)
          (one_number 0 m.flags w.flags _ (omega (arith, flags)) (omega (arith, own)) h.spelled.flags k.spelled.flags)
          (one_number number m.serial w.serial _ (omega (arith, serial)) (omega (arith, mine)) h.spelled.serial k.spelled.serial)
          fields
          (one_body integers specification.depth (body_signature w.fields) _ m.body w.body (body_of integers specification number order m j h w.fields fields) (body_of integers specification number other w j k w.fields refl)),
    )

pub one_message : IsOneMessageEach
one_message integers limits bounds number order other m w j h k =
    same_within integers number order other m w j (widest integers limits number order m j h) (widest integers bounds number other w j k)
