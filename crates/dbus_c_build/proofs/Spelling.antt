-- What is appended of a header, put together.
use Rattle.std.proofs.Common.{◌≡◌, ℕ, ◌+◌, ◌-◌, ◌<◌, List, [], ◌∷◌, ◌++◌, length, take, drop, map, Bool, true, false, if◌then◌else◌, nat_eq, Result, Ok, Err, OnOk, refl, sym, ap, ◌∙◌, arith, append_assoc}
use Rattle.std.proofs.lemmas.Bool.{eqb-true}
use Rattle.std.specs.List.{flat_map}
use Rattle.std.specs.Result.{is_ok}
use Rattle.std.proofs.lemmas.List.{length-append, take_at, drop_at, flat_map_more}
use Rattle.dbus_texts.specs.Types.{STRING, OBJECT_PATH, SIGNATURE, TextType, sig}
use Rattle.dbus_value_model.specs.declared.order.Order.{Order}
use Rattle.dbus_value_model.specs.SizeLimits.{with_padding, with_value, with_values}
use Rattle.dbus_value_model.specs.Bytes.{num, pad}
use Rattle.dbus_value_model.specs.Spelling.{spelling, spellings}
use Rattle.dbus_value_model.specs.Values.{ValueTrees, NoValues, TextValue, value_trees, type_of}
use Rattle.dbus_value_model.proofs.Numbers.{length-num, num_1}
use Rattle.dbus_marshal.proofs.Written.{padding_is, written_none, written_more, written_path}
use Rattle.dbus_message_model.specs.Messages.{FieldTree, field_struct, field_array, fields_end, has_code, order_byte}
use Rattle.dbus_encode.proofs.FieldWriting.{before_value, field_written}
use Rattle.dbus_c_build.specs.Drafts.{text_code, number_field, number_value, field_given, stays, in_place, added, fields_after}
use Rattle.dbus_c_build.specs.Building.{fields_length, with_fields, fixed_items, spelled}
use Rattle.dbus_c_build.specs.declared.draft.Draft.{Draft}
use Rattle.dbus_c_build.proofs.OnlyMessage.{array_is}

-- what holds if a call succeeds, made into something else
pub on_ok : {T E P Q : Type 0} (r : Result T E) → (P → Q) → OnOk r P → OnOk r Q
on_ok (Ok x) make h = make h
on_ok (Err e) make h = tt

-- and what is one thing then, and another if it fails
pub if_ok : {T E : Type 0} (r : Result T E) (now then_is else_is wanted : List ℕ) → now ≡ (if is_ok r then then_is else else_is) → then_is ≡ wanted → OnOk r (now ≡ wanted)
if_ok (Ok x) now then_is else_is wanted is same = is ∙ same
if_ok (Err e) now then_is else_is wanted is same = tt

-- ---- a field

-- its value after its code and the signature of one basic type
pub field_after : (order : Order) (f : FieldTree) (c : ℕ) (front start : List ℕ) → f.code < 256 → sig (type_of f.value) ≡ c ∷ []
    → start ≡ with_padding 8 front ++ (f.code ∷ (1 ∷ (c ∷ (0 ∷ [])))) → with_value order f.value start ≡ with_value order (field_struct f) front
field_after order f c front start small is begins =
    let before : before_value order f front ≡ with_padding 8 front ++ (f.code ∷ (1 ∷ (c ∷ (0 ∷ [])))) =
    ap (λ (t : List ℕ). (((with_padding 8 front ++ f.code ∷ []) ++ num order 1 (length t)) ++ t) ++ 0 ∷ []) is
    ∙ ap (λ (l : List ℕ). (((with_padding 8 front ++ f.code ∷ []) ++ l) ++ c ∷ []) ++ 0 ∷ []) (num_1 order 1 (omega arith))
    ∙ simp append_assoc in
    ap (with_value order f.value) (begins ∙ sym before) ∙ sym (field_written order f front small)

module _ (order : Order) where
  pub one_field : (f : FieldTree) (front : List ℕ) → with_fields order (f ∷ []) front ≡ with_value order (field_struct f) front
  one_field f front = written_more order (field_struct f) NoValues front ∙ written_none order (with_value order (field_struct f) front)

  -- the field of a text after what is there
  abbrev pub with_text : (code : ℕ) → (front t : List ℕ) → List ℕ
  with_text code front t = with_value order (field_struct (record { code = code; value = TextValue (text_code code) t })) front

  pub text_after : (code c : ℕ) (t front start : List ℕ) → code < 256 → c ∷ [] ≡ sig (TextType (text_code code))
      → start ≡ with_padding 8 front ++ (code ∷ (1 ∷ (c ∷ (0 ∷ [])))) → with_value order (TextValue (text_code code) t) start ≡ with_text code front t
  text_after code c t front start small one begins = field_after order (record { code = code; value = TextValue (text_code code) t }) c front start small (sym one) begins

  kind_if : (code : ℕ) (t start : List ℕ) (one eight : Bool) → nat_eq code 8 ≡ eight → (code ≡ 8 → ⊥)
      → with_value order (TextValue STRING t) start ≡ with_value order (TextValue (if one then OBJECT_PATH else if eight then SIGNATURE else STRING) t) start
  kind_if code t start true eight is other = sym (written_path order t start)
  kind_if code t start false true is other = absurd (other (eqb-true code 8 is))
  kind_if code t start false false is other = refl

  -- the text of any field but a SIGNATURE is spelled as a STRING is
  pub string_kind : (code : ℕ) (t start : List ℕ) → (code ≡ 8 → ⊥) → with_value order (TextValue STRING t) start ≡ with_value order (TextValue (text_code code) t) start
  string_kind code t start other = kind_if code t start (nat_eq code 1) (nat_eq code 8) refl other

  none_or_one : (code n : ℕ) (is_zero : Bool) (front : List ℕ) → nat_eq n 0 ≡ is_zero → (n ≡ 0 → ⊥)
      → with_value order (field_struct (number_value code n)) front ≡ with_fields order (if is_zero then [] else number_value code n ∷ []) front
  none_or_one code n true front is other = absurd (other (eqb-true n 0 is))
  none_or_one code n false front is other = sym (one_field (number_value code n) front)

  pub number_there : (code n : ℕ) (front : List ℕ) → (n ≡ 0 → ⊥) → with_value order (field_struct (number_value code n)) front ≡ with_fields order (number_field code n) front
  number_there code n front other = none_or_one code n (nat_eq n 0) front refl other

  -- fields after others
  pub fields_more : (xs ys : List FieldTree) (front : List ℕ) → with_fields order (xs ++ ys) front ≡ with_fields order ys (with_fields order xs front)
  fields_more [] ys front = ap (with_fields order ys) (sym (written_none order front))
  fields_more (x ∷ xs) ys front =
      written_more order (field_struct x) (value_trees (map field_struct (xs ++ ys))) front
      ∙ fields_more xs ys (with_value order (field_struct x) front)
      ∙ ap (with_fields order ys) (sym (written_more order (field_struct x) (value_trees (map field_struct xs)) front))

  -- those that one more thing comes to, after those of others
  pub fields_next : {X : Type 0} (g : X → List FieldTree) (done : List X) (x : X) (start now next : List ℕ) → now ≡ with_fields order (flat_map g done) start
      → next ≡ with_fields order (g x) now → next ≡ with_fields order (flat_map g (done ++ x ∷ [])) start
  fields_next g done x start now next before after =
      after ∙ ap (with_fields order (g x)) before ∙ sym (fields_more (flat_map g done) (g x) start)
      ∙ ap (λ (fs : List FieldTree). with_fields order fs start) (flat_map_more g [] done x)

  -- what comes in the place of a field that is kept, and of one that may be added
  module _ (p : Draft) (kept : List FieldTree) where
    pub same_in_place : (f : FieldTree) (front next : List ℕ) → stays p kept f.code ≡ true → next ≡ with_value order (field_struct f) front → next ≡ with_fields order (in_place p kept f) front
    same_in_place f front next is put =
        put ∙ sym (one_field f front) ∙ ap (λ (same : Bool). with_fields order (if same then f ∷ [] else field_given p f.code) front) (sym is)

    pub given_in_place : (f : FieldTree) (front next : List ℕ) → stays p kept f.code ≡ false → next ≡ with_fields order (field_given p f.code) front → next ≡ with_fields order (in_place p kept f) front
    given_in_place f front next is put = put ∙ ap (λ (same : Bool). with_fields order (if same then f ∷ [] else field_given p f.code) front) (sym is)

    pub given_added : (code : ℕ) (front next : List ℕ) → has_code code kept ≡ false → next ≡ with_fields order (field_given p code) front → next ≡ with_fields order (added p kept code) front
    given_added code front next is put = put ∙ ap (λ (there : Bool). with_fields order (if there then [] else field_given p code) front) (sym is)

    pub none_added : (code : ℕ) (front : List ℕ) → has_code code kept ≡ true → front ≡ with_fields order (added p kept code) front
    none_added code front is = sym (written_none order front) ∙ ap (λ (there : Bool). with_fields order (if there then [] else field_given p code) front) (sym is)

-- ---- the header

module _ (kept : List FieldTree) (p : Draft) where
  abbrev fs : List FieldTree
  fs = fields_after p kept

  abbrev structs : ValueTrees
  structs = value_trees (map field_struct fs)

  abbrev contents : List ℕ
  contents = spellings p.order 16 structs

  -- the items before the fields' length
  abbrev first_items : List ℕ
  first_items = order_byte p.order ∷ (p.kind ∷ (p.flags ∷ (1 ∷ (num p.order 4 (length p.body.now) ++ num p.order 4 p.serial))))

  abbrev fixed : List ℕ
  fixed = fixed_items p.order p.kind p.flags p.serial (length p.body.now)

  first_length : length first_items ≡ 12
  first_length = simp (length-append, length-num)

  fixed_is : fixed ≡ first_items ++ num p.order 4 0
  fixed_is = simp append_assoc

  fixed_length : length fixed ≡ 16
  fixed_length = simp (length-append, length-num)

  pub fields_are : (out : List ℕ) → out ≡ with_fields p.order fs fixed → out ≡ first_items ++ (num p.order 4 0 ++ contents)
  unfolding with_values
  fields_are out is = is ∙ ap (λ (n : ℕ). fixed ++ spellings p.order n structs) fixed_length ∙ ap (λ (l : List ℕ). l ++ contents) fixed_is ∙ simp append_assoc

  pub fields_count : (out : List ℕ) → out ≡ with_fields p.order fs fixed → length out ≡ 16 + fields_length kept p
  fields_count out is = ap length (fields_are out is) ∙ simp (length-append, length-num, first_length) (omega arith)

  pub all_spelled : (o2 o3 o4 o5 : List ℕ) (n : ℕ) → p.kind < 256 → p.flags < 256 → o2 ≡ with_fields p.order fs fixed → n ≡ length o2 - 16
      → o3 ≡ take 12 o2 ++ (num p.order 4 n ++ drop 16 o2) → o4 ≡ with_padding 8 o3 → o5 ≡ o4 ++ p.body.now → o5 ≡ spelled kept p
  all_spelled o2 o3 o4 o5 n kind flags fields counts length_is padded ends =
      let is = fields_are o2 fields in
      let regrouped : o2 ≡ (first_items ++ num p.order 4 0) ++ contents = is ∙ sym (append_assoc first_items (num p.order 4 0) contents) in
      let front : take 12 o2 ≡ first_items = ap (take 12) is ∙ take_at first_items (num p.order 4 0 ++ contents) 12 first_length in
      let sixteen : length (first_items ++ num p.order 4 0) ≡ 16 = omega (arith, length-append first_items (num p.order 4 0), first_length, length-num p.order 4 0) in
      let back : drop 16 o2 ≡ contents = ap (drop 16) regrouped ∙ drop_at (first_items ++ num p.order 4 0) contents 16 sixteen in
      let number : n ≡ length contents = omega (arith, counts, fields_count o2 fields) in
      let array : o3 ≡ first_items ++ spelling p.order 12 (field_array fs) =
      length_is ∙ ap (λ (l : List ℕ). l ++ (num p.order 4 n ++ drop 16 o2)) front ∙ ap (λ (l : List ℕ). first_items ++ (num p.order 4 n ++ l)) back
      ∙ ap (λ (k : ℕ). first_items ++ (num p.order 4 k ++ contents)) number ∙ ap (λ (l : List ℕ). first_items ++ l) (sym (array_is p.order fs)) in
      let long : length o3 ≡ fields_end p.order fs = ap length array ∙ length-append first_items (spelling p.order 12 (field_array fs)) ∙ ap (λ (k : ℕ). k + length (spelling p.order 12 (field_array fs))) first_length in
      let padding : o4 ≡ (first_items ++ spelling p.order 12 (field_array fs)) ++ pad 8 (fields_end p.order fs) =
      padded ∙ padding_is 8 o3 ∙ ap (λ (k : ℕ). o3 ++ pad 8 k) long ∙ ap (λ (l : List ℕ). l ++ pad 8 (fields_end p.order fs)) array in
      let joined = ends ∙ ap (λ (l : List ℕ). l ++ p.body.now) padding in
      let regrouped_all : ((first_items ++ spelling p.order 12 (field_array fs)) ++ pad 8 (fields_end p.order fs)) ++ p.body.now
      ≡ order_byte p.order ∷ (p.kind ∷ (p.flags ∷ (1 ∷ (num p.order 4 (length p.body.now) ++ (num p.order 4 p.serial ++ (spelling p.order 12 (field_array fs) ++ (pad 8 (fields_end p.order fs) ++ p.body.now))))))) = simp append_assoc in
      joined ∙ regrouped_all ∙ rw (num_1 p.order p.kind kind, num_1 p.order p.flags flags, num_1 p.order 1 (omega arith)) refl
