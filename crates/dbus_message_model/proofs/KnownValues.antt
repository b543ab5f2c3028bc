-- The value of a known field, which has the type that is wanted of it.
use Rattle.std.proofs.Common.{ℕ, ◌<◌, List, length, Bool, true, false, cond, eqb, arith, ◌≡◌, ap, ◌⊎◌, inl, inr, [], ◌∷◌, String, string_bytes, Option, Some, refl, sym, subst, ◌∙◌, rules, zero, suc, ◌≤◌, get_or, None, IfSome, MatchOption, IsTrue, Bor}
use Rattle.std.proofs.lemmas.Bool.{eqb-true, and_parts}
use Rattle.dbus_texts.specs.Types.{IsBasic, IsSingleType, TextCode, TextType, STRING, OBJECT_PATH, SIGNATURE, UINT32, BYTE, BOOLEAN, INT16, UINT16, INT32, INT64, UINT64, DOUBLE, UNIX_FD, NumberType, VariantType, ArrayType, StructType, EntryType}
use Rattle.dbus_value_model.specs.WantedTexts.{IsWanted, WantedText, Of, Only}
use Rattle.dbus_value_model.specs.ComputedTexts.{IsName}
use Rattle.dbus_texts.specs.ComputedKinds as computed
use Rattle.dbus_texts.specs.declared.text_kind.TextKind.{TextKind}
use Rattle.dbus_texts.specs.declared.text_kind.TextKind.TheVariants as kinds
use Rattle.dbus_texts.proofs.KindFacts as facts
use Rattle.dbus_value_model.specs.Values.{ValueTree, NumberValue, TextValue, VariantValue, ArrayValue, StructValue, EntryValue, type_of}
use mathlib.Core.Logic.{∥∥₁_elim, ∥∥₁_map}
use Rattle.dbus_value_model.specs.Specification.{specification}
use Rattle.dbus_value_model.specs.ValueViews.{value_tree, value_trees_of}
use Rattle.dbus_value_model.specs.declared.order.Order.TheVariants.{Little}
use Rattle.dbus_value_model.specs.declared.value.Value.{Value, the_lemmas}
use Rattle.dbus_value_model.specs.declared.value.Value.TheVariants as case
use Rattle.dbus_value_model.specs.PackedBytes.{keeps_bytes, keep_bytes}
use Rattle.dbus_value_model.proofs.ValueRows.{item_of}
use Rattle.dbus_message_model.specs.Messages.{Want, Anything, OfType, Name, Serial, want, FieldTree, MessageTree, is_particular, Suits, AreFields, text_in, number_in, IsValidMessage}
use Rattle.dbus_message_model.specs.KnownFields.{WantsText, IsTextOf, WantsNumber, field_value, body_value}

-- What is wanted of the known fields: basic types, and names of at most 255 bytes.

abbrev pub WantOk : Want → Type 0
WantOk Anything = Unit {0}
WantOk (OfType t) = IsSingleType t × IsBasic t
WantOk (Name k) = IsName k × ((t : List ℕ) → IsWanted k t → length t < 256)
WantOk Serial = Unit {0}

cond_holds : {X : Type 0} (P : X → Type 0) (b : Bool) (x y : X) → P x → P y → P (cond b x y)
cond_holds P true x y p q = p
cond_holds P false x y p q = q

pub want_ok : (code : ℕ) → WantOk (want code)
want_ok code =
    cond_holds WantOk (eqb code 1) _ _ ((tt, omega arith), tt) (cond_holds WantOk (eqb code 2) _ _ (tt, λ t k. omega (arith, k.1))
    (cond_holds WantOk (eqb code 3) _ _ (tt, λ t k. omega (arith, k.1)) (cond_holds WantOk (eqb code 4) _ _ (tt, λ t k. omega (arith, k.1))
    (cond_holds WantOk (eqb code 5) _ _ tt (cond_holds WantOk (eqb code 6) _ _ (tt, λ t k. omega (arith, k.1))
    (cond_holds WantOk (eqb code 7) _ _ (tt, λ t k. omega (arith, k.1)) (cond_holds WantOk (eqb code 8) _ _ ((tt, omega arith), tt)
    (cond_holds WantOk (eqb code 9) _ _ ((tt, omega arith), tt) tt))))))))

-- A name is a text.

as_text : (k : TextKind) (t : List ℕ) → computed.IsName k → IsWanted (Of k) t → IsWanted (Of kinds.Text) t
as_text k t n h = facts.kind_is kinds.Text t (facts.name_is_text k t n (facts.is_kind_of k t h))

pub name_is_text : (k : WantedText) (t : List ℕ) → IsName k → IsWanted k t → IsWanted (Of kinds.Text) t
name_is_text (Of k) t n h = name_kind_is_text k t n h
  where
    name_kind_is_text : (k : TextKind) (t : List ℕ) → IsName (Of k) → IsWanted (Of k) t → IsWanted (Of kinds.Text) t
    name_kind_is_text kinds.Text t n h = h
    name_kind_is_text kinds.Path t n h = absurd n
    name_kind_is_text kinds.Signature t n h = absurd n
    name_kind_is_text kinds.Single t n h = absurd n
    name_kind_is_text kinds.Interface t n h = as_text kinds.Interface t tt h
    name_kind_is_text kinds.Member t n h = as_text kinds.Member t tt h
    name_kind_is_text kinds.ErrorName t n h = as_text kinds.ErrorName t tt h
    name_kind_is_text kinds.BusName t n h = as_text kinds.BusName t tt h
name_is_text (Only u) t n h = absurd n

-- A value of a type of text is a text.

pub text_of : (c : TextCode) (v : ValueTree) → type_of v ≡ TextType c → (t : List ℕ) × (v ≡ TextValue c t)
text_of c (NumberValue k n) h = absurd cc
text_of c (TextValue k t) h = let e : k ≡ c = cc in (t, ap (λ d. TextValue d t) e)
text_of c (VariantValue x) h = absurd cc
text_of c (ArrayValue t xs) h = absurd cc
text_of c (StructValue xs) h = absurd cc
text_of c (EntryValue k v) h = absurd cc

-- ---- the first field of a code

module _ (c : ℕ) where
  pub suits_of : (before fs : List FieldTree) → AreFields before fs → (v : ValueTree) → field_value c fs ≡ Some v → Suits (want c) v
  suits_of before [] h v e = absurd cc
  suits_of before (f ∷ fs) h v e = go (eqb f.code c) refl e (suits_of (f ∷ before) fs h.1 v)
    where
      go : (b : Bool) → eqb f.code c ≡ b → cond b (Some f.value) (field_value c fs) ≡ Some v → (field_value c fs ≡ Some v → Suits (want c) v) → Suits (want c) v
      go true is g more =
          let code : f.code ≡ c = eqb-true _ _ is in
          let same : f.value ≡ v = cc in
          subst (λ (x : ValueTree). Suits (want c) x) same (subst (λ (k : ℕ). Suits (want k) f.value) code h.0.suits)
      go false is g more = more g

  pub valid_suits : (m : MessageTree) → ∥ IsValidMessage specification m ∥₁ → (v : ValueTree) → field_value c m.fields ≡ Some v → ∥ Suits (want c) v ∥₁
  valid_suits m h v e = ∥∥₁_map h (λ ok. suits_of [] m.fields (ok Little).fields v e)

-- ---- a value that is wanted as a text

pub record HasText (w : Want) (v : ValueTree) (t : List ℕ) : Type 0 where
  pub code : TextCode
  pub is : v ≡ TextValue code t
  pub text : IsTextOf w (Some v) t

text_is : (c : TextCode) (v : ValueTree) (u t : List ℕ) → v ≡ TextValue c u → text_in v ≡ t → v ≡ TextValue c t
text_is c v u t e same = e ∙ ap (λ (s : List ℕ). TextValue c s) (sym (ap text_in e) ∙ same)

pub has_text : (w : Want) (v : ValueTree) (t : List ℕ) → WantsText w → Suits w v → text_in v ≡ t → HasText w v t
has_text Anything v t wants s same = absurd wants
has_text (OfType (NumberType k)) v t wants s same = absurd wants
has_text (OfType (TextType k)) v t wants s same =
    let u = text_of k v s in
    let e = text_is k v u.0 t u.1 same in
    record { code = k; is = e; text = ap Some e }
has_text (OfType VariantType) v t wants s same = absurd wants
has_text (OfType (ArrayType u)) v t wants s same = absurd wants
has_text (OfType (StructType ts)) v t wants s same = absurd wants
has_text (OfType (EntryType k u)) v t wants s same = absurd wants
has_text (Name k) v t wants s same =
    let e = text_is STRING v s.0 t s.1 same in
    record { code = STRING; is = e; text = ap Some e }
has_text Serial v t wants s same = absurd wants

pub text_known : (w : Want) → WantsText w → is_particular w ≡ true
text_known Anything wants = absurd wants
text_known (OfType t) wants = refl
text_known (Name k) wants = refl
text_known Serial wants = refl

-- ---- and as a number

pub has_number : (v : ValueTree) (n : ℕ) → Suits Serial v → number_in v ≡ n → v ≡ NumberValue UINT32 n
has_number v n s same = s.1 ∙ ap (λ (k : ℕ). NumberValue UINT32 k) (sym (ap number_in s.1) ∙ same)

uint32_of : (v : ValueTree) → type_of v ≡ NumberType UINT32 → (n : ℕ) × (v ≡ NumberValue UINT32 n)
uint32_of (NumberValue k n) h = let e : k ≡ UINT32 = cc in (n, ap (λ d. NumberValue d n) e)
uint32_of (TextValue k t) h = absurd cc
uint32_of (VariantValue x) h = absurd cc
uint32_of (ArrayValue t xs) h = absurd cc
uint32_of (StructValue xs) h = absurd cc
uint32_of (EntryValue k v) h = absurd cc

number_of : (w : Want) (v : ValueTree) → WantsNumber w → Suits w v → (n : ℕ) × (v ≡ NumberValue UINT32 n)
number_of Anything v wants s = absurd wants
number_of (OfType (NumberType UINT32)) v wants s = uint32_of v s
number_of (OfType (NumberType BYTE)) v wants s = absurd wants
number_of (OfType (NumberType BOOLEAN)) v wants s = absurd wants
number_of (OfType (NumberType INT16)) v wants s = absurd wants
number_of (OfType (NumberType UINT16)) v wants s = absurd wants
number_of (OfType (NumberType INT32)) v wants s = absurd wants
number_of (OfType (NumberType INT64)) v wants s = absurd wants
number_of (OfType (NumberType UINT64)) v wants s = absurd wants
number_of (OfType (NumberType DOUBLE)) v wants s = absurd wants
number_of (OfType (NumberType UNIX_FD)) v wants s = absurd wants
number_of (OfType (TextType k)) v wants s = absurd wants
number_of (OfType VariantType) v wants s = absurd wants
number_of (OfType (ArrayType u)) v wants s = absurd wants
number_of (OfType (StructType ts)) v wants s = absurd wants
number_of (OfType (EntryType k u)) v wants s = absurd wants
number_of (Name k) v wants s = absurd wants
number_of Serial v wants s = (s.0, s.1)

-- ---- in a valid message

no_proofs : (x y : ⊥) → x ≡ y
no_proofs x y = absurd x

same_code : (j k : TextCode) → ∥ j ≡ k ∥₁ → j ≡ k
same_code STRING STRING h = refl
same_code STRING OBJECT_PATH h = absurd (∥∥₁_elim h no_proofs (λ e. absurd cc))
same_code STRING SIGNATURE h = absurd (∥∥₁_elim h no_proofs (λ e. absurd cc))
same_code OBJECT_PATH STRING h = absurd (∥∥₁_elim h no_proofs (λ e. absurd cc))
same_code OBJECT_PATH OBJECT_PATH h = refl
same_code OBJECT_PATH SIGNATURE h = absurd (∥∥₁_elim h no_proofs (λ e. absurd cc))
same_code SIGNATURE STRING h = absurd (∥∥₁_elim h no_proofs (λ e. absurd cc))
same_code SIGNATURE OBJECT_PATH h = absurd (∥∥₁_elim h no_proofs (λ e. absurd cc))
same_code SIGNATURE SIGNATURE h = refl

is_text : (w : Want) (j : TextCode) (t : List ℕ) → WantsText w → ∥ Suits w (TextValue j t) ∥₁ → IsTextOf w (Some (TextValue j t)) t
is_text Anything j t wants h = absurd wants
is_text (OfType (NumberType k)) j t wants h = absurd wants
is_text (OfType (TextType k)) j t wants h = ap (λ (c : TextCode). Some (TextValue c t)) (same_code j k (∥∥₁_map h (λ e. cc)))
is_text (OfType VariantType) j t wants h = absurd wants
is_text (OfType (ArrayType u)) j t wants h = absurd wants
is_text (OfType (StructType ts)) j t wants h = absurd wants
is_text (OfType (EntryType k u)) j t wants h = absurd wants
is_text (Name k) j t wants h = ap (λ (c : TextCode). Some (TextValue c t)) (same_code j STRING (∥∥₁_map h (λ s. let e = s.1 in cc)))
is_text Serial j t wants h = absurd wants

module _ {A : Type 0} where
  text_found : (v : Value A) (s : String A) → (v ≡ case.Str s) ⊎ (v ≡ case.Path s) ⊎ (v ≡ case.Sig s) → (j : TextCode) × (value_tree v ≡ TextValue j (string_bytes s))
  text_found v s (inl e) = (STRING, rw e (search (rules, the_lemmas)))
  text_found v s (inr (inl e)) = (OBJECT_PATH, rw e (search (rules, the_lemmas)))
  text_found v s (inr (inr e)) = (SIGNATURE, rw e (search (rules, the_lemmas)))

  not_text : (v : Value A) → ((s : String A) → v ≡ case.Str s → ⊥) → ((s : String A) → v ≡ case.Path s → ⊥) → ((s : String A) → v ≡ case.Sig s → ⊥) → (k : TextCode) (t : List ℕ) → value_tree v ≡ TextValue k t → ⊥
  not_text (case.Str s) a b c k t e = a s refl
  not_text (case.Path s) a b c k t e = b s refl
  not_text (case.Sig s) a b c k t e = c s refl
  not_text v a b c k t e = search (rules, the_lemmas)

  not_number : (v : Value A) → ((n : ℕ) → v ≡ case.U32 n → ⊥) → (n : ℕ) → value_tree v ≡ NumberValue UINT32 n → ⊥
  not_number (case.U32 n) a k e = a n refl
  not_number v a n e = search (rules, the_lemmas)

  module _ (c : ℕ) (m : MessageTree) (valid : ∥ IsValidMessage specification m ∥₁) (v : Value A) (there : field_value c m.fields ≡ Some (value_tree v)) where
    pub text_there : (s : String A) → WantsText (want c) → (v ≡ case.Str s) ⊎ (v ≡ case.Path s) ⊎ (v ≡ case.Sig s) → IsTextOf (want c) (field_value c m.fields) (string_bytes s)
    text_there s wants is =
        let u = text_found v s is in
        let e : field_value c m.fields ≡ Some (TextValue u.0 (string_bytes s)) = there ∙ ap Some u.1 in
        subst (λ (o : Option ValueTree). IsTextOf (want c) o (string_bytes s)) (sym e) (is_text (want c) u.0 (string_bytes s) wants (valid_suits c m valid _ e))

    pub text_not_there : WantsText (want c) → ((s : String A) → v ≡ case.Str s → ⊥) → ((s : String A) → v ≡ case.Path s → ⊥) → ((s : String A) → v ≡ case.Sig s → ⊥) → ⊥
    text_not_there wants no_str no_path no_sig = ∥∥₁_elim (valid_suits c m valid _ there) no_proofs (λ s.
        let t = has_text (want c) (value_tree v) _ wants s refl in
        not_text v no_str no_path no_sig t.code _ t.is)

    pub number_not_there : WantsNumber (want c) → ((n : ℕ) → v ≡ case.U32 n → ⊥) → ⊥
    number_not_there wants no_number = ∥∥₁_elim (valid_suits c m valid _ there) no_proofs (λ s.
        let n = number_of (want c) (value_tree v) wants s in
        not_number v no_number n.0 n.1)

-- Looking up a body's value by number.

module _ {A : Type 0} where
  there : (xs : List (Value A)) (n : ℕ) (d : Value A) → n < length xs → body_value n (value_trees_of xs) ≡ Some (value_tree (get_or xs n d))
  there [] n d h = absurd (omega arith)
  there (x ∷ xs) zero d h = refl
  there (x ∷ xs) (suc n) d h = there xs n d (omega arith)

  past : (xs : List (Value A)) (n : ℕ) → length xs ≤ n → body_value n (value_trees_of xs) ≡ None
  past [] n h = refl
  past (x ∷ xs) zero h = absurd (omega arith)
  past (x ∷ xs) (suc n) h = past xs n (omega arith)

  pub value_found : (xs : List (Value A)) (n : ℕ) (more : Bor (Value A) → Type 0) (r : Option (Bor (Value A))) → IfSome r (λ x. x.now ≡ get_or xs n x.now) → MatchOption r (length xs ≤ n) (λ x. (n < length xs) × more x)
      → MatchOption r (body_value n (value_trees_of xs) ≡ None) (λ v. body_value n (value_trees_of xs) ≡ Some (value_tree v.now))
  value_found xs n more None is h = past xs n h
  value_found xs n more (Some x) is h = there xs n x.now h.0 ∙ ap (λ (v : Value A). Some (value_tree v)) (sym is)

  pub kept_found : (xs : List (Value A)) (n : ℕ) (more : Bor (Value A) → Type 0) (r : Option (Bor (Value A))) → IsTrue (keep_bytes xs) → IfSome r (λ x. x.now ≡ get_or xs n x.now) → MatchOption r (length xs ≤ n) (λ x. (n < length xs) × more x)
      → IfSome r (λ v. IsTrue (keeps_bytes v.now))
  kept_found xs n more None kept is h = tt
  kept_found xs n more (Some x) kept is h = item_of (λ vs. IsTrue (keep_bytes vs)) (λ v. IsTrue (keeps_bytes v)) (λ v vs k. and_parts _ _ k) xs n x.now h.0 is kept
