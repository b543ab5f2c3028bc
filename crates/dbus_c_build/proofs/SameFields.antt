-- Fields of a message that are spelled as others are, each of which is plain or spelled at any
-- offset, are these.
use Rattle.std.proofs.Common.{◌≡◌, ◌⊎◌, ℕ, zero, suc, ◌^◌, ◌<◌, List, [], ◌∷◌, ◌++◌, length, inl, inr, refl, sym, ap, subst, ◌∙◌, arith, append_assoc, ◌+◌, ◌-◌, take, true, Option, Some, None}
use Rattle.std.proofs.lemmas.Option.{MatchOption-at_none, MatchOption-at_some}
use Rattle.dbus_texts.specs.Types.{NumberCode, UINT32, TextCode, TypeTree, NumberType, TextType, sig, array_code}
use Rattle.dbus_types.specs.Alignments.{length_width}
use Rattle.dbus_header.proofs.Fields.{sig_injective}
use Rattle.dbus_value_model.specs.declared.limits.Bounds.{Bounds}
use Rattle.dbus_value_model.specs.declared.order.Order.{Order}
use Rattle.dbus_value_model.specs.SizeLimits.{with_padding, with_value, with_values}
use Rattle.dbus_value_model.specs.Bytes.{num}
use Rattle.dbus_value_model.specs.Spelling.{spelling, spellings}
use Rattle.dbus_value_model.specs.Values.{ValueTree, ValueTrees, NumberValue, TextValue, VariantValue, ArrayValue, StructValue, EntryValue, type_of, IsNumber, IsWellFormed}
use Rattle.dbus_value_laws.proofs.ValueItemLaws.{one_value}
use Rattle.dbus_marshal.proofs.Written.{length_values, length_padding, value_is, written_number, written_text, written_none, written_more}
use Rattle.dbus_message_model.specs.Messages.{FieldTree, field_struct, MessageTree, field_array, is_known}
use Rattle.dbus_encode.proofs.FieldWriting.{before_value, field_written, field_length}
use Rattle.dbus_value_model.specs.Bounds.{bounds_of}
use Rattle.dbus_value_model.specs.declared.limits.Limits.{Limits}
use Rattle.dbus_header.proofs.OutcomeLaws.{whole_valid}
use Rattle.dbus_validate.specs.declared.validating.Validated.{Validated}
use Rattle.dbus_validate.specs.Seen.{AreNoted}
use Rattle.dbus_validate.proofs.WholeParts.{after_fields, fields_there}
use Rattle.dbus_walk.specs.Fields.{field_types}
use Rattle.dbus_walk.specs.Standing.{Stands}
use Rattle.dbus_c_build.proofs.Anywhere.{IsSpelled, AreSpelled, structs, message_spelled}
use Rattle.dbus_c_build.proofs.Cancelling.{fronts, heads, numbers}
use Rattle.dbus_c_build.specs.Drafts.{IsKept, AreKept, known_codes}
use Rattle.dbus_c_build.specs.declared.given.Given.{Given}

-- a text or a UINT32 whose length or number fits
abbrev pub IsPlain : ValueTree → Type 0
IsPlain (NumberValue k n) = (k ≡ UINT32) × (n < 256 ^ 4)
IsPlain (TextValue k t) = length t < 256 ^ length_width k
IsPlain (VariantValue x) = ⊥
IsPlain (ArrayValue t xs) = ⊥
IsPlain (StructValue xs) = ⊥
IsPlain (EntryValue k v) = ⊥

abbrev pub IsPlainField : FieldTree → Type 0
IsPlainField f = (f.code < 256) × (length (sig (type_of f.value)) < 256) × IsPlain f.value

-- each is plain, or has a spelling at any offset
abbrev pub AreClear : Bounds → Order → (depth : ℕ) → List FieldTree → Type 0
AreClear bounds order depth [] = Unit {0}
AreClear bounds order depth (f ∷ fs) = (IsPlainField f ⊎ IsSpelled bounds order depth f) × AreClear bounds order depth fs

-- what a well-formed field is
pub record IsSoundField (g : FieldTree) : Type 0 where
  pub code : g.code < 256
  pub short : length (sig (type_of g.value)) < 256
  pub depth : ℕ
  pub formed : IsWellFormed depth g.value

pub sound_field : (depth : ℕ) (g : FieldTree) → IsWellFormed depth (field_struct g) → IsSoundField g
sound_field zero g h = absurd h
sound_field (suc zero) g h = absurd h.1.0
sound_field (suc (suc d)) g h = record { code = h.0; short = h.1.0.0.1; depth = d; formed = h.1.0.1 }

module _ (order : Order) (front x y : List ℕ) where
  same_number : (n m : ℕ) → n < 256 ^ 4 → m < 256 ^ 4 → with_value order (NumberValue UINT32 n) front ++ x ≡ with_value order (NumberValue UINT32 m) front ++ y → n ≡ m
  same_number n m small few same =
      let p = with_padding 4 front in
      let left = ap (λ (l : List ℕ). l ++ x) (written_number order UINT32 n front) ∙ append_assoc p (num order 4 n) x in
      let right = ap (λ (l : List ℕ). l ++ y) (written_number order UINT32 m front) ∙ append_assoc p (num order 4 m) y in
      (numbers order 4 n m x y small few (fronts p p _ _ refl (sym left ∙ same ∙ right)).1).0

  same_text : (k : TextCode) (s t : List ℕ) → length s < 256 ^ length_width k → length t < 256 ^ length_width k → with_value order (TextValue k s) front ++ x ≡ with_value order (TextValue k t) front ++ y → s ≡ t
  same_text k s t short few same =
      let w = length_width k in
      let p = with_padding w front in
      let left : with_value order (TextValue k s) front ++ x ≡ p ++ (num order w (length s) ++ (s ++ (0 ∷ x))) = ap (λ (l : List ℕ). l ++ x) (written_text order k s front) ∙ simp append_assoc in
      let right : with_value order (TextValue k t) front ++ y ≡ p ++ (num order w (length t) ++ (t ++ (0 ∷ y))) = ap (λ (l : List ℕ). l ++ y) (written_text order k t front) ∙ simp append_assoc in
      let rest = (fronts p p _ _ refl (sym left ∙ same ∙ right)).1 in
      let long = numbers order w (length s) (length t) (s ++ (0 ∷ x)) (t ++ (0 ∷ y)) short few rest in
      (fronts s t (0 ∷ x) (0 ∷ y) long.0 long.1).0

  is_number : (v : ValueTree) (depth m : ℕ) → IsWellFormed depth v → m < 256 ^ 4 → type_of v ≡ NumberType UINT32 → with_value order v front ++ x ≡ with_value order (NumberValue UINT32 m) front ++ y → v ≡ NumberValue UINT32 m
  is_number (NumberValue k n) depth m formed few type same =
      let code : k ≡ UINT32 = cc in
      let small : n < 256 ^ 4 = subst (λ (c : NumberCode). IsNumber c n) code formed in
      let number : n ≡ m = same_number n m small few (subst (λ (c : NumberCode). with_value order (NumberValue c n) front ++ x ≡ with_value order (NumberValue UINT32 m) front ++ y) code same) in
      ap (λ (c : NumberCode). NumberValue c n) code ∙ ap (NumberValue UINT32) number
  is_number (TextValue k t) depth m formed few type same = absurd cc
  is_number (VariantValue z) depth m formed few type same = absurd cc
  is_number (ArrayValue t zs) depth m formed few type same = absurd cc
  is_number (StructValue zs) depth m formed few type same = absurd cc
  is_number (EntryValue k z) depth m formed few type same = absurd cc

  is_text : (v : ValueTree) (depth : ℕ) (k : TextCode) (t : List ℕ) → IsWellFormed depth v → length t < 256 ^ length_width k → type_of v ≡ TextType k → with_value order v front ++ x ≡ with_value order (TextValue k t) front ++ y → v ≡ TextValue k t
  is_text (TextValue j s) depth k t formed few type same =
      let code : j ≡ k = cc in
      let short : length s < 256 ^ length_width k = subst (λ (c : TextCode). length s < 256 ^ length_width c) code formed.1 in
      let text : s ≡ t = same_text k s t short few (subst (λ (c : TextCode). with_value order (TextValue c s) front ++ x ≡ with_value order (TextValue k t) front ++ y) code same) in
      ap (λ (c : TextCode). TextValue c s) code ∙ ap (TextValue k) text
  is_text (NumberValue j n) depth k t formed few type same = absurd cc
  is_text (VariantValue z) depth k t formed few type same = absurd cc
  is_text (ArrayValue u zs) depth k t formed few type same = absurd cc
  is_text (StructValue zs) depth k t formed few type same = absurd cc
  is_text (EntryValue j z) depth k t formed few type same = absurd cc

  same_value : (v w : ValueTree) (depth : ℕ) → IsWellFormed depth v → IsPlain w → type_of v ≡ type_of w → with_value order v front ++ x ≡ with_value order w front ++ y → v ≡ w
  same_value v (NumberValue k m) depth formed plain type same =
      let P : NumberCode → Type 0 = λ c. type_of v ≡ NumberType c → with_value order v front ++ x ≡ with_value order (NumberValue c m) front ++ y → v ≡ NumberValue c m in
      subst P (sym plain.0) (is_number v depth m formed plain.1) type same
  same_value v (TextValue k t) depth formed plain type same = is_text v depth k t formed plain type same
  same_value v (VariantValue z) depth formed plain type same = absurd plain
  same_value v (ArrayValue t zs) depth formed plain type same = absurd plain
  same_value v (StructValue zs) depth formed plain type same = absurd plain
  same_value v (EntryValue k z) depth formed plain type same = absurd plain

module _ (order : Order) where
  -- a field's bytes and those after it, part by part
  in_parts : (f : FieldTree) (front x : List ℕ) → f.code < 256 →
      with_value order (field_struct f) front ++ x
      ≡ with_padding 8 front ++ (f.code ∷ (num order 1 (length (sig (type_of f.value))) ++ (sig (type_of f.value) ++ (0 ∷ (spelling order (length (before_value order f front)) f.value ++ x)))))
  in_parts f front x small =
      ap (λ (l : List ℕ). l ++ x) (field_written order f front small ∙ value_is order f.value (before_value order f front)) ∙ simp append_assoc

  one_byte : (n : ℕ) → n < 256 → n < 256 ^ 1
  one_byte n h = omega (arith, h)

  same_field : (g f : FieldTree) (front x y : List ℕ) → IsSoundField g → IsPlainField f →
      with_value order (field_struct g) front ++ x ≡ with_value order (field_struct f) front ++ y → g ≡ f
  same_field g f front x y sound plain same =
      let parts = sym (in_parts g front x sound.code) ∙ same ∙ in_parts f front y plain.0 in
      let after = (fronts (with_padding 8 front) (with_padding 8 front) _ _ refl parts).1 in
      let coding = heads _ _ _ _ after in
      let long = numbers order 1 _ _ _ _ (one_byte _ sound.short) (one_byte _ plain.1) coding.1 in
      let signed = fronts (sig (type_of g.value)) (sig (type_of f.value)) _ _ long.0 long.1 in
      let type : type_of g.value ≡ type_of f.value = sig_injective _ _ signed.0 in
      let ended = (heads _ _ _ _ signed.1).1 in
      let front_of : ℕ → TypeTree → List ℕ = λ c t. (((with_padding 8 front ++ c ∷ []) ++ num order 1 (length (sig t))) ++ sig t) ++ 0 ∷ [] in
      let before : before_value order g front ≡ before_value order f front = ap (λ (c : ℕ). front_of c (type_of g.value)) coding.0 ∙ ap (front_of f.code) type in
      let b = before_value order f front in
      let here : spelling order (length b) g.value ++ x ≡ spelling order (length b) f.value ++ y = ap (λ (l : List ℕ). spelling order (length l) g.value ++ x) (sym before) ∙ ended in
      let whole : (v : ValueTree) (z : List ℕ) → with_value order v b ++ z ≡ b ++ (spelling order (length b) v ++ z) = λ v z. ap (λ (l : List ℕ). l ++ z) (value_is order v b) ∙ append_assoc b (spelling order (length b) v) z in
      let values = whole g.value x ∙ ap (λ (l : List ℕ). b ++ l) here ∙ sym (whole f.value y) in
      let value : g.value ≡ f.value = same_value order b x y g.value f.value sound.depth sound.formed plain.2 type values in
      ap (λ (c : ℕ). let h : FieldTree = record { code = c; value = g.value } in h) coding.0 ∙ ap (λ (v : ValueTree). let h : FieldTree = record { code = f.code; value = v } in h) value

module _ (bounds : Bounds) (order : Order) (depth : ℕ) where
  same_spelled : (g f : FieldTree) (front x y : List ℕ) → IsSpelled bounds order depth g → IsSpelled bounds order depth f
      → with_value order (field_struct g) front ++ x ≡ with_value order (field_struct f) front ++ y → g ≡ f
  same_spelled g f front x y one other same =
      let o = length front in
      let whole : (h : FieldTree) (z : List ℕ) → with_value order (field_struct h) front ++ z ≡ front ++ (spelling order o (field_struct h) ++ z) =
      λ h z. ap (λ (l : List ℕ). l ++ z) (value_is order (field_struct h) front) ∙ append_assoc front (spelling order o (field_struct h)) z in
      let here = (fronts front front _ _ refl (sym (whole g x) ∙ same ∙ whole f y)).1 in
      let structs_same : field_struct g ≡ field_struct f = (one_value bounds order depth o (field_struct g) (field_struct f) x y (one o) (other o) refl here).0 in
      let code : g.code ≡ f.code = cc in
      let value : g.value ≡ f.value = cc in
      ap (λ (c : ℕ). let h : FieldTree = record { code = c; value = g.value } in h) code ∙ ap (λ (v : ValueTree). let h : FieldTree = record { code = f.code; value = v } in h) value

  pub spelled_sound : (f : FieldTree) → IsSpelled bounds order depth f → IsSoundField f
  spelled_sound f spelled = sound_field depth f (spelled 0).formed

  same_clear : (g f : FieldTree) (front x y : List ℕ) → IsSpelled bounds order depth g → IsPlainField f ⊎ IsSpelled bounds order depth f
      → with_value order (field_struct g) front ++ x ≡ with_value order (field_struct f) front ++ y → g ≡ f
  same_clear g f front x y spelled (inl plain) same = same_field order g f front x y (spelled_sound g spelled) plain same
  same_clear g f front x y spelled (inr other) same = same_spelled g f front x y spelled other same

  clear_code : (f : FieldTree) → IsPlainField f ⊎ IsSpelled bounds order depth f → f.code < 256
  clear_code f (inl plain) = plain.0
  clear_code f (inr spelled) = (spelled_sound f spelled).code

  values_are : (vs : ValueTrees) (front : List ℕ) → with_values order vs front ≡ front ++ spellings order (length front) vs
  unfolding with_values
  values_are vs front = refl

  -- fields after others make them longer
  longer : (f : FieldTree) (fs : List FieldTree) (front : List ℕ) → f.code < 256 → length front < length (with_values order (structs (f ∷ fs)) front)
  longer f fs front small =
      let all = ap length (written_more order (field_struct f) (structs fs) front) ∙ length_values order (structs fs) (with_value order (field_struct f) front) in
      omega (arith, all, field_length order f.code f.value front small, length_padding 8 front)

  pub same_fields : (gs fs : List FieldTree) (front : List ℕ) → AreSpelled bounds order depth gs → AreClear bounds order depth fs
      → with_values order (structs gs) front ≡ with_values order (structs fs) front → gs ≡ fs
  same_fields [] [] front spelled clear same = refl
  same_fields [] (f ∷ fs) front spelled clear same = absurd (omega (arith, longer f fs front (clear_code f clear.0), ap length (sym (written_none order front) ∙ same)))
  same_fields (g ∷ gs) [] front spelled clear same =
      absurd (omega (arith, longer g gs front (spelled_sound g spelled.0).code, ap length (same ∙ written_none order front)))
  same_fields (g ∷ gs) (f ∷ fs) front spelled clear same =
      let more = sym (written_more order (field_struct g) (structs gs) front) ∙ same ∙ written_more order (field_struct f) (structs fs) front in
      let flat = sym (values_are (structs gs) (with_value order (field_struct g) front)) ∙ more ∙ values_are (structs fs) (with_value order (field_struct f) front) in
      let first : g ≡ f = same_clear g f front _ _ spelled.0 clear.0 flat in
      let next = ap (λ (h : FieldTree). with_values order (structs gs) (with_value order (field_struct h) front)) (sym first) ∙ more in
      let rest : gs ≡ fs = same_fields gs fs (with_value order (field_struct f) front) spelled.1 clear.1 next in
      ap (λ (h : FieldTree). h ∷ gs) first ∙ ap (λ (hs : List FieldTree). f ∷ hs) rest

-- The fields of the message that is kept, as they stand among the bytes.

module _ (limits : Limits) (b : List ℕ) (order : Order) (j : Validated) (fs : List FieldTree) (k : IsKept limits b order j fs) where
  abbrev m : MessageTree
  m = k.first.message

  pub kept_there : (rest : List ℕ) × Stands j.order limits.depth (array_code ∷ field_types) 12 (take j.length b) (field_array fs) rest
  kept_there =
      let rest = after_fields limits b j k.first m k.first.whole in
      (rest, subst (λ (gs : List FieldTree). Stands j.order limits.depth (array_code ∷ field_types) 12 (take j.length b) (field_array gs) rest) (sym k.fields) (fields_there limits b j k.first m k.first.whole))

  pub noted : AreNoted fs (take j.length b) j.fields
  noted = subst (λ (gs : List FieldTree). AreNoted gs (take j.length b) j.fields) (sym k.fields) k.first.fields

  pub kept_spelled : AreSpelled (bounds_of limits) order (limits.depth - 1) fs
  kept_spelled =
      subst (λ (o : Order). AreSpelled (bounds_of limits) o (limits.depth - 1) fs) k.order_is
      (subst (AreSpelled (bounds_of limits) j.order (limits.depth - 1)) (sym k.fields) (message_spelled limits j.order m (whole_valid limits b j.order m j.length k.first.whole j.order)))

module _ (g : Given) (order : Order) (fs : List FieldTree) (kept : AreKept g order fs) where
  pub is_kept : (j : Validated) → g.kept ≡ Some j → IsKept g.limits g.bytes.now order j fs
  is_kept j is = MatchOption-at_some (fs ≡ []) (λ i. IsKept g.limits g.bytes.now order i fs) j is kept

  pub none_kept : g.kept ≡ None → fs ≡ []
  none_kept is = MatchOption-at_none (fs ≡ []) (λ i. IsKept g.limits g.bytes.now order i fs) is kept

  all_by : (o : Option Validated) → g.kept ≡ o → AreSpelled (bounds_of g.limits) order (g.limits.depth - 1) fs
  all_by None is = subst (AreSpelled (bounds_of g.limits) order (g.limits.depth - 1)) (sym (none_kept is)) tt
  all_by (Some j) is = kept_spelled g.limits g.bytes.now order j fs (is_kept j is)

  -- each field that is kept, if any is
  pub all_spelled : AreSpelled (bounds_of g.limits) order (g.limits.depth - 1) fs
  all_spelled = all_by g.kept refl

-- ---- fields by their codes

-- the codes of the fields that may be added, one after another
pub next_code : (n : ℕ) → n < 9 → take (n + 1) known_codes ≡ take n known_codes ++ (n + 1) ∷ []
next_code zero h = refl
next_code (suc zero) h = refl
next_code (suc (suc zero)) h = refl
next_code (suc (suc (suc zero))) h = refl
next_code (suc (suc (suc (suc zero)))) h = refl
next_code (suc (suc (suc (suc (suc zero))))) h = refl
next_code (suc (suc (suc (suc (suc (suc zero)))))) h = refl
next_code (suc (suc (suc (suc (suc (suc (suc zero))))))) h = refl
next_code (suc (suc (suc (suc (suc (suc (suc (suc zero)))))))) h = refl
next_code (suc (suc (suc (suc (suc (suc (suc (suc (suc n))))))))) h = absurd (omega (arith, h))

pub known_code : (n : ℕ) → n < 9 → is_known (n + 1) ≡ true
known_code zero h = refl
known_code (suc zero) h = refl
known_code (suc (suc zero)) h = refl
known_code (suc (suc (suc zero))) h = refl
known_code (suc (suc (suc (suc zero)))) h = refl
known_code (suc (suc (suc (suc (suc zero))))) h = refl
known_code (suc (suc (suc (suc (suc (suc zero)))))) h = refl
known_code (suc (suc (suc (suc (suc (suc (suc zero))))))) h = refl
known_code (suc (suc (suc (suc (suc (suc (suc (suc zero)))))))) h = refl
known_code (suc (suc (suc (suc (suc (suc (suc (suc (suc n))))))))) h = absurd (omega (arith, h))
