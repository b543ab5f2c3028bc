-- A place has one name.
use Rattle.std.proofs.Common.{◌≡◌, ℕ, zero, suc, ◌+◌, ◌<◌, ◌≤◌, List, [], ◌∷◌, ◌++◌, codes, drop, take, length, slice_index, true, inl, inr, Option, None, Some, refl, sym, ap, ◌∙◌, subst, arith}
use Rattle.std.proofs.Math.Path.{transport}
use Rattle.std.proofs.lemmas.Bool.{cases_lt, false≢true}
use Rattle.dbus_texts.specs.Types.{TypeTree, TypeTrees, NumberType, TextType, VariantType, ArrayType, StructType, EntryType, NoTypes, MoreTypes, IsShaped, AreShaped, sig, sigs}
use Rattle.dbus_texts.specs.declared.text_kind.TextKind.TheVariants.{Signature, Single}
use Rattle.dbus_texts.proofs.KindFacts.{sigs_same, are_shaped_of}
use Rattle.dbus_types.proofs.TypeCodes.{entry_shaped, struct_shaped}
use Rattle.dbus_value_laws.proofs.ValueSteps.{shaped_inside}
use Rattle.dbus_value_model.specs.Bytes.{gap_to}
use Rattle.dbus_value_model.specs.declared.fault.Reason.{Reason}
use Rattle.dbus_show.specs.ShownValues.{quoted}
use Rattle.dbus_explain.specs.Names.{IsFieldName, in_field, behind_fields, IsValueName, in_value, behind_values, IsNameOf, first, missing, field, padding, value}
use Rattle.dbus_explain.specs.Names.{IsTextIf, code_name, path_text, step_text}
use Rattle.dbus_explain.specs.Places.{AreBodyTypes, Enters, EntersNone, IsAmong, IsInFieldText, IsInText, IsKeyOf, IsPath, IsSignatureField, IsTyped, IsWholePath, Pass, body_begin, field_type, fields_end, first_element}
use Rattle.dbus_explain.specs.declared.path.PathStep.{PathStep}
use Rattle.dbus_explain.specs.declared.path.PathStep.TheVariants.{Number, Keyed, Key, Value, Variant}
use Rattle.dbus_explain.specs.declared.search.StatedText.{StatedText}
use Rattle.dbus_explain.proofs.Keys.{text_one}
use Rattle.dbus_explain.proofs.OneField.{count_one, one_place, same_field, pass_one, passes_one}
use Rattle.dbus_explain.proofs.Searching.{single_typed, typed_one}

-- two types with one signature are one
sig_same : (t u : TypeTree) → sig t ≡ sig u → t ≡ u
sig_same t u e = let same = sigs_same (MoreTypes t NoTypes) (MoreTypes u NoTypes) (ap (λ (l : List ℕ). l ++ []) e) in cc

-- ---- values in a value

among_shaped : (bytes : List ℕ) (at : ℕ) (ts : TypeTrees) → AreShaped ts → (p n : ℕ) (u : TypeTree) (q : ℕ) → IsAmong bytes at ts p n u q → IsShaped true u
among_shaped bytes at NoTypes shaped p n u q h = absurd h
among_shaped bytes at (MoreTypes t ts) shaped p zero u q h = subst (λ (x : TypeTree). IsShaped true x) (sym h.0) (shaped_inside t shaped.0)
among_shaped bytes at (MoreTypes t ts) shaped p (suc n) u q h = among_shaped bytes at ts shaped.1 h.0 n u q h.2

module _ (bytes : List ℕ) (at : ℕ) where
  -- the place is in one value of several
  pub among_one : (ts : TypeTrees) → AreShaped ts → (p n m : ℕ) (u v : TypeTree) (q r : ℕ) → IsAmong bytes at ts p n u q → IsAmong bytes at ts p m v r → (n ≡ m) × (u ≡ v) × (q ≡ r)
  among_one NoTypes shaped p n m u v q r a b = absurd a
  among_one (MoreTypes t ts) shaped p zero zero u v q r a b = (refl, a.0 ∙ sym b.0, a.1 ∙ sym b.1)
  among_one (MoreTypes t ts) shaped p zero (suc m) u v q r a b = absurd (a.2 b.0 b.1)
  among_one (MoreTypes t ts) shaped p (suc n) zero u v q r a b = absurd (b.2 a.0 a.1)
  among_one (MoreTypes t ts) shaped p (suc n) (suc m) u v q r a b =
      let same = passes_one bytes at t (shaped_inside t shaped.0) p a.0 b.0 a.1 b.1 in
      let rest = among_one ts shaped.1 a.0 n m u v q r a.2 (subst (λ (k : ℕ). IsAmong bytes at ts k m v r) (sym same) b.2) in
      (ap (λ (k : ℕ). suc k) rest.0, rest.1, rest.2)

  -- a dict entry has one key
  key_one : (t : TypeTree) (q : ℕ) (x y : List ℕ) → IsKeyOf bytes at t q x → IsKeyOf bytes at t q y → x ≡ y
  key_one (EntryType (TextType c) v) q x y a b =
      let one = text_one bytes at (TextType c) (q + gap_to 8 q) a.0 a.1 b.0 b.1 a.2 b.2 in
      a.5 ∙ ((λ i. take (one.1 i) (drop (one.0 i) bytes)) ∙ sym b.5)
  key_one (EntryType (NumberType c) v) q x y a b = absurd a
  key_one (EntryType VariantType v) q x y a b = absurd a
  key_one (EntryType (ArrayType u) v) q x y a b = absurd a
  key_one (EntryType (StructType us) v) q x y a b = absurd a
  key_one (EntryType (EntryType k w) v) q x y a b = absurd a
  key_one (NumberType c) q x y a b = absurd a
  key_one (TextType c) q x y a b = absurd a
  key_one VariantType q x y a b = absurd a
  key_one (ArrayType u) q x y a b = absurd a
  key_one (StructType us) q x y a b = absurd a

  -- ---- steps

  enters_shaped : (t : TypeTree) → IsShaped true t → (p : ℕ) (step : PathStep) (u : TypeTree) (q : ℕ) → Enters bytes at t p step u q → IsShaped true u
  enters_shaped (ArrayType t) shaped p (Number n) u q h = subst (λ (x : TypeTree). IsShaped true x) (sym h.1) shaped
  enters_shaped (ArrayType t) shaped p (Keyed key) u q h = subst (λ (x : TypeTree). IsShaped true x) (sym h.1) shaped
  enters_shaped (StructType ts) shaped p (Number n) u q h = among_shaped bytes at ts (struct_shaped ts shaped) (p + gap_to 8 p) n u q h.1
  enters_shaped (EntryType k v) shaped p Key u q h = among_shaped bytes at (MoreTypes k (MoreTypes v NoTypes)) (entry_shaped k v shaped) (p + gap_to 8 p) 0 u q h.1
  enters_shaped (EntryType k v) shaped p Value u q h = among_shaped bytes at (MoreTypes k (MoreTypes v NoTypes)) (entry_shaped k v shaped) (p + gap_to 8 p) 1 u q h.1
  enters_shaped VariantType shaped p Variant u q h = let single = single_typed bytes at p (sig u) q h.1 in subst (λ (x : TypeTree). IsShaped true x) (sig_same single.0 u single.1) single.2
  enters_shaped t shaped p step u q h = absurd h

  -- one step is entered, as it is told
  enters_one : (t : TypeTree) → IsShaped true t → (p : ℕ) (step other : PathStep) (u v : TypeTree) (q r : ℕ) → Enters bytes at t p step u q → Enters bytes at t p other v r → (step_text step ≡ step_text other) × (u ≡ v) × (q ≡ r)
  enters_one (ArrayType t) shaped p (Number n) (Number m) u v q r a b =
      let first = first_element t p in (
        ap (λ (k : ℕ). step_text (Number k)) (count_one bytes at t shaped n m first q r a.2 a.3 b.2 b.3),
        a.1 ∙ sym b.1,
        one_place bytes at t shaped n m first q r a.2 a.3 b.2 b.3,
      )
  enters_one (ArrayType t) shaped p (Number n) (Keyed key) u v q r a b =
      let same = one_place bytes at t shaped n b.2 (first_element t p) q r a.2 a.3 b.3 b.4 in
      absurd (a.4 key.now (subst (λ (k : ℕ). IsKeyOf bytes at t k key.now) (sym same) b.5))
  enters_one (ArrayType t) shaped p (Number n) other u v q r a b = absurd b
  enters_one (ArrayType t) shaped p (Keyed key) (Number m) u v q r a b =
      let same = one_place bytes at t shaped m a.2 (first_element t p) r q b.2 b.3 a.3 a.4 in
      absurd (b.4 key.now (subst (λ (k : ℕ). IsKeyOf bytes at t k key.now) (sym same) a.5))
  enters_one (ArrayType t) shaped p (Keyed key) (Keyed also) u v q r a b =
      let same = one_place bytes at t shaped a.2 b.2 (first_element t p) q r a.3 a.4 b.3 b.4 in
      let one = key_one t r key.now also.now (subst (λ (k : ℕ). IsKeyOf bytes at t k key.now) same a.5) b.5 in
      (ap (λ (l : List ℕ). codes "[" ++ (quoted l ++ codes "]")) one, a.1 ∙ sym b.1, same)
  enters_one (ArrayType t) shaped p (Keyed key) other u v q r a b = absurd b
  enters_one (StructType ts) shaped p (Number n) (Number m) u v q r a b =
      let one = among_one ts (struct_shaped ts shaped) (p + gap_to 8 p) n m u v q r a.1 b.1 in
      (ap (λ (k : ℕ). step_text (Number k)) one.0, one.1, one.2)
  enters_one (StructType ts) shaped p (Number n) other u v q r a b = absurd b
  enters_one (EntryType x y) shaped p Key Key u v q r a b =
      let one = among_one (MoreTypes x (MoreTypes y NoTypes)) (entry_shaped x y shaped) (p + gap_to 8 p) 0 0 u v q r a.1 b.1 in
      (refl, one.1, one.2)
  enters_one (EntryType x y) shaped p Key Value u v q r a b =
      let one = among_one (MoreTypes x (MoreTypes y NoTypes)) (entry_shaped x y shaped) (p + gap_to 8 p) 0 1 u v q r a.1 b.1 in
      let no = one.0 in absurd (omega (arith, no))
  enters_one (EntryType x y) shaped p Key other u v q r a b = absurd b
  enters_one (EntryType x y) shaped p Value Key u v q r a b =
      let one = among_one (MoreTypes x (MoreTypes y NoTypes)) (entry_shaped x y shaped) (p + gap_to 8 p) 1 0 u v q r a.1 b.1 in
      let no = one.0 in absurd (omega (arith, no))
  enters_one (EntryType x y) shaped p Value Value u v q r a b =
      let one = among_one (MoreTypes x (MoreTypes y NoTypes)) (entry_shaped x y shaped) (p + gap_to 8 p) 1 1 u v q r a.1 b.1 in
      (refl, one.1, one.2)
  enters_one (EntryType x y) shaped p Value other u v q r a b = absurd b
  enters_one VariantType shaped p Variant Variant u v q r a b =
      let one = typed_one bytes at Single p (sig u) (sig v) q r a.1 b.1 in
      (refl, sig_same u v one.0, one.1)
  enters_one VariantType shaped p Variant other u v q r a b = absurd b
  enters_one t shaped p step other u v q r a b = absurd a

  -- ---- paths

  -- of at most k steps, each of which goes as far as it can
  path_one : (k : ℕ) (t : TypeTree) → IsShaped true t → (p : ℕ) (s o : List PathStep) (u v : TypeTree) (q r : ℕ) → IsPath bytes at t p s u q → IsPath bytes at t p o v r → length s ≤ k → length o ≤ k
      → (length s < k → EntersNone bytes at u q) → (length o < k → EntersNone bytes at v r) → (path_text s ≡ path_text o) × (u ≡ v) × (q ≡ r)
  path_one k t shaped p [] [] u v q r a b few less ends too = (refl, a.0 ∙ sym b.0, a.1 ∙ sym b.1)
  path_one k t shaped p [] (x ∷ o) u v q r a b few less ends too =
      let more : 0 < k = omega (arith, less) in
      absurd (ends more x b.0 b.1 (transport (λ i. Enters bytes at (sym a.0 i) (sym a.1 i) x b.0 b.1) b.2))
  path_one k t shaped p (x ∷ s) [] u v q r a b few less ends too =
      let more : 0 < k = omega (arith, few) in
      absurd (too more x a.0 a.1 (transport (λ i. Enters bytes at (sym b.0 i) (sym b.1 i) x a.0 a.1) a.2))
  path_one zero t shaped p (x ∷ s) (y ∷ o) u v q r a b few less ends too = absurd (omega (arith, few))
  path_one (suc k) t shaped p (x ∷ s) (y ∷ o) u v q r a b few less ends too =
      let one = enters_one t shaped p x y a.0 b.0 a.1 b.1 a.2 b.2 in
      let there = transport (λ i. IsPath bytes at (sym one.1 i) (sym one.2 i) o v r) b.3 in
      let rest = path_one k a.0 (enters_shaped t shaped p x a.0 a.1 a.2) a.1 s o u v q r a.3 there (omega (arith, few)) (omega (arith, less)) (λ h. ends (omega (arith, h))) (λ h. too (omega (arith, h))) in
      ((λ i. one.0 i ++ rest.0 i), rest.1, rest.2)

  -- ---- texts

  -- at most one text is told
  text_if_one : (Is : (start stated : ℕ) → Type 0) → ((a b c d : ℕ) → Is a b → Is c d → (a ≡ c) × (b ≡ d)) → (x y : Option StatedText) → IsTextIf Is x → IsTextIf Is y → x ≡ y
  text_if_one Is one None None a b = refl
  text_if_one Is one None (Some y) a b = absurd (a y.start y.stated b)
  text_if_one Is one (Some x) None a b = absurd (b x.start x.stated a)
  text_if_one Is one (Some x) (Some y) a b =
      let same = one x.start x.stated y.start y.stated a b in
      λ i. Some (record { start = same.0 i; stated = same.1 i })

  field_text_one : (p a b c d : ℕ) → IsInFieldText bytes at p a b → IsInFieldText bytes at p c d → (a ≡ c) × (b ≡ d)
  field_text_one p a b c d x y =
      let typed = typed_one bytes at Single (p + gap_to 8 p + 1) (sig x.0) (sig y.0) x.1 y.1 x.2 y.2 in
      let same = sig_same x.0 y.0 typed.0 in
      text_one bytes at x.0 x.1 a b c d x.3 (transport (λ i. IsInText bytes at (sym same i) (sym typed.1 i) c d) y.3)

  -- ---- the types of the body

  signature_one : (p : ℕ) (w x : List ℕ) → IsSignatureField bytes at p w → IsSignatureField bytes at p x → w ≡ x
  signature_one p w x a b =
      let variant = typed_one bytes at Signature (p + gap_to 8 p + 1) a.variant b.variant a.q b.q a.typed b.typed in
      (typed_one bytes at Signature a.q w x a.r b.r a.value (subst (λ (k : ℕ). IsTyped bytes at Signature k x b.r) (sym variant.1) b.value)).0

  pub types_one : (ts us : TypeTrees) → AreBodyTypes bytes at ts → AreBodyTypes bytes at us → ts ≡ us
  types_one ts us a b = elim (cases_lt a.n b.n) [
    | inl less ↦ absurd (b.first a.n a.p (sigs ts) less a.before a.signature)
    | inr most ↦ elim (cases_lt b.n a.n) [
      | inl more ↦ absurd (a.first b.n b.p (sigs us) more b.before b.signature)
      | inr least ↦ (
          let e : a.n ≡ b.n = omega (arith, most, least) in
          let same = pass_one bytes at field_type (tt, (tt, tt)) b.n 16 a.p b.p (subst (λ (k : ℕ). Pass bytes at field_type k 16 a.p) e a.before) b.before in
          sigs_same ts us (signature_one a.p (sigs ts) (sigs us) a.signature (subst (λ (k : ℕ). IsSignatureField bytes at k (sigs us)) (sym same) b.signature))
          )
    ]
  ]

  pub types_shaped : (ts : TypeTrees) → AreBodyTypes bytes at ts → AreShaped ts
  types_shaped ts h =
      let signature = h.signature.value.ended.is_kind.0 in
      let is : sigs signature.0 ≡ sigs ts = sym (h.signature.value.text_is ∙ signature.2) in
      subst AreShaped (sigs_same signature.0 ts is) (are_shaped_of signature.0 0 0 signature.1)

  -- ---- names

  field_name_one : (name other : List ℕ) (text also : Option StatedText) → IsFieldName bytes at name text → IsFieldName bytes at other also → (name ≡ other) × (text ≡ also)
  field_name_one name other text also (in_field p c t is there) (in_field q d u too here_too) =
      let same = same_field bytes at is.n p is.before is.is_in q d too in
      let code : c ≡ d = is.code_is ∙ (ap (λ (k : ℕ). slice_index bytes (k + gap_to 8 k)) same ∙ sym too.code_is) in (
        ap (λ (k : ℕ). codes "header field " ++ code_name k) code,
        text_if_one (IsInFieldText bytes at p) (field_text_one p) text also there (subst (λ (k : ℕ). IsTextIf (IsInFieldText bytes at k) also) (sym same) here_too),
      )
  field_name_one name other text also (in_field p c t is there) (behind_fields none) = absurd (none p c is)
  field_name_one name other text also (behind_fields none) (in_field q d u too here_too) = absurd (none q d too)
  field_name_one name other text also (behind_fields none) (behind_fields none_too) = (refl, refl)

  value_name_one : (name other : List ℕ) (text also : Option StatedText) → IsValueName bytes at name text → IsValueName bytes at other also → (name ≡ other) × (text ≡ also)
  value_name_one name other text also (in_value ts n t p s u q x types among path there) (in_value us m v o z w r y too within way here_too) =
      let same = types_one ts us types too in
      let shaped = types_shaped ts types in
      let value_is = among_one ts shaped (body_begin bytes) n m t v p o among (subst (λ (l : TypeTrees). IsAmong bytes at l (body_begin bytes) m v o) (sym same) within) in
      let along = transport (λ i. IsWholePath bytes at (sym value_is.1 i) (sym value_is.2 i) z w r) way in
      let steps = path_one 128 t (among_shaped bytes at ts shaped (body_begin bytes) n t p among) p s z u w q r path.path along.path path.few along.few path.ends along.ends in (
        (λ i. codes "body" ++ (step_text (Number (value_is.0 i)) ++ steps.0 i)),
        text_if_one (IsInText bytes at u q) (text_one bytes at u q) text also there (transport (λ i. IsTextIf (IsInText bytes at (sym steps.1 i) (sym steps.2 i)) also) here_too),
      )
  value_name_one name other text also (in_value ts n t p s u q x types among path there) (behind_values none) = absurd (none ts types n t p among)
  value_name_one name other text also (behind_values none) (in_value us m v o z w r y too within way here_too) = absurd (none us too m v o within)
  value_name_one name other text also (behind_values none) (behind_values none_too) = (refl, refl)

  pub name_one : (reason : Reason) (name other : List ℕ) (text also : Option StatedText) → IsNameOf bytes reason at name text → IsNameOf bytes reason at other also → (name ≡ other) × (text ≡ also)
  name_one reason name other text also (first h) (first k) = (refl, refl)
  name_one reason name other text also (first h) (missing k m) = absurd (omega (arith, h, k))
  name_one reason name other text also (first h) (field y t k m e is) = absurd (omega (arith, h, k))
  name_one reason name other text also (first h) (padding k m e f) = absurd (omega (arith, h, k))
  name_one reason name other text also (first h) (value y t k m e is) = absurd (omega (arith, h, k))
  name_one reason name other text also (missing h m) (first k) = absurd (omega (arith, h, k))
  name_one reason name other text also (missing h m) (missing k n) = (refl, refl)
  name_one reason name other text also (missing h m) (field y t k n e is) = absurd (false≢true (sym n ∙ m))
  name_one reason name other text also (missing h m) (padding k n e f) = absurd (false≢true (sym n ∙ m))
  name_one reason name other text also (missing h m) (value y t k n e is) = absurd (false≢true (sym n ∙ m))
  name_one reason name other text also (field x s h m e is) (first k) = absurd (omega (arith, h, k))
  name_one reason name other text also (field x s h m e is) (missing k n) = absurd (false≢true (sym m ∙ n))
  name_one reason name other text also (field x s h m e is) (field y t k n f too) = field_name_one x y s t is too
  name_one reason name other text also (field x s h m e is) (padding k n f g) = absurd (omega (arith, e, f))
  name_one reason name other text also (field x s h m e is) (value y t k n f too) = let far : fields_end bytes ≤ at = omega (arith, f) in absurd (omega (arith, e, far))
  name_one reason name other text also (padding h m e f) (first k) = absurd (omega (arith, h, k))
  name_one reason name other text also (padding h m e f) (missing k n) = absurd (false≢true (sym m ∙ n))
  name_one reason name other text also (padding h m e f) (field y t k n g is) = absurd (omega (arith, e, g))
  name_one reason name other text also (padding h m e f) (padding k n g l) = (refl, refl)
  name_one reason name other text also (padding h m e f) (value y t k n g is) = absurd (omega (arith, f, g))
  name_one reason name other text also (value x s h m e is) (first k) = absurd (omega (arith, h, k))
  name_one reason name other text also (value x s h m e is) (missing k n) = absurd (false≢true (sym m ∙ n))
  name_one reason name other text also (value x s h m e is) (field y t k n f too) = let far : fields_end bytes ≤ at = omega (arith, e) in absurd (omega (arith, f, far))
  name_one reason name other text also (value x s h m e is) (padding k n f g) = absurd (omega (arith, e, g))
  name_one reason name other text also (value x s h m e is) (value y t k n f too) = value_name_one x y s t is too
