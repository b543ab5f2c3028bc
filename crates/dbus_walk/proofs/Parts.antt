-- Values that stand in the bytes, taken apart: numbers and texts.
use Rattle.std.proofs.Common.{◌≡◌, ℕ, ◌+◌, ◌<◌, ◌≤◌, List, ◌++◌, length, drop, true, None, refl, sym, ap, subst, ◌∙◌, arith, ◌^◌, [], ◌∷◌, get_or, take, append_assoc, ◌⊎◌, inl, inr}
use Rattle.std.proofs.lemmas.List.{drop_at, drop-drop, length-append, length-drop, length-replicate}
use Rattle.dbus_texts.specs.Types.{IsShaped, NumberCode, BYTE, TextCode, STRING, OBJECT_PATH, SIGNATURE, TypeTree, NumberType, TextType, VariantType, ArrayType, StructType, EntryType}
use Rattle.dbus_value_model.specs.declared.limits.Bounds.{Bounds}
use Rattle.dbus_value_model.specs.declared.order.Order.{Order}
use Rattle.dbus_value_model.specs.Spelling.{spelling}
use Rattle.dbus_value_model.specs.Values.{ValueTree, type_of, NumberValue, TextValue, IsWellFormed}
use Rattle.dbus_value_laws.proofs.ValueItemLaws.{positive}
use Rattle.dbus_texts.proofs.TypeTexts.{sig_positive}
use Rattle.dbus_types.specs.Alignments.{width, length_width}
use Rattle.dbus_value_model.specs.Bytes.{gap_to, pad, num}
use Rattle.dbus_value_model.specs.Reading.{number_of}
use Rattle.dbus_value_model.proofs.Numbers.{length-num}
use Rattle.dbus_value_laws.proofs.ReadSteps.{one_byte}
use Rattle.dbus_types.specs.SignatureCodes.{first_code}
use Rattle.dbus_types.proofs.TypeCodes.{code_is, text_is}
use Rattle.dbus_value_model.proofs.Periods.{no_gap}
use Rattle.dbus_walk.specs.Standing.{Stands}
use Rattle.dbus_walk.specs.Containers.{number_width}
use Rattle.dbus_walk.proofs.NumberFacts.{number_of_type, number_there}

-- What stands somewhere among bytes.

-- what stands there ends within the bytes
pub there_within : (at : ℕ) (x r bytes : List ℕ) → drop at bytes ≡ x ++ r → 0 < length x → at + length x ≤ length bytes
there_within at x r bytes e some = omega (arith, some, ap length e, length-append x r, length-drop at bytes)

-- and what stands after it
pub stands_after : (at q : ℕ) (x r bytes : List ℕ) → drop at bytes ≡ x ++ r → q ≡ at + length x → drop q bytes ≡ r
stands_after at q x r bytes e place = ap (λ (k : ℕ). drop k bytes) place ∙ sym (drop-drop (length x) at bytes) ∙ ap (drop (length x)) e ∙ drop_at x r (length x) refl

-- ---- a value that stands there

any_bounds : Bounds
any_bounds = record { array = 0; fds = None; array_in = omega arith }

pub stands_positive : (order : Order) (v : ValueTree) (o : ℕ) → IsShaped true (type_of v) → 0 < length (spelling order o v)
stands_positive order v o h = positive any_bounds order v true o h

module _ {order : Order} {depth_left : ℕ} {types : List ℕ} {at : ℕ} {bytes : List ℕ} {v : ValueTree} {rest : List ℕ} (s : Stands order depth_left types at bytes v rest) where
  pub ends_within : at + length (spelling order at v) ≤ length bytes
  ends_within = there_within at (spelling order at v) rest bytes s.spelled (stands_positive order v at s.shaped)

  pub stands_as : {u : ValueTree} → v ≡ u → Stands order depth_left types at bytes u rest
  stands_as e = subst (λ (w : ValueTree). Stands order depth_left types at bytes w rest) e s

-- ---- which type it is

some_bytes : (k : NumberCode) → 0 < width k
some_bytes BYTE = omega arith
some_bytes k = omega arith

-- what is no other is enclosed in brackets
pub enclosed_is : (t : TypeTree) {c : ℕ} → first_code t ≡ c → (0 < number_width t → ⊥) → (c ≡ 115 → ⊥) → (c ≡ 111 → ⊥) → (c ≡ 103 → ⊥) → (c ≡ 118 → ⊥) → (c ≡ 97 → ⊥) → (c ≡ 40) ⊎ (c ≡ 123)
enclosed_is (NumberType k) e w s o g v a = absurd (w (some_bytes k))
enclosed_is (TextType STRING) e w s o g v a = absurd (s (sym e))
enclosed_is (TextType OBJECT_PATH) e w s o g v a = absurd (o (sym e))
enclosed_is (TextType SIGNATURE) e w s o g v a = absurd (g (sym e))
enclosed_is VariantType e w s o g v a = absurd (v (sym e))
enclosed_is (ArrayType u) e w s o g v a = absurd (a (sym e))
enclosed_is (StructType ts) e w s o g v a = inl (sym e)
enclosed_is (EntryType k x) e w s o g v a = inr (sym e)

pub number_is : (t : TypeTree) (w : ℕ) → 0 < w → w ≡ number_width t → (k : NumberCode) × (t ≡ NumberType k) × (width k ≡ w)
number_is (NumberType k) w some e = (k, refl, sym e)
number_is t w some e = absurd (omega (arith, some, e))

text_of_type : (v : ValueTree) (k : TextCode) → type_of v ≡ TextType k → (t : List ℕ) × (v ≡ TextValue k t)
text_of_type (TextValue j t) k e = let same : j ≡ k = cc in (t, ap (λ (c : TextCode). TextValue c t) same)
text_of_type v k e = absurd cc

-- ---- numbers

module _ {order : Order} {depth_left : ℕ} {types : List ℕ} {at : ℕ} {bytes : List ℕ} {v : ValueTree} {rest : List ℕ} (s : Stands order depth_left types at bytes v rest) where
  pub record NumberStands (size : ℕ) : Type 0 where
    pub code : NumberCode
    pub n : ℕ
    pub is : v ≡ NumberValue code n
    pub wide : width code ≡ size
    pub padded : drop at bytes ≡ pad size at ++ (num order size n ++ rest)
    pub inside : at + gap_to size at + size ≤ length bytes

  pub number_of_width : (size : ℕ) (k : NumberCode) (n : ℕ) → width k ≡ size → 0 < size → v ≡ NumberValue k n → NumberStands size
  unfolding spelling
  number_of_width size k n wide some is =
      let spelled : drop at bytes ≡ (pad size at ++ num order size n) ++ rest =
      s.spelled ∙ ap (λ (x : ValueTree). spelling order at x ++ rest) is ∙ ap (λ (w : ℕ). (pad w at ++ num order w n) ++ rest) wide in
      let long : length (pad size at ++ num order size n) ≡ gap_to size at + size = simp (length-append, length-replicate, length-num) in
      record {
        code = k;
        n = n;
        is = is;
        wide = wide;
        padded = spelled ∙ append_assoc (pad size at) (num order size n) rest;
        inside = omega (arith, long, some, there_within at (pad size at ++ num order size n) rest bytes spelled (omega (arith, long, some)));
      }

  pub number_stands : (size : ℕ) → 0 < size → ((t : TypeTree) → first_code t ≡ get_or types 0 0 → size ≡ number_width t) → NumberStands size
  number_stands size some wide =
      let k = number_is (type_of v) size some (wide (type_of v) (code_is (type_of v) types s.text)) in
      let n = number_of_type v k.0 k.1 in
      number_of_width size k.0 n.0 k.2 some n.1

  -- it ends there
  pub number_ends : (size start : ℕ) → NumberStands size → start ≡ at + gap_to size at → start + size ≡ at + length (spelling order at v)
  unfolding spelling
  number_ends size start p place =
      let x = pad size at in
      let is_own : spelling order at v ≡ x ++ num order size p.n = ap (λ (u : ValueTree). spelling order at u) p.is ∙ ap (λ (w : ℕ). pad w at ++ num order w p.n) p.wide in
      omega (arith, place, length-replicate {A = ℕ} (gap_to size at) 0, ap length is_own, length-append x (num order size p.n), length-num order size p.n)

  -- ---- texts

  -- a text whose length has so many bytes
  pub record TextStands (size : ℕ) : Type 0 where
    pub code : TextCode
    pub text : List ℕ
    pub is : v ≡ TextValue code text
    pub wide : length_width code ≡ size
    pub few : length text < 256 ^ size
    pub padded : drop at bytes ≡ pad size at ++ (num order size (length text) ++ ((text ++ 0 ∷ []) ++ rest))
    pub inside : at + gap_to size at + size + length text + 1 ≤ length bytes
    pub counts : number_of order (take size (drop (at + gap_to size at) bytes)) ≡ length text

  text_of_width : (size : ℕ) (k : TextCode) (t : List ℕ) → length_width k ≡ size → v ≡ TextValue k t → TextStands size
  unfolding spelling
  text_of_width size k t wide is =
      let x = pad size at in
      let y = num order size (length t) in
      let z = t ++ 0 ∷ [] in
      let spelled : drop at bytes ≡ (x ++ (y ++ z)) ++ rest =
      s.spelled ∙ ap (λ (u : ValueTree). spelling order at u ++ rest) is ∙ ap (λ (w : ℕ). (pad w at ++ (num order w (length t) ++ z)) ++ rest) wide in
      let padded : drop at bytes ≡ x ++ (y ++ (z ++ rest)) = spelled ∙ append_assoc x (y ++ z) rest ∙ ap (λ (l : List ℕ). x ++ l) (append_assoc y z rest) in
      let len_x : length x ≡ gap_to size at = length-replicate (gap_to size at) 0 in
      let long : length (x ++ (y ++ z)) ≡ gap_to size at + size + length t + 1 =
      omega (arith, len_x, length-append x (y ++ z), length-append y z, length-num order size (length t), length-append t (0 ∷ [])) in
      let formed = subst (λ (u : ValueTree). IsWellFormed depth_left u) is s.formed in
      let few : length t < 256 ^ size = subst (λ (w : ℕ). length t < 256 ^ w) wide formed.1 in
      let there = stands_after at (at + gap_to size at) x (y ++ (z ++ rest)) bytes padded (omega (arith, len_x)) in
      record {
        code = k;
        text = t;
        is = is;
        wide = wide;
        few = few;
        padded = padded;
        inside = omega (arith, long, there_within at (x ++ (y ++ z)) rest bytes spelled (omega (arith, long)));
        counts = number_there order size (length t) (at + gap_to size at) bytes (z ++ rest) there few;
      }

  pub long_stands : (get_or types 0 0 ≡ 115) ⊎ (get_or types 0 0 ≡ 111) → TextStands 4
  long_stands (inl e) = let t = text_of_type v STRING (text_is (type_of v) STRING (code_is (type_of v) types s.text ∙ e)) in text_of_width 4 STRING t.0 refl t.1
  long_stands (inr e) = let t = text_of_type v OBJECT_PATH (text_is (type_of v) OBJECT_PATH (code_is (type_of v) types s.text ∙ e)) in text_of_width 4 OBJECT_PATH t.0 refl t.1

  -- its length, as the code finds it
  pub long_counts : (p : TextStands 4) (start n : ℕ) → start ≡ at + gap_to 4 at → n ≡ number_of order (take 4 (drop start bytes)) → n ≡ length p.text
  long_counts p start n begins is = is ∙ ap (λ (k : ℕ). number_of order (take 4 (drop k bytes))) begins ∙ p.counts

  pub short_stands : get_or types 0 0 ≡ 103 → TextStands 1
  short_stands e = let t = text_of_type v SIGNATURE (text_is (type_of v) SIGNATURE (code_is (type_of v) types s.text ∙ e)) in text_of_width 1 SIGNATURE t.0 refl t.1

  -- it ends there
  pub text_ends : (size start : ℕ) → (p : TextStands size) → start ≡ at + gap_to size at → start + size + length p.text + 1 ≡ at + length (spelling order at v)
  unfolding spelling
  text_ends size start p place =
      let x = pad size at in
      let y = num order size (length p.text) in
      let z = p.text ++ 0 ∷ [] in
      let is_own : spelling order at v ≡ x ++ (y ++ z) = ap (λ (u : ValueTree). spelling order at u) p.is ∙ ap (λ (w : ℕ). pad w at ++ (num order w (length p.text) ++ z)) p.wide in
      omega (arith, place, length-replicate {A = ℕ} (gap_to size at) 0, ap length is_own, length-append x (y ++ z), length-append y z, length-num order size (length p.text), length-append p.text (0 ∷ []))

  -- a signature has no padding, and its length is one byte
  pub short_counts : (p : TextStands 1) → (get_or bytes at 0 ≡ length p.text) × (at + 1 + length p.text + 1 ≤ length bytes)
  short_counts p =
      let none = no_gap at in
      let inside : at + 1 + length p.text + 1 ≤ length bytes = omega (arith, p.inside, none) in
      let here : at + gap_to 1 at ≡ at = omega (arith, none) in
      (one_byte order bytes at (omega (arith, inside)) ∙ ap (λ (k : ℕ). number_of order (take 1 (drop k bytes))) (sym here) ∙ p.counts, inside)

  pub types_some : 0 < length types
  types_some = omega (arith, ap length s.text, sig_positive (type_of v))
