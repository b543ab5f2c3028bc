-- Texts of numbers and of digits: which bytes they have, and that each is of one number.
use Rattle.std.proofs.Common.{◌≡◌, ◌≢◌, ℕ, zero, suc, ◌+◌, ◌/◌, ◌%◌, ◌^◌, ◌<◌, ◌≤◌, ℤ, pos, negsuc, Bool, true, false, cond, eqb, not, ◌&&◌, List, [], ◌∷◌, ◌++◌, length, get_or, drop, inl, inr, Some, codes, decimal, from_bits, refl, sym, ap, ◌∙◌, subst, arith, append_assoc}
use Rattle.std.proofs.lemmas.Bool.{cases_Bool, lt-ltb, and_parts, true≢false}
use Rattle.std.proofs.lemmas.Fmt.{decimal_nonempty}
use Rattle.std.specs.Char.{digit_value}
use Rattle.std.specs.Float.{binary64, float_is_finite}
use Rattle.std.specs.Float.Numeral.{exponent_text, text_of}
use Rattle.std.specs.Fmt.{digits, digits_onto, digit_glyph, signed_decimal, sign_text}
use Rattle.std.specs.Int.{cast_signed, w16, w32, w64}
use Rattle.std.specs.List.{list_all}
use Rattle.std.specs.Str.Parse.{AllDigits}
use Rattle.hex.specs.Hex.{encode_lower, encode_with, lower_digits}
use Rattle.ryu.specs.Parse.{parse_float}
use Rattle.ryu.specs.Plain.{IsPlainNumber}
use Rattle.dbus_texts.specs.Types.{NumberCode, BYTE, BOOLEAN, INT16, UINT16, INT32, UINT32, INT64, UINT64, DOUBLE, UNIX_FD}
use Rattle.dbus_value_model.specs.declared.order.Order.TheVariants.{Big}
use Rattle.dbus_value_model.specs.ByteNumbers.{IsBytes}
use Rattle.dbus_value_model.specs.Bytes.{num}
use Rattle.dbus_value_model.specs.Reading.{number_of}
use Rattle.dbus_value_model.specs.Values as values
use Rattle.dbus_value_model.proofs.Numbers.{number_of-num}
use Rattle.dbus_show.specs.ShownValues.{number_text}
use Rattle.dbus_json.specs.declared.integers.Integers.{Integers}
use Rattle.dbus_json.specs.JsonIntegers.{may_be_number, wide_size}
use Rattle.dbus_json.specs.JsonValues.{plain, IsDouble, IsNumber}
use Rattle.dbus_json_laws.proofs.Strings.{digit}
use Rattle.dbus_json_reader.proofs.NumberTexts.{same_head, Fits64, half_fits, coded_same, num_bytes, bits_same}

-- ---- bytes that end nothing

-- a byte that neither ends a number in JSON nor begins or ends a string
pub record Bare (c : ℕ) : Type 0 where
  pub quote : c ≢ 34
  pub comma : c ≢ 44
  pub bracket : c ≢ 93
  pub brace : c ≢ 125

abbrev pub AreAll : (ℕ → Type 0) → List ℕ → Type 0
AreAll P [] = Unit {0}
AreAll P (c ∷ cs) = P c × AreAll P cs

pub all_append : (P : ℕ → Type 0) (s t : List ℕ) → AreAll P s → AreAll P t → AreAll P (s ++ t)
all_append P [] t g h = h
all_append P (c ∷ s) t g h = (g.0, all_append P s t g.1 h)

pub weaker : (P Q : ℕ → Type 0) → ((c : ℕ) → P c → Q c) → (s : List ℕ) → AreAll P s → AreAll Q s
weaker P Q f [] h = tt
weaker P Q f (c ∷ s) h = (f c h.0, weaker P Q f s h.1)

-- two texts up to the first byte of each that is not of P
pub cut : (P : ℕ → Type 0) (s t : List ℕ) (x y : ℕ) (r q : List ℕ) → AreAll P s → AreAll P t → (P x → ⊥) → (P y → ⊥) → s ++ x ∷ r ≡ t ++ y ∷ q → (s ≡ t) × (x ∷ r ≡ y ∷ q)
cut P [] [] x y r q g h nx ny e = (refl, e)
cut P [] (c ∷ t) x y r q g h nx ny e = absurd (nx (subst P (sym (same_head x c r (t ++ y ∷ q) e).0) h.0))
cut P (b ∷ s) [] x y r q g h nx ny e = absurd (ny (subst P (same_head b y (s ++ x ∷ r) q e).0 g.0))
cut P (b ∷ s) (c ∷ t) x y r q g h nx ny e =
    let one = same_head b c (s ++ x ∷ r) (t ++ y ∷ q) e in
    let more = cut P s t x y r q g.1 h.1 nx ny one.1 in
    (ap (λ (k : ℕ). k ∷ s) one.0 ∙ ap (λ (u : List ℕ). c ∷ u) more.0, more.1)

-- ---- bare texts

pub low : (c : ℕ) → 44 < c → c < 93 → Bare c
low c g h = record { quote = λ e. omega (arith, g, e); comma = λ e. omega (arith, g, e); bracket = λ e. omega (arith, h, e); brace = λ e. omega (arith, h, e) }

either : (P : List ℕ → Type 0) (b : Bool) (s t : List ℕ) → P s → P t → P (cond b s t)
either P true s t g h = g
either P false s t g h = h

digit_range : (d : ℕ) → digit_value d < 10 → (48 ≤ d) × (d < 58)
digit_range d h = grind arith

-- what holds of each digit holds of all bytes of a number
module _ (P : ℕ → Type 0) (each : (c : ℕ) → 48 ≤ c → c < 58 → P c) where
  glyph : (d : ℕ) → d < 10 → P (digit_glyph false d)
  glyph d h = subst (λ (b : Bool). P (cond b (48 + d) (87 + d))) (sym (lt-ltb d 10 h)) (each (48 + d) (omega arith) (omega (arith, h)))

  digits_all : (k n : ℕ) (acc : List ℕ) → AreAll P acc → AreAll P (digits_onto k 10 false n acc)
  digits_all zero n acc h = h
  digits_all (suc k) n acc h =
      let more : AreAll P (digit_glyph false (n % 10) ∷ acc) = (glyph (n % 10) (omega arith), h) in
      either (AreAll P) (eqb (n / 10) 0) (digit_glyph false (n % 10) ∷ acc) (digits_onto k 10 false (n / 10) (digit_glyph false (n % 10) ∷ acc)) more (digits_all k (n / 10) (digit_glyph false (n % 10) ∷ acc) more)

  pub decimal_all : (n : ℕ) → AreAll P (decimal n)
  unfolding digits
  decimal_all n = digits_all 64 n [] tt

  module _ (minus : P 45) where
    pub signed_all : (z : ℤ) → AreAll P (signed_decimal z)
    signed_all (pos n) = decimal_all n
    signed_all (negsuc n) = (minus, decimal_all (suc n))

    sign_all : (negative : Bool) → AreAll P (sign_text negative)
    sign_all true = (minus, tt)
    sign_all false = tt

    digits_read : (ds : List ℕ) → AllDigits 10 ds → AreAll P ds
    digits_read [] h = tt
    digits_read (d ∷ ds) h = let range = digit_range d h.0 in (each d range.0 range.1, digits_read ds h.1)

    exponent_all : P 101 → (negative : Bool) (ds : List ℕ) → AllDigits 10 ds → AreAll P (exponent_text negative ds)
    exponent_all e negative [] h = tt
    exponent_all e negative (d ∷ ds) h = (e, all_append P (sign_text negative) (d ∷ ds) (sign_all negative) (digits_read (d ∷ ds) h))

    pub float_all : P 46 → P 101 → (text : List ℕ) → IsPlainNumber text → AreAll P text
    float_all point e text (negative, p, is, shaped) =
        let w = shaped.well_formed in
        let fraction = either (AreAll P) p.point (46 ∷ p.fraction) [] (point, digits_read p.fraction w.fraction_digits) tt in
        subst (AreAll P) (sym is)
        (all_append P (sign_text negative) (text_of p) (sign_all negative)
        (all_append P p.whole _ (digits_read p.whole w.whole_digits) (all_append P _ (exponent_text p.exponent_negative p.exponent) fraction (exponent_all e p.exponent_negative p.exponent w.exponent_digits))))

bare_digit : (c : ℕ) → 48 ≤ c → c < 58 → Bare c
bare_digit c g h = low c (omega (arith, g)) (omega (arith, h))

pub decimal_bare : (n : ℕ) → AreAll Bare (decimal n)
decimal_bare n = decimal_all Bare bare_digit n

-- whether a byte is bare
abbrev is_bare : ℕ → Bool
is_bare c = not (eqb c 34) && (not (eqb c 44) && (not (eqb c 93) && not (eqb c 125)))

not_equal : (c k : ℕ) → eqb k k ≡ true → not (eqb c k) ≡ true → c ≢ k
not_equal c k same h e = true≢false (sym h ∙ ap (λ (n : ℕ). not (eqb n k)) e ∙ ap not same)

pub bare_of : (c : ℕ) → is_bare c ≡ true → Bare c
bare_of c h =
    let a = and_parts _ _ h in
    let b = and_parts _ _ a.1 in
    let d = and_parts _ _ b.1 in
    record { quote = not_equal c 34 refl a.0; comma = not_equal c 44 refl b.0; bracket = not_equal c 93 refl d.0; brace = not_equal c 125 refl d.1 }

-- a text that is spelled out
pub bare_literal : (s : List ℕ) → list_all is_bare s ≡ true → AreAll Bare s
bare_literal [] h = tt
bare_literal (c ∷ s) h = let both = and_parts _ _ h in (bare_of c both.0, bare_literal s both.1)

-- the byte at a place, or 0 behind the last
pub bare_at : (t : List ℕ) → AreAll Bare t → (i : ℕ) → Bare (get_or t i 0)
bare_at [] h i = bare_of 0 refl
bare_at (c ∷ t) h zero = h.0
bare_at (c ∷ t) h (suc i) = bare_at t h.1 i

minus : Bare 45
minus = bare_of 45 refl

signed_bare : (z : ℤ) → AreAll Bare (signed_decimal z)
signed_bare z = signed_all Bare bare_digit minus z

encoded_bare : (t bytes : List ℕ) → ((i : ℕ) → Bare (get_or t i 0)) → AreAll Bare (encode_with t bytes)
unfolding encode_with
encoded_bare t [] h = tt
encoded_bare t (b ∷ bytes) h = (h (b / 16), (h (b % 16), encoded_bare t bytes h))

pub hex_bare : (bytes : List ℕ) → AreAll Bare (encode_lower bytes)
hex_bare bytes = encoded_bare lower_digits bytes (bare_at lower_digits (bare_literal lower_digits refl))

-- ---- the text of each number

float_bare : (text : List ℕ) → IsPlainNumber text → AreAll Bare text
float_bare text plain = float_all Bare bare_digit minus (bare_of 46 refl) (bare_of 101 refl) text plain

boolean_bare : (n : ℕ) → AreAll Bare (number_text BOOLEAN n)
boolean_bare n = either (AreAll Bare) (eqb n 0) (codes "false") (codes "true") (bare_literal (codes "false") refl) (bare_literal (codes "true") refl)

number_bare : (k : NumberCode) → (k ≡ DOUBLE → ⊥) → (n : ℕ) → AreAll Bare (number_text k n)
number_bare BYTE other n = decimal_bare n
number_bare BOOLEAN other n = boolean_bare n
number_bare INT16 other n = signed_bare (cast_signed w16 n)
number_bare UINT16 other n = decimal_bare n
number_bare INT32 other n = signed_bare (cast_signed w32 n)
number_bare UINT32 other n = decimal_bare n
number_bare INT64 other n = signed_bare (cast_signed w64 n)
number_bare UINT64 other n = decimal_bare n
number_bare DOUBLE other n = absurd (other refl)
number_bare UNIX_FD other n = decimal_bare n

-- ---- digits of bytes

hex_same : (a b : List ℕ) → IsBytes a → IsBytes b → encode_lower a ≡ encode_lower b → a ≡ b
unfolding encode_with
hex_same [] [] h k e = refl
hex_same [] (y ∷ b) h k e = absurd (let long : 0 ≡ suc (suc (length (encode_lower b))) = ap length e in omega (arith, long))
hex_same (x ∷ a) [] h k e = absurd (let long : suc (suc (length (encode_lower a))) ≡ 0 = ap length e in omega (arith, long))
hex_same (x ∷ a) (y ∷ b) h k e =
    let one = same_head _ _ _ _ e in
    let two = same_head _ _ _ _ one.1 in
    let high : x / 16 ≡ y / 16 = sym (digit (x / 16) (omega (arith, h.0))).1 ∙ ap digit_value one.0 ∙ (digit (y / 16) (omega (arith, k.0))).1 in
    let low : x % 16 ≡ y % 16 = sym (digit (x % 16) (omega arith)).1 ∙ ap digit_value two.0 ∙ (digit (y % 16) (omega arith)).1 in
    let same : x ≡ y = omega (arith, high, low) in
    ap (λ (z : ℕ). z ∷ a) same ∙ ap (λ (s : List ℕ). y ∷ s) (hex_same a b h.1 k.1 two.1)

quote_ends : Bare 34 → ⊥
quote_ends b = b.quote refl

-- a text between quotation marks
pub plain_same : (a b r q : List ℕ) → AreAll Bare a → AreAll Bare b → plain a ++ r ≡ plain b ++ q → (a ≡ b) × (r ≡ q)
plain_same a b r q h k e =
    let inside : a ++ 34 ∷ r ≡ b ++ 34 ∷ q = sym (append_assoc a (34 ∷ []) r) ∙ ap (λ (s : List ℕ). drop 1 s) e ∙ append_assoc b (34 ∷ []) q in
    let parts = cut Bare a b 34 34 r q h k quote_ends quote_ends inside in
    (parts.0, (same_head 34 34 r q parts.1).1)

pub plain_hex_same : (a b r q : List ℕ) → IsBytes a → IsBytes b → plain (encode_lower a) ++ r ≡ plain (encode_lower b) ++ q → (a ≡ b) × (r ≡ q)
plain_hex_same a b r q h k e =
    let parts = plain_same (encode_lower a) (encode_lower b) r q (hex_bare a) (hex_bare b) e in
    (hex_same a b h k parts.0, parts.1)

-- ---- a number in JSON, before a byte that ends it

-- what stands after a value in JSON
pub record Ends (x : ℕ) : Type 0 where
  pub bare : Bare x → ⊥
  pub other : x ≢ 34

-- what is bare, and what begins with a quotation mark
not_quoted : (s : List ℕ) (x : ℕ) (r u : List ℕ) → AreAll Bare s → Ends x → s ++ x ∷ r ≡ 34 ∷ u → ⊥
not_quoted [] x r u h ends e = ends.other (same_head x 34 r u e).0
not_quoted (c ∷ s) x r u h ends e = h.0.quote (same_head c 34 (s ++ x ∷ r) u e).0

abbrev Same : (m n : ℕ) → (x y : ℕ) → (r q : List ℕ) → Type 0
Same m n x y r q = (m ≡ n) × (x ∷ r ≡ y ∷ q)

module _ (m n : ℕ) (h : m < 256 ^ 8) (k : n < 256 ^ 8) (s t : List ℕ) (a : IsDouble m s) (b : IsDouble n t) (x y : ℕ) (r q : List ℕ) (ends : Ends x) (ended : Ends y) (e : s ++ x ∷ r ≡ t ++ y ∷ q) where
  both_finite : float_is_finite (from_bits binary64 m) ≡ true → float_is_finite (from_bits binary64 n) ≡ true → Same m n x y r q
  both_finite f g =
      let parts = cut Bare s t x y r q (float_bare s (a.finite f).0) (float_bare t (b.finite g).0) ends.bare ended.bare e in
      let read : Some (from_bits binary64 m) ≡ Some (from_bits binary64 n) = sym (a.finite f).1 ∙ ap (parse_float binary64) parts.0 ∙ (b.finite g).1 in
      let same : from_bits binary64 m ≡ from_bits binary64 n = let e = read in cc in
      (bits_same m n h k f g same, parts.1)

  first_finite : float_is_finite (from_bits binary64 m) ≡ true → float_is_finite (from_bits binary64 n) ≡ false → ⊥
  first_finite f g = not_quoted s x r _ (float_bare s (a.finite f).0) ends (e ∙ ap (λ (u : List ℕ). u ++ y ∷ q) (b.other g))

  second_finite : float_is_finite (from_bits binary64 m) ≡ false → float_is_finite (from_bits binary64 n) ≡ true → ⊥
  second_finite f g = not_quoted t y q _ (float_bare t (b.finite g).0) ended (sym e ∙ ap (λ (u : List ℕ). u ++ x ∷ r) (a.other f))

  none_finite : float_is_finite (from_bits binary64 m) ≡ false → float_is_finite (from_bits binary64 n) ≡ false → Same m n x y r q
  none_finite f g =
      let quoted : plain (encode_lower (num Big 8 m)) ++ x ∷ r ≡ plain (encode_lower (num Big 8 n)) ++ y ∷ q = ap (λ (u : List ℕ). u ++ x ∷ r) (sym (a.other f)) ∙ e ∙ ap (λ (u : List ℕ). u ++ y ∷ q) (b.other g) in
      let parts = plain_hex_same (num Big 8 m) (num Big 8 n) (x ∷ r) (y ∷ q) (num_bytes 8 m) (num_bytes 8 n) quoted in
      (sym (number_of-num Big 8 m h) ∙ ap (number_of Big) parts.0 ∙ number_of-num Big 8 n k, parts.1)

  double_same : Same m n x y r q
  double_same =
      elim (cases_Bool (float_is_finite (from_bits binary64 m))) [
        | inl f ↦ elim (cases_Bool (float_is_finite (from_bits binary64 n))) [ inl g ↦ both_finite f g | inr g ↦ absurd (first_finite f g) ]
        | inr f ↦ elim (cases_Bool (float_is_finite (from_bits binary64 n))) [ inl g ↦ absurd (second_finite f g) | inr g ↦ none_finite f g ]
      ]

decimal_same : (k : NumberCode) → (k ≡ DOUBLE → ⊥) → (m n : ℕ) → values.IsNumber k m → values.IsNumber k n → (s t : List ℕ) → s ≡ number_text k m → t ≡ number_text k n → (x y : ℕ) (r q : List ℕ) → Ends x → Ends y
    → s ++ x ∷ r ≡ t ++ y ∷ q → Same m n x y r q
decimal_same k other m n h l s t a b x y r q ends ended e =
    let parts = cut Bare s t x y r q (subst (AreAll Bare) (sym a) (number_bare k other m)) (subst (AreAll Bare) (sym b) (number_bare k other n)) ends.bare ended.bare e in
    (coded_same k other m n h l (sym a ∙ parts.0 ∙ b), parts.1)

-- two integers, each as a number or as a string of it
module _ (k : NumberCode) (other : k ≡ DOUBLE → ⊥) (m n : ℕ) (h : values.IsNumber k m) (l : values.IsNumber k n) (x y : ℕ) (r q : List ℕ) (ends : Ends x) (ended : Ends y) where
  wide_same : (may might : Bool) → cond may (number_text k m) (plain (number_text k m)) ++ x ∷ r ≡ cond might (number_text k n) (plain (number_text k n)) ++ y ∷ q → Same m n x y r q
  wide_same true true e = decimal_same k other m n h l _ _ refl refl x y r q ends ended e
  wide_same true false e = absurd (not_quoted (number_text k m) x r _ (number_bare k other m) ends e)
  wide_same false true e = absurd (not_quoted (number_text k n) y q _ (number_bare k other n) ended (sym e))
  wide_same false false e =
      let parts = plain_same (number_text k m) (number_text k n) (x ∷ r) (y ∷ q) (number_bare k other m) (number_bare k other n) e in
      (coded_same k other m n h l parts.0, parts.1)

-- two texts that begin with a number of one type
pub number_same : (integers : Integers) (k : NumberCode) (m n : ℕ) → values.IsNumber k m → values.IsNumber k n → (s t : List ℕ) → IsNumber integers k m s → IsNumber integers k n t → (x y : ℕ) (r q : List ℕ) → Ends x → Ends y
    → s ++ x ∷ r ≡ t ++ y ∷ q → (m ≡ n) × (x ∷ r ≡ y ∷ q)
number_same integers DOUBLE m n h k s t a b x y r q ends ended e = double_same m n h k s t a b x y r q ends ended e
number_same integers INT64 m n h k s t a b x y r q ends ended e =
    wide_same INT64 (λ d. absurd (cc)) m n h k x y r q ends ended (may_be_number integers (wide_size INT64 m)) (may_be_number integers (wide_size INT64 n)) (ap (λ (u : List ℕ). u ++ x ∷ r) (sym a) ∙ e ∙ ap (λ (u : List ℕ). u ++ y ∷ q) b)
number_same integers UINT64 m n h k s t a b x y r q ends ended e =
    wide_same UINT64 (λ d. absurd (cc)) m n h k x y r q ends ended (may_be_number integers (wide_size UINT64 m)) (may_be_number integers (wide_size UINT64 n)) (ap (λ (u : List ℕ). u ++ x ∷ r) (sym a) ∙ e ∙ ap (λ (u : List ℕ). u ++ y ∷ q) b)
number_same integers c m n h k s t a b x y r q ends ended e = decimal_same c (λ d. absurd (cc)) m n h k s t a b x y r q ends ended e

-- ---- the first byte of a number

-- it does not begin with a closing bracket
abbrev pub NoBracket : List ℕ → Type 0
NoBracket [] = ⊥
NoBracket (c ∷ cs) = c ≢ 93

-- the first byte of a text, which is none of an empty one
abbrev pub IsSome : List ℕ → Type 0
IsSome [] = ⊥
IsSome (c ∷ cs) = Unit {0}

some_of : (s : List ℕ) → 0 < length s → IsSome s
some_of [] h = absurd (omega (arith, h))
some_of (c ∷ s) h = tt

decimal_some : (n : ℕ) → n < 2 ^ 64 → IsSome (decimal n)
decimal_some n h = some_of (decimal n) (decimal_nonempty n h)

no_bracket : (s : List ℕ) → AreAll Bare s → IsSome s → NoBracket s
no_bracket [] h some = absurd some
no_bracket (c ∷ s) h some = h.0.bracket

some_front : (s t : List ℕ) → IsSome s → IsSome (s ++ t)
some_front [] t h = absurd h
some_front (c ∷ s) t h = tt

some_behind : (s t : List ℕ) → IsSome t → IsSome (s ++ t)
some_behind [] t h = h
some_behind (c ∷ s) t h = tt

signed_some : (z : ℤ) → Fits64 z → IsSome (signed_decimal z)
signed_some (pos n) h = decimal_some n h
signed_some (negsuc n) h = tt

float_some : (text : List ℕ) → IsPlainNumber text → IsSome text
float_some text (negative, p, is, shaped) = subst IsSome (sym is) (some_behind (sign_text negative) (text_of p) (some_front p.whole _ (some_of p.whole shaped.whole)))

double_first : (n : ℕ) (text : List ℕ) → IsDouble n text → NoBracket text
double_first n text is =
    elim (cases_Bool (float_is_finite (from_bits binary64 n))) [
      | inl f ↦ no_bracket text (float_bare text (is.finite f).0) (float_some text (is.finite f).0)
      | inr f ↦ subst NoBracket (sym (is.other f)) (λ e. omega (arith, e))
    ]

coded_some : (k : NumberCode) → (k ≡ DOUBLE → ⊥) → (n : ℕ) → values.IsNumber k n → IsSome (number_text k n)
coded_some BYTE other n h = decimal_some n (omega (arith, h))
coded_some BOOLEAN other n h = either IsSome (eqb n 0) (codes "false") (codes "true") tt tt
coded_some INT16 other n h = signed_some (cast_signed w16 n) (half_fits (2 ^ 16) (2 ^ 15) n h (omega arith) (omega arith))
coded_some UINT16 other n h = decimal_some n (omega (arith, h))
coded_some INT32 other n h = signed_some (cast_signed w32 n) (half_fits (2 ^ 32) (2 ^ 31) n h (omega arith) (omega arith))
coded_some UINT32 other n h = decimal_some n (omega (arith, h))
coded_some INT64 other n h = signed_some (cast_signed w64 n) (half_fits (2 ^ 64) (2 ^ 63) n h (omega arith) (omega arith))
coded_some UINT64 other n h = decimal_some n h
coded_some DOUBLE other n h = absurd (other refl)
coded_some UNIX_FD other n h = decimal_some n (omega (arith, h))

decimal_first : (k : NumberCode) → (k ≡ DOUBLE → ⊥) → (n : ℕ) → values.IsNumber k n → (text : List ℕ) → text ≡ number_text k n → NoBracket text
decimal_first k other n h text is = subst NoBracket (sym is) (no_bracket (number_text k n) (number_bare k other n) (coded_some k other n h))

wide_first : (k : NumberCode) → (k ≡ DOUBLE → ⊥) → (n : ℕ) → values.IsNumber k n → (may : Bool) (text : List ℕ) → text ≡ cond may (number_text k n) (plain (number_text k n)) → NoBracket text
wide_first k other n h true text is = decimal_first k other n h text is
wide_first k other n h false text is = subst NoBracket (sym is) (λ e. omega (arith, e))

pub number_first : (integers : Integers) (k : NumberCode) (n : ℕ) → values.IsNumber k n → (text : List ℕ) → IsNumber integers k n text → NoBracket text
number_first integers DOUBLE n h text is = double_first n text is
number_first integers INT64 n h text is = wide_first INT64 (λ d. absurd (cc)) n h (may_be_number integers (wide_size INT64 n)) text is
number_first integers UINT64 n h text is = wide_first UINT64 (λ d. absurd (cc)) n h (may_be_number integers (wide_size UINT64 n)) text is
number_first integers c n h text is = decimal_first c (λ d. absurd (cc)) n h text is
