-- The texts of values have no line feed.
use Rattle.std.proofs.Common.{◌≡◌, ◌≢◌, ℕ, zero, suc, ◌+◌, ◌/◌, ◌%◌, ℤ, pos, negsuc, Bool, true, false, cond, eqb, ltb, map, List, [], ◌∷◌, ◌++◌, nat_lt, get_or, codes, decimal, chars, encode_utf8, refl, ap, subst, arith}
use Rattle.std.specs.Char.{is_ascii_control}
use Rattle.std.specs.Char.Escape.{encode_utf16, escape_unicode, hex_digit_at}
use Rattle.std.proofs.Math.Utf8.{encode}
use Rattle.std.specs.List.{flat_map}
use Rattle.std.specs.Fmt.{digits, digits_onto, digit_glyph, signed_decimal}
use Rattle.std.specs.Int.{cast_signed, w16, w32, w64}
use Rattle.std.proofs.lemmas.Bool.{eqb-true}
use Rattle.std.proofs.lemmas.List.Sums.{sum_by-append, sum_by-cons}
use Rattle.hex.specs.Hex.{encode_with, encode_lower, lower_digits}
use Rattle.dbus_texts.specs.Types.{NumberCode, BYTE, BOOLEAN, INT16, UINT16, INT32, UINT32, INT64, UINT64, DOUBLE, UNIX_FD, TextCode, STRING, TypeTree, TypeTrees, NumberType, TextType, VariantType, ArrayType, StructType, EntryType, NoTypes, MoreTypes, number_code, text_code, sig, sigs}
use Rattle.dbus_texts.specs.PlainTypes.{is_byte}
use Rattle.dbus_value_model.specs.declared.order.Order.TheVariants.{Big}
use Rattle.dbus_value_model.specs.Values.{ValueTree, ValueTrees, NumberValue, TextValue, VariantValue, ArrayValue, StructValue, EntryValue, NoValues, MoreValues}
use Rattle.dbus_value_model.specs.Bytes.{num}
use Rattle.dbus_show.specs.ShownMessages.{line_feeds}
use Rattle.dbus_show.specs.Escapes.{escape, escaped, is_escaped, is_quote, quoted_by, units_text}
use Rattle.dbus_show.specs.ShownValues.{number_text, joined, bytes_in, value_text, value_texts}
use Rattle.dbus_show.specs.declared.escapes.Escapes.{Escapes}
use Rattle.dbus_show.specs.declared.escapes.Escapes.TheVariants.{Shown, Json, Hidden, Line}

-- ---- lists

pub record IsOneLine (t : List ℕ) : Type 0 where
  pub none : line_feeds t ≡ 0

-- whether a byte is a line feed, as a number
abbrev feed : ℕ → ℕ
feed b = cond (eqb b 10) 1 0

pub feeds_append : (s t : List ℕ) → line_feeds (s ++ t) ≡ line_feeds s + line_feeds t
feeds_append s t = sum_by-append feed s t

pub feeds_cons : (b : ℕ) (s : List ℕ) → line_feeds (b ∷ s) ≡ feed b + line_feeds s
feeds_cons b s = sum_by-cons feed b s

pub line_literal : (t : List ℕ) → line_feeds t ≡ 0 → IsOneLine t
line_literal t h = record { none = h }

pub line_append : (s t : List ℕ) → IsOneLine s → IsOneLine t → IsOneLine (s ++ t)
line_append s t hs ht = let e = feeds_append s t in record { none = omega (arith, hs.none, ht.none) }

no_feed : (c : Bool) → c ≢ true → let z : ℕ = 0 in cond c 1 0 ≡ z
no_feed true h = absurd (h refl)
no_feed false h = refl

pub line_cons : (b : ℕ) (s : List ℕ) → b ≢ 10 → IsOneLine s → IsOneLine (b ∷ s)
line_cons b s h hs =
    let e = feeds_cons b s in
    let f = no_feed (eqb b 10) (λ t. h (eqb-true b 10 t)) in
    record { none = omega (arith, hs.none) }

pub line_either : (c : Bool) (s t : List ℕ) → IsOneLine s → IsOneLine t → IsOneLine (cond c s t)
line_either true s t hs ht = hs
line_either false s t hs ht = ht

pub line_flat : (f : ℕ → List ℕ) → ((b : ℕ) → IsOneLine (f b)) → (s : List ℕ) → IsOneLine (flat_map f s)
line_flat f h [] = line_literal [] refl
line_flat f h (b ∷ s) = line_append (f b) (flat_map f s) (h b) (line_flat f h s)

-- a text between two brackets
pub between : (before s suffix : List ℕ) → line_feeds before ≡ 0 → IsOneLine s → line_feeds suffix ≡ 0 → IsOneLine (before ++ (s ++ suffix))
between before s suffix hb hs ha = line_append before (s ++ suffix) (line_literal before hb) (line_append s suffix hs (line_literal suffix ha))

-- ---- numbers

glyph_value : (c : Bool) (d : ℕ) → cond c (48 + d) (87 + d) ≢ 10
glyph_value true d = λ e. omega arith
glyph_value false d = λ e. omega arith

glyph : (d : ℕ) → digit_glyph false d ≢ 10
glyph d = glyph_value (nat_lt d 10) d

line_digits : (k base n : ℕ) (acc : List ℕ) → IsOneLine acc → IsOneLine (digits_onto k base false n acc)
line_digits zero base n acc h = h
line_digits (suc k) base n acc h =
    let more = line_cons (digit_glyph false (n % base)) acc (glyph (n % base)) h in
    line_either (eqb (n / base) 0) (digit_glyph false (n % base) ∷ acc) (digits_onto k base false (n / base) (digit_glyph false (n % base) ∷ acc)) more (line_digits k base (n / base) (digit_glyph false (n % base) ∷ acc) more)

pub line_decimal : (n : ℕ) → IsOneLine (decimal n)
unfolding digits
line_decimal n = line_digits 64 10 n [] (line_literal [] refl)

line_signed : (z : ℤ) → IsOneLine (signed_decimal z)
line_signed (pos n) = line_decimal n
line_signed (negsuc n) = line_cons 45 (decimal (suc n)) (λ e. omega arith) (line_decimal (suc n))

abbrev AreOthers : List ℕ → Type 0
AreOthers [] = Unit {0}
AreOthers (b ∷ s) = (b ≢ 10) × AreOthers s

others : (s : List ℕ) → line_feeds s ≡ 0 → AreOthers s
others [] h = tt
others (b ∷ s) h =
    let e = feeds_cons b s in
    let left : line_feeds s ≡ 0 = omega arith in
    let clear : feed b ≡ 0 = omega arith in
    (λ is. let one : feed b ≡ 1 = ap feed is in omega arith, others s left)

other_at : (s : List ℕ) → AreOthers s → (i : ℕ) → get_or s i 0 ≢ 10
other_at [] h i = λ e. omega arith
other_at (b ∷ s) h zero = h.0
other_at (b ∷ s) h (suc i) = other_at s h.1 i

line_encoded : (t bytes : List ℕ) → ((i : ℕ) → get_or t i 0 ≢ 10) → IsOneLine (encode_with t bytes)
unfolding encode_with
line_encoded t [] h = line_literal [] refl
line_encoded t (b ∷ bytes) h = line_cons (get_or t (b / 16) 0) (get_or t (b % 16) 0 ∷ encode_with t bytes) (h (b / 16)) (line_cons (get_or t (b % 16) 0) (encode_with t bytes) (h (b % 16)) (line_encoded t bytes h))

pub line_hex : (bytes : List ℕ) → IsOneLine (encode_lower bytes)
line_hex bytes = line_encoded lower_digits bytes (other_at lower_digits (others lower_digits refl))

pub line_number : (k : NumberCode) (n : ℕ) → IsOneLine (number_text k n)
line_number BYTE n = line_decimal n
line_number BOOLEAN n = line_either (eqb n 0) (codes "false") (codes "true") (line_literal (codes "false") refl) (line_literal (codes "true") refl)
line_number INT16 n = line_signed (cast_signed w16 n)
line_number UINT16 n = line_decimal n
line_number INT32 n = line_signed (cast_signed w32 n)
line_number UINT32 n = line_decimal n
line_number INT64 n = line_signed (cast_signed w64 n)
line_number UINT64 n = line_decimal n
line_number DOUBLE n = line_hex (num Big 8 n)
line_number UNIX_FD n = line_decimal n

-- ---- texts

line_if : (b : Bool) (s t : List ℕ) → (b ≡ true → IsOneLine s) → (b ≡ false → IsOneLine t) → IsOneLine (cond b s t)
line_if true s t h k = h refl
line_if false s t h k = k refl

line_encode : (c : ℕ) → c ≢ 10 → IsOneLine (encode_utf8 c)
unfolding encode
line_encode c h =
    let last = line_cons (128 + c % 64) [] (λ e. omega arith) (line_literal [] refl) in
    let third = line_cons (128 + c / 64 % 64) ((128 + c % 64) ∷ []) (λ e. omega arith) last in
    line_either (ltb c 128) _ _ (line_cons c [] h (line_literal [] refl))
    (line_either (ltb c 2048) _ _ (line_cons (192 + c / 64) _ (λ e. omega arith) last)
    (line_either (ltb c 65536) _ _ (line_cons (224 + c / 4096) _ (λ e. omega arith) third) (line_cons (240 + c / 262144) _ (λ e. omega arith) (line_cons (128 + c / 4096 % 64) _ (λ e. omega arith) third))))

line_units : (c : ℕ) → IsOneLine (units_text c)
line_units c = line_flat _ (λ u. line_append (codes "\\u") _ (line_literal (codes "\\u") refl) (line_hex (u / 256 ∷ u % 256 ∷ []))) (encode_utf16 c)

line_places : (c : ℕ) (places : List ℕ) → IsOneLine (map (λ p. hex_digit_at p c) places)
line_places c [] = line_literal [] refl
line_places c (p ∷ places) = line_cons (hex_digit_at p c) (map (λ p. hex_digit_at p c) places) (glyph_value (nat_lt (c / p % 16) 10) (c / p % 16)) (line_places c places)

spelled : (c : ℕ) (places : List ℕ) → IsOneLine (92 ∷ 117 ∷ 123 ∷ (map (λ p. hex_digit_at p c) places ++ 125 ∷ []))
spelled c places =
    let digits = map (λ p. hex_digit_at p c) places in
    line_append (92 ∷ 117 ∷ 123 ∷ []) (digits ++ 125 ∷ []) (line_literal (92 ∷ 117 ∷ 123 ∷ []) refl) (line_append digits (125 ∷ []) (line_places c places) (line_literal (125 ∷ []) refl))

pub line_unicode : (c : ℕ) → IsOneLine (escape_unicode c)
line_unicode c =
    line_either (nat_lt c 0x10) _ _ (spelled c (1 ∷ []))
    (line_either (nat_lt c 0x100) _ _ (spelled c (0x10 ∷ 1 ∷ []))
    (line_either (nat_lt c 0x1000) _ _ (spelled c (0x100 ∷ 0x10 ∷ 1 ∷ []))
    (line_either (nat_lt c 0x1_0000) _ _ (spelled c (0x1000 ∷ 0x100 ∷ 0x10 ∷ 1 ∷ []))
    (line_either (nat_lt c 0x10_0000) _ _ (spelled c (0x1_0000 ∷ 0x1000 ∷ 0x100 ∷ 0x10 ∷ 1 ∷ []))
    (spelled c (0x10_0000 ∷ 0x1_0000 ∷ 0x1000 ∷ 0x100 ∷ 0x10 ∷ 1 ∷ []))))))

line_backslashed : (c : ℕ) → is_quote c ≡ true → IsOneLine (92 ∷ c ∷ [])
line_backslashed c h = line_cons 92 (c ∷ []) (λ e. omega arith) (line_cons c [] (λ e. let k : is_quote 10 ≡ true = subst (λ x. is_quote x ≡ true) e h in cc) (line_literal [] refl))

-- what stands for a character, if a line feed is among those that are escaped
line_escape : (escapes : Escapes) → is_escaped escapes 10 ≡ true → (c : ℕ) → IsOneLine (escape escapes c)
line_escape Shown h c = line_if (is_quote c) _ _ (line_backslashed c) (λ _. line_append (codes "\\x") (encode_lower (c ∷ [])) (line_literal (codes "\\x") refl) (line_hex (c ∷ [])))
line_escape Json h c = line_if (is_quote c) _ _ (line_backslashed c) (λ _. line_units c)
line_escape Hidden h c = absurd (cc)
line_escape Line h c = line_either (is_ascii_control c) _ _ (line_append (codes "\\x") (encode_lower (c ∷ [])) (line_literal (codes "\\x") refl) (line_hex (c ∷ []))) (line_unicode c)

line_written : (escapes : Escapes) → is_escaped escapes 10 ≡ true → (c : ℕ) → IsOneLine (cond (is_escaped escapes c) (escape escapes c) (encode_utf8 c))
line_written escapes h c = line_if (is_escaped escapes c) _ _ (λ _. line_escape escapes h c) (λ other. line_encode c (λ e. let k : is_escaped escapes 10 ≡ false = subst (λ x. is_escaped escapes x ≡ false) e other in cc))

-- a text with its escapes, if a line feed is among those that are escaped
pub line_escaped : (escapes : Escapes) → is_escaped escapes 10 ≡ true → (text : List ℕ) → IsOneLine (escaped escapes text)
line_escaped escapes h text = line_flat _ (line_written escapes h) (chars text)

pub line_quoted : (escapes : Escapes) → is_escaped escapes 10 ≡ true → (text : List ℕ) → IsOneLine (quoted_by escapes text)
line_quoted escapes h text = between (codes "\"") (escaped escapes text) (codes "\"") refl (line_escaped escapes h text) refl

-- ---- signatures

number_code_other : (k : NumberCode) → number_code k ≢ 10
number_code_other BYTE = λ e. omega arith
number_code_other k = λ e. omega arith

text_code_other : (k : TextCode) → text_code k ≢ 10
text_code_other STRING = λ e. omega arith
text_code_other k = λ e. omega arith

mutual
  pub line_sig : (t : TypeTree) → IsOneLine (sig t)
  line_sig (NumberType k) = line_cons (number_code k) [] (number_code_other k) (line_literal [] refl)
  line_sig (TextType k) = line_cons (text_code k) [] (text_code_other k) (line_literal [] refl)
  line_sig VariantType = line_literal (118 ∷ []) refl
  line_sig (ArrayType t) = line_append (97 ∷ []) (sig t) (line_literal (97 ∷ []) refl) (line_sig t)
  line_sig (StructType ts) = line_append (40 ∷ []) (sigs ts ++ 41 ∷ []) (line_literal (40 ∷ []) refl) (line_append (sigs ts) (41 ∷ []) (line_sigs ts) (line_literal (41 ∷ []) refl))
  line_sig (EntryType k v) =
      line_append (123 ∷ []) (sig k ++ (sig v ++ 125 ∷ [])) (line_literal (123 ∷ []) refl) (line_append (sig k) (sig v ++ 125 ∷ []) (line_sig k) (line_append (sig v) (125 ∷ []) (line_sig v) (line_literal (125 ∷ []) refl)))

  pub line_sigs : (ts : TypeTrees) → IsOneLine (sigs ts)
  line_sigs NoTypes = line_literal [] refl
  line_sigs (MoreTypes t ts) = line_append (sig t) (sigs ts) (line_sig t) (line_sigs ts)

-- ---- values

abbrev pub AreLines : List (List ℕ) → Type 0
AreLines [] = Unit {0}
AreLines (t ∷ ts) = IsOneLine t × AreLines ts

line_after : (ts : List (List ℕ)) → AreLines ts → IsOneLine (flat_map (λ t. codes ", " ++ t) ts)
line_after [] h = line_literal [] refl
line_after (t ∷ ts) h = line_append (codes ", " ++ t) (flat_map (λ t. codes ", " ++ t) ts) (line_append (codes ", ") t (line_literal (codes ", ") refl) h.0) (line_after ts h.1)

line_joined : (ts : List (List ℕ)) → AreLines ts → IsOneLine (joined ts)
line_joined [] h = line_literal [] refl
line_joined (t ∷ ts) h = line_append t (flat_map (λ t. codes ", " ++ t) ts) h.0 (line_after ts h.1)

mutual
  pub line_value : (v : ValueTree) → IsOneLine (value_text v)
  line_value (NumberValue k n) = line_cons (number_code k) (codes ":" ++ number_text k n) (number_code_other k) (line_append (codes ":") (number_text k n) (line_literal (codes ":") refl) (line_number k n))
  line_value (TextValue k t) = line_cons (text_code k) (codes ":" ++ quoted_by Shown t) (text_code_other k) (line_append (codes ":") (quoted_by Shown t) (line_literal (codes ":") refl) (line_quoted Shown refl t))
  line_value (VariantValue x) = between (codes "<") (value_text x) (codes ">") refl (line_value x) refl
  line_value (ArrayValue t xs) =
      let bytes = encode_lower (bytes_in xs) in
      let items = codes "[" ++ (joined (value_texts xs) ++ codes "]") in
      line_append (sig (ArrayType t)) (codes ":" ++ cond (is_byte t) bytes items) (line_sig (ArrayType t))
      (line_append (codes ":") (cond (is_byte t) bytes items) (line_literal (codes ":") refl)
      (line_either (is_byte t) bytes items (line_hex (bytes_in xs)) (between (codes "[") (joined (value_texts xs)) (codes "]") refl (line_joined (value_texts xs) (lines_of xs)) refl)))
  line_value (StructValue xs) = between (codes "(") (joined (value_texts xs)) (codes ")") refl (line_joined (value_texts xs) (lines_of xs)) refl
  line_value (EntryValue k v) =
      line_append (codes "{") (value_text k ++ (codes ", " ++ (value_text v ++ codes "}"))) (line_literal (codes "{") refl)
      (line_append (value_text k) (codes ", " ++ (value_text v ++ codes "}")) (line_value k) (between (codes ", ") (value_text v) (codes "}") refl (line_value v) refl))

  pub lines_of : (xs : ValueTrees) → AreLines (value_texts xs)
  lines_of NoValues = tt
  lines_of (MoreValues x xs) = (line_value x, lines_of xs)

pub none_in_value : (v : ValueTree) → line_feeds (value_text v) ≡ 0
none_in_value v = (line_value v).none
