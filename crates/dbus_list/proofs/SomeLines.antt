-- Each value has a text, which is UTF-8 if the value is well formed; and each message has a line.
use Rattle.std.proofs.Common.{◌≡◌, ℕ, zero, suc, ◌/◌, ◌%◌, ◌<◌, ℤ, pos, negsuc, nat_eq, nat_lt, Bool, ◌&&◌, true, false, cond, List, [], ◌∷◌, codes, ◌++◌, from_bits, refl, sym, subst, ◌∙◌, arith, true≢false}
use Rattle.std.specs.Float.{binary64, float_is_finite}
use Rattle.std.specs.Float.Numeral.{exponent_text, text_of}
use Rattle.std.specs.Fmt.{decimal, digit_glyph, digits, digits_onto, sign_text, signed_decimal}
use Rattle.std.specs.Int.{cast_signed, w16, w32, w64}
use Rattle.std.specs.List.{flat_map}
use Rattle.std.specs.Str.{IsAscii, IsUtf8}
use Rattle.std.specs.Str.Parse.{AllDigits}
use Rattle.std.proofs.lemmas.Bool.Decides.{nat_tests}
use Rattle.std.proofs.lemmas.Fmt.{IsAscii-from_digits}
use Rattle.std.proofs.lemmas.Str.{IsAscii-append, IsUtf8-append, IsUtf8-from_ascii, IsUtf8-nil}
use Rattle.std.proofs.lemmas.Str.Ascii.{IsAscii-cons, IsAscii-nil}
use Rattle.hex.proofs.HexLemmas.{IsAscii-encode_with}
use Rattle.hex.specs.Hex.{encode_lower, lower_digits}
use Rattle.ryu.specs.Plain.{IsPlainNumber}
use Rattle.dbus_texts.specs.Types.{NumberCode, BYTE, BOOLEAN, INT16, UINT16, INT32, UINT32, INT64, UINT64, DOUBLE, UNIX_FD, TypeTree}
use Rattle.dbus_texts.specs.PlainTypes.{is_byte}
use Rattle.dbus_value_model.specs.Values.{AreWellFormed, IsWellFormed, ValueTree, ValueTrees, NumberValue, TextValue, VariantValue, ArrayValue, StructValue, EntryValue, NoValues, MoreValues}
use Rattle.dbus_walk.proofs.ReadThere.{formed_utf8}
use Rattle.dbus_show.proofs.EscapedText.{lower_ascii}
use Rattle.dbus_show.specs.ShownValues.{bytes_in, joined, number_text, quoted}
use Rattle.dbus_json.proofs.FloatTexts.{some_text}
use Rattle.dbus_list.proofs.QuotedTexts.{quoted_utf8}
use Rattle.dbus_list.specs.BriefValues.{AreBrief, IsBrief, IsBriefDouble, IsBriefNumber, bracketed, other_double}
use Rattle.dbus_list.specs.Lines.{IsSomeLineEach}

-- ---- numbers

abbrev all_ascii : List ℕ → Bool
all_ascii [] = true
all_ascii (b ∷ w) = nat_lt b 128 && all_ascii w

ascii_head : (b : ℕ) (rest : Bool) → (nat_lt b 128 && rest) ≡ true → (b < 128) × (rest ≡ true)
ascii_head b rest is = grind (arith, nat_tests)

-- a text that is known
ascii_known : (w : List ℕ) → all_ascii w ≡ true → IsAscii w
ascii_known [] is = IsAscii-nil
ascii_known (b ∷ w) is = let h = ascii_head b (all_ascii w) is in IsAscii-cons b w h.0 (ascii_known w h.1)

ascii_if : (c : Bool) (a b : List ℕ) → IsAscii a → IsAscii b → IsAscii (cond c a b)
ascii_if true a b p q = p
ascii_if false a b p q = q

ascii_digits : (k n : ℕ) (acc : List ℕ) → IsAscii acc → IsAscii (digits_onto k 10 false n acc)
ascii_digits zero n acc h = h
ascii_digits (suc k) n acc h =
    let low : digit_glyph false (n % 10) < 128 = glyph (n % 10) (omega arith) in
    let more = IsAscii-cons (digit_glyph false (n % 10)) acc low h in
    ascii_if (nat_eq (n / 10) 0) (digit_glyph false (n % 10) ∷ acc) (digits_onto k 10 false (n / 10) (digit_glyph false (n % 10) ∷ acc)) more (ascii_digits k (n / 10) (digit_glyph false (n % 10) ∷ acc) more)
  where
    glyph : (d : ℕ) → d < 10 → digit_glyph false d < 128
    glyph d low = grind (arith, nat_tests)

ascii_decimal : (n : ℕ) → IsAscii (decimal n)
unfolding digits
ascii_decimal n = ascii_digits 64 n [] IsAscii-nil

ascii_signed : (z : ℤ) → IsAscii (signed_decimal z)
ascii_signed (pos n) = ascii_decimal n
ascii_signed (negsuc n) = IsAscii-cons 45 (decimal (suc n)) (omega arith) (ascii_decimal (suc n))

ascii_other : (bits : ℕ) → IsAscii (other_double bits)
ascii_other bits = ascii_if (nat_eq bits 0x7ff0_0000_0000_0000) (codes "inf") _ (ascii_known (codes "inf") refl)
    (ascii_if (nat_eq bits 0xfff0_0000_0000_0000) (codes "-inf") (codes "nan") (ascii_known (codes "-inf") refl) (ascii_known (codes "nan") refl))

ascii_sign : (negative : Bool) → IsAscii (sign_text negative)
ascii_sign true = ascii_known (45 ∷ []) refl
ascii_sign false = IsAscii-nil

ascii_exponent : (negative : Bool) (ds : List ℕ) → AllDigits 10 ds → IsAscii (exponent_text negative ds)
ascii_exponent negative [] h = IsAscii-nil
ascii_exponent negative (d ∷ ds) h = IsAscii-cons 101 (sign_text negative ++ d ∷ ds) (omega arith) (IsAscii-append (sign_text negative) (d ∷ ds) (ascii_sign negative) (IsAscii-from_digits (d ∷ ds) h))

ascii_float : (text : List ℕ) → IsPlainNumber text → IsAscii text
ascii_float text (negative, p, is, plain) =
    let w = plain.well_formed in
    let fraction = ascii_if p.point (46 ∷ p.fraction) [] (IsAscii-cons 46 p.fraction (omega arith) (IsAscii-from_digits p.fraction w.fraction_digits)) IsAscii-nil in
    subst IsAscii (sym is)
    (IsAscii-append (sign_text negative) (text_of p) (ascii_sign negative)
    (IsAscii-append p.whole _ (IsAscii-from_digits p.whole w.whole_digits) (IsAscii-append _ (exponent_text p.exponent_negative p.exponent) fraction (ascii_exponent p.exponent_negative p.exponent w.exponent_digits))))

some_double : (bits : ℕ) (answer : Bool) → float_is_finite (from_bits binary64 bits) ≡ answer → (text : List ℕ) × IsBriefDouble bits text × IsAscii text
some_double bits true e =
    let text = some_text binary64 bits e in
    (text.0, record { finite = λ _. (text.1, text.2); other = λ no. absurd (true≢false (sym e ∙ no)) }, ascii_float text.0 text.1)
some_double bits false e = (other_double bits, record { finite = λ yes. absurd (true≢false (sym yes ∙ e)); other = λ _. refl }, ascii_other bits)

some_number : (k : NumberCode) (n : ℕ) → (text : List ℕ) × IsBriefNumber k n text × IsAscii text
some_number DOUBLE n = some_double n _ refl
some_number BYTE n = (_, refl, ascii_decimal n)
some_number BOOLEAN n = (number_text BOOLEAN n, refl, ascii_if (nat_eq n 0) (codes "false") (codes "true") (ascii_known (codes "false") refl) (ascii_known (codes "true") refl))
some_number INT16 n = (_, refl, ascii_signed (cast_signed w16 n))
some_number UINT16 n = (_, refl, ascii_decimal n)
some_number INT32 n = (_, refl, ascii_signed (cast_signed w32 n))
some_number UINT32 n = (_, refl, ascii_decimal n)
some_number INT64 n = (_, refl, ascii_signed (cast_signed w64 n))
some_number UINT64 n = (_, refl, ascii_decimal n)
some_number UNIX_FD n = (_, refl, ascii_decimal n)

-- ---- texts around others

utf8_known : (w : List ℕ) → all_ascii w ≡ true → IsUtf8 w
utf8_known w is = IsUtf8-from_ascii w (ascii_known w is)

pub separator_utf8 : IsUtf8 (codes ", ")
separator_utf8 = utf8_known (codes ", ") refl

abbrev AllUtf8 : List (List ℕ) → Type 0
AllUtf8 [] = Unit {0}
AllUtf8 (t ∷ texts) = IsUtf8 t × AllUtf8 texts

after_utf8 : (texts : List (List ℕ)) → AllUtf8 texts → IsUtf8 (flat_map (λ t. codes ", " ++ t) texts)
after_utf8 [] h = IsUtf8-nil
after_utf8 (t ∷ texts) h = IsUtf8-append (codes ", " ++ t) (flat_map (λ t. codes ", " ++ t) texts) (IsUtf8-append (codes ", ") t separator_utf8 h.0) (after_utf8 texts h.1)

joined_utf8 : (texts : List (List ℕ)) → AllUtf8 texts → IsUtf8 (joined texts)
joined_utf8 [] h = IsUtf8-nil
joined_utf8 (t ∷ texts) h = IsUtf8-append t (flat_map (λ t. codes ", " ++ t) texts) h.0 (after_utf8 texts h.1)

bracketed_utf8 : (before after : List ℕ) (texts : List (List ℕ)) → all_ascii before ≡ true → all_ascii after ≡ true → AllUtf8 texts → IsUtf8 (bracketed before after texts)
bracketed_utf8 before after texts begins ends h = IsUtf8-append before (joined texts ++ after) (utf8_known before begins) (IsUtf8-append (joined texts) after (joined_utf8 texts h) (utf8_known after ends))

hex_utf8 : (bytes : List ℕ) → IsUtf8 (codes "0x" ++ encode_lower bytes)
hex_utf8 bytes = IsUtf8-from_ascii (codes "0x" ++ encode_lower bytes) (IsAscii-append (codes "0x") (encode_lower bytes) (ascii_known (codes "0x") refl) (IsAscii-encode_with lower_digits bytes lower_ascii))

-- ---- values

some_array : (byte : Bool) (bytes : List ℕ) (Items : List (List ℕ) → Type 0) (items : List (List ℕ)) → Items items
    → (text : List ℕ) × ((byte ≡ true → text ≡ codes "0x" ++ encode_lower bytes) × (byte ≡ false → (items : List (List ℕ)) × Items items × (text ≡ bracketed (codes "[") (codes "]") items))) × (AllUtf8 items → IsUtf8 text)
some_array true bytes Items items are = (codes "0x" ++ encode_lower bytes, (λ _. refl, λ no. absurd (true≢false no)), λ _. hex_utf8 bytes)
some_array false bytes Items items are = (bracketed (codes "[") (codes "]") items, (λ yes. absurd (true≢false (sym yes)), λ _. (items, are, refl)), bracketed_utf8 (codes "[") (codes "]") items refl refl)

held_formed : (depth : ℕ) (x : ValueTree) → IsWellFormed depth (VariantValue x) → (d : ℕ) × IsWellFormed d x
held_formed zero x h = absurd h
held_formed (suc d) x h = (d, h.1)

items_formed : (depth : ℕ) (t : TypeTree) (xs : ValueTrees) → IsWellFormed depth (ArrayValue t xs) → (d : ℕ) × AreWellFormed d xs
items_formed zero t xs h = absurd h
items_formed (suc d) t xs h = (d, h.1)

fields_formed : (depth : ℕ) (xs : ValueTrees) → IsWellFormed depth (StructValue xs) → (d : ℕ) × AreWellFormed d xs
fields_formed zero xs h = absurd h
fields_formed (suc d) xs h = (d, h)

mutual
  pub some_brief : (v : ValueTree) → (text : List ℕ) × IsBrief v text × ((depth : ℕ) → IsWellFormed depth v → IsUtf8 text)
  some_brief (NumberValue k n) =
      let some = some_number k n in
      (some.0, some.1, λ depth h. IsUtf8-from_ascii some.0 some.2)
  some_brief (TextValue k t) = (quoted t, refl, λ depth h. quoted_utf8 t (formed_utf8 depth k t h))
  some_brief (ArrayValue t xs) =
      let items = some_briefs xs in
      let some = some_array (is_byte t) (bytes_in xs) (AreBrief xs) items.0 items.1 in
      (some.0, some.1, λ depth h. let formed = items_formed depth t xs h in some.2 (items.2 formed.0 formed.1))
  some_brief (StructValue xs) =
      let items = some_briefs xs in
      (_, (items.0, items.1, refl), λ depth h. let formed = fields_formed depth xs h in bracketed_utf8 (codes "(") (codes ")") items.0 refl refl (items.2 formed.0 formed.1))
  some_brief (EntryValue x y) =
      let key = some_brief x in
      let value = some_brief y in
      (_, (key.0, value.0, key.1, value.1, refl), λ depth h. bracketed_utf8 (codes "{") (codes "}") (key.0 ∷ value.0 ∷ []) refl refl (key.2 depth h.0, (value.2 depth h.1, tt)))
  some_brief (VariantValue x) =
      let value = some_brief x in
      (_, (value.0, value.1, refl), λ depth h. let formed = held_formed depth x h in bracketed_utf8 (codes "<") (codes ">") (value.0 ∷ []) refl refl (value.2 formed.0 formed.1, tt))

  some_briefs : (xs : ValueTrees) → (texts : List (List ℕ)) × AreBrief xs texts × ((depth : ℕ) → AreWellFormed depth xs → AllUtf8 texts)
  some_briefs NoValues = ([], tt, λ depth h. tt)
  some_briefs (MoreValues x xs) =
      let one = some_brief x in
      let more = some_briefs xs in
      (one.0 ∷ more.0, (one.1, more.1), λ depth h. (one.2 depth h.0, more.2 depth h.1))

pub some_line_each : IsSomeLineEach
some_line_each cells place told order m =
    let values = some_briefs m.body in
    (_, (_, record { values = values.0; brief = values.1; is = refl }, refl))
