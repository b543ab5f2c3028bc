-- The strings that `json` writes, through the lexer.
-- RFC 8259, section 7.
use Rattle.std.proofs.Common.{◌≡◌, ◌≢◌, ℕ, zero, suc, ◌/◌, ◌%◌, ◌<◌, ◌≤◌, ℤ, Bool, true, false, cond, eqb, ltb, not, ◌&&◌, List, [], ◌∷◌, ◌++◌, length, get_or, Some, Option, inl, inr, chars, decimal, encode_utf8, IsUtf8, refl, sym, ap, ap₂, ◌∙◌, subst, arith, append_assoc}
use Rattle.std.proofs.lemmas.Bool.{cases_lt, ne_eqb, lt-ltb, le-ltb, and_parts, and_from, not-true, ltb-false, true≢false}
use Rattle.std.proofs.lemmas.Str.{encode_ascii, scalars-chars, IsUtf8-append}
use Rattle.std.proofs.lemmas.List.{append-nil}
use Rattle.std.specs.Fmt.{signed_decimal}
use Rattle.std.specs.List.{flat_map, list_all}
use lib.Utf8.{scalar, scalars, encode, scalar_cases}
use Rattle.hex.specs.Hex.{encode_lower, encode_with, lower_digits}
use Rattle.json.specs.Text.{content, plain, prepend}
use Rattle.json.specs.Token as tokens
use Rattle.json.specs.Word.{is_operator, is_space}
use Rattle.json.specs.Lex.{Lexeme, Mode, lex, lex_byte, between, in_string, operator, space, other, token, string_token}
use Rattle.json.proofs.Printed.Utf8.{are_ascii, IsUtf8-are_ascii}
use Rattle.ryu.specs.Plain.{IsPlainNumber}
use Rattle.dbus_texts.specs.Types.{NumberCode, BYTE, BOOLEAN, INT16, UINT16, INT32, UINT32, INT64, UINT64, DOUBLE, UNIX_FD, TextCode, STRING, OBJECT_PATH, SIGNATURE, TypeTree, TypeTrees, NumberType, TextType, VariantType, ArrayType, StructType, EntryType, NoTypes, MoreTypes, number_code, text_code, sig, sigs}
use Rattle.dbus_value_model.specs.ByteNumbers.{IsBytes}
use Rattle.dbus_show.specs.declared.escapes.Escapes.TheVariants.{Json}
use Rattle.dbus_show.specs.Escapes.{escape, escaped, is_escaped, is_quote, units_text}
use Rattle.dbus_show.proofs.EscapedUtf8.{escaped_utf8}
use Rattle.dbus_json.specs.JsonValues as json
use Rattle.dbus_json_laws.proofs.Numbers.{AreAll, all_append, decimal_all, signed_all, float_all}
use Rattle.dbus_json_laws.proofs.Strings.{AllHigh, byte_read, long_high, plain_byte, unit, high_of, low_of, written, string_read, string_cut}

-- ---- what the lexer passes over within a string

abbrev Passed : List ℕ → Type 0
Passed s = (r : List ℕ) → lex in_string (s ++ r) ≡ lex in_string r

stays_inside : (o s : Bool) (x : ℕ) (r : List ℕ) (k : Mode → List Lexeme) → lex_byte in_string (cond o operator (cond s space other)) x r k ≡ k in_string
stays_inside true s x r k = refl
stays_inside false true x r k = refl
stays_inside false false x r k = refl

pass_byte : (x : ℕ) → x ≢ 34 → x ≢ 92 → (r : List ℕ) → lex in_string (x ∷ r) ≡ lex in_string r
unfolding lex
pass_byte x q b r = rw (ne_eqb x 34 q, ne_eqb x 92 b) (stays_inside (is_operator x) (is_space x) x r (λ m. lex m r))

pass_escape : (x : ℕ) (r : List ℕ) → lex in_string (92 ∷ x ∷ r) ≡ lex in_string r
unfolding lex
pass_escape x r = refl

pass_append : (s t : List ℕ) → Passed s → Passed t → Passed (s ++ t)
pass_append s t p q r = ap (lex in_string) (append_assoc s t r) ∙ p (t ++ r) ∙ q r

-- ---- bytes that stand for themselves

-- a character of ASCII that is no quotation mark, no backslash and no control character
abbrev is_inside : ℕ → Bool
is_inside c = not (eqb c 34) && (not (eqb c 92) && (not (ltb c 32) && ltb c 128))

abbrev pub Inside : ℕ → Type 0
Inside c = is_inside c ≡ true

no_quote : (c : ℕ) → Inside c → c ≢ 34
no_quote c h e = true≢false (sym h ∙ ap is_inside e)

no_backslash : (c : ℕ) → Inside c → c ≢ 92
no_backslash c h e = true≢false (sym h ∙ ap is_inside e)

no_control : (c : ℕ) → Inside c → 32 ≤ c
no_control c h = ltb-false c 32 (not-true (ltb c 32) (and_parts _ (ltb c 128) (and_parts (not (eqb c 92)) _ (and_parts (not (eqb c 34)) _ h).1).1).0)

is_low : (c : ℕ) → Inside c → ltb c 128 ≡ true
is_low c h = (and_parts (not (ltb c 32)) _ (and_parts (not (eqb c 92)) _ (and_parts (not (eqb c 34)) _ h).1).1).1

inside_ascii : (s : List ℕ) → AreAll Inside s → are_ascii s ≡ true
inside_ascii [] h = refl
inside_ascii (c ∷ s) h = and_from _ _ (is_low c h.0) (inside_ascii s h.1)

pub inside_utf8 : (s : List ℕ) → AreAll Inside s → IsUtf8 s
inside_utf8 s h = IsUtf8-are_ascii s (inside_ascii s h)

-- a text that is spelled out
pub inside_literal : (s : List ℕ) → list_all is_inside s ≡ true → AreAll Inside s
inside_literal [] h = tt
inside_literal (c ∷ s) h = let both = and_parts _ _ h in (both.0, inside_literal s both.1)

inside_at : (s : List ℕ) → AreAll Inside s → (i : ℕ) → i < length s → Inside (get_or s i 0)
inside_at [] h i few = absurd (omega (arith, few))
inside_at (c ∷ s) h zero few = h.0
inside_at (c ∷ s) h (suc i) few = inside_at s h.1 i (omega (arith, few))

hex_digit : (d : ℕ) → d < 16 → Inside (get_or lower_digits d 0)
hex_digit d h = inside_at lower_digits (inside_literal lower_digits refl) d h

pub hex_inside : (bytes : List ℕ) → IsBytes bytes → AreAll Inside (encode_lower bytes)
unfolding encode_with
hex_inside [] h = tt
hex_inside (b ∷ bytes) h = (hex_digit (b / 16) (omega (arith, h.0)), (hex_digit (b % 16) (omega arith), hex_inside bytes h.1))

pub digit_inside : (c : ℕ) → 48 ≤ c → c < 58 → Inside c
digit_inside c low high = rw (ne_eqb c 34 (λ e. omega (arith, low, e)), ne_eqb c 92 (λ e. omega (arith, high, e)), le-ltb c 32 (omega (arith, low)), lt-ltb c 128 (omega (arith, high))) refl

pub decimal_inside : (n : ℕ) → AreAll Inside (decimal n)
decimal_inside n = decimal_all Inside digit_inside n

pub signed_inside : (z : ℤ) → AreAll Inside (signed_decimal z)
signed_inside z = signed_all Inside digit_inside refl z

pub float_inside : (text : List ℕ) → IsPlainNumber text → AreAll Inside text
float_inside text shaped = float_all Inside digit_inside refl refl refl text shaped

number_inside : (k : NumberCode) → Inside (number_code k)
number_inside BYTE = refl
number_inside BOOLEAN = refl
number_inside INT16 = refl
number_inside UINT16 = refl
number_inside INT32 = refl
number_inside UINT32 = refl
number_inside INT64 = refl
number_inside UINT64 = refl
number_inside DOUBLE = refl
number_inside UNIX_FD = refl

text_inside : (k : TextCode) → Inside (text_code k)
text_inside STRING = refl
text_inside OBJECT_PATH = refl
text_inside SIGNATURE = refl

mutual
  pub sig_inside : (t : TypeTree) → AreAll Inside (sig t)
  sig_inside (NumberType k) = (number_inside k, tt)
  sig_inside (TextType k) = (text_inside k, tt)
  sig_inside VariantType = (refl, tt)
  sig_inside (ArrayType t) = (refl, sig_inside t)
  sig_inside (StructType ts) = (refl, all_append Inside (sigs ts) _ (sigs_inside ts) (refl, tt))
  sig_inside (EntryType k v) = (refl, all_append Inside (sig k) _ (sig_inside k) (all_append Inside (sig v) _ (sig_inside v) (refl, tt)))

  sigs_inside : (ts : TypeTrees) → AreAll Inside (sigs ts)
  sigs_inside NoTypes = tt
  sigs_inside (MoreTypes t ts) = all_append Inside (sig t) (sigs ts) (sig_inside t) (sigs_inside ts)

pass_inside : (s : List ℕ) → AreAll Inside s → Passed s
pass_inside [] h r = refl
pass_inside (c ∷ s) h r = pass_byte c (no_quote c h.0) (no_backslash c h.0) (s ++ r) ∙ pass_inside s h.1 r

inside_read : (s : List ℕ) → AreAll Inside s → (r : List ℕ) → content plain (s ++ 34 ∷ r) ≡ Some s
unfolding content
inside_read [] h r = refl
inside_read (c ∷ s) h r = byte_read c (no_quote c h.0) (no_backslash c h.0) (no_control c h.0) (s ++ 34 ∷ r) ∙ ap (prepend (c ∷ [])) (inside_read s h.1 r)

-- ---- what is written of a character

pass_unit : (u : ℕ) → u < 65536 → Passed (unit u)
pass_unit u h r =
    let digits = encode_with lower_digits (u / 256 ∷ u % 256 ∷ []) in
    pass_escape 117 (digits ++ r) ∙ pass_inside digits (hex_inside (u / 256 ∷ u % 256 ∷ []) (omega (arith, h), (omega arith, tt))) r

pass_units : (c : ℕ) → scalar c ≡ true → Passed (units_text c)
pass_units c s =
    let none : Passed [] = λ r. refl in
    elim (cases_lt c 65536) [
      | inl small ↦ subst (λ (b : Bool). Passed (flat_map unit (cond b (c ∷ []) (high_of c ∷ low_of c ∷ [])))) (sym (lt-ltb c 65536 small)) (pass_append (unit c) [] (pass_unit c small) none)
      | inr large ↦ (
          let most : c < 0x110000 = elim (scalar_cases c s) [ inl low ↦ omega (arith, low) | inr high ↦ high.1 ] in
          let second = pass_append (unit (low_of c)) [] (pass_unit (low_of c) (omega arith)) none in
          subst (λ (b : Bool). Passed (flat_map unit (cond b (c ∷ []) (high_of c ∷ low_of c ∷ [])))) (sym (le-ltb c 65536 large)) (pass_append (unit (high_of c)) (unit (low_of c) ++ []) (pass_unit (high_of c) (omega (arith, most))) second)
          )
    ]

pass_high : (s : List ℕ) → AllHigh s → Passed s
pass_high [] h r = refl
pass_high (x ∷ s) h r = pass_byte x (λ e. omega (arith, h.0, e)) (λ e. omega (arith, h.0, e)) (s ++ r) ∙ pass_high s h.1 r

pass_plain : (c : ℕ) → is_escaped Json c ≡ false → Passed (encode_utf8 c)
pass_plain c e =
    let b = plain_byte c e in
    elim (cases_lt c 128) [
      | inl ascii ↦ subst Passed (sym (encode_ascii c ascii)) (λ r. pass_byte c b.0 b.1 r)
      | inr long ↦ pass_high (encode c) (long_high c long)
    ]

pass_escape_of : (c : ℕ) (quote : Bool) → scalar c ≡ true → Passed (cond quote (92 ∷ c ∷ []) (units_text c))
pass_escape_of c true s = λ r. pass_escape c r
pass_escape_of c false s = pass_units c s

pass_written : (c : ℕ) (is : Bool) → is_escaped Json c ≡ is → scalar c ≡ true → Passed (cond is (escape Json c) (encode_utf8 c))
pass_written c true e s = pass_escape_of c (is_quote c) s
pass_written c false e s = pass_plain c e

pass_characters : (cs : List ℕ) → scalars cs ≡ true → Passed (flat_map written cs)
pass_characters [] s = λ r. refl
pass_characters (c ∷ cs) s =
    let both = and_parts _ _ s in
    pass_append (written c) (flat_map written cs) (pass_written c (is_escaped Json c) refl both.0) (pass_characters cs both.1)

-- ---- strings

opened : (t : List ℕ) → lex between (34 ∷ t) ≡ token (string_token (content plain t)) ∷ lex in_string t
unfolding lex
opened t = refl

closed : (r : List ℕ) → lex in_string (34 ∷ r) ≡ lex between r
unfolding lex
closed r = refl

-- a string with these bytes between its quotation marks, which stand for this text
lex_between : (inside text r : List ℕ) → content plain (inside ++ 34 ∷ r) ≡ Some text → Passed inside → lex between (34 ∷ (inside ++ 34 ∷ r)) ≡ token (tokens.string text) ∷ lex between r
lex_between inside text r read passed = opened (inside ++ 34 ∷ r) ∙ ap₂ (λ (o : Option (List ℕ)) (ls : List Lexeme). token (string_token o) ∷ ls) read (passed (34 ∷ r) ∙ closed r)

pub lex_string : (text r : List ℕ) → IsUtf8 text → lex between (json.string text ++ r) ≡ token (tokens.string text) ∷ lex between r
lex_string text r u =
    ap (lex between) (string_cut text r) ∙ lex_between (escaped Json text) text r (string_read text u r) (pass_characters (chars text) (scalars-chars text u))

pub lex_plain : (text r : List ℕ) → AreAll Inside text → lex between (json.plain text ++ r) ≡ token (tokens.string text) ∷ lex between r
lex_plain text r h =
    ap (λ (s : List ℕ). lex between (34 ∷ s)) (append_assoc text (34 ∷ []) r) ∙ lex_between text text r (inside_read text h r) (pass_inside text h)

-- ---- and as UTF-8

quote_utf8 : IsUtf8 (34 ∷ [])
quote_utf8 = IsUtf8-are_ascii (34 ∷ []) refl

pub plain_utf8 : (text : List ℕ) → IsUtf8 text → IsUtf8 (json.plain text)
plain_utf8 text u = IsUtf8-append (34 ∷ []) (text ++ 34 ∷ []) quote_utf8 (IsUtf8-append text (34 ∷ []) u quote_utf8)

pub string_utf8 : (text : List ℕ) → IsUtf8 text → IsUtf8 (json.string text)
string_utf8 text u = subst IsUtf8 (sym (sym (append-nil (json.string text)) ∙ string_cut text [])) (plain_utf8 (escaped Json text) (escaped_utf8 Json text u))
