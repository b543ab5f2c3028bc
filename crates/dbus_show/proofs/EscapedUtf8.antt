-- A text with its escapes is text.
use Rattle.std.proofs.Common.{◌≡◌, ℕ, ◌<◌, ◌/◌, ◌%◌, List, [], ◌∷◌, ◌++◌, Bool, true, false, cond, codes, refl, arith, append-nil}
use Rattle.std.proofs.Math.Utf8.{scalar, scalars}
use Rattle.std.specs.Char.{encode_utf8, is_ascii_control}
use Rattle.std.specs.Char.Escape.{encode_utf16, escape_unicode}
use Rattle.std.specs.List.{flat_map}
use Rattle.std.specs.Str.{IsAscii, IsUtf8, chars}
use Rattle.std.proofs.lemmas.Bool.{and_parts}
use Rattle.std.proofs.lemmas.Bool.Decides.{nat_tests}
use Rattle.std.proofs.lemmas.Str.{IsAscii-append, IsUtf8-append, IsUtf8-from_ascii, IsUtf8-nil, scalars-chars}
use Rattle.std.proofs.lemmas.Str.Ascii.{IsAscii-cons, IsAscii-nil}
use Rattle.hex.proofs.HexLemmas.{IsAscii-encode_with}
use Rattle.hex.specs.Hex.{encode_lower, lower_digits}
use Rattle.dbus_show.specs.Escapes.{escape, escaped, is_escaped, is_quote, units_text}
use Rattle.dbus_show.specs.declared.escapes.Escapes.{Escapes}
use Rattle.dbus_show.specs.declared.escapes.Escapes.TheVariants.{Shown, Json, Hidden, Line}
use Rattle.dbus_show.proofs.EscapedText.{lower_ascii, unicode_ascii}

quote_low : (c : ℕ) → is_quote c ≡ true → c < 128
quote_low c is = grind (arith, nat_tests)

either_ascii : (b : Bool) (s t : List ℕ) → (b ≡ true → IsAscii s) → IsAscii t → IsAscii (cond b s t)
either_ascii true s t p q = p refl
either_ascii false s t p q = q

-- two characters of ASCII, and the digits of bytes behind them
pair_ascii : (c d : ℕ) → c < 128 → d < 128 → IsAscii (c ∷ d ∷ [])
pair_ascii c d p q = IsAscii-cons c (d ∷ []) p (IsAscii-cons d [] q IsAscii-nil)

marked_ascii : (c d : ℕ) (bytes : List ℕ) → c < 128 → d < 128 → IsAscii ((c ∷ d ∷ []) ++ encode_lower bytes)
marked_ascii c d bytes p q = IsAscii-append (c ∷ d ∷ []) (encode_lower bytes) (pair_ascii c d p q) (IsAscii-encode_with lower_digits bytes lower_ascii)

units_ascii : (us : List ℕ) → IsAscii (flat_map (λ u. codes "\\u" ++ encode_lower (u / 256 ∷ u % 256 ∷ [])) us)
units_ascii [] = IsAscii-nil
units_ascii (u ∷ us) = IsAscii-append (codes "\\u" ++ encode_lower (u / 256 ∷ u % 256 ∷ [])) (flat_map (λ u. codes "\\u" ++ encode_lower (u / 256 ∷ u % 256 ∷ [])) us)
    (marked_ascii 92 117 (u / 256 ∷ u % 256 ∷ []) (omega arith) (omega arith)) (units_ascii us)

escape_ascii : (escapes : Escapes) (c : ℕ) → IsAscii (escape escapes c)
escape_ascii Shown c = either_ascii (is_quote c) (92 ∷ c ∷ []) (codes "\\x" ++ encode_lower (c ∷ [])) (λ is. pair_ascii 92 c (omega arith) (quote_low c is)) (marked_ascii 92 120 (c ∷ []) (omega arith) (omega arith))
escape_ascii Json c = either_ascii (is_quote c) (92 ∷ c ∷ []) (units_text c) (λ is. pair_ascii 92 c (omega arith) (quote_low c is)) (units_ascii (encode_utf16 c))
escape_ascii Hidden c = unicode_ascii c
escape_ascii Line c = either_ascii (is_ascii_control c) (codes "\\x" ++ encode_lower (c ∷ [])) (escape_unicode c) (λ is. marked_ascii 92 120 (c ∷ []) (omega arith) (omega arith)) (unicode_ascii c)

module _ (escapes : Escapes) where
  abbrev written : ℕ → List ℕ
  written c = cond (is_escaped escapes c) (escape escapes c) (encode_utf8 c)

  one_utf8 : (b : Bool) (c : ℕ) → scalar c ≡ true → IsUtf8 (cond b (escape escapes c) (encode_utf8 c))
  one_utf8 true c is = IsUtf8-from_ascii (escape escapes c) (escape_ascii escapes c)
  one_utf8 false c is = let one : scalars (c ∷ []) ≡ true = rw is refl in (c ∷ [], (one, append-nil (encode_utf8 c)))

  all_utf8 : (cs : List ℕ) → scalars cs ≡ true → IsUtf8 (flat_map written cs)
  all_utf8 [] h = IsUtf8-nil
  all_utf8 (c ∷ cs) h =
      let p = and_parts (scalar c) (scalars cs) h in
      IsUtf8-append (written c) (flat_map written cs) (one_utf8 (is_escaped escapes c) c p.0) (all_utf8 cs p.1)

  pub escaped_utf8 : (text : List ℕ) → IsUtf8 text → IsUtf8 (escaped escapes text)
  escaped_utf8 text utf8 = all_utf8 (chars text) (scalars-chars text utf8)
