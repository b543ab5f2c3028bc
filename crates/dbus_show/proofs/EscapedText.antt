-- Escaped texts, by what comes before a character that is escaped.
use Rattle.std.proofs.Common.{◌≡◌, ℕ, ◌+◌, ◌-◌, ◌<◌, ◌≤◌, Bool, ◌||◌, eqb, ◌⊎◌, inl, inr, ⊎_elim, subst, arith, map, codes, append-nil, List, [], ◌∷◌, ◌++◌, length, take, drop, true, false, cond, nat_lt, refl, sym, ap, ◌∙◌, ◌/◌, ◌%◌, slice_index, chars, encode_utf8, encode_utf8_all, IsUtf8}
use Rattle.std.specs.List.{flat_map}
use Rattle.std.proofs.Math.Seq.{take-add}
use Rattle.std.proofs.lemmas.List.{take_rest, take-append-drop}
use Rattle.std.proofs.lemmas.List.Concat.{flat_map-append}
use Rattle.std.specs.Str.{IsAscii, NonePass}
use Rattle.std.specs.Char.{is_ascii_control}
use Rattle.std.specs.Char.Escape.{escape_unicode, hex_digit_at}
use Rattle.std.proofs.lemmas.Bool.{eqb-true, le-ltb, ltb-true}
use Rattle.std.proofs.lemmas.Bool.Decides.{nat_tests}
use Rattle.std.proofs.lemmas.List.Elements.{All-weaker}
use Rattle.std.proofs.lemmas.List.Sums.{AllPass-from_list_all}
use Rattle.std.proofs.lemmas.Str.{IsAscii-append, chars-append, chars_past_char, encodes-chars}
use Rattle.std.proofs.lemmas.Str.Ascii.{IsAscii-cons, IsAscii-from_all, IsAscii-nil}
use Rattle.hex.specs.Hex.{lower_digits, encode_lower, encode_with}
use Rattle.dbus_show.specs.Escapes.{escape, escaped, is_escaped, is_hidden, is_quote, units_text}
use Rattle.dbus_show.specs.declared.escapes.Escapes.{Escapes}
use Rattle.dbus_show.specs.declared.escapes.Escapes.TheVariants.{Shown, Json, Hidden, Line}

module _ (escapes : Escapes) where
  -- what is written of a character
  abbrev written : ℕ → List ℕ
  written c = cond (is_escaped escapes c) (escape escapes c) (encode_utf8 c)

  plain_written : (cs : List ℕ) → NonePass (is_escaped escapes) cs → flat_map written cs ≡ encode_utf8_all cs
  plain_written [] h = refl
  plain_written (c ∷ cs) h = ap (λ b. cond b (escape escapes c) (encode_utf8 c) ++ flat_map written cs) h.0 ∙ ap (λ s. encode_utf8 c ++ s) (plain_written cs h.1)

  -- a text of which no character is escaped is itself
  pub plain_itself : (text : List ℕ) → IsUtf8 text → NonePass (is_escaped escapes) (chars text) → escaped escapes text ≡ text
  plain_itself text u h = plain_written (chars text) h ∙ encodes-chars text u

  pub escaped_append : (s t : List ℕ) → IsUtf8 s → escaped escapes (s ++ t) ≡ escaped escapes s ++ escaped escapes t
  escaped_append s t u = ap (flat_map written) (chars-append s t u) ∙ flat_map-append written (chars s) (chars t)

  -- plain characters, one that is escaped, and what follows
  pub escaped_split : (text plain rest : List ℕ) (c : ℕ) → text ≡ plain ++ (encode_utf8 c ++ rest) → IsUtf8 plain → IsUtf8 (encode_utf8 c ++ rest) → NonePass (is_escaped escapes) (chars plain)
      → is_escaped escapes c ≡ true → escaped escapes text ≡ plain ++ (escape escapes c ++ escaped escapes rest)
  escaped_split text plain rest c e u v none is =
      let first : escaped escapes (encode_utf8 c ++ rest) ≡ escape escapes c ++ escaped escapes rest = ap (flat_map written) (chars_past_char (encode_utf8 c ++ rest) rest c v refl)
      ∙ ap (λ b. cond b (escape escapes c) (encode_utf8 c) ++ escaped escapes rest) is in
      ap (escaped escapes) e ∙ escaped_append plain (encode_utf8 c ++ rest) u ∙ ap (λ s. s ++ escaped escapes (encode_utf8 c ++ rest)) (plain_itself plain u none) ∙ ap (λ s. plain ++ s) first

-- The hexadecimal digits of bytes.

pub lower_ascii : IsAscii lower_digits
lower_ascii = IsAscii-from_all lower_digits (All-weaker (λ b. nat_lt b 128 ≡ true) (λ b. b < 128) (λ b h. ltb-true b 128 h) lower_digits (AllPass-from_list_all (λ b. nat_lt b 128) lower_digits refl))

pub encode_none : encode_lower [] ≡ []
unfolding encode_with
encode_none = refl

pub encode_append : (xs ys : List ℕ) → encode_lower (xs ++ ys) ≡ encode_lower xs ++ encode_lower ys
unfolding encode_with
encode_append [] ys = refl
encode_append (x ∷ xs) ys = ap (λ s. slice_index lower_digits (x / 16) ∷ slice_index lower_digits (x % 16) ∷ s) (encode_append xs ys)

-- one block more, of which the program has the places i and i + n
pub block_more : (xs : List ℕ) (i n m : ℕ) → m ≡ n → encode_lower (take i xs) ++ encode_lower (take m (drop i xs)) ≡ encode_lower (take (i + n) xs)
block_more xs i n m e = sym (encode_append (take i xs) (take m (drop i xs))) ∙ ap (λ k. encode_lower (take i xs ++ take k (drop i xs))) e ∙ ap encode_lower (sym (take-add i n xs))

-- the last block
pub block_last : (xs : List ℕ) (i : ℕ) → encode_lower (take i xs) ++ encode_lower (take (length xs - i) (drop i xs)) ≡ encode_lower xs
block_last xs i = sym (encode_append (take i xs) (take (length xs - i) (drop i xs))) ∙ ap (λ r. encode_lower (take i xs ++ r)) (take_rest xs i) ∙ ap encode_lower (take-append-drop i xs)

-- What stands for a character.

glyph : (b : Bool) (d : ℕ) → d < 16 → cond b (48 + d) (87 + d) < 128
glyph true d h = omega arith
glyph false d h = omega arith

digits_ascii : (c : ℕ) (places : List ℕ) → IsAscii (map (λ p. hex_digit_at p c) places)
digits_ascii c [] = IsAscii-nil
digits_ascii c (p ∷ places) =
    let d = c / p % 16 in
    IsAscii-cons (hex_digit_at p c) (map (λ p. hex_digit_at p c) places) (glyph (nat_lt d 10) d (omega arith)) (digits_ascii c places)

in_braces : (digits : List ℕ) → IsAscii digits → IsAscii (92 ∷ 117 ∷ 123 ∷ (digits ++ 125 ∷ []))
in_braces digits h =
    IsAscii-cons 92 (117 ∷ 123 ∷ (digits ++ 125 ∷ [])) (omega arith)
    (IsAscii-cons 117 (123 ∷ (digits ++ 125 ∷ [])) (omega arith) (IsAscii-cons 123 (digits ++ 125 ∷ []) (omega arith) (IsAscii-append digits (125 ∷ []) h (IsAscii-cons 125 [] (omega arith) IsAscii-nil))))

spelled : (c : ℕ) (places : List ℕ) → IsAscii (92 ∷ 117 ∷ 123 ∷ (map (λ p. hex_digit_at p c) places ++ 125 ∷ []))
spelled c places = in_braces (map (λ p. hex_digit_at p c) places) (digits_ascii c places)

ascii_either : (b : Bool) (s t : List ℕ) → IsAscii s → IsAscii t → IsAscii (cond b s t)
ascii_either true s t h k = h
ascii_either false s t h k = k

pub unicode_ascii : (c : ℕ) → IsAscii (escape_unicode c)
unicode_ascii c =
    ascii_either (nat_lt c 0x10) _ _ (spelled c (1 ∷ []))
    (ascii_either (nat_lt c 0x100) _ _ (spelled c (0x10 ∷ 1 ∷ []))
    (ascii_either (nat_lt c 0x1000) _ _ (spelled c (0x100 ∷ 0x10 ∷ 1 ∷ []))
    (ascii_either (nat_lt c 0x1_0000) _ _ (spelled c (0x1000 ∷ 0x100 ∷ 0x10 ∷ 1 ∷ []))
    (ascii_either (nat_lt c 0x10_0000) _ _ (spelled c (0x1_0000 ∷ 0x1000 ∷ 0x100 ∷ 0x10 ∷ 1 ∷ []))
    (spelled c (0x10_0000 ∷ 0x1_0000 ∷ 0x1000 ∷ 0x100 ∷ 0x10 ∷ 1 ∷ []))))))

-- a unit of UTF-16
abbrev pub unit_text : ℕ → List ℕ
unit_text u = codes "\\u" ++ encode_lower (u / 256 ∷ u % 256 ∷ [])

pub two_units : (c : ℕ) → 65536 ≤ c → units_text c ≡ unit_text (0xD800 + (c - 0x1_0000) / 0x400) ++ unit_text (0xDC00 + (c - 0x1_0000) % 0x400)
two_units c l = rw (le-ltb c 65536 l) (ap (λ s. unit_text (0xD800 + (c - 0x1_0000) / 0x400) ++ s) (append-nil (unit_text (0xDC00 + (c - 0x1_0000) % 0x400))))

quote_is : (c : ℕ) → is_quote c ≡ true → (c ≡ 34) ⊎ (c ≡ 92)
quote_is c h = which (eqb c 34) refl h where
  which : (b : Bool) → eqb c 34 ≡ b → (b || eqb c 92) ≡ true → (c ≡ 34) ⊎ (c ≡ 92)
  which true e k = inl (eqb-true c 34 e)
  which false e k = inr (eqb-true c 92 k)

not_hidden : (c : ℕ) → is_quote c ≡ true → is_hidden c ≡ true → ⊥
not_hidden c h k =
    ⊎_elim (λ e. let t : is_hidden 34 ≡ true = subst (λ x. is_hidden x ≡ true) e k in cc)
    (λ e. let t : is_hidden 92 ≡ true = subst (λ x. is_hidden x ≡ true) e k in cc)
    (quote_is c h)

not_in_line : (c : ℕ) → is_quote c ≡ true → is_escaped Line c ≡ true → ⊥
not_in_line c h k =
    ⊎_elim (λ e. let t : is_escaped Line 34 ≡ true = subst (λ x. is_escaped Line x ≡ true) e k in cc)
    (λ e. let t : is_escaped Line 92 ≡ true = subst (λ x. is_escaped Line x ≡ true) e k in cc)
    (quote_is c h)

pub quote_escape : (escapes : Escapes) (c : ℕ) → is_escaped escapes c ≡ true → is_quote c ≡ true → escape escapes c ≡ 92 ∷ c ∷ []
quote_escape Shown c h is = ap (λ b. cond b (92 ∷ c ∷ []) (codes "\\x" ++ encode_lower (c ∷ []))) is
quote_escape Json c h is = ap (λ b. cond b (92 ∷ c ∷ []) (units_text c)) is
quote_escape Hidden c h is = absurd (not_hidden c is h)
quote_escape Line c h is = absurd (not_in_line c is h)

pub shown_escape : (escapes : Escapes) (c : ℕ) → escapes ≡ Shown → is_quote c ≡ false → escape escapes c ≡ codes "\\x" ++ encode_lower (c ∷ [])
shown_escape escapes c e is = ap (λ k. escape k c) e ∙ ap (λ b. cond b (92 ∷ c ∷ []) (codes "\\x" ++ encode_lower (c ∷ []))) is

pub shown_ascii : (escapes : Escapes) (c : ℕ) → escapes ≡ Shown → is_escaped escapes c ≡ true → c < 128
shown_ascii escapes c e h = shown (subst (λ k. is_escaped k c ≡ true) e h) where
  shown : is_escaped Shown c ≡ true → c < 128
  shown k = grind (arith, nat_tests)

pub control_ascii : (c : ℕ) → is_ascii_control c ≡ true → c < 128
control_ascii c h = grind (arith, nat_tests)

pub line_escape : (escapes : Escapes) (c : ℕ) (b : Bool) → escapes ≡ Line → is_ascii_control c ≡ b → escape escapes c ≡ cond b (codes "\\x" ++ encode_lower (c ∷ [])) (escape_unicode c)
line_escape escapes c b e is = ap (λ k. escape k c) e ∙ ap (λ b. cond b (codes "\\x" ++ encode_lower (c ∷ [])) (escape_unicode c)) is
