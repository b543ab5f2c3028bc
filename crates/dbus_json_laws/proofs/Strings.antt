-- The escapes of JSON are read back.
-- RFC 8259, section 7.
use Rattle.std.proofs.Common.{◌≡◌, ℕ, zero, suc, ◌+◌, ◌-◌, ◌*◌, ◌/◌, ◌%◌, ◌<◌, ◌≤◌, Bool, true, false, cond, eqb, leb, ◌||◌, List, [], ◌∷◌, ◌++◌, Option, Some, None, option_and_then, inl, inr, ◌⊎◌, slice_index, chars, codes, encode_utf8, encode_utf8_all, IsUtf8, refl, sym, ap, ◌∙◌, subst, arith, append_assoc, drop}
use Rattle.std.proofs.lemmas.Bool.{cases_eq, cases_lt, ne_eqb, eq-eqb, eqb-true, le-ltb, lt-ltb, le-leb, lt-leb, or_parts, or_cases, and_parts, and_from, and_left, and_right, true≢false}
use Rattle.std.proofs.lemmas.List.{append-nil, append_cancel_left}
use Rattle.std.proofs.lemmas.Str.{encode_ascii, encodes-chars, scalars-chars}
use Rattle.std.specs.Char.{digit_value, is_digit, is_ascii_control}
use Rattle.std.specs.Int.{is_in_range}
use Rattle.std.specs.List.{flat_map}
use lib.Utf8.{scalar, scalars, encode, next, scalar_cases}
use Rattle.hex.specs.Hex.{lower_digits, encode_with}
use Rattle.json.specs.Text.{content, plain, after_high, prepend, code_unit, short_escape, is_high_surrogate, is_low_surrogate, surrogate_pair}
use Rattle.dbus_show.specs.declared.escapes.Escapes.TheVariants.{Json}
use Rattle.dbus_show.specs.Escapes.{escape, escaped, is_escaped, is_quote, is_hidden, units_text}
use Rattle.dbus_json.specs.JsonValues.{string}

-- ---- hexadecimal digits

-- P holds below n, counted down from the top
abbrev Each : (ℕ → Type 0) → ℕ → Type 0
Each P zero = Unit {0}
Each P (suc n) = P n × Each P n

each_sound : (P : ℕ → Type 0) (n : ℕ) → Each P n → (x : ℕ) → x < n → P x
each_sound P zero h x lt = absurd (omega arith)
each_sound P (suc n) h x lt = go (each_sound P n h.1 x) (cases_eq x n)
  where
    go : (x < n → P x) → (x ≡ n) ⊎ (x ≡ n → ⊥) → P x
    go below (inl e) = subst P (sym e) h.0
    go below (inr ne) = below (omega arith)

-- the digit of d reads as d
abbrev pub IsDigitOf : ℕ → Type 0
IsDigitOf d = (is_digit (slice_index lower_digits d) 16 ≡ true) × (digit_value (slice_index lower_digits d) ≡ d)

digits_read : Each IsDigitOf 16
digits_read = ((refl, refl), ((refl, refl), ((refl, refl), ((refl, refl), ((refl, refl), ((refl, refl), ((refl, refl), ((refl, refl), ((refl, refl), ((refl, refl), ((refl, refl), ((refl, refl), ((refl, refl), ((refl, refl), ((refl, refl), ((refl, refl), tt))))))))))))))))

pub digit : (d : ℕ) → d < 16 → IsDigitOf d
digit d h = each_sound IsDigitOf 16 digits_read d h

abbrev hex : ℕ → ℕ
hex d = slice_index lower_digits d

code_is : (a b c d u : ℕ) → is_digit a 16 ≡ true → is_digit b 16 ≡ true → is_digit c 16 ≡ true → is_digit d 16 ≡ true → digit_value a * 4096 + digit_value b * 256 + digit_value c * 16 + digit_value d ≡ u → code_unit a b c d ≡ Some u
unfolding code_unit
code_is a b c d u p q r s e = rw (p, q, r, s) (ap Some e)

unit_read : (u : ℕ) → u < 65536 → code_unit (hex (u / 256 / 16)) (hex (u / 256 % 16)) (hex (u % 256 / 16)) (hex (u % 256 % 16)) ≡ Some u
unit_read u h =
    let a = digit (u / 256 / 16) (omega (arith, h)) in
    let b = digit (u / 256 % 16) (omega arith) in
    let c = digit (u % 256 / 16) (omega arith) in
    let d = digit (u % 256 % 16) (omega arith) in
    let whole : u / 256 / 16 * 4096 + u / 256 % 16 * 256 + u % 256 / 16 * 16 + u % 256 % 16 ≡ u = omega (arith, h) in
    code_is _ _ _ _ u a.0 b.0 c.0 d.0 ((λ i. a.1 i * 4096 + b.1 i * 256 + c.1 i * 16 + d.1 i) ∙ whole)

-- ---- a unit of UTF-16

abbrev pub unit : ℕ → List ℕ
unit u = codes "\\u" ++ encode_with lower_digits (u / 256 ∷ u % 256 ∷ [])

-- what a unit stands for, before what follows
abbrev first_unit : (u : ℕ) (r : List ℕ) → Option (List ℕ)
first_unit u r = cond (is_high_surrogate u) (content (after_high u) r) (cond (is_low_surrogate u) None (prepend (encode_utf8 u) (content plain r)))

abbrev second_unit : (h u : ℕ) (r : List ℕ) → Option (List ℕ)
second_unit h u r = cond (is_low_surrogate u) (prepend (encode_utf8 (surrogate_pair h u)) (content plain r)) None

first_four : (a b c d u : ℕ) (r : List ℕ) → code_unit a b c d ≡ Some u → content plain (92 ∷ 117 ∷ a ∷ b ∷ c ∷ d ∷ r) ≡ first_unit u r
unfolding content
first_four a b c d u r e = ap (λ (o : Option ℕ). option_and_then (λ v. first_unit v r) o) e

second_four : (high a b c d u : ℕ) (r : List ℕ) → code_unit a b c d ≡ Some u → content (after_high high) (92 ∷ 117 ∷ a ∷ b ∷ c ∷ d ∷ r) ≡ second_unit high u r
unfolding content
second_four high a b c d u r e = ap (λ (o : Option ℕ). option_and_then (λ v. second_unit high v r) o) e

first_read : (u : ℕ) → u < 65536 → (r : List ℕ) → content plain (unit u ++ r) ≡ first_unit u r
unfolding encode_with
first_read u h r = first_four _ _ _ _ u r (unit_read u h)

second_read : (high u : ℕ) → u < 65536 → (r : List ℕ) → content (after_high high) (unit u ++ r) ≡ second_unit high u r
unfolding encode_with
second_read high u h r = second_four high _ _ _ _ u r (unit_read u h)

no_surrogate : (c : ℕ) → scalar c ≡ true → (is_high_surrogate c ≡ false) × (is_low_surrogate c ≡ false)
no_surrogate c s =
    elim (scalar_cases c s) [
      | inl low ↦ (and_left _ _ (lt-leb 0xd800 c low), and_left _ _ (lt-leb 0xdc00 c (omega (arith, low))))
      | inr high ↦ (and_right _ _ (le-ltb c 0xdc00 (omega (arith, high.0))), and_right _ _ (le-ltb c 0xe000 high.0))
    ]

small_read : (c : ℕ) → scalar c ≡ true → c < 65536 → (r : List ℕ) → content plain (unit c ++ r) ≡ prepend (encode_utf8 c) (content plain r)
small_read c s h r = let no = no_surrogate c s in first_read c h r ∙ rw (no.0, no.1) refl

abbrev pub high_of : ℕ → ℕ
high_of c = 0xD800 + (c - 0x10000) / 0x400

abbrev pub low_of : ℕ → ℕ
low_of c = 0xDC00 + (c - 0x10000) % 0x400

large_read : (c : ℕ) → scalar c ≡ true → 65536 ≤ c → (r : List ℕ) → content plain (unit (high_of c) ++ (unit (low_of c) ++ r)) ≡ prepend (encode_utf8 c) (content plain r)
large_read c s h r =
    let most : c < 0x110000 = elim (scalar_cases c s) [ inl low ↦ omega (arith, low) | inr high ↦ high.1 ] in
    let high : is_high_surrogate (high_of c) ≡ true = and_from _ _ (le-leb 0xd800 (high_of c) (omega arith)) (lt-ltb (high_of c) 0xdc00 (omega (arith, most, h))) in
    let low : is_low_surrogate (low_of c) ≡ true = and_from _ _ (le-leb 0xdc00 (low_of c) (omega arith)) (lt-ltb (low_of c) 0xe000 (omega arith)) in
    let same : surrogate_pair (high_of c) (low_of c) ≡ c = omega (arith, h) in
    first_read (high_of c) (omega (arith, most)) (unit (low_of c) ++ r)
    ∙ ap (λ (b : Bool). cond b (content (after_high (high_of c)) (unit (low_of c) ++ r)) (cond (is_low_surrogate (high_of c)) None (prepend (encode_utf8 (high_of c)) (content plain (unit (low_of c) ++ r))))) high
    ∙ second_read (high_of c) (low_of c) (omega arith) r
    ∙ ap (λ (b : Bool). cond b (prepend (encode_utf8 (surrogate_pair (high_of c) (low_of c))) (content plain r)) None) low
    ∙ ap (λ (k : ℕ). prepend (encode_utf8 k) (content plain r)) same

-- ---- a character

abbrev Passes : ℕ → List ℕ → Type 0
Passes c written = (r : List ℕ) → content plain (written ++ r) ≡ prepend (encode_utf8 c) (content plain r)

units_read : (c : ℕ) → scalar c ≡ true → Passes c (units_text c)
units_read c s r =
    elim (cases_lt c 65536) [
      | inl small ↦
          ap (λ (b : Bool). content plain (flat_map unit (cond b (c ∷ []) (high_of c ∷ low_of c ∷ [])) ++ r)) (lt-ltb c 65536 small)
          ∙ ap (λ (t : List ℕ). content plain (t ++ r)) (append-nil (unit c))
          ∙ small_read c s small r
      | inr large ↦
          ap (λ (b : Bool). content plain (flat_map unit (cond b (c ∷ []) (high_of c ∷ low_of c ∷ [])) ++ r)) (le-ltb c 65536 large)
          ∙ ap (λ (t : List ℕ). content plain ((unit (high_of c) ++ t) ++ r)) (append-nil (unit (low_of c)))
          ∙ ap (content plain) (append_assoc (unit (high_of c)) (unit (low_of c)) r)
          ∙ large_read c s large r
    ]

prepend_twice : (a : ℕ) (s : List ℕ) (o : Option (List ℕ)) → prepend (a ∷ []) (prepend s o) ≡ prepend (a ∷ s) o
prepend_twice a s None = refl
prepend_twice a s (Some t) = refl

-- a byte that is itself
pub byte_read : (x : ℕ) → (x ≡ 34 → ⊥) → (x ≡ 92 → ⊥) → 32 ≤ x → (r : List ℕ) → content plain (x ∷ r) ≡ prepend (x ∷ []) (content plain r)
unfolding content
byte_read x q b l r = rw (ne_eqb x 34 q, ne_eqb x 92 b, le-ltb x 32 l) refl

high_read : (x : ℕ) → 128 ≤ x → (r : List ℕ) → content plain (x ∷ r) ≡ prepend (x ∷ []) (content plain r)
high_read x h r = byte_read x (λ e. omega arith) (λ e. omega arith) (omega (arith, h)) r

abbrev pub AllHigh : List ℕ → Type 0
AllHigh [] = Unit {0}
AllHigh (x ∷ xs) = (128 ≤ x) × AllHigh xs

prepend_none : (o : Option (List ℕ)) → o ≡ prepend [] o
prepend_none None = refl
prepend_none (Some t) = refl

bytes_read : (xs : List ℕ) → AllHigh xs → (r : List ℕ) (o : Option (List ℕ)) → content plain r ≡ o → content plain (xs ++ r) ≡ prepend xs o
bytes_read [] h r o e = e ∙ prepend_none o
bytes_read (x ∷ xs) h r o e = high_read x h.0 (xs ++ r) ∙ ap (prepend (x ∷ [])) (bytes_read xs h.1 r o e) ∙ prepend_twice x xs o

two : (c : ℕ) → 128 ≤ c → c < 2048 → encode c ≡ (192 + c / 64) ∷ next c ∷ []
unfolding encode
two c h k = rw (le-ltb c 128 h, lt-ltb c 2048 k) refl

three : (c : ℕ) → 2048 ≤ c → c < 65536 → encode c ≡ (224 + c / 4096) ∷ next (c / 64) ∷ next c ∷ []
unfolding encode
three c h k = rw (le-ltb c 128 (omega (arith, h)), le-ltb c 2048 h, lt-ltb c 65536 k) refl

four : (c : ℕ) → 65536 ≤ c → encode c ≡ (240 + c / 262144) ∷ next (c / 4096) ∷ next (c / 64) ∷ next c ∷ []
unfolding encode
four c h = rw (le-ltb c 128 (omega (arith, h)), le-ltb c 2048 (omega (arith, h)), le-ltb c 65536 h) refl

pub long_high : (c : ℕ) → 128 ≤ c → AllHigh (encode c)
long_high c h =
    elim (cases_lt c 2048) [
      | inl a ↦ subst AllHigh (sym (two c h a)) (omega arith, (omega arith, tt))
      | inr a ↦ elim (cases_lt c 65536) [
        | inl b ↦ subst AllHigh (sym (three c a b)) (omega arith, (omega arith, (omega arith, tt)))
        | inr b ↦ subst AllHigh (sym (four c b)) (omega arith, (omega arith, (omega arith, (omega arith, tt))))
      ]
    ]

-- what is not escaped is no quotation mark, no backslash and no control character
pub plain_byte : (c : ℕ) → is_escaped Json c ≡ false → (c ≡ 34 → ⊥) × (c ≡ 92 → ⊥) × (32 ≤ c)
plain_byte c e =
    let marks = or_parts (is_quote c) (is_ascii_control c) (or_parts (is_quote c || is_ascii_control c) (is_hidden c) e).0 in
    let quotes = or_parts (eqb c 34) (eqb c 92) marks.0 in
    let control = or_parts (is_in_range 0 31 c) (is_in_range 127 127 c) marks.1 in (
      λ is. true≢false (sym (eq-eqb c 34 is) ∙ quotes.0),
      λ is. true≢false (sym (eq-eqb c 92 is) ∙ quotes.1),
      elim (cases_lt c 32) [
        | inl low ↦ absurd (true≢false (sym (and_from (leb 0 c) (leb c 31) (le-leb 0 c (omega arith)) (le-leb c 31 (omega (arith, low)))) ∙ control.0))
        | inr high ↦ high
      ],
    )

plain_read : (c : ℕ) → is_escaped Json c ≡ false → Passes c (encode_utf8 c)
plain_read c e r =
    elim (cases_lt c 128) [
      | inl ascii ↦ (
          let b = plain_byte c e in
          ap (λ (t : List ℕ). content plain (t ++ r)) (encode_ascii c ascii) ∙ byte_read c b.0 b.1 b.2 r ∙ ap (λ (t : List ℕ). prepend t (content plain r)) (sym (encode_ascii c ascii))
          )
      | inr long ↦ bytes_read (encode c) (long_high c long) r (content plain r) refl
    ]

mark_read : (r : List ℕ) → content plain (92 ∷ 34 ∷ r) ≡ prepend (encode_utf8 34) (content plain r)
unfolding content short_escape encode
mark_read r = refl

slash_read : (r : List ℕ) → content plain (92 ∷ 92 ∷ r) ≡ prepend (encode_utf8 92) (content plain r)
unfolding content short_escape encode
slash_read r = refl

quote_read : (c : ℕ) → is_quote c ≡ true → Passes c (92 ∷ c ∷ [])
quote_read c e r =
    elim (or_cases _ _ e) [
      | inl is ↦ subst (λ (k : ℕ). content plain (92 ∷ k ∷ r) ≡ prepend (encode_utf8 k) (content plain r)) (sym (eqb-true c 34 is)) (mark_read r)
      | inr is ↦ subst (λ (k : ℕ). content plain (92 ∷ k ∷ r) ≡ prepend (encode_utf8 k) (content plain r)) (sym (eqb-true c 92 is)) (slash_read r)
    ]

escape_read : (c : ℕ) (quote : Bool) → is_quote c ≡ quote → scalar c ≡ true → Passes c (cond quote (92 ∷ c ∷ []) (units_text c))
escape_read c true e s = quote_read c e
escape_read c false e s = units_read c s

abbrev pub written : ℕ → List ℕ
written c = cond (is_escaped Json c) (escape Json c) (encode_utf8 c)

written_read : (c : ℕ) (is : Bool) → is_escaped Json c ≡ is → scalar c ≡ true → Passes c (cond is (escape Json c) (encode_utf8 c))
written_read c true e s = escape_read c (is_quote c) refl s
written_read c false e s = plain_read c e

-- ---- a string

prepends : (s t : List ℕ) (o : Option (List ℕ)) → o ≡ Some t → prepend s o ≡ Some (s ++ t)
prepends s t None e = absurd (cc)
prepends s t (Some u) e = ap (prepend s) e

characters_read : (cs : List ℕ) → scalars cs ≡ true → (r : List ℕ) → content plain (flat_map written cs ++ 34 ∷ r) ≡ Some (encode_utf8_all cs)
unfolding content
characters_read [] s r = refl
characters_read (c ∷ cs) s r =
    let both = and_parts _ _ s in
    ap (content plain) (append_assoc (written c) (flat_map written cs) (34 ∷ r))
    ∙ written_read c (is_escaped Json c) refl both.0 (flat_map written cs ++ 34 ∷ r)
    ∙ prepends (encode_utf8 c) (encode_utf8_all cs) _ (characters_read cs both.1 r)

-- what a reader makes of a string behind its quotation mark
pub string_read : (t : List ℕ) → IsUtf8 t → (r : List ℕ) → content plain (escaped Json t ++ 34 ∷ r) ≡ Some t
string_read t u r = characters_read (chars t) (scalars-chars t u) r ∙ ap Some (encodes-chars t u)

-- a string is cut at its quotation marks
pub string_cut : (t r : List ℕ) → string t ++ r ≡ 34 ∷ (escaped Json t ++ 34 ∷ r)
string_cut t r = ap (λ (s : List ℕ). 34 ∷ s) (ap (λ (s : List ℕ). (escaped Json t ++ s) ++ r) (append-nil (34 ∷ [])) ∙ append_assoc (escaped Json t) (34 ∷ []) r)

-- two texts that begin with a string
pub same_string : (s t r q : List ℕ) → IsUtf8 s → IsUtf8 t → string s ++ r ≡ string t ++ q → (s ≡ t) × (r ≡ q)
same_string s t r q us ut e =
    let inside : escaped Json s ++ 34 ∷ r ≡ escaped Json t ++ 34 ∷ q = ap (drop 1) (sym (string_cut s r) ∙ e ∙ string_cut t q) in
    let read : Some s ≡ Some t = sym (string_read s us r) ∙ ap (content plain) inside ∙ string_read t ut q in
    let same : s ≡ t = let e = read in cc in
    (same, append_cancel_left (string s) r q (e ∙ ap (λ (u : List ℕ). string u ++ q) (sym same)))
