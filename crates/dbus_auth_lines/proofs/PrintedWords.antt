-- Plain and printed bytes, and the words of hexadecimal digits.
use Rattle.std.proofs.Common.{◌≡◌, inl, inr, ℕ, zero, suc, ◌+◌, ◌*◌, ◌/◌, ◌%◌, ◌<◌, ◌≤◌, ◌&&◌, Bool, true, List, [], ◌∷◌, ◌++◌, length, refl, arith}
use Rattle.std.specs.Prelude.{slice_index}
use Rattle.std.specs.List.{AllByRecursion, list_all}
use Rattle.std.proofs.lemmas.Bool.{and_parts, cases_lt}
use Rattle.std.proofs.lemmas.Bool.Decides.{nat_tests}
use Rattle.hex.specs.Hex.{IsBytes, encode_lower, encode_with, lower_digits}
use Rattle.hex.proofs.HexLemmas.{length-encode_with}
use Rattle.dbus_auth_lines.specs.Lines.{hex_word}
use Rattle.dbus_auth_lines.specs.Cut.{IsPlain}
use Rattle.dbus_auth_lines.specs.LineForms.{IsNoSpace, IsWord}
use Rattle.dbus_auth_lines.specs.WrittenLines.{is_printed, is_plain}

-- ---- bytes by a test

pub all_by : (test : ℕ → Bool) (P : ℕ → Type 0) → ((b : ℕ) → test b ≡ true → P b) → (bs : List ℕ) → list_all test bs ≡ true → AllByRecursion P bs
all_by test P each [] h = tt
all_by test P each (b ∷ bs) h = let p = and_parts (test b) (list_all test bs) h in (each b p.0, all_by test P each bs p.1)

plain_byte : (b : ℕ) → is_plain b ≡ true → IsPlain b
plain_byte b h = record {
  not_nul = grind (arith, nat_tests);
  ascii = grind (arith, nat_tests);
  not_lf = λ e. grind (arith, nat_tests);
  not_cr = λ e. grind (arith, nat_tests);
}

no_space_byte : (b : ℕ) → is_printed b ≡ true → IsNoSpace b
no_space_byte b h e = grind (arith, nat_tests)

printed_is_plain : (b : ℕ) → is_printed b ≡ true → is_plain b ≡ true
printed_is_plain b h = grind (arith, nat_tests)

pub plain_text : (text : List ℕ) → list_all is_plain text ≡ true → AllByRecursion IsPlain text
plain_text = all_by is_plain IsPlain plain_byte

pub plain_word : (word : List ℕ) → list_all is_printed word ≡ true → AllByRecursion IsPlain word
plain_word = all_by is_printed IsPlain (λ b h. plain_byte b (printed_is_plain b h))

pub word_by_test : (b : ℕ) (bs : List ℕ) → list_all is_printed (b ∷ bs) ≡ true → IsWord (b ∷ bs)
word_by_test b bs h = record { some = λ e. (let x : b ∷ bs ≡ [] = e in cc); no_space = all_by is_printed IsNoSpace no_space_byte (b ∷ bs) h }

pub plain-append : (xs ys : List ℕ) → AllByRecursion IsPlain xs → AllByRecursion IsPlain ys → AllByRecursion IsPlain (xs ++ ys)
plain-append [] ys hx hy = hy
plain-append (x ∷ xs) ys hx hy = (hx.0, plain-append xs ys hx.1 hy)

-- ---- hexadecimal digits are printed

-- each of the first n bytes of a table is printed
abbrev table_printed : List ℕ → ℕ → Bool
table_printed t zero = true
table_printed t (suc n) = is_printed (slice_index t n) && table_printed t n

table_printed_at : (t : List ℕ) (n d : ℕ) → table_printed t n ≡ true → d < n → is_printed (slice_index t d) ≡ true
table_printed_at t zero d h lt = absurd (omega arith)
table_printed_at t (suc n) d h lt =
    let p = and_parts (is_printed (slice_index t n)) (table_printed t n) h in
    elim (cases_lt d n) [
      | inl below ↦ table_printed_at t n d p.1 below
      | inr top ↦ let e : d ≡ n = omega arith in rw e p.0
    ]

pub hex_printed : (bytes : List ℕ) → IsBytes bytes → list_all is_printed (encode_lower bytes) ≡ true
unfolding encode_with
hex_printed [] h = refl
hex_printed (b ∷ bs) h = rw (table_printed_at lower_digits 16 (b / 16) refl (omega (arith, h 0)), table_printed_at lower_digits 16 (b % 16) refl (omega arith)) (hex_printed bs (λ i. h (suc i)))

hex_some : (b : ℕ) (bs : List ℕ) → list_all is_printed (encode_lower (b ∷ bs)) ≡ true → IsWord (encode_lower (b ∷ bs))
unfolding encode_with
hex_some b bs h = word_by_test (slice_index lower_digits (b / 16)) (slice_index lower_digits (b % 16) ∷ encode_lower bs) h

pub hex_is_word : (b : ℕ) (bs : List ℕ) → IsBytes (b ∷ bs) → IsWord (encode_lower (b ∷ bs))
hex_is_word b bs h = hex_some b bs (hex_printed (b ∷ bs) h)

pub hex_word_plain : (bytes : List ℕ) → IsBytes bytes → AllByRecursion IsPlain (hex_word bytes)
hex_word_plain [] h = tt
hex_word_plain (b ∷ bs) h = (plain_byte 32 refl, plain_word (encode_lower (b ∷ bs)) (hex_printed (b ∷ bs) h))

pub length-hex_word : (bytes : List ℕ) → length (hex_word bytes) ≤ 2 * length bytes + 1
length-hex_word [] = omega arith
length-hex_word (b ∷ bs) = omega (arith, length-encode_with lower_digits (b ∷ bs))
