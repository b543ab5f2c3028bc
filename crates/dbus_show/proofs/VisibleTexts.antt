-- A text whose hidden characters are seen is text, and which characters it has.
use Rattle.std.proofs.Common.{◌≡◌, ℕ, suc, ◌<◌, List, [], ◌∷◌, ◌++◌, Bool, true, false, cond, refl, sym, ap, subst, ◌∙◌, arith, append-nil}
use Rattle.std.proofs.Math.Utf8.{scalar, scalars}
use Rattle.std.specs.Char.{encode_utf8}
use Rattle.std.specs.Char.Escape.{escape_unicode}
use Rattle.std.specs.List.{AllByRecursion, flat_map}
use Rattle.std.specs.Str.{IsAscii, IsUtf8, NonePass, chars, encode_utf8_all}
use Rattle.std.proofs.lemmas.Bool.{and_parts}
use Rattle.std.proofs.lemmas.Bool.Decides.{nat_tests}
use Rattle.std.proofs.lemmas.Str.{IsUtf8-from_ascii, chars-IsAscii, chars-encodes, encodes-IsAscii, encodes-append, scalars-chars}
use Rattle.dbus_show.specs.Escapes.{is_escaped, is_hidden, visible}
use Rattle.dbus_show.specs.declared.escapes.Escapes.TheVariants.{Hidden}
use Rattle.dbus_show.proofs.EscapedText.{plain_itself, unicode_ascii}

pub both_scalars : (a b : List ℕ) → scalars a ≡ true → scalars b ≡ true → scalars (a ++ b) ≡ true
both_scalars [] b p q = q
both_scalars (c ∷ a) b p q = let h = and_parts (scalar c) (scalars a) p in rw (h.0, both_scalars a b h.1 q) refl

pub are_scalars : (cs : List ℕ) → AllByRecursion (λ c. scalar c ≡ true) cs → scalars cs ≡ true
are_scalars [] h = refl
are_scalars (c ∷ cs) h = rw (h.0, are_scalars cs h.1) refl

-- those that stand for a character
abbrev pub shown : ℕ → List ℕ
shown c = cond (is_hidden c) (escape_unicode c) (c ∷ [])

abbrev written : ℕ → List ℕ
written c = cond (is_hidden c) (escape_unicode c) (encode_utf8 c)

shown_is : (b : Bool) (c : ℕ) → encode_utf8_all (cond b (escape_unicode c) (c ∷ [])) ≡ cond b (escape_unicode c) (encode_utf8 c)
shown_is true c = encodes-IsAscii (escape_unicode c) (unicode_ascii c)
shown_is false c = append-nil (encode_utf8 c)

shown_all : (cs : List ℕ) → encode_utf8_all (flat_map shown cs) ≡ flat_map written cs
shown_all [] = refl
shown_all (c ∷ cs) = encodes-append (shown c) (flat_map shown cs) ∙ (λ i. shown_is (is_hidden c) c i ++ shown_all cs i)

ascii_scalar : (c : ℕ) → c < 128 → scalar c ≡ true
ascii_scalar c low = grind (arith, nat_tests)

pub all_ascii : (P : ℕ → Type 0) → ((c : ℕ) → c < 128 → P c) → (text : List ℕ) → IsAscii text → AllByRecursion P text
all_ascii P low [] ascii = tt
all_ascii P low (c ∷ cs) ascii = (low c (ascii 0), all_ascii P low cs (λ i. ascii (suc i)))

shown_scalars : (b : Bool) (c : ℕ) → scalar c ≡ true → scalars (cond b (escape_unicode c) (c ∷ [])) ≡ true
shown_scalars true c is = are_scalars (escape_unicode c) (all_ascii (λ d. scalar d ≡ true) ascii_scalar (escape_unicode c) (unicode_ascii c))
shown_scalars false c is = rw is refl

all_scalars : (cs : List ℕ) → scalars cs ≡ true → scalars (flat_map shown cs) ≡ true
all_scalars [] h = refl
all_scalars (c ∷ cs) h =
    let p = and_parts (scalar c) (scalars cs) h in
    both_scalars (shown c) (flat_map shown cs) (shown_scalars (is_hidden c) c p.0) (all_scalars cs p.1)

module _ (text : List ℕ) (utf8 : IsUtf8 text) where
  pub visible_chars : chars (visible text) ≡ flat_map shown (chars text)
  visible_chars = ap chars (sym (shown_all (chars text))) ∙ chars-encodes (flat_map shown (chars text)) (all_scalars (chars text) (scalars-chars text utf8))

  pub visible_utf8 : IsUtf8 (visible text)
  visible_utf8 = (flat_map shown (chars text), (all_scalars (chars text) (scalars-chars text utf8), shown_all (chars text)))

-- ---- texts without hidden characters

ascii_seen : (c : ℕ) → c < 128 → is_hidden c ≡ false
ascii_seen c low = grind (arith, nat_tests)

none_hidden : (text : List ℕ) → IsAscii text → NonePass (is_escaped Hidden) text
none_hidden [] ascii = tt
none_hidden (c ∷ cs) ascii = (ascii_seen c (ascii 0), none_hidden cs (λ i. ascii (suc i)))

-- a text of ASCII is as it is
pub ascii_visible : (text : List ℕ) → IsAscii text → visible text ≡ text
ascii_visible text ascii = plain_itself Hidden text (IsUtf8-from_ascii text ascii) (subst (NonePass (is_escaped Hidden)) (sym (chars-IsAscii text ascii)) (none_hidden text ascii))
