-- Texts as they are cut, character by character.
use Rattle.std.proofs.Common.{◌≡◌, ℕ, zero, suc, ◌+◌, ◌-◌, ◌<◌, ◌≤◌, nat_lt, nat_le, List, [], ◌∷◌, ◌++◌, length, Bool, true, false, inl, inr, if◌then◌else◌, codes, refl, sym, ap, ◌∙◌, arith, append-nil}
use Rattle.std.specs.Char.{encode_utf8, IsScalar}
use Rattle.std.specs.Str.{IsUtf8, IsAscii, chars, encode_utf8_all}
use Rattle.std.proofs.lemmas.Bool.{cases_lt}
use Rattle.std.proofs.lemmas.Bool.Decides.{nat_tests}
use Rattle.std.proofs.lemmas.List.Sums.{sum_by-append, sum_by-cons}
use Rattle.std.proofs.lemmas.Str.{IsUtf8-append, IsUtf8-encode, chars-append, chars-nil, chars-IsAscii, chars_past_char, encodes-chars}
use Rattle.dbus_list.specs.Cuts.{cells, cut, front, width}

pub cells_some : (c : ℕ) → 1 ≤ cells c
cells_some c = grind (arith, nat_tests)

pub width_cons : (c : ℕ) (cs : List ℕ) → width (c ∷ cs) ≡ cells c + width cs
width_cons c cs = sum_by-cons cells c cs

pub width_both : (xs ys : List ℕ) → width (xs ++ ys) ≡ width xs + width ys
width_both xs ys = sum_by-append cells xs ys

all_ascii : (text : List ℕ) → IsAscii text → width text ≡ length text
all_ascii [] ascii = refl
all_ascii (c ∷ cs) ascii =
    let low : c < 128 = ascii 0 in
    let one : cells c ≡ 1 = grind (arith, nat_tests) in
    let rest = all_ascii cs (λ i. ascii (suc i)) in
    width_cons c cs ∙ omega (arith, one, rest)

-- ---- one character

pub chars_one : (c : ℕ) → IsScalar c → chars (encode_utf8 c) ≡ c ∷ []
chars_one c is = chars_past_char (encode_utf8 c) [] c (IsUtf8-encode c is) (sym (append-nil (encode_utf8 c))) ∙ ap (λ (cs : List ℕ). c ∷ cs) chars-nil

pub chars_push : (text : List ℕ) (c : ℕ) → IsUtf8 text → IsScalar c → chars (text ++ encode_utf8 c) ≡ chars text ++ c ∷ []
chars_push text c utf8 is = chars-append text (encode_utf8 c) utf8 ∙ ap (λ (cs : List ℕ). chars text ++ cs) (chars_one c is)

pub width_push : (text : List ℕ) (c : ℕ) → IsUtf8 text → IsScalar c → width (chars (text ++ encode_utf8 c)) ≡ width (chars text) + cells c
width_push text c utf8 is =
    let one : width (c ∷ []) ≡ cells c + 0 = width_cons c [] in
    ap width (chars_push text c utf8 is) ∙ width_both (chars text) (c ∷ []) ∙ omega (arith, one)

pub utf8_push : (text : List ℕ) (c : ℕ) → IsUtf8 text → IsScalar c → IsUtf8 (text ++ encode_utf8 c)
utf8_push text c utf8 is = IsUtf8-append text (encode_utf8 c) utf8 (IsUtf8-encode c is)

pub width_after : (text more : List ℕ) → IsUtf8 text → width (chars (text ++ more)) ≡ width (chars text) + width (chars more)
width_after text more utf8 = ap width (chars-append text more utf8) ∙ width_both (chars text) (chars more)

-- an ASCII text has as many cells as bytes
pub width_ascii : (text : List ℕ) → IsAscii text → width (chars text) ≡ length text
width_ascii text ascii = ap width (chars-IsAscii text ascii) ∙ all_ascii text ascii

pub width_none : (most : ℕ) → (most ≡ 0 → ⊥) → width (chars []) + (most - 1) + 1 ≡ most
width_none zero some = absurd (some refl)
width_none (suc most) some = let none : width (chars []) ≡ 0 = ap width chars-nil in omega (arith, none)

-- ---- what fits

pub taken : {A : Type 0} (b : Bool) (x y : A) → b ≡ true → (if b then x else y) ≡ x
taken true x y e = refl
taken false x y e = absurd (cc)

pub passed : {A : Type 0} (b : Bool) (x y : A) → b ≡ false → (if b then x else y) ≡ y
passed true x y e = absurd (cc)
passed false x y e = refl

pub front_takes : (most c : ℕ) (cs : List ℕ) → cells c ≤ most → front most (c ∷ cs) ≡ c ∷ front (most - cells c) cs
front_takes most c cs h = taken (nat_le (cells c) most) (c ∷ front (most - cells c) cs) [] (grind (arith, nat_tests))

pub front_ends : (most c : ℕ) (cs : List ℕ) → most < cells c → front most (c ∷ cs) ≡ []
front_ends most c cs h = passed (nat_le (cells c) most) (c ∷ front (most - cells c) cs) [] (grind (arith, nat_tests))

-- it ends before a character that does not fit
pub front_before : (most : ℕ) (cs : List ℕ) (c : ℕ) (more : List ℕ) → width cs ≤ most → most < width cs + cells c → front most (cs ++ c ∷ more) ≡ cs
front_before most [] c more fits wide = front_ends most c more (omega arith)
front_before most (x ∷ cs) c more fits wide =
    let one = width_cons x cs in
    front_takes most x (cs ++ c ∷ more) (omega arith) ∙ ap (λ (ys : List ℕ). x ∷ ys) (front_before (most - cells x) cs c more (omega arith) (omega arith))

-- what follows a text that is too wide does not matter
pub front_past : (most : ℕ) (cs more : List ℕ) → most < width cs → front most (cs ++ more) ≡ front most cs
front_past most [] more wide = absurd (omega arith)
front_past most (x ∷ cs) more wide =
    let one = width_cons x cs in
    elim (cases_lt most (cells x)) [
      | inl over ↦ front_ends most x (cs ++ more) over ∙ sym (front_ends most x cs over)
      | inr fits ↦ front_takes most x (cs ++ more) fits ∙ ap (λ (ys : List ℕ). x ∷ ys) (front_past (most - cells x) cs more (omega arith)) ∙ sym (front_takes most x cs fits)
    ]

-- ---- the cut

pub cut_wide : (most : ℕ) (text : List ℕ) → suc most < width (chars text) → cut (suc most) text ≡ encode_utf8_all (front most (chars text)) ++ codes "~"
cut_wide most text wide = taken (nat_lt (suc most) (width (chars text))) (encode_utf8_all (front most (chars text)) ++ codes "~") text (grind (arith, nat_tests))

-- a text that is no wider than the line is all of it
pub cut_all : (most : ℕ) (text : List ℕ) → width (chars text) ≤ most → cut most text ≡ text
cut_all zero text fits = refl
cut_all (suc most) text fits = passed (nat_lt (suc most) (width (chars text))) (encode_utf8_all (front most (chars text)) ++ codes "~") text (grind (arith, nat_tests))

-- a text that begins so, and then with a character that leaves no cell for what follows
pub cut_after : (most : ℕ) (shown : List ℕ) (c : ℕ) (text more : List ℕ) → IsUtf8 shown → chars text ≡ chars shown ++ c ∷ more
    → width (chars shown) < most → most ≤ width (chars shown) + cells c → most < width (chars text) → cut most text ≡ shown ++ codes "~"
cut_after zero shown c text more utf8 is fits last wide = absurd (omega arith)
cut_after (suc most) shown c text more utf8 is fits last wide =
    let ends = ap (front most) is ∙ front_before most (chars shown) c more (omega arith) (omega arith) in
    cut_wide most text wide ∙ ap (λ (cs : List ℕ). encode_utf8_all cs ++ codes "~") ends ∙ ap (λ (t : List ℕ). t ++ codes "~") (encodes-chars shown utf8)

pub width_more : (text more : List ℕ) → IsUtf8 text → width (chars text) ≤ width (chars (text ++ more))
width_more text more utf8 = let all = width_after text more utf8 in omega arith

-- what follows a text that is too wide does not matter
pub cut_more : (most : ℕ) (text more : List ℕ) → IsUtf8 text → 0 < most → most < width (chars text) → cut most (text ++ more) ≡ cut most text
cut_more zero text more utf8 some wide = absurd (omega arith)
cut_more (suc most) text more utf8 some wide =
    let longer = width_more text more utf8 in
    let fronts = ap (front most) (chars-append text more utf8) ∙ front_past most (chars text) (chars more) (omega arith) in
    cut_wide most (text ++ more) (omega arith) ∙ ap (λ (cs : List ℕ). encode_utf8_all cs ++ codes "~") fronts ∙ sym (cut_wide most text wide)
