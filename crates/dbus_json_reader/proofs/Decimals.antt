-- Texts of integers in decimal.
use Rattle.std.proofs.Common.{◌≡◌, ◌≢◌, ℕ, zero, suc, ◌-◌, ◌^◌, ◌<◌, ◌≤◌, ℤ, pos, negsuc, FitsSigned, take, drop, List, [], ◌∷◌, length, get_or, Option, Some, None, IfSome, Result, Ok, Err, decimal, refl, sym, ap, ◌∙◌, arith}
use Rattle.std.specs.Fmt.{digits, signed_decimal}
use Rattle.std.specs.Int.{w64}
use Rattle.std.specs.Result.{result_ok}
use Rattle.std.specs.Str.Parse.{AllDigits, ParsesUnsigned, digits_value}
use Rattle.std.proofs.lemmas.List.{take_rest}
use Rattle.std.proofs.lemmas.Fmt.{decimal_injective, decimal-digits_value, decimal_nonempty, first_decimal, parse-decimal}
use Rattle.json.specs.Json.{number}
use Rattle.std.proofs.lemmas.Str.Parse.{IsNumeralModel, numerals_by_value, parse_plain, tells_digits}

own : IsNumeralModel (AllDigits 10) (digits_value 10)
own = numerals_by_value (AllDigits 10) tells_digits

-- what is parsed, with no sign and no zero before another digit
pub parsed : (E : Type 0) (text : List ℕ) (n : ℕ) → ParsesUnsigned {E = E} 64 10 text (Ok n) → get_or text 0 0 ≢ 43 → (get_or text 0 0 ≡ 48 → length text ≤ 1) → text ≡ decimal n
parsed E text n h plus zeros =
    let whole = parse_plain own {E = E} 64 text (Ok n) h plus in
    sym (ap decimal whole.1 ∙ decimal-digits_value own text whole.0.0 whole.0.1 (λ z. omega (arith, zeros z, whole.0.1)) whole.0.2)

-- no number is refused
pub not_parsed : (E : Type 0) (text : List ℕ) (e : E) (n : ℕ) → ParsesUnsigned {E = E} 64 10 text (Err e) → n < 2 ^ 64 → text ≡ decimal n → ⊥
not_parsed E text e n h small is = let ok = parse-decimal 64 n text (Err e) small small is h in cc

pub zero_text : decimal 0 ≡ 48 ∷ []
unfolding digits
zero_text = refl

-- a number's text is not empty, and begins with a plus or a zero only if it is 0
pub not_empty : (text : List ℕ) (n : ℕ) → n < 2 ^ 64 → text ≡ decimal n → length text ≡ 0 → ⊥
not_empty text n small is none = let some = decimal_nonempty n small in omega (arith, some, ap length is, none)

pub no_plus : (text : List ℕ) (n : ℕ) → n < 2 ^ 64 → text ≡ decimal n → get_or text 0 0 ≡ 43 → ⊥
no_plus text zero small is plus = let first : get_or text 0 0 ≡ 48 = ap (λ (s : List ℕ). get_or s 0 0) (is ∙ zero_text) in omega (arith, first, plus)
no_plus text (suc n) small is plus =
    let first : get_or text 0 0 ≡ get_or (decimal (suc n)) 0 0 = ap (λ (s : List ℕ). get_or s 0 0) is in
    let more = first_decimal (suc n) (omega arith) small in
    omega (arith, first, more, plus)

pub no_zeros : (text : List ℕ) (n : ℕ) → n < 2 ^ 64 → text ≡ decimal n → get_or text 0 0 ≡ 48 → 1 < length text → ⊥
no_zeros text zero small is first long = let one : length text ≡ 1 = ap length (is ∙ zero_text) in omega (arith, one, long)
no_zeros text (suc n) small is zeros long =
    let first : get_or text 0 0 ≡ get_or (decimal (suc n)) 0 0 = ap (λ (s : List ℕ). get_or s 0 0) is in
    let more = first_decimal (suc n) (omega arith) small in
    omega (arith, first, more, zeros)

pub only_zero : (text : List ℕ) → 0 < length text → length text ≤ 1 → get_or text 0 0 ≡ 48 → text ≡ decimal 0
only_zero [] some few first = absurd (omega (arith, some))
only_zero (c ∷ []) some few first = ap (λ (k : ℕ). k ∷ []) first ∙ sym zero_text
only_zero (c ∷ d ∷ cs) some few first = absurd (omega (arith, few))

-- ---- what was parsed

abbrev pub Reads : List ℕ → Option ℕ → Type 0
Reads text None = (n : ℕ) → n < 2 ^ 64 → text ≡ decimal n → ⊥
Reads text (Some n) = text ≡ decimal n

pub reads : (E : Type 0) (text : List ℕ) (r : Result ℕ E) (o : Option ℕ) → ParsesUnsigned {E = E} 64 10 text r → result_ok r ≡ o → get_or text 0 0 ≢ 43 → (get_or text 0 0 ≡ 48 → length text ≤ 1) → Reads text o
reads E text (Ok n) (Some m) h e plus zeros = parsed E text n h plus zeros ∙ ap decimal (cc)
reads E text (Ok n) None h e plus zeros = absurd (cc)
reads E text (Err x) None h e plus zeros = λ n small is. not_parsed E text x n h small is
reads E text (Err x) (Some m) h e plus zeros = absurd (cc)

pub if_some : (text : List ℕ) (o : Option ℕ) → Reads text o → IfSome o (λ n. text ≡ decimal n)
if_some text (Some n) h = h
if_some text None h = tt

pub if_none : (text : List ℕ) (o : Option ℕ) → Reads text o → o ≡ None → (n : ℕ) → n < 2 ^ 64 → text ≡ decimal n → ⊥
if_none text (Some m) h e = absurd (cc)
if_none text None h e = h

-- ---- values

number_texts : (s t : List ℕ) → number s ≡ number t → s ≡ t
number_texts s t e = cc

pub over : (text : List ℕ) (m n most : ℕ) → text ≡ decimal m → m < 2 ^ 64 → n ≤ most → most < 2 ^ 64 → most < m → number text ≡ number (decimal n) → ⊥
over text m n most is small few bound more e =
    let same : m ≡ n = decimal_injective m n small (omega (arith, few, bound)) (sym is ∙ number_texts text (decimal n) e) in
    omega (arith, same, few, more)

-- ---- signs

no_minus : (text : List ℕ) (n : ℕ) → n < 2 ^ 64 → text ≡ decimal n → get_or text 0 0 ≡ 45 → ⊥
no_minus text zero small is minus = let first : get_or text 0 0 ≡ 48 = ap (λ (s : List ℕ). get_or s 0 0) (is ∙ zero_text) in omega (arith, first, minus)
no_minus text (suc n) small is minus =
    let first : get_or text 0 0 ≡ get_or (decimal (suc n)) 0 0 = ap (λ (s : List ℕ). get_or s 0 0) is in
    let more = first_decimal (suc n) (omega arith) small in
    omega (arith, first, more, minus)

-- a number over all signed ones
pub too_large : (text : List ℕ) (m : ℕ) → text ≡ decimal m → m < 2 ^ 64 → 2 ^ 63 ≤ m → (z : ℤ) → FitsSigned w64 z → text ≡ signed_decimal z → ⊥
too_large text m is small large (pos n) fits same = let e : m ≡ n = decimal_injective m n small (omega (arith, fits.sfits)) (sym is ∙ same) in omega (arith, e, large, fits.sfits)
too_large text m is small large (negsuc n) fits same = no_minus text m small is (ap (λ (s : List ℕ). get_or s 0 0) same)

-- a minus before what is no size of a negative number
pub no_size : (text : List ℕ) → get_or text 0 0 ≡ 45 → ((n : ℕ) → n < 2 ^ 63 → take (length text - 1) (drop 1 text) ≡ decimal (suc n) → ⊥) → (z : ℤ) → FitsSigned w64 z → text ≡ signed_decimal z → ⊥
no_size text minus none (pos n) fits same = no_minus text n (omega (arith, fits.sfits)) same minus
no_size text minus none (negsuc n) fits same = none n fits.sfits (take_rest text 1 ∙ ap (λ (s : List ℕ). drop 1 s) same)

-- another size
pub other_size : (text : List ℕ) (m : ℕ) → text ≡ decimal m → m < 2 ^ 64 → ((n : ℕ) → n < 2 ^ 63 → m ≡ suc n → ⊥) → (n : ℕ) → n < 2 ^ 63 → text ≡ decimal (suc n) → ⊥
other_size text m is small other n few same = other n few (decimal_injective m (suc n) small (omega (arith, few)) (sym is ∙ same))
