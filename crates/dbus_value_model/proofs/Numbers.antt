-- Bytes and the numbers that they spell.
use Rattle.std.proofs.Common.{◌≡◌, ℕ, zero, suc, ◌+◌, ◌*◌, ◌/◌, ◌%◌, ◌^◌, ◌<◌, List, [], ◌∷◌, ◌++◌, length, reverse, refl, sym, ap, subst, ◌∙◌, arith, get_or, ◌≤◌, take, drop, replicate}
use Rattle.std.proofs.lemmas.List.{reverse-append, reverse-reverse, length-reverse, drop_more}
use Rattle.std.proofs.Math.Nat.{pow-succ', div-div-eq-div-mul}
use Rattle.std.specs.Int.{w16, w32, w64, byte_at, bytes_low_first, to_le_bytes, to_be_bytes}
use Rattle.dbus_texts.specs.Types.{BYTE}
use Rattle.dbus_value_model.specs.ByteNumbers.{IsBytes}
use Rattle.dbus_value_model.specs.Bytes.{low_first, num, gap_to}
use Rattle.dbus_value_model.specs.declared.order.Order.{Order}
use Rattle.dbus_value_model.specs.declared.order.Order.TheVariants.{Little, Big}
use Rattle.dbus_value_model.specs.Reading.{place_sum, number_of}
use Rattle.dbus_value_model.specs.Laws.{LeastPadding, NumberIsPlaceSum}
use Rattle.dbus_value_model.specs.Verdicts.{HoldNumbers}
use Rattle.dbus_value_model.specs.ValueViews.{byte_values}
use Rattle.dbus_value_model.specs.Spelling.{spelling}
use Rattle.dbus_value_model.specs.Values.{NumberValue}
use Rattle.dbus_value_model.proofs.Periods.{no_gap}

pub IsBytes-append : (s t : List ℕ) → IsBytes s → IsBytes t → IsBytes (s ++ t)
IsBytes-append [] t hs ht = ht
IsBytes-append (b ∷ s) t hs ht = (hs.0, IsBytes-append s t hs.1 ht)

pub IsBytes-parts : (s t : List ℕ) → IsBytes (s ++ t) → IsBytes s × IsBytes t
IsBytes-parts [] t h = (tt, h)
IsBytes-parts (b ∷ s) t h = let p = IsBytes-parts s t h.1 in ((h.0, p.0), p.1)

pub IsBytes-front : (s given r : List ℕ) → s ≡ given ++ r → IsBytes s → IsBytes given
IsBytes-front s given r e h = (IsBytes-parts given r (subst IsBytes e h)).0

pub IsBytes-rest : (s given r : List ℕ) → s ≡ given ++ r → IsBytes s → IsBytes r
IsBytes-rest s given r e h = (IsBytes-parts given r (subst IsBytes e h)).1

pub IsBytes-reverse : (s : List ℕ) → IsBytes s → IsBytes (reverse s)
IsBytes-reverse [] h = tt
IsBytes-reverse (b ∷ s) h = subst IsBytes (sym (reverse-append (b ∷ []) s)) (IsBytes-append (reverse s) (b ∷ []) (IsBytes-reverse s h.1) (h.0, tt))

length-low_first : (w n : ℕ) → length (low_first w n) ≡ w
unfolding low_first
length-low_first zero n = refl
length-low_first (suc w) n = ap suc (length-low_first w (n / 256))

pub length-num : (order : Order) (w n : ℕ) → length (num order w n) ≡ w
unfolding num
length-num Little w n = length-low_first w n
length-num Big w n = length-reverse (low_first w n) ∙ length-low_first w n

place_sum-low_first : (w n : ℕ) → n < 256 ^ w → place_sum (low_first w n) ≡ n
unfolding low_first
place_sum-low_first zero n h = omega arith
place_sum-low_first (suc w) n h =
    let e : 256 ^ suc w ≡ 256 * 256 ^ w = pow-succ' 256 w in
    let low : n / 256 < 256 ^ w = omega arith in
    let ih = place_sum-low_first w (n / 256) low in
    omega arith

low_first-place_sum : (bs : List ℕ) → IsBytes bs → low_first (length bs) (place_sum bs) ≡ bs
unfolding low_first
low_first-place_sum [] h = refl
low_first-place_sum (b ∷ bs) h =
    let low : b < 256 = h.0 in
    let head : (b + 256 * place_sum bs) % 256 ≡ b = omega arith in
    let tail : (b + 256 * place_sum bs) / 256 ≡ place_sum bs = omega arith in
    rw (head, tail, low_first-place_sum bs h.1) refl

place_sum-below : (bs : List ℕ) → IsBytes bs → place_sum bs < 256 ^ length bs
place_sum-below [] h = omega arith
place_sum-below (b ∷ bs) h =
    let low : b < 256 = h.0 in
    let ih = place_sum-below bs h.1 in
    let e : 256 ^ suc (length bs) ≡ 256 * 256 ^ length bs = pow-succ' 256 (length bs) in
    omega arith

pub number_of-num : (order : Order) (w n : ℕ) → n < 256 ^ w → number_of order (num order w n) ≡ n
unfolding num number_of
number_of-num Little w n h = place_sum-low_first w n h
number_of-num Big w n h = ap place_sum (reverse-reverse (low_first w n)) ∙ place_sum-low_first w n h

pub num-number_of : (order : Order) (bs : List ℕ) (w : ℕ) → length bs ≡ w → IsBytes bs → num order w (number_of order bs) ≡ bs
unfolding num number_of
num-number_of Little bs w e h = rw (← e) (low_first-place_sum bs h)
num-number_of Big bs w e h =
    let len : length (reverse bs) ≡ w = length-reverse bs ∙ e in
    rw (← len, low_first-place_sum (reverse bs) (IsBytes-reverse bs h)) (reverse-reverse bs)

pub number_of-below : (order : Order) (bs : List ℕ) (w : ℕ) → length bs ≡ w → IsBytes bs → number_of order bs < 256 ^ w
unfolding number_of
number_of-below Little bs w e h = rw (← e) (place_sum-below bs h)
number_of-below Big bs w e h =
    let len : length (reverse bs) ≡ w = length-reverse bs ∙ e in
    rw (← len) (place_sum-below (reverse bs) (IsBytes-reverse bs h))

-- ---- the gap to a boundary is the least that reaches one

pub least_padding : LeastPadding
unfolding gap_to
least_padding o = ((omega arith, λ k h. omega arith), (omega arith, λ k h. omega arith), (omega arith, λ k h. omega arith), (omega arith, λ k h. omega arith))

pub number_is_place_sum : NumberIsPlaceSum
number_is_place_sum order w n h = (length-num order w n, number_of-num order w n h)

-- The bytes of a number, as std has them.

byte_is : (i n : ℕ) → byte_at i n ≡ n / 256 ^ i % 256
byte_is zero n = omega arith
byte_is (suc i) n = refl

lower : (i n : ℕ) → n / 256 ^ i / 256 ≡ n / 256 ^ suc i
lower i n =
    let e = pow-succ' 256 i in
    let same : 256 ^ i * 256 ≡ 256 ^ suc i = omega arith in
    div-div-eq-div-mul n (256 ^ i) 256 ∙ ap (λ (k : ℕ). n / k) same

low_first_from : (i w n : ℕ) → low_first w (n / 256 ^ i) ≡ bytes_low_first i w n
unfolding low_first
low_first_from i zero n = refl
low_first_from i (suc w) n =
    let tail : low_first w (n / 256 ^ i / 256) ≡ bytes_low_first (suc i) w n = ap (low_first w) (lower i n) ∙ low_first_from (suc i) w n in
    rw (← byte_is i n, tail) refl

low_first_is : (w n : ℕ) → low_first w n ≡ bytes_low_first 0 w n
low_first_is w n =
    let e : n ≡ n / 256 ^ 0 = omega arith in
    ap (low_first w) e ∙ low_first_from 0 w n

pub num_16_little : (n : ℕ) → to_le_bytes w16 n ≡ num Little 2 n
unfolding num
num_16_little n = sym (low_first_is 2 n)

pub num_16_big : (n : ℕ) → to_be_bytes w16 n ≡ num Big 2 n
unfolding num
num_16_big n = sym (ap reverse (low_first_is 2 n))

pub num_32_little : (n : ℕ) → to_le_bytes w32 n ≡ num Little 4 n
unfolding num
num_32_little n = sym (low_first_is 4 n)

pub num_32_big : (n : ℕ) → to_be_bytes w32 n ≡ num Big 4 n
unfolding num
num_32_big n = sym (ap reverse (low_first_is 4 n))

pub num_64_little : (n : ℕ) → to_le_bytes w64 n ≡ num Little 8 n
unfolding num
num_64_little n = sym (low_first_is 8 n)

pub num_64_big : (n : ℕ) → to_be_bytes w64 n ≡ num Big 8 n
unfolding num
num_64_big n = sym (ap reverse (low_first_is 8 n))

pub ruleset numbers = (num_16_little, num_16_big, num_32_little, num_32_big, num_64_little, num_64_big)

-- The numbers of values, one value after another.

pub bytes_hold : (bs : List ℕ) → ((i : ℕ) → i < length bs → get_or bs i 0 < 256) → HoldNumbers (byte_values bs)
bytes_hold [] h = tt
bytes_hold (b ∷ bs) h = (h 0 (omega arith), bytes_hold bs (λ i l. h (suc i) (omega arith)))

-- The bytes of a slice from a place on, one by one.

-- n bytes, from i places after `at` on
abbrev listed : ℕ → ℕ → ℕ → List ℕ → List ℕ
listed zero i at bytes = []
listed (suc n) i at bytes = get_or bytes (at + i) 0 ∷ listed n (suc i) at bytes

listed_from : (n i at : ℕ) (bytes : List ℕ) → at + i + n ≤ length bytes → take n (drop (at + i) bytes) ≡ listed n i at bytes
listed_from zero i at bytes h = refl
listed_from (suc n) i at bytes h =
    let next : at + i + 1 ≡ at + suc i = omega arith in
    rw (drop_more bytes (at + i) 0 (omega arith), next, listed_from n (suc i) at bytes (omega arith)) refl

pub bytes_at : (n at : ℕ) (bytes : List ℕ) → at + n ≤ length bytes → take n (drop at bytes) ≡ listed n 0 at bytes
bytes_at n at bytes h =
    let here : at ≡ at + 0 = omega arith in
    ap (λ (p : ℕ). take n (drop p bytes)) here ∙ listed_from n 0 at bytes (omega arith)

-- A number of one byte, and a BYTE, are spelled by it in either order.

pub num_1 : (order : Order) (n : ℕ) → n < 256 → num order 1 n ≡ n ∷ []
unfolding num low_first
num_1 Little n h = let e : n % 256 ≡ n = omega arith in ap (λ (m : ℕ). m ∷ []) e
num_1 Big n h = let e : n % 256 ≡ n = omega arith in ap (λ (m : ℕ). m ∷ []) e

pub byte_spelled : (order : Order) (o n : ℕ) → n < 256 → spelling order o (NumberValue BYTE n) ≡ n ∷ []
unfolding spelling
byte_spelled order o n h = ap (λ (g : ℕ). replicate g 0 ++ num order 1 n) (no_gap o) ∙ num_1 order n h
