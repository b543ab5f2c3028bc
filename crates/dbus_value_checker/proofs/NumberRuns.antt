-- Numbers of an array, any of which may stand there: so many at once.
use Rattle.std.proofs.Common.{◌≡◌, ℕ, zero, suc, ◌+◌, ◌-◌, ◌*◌, ◌/◌, ◌%◌, ◌<◌, ◌≤◌, List, [], ◌++◌, length, take, drop, Option, None, refl, sym, ap, ◌∙◌, arith, inl, inr}
use Rattle.std.proofs.lemmas.Bool.{cases_lt}
use Rattle.std.proofs.Math.Nat.{suc-mul, zero-mul}
use Rattle.std.proofs.lemmas.List.{append-nil, length-drop}
use Rattle.dbus_texts.specs.Types.{NumberCode, BYTE, BOOLEAN, INT16, UINT16, INT32, UINT32, INT64, UINT64, DOUBLE, UNIX_FD, TypeTree, NumberType}
use Rattle.dbus_types.specs.Alignments.{width}
use Rattle.dbus_value_model.specs.declared.limits.Bounds.{Bounds}
use Rattle.dbus_value_model.specs.declared.order.Order.{Order}
use Rattle.dbus_value_model.specs.Bytes.{gap_to}
use Rattle.dbus_value_model.specs.ValueItems.{number_row}
use Rattle.dbus_value_model.specs.Reading.{Outcome, Partial, after, zeros, number_of}
use Rattle.dbus_types.specs.SignatureCodes.{first_code, free_width_of}
use Rattle.dbus_value_model.proofs.FreeNumbers.{free_is}
use Rattle.dbus_value_laws.proofs.ValueItemLaws.{width_positive}
use Rattle.dbus_value_validator.proofs.NumberArrays.{stays_aligned}
use Rattle.dbus_value_checker.specs.Suspended.{On, Elements, work, ANumber, AHead, own}
use Rattle.dbus_value_checker.proofs.Suspension.{split-at, elements_more, value_begins, padding_zeros, number_waits}
use Rattle.dbus_value_checker.proofs.FrontSteps.{number_taken}
use Rattle.dbus_value_checker.proofs.TextSteps.{empty_list}

-- ---- widths

-- a number has one, two, four or eight bytes
by_width : (P : ℕ → Type 0) → P 1 → P 2 → P 4 → P 8 → (k : NumberCode) → P (width k)
by_width P one two four eight BYTE = one
by_width P one two four eight BOOLEAN = four
by_width P one two four eight INT16 = two
by_width P one two four eight UINT16 = two
by_width P one two four eight INT32 = four
by_width P one two four eight UINT32 = four
by_width P one two four eight INT64 = eight
by_width P one two four eight UINT64 = eight
by_width P one two four eight DOUBLE = eight
by_width P one two four eight UNIX_FD = four

-- so many numbers have at least so many bytes
pub at_least : (k : NumberCode) (m : ℕ) → m ≤ m * width k
at_least k m = by_width (λ (w : ℕ). m ≤ m * w) (omega arith) (omega arith) (omega arith) (omega arith) k

-- the bytes of whole numbers among so many
pub whole_numbers : (k : NumberCode) (there : ℕ) → (m : ℕ) × (there - there % width k ≡ m * width k)
whole_numbers k there = by_width (λ (w : ℕ). (m : ℕ) × (there - there % w ≡ m * w)) (there, omega arith) (there / 2, omega arith) (there / 4, omega arith) (there / 8, omega arith) k

pub some_numbers : (k : NumberCode) (there : ℕ) → width k ≤ there → 0 < there - there % width k
some_numbers k there = by_width (λ (w : ℕ). w ≤ there → 0 < there - there % w) (λ e. omega arith) (λ e. omega arith) (λ e. omega arith) (λ e. omega arith) k

-- a type of which every number may stand
pub plain_type : (t : TypeTree) (c w : ℕ) → first_code t ≡ c → ((u : TypeTree) → first_code u ≡ c → w ≡ free_width_of u) → 0 < w → (k : NumberCode) × ((t ≡ NumberType k) × (width k ≡ w) × ((index_limit : Option ℕ) (p n : ℕ) → number_row index_limit k p n ≡ None))
plain_type t c w e d some = let f = free_is t w some (d t e) in (f.code, (f.is, f.wide, f.free))

-- ---- elements

module _ (bounds : Bounds) (order : Order) (k : NumberCode) (plain : (index_limit : Option ℕ) (p n : ℕ) → number_row index_limit k p n ≡ None) (depth_left end : ℕ) (next : On) where
  abbrev array : ℕ → On
  array turns = work bounds order (Elements turns depth_left end (NumberType k)) next

  abbrev element : ℕ → On
  element turns = own bounds order end (AHead (ANumber k)) (array turns)

  -- an element begins with its number
  begins : (turns o : ℕ) (s : List ℕ) → gap_to (width k) o ≡ 0 → o + width k ≤ end → array (suc turns) o s ≡ element turns o s
  begins turns o s aligned le =
      let some = width_positive k in
      elements_more bounds order turns depth_left end (NumberType k) next o s (omega arith)
      ∙ value_begins bounds order depth_left end (NumberType k) o s (array turns) (omega arith)
      ∙ padding_zeros (width k) end o s (λ x. element turns) (omega arith)
      ∙ ap (λ (n : ℕ). after (zeros n o s) (λ x. element turns)) aligned

  -- a number is there
  passed : (turns o : ℕ) (bs c : List ℕ) → width k ≤ length bs → o + width k ≤ end → gap_to (width k) o ≡ 0 → array (suc turns) o (bs ++ c) ≡ array turns (o + width k) (drop (width k) bs ++ c)
  passed turns o bs c long le aligned =
      let n = number_of order (take (width k) bs) in
      ap (array (suc turns) o) (split-at (width k) bs c)
      ∙ begins turns o (take (width k) bs ++ (drop (width k) bs ++ c)) aligned le
      ∙ ap (λ (r : Outcome ℕ). after r (λ _. array turns)) (number_taken order (width k) end (number_row bounds.fds k) o bs n long le refl (plain bounds.fds (o + width k) n) (drop (width k) bs ++ c))

  -- fewer bytes are there than m numbers have
  pub numbers_lack : (m turns o : ℕ) (bs : List ℕ) → length bs < m * width k → o + m * width k ≤ end → gap_to (width k) o ≡ 0 → array (m + turns) o bs ≡ Partial
  numbers_lack zero turns o bs short le aligned = let z = zero-mul (width k) in absurd (omega arith)
  numbers_lack (suc m) turns o bs short le aligned =
      let w = width k in
      let more = suc-mul m w in
      let n : suc m + turns ≡ suc (m + turns) = omega arith in
      ap (λ (t : ℕ). array t o bs) n ∙ elim (cases_lt (length bs) w) [
        | inl few ↦ begins (m + turns) o bs aligned (omega arith) ∙ ap (λ (r : Outcome ℕ). after r (λ _. array (m + turns))) (number_waits order (width k) end (number_row bounds.fds k) o bs few (omega arith))
        | inr long ↦
            ap (array (suc (m + turns)) o) (sym (append-nil bs)) ∙ passed (m + turns) o bs [] long (omega arith) aligned ∙ ap (array (m + turns) (o + w)) (append-nil (drop w bs))
            ∙ numbers_lack m turns (o + w) (drop w bs) (omega (arith, length-drop w bs)) (omega arith) (stays_aligned (width k) o aligned)
      ]

  -- the bytes of m numbers are m elements
  pub numbers_run : (m turns o : ℕ) (bs c : List ℕ) → length bs ≡ m * width k → o + m * width k ≤ end → gap_to (width k) o ≡ 0 → array (m + turns) o (bs ++ c) ≡ array turns (o + m * width k) c
  numbers_run zero turns o bs c len le aligned =
      let z = zero-mul (width k) in
      let e : o ≡ o + 0 * width k = omega arith in
      let t : 0 + turns ≡ turns = omega arith in
      ap (λ (s : List ℕ). array (0 + turns) o (s ++ c)) (empty_list bs (omega arith)) ∙ ap (λ (n : ℕ). array n o c) t ∙ ap (λ (p : ℕ). array turns p c) e
  numbers_run (suc m) turns o bs c len le aligned =
      let w = width k in
      let more = suc-mul m w in
      let others : length (drop w bs) ≡ m * w = omega (arith, length-drop w bs) in
      let n : suc m + turns ≡ suc (m + turns) = omega arith in
      let p : o + w + m * w ≡ o + suc m * w = omega arith in
      ap (λ (t : ℕ). array t o (bs ++ c)) n
      ∙ passed (m + turns) o bs c (omega arith) (omega arith) aligned
      ∙ numbers_run m turns (o + w) (drop w bs) c others (omega arith) (stays_aligned (width k) o aligned)
      ∙ ap (λ (q : ℕ). array turns q c) p
