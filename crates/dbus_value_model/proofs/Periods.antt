-- A spelling, and whether its arrays keep their limit, depend on the offset modulo 8 alone.
use Rattle.std.proofs.Common.{◌≡◌, ℕ, ◌+◌, ◌%◌, ◌≤◌, List, ◌++◌, length, replicate, refl, sym, ap, subst, ◌∙◌, arith, ◌-◌, ◌<◌}
use Rattle.std.proofs.Math.Nat.{mod-lt}
use Rattle.dbus_texts.specs.Types.{sig, TypeTree, NumberType, TextType, VariantType, ArrayType, StructType, EntryType, NumberCode, BYTE, BOOLEAN, INT16, UINT16, INT32, UINT32, INT64, UINT64, DOUBLE, UNIX_FD, TextCode, STRING, OBJECT_PATH, SIGNATURE}
use Rattle.dbus_types.specs.Alignments.{width, length_width, alignment_of}
use Rattle.dbus_value_model.specs.declared.limits.Bounds.{Bounds}
use Rattle.dbus_value_model.specs.declared.order.Order.{Order}
use Rattle.dbus_value_model.specs.Values.{ValueTree, ValueTrees, NumberValue, TextValue, VariantValue, ArrayValue, StructValue, EntryValue, NoValues, MoreValues, type_of}
use Rattle.dbus_value_model.specs.Bytes.{gap_to, num}
use Rattle.dbus_value_model.specs.Spelling.{ended_text, contents_start, spelling, spellings, IsWithinLimits, AreWithinLimits, Spelled}

-- ---- paddings

-- the padding to a multiple of a
abbrev pub HasPeriod : ℕ → Type 0
HasPeriod a = (o p : ℕ) → o % 8 ≡ p % 8 → gap_to a o ≡ gap_to a p

pub gap-of_1 : HasPeriod 1
unfolding gap_to
gap-of_1 o p e = omega arith

pub gap-of_2 : HasPeriod 2
unfolding gap_to
gap-of_2 o p e = omega arith

pub gap-of_4 : HasPeriod 4
unfolding gap_to
gap-of_4 o p e = omega arith

pub gap-of_8 : HasPeriod 8
unfolding gap_to
gap-of_8 o p e = omega arith

pub gap-of_number : (k : NumberCode) → HasPeriod (width k)
gap-of_number BYTE = gap-of_1
gap-of_number BOOLEAN = gap-of_4
gap-of_number INT16 = gap-of_2
gap-of_number UINT16 = gap-of_2
gap-of_number INT32 = gap-of_4
gap-of_number UINT32 = gap-of_4
gap-of_number INT64 = gap-of_8
gap-of_number UINT64 = gap-of_8
gap-of_number DOUBLE = gap-of_8
gap-of_number UNIX_FD = gap-of_4

pub gap-of_text : (k : TextCode) → HasPeriod (length_width k)
gap-of_text STRING = gap-of_4
gap-of_text OBJECT_PATH = gap-of_4
gap-of_text SIGNATURE = gap-of_1

pub gap-of_type : (t : TypeTree) → HasPeriod (alignment_of t)
gap-of_type (NumberType k) = gap-of_number k
gap-of_type (TextType k) = gap-of_text k
gap-of_type VariantType = gap-of_1
gap-of_type (ArrayType t) = gap-of_4
gap-of_type (StructType ts) = gap-of_8
gap-of_type (EntryType k v) = gap-of_8

-- ---- where parts begin

rest-more : (o p m n : ℕ) → o % 8 ≡ p % 8 → m ≡ n → (o + m) % 8 ≡ (p + n) % 8
rest-more o p m n e d = omega arith

rest-boundary : (o p : ℕ) → o % 8 ≡ p % 8 → (o + gap_to 8 o) % 8 ≡ (p + gap_to 8 p) % 8
rest-boundary o p e = rest-more o p (gap_to 8 o) (gap_to 8 p) e (gap-of_8 o p e)

-- after the length of an array's contents
rest-length : (o p : ℕ) → o % 8 ≡ p % 8 → (o + gap_to 4 o + 4) % 8 ≡ (p + gap_to 4 p + 4) % 8
rest-length o p e = rest-more (o + gap_to 4 o) (p + gap_to 4 p) 4 4 (rest-more o p (gap_to 4 o) (gap_to 4 p) e (gap-of_4 o p e)) (omega arith)

pub rest-contents : (t : TypeTree) (o p : ℕ) → o % 8 ≡ p % 8 → contents_start t o % 8 ≡ contents_start t p % 8
rest-contents t o p e =
    let head = rest-length o p e in
    rest-more (o + gap_to 4 o + 4) (p + gap_to 4 p + 4) (gap_to (alignment_of t) (o + gap_to 4 o + 4)) (gap_to (alignment_of t) (p + gap_to 4 p + 4)) head
    (gap-of_type t (o + gap_to 4 o + 4) (p + gap_to 4 p + 4) head)

-- ---- values

-- zeros before a text
padded : (s : List ℕ) (m n : ℕ) → m ≡ n → replicate m 0 ++ s ≡ replicate n 0 ++ s
padded s m n e = ap (λ (g : ℕ). replicate g 0 ++ s) e

-- two texts one after the other
both : (a b c d : List ℕ) → a ≡ b → c ≡ d → a ++ c ≡ b ++ d
both a b c d e f = ap (λ s. s ++ c) e ∙ ap (λ s. b ++ s) f

mutual
  unfolding spelling spellings

  pub value-period : (order : Order) (v : ValueTree) (o p : ℕ) → o % 8 ≡ p % 8 →
      (spelling order o v ≡ spelling order p v) × ((array : ℕ) → IsWithinLimits array order o v → IsWithinLimits array order p v)
  value-period order (NumberValue k n) o p e = (padded (num order (width k) n) (gap_to (width k) o) (gap_to (width k) p) (gap-of_number k o p e), λ array w. tt)
  value-period order (TextValue k t) o p e = (padded (ended_text order (length_width k) t) (gap_to (length_width k) o) (gap_to (length_width k) p) (gap-of_text k o p e), λ array w. tt)
  value-period order (VariantValue x) o p e =
      let head = ended_text order 1 (sig (type_of x)) in
      let inner = value-period order x (o + length head) (p + length head) (rest-more o p (length head) (length head) e refl) in
      (ap (λ s. head ++ s) inner.0, λ array w. inner.1 array w)
  value-period order (ArrayValue t xs) o p e =
      let inner = values-period order xs (contents_start t o) (contents_start t p) (rest-contents t o p e) in
      let c = spellings order (contents_start t o) xs in
      let d = spellings order (contents_start t p) xs in
      let g = gap_to (alignment_of t) (o + gap_to 4 o + 4) in
      let h = gap_to (alignment_of t) (p + gap_to 4 p + 4) in
      let gaps : g ≡ h = gap-of_type t (o + gap_to 4 o + 4) (p + gap_to 4 p + 4) (rest-length o p e) in
      let tail : num order 4 (length c) ++ (replicate g 0 ++ c) ≡ num order 4 (length d) ++ (replicate h 0 ++ d) =
      ap (λ (n : ℕ). num order 4 (length c) ++ (replicate n 0 ++ c)) gaps ∙ ap (λ s. num order 4 (length s) ++ (replicate h 0 ++ s)) inner.0 in (
        padded (num order 4 (length c) ++ (replicate g 0 ++ c)) (gap_to 4 o) (gap_to 4 p) (gap-of_4 o p e) ∙ ap (λ s. replicate (gap_to 4 p) 0 ++ s) tail,
        λ array w. (subst (λ s. length s ≤ array) inner.0 w.0, inner.1 array w.1),
      )
  value-period order (StructValue xs) o p e =
      let inner = values-period order xs (o + gap_to 8 o) (p + gap_to 8 p) (rest-boundary o p e) in
      let c = spellings order (o + gap_to 8 o) xs in
      (padded c (gap_to 8 o) (gap_to 8 p) (gap-of_8 o p e) ∙ ap (λ s. replicate (gap_to 8 p) 0 ++ s) inner.0, λ array w. inner.1 array w)
  value-period order (EntryValue k v) o p e =
      let a = o + gap_to 8 o in
      let b = p + gap_to 8 p in
      let start : a % 8 ≡ b % 8 = rest-boundary o p e in
      let key = value-period order k a b start in
      let m = length (spelling order a k) in
      let n = length (spelling order b k) in
      let held = value-period order v (a + m) (b + n) (rest-more a b m n start (ap length key.0)) in
      let parts = both (spelling order a k) (spelling order b k) (spelling order (a + m) v) (spelling order (b + n) v) key.0 held.0 in (
        padded (spelling order a k ++ spelling order (a + m) v) (gap_to 8 o) (gap_to 8 p) (gap-of_8 o p e) ∙ ap (λ s. replicate (gap_to 8 p) 0 ++ s) parts,
        λ array w. (key.1 array w.0, held.1 array w.1),
      )

  pub values-period : (order : Order) (vs : ValueTrees) (o p : ℕ) → o % 8 ≡ p % 8 →
      (spellings order o vs ≡ spellings order p vs) × ((array : ℕ) → AreWithinLimits array order o vs → AreWithinLimits array order p vs)
  values-period order NoValues o p e = (refl, λ array w. tt)
  values-period order (MoreValues x xs) o p e =
      let first = value-period order x o p e in
      let m = length (spelling order o x) in
      let n = length (spelling order p x) in
      let rest = values-period order xs (o + m) (p + n) (rest-more o p m n e (ap length first.0)) in
      (both (spelling order o x) (spelling order p x) (spellings order (o + m) xs) (spellings order (p + n) xs) first.0 rest.0, λ array w. (first.1 array w.0, rest.1 array w.1))

-- what is spelled at an offset up to an end is spelled at one that is as far from a multiple of 8,
-- and up to a later end
pub spelled-period : {bounds : Bounds} {order : Order} {depth_left : ℕ} {t : TypeTree} {s r : List ℕ} {v : ValueTree} (o p e f n : ℕ) → o % 8 ≡ p % 8 → p + n ≤ f
    → Spelled bounds order depth_left e t o s v (o + n) r → Spelled bounds order depth_left f t p s v (p + n) r
spelled-period {bounds} {order} {depth_left} {t} {s} {r} {v} o p e f n same le d =
    let period = value-period order v o p same in
    record {
      has_type = d.has_type;
      formed = d.formed;
      within = period.1 bounds.array d.within;
      indexes = d.indexes;
      bytes = d.bytes ∙ ap (λ b. b ++ r) period.0;
      place = omega (arith, d.place, ap length period.0);
      bound = le;
    }

-- How many zeros reach a boundary.

-- fewer than the boundary
pub gap_below : (a o : ℕ) → 0 < a → gap_to a o < a
unfolding gap_to
gap_below a o some = mod-lt (a - o % a) some

-- none to a boundary of 1
pub no_gap : (o : ℕ) → gap_to 1 o ≡ 0
unfolding gap_to
no_gap o = omega arith
