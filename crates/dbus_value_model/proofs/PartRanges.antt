-- What is within a message's limit has texts whose lengths fit.
use Rattle.std.proofs.Common.{ℕ, ◌+◌, ◌≤◌, List, [], ◌∷◌, ◌++◌, length, arith}
use Rattle.std.proofs.lemmas.List.{length-append}
use Rattle.dbus_texts.specs.Types.{TypeTree, TextCode, STRING, OBJECT_PATH, SIGNATURE, sig}
use Rattle.dbus_types.specs.Alignments.{length_width, alignment_of}
use Rattle.dbus_value_model.specs.Bytes.{gap_to, num, pad}
use Rattle.dbus_value_model.specs.declared.order.Order.TheVariants.{Little}
use Rattle.dbus_value_model.specs.Forming.{IsNamed, AreNamed, IsRanged, AreRanged}
use Rattle.dbus_value_model.specs.Verdicts.{HoldsNumbers, HoldNumbers}
use Rattle.dbus_value_model.specs.Spelling.{spelling, spellings, contents_start, ended_text}
use Rattle.dbus_value_model.specs.Values.{ValueTree, ValueTrees, NoValues, MoreValues, NumberValue, TextValue, VariantValue, ArrayValue, StructValue, EntryValue, type_of}

suffix : (a b : List ℕ) → length b ≤ length (a ++ b)
suffix a b = omega (arith, length-append a b)

before : (a b : List ℕ) → length a ≤ length (a ++ b)
before a b = omega (arith, length-append a b)

-- ---- a part is no longer than the whole

text_within : (k : TextCode) (o : ℕ) (t : List ℕ) → length t ≤ length (spelling Little o (TextValue k t))
unfolding spelling
text_within k o t =
    let w = length_width k in
    omega (arith, before t (0 ∷ []), suffix (num Little w (length t)) (t ++ 0 ∷ []), suffix (pad w o) (num Little w (length t) ++ (t ++ 0 ∷ [])))

variant_within : (o : ℕ) (x : ValueTree) → length (spelling Little (o + length (ended_text Little 1 (sig (type_of x)))) x) ≤ length (spelling Little o (VariantValue x))
unfolding spelling
variant_within o x = suffix (ended_text Little 1 (sig (type_of x))) (spelling Little (o + length (ended_text Little 1 (sig (type_of x)))) x)

array_within : (o : ℕ) (t : TypeTree) (xs : ValueTrees) → length (spellings Little (contents_start t o) xs) ≤ length (spelling Little o (ArrayValue t xs))
unfolding spelling
array_within o t xs =
    let c = spellings Little (contents_start t o) xs in
    let padding = pad (alignment_of t) (o + gap_to 4 o + 4) in
    omega (arith, suffix padding c, suffix (num Little 4 (length c)) (padding ++ c), suffix (pad 4 o) (num Little 4 (length c) ++ (padding ++ c)))

struct_within : (o : ℕ) (xs : ValueTrees) → length (spellings Little (o + gap_to 8 o) xs) ≤ length (spelling Little o (StructValue xs))
unfolding spelling
struct_within o xs = suffix (pad 8 o) (spellings Little (o + gap_to 8 o) xs)

key_within : (o : ℕ) (k v : ValueTree) → length (spelling Little (o + gap_to 8 o) k) ≤ length (spelling Little o (EntryValue k v))
unfolding spelling
key_within o k v =
    let p = o + gap_to 8 o in
    let key = spelling Little p k in
    let rest = spelling Little (p + length key) v in
    omega (arith, before key rest, suffix (pad 8 o) (key ++ rest))

held_within : (o : ℕ) (k v : ValueTree) → length (spelling Little (o + gap_to 8 o + length (spelling Little (o + gap_to 8 o) k)) v) ≤ length (spelling Little o (EntryValue k v))
unfolding spelling
held_within o k v =
    let p = o + gap_to 8 o in
    let key = spelling Little p k in
    let rest = spelling Little (p + length key) v in
    omega (arith, suffix key rest, suffix (pad 8 o) (key ++ rest))

first_within : (o : ℕ) (x : ValueTree) (xs : ValueTrees) → length (spelling Little o x) ≤ length (spellings Little o (MoreValues x xs))
unfolding spellings
first_within o x xs = before (spelling Little o x) (spellings Little (o + length (spelling Little o x)) xs)

rest_within : (o : ℕ) (x : ValueTree) (xs : ValueTrees) → length (spellings Little (o + length (spelling Little o x)) xs) ≤ length (spellings Little o (MoreValues x xs))
unfolding spellings
rest_within o x xs = suffix (spelling Little o x) (spellings Little (o + length (spelling Little o x)) xs)

-- ---- ranges

mutual
  pub ranged_of : (o : ℕ) (v : ValueTree) → HoldsNumbers v → IsNamed v → length (spelling Little o v) ≤ 134_217_728 → IsRanged v
  ranged_of o (NumberValue k n) h name l = h
  ranged_of o (TextValue STRING t) h name l = omega (arith, text_within STRING o t)
  ranged_of o (TextValue OBJECT_PATH t) h name l = omega (arith, text_within OBJECT_PATH o t)
  ranged_of o (TextValue SIGNATURE t) h name l = omega (arith, name.1)
  ranged_of o (VariantValue x) h name l = ranged_of (o + length (ended_text Little 1 (sig (type_of x)))) x h name (omega (arith, variant_within o x))
  ranged_of o (ArrayValue t xs) h name l = all_ranged_of (contents_start t o) xs h name (omega (arith, array_within o t xs))
  ranged_of o (StructValue xs) h name l = all_ranged_of (o + gap_to 8 o) xs h name (omega (arith, struct_within o xs))
  ranged_of o (EntryValue k v) h name l = (
    ranged_of (o + gap_to 8 o) k h.0 name.0 (omega (arith, key_within o k v)),
    ranged_of (o + gap_to 8 o + length (spelling Little (o + gap_to 8 o) k)) v h.1 name.1 (omega (arith, held_within o k v)),
  )

  pub all_ranged_of : (o : ℕ) (vs : ValueTrees) → HoldNumbers vs → AreNamed vs → length (spellings Little o vs) ≤ 134_217_728 → AreRanged vs
  all_ranged_of o NoValues h name l = tt
  all_ranged_of o (MoreValues x xs) h name l = (
    ranged_of o x h.0 name.0 (omega (arith, first_within o x xs)),
    all_ranged_of (o + length (spelling Little o x)) xs h.1 name.1 (omega (arith, rest_within o x xs)),
  )
