-- What is written one after the other.
use Rattle.std.proofs.Common.{◌≡◌, ℕ, zero, suc, ◌+◌, ◌-◌, ◌/◌, ◌%◌, ◌≤◌, ◌<◌, List, [], ◌∷◌, ◌++◌, length, replicate, reverse, take, drop, refl, sym, ap, ◌∙◌, arith, append_assoc}
use Rattle.std.proofs.lemmas.List.{length-append, length-drop, length-reverse, length-take, length-take-le, reverse-append, take-append-drop, drop_at, take_at, take_all, append-nil, length-replicate}
use Rattle.std.specs.Int.{w64, to_le_bytes, to_be_bytes}
use Rattle.dbus_texts.specs.Types.{NumberCode, TextCode, STRING, OBJECT_PATH, sig}
use Rattle.dbus_types.specs.Alignments.{width, length_width}
use Rattle.dbus_value_model.specs.declared.order.Order.{Order}
use Rattle.dbus_value_model.specs.declared.order.Order.TheVariants.{Little, Big}
use Rattle.dbus_value_model.specs.Values.{ValueTree, ValueTrees, NumberValue, TextValue, VariantValue, StructValue, EntryValue, NoValues, MoreValues, type_of}
use Rattle.dbus_value_model.specs.Bytes.{gap_to, pad, num, low_first}
use Rattle.dbus_value_model.specs.Spelling.{ended_text, spelling, spellings}
use Rattle.dbus_value_model.specs.SizeLimits.{with_padding, with_value, with_values}
use Rattle.dbus_value_model.proofs.Numbers.{num_64_little, num_64_big, length-num, num_1}
use Rattle.dbus_value_model.proofs.Periods.{no_gap}

-- ---- lengths

pub length_padding : (a : ℕ) (front : List ℕ) → length (with_padding a front) ≡ length front + gap_to a (length front)
unfolding with_padding
length_padding a front = omega (arith, length-append front (pad a (length front)), length-replicate {A = ℕ} (gap_to a (length front)) 0)

pub length_value : (order : Order) (v : ValueTree) (front : List ℕ) → length (with_value order v front) ≡ length front + length (spelling order (length front) v)
unfolding with_value
length_value order v front = length-append front (spelling order (length front) v)

pub length_values : (order : Order) (vs : ValueTrees) (front : List ℕ) → length (with_values order vs front) ≡ length front + length (spellings order (length front) vs)
unfolding with_values
length_values order vs front = length-append front (spellings order (length front) vs)

-- ---- by level

pub value_is : (order : Order) (v : ValueTree) (front : List ℕ) → with_value order v front ≡ front ++ spelling order (length front) v
unfolding with_value
value_is order v front = refl

pub padding_is : (a : ℕ) (front : List ℕ) → with_padding a front ≡ front ++ pad a (length front)
unfolding with_padding
padding_is a front = refl

pub written_number : (order : Order) (k : NumberCode) (n : ℕ) (front : List ℕ) → with_value order (NumberValue k n) front ≡ with_padding (width k) front ++ num order (width k) n
unfolding with_value with_padding spelling
written_number order k n front = sym (append_assoc front (pad (width k) (length front)) (num order (width k) n))

pub length_number : (order : Order) (k : NumberCode) (n : ℕ) (front : List ℕ) → length (with_value order (NumberValue k n) front) ≡ length (with_padding (width k) front) + width k
length_number order k n front = ap length (written_number order k n front) ∙ length-append (with_padding (width k) front) (num order (width k) n) ∙ ap (λ (w : ℕ). length (with_padding (width k) front) + w) (length-num order (width k) n)

low_front : (w m n : ℕ) → w ≤ m → take w (low_first m n) ≡ low_first w n
unfolding low_first
low_front zero m n h = refl
low_front (suc w) zero n h = absurd (omega arith)
low_front (suc w) (suc m) n h = ap (λ (l : List ℕ). n % 256 ∷ l) (low_front w m (n / 256) (omega arith))

-- the bytes of a number that has no more than w of the 8 of an UINT64
pub low_bytes : (w n : ℕ) → w ≤ 8 → take w (to_le_bytes w64 n) ≡ num Little w n
unfolding num
low_bytes w n h = ap (take w) (num_64_little n) ∙ low_front w 8 n h

pub high_bytes : (w n : ℕ) → w ≤ 8 → take (8 - (8 - w)) (drop (8 - w) (to_be_bytes w64 n)) ≡ num Big w n
unfolding num
high_bytes w n h =
    let l = low_first 8 n in
    let parts : reverse l ≡ reverse (drop w l) ++ reverse (take w l) = ap reverse (sym (take-append-drop w l)) ∙ reverse-append (take w l) (drop w l) in
    let end : drop (8 - w) (to_be_bytes w64 n) ≡ reverse (take w l) =
    ap (drop (8 - w)) (num_64_big n ∙ parts) ∙ drop_at (reverse (drop w l)) (reverse (take w l)) (8 - w) (omega (arith, length-reverse (drop w l), length-drop w l, length-num Little 8 n)) in
    let few : length (drop (8 - w) (to_be_bytes w64 n)) ≤ 8 - (8 - w) = omega (arith, ap length end, length-reverse (take w l), length-take w l) in
    take_all (8 - (8 - w)) (drop (8 - w) (to_be_bytes w64 n)) few ∙ end ∙ ap reverse (low_front w 8 n h)

ended : (order : Order) (w : ℕ) (t front : List ℕ) → front ++ ended_text order w t ≡ ((front ++ num order w (length t)) ++ t) ++ 0 ∷ []
ended order w t front = sym (append_assoc (front ++ num order w (length t)) t (0 ∷ []) ∙ append_assoc front (num order w (length t)) (t ++ 0 ∷ []))

pub written_text : (order : Order) (k : TextCode) (t front : List ℕ) → with_value order (TextValue k t) front ≡ ((with_padding (length_width k) front ++ num order (length_width k) (length t)) ++ t) ++ 0 ∷ []
unfolding with_value with_padding spelling
written_text order k t front =
    sym (append_assoc front (pad (length_width k) (length front)) (ended_text order (length_width k) t)) ∙ ended order (length_width k) t (with_padding (length_width k) front)

pub length_text : (order : Order) (k : TextCode) (t front : List ℕ) → length (with_value order (TextValue k t) front) ≡ length (with_padding (length_width k) front) + length_width k + length t + 1
length_text order k t front =
    let p = with_padding (length_width k) front in
    let n = num order (length_width k) (length t) in
    let l1 = length-append ((p ++ n) ++ t) (0 ∷ []) in
    let l2 = length-append (p ++ n) t in
    let l3 = length-append p n in
    ap length (written_text order k t front) ∙ omega (arith, length-num order (length_width k) (length t))

pub written_path : (order : Order) (t front : List ℕ) → with_value order (TextValue OBJECT_PATH t) front ≡ with_value order (TextValue STRING t) front
unfolding with_value spelling
written_path order t front = refl

pub written_variant : (order : Order) (x : ValueTree) (front : List ℕ) →
    with_value order (VariantValue x) front ≡ with_value order x (((front ++ num order 1 (length (sig (type_of x)))) ++ sig (type_of x)) ++ 0 ∷ [])
unfolding with_value spelling
written_variant order x front =
    let t = ended_text order 1 (sig (type_of x)) in
    sym (append_assoc front t (spelling order (length front + length t) x))
    ∙ ap (λ (n : ℕ). (front ++ t) ++ spelling order n x) (sym (length-append front t))
    ∙ ap (λ (l : List ℕ). l ++ spelling order (length l) x) (ended order 1 (sig (type_of x)) front)

pub written_struct : (order : Order) (xs : ValueTrees) (front : List ℕ) → with_value order (StructValue xs) front ≡ with_values order xs (with_padding 8 front)
unfolding with_value with_values with_padding spelling
written_struct order xs front =
    let p = pad 8 (length front) in
    let here : length front + gap_to 8 (length front) ≡ length (front ++ p) = sym (length_padding 8 front) in
    sym (append_assoc front p (spellings order (length front + gap_to 8 (length front)) xs)) ∙ ap (λ (n : ℕ). (front ++ p) ++ spellings order n xs) here

joined : (order : Order) (v : ValueTree) (front s : List ℕ) (o : ℕ) → o ≡ length front → front ++ (spelling order o v ++ s) ≡ with_value order v front ++ s
unfolding with_value
joined order v front s o e = rw e (sym (append_assoc front (spelling order (length front) v) s))

split : (order : Order) (k v : ValueTree) (front : List ℕ) →
    with_value order (EntryValue k v) front
    ≡ with_padding 8 front ++ (spelling order (length front + gap_to 8 (length front)) k ++ spelling order (length front + gap_to 8 (length front) + length (spelling order (length front + gap_to 8 (length front)) k)) v)
unfolding with_value with_padding spelling
split order k v front =
    let p = length front + gap_to 8 (length front) in
    let key = spelling order p k in
    sym (append_assoc front (pad 8 (length front)) (key ++ spelling order (p + length key) v))

pub written_entry : (order : Order) (k v : ValueTree) (front : List ℕ) → with_value order (EntryValue k v) front ≡ with_value order v (with_value order k (with_padding 8 front))
written_entry order k v front =
    let here = length_padding 8 front in
    let p = length front + gap_to 8 (length front) in
    let key = spelling order p k in
    let there : p + length key ≡ length (with_value order k (with_padding 8 front)) = sym (length_value order k (with_padding 8 front) ∙ ap (λ (n : ℕ). n + length (spelling order n k)) here) in
    split order k v front ∙ joined order k (with_padding 8 front) (spelling order (p + length key) v) p (sym here)
    ∙ ap (λ (n : ℕ). with_value order k (with_padding 8 front) ++ spelling order n v) there ∙ sym (value_is order v (with_value order k (with_padding 8 front)))

pub written_none : (order : Order) (front : List ℕ) → with_values order NoValues front ≡ front
unfolding with_values spellings
written_none order front = append-nil front

pub written_more : (order : Order) (x : ValueTree) (xs : ValueTrees) (front : List ℕ) → with_values order (MoreValues x xs) front ≡ with_values order xs (with_value order x front)
unfolding with_values with_value spellings
written_more order x xs front =
    let s = spelling order (length front) x in
    sym (append_assoc front s (spellings order (length front + length s) xs)) ∙ ap (λ (n : ℕ). (front ++ s) ++ spellings order n xs) (sym (length-append front s))

-- bytes that are written to their end are what was written
pub written_whole : (out rest x : List ℕ) (end : ℕ) → end ≤ length out → take end out ≡ x → length x ≡ length out → take (length out) (out ++ rest) ≡ x
written_whole out rest x end within written long =
    let ends : length out ≤ end = omega (arith, ap length written, length-take-le end out within) in
    take_at out rest (length out) refl ∙ sym (take_all end out ends) ∙ written

pub no_padding : (front : List ℕ) → with_padding 1 front ≡ front
unfolding with_padding
no_padding front = ap (λ (n : ℕ). front ++ replicate n 0) (no_gap (length front)) ∙ append-nil front

pub ruleset lengths = (length-append, length-take-le, length-num, length_padding, length_value, length_values)

pub ruleset texts = (lengths, written_text, num_1, no_padding)
