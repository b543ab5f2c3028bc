-- A length is written over once what it counts is there.
use Rattle.std.proofs.Common.{◌≡◌, ℕ, ◌+◌, ◌-◌, ◌≤◌, List, ◌++◌, length, take, drop, refl, sym, ap, ◌∙◌, arith, append_assoc}
use Rattle.std.proofs.lemmas.List.{length-append, take-append-drop, take-take, length-take, length-take-le, length-drop, drop-append-le, take_at, drop_at}
use Rattle.dbus_texts.specs.Types.{TypeTree}
use Rattle.dbus_types.specs.Alignments.{alignment_of}
use Rattle.dbus_value_model.specs.declared.order.Order.{Order}
use Rattle.dbus_value_model.specs.Values.{ValueTrees, ArrayValue}
use Rattle.dbus_value_model.specs.Bytes.{gap_to, pad, num}
use Rattle.dbus_value_model.specs.Spelling.{contents_start, spelling, spellings}
use Rattle.dbus_value_model.specs.SizeLimits.{with_padding, with_value, with_values}
use Rattle.dbus_value_model.proofs.Numbers.{length-num}
use Rattle.dbus_marshal.proofs.Written.{length_padding, length_values}

-- what is written over, read up to a place further on
pub taken_over : (o w : List ℕ) (at end : ℕ) → length w ≡ 4 → at + 4 ≤ end → end ≤ length o →
    take end (take at o ++ (w ++ drop (at + 4) o)) ≡ take at (take end o) ++ (w ++ drop (at + 4) (take end o))
taken_over o w at end four before within =
    let x = take end o in
    let z = drop end o in
    let long : length x ≡ end = length-take-le end o within in
    let front : take at x ≡ take at o = take-take at end o (omega arith) in
    let suffix : drop (at + 4) o ≡ drop (at + 4) x ++ z = ap (drop (at + 4)) (sym (take-append-drop end o)) ∙ drop-append-le (at + 4) x z (omega arith) in
    let all : take at o ++ (w ++ drop (at + 4) o) ≡ (take at x ++ (w ++ drop (at + 4) x)) ++ z = rw (suffix, ← front) (simp append_assoc) in
    let fits : length (take at x ++ (w ++ drop (at + 4) x)) ≡ end = simp (length-append, length-take, length-drop) (omega arith) in
    ap (take end) all ∙ take_at (take at x ++ (w ++ drop (at + 4) x)) z end fits

-- b is what was there with the first padding, z has a number in the length's place, y the padding
-- to the element's alignment, x the contents
pub array_patched : (order : Order) (t : TypeTree) (xs : ValueTrees) (front b z y x : List ℕ) (at n m : ℕ) →
    b ≡ with_padding 4 front → at ≡ length b → z ≡ b ++ num order 4 m → y ≡ with_padding (alignment_of t) z → x ≡ with_values order xs y → n + length y ≡ length x →
    take at x ++ (num order 4 n ++ drop (at + 4) x) ≡ with_value order (ArrayValue t xs) front
unfolding with_padding with_value with_values spelling
array_patched order t xs front b z y x at n m is_b is_at is_z is_y is_x is_n =
    let o = length front in
    let p = o + gap_to 4 o + 4 in
    let zeros = num order 4 m in
    let gap = pad (alignment_of t) p in
    let c = spellings order (contents_start t o) xs in
    let four : length zeros ≡ 4 = length-num order 4 m in
    let len_b : length b ≡ o + gap_to 4 o = ap length is_b ∙ length_padding 4 front in
    let len_z : length z ≡ p = ap length is_z ∙ length-append b zeros ∙ omega arith in
    let y_is : y ≡ (b ++ zeros) ++ gap = is_y ∙ ap (λ (k : ℕ). z ++ pad (alignment_of t) k) len_z ∙ ap (λ (l : List ℕ). l ++ gap) is_z in
    let len_y : length y ≡ contents_start t o = ap length is_y ∙ length_padding (alignment_of t) z ∙ ap (λ (k : ℕ). k + gap_to (alignment_of t) k) len_z in
    let x_is : x ≡ ((b ++ zeros) ++ gap) ++ c = is_x ∙ ap (λ (k : ℕ). y ++ spellings order k xs) len_y ∙ ap (λ (l : List ℕ). l ++ c) y_is in
    let len_x : length x ≡ length y + length c = ap length is_x ∙ length_values order xs y ∙ ap (λ (k : ℕ). length y + length (spellings order k xs)) len_y in
    let n_is : n ≡ length c = omega arith in
    let flat : x ≡ b ++ (zeros ++ (gap ++ c)) = x_is ∙ simp append_assoc in
    let flat2 : x ≡ (b ++ zeros) ++ (gap ++ c) = x_is ∙ append_assoc (b ++ zeros) gap c in
    let before : take at x ≡ b = ap (λ (l : List ℕ). take at l) flat ∙ take_at b (zeros ++ (gap ++ c)) at (sym is_at) in
    let suffix : drop (at + 4) x ≡ gap ++ c = ap (λ (l : List ℕ). drop (at + 4) l) flat2 ∙ drop_at (b ++ zeros) (gap ++ c) (at + 4) (omega (arith, length-append b zeros)) in
    ap (λ (l : List ℕ). l ++ (num order 4 n ++ drop (at + 4) x)) before
    ∙ ap (λ (l : List ℕ). b ++ (num order 4 n ++ l)) suffix
    ∙ ap (λ (k : ℕ). b ++ (num order 4 k ++ (gap ++ c))) n_is
    ∙ ap (λ (l : List ℕ). l ++ (num order 4 (length c) ++ (gap ++ c))) is_b
    ∙ append_assoc front (pad 4 o) (num order 4 (length c) ++ (gap ++ c))

pub length_array : (order : Order) (t : TypeTree) (xs : ValueTrees) (m : ℕ) (front : List ℕ) →
    length (with_value order (ArrayValue t xs) front) ≡ length (with_values order xs (with_padding (alignment_of t) (with_padding 4 front ++ num order 4 m)))
length_array order t xs m front =
    let b = with_padding 4 front in
    let z = b ++ num order 4 m in
    let y = with_padding (alignment_of t) z in
    let x = with_values order xs y in
    let grown = length_values order xs y in
    let n = length x - length y in
    let sum : n + length y ≡ length x = omega arith in
    let e = array_patched order t xs front b z y x (length b) n m refl refl refl refl refl sum in
    let l1 = length-append b (num order 4 m) in
    let l2 = length-num order 4 m in
    let l3 = length_padding (alignment_of t) z in
    let l6 = length-num order 4 n in
    let l7 = length-append (take (length b) x) (num order 4 n ++ drop (length b + 4) x) in
    let l8 = length-append (num order 4 n) (drop (length b + 4) x) in
    let l9 = length-take (length b) x in
    let l10 = length-drop (length b + 4) x in
    sym (ap length e) ∙ omega arith

-- the parts of an array that are written before its items
pub array_grows : (order : Order) (t : TypeTree) (xs : ValueTrees) (m : ℕ) (front : List ℕ) →
    (length (with_padding 4 front) + 4 ≤ length (with_value order (ArrayValue t xs) front))
    × (length (with_padding (alignment_of t) (with_padding 4 front ++ num order 4 m)) ≤ length (with_value order (ArrayValue t xs) front))
array_grows order t xs m front =
    let b = with_padding 4 front in
    let z = b ++ num order 4 m in
    let y = with_padding (alignment_of t) z in
    let l = length_array order t xs m front in
    let l1 = length-append b (num order 4 m) in
    let l2 = length-num order 4 m in
    let l3 = length_padding (alignment_of t) z in
    let l4 = length_values order xs y in
    (omega arith, omega arith)

pub after_count : (order : Order) (front o : List ℕ) (at n : ℕ) → at ≤ length o → take at o ≡ with_padding 4 front ++ num order 4 n → 4 ≤ at
after_count order front o at n h is = omega (arith, length-take-le at o h, ap length is, length-append (with_padding 4 front) (num order 4 n), length-num order 4 n)

-- o1, o2 and o3 are the bytes once the length's place, the padding and the items are there
module _ (order : Order) (t : TypeTree) (xs : ValueTrees) (front o1 o2 o3 : List ℕ) (counted start end : ℕ) (h1 : counted ≤ length o1) (h2 : start ≤ length o2) (h3 : end ≤ length o3)
    (is_z : take counted o1 ≡ with_padding 4 front ++ num order 4 0) (is_y : take start o2 ≡ with_padding (alignment_of t) (take counted o1)) (is_x : take end o3 ≡ with_values order xs (take start o2)) where
  pub array_places : (4 ≤ counted) × (counted ≤ start) × (start ≤ end) × (counted - 4 ≡ length (with_padding 4 front))
  array_places =
      let z = ap length is_z ∙ length-append (with_padding 4 front) (num order 4 0) in
      let y = ap length is_y ∙ length_padding (alignment_of t) (take counted o1) in
      let x = ap length is_x ∙ length_values order xs (take start o2) in
      let l1 = length-take-le counted o1 h1 in
      let l2 = length-take-le start o2 h2 in
      let l3 = length-take-le end o3 h3 in
      let w = length-num order 4 0 in
      (omega arith, omega arith, omega arith, omega arith)

  pub array_written : take end (take (counted - 4) o3 ++ (num order 4 (end - start) ++ drop (counted - 4 + 4) o3)) ≡ with_value order (ArrayValue t xs) front
  array_written =
      let places = array_places in
      let l2 = length-take-le start o2 h2 in
      let l3 = length-take-le end o3 h3 in
      let before : counted - 4 + 4 ≤ end = omega (arith, places.0, places.1, places.2) in
      let counts : end - start + length (take start o2) ≡ length (take end o3) = omega (arith, places.2) in
      taken_over o3 (num order 4 (end - start)) (counted - 4) end (length-num order 4 (end - start)) before h3
      ∙ array_patched order t xs front (with_padding 4 front) (take counted o1) (take start o2) (take end o3) (counted - 4) (end - start) 0 refl places.3 is_z is_y is_x counts
