-- What is written of a message, put together.
use Rattle.std.proofs.Common.{◌≡◌, ℕ, ◌+◌, ◌-◌, ◌<◌, ◌≤◌, List, ◌∷◌, ◌++◌, length, take, drop, map, refl, sym, ap, ◌∙◌, arith, append_assoc}
use Rattle.std.proofs.lemmas.List.{length-append, length-take-le, take_at, drop_at}
use Rattle.dbus_value_model.specs.declared.order.Order.{Order}
use Rattle.dbus_value_model.specs.SizeLimits.{with_padding, with_values}
use Rattle.dbus_value_model.specs.Values.{ValueTrees, value_trees}
use Rattle.dbus_value_model.specs.Bytes.{num, pad, gap_to}
use Rattle.dbus_value_model.specs.Spelling.{spelling, spellings}
use Rattle.dbus_value_model.proofs.Numbers.{length-num, num_1}
use Rattle.dbus_marshal.proofs.Patching.{taken_over}
use Rattle.dbus_marshal.proofs.Written.{length_padding, length_values}
use Rattle.dbus_message_model.proofs.BothOrders.{message_length}
use Rattle.dbus_encode.specs.FixedBytes.{fixed_bytes}
use Rattle.dbus_message_model.specs.Messages.{FieldTree, MessageTree, field_struct, field_array, fields_end, body_start, body_bytes, message_bytes, order_byte}

-- ---- the bytes

patched_first : (x a b c : ℕ) (z s y f : List ℕ) (n : List ℕ) → length z ≡ 4 → length s ≡ 4 → length y ≡ 4 →
    let o : List ℕ = (x ∷ (a ∷ (b ∷ (c ∷ (z ++ (s ++ y)))))) ++ f in
    take 12 o ++ (n ++ drop 16 o) ≡ x ∷ (a ∷ (b ∷ (c ∷ (z ++ (s ++ (n ++ f))))))
patched_first x a b c z s y f n zl sl yl =
    let all : (z ++ (s ++ y)) ++ f ≡ (z ++ s) ++ (y ++ f) = simp append_assoc in
    let front : take 8 ((z ++ (s ++ y)) ++ f) ≡ z ++ s = ap (take 8) all ∙ take_at (z ++ s) (y ++ f) 8 (omega (arith, length-append z s)) in
    let zsy : (z ++ (s ++ y)) ++ f ≡ ((z ++ s) ++ y) ++ f = simp append_assoc in
    let suffix : drop 12 ((z ++ (s ++ y)) ++ f) ≡ f = ap (drop 12) zsy ∙ drop_at ((z ++ s) ++ y) f 12 (omega (arith, length-append z s, length-append (z ++ s) y)) in
    ap (λ (t : List ℕ). x ∷ (a ∷ (b ∷ (c ∷ t)))) (ap (λ (t : List ℕ). t ++ (n ++ drop 12 ((z ++ (s ++ y)) ++ f))) front ∙ ap (λ (t : List ℕ). (z ++ s) ++ (n ++ t)) suffix ∙ append_assoc z s (n ++ f))

patched_second : (x a b c : ℕ) (z r n : List ℕ) → length z ≡ 4 →
    let o : List ℕ = x ∷ (a ∷ (b ∷ (c ∷ (z ++ r)))) in
    take 4 o ++ (n ++ drop 8 o) ≡ x ∷ (a ∷ (b ∷ (c ∷ (n ++ r))))
patched_second x a b c z r n zl = ap (λ (t : List ℕ). x ∷ (a ∷ (b ∷ (c ∷ (n ++ t))))) (drop_at z r 4 zl)

module _ (order : Order) (m : MessageTree) where
  abbrev fields_values : ValueTrees
  fields_values = value_trees (map field_struct m.fields)

  abbrev field_contents : List ℕ
  field_contents = spellings order 16 fields_values

  contents_array : spelling order 12 (field_array m.fields) ≡ num order 4 (length field_contents) ++ field_contents
  unfolding spelling gap_to
  contents_array = refl

  pub fixed_length : length (fixed_bytes order m.kind m.flags m.serial) ≡ 16
  unfolding fixed_bytes
  fixed_length = simp (length-append, length-num)

  abbrev pub with_fields : List ℕ
  with_fields = with_values order fields_values (fixed_bytes order m.kind m.flags m.serial)

  pub fields_are_written : with_fields ≡ fixed_bytes order m.kind m.flags m.serial ++ field_contents
  unfolding with_values
  fields_are_written = ap (λ (n : ℕ). fixed_bytes order m.kind m.flags m.serial ++ spellings order n fields_values) fixed_length

  pub with_fields_length : length with_fields ≡ 16 + length field_contents
  with_fields_length = ap length fields_are_written ∙ length-append (fixed_bytes order m.kind m.flags m.serial) field_contents ∙ ap (λ (n : ℕ). n + length field_contents) fixed_length

  abbrev pub with_length : List ℕ
  with_length = take 12 with_fields ++ (num order 4 (length with_fields - 16) ++ drop 16 with_fields)

  -- with the fields' length in its place
  length_is_written : with_length ≡ order_byte order ∷ (m.kind ∷ (m.flags ∷ (1 ∷ (num order 4 0 ++ (num order 4 m.serial ++ spelling order 12 (field_array m.fields))))))
  unfolding fixed_bytes
  length_is_written =
      let n : length with_fields - 16 ≡ length field_contents = omega (arith, with_fields_length) in
      ap (λ (k : ℕ). take 12 with_fields ++ (num order 4 k ++ drop 16 with_fields)) n
      ∙ ap (λ (o : List ℕ). take 12 o ++ (num order 4 (length field_contents) ++ drop 16 o)) fields_are_written
      ∙ patched_first (order_byte order) m.kind m.flags 1 (num order 4 0) (num order 4 m.serial) (num order 4 0) field_contents (num order 4 (length field_contents)) (length-num order 4 0) (length-num order 4 m.serial) (length-num order 4 0)
      ∙ ap (λ (t : List ℕ). order_byte order ∷ (m.kind ∷ (m.flags ∷ (1 ∷ (num order 4 0 ++ (num order 4 m.serial ++ t)))))) (sym contents_array)

  pub with_length_length : length with_length ≡ fields_end order m.fields
  with_length_length = ap length length_is_written ∙ simp (length-append, length-num) (omega arith)

  pub start_length : length (with_padding 8 with_length) ≡ body_start order m.fields
  start_length = length_padding 8 with_length ∙ ap (λ (n : ℕ). n + gap_to 8 n) with_length_length

  abbrev pub with_body : List ℕ
  with_body = with_values order m.body (with_padding 8 with_length)

  pub with_body_length : length with_body ≡ body_start order m.fields + length (body_bytes order m)
  with_body_length = length_values order m.body (with_padding 8 with_length) ∙ ap (λ (n : ℕ). n + length (spellings order n m.body)) start_length

  abbrev rest_bytes : List ℕ
  rest_bytes = num order 4 m.serial ++ (spelling order 12 (field_array m.fields) ++ (pad 8 (fields_end order m.fields) ++ body_bytes order m))

  body_is_written : with_body ≡ order_byte order ∷ (m.kind ∷ (m.flags ∷ (1 ∷ (num order 4 0 ++ rest_bytes))))
  unfolding with_values with_padding
  body_is_written =
      ap (λ (n : ℕ). with_padding 8 with_length ++ spellings order n m.body) start_length
      ∙ ap (λ (n : ℕ). (with_length ++ pad 8 n) ++ body_bytes order m) with_length_length
      ∙ ap (λ (t : List ℕ). (t ++ pad 8 (fields_end order m.fields)) ++ body_bytes order m) length_is_written
      ∙ ap (λ (t : List ℕ). order_byte order ∷ (m.kind ∷ (m.flags ∷ (1 ∷ t)))) (simp append_assoc)

  pub all_written : m.kind < 256 → m.flags < 256 → take 4 with_body ++ (num order 4 (length with_body - length (with_padding 8 with_length)) ++ drop 8 with_body) ≡ message_bytes order m
  all_written kind flags =
      let n : length with_body - length (with_padding 8 with_length) ≡ length (body_bytes order m) = omega (arith, with_body_length, start_length) in
      ap (λ (k : ℕ). take 4 with_body ++ (num order 4 k ++ drop 8 with_body)) n
      ∙ ap (λ (o : List ℕ). take 4 o ++ (num order 4 (length (body_bytes order m)) ++ drop 8 o)) body_is_written
      ∙ patched_second (order_byte order) m.kind m.flags 1 (num order 4 0) rest_bytes (num order 4 (length (body_bytes order m))) (length-num order 4 0)
      ∙ rw (num_1 order m.kind kind, num_1 order m.flags flags, num_1 order 1 (omega arith)) refl

  -- ---- what each step leaves

  pub long_fields : 16 ≤ length with_fields
  long_fields = omega (arith, with_fields_length)

  pub fits_fields : length with_fields ≤ length (message_bytes order m)
  fits_fields =
      let array = ap length contents_array ∙ length-append (num order 4 (length field_contents)) field_contents in
      omega (arith, with_fields_length, message_length order m, array, length-num order 4 (length field_contents))

  pub fits_start : length (with_padding 8 with_length) ≤ length (message_bytes order m)
  fits_start = omega (arith, start_length, message_length order m)

  pub fits_body : length with_body ≡ length (message_bytes order m)
  fits_body = with_body_length ∙ sym (message_length order m)

  pub step_fields : (fs : List FieldTree) (x : List ℕ) → fs ≡ m.fields → x ≡ fixed_bytes order m.kind m.flags m.serial → with_values order (value_trees (map field_struct fs)) x ≡ with_fields
  step_fields fs x e d = ap (λ (f : List FieldTree). with_values order (value_trees (map field_struct f)) x) e ∙ ap (with_values order fields_values) d

  -- o2 has the fields, and o3 their length too
  pub step_length : (o2 o3 : List ℕ) (start end : ℕ) → start ≡ 16 → end ≤ length o2 → take end o2 ≡ with_fields → o3 ≡ take 12 o2 ++ (num order 4 (end - start) ++ drop 16 o2) → take end o3 ≡ with_length
  step_length o2 o3 start end s h e is =
      let ends : end ≡ length with_fields = sym (length-take-le end o2 h) ∙ ap length e in
      let counts : end - start ≡ length with_fields - 16 = omega arith in
      ap (take end) is
      ∙ taken_over o2 (num order 4 (end - start)) 12 end (length-num order 4 (end - start)) (omega (arith, long_fields)) h
      ∙ ap (λ (o : List ℕ). take 12 o ++ (num order 4 (end - start) ++ drop 16 o)) e
      ∙ ap (λ (k : ℕ). take 12 with_fields ++ (num order 4 k ++ drop 16 with_fields)) counts

  pub step_body : (vs : ValueTrees) (o3 : List ℕ) → vs ≡ m.body → o3 ≡ with_padding 8 with_length → with_values order vs o3 ≡ with_body
  step_body vs o3 e d = ap (λ (v : ValueTrees). with_values order v o3) e ∙ ap (with_values order m.body) d

  pub step_all : (o3 o4 o5 : List ℕ) (a b : ℕ) → m.kind < 256 → m.flags < 256 → o3 ≡ with_padding 8 with_length → o4 ≡ with_body → a ≡ length o3 → b ≡ length o4 → o5 ≡ take 4 o4 ++ (num order 4 (b - a) ++ drop 8 o4) → o5 ≡ message_bytes order m
  step_all o3 o4 o5 a b kind flags e d la lb h =
      h ∙ ap (λ (k : ℕ). take 4 o4 ++ (num order 4 k ++ drop 8 o4)) (ap (λ (k : ℕ). k - a) (lb ∙ ap length d) ∙ ap (λ (k : ℕ). length with_body - k) (la ∙ ap length e))
      ∙ ap (λ (o : List ℕ). take 4 o ++ (num order 4 (length with_body - length (with_padding 8 with_length)) ++ drop 8 o)) d
      ∙ all_written kind flags
