-- Sizes, level by level and one item after the other.
use Rattle.std.proofs.Common.{◌≡◌, ℕ, zero, suc, ◌+◌, ◌-◌, ◌%◌, ◌<◌, ◌≤◌, List, [], ◌∷◌, length, get_or, drop, Vec, Box, false, Option, Some, None, Result, Ok, Err, IfSome, refl, sym, ap, ◌∙◌, arith, ◌++◌}
use Rattle.std.proofs.Math.Decide.{dec_lt}
use Rattle.std.proofs.lemmas.Bool.{le-ltb, lt-ltb}
use Rattle.std.specs.Option.{unwrap_or}
use Rattle.std.specs.Bool.{◌==◌}
use Rattle.std.proofs.lemmas.List.{at_drop_more, length-append, length-replicate}
use Rattle.dbus_texts.specs.Types.{sig, NumberCode, TextCode, BYTE, TypeTree}
use Rattle.dbus_types.specs.Alignments.{width, length_width, alignment_of}
use Rattle.dbus_types.specs.SigTypes.{type_tree}
use Rattle.dbus_types.specs.declared.sig_type.SigType.{SigType}
use Rattle.dbus_value_model.specs.Values.{ValueTree, NumberValue, TextValue, type_of, ValueTrees, VariantValue, ArrayValue, StructValue, EntryValue, NoValues, MoreValues}
use Rattle.dbus_value_model.specs.Bytes.{gap_to, pad, num}
use Rattle.dbus_value_model.specs.Sizes.{Sizing, and_then, item, padding, contents, narrowed, sized, sizes, ◌⊳◌}
use Rattle.dbus_value_model.specs.declared.limits.Limits.{Limits}
use Rattle.dbus_value_model.specs.ValueViews.{value_tree, value_trees_of, byte_values}
use Rattle.dbus_value_model.specs.declared.value.Value.{Value, Bytes, Array, Struct, Entry, Variant}
use Rattle.dbus_value_model.specs.declared.value_fault.ValueFault.{ValueFault}
use Rattle.dbus_value_model.specs.declared.value_fault.ValueFault.TheVariants.{ArrayTooLong, TooLong}
use Rattle.dbus_value_model.specs.declared.value.DictEntry.{DictEntry}
use Rattle.dbus_value_model.proofs.ValueRows.{tree-Bytes, tree-Array, tree-Struct, tree-Entry, tree-Variant}
use Rattle.dbus_value_model.specs.declared.order.Order.{Order}
use Rattle.dbus_value_model.specs.Spelling.{ended_text, contents_start, spelling, spellings}
use Rattle.dbus_value_model.proofs.Numbers.{length-num}
use Rattle.dbus_marshal.proofs.Spells.{trees}

module _ (limits : Limits) where
  -- ---- joined

  pub and_then_assoc : (r : Result ℕ ValueFault) (z y : Sizing) → and_then (and_then r z) y ≡ and_then r (z ⊳ y)
  and_then_assoc (Ok x) z y = refl
  and_then_assoc (Err f) z y = refl

  pub contents_is : (s : Option ℕ → Sizing) (b : Option ℕ) (o : ℕ) → contents limits s b o ≡ s (narrowed limits b o) o
  unfolding contents
  contents_is s b o = refl

  -- no padding is needed before a byte
  pub no_padding : (b : Option ℕ) (o : ℕ) → padding limits b 1 o ≡ Ok o
  unfolding padding gap_to
  no_padding b o =
      let none : (1 - o % 1) % 1 ≡ 0 = omega arith in
      rw none refl

  -- ---- level by level

  abbrev size_of : Option ℕ → ℕ → ValueTree → Result ℕ ValueFault
  size_of b o v = sized limits v b o

  pub sized_number : {A : Type 0} (v : Value A) (k : NumberCode) (n : ℕ) (b : Option ℕ) (o : ℕ) → value_tree v ≡ NumberValue k n → sized limits (value_tree v) b o ≡ and_then (padding limits b (width k) o) (item limits b (width k))
  sized_number v k n b o e = ap (size_of b o) e

  pub sized_words : {A : Type 0} (v : Value A) (k : TextCode) (t : List ℕ) (b : Option ℕ) (o : ℕ) → value_tree v ≡ TextValue k t →
      sized limits (value_tree v) b o ≡ and_then (padding limits b (length_width k) o) (item limits b (length_width k) ⊳ item limits b (length t) ⊳ item limits b 1)
  sized_words v k t b o e = ap (size_of b o) e

  without_padding : (b : Option ℕ) (r : Result ℕ ValueFault) (s : Sizing) → and_then r (padding limits b 1 ⊳ s) ≡ and_then r s
  without_padding b (Ok x) s = ap (λ (r : Result ℕ ValueFault). and_then r s) (no_padding b x)
  without_padding b (Err f) s = refl

  pub sized-Bytes : {A : Type 0} (b : Option ℕ) (o : ℕ) (bs : Vec ℕ A) →
      sized limits (value_tree {A = A} (Bytes bs)) b o ≡ and_then (and_then (padding limits b 4 o) (item limits b 4)) (contents limits (sizes limits (byte_values bs.items)) b)
  sized-Bytes b o bs =
      ap (size_of b o) (tree-Bytes bs) ∙ sym (and_then_assoc (padding limits b 4 o) (item limits b 4) (padding limits b 1 ⊳ contents limits (sizes limits (byte_values bs.items)) b))
      ∙ without_padding b (and_then (padding limits b 4 o) (item limits b 4)) (contents limits (sizes limits (byte_values bs.items)) b)

  pub sized-Array : {A : Type 0} (b : Option ℕ) (o : ℕ) (t : SigType A) (vs : Vec (Value A) A) →
      sized limits (value_tree {A = A} (Array t vs)) b o ≡ and_then (and_then (padding limits b 4 o) (item limits b 4)) (padding limits b (alignment_of (type_tree t)) ⊳ contents limits (sizes limits (value_trees_of vs.items)) b)
  sized-Array b o t vs =
      ap (size_of b o) (tree-Array t vs) ∙ sym (and_then_assoc (padding limits b 4 o) (item limits b 4) (padding limits b (alignment_of (type_tree t)) ⊳ contents limits (sizes limits (value_trees_of vs.items)) b))

  pub sized-Struct : {A : Type 0} (b : Option ℕ) (o : ℕ) (vs : Vec (Value A) A) → sized limits (value_tree {A = A} (Struct vs)) b o ≡ and_then (padding limits b 8 o) (sizes limits (value_trees_of vs.items) b)
  sized-Struct b o vs = ap (size_of b o) (tree-Struct vs)

  pub sized-Entry : {A : Type 0} (b : Option ℕ) (o : ℕ) (e : Box (DictEntry A) A) → sized limits (value_tree {A = A} (Entry e)) b o ≡ and_then (padding limits b 8 o) (sized limits (value_tree e.value.key) b ⊳ sized limits (value_tree e.value.value) b)
  sized-Entry b o e = ap (size_of b o) (tree-Entry e)

  -- a text's items, before its byte more
  pub sized_text : (b : Option ℕ) (o w n : ℕ) → and_then (and_then (padding limits b w o) (item limits b w)) (item limits b n ⊳ item limits b 1) ≡ and_then (padding limits b w o) (item limits b w ⊳ item limits b n ⊳ item limits b 1)
  sized_text b o w n = and_then_assoc (padding limits b w o) (item limits b w) (item limits b n ⊳ item limits b 1)

  text_before : (b : Option ℕ) (n : ℕ) (s : Sizing) (r : Result ℕ ValueFault) → and_then (and_then r (item limits b 1 ⊳ item limits b n ⊳ item limits b 1)) s ≡ and_then r (item limits b 1 ⊳ item limits b n ⊳ item limits b 1 ⊳ s)
  text_before b n s (Err f) = refl
  text_before b n s (Ok x) =
      and_then_assoc (item limits b 1 x) (item limits b n ⊳ item limits b 1) s ∙ inner (item limits b 1 x)
    where
      inner : (r : Result ℕ ValueFault) → and_then r ((item limits b n ⊳ item limits b 1) ⊳ s) ≡ and_then r (item limits b n ⊳ item limits b 1 ⊳ s)
      inner (Err f) = refl
      inner (Ok y) = and_then_assoc (item limits b n y) (item limits b 1) s

  pub sized-Variant : {A : Type 0} (b : Option ℕ) (o : ℕ) (v : Box (Value A) A) →
      sized limits (value_tree {A = A} (Variant v)) b o
      ≡ and_then (and_then (padding limits b 1 o) (item limits b 1 ⊳ item limits b (length (sig (type_of (value_tree v.value)))) ⊳ item limits b 1)) (sized limits (value_tree v.value) b)
  sized-Variant b o v =
      let n = length (sig (type_of (value_tree v.value))) in
      let s = sized limits (value_tree v.value) b in
      ap (size_of b o) (tree-Variant v) ∙ ap (λ (r : Result ℕ ValueFault). and_then r (item limits b 1 ⊳ item limits b n ⊳ item limits b 1 ⊳ s)) (sym (no_padding b o))
      ∙ sym (text_before b n s (padding limits b 1 o))

  -- ---- level by level, past the items before the parts

  pub sized_bytes : {A : Type 0} (b : Option ℕ) (o p : ℕ) (bs : Vec ℕ A) → Ok p ≡ and_then (padding limits b 4 o) (item limits b 4) →
      sizes limits (byte_values bs.items) (narrowed limits b p) p ≡ sized limits (value_tree {A = A} (Bytes bs)) b o
  sized_bytes b o p bs e =
      let rest = contents limits (sizes limits (byte_values bs.items)) b in
      sym (sized-Bytes b o bs ∙ ap (λ (r : Result ℕ ValueFault). and_then r rest) (sym e) ∙ contents_is (sizes limits (byte_values bs.items)) b p)

  pub sized_array : {A : Type 0} (b : Option ℕ) (o p q : ℕ) (t : SigType A) (vs : Vec (Value A) A) → Ok p ≡ and_then (padding limits b 4 o) (item limits b 4) → Ok q ≡ padding limits b (alignment_of (type_tree t)) p →
      sizes limits (value_trees_of vs.items) (narrowed limits b q) q ≡ sized limits (value_tree {A = A} (Array t vs)) b o
  sized_array b o p q t vs e d =
      let a = alignment_of (type_tree t) in
      let rest = contents limits (sizes limits (value_trees_of vs.items)) b in
      sym (sized-Array b o t vs ∙ ap (λ (r : Result ℕ ValueFault). and_then r (padding limits b a ⊳ rest)) (sym e) ∙ ap (λ (r : Result ℕ ValueFault). and_then r rest) (sym d)
      ∙ contents_is (sizes limits (value_trees_of vs.items)) b q)

  pub sized_struct : {A : Type 0} (b : Option ℕ) (o p : ℕ) (vs : Vec (Value A) A) → Ok p ≡ padding limits b 8 o → sizes limits (value_trees_of vs.items) b p ≡ sized limits (value_tree {A = A} (Struct vs)) b o
  sized_struct b o p vs e = sym (sized-Struct b o vs ∙ ap (λ (r : Result ℕ ValueFault). and_then r (sizes limits (value_trees_of vs.items) b)) (sym e))

  pub sized_entry : {A : Type 0} (b : Option ℕ) (o p q : ℕ) (e : Box (DictEntry A) A) → Ok p ≡ padding limits b 8 o → Ok q ≡ sized limits (value_tree e.value.key) b p →
      sized limits (value_tree e.value.value) b q ≡ sized limits (value_tree {A = A} (Entry e)) b o
  sized_entry b o p q e padded key =
      let held = sized limits (value_tree e.value.value) b in
      sym (sized-Entry b o e ∙ ap (λ (r : Result ℕ ValueFault). and_then r (sized limits (value_tree e.value.key) b ⊳ held)) (sym padded) ∙ ap (λ (r : Result ℕ ValueFault). and_then r held) (sym key))

  pub sized_variant : {A : Type 0} (b : Option ℕ) (o : ℕ) (v : Box (Value A) A) (r : Result ℕ ValueFault) → r ≡ and_then (padding limits b 1 o) (item limits b 1 ⊳ item limits b (length (sig (type_of (value_tree v.value)))) ⊳ item limits b 1) →
      and_then r (sized limits (value_tree v.value) b) ≡ sized limits (value_tree {A = A} (Variant v)) b o
  sized_variant b o v r e = ap (λ (r : Result ℕ ValueFault). and_then r (sized limits (value_tree v.value) b)) e ∙ sym (sized-Variant b o v)

  -- ---- bytes, each an item

  byte_sized : (b : Option ℕ) (n o : ℕ) → sized limits (NumberValue BYTE n) b o ≡ item limits b 1 o
  byte_sized b n o = ap (λ (r : Result ℕ ValueFault). and_then r (item limits b 1)) (no_padding b o)

  item_fits : (b : Option ℕ) (n o : ℕ) → IfSome b (λ x. o + n ≤ x) → o + n ≤ limits.message → item limits b n o ≡ Ok (o + n)
  unfolding item
  item_fits None n o h l = rw (le-ltb _ _ l) refl
  item_fits (Some x) n o h l = rw (le-ltb _ _ h, le-ltb _ _ l) refl

  item_passes : (x n o : ℕ) → x < o + n → item limits (Some x) n o ≡ Err ArrayTooLong
  unfolding item
  item_passes x n o h = rw (lt-ltb _ _ h) refl

  item_too_long : (b : Option ℕ) (n o : ℕ) → IfSome b (λ x. o + n ≤ x) → limits.message < o + n → item limits b n o ≡ Err TooLong
  unfolding item
  item_too_long None n o h l = rw (lt-ltb _ _ l) refl
  item_too_long (Some x) n o h l = rw (le-ltb _ _ h, lt-ltb _ _ l) refl

  step_ok : (b : Option ℕ) (n : ℕ) (bs : List ℕ) (o p : ℕ) → item limits b 1 o ≡ Ok p → sizes limits (byte_values (n ∷ bs)) b o ≡ sizes limits (byte_values bs) b p
  step_ok b n bs o p e = ap (λ (r : Result ℕ ValueFault). and_then r (sizes limits (byte_values bs) b)) (byte_sized b n o ∙ e)

  step_err : (b : Option ℕ) (n : ℕ) (bs : List ℕ) (o : ℕ) (f : ValueFault) → item limits b 1 o ≡ Err f → sizes limits (byte_values (n ∷ bs)) b o ≡ Err f
  step_err b n bs o f e = ap (λ (r : Result ℕ ValueFault). and_then r (sizes limits (byte_values bs) b)) (byte_sized b n o ∙ e)

  some_le : (b : Option ℕ) (m n : ℕ) → m ≤ n → IfSome b (λ x. n ≤ x) → IfSome b (λ x. m ≤ x)
  some_le None m n h w = tt
  some_le (Some x) m n h w = omega arith

  pub bytes_fit : (b : Option ℕ) (bs : List ℕ) (o : ℕ) → IfSome b (λ x. o + length bs ≤ x) → o + length bs ≤ limits.message → sizes limits (byte_values bs) b o ≡ Ok (o + length bs)
  bytes_fit b [] o h l = let e : o ≡ o + 0 = omega arith in ap (λ (n : ℕ). Ok n) e
  bytes_fit b (n ∷ bs) o h l =
      let first : item limits b 1 o ≡ Ok (o + 1) = item_fits b 1 o (some_le b (o + 1) (o + suc (length bs)) (omega arith) h) (omega arith) in
      let same : o + 1 + length bs ≡ o + suc (length bs) = omega arith in
      step_ok b n bs o (o + 1) first ∙ rw same at (bytes_fit b bs (o + 1) (some_le b (o + 1 + length bs) (o + suc (length bs)) (omega arith) h) (omega arith))

  pub bytes_pass : (x : ℕ) (bs : List ℕ) (o : ℕ) → x ≤ limits.message → 0 < length bs → x < o + length bs → sizes limits (byte_values bs) (Some x) o ≡ Err ArrayTooLong
  bytes_pass x [] o l some h = absurd (omega arith)
  bytes_pass x (n ∷ bs) o l some h = elim (dec_lt x (o + 1)) [
    | yes past ↦ step_err (Some x) n bs o ArrayTooLong (item_passes x 1 o past)
    | no not ↦
        let at : o + 1 ≤ x = omega arith in
        step_ok (Some x) n bs o (o + 1) (item_fits (Some x) 1 o at (omega arith)) ∙ bytes_pass x bs (o + 1) l (omega arith) (omega arith)
  ]

  pub bytes_too_long : (b : Option ℕ) (bs : List ℕ) (o : ℕ) → o ≤ limits.message → IfSome b (λ x. limits.message < x) → limits.message < o + length bs → sizes limits (byte_values bs) b o ≡ Err TooLong
  bytes_too_long b [] o l w h = absurd (omega arith)
  bytes_too_long b (n ∷ bs) o l w h = elim (dec_lt limits.message (o + 1)) [
    | yes past ↦ step_err b n bs o TooLong (item_too_long b 1 o (some_le b (o + 1) (suc limits.message) (omega arith) (above b w)) past)
    | no not ↦
        let at : o + 1 ≤ limits.message = omega arith in
        step_ok b n bs o (o + 1) (item_fits b 1 o (some_le b (o + 1) (suc limits.message) (omega arith) (above b w)) at) ∙ bytes_too_long b bs (o + 1) at w (omega arith)
  ]
    where
      above : (b : Option ℕ) → IfSome b (λ x. limits.message < x) → IfSome b (λ x. suc limits.message ≤ x)
      above None w = tt
      above (Some x) w = omega arith

  -- where the array's end is a number that no end comes to, where there is none
  pub bytes_within : (b : Option ℕ) (bs : List ℕ) (o a : ℕ) → a ≡ unwrap_or b 18446744073709551615 → o + length bs ≤ a → o + length bs ≤ limits.message → sizes limits (byte_values bs) b o ≡ Ok (o + length bs)
  bytes_within None bs o a e h l = bytes_fit None bs o tt l
  bytes_within (Some x) bs o a e h l = let at : a ≡ x = e in bytes_fit (Some x) bs o (omega arith) l

  pub bytes_past_array : (b : Option ℕ) (bs : List ℕ) (o a : ℕ) → a ≡ unwrap_or b 18446744073709551615 → a ≤ limits.message → 0 < length bs → a < o + length bs → sizes limits (byte_values bs) b o ≡ Err ArrayTooLong
  bytes_past_array None bs o a e l some h = let at : a ≡ 18446744073709551615 = e in absurd (omega (arith, limits.message_in))
  bytes_past_array (Some x) bs o a e l some h = let at : a ≡ x = e in bytes_pass x bs o (omega arith) some (omega arith)

  pub bytes_past_message : (b : Option ℕ) (bs : List ℕ) (o a : ℕ) → a ≡ unwrap_or b 18446744073709551615 → o ≤ limits.message → limits.message < a → limits.message < o + length bs → sizes limits (byte_values bs) b o ≡ Err TooLong
  bytes_past_message None bs o a e l w h = bytes_too_long None bs o l tt h
  bytes_past_message (Some x) bs o a e l w h = let at : a ≡ x = e in bytes_too_long (Some x) bs o l (omega arith) h

  -- ---- along a list

  pub sizes_more : {A : Type 0} (b : Option ℕ) (o : ℕ) (vs : List (Value A)) (i : ℕ) (v : Value A) → i < length vs → v ≡ get_or vs i v →
      sizes limits (value_trees_of (drop i vs)) b o ≡ and_then (sized limits (value_tree v) b o) (sizes limits (value_trees_of (drop (i + 1) vs)) b)
  sizes_more {A} b o vs i v lt e =
      at_drop_more (λ (l : List (Value A)). sizes limits (value_trees_of l) b o) vs i v lt ∙ ap (λ (x : Value A). and_then (sized limits (value_tree x) b o) (sizes limits (value_trees_of (drop (i + 1) vs)) b)) (sym e)

  pub sizes_stop : {A : Type 0} (b : Option ℕ) (o : ℕ) (vs : List (Value A)) (i : ℕ) (v : Value A) (f : ValueFault) → i < length vs → v ≡ get_or vs i v → Err f ≡ sized limits (value_tree v) b o →
      Err f ≡ sizes limits (value_trees_of (drop i vs)) b o
  sizes_stop b o vs i v f lt e d = sym (sizes_more b o vs i v lt e ∙ ap (λ (r : Result ℕ ValueFault). and_then r (sizes limits (value_trees_of (drop (i + 1) vs)) b)) (sym d))

  pub sizes_step : {A : Type 0} (b : Option ℕ) (o p : ℕ) (vs : List (Value A)) (i : ℕ) (v : Value A) → i < length vs → v ≡ get_or vs i v → Ok p ≡ sized limits (value_tree v) b o →
      sizes limits (value_trees_of (drop (i + 1) vs)) b p ≡ sizes limits (value_trees_of (drop i vs)) b o
  sizes_step b o p vs i v lt e d = sym (sizes_more b o vs i v lt e ∙ ap (λ (r : Result ℕ ValueFault). and_then r (sizes limits (value_trees_of (drop (i + 1) vs)) b)) (sym d))

  pub some_bytes : (n : ℕ) → false ≡ (n == 0) → 0 < n
  some_bytes zero e = absurd cc
  some_bytes (suc n) e = omega arith

pub ruleset sizing = (trees, sized_number, sized_words, sized-Bytes, sized-Array, sized-Struct, sized-Entry, sized-Variant, sized_text, contents_is)

-- How many bytes values are spelled by, level by level.

pub length-number : (order : Order) (o n : ℕ) (k : NumberCode) → length (spelling order o (NumberValue k n)) ≡ gap_to (width k) o + width k
unfolding spelling
length-number order o n k = omega (arith, length-append (pad (width k) o) (num order (width k) n), length-replicate {A = ℕ} (gap_to (width k) o) 0, length-num order (width k) n)

pub length-ended : (order : Order) (w : ℕ) (t : List ℕ) → length (ended_text order w t) ≡ w + (length t + 1)
length-ended order w t = omega (arith, length-append (num order w (length t)) (t ++ 0 ∷ []), length-append t (0 ∷ []), length-num order w (length t))

pub length-text : (order : Order) (o : ℕ) (k : TextCode) (t : List ℕ) → length (spelling order o (TextValue k t)) ≡ gap_to (length_width k) o + (length_width k + (length t + 1))
unfolding spelling
length-text order o k t =
    omega (arith, length-append (pad (length_width k) o) (ended_text order (length_width k) t), length-replicate {A = ℕ} (gap_to (length_width k) o) 0, length-ended order (length_width k) t)

pub length-variant : (order : Order) (o : ℕ) (x : ValueTree) →
    length (spelling order o (VariantValue x)) ≡ length (ended_text order 1 (sig (type_of x))) + length (spelling order (o + length (ended_text order 1 (sig (type_of x)))) x)
unfolding spelling
length-variant order o x = length-append (ended_text order 1 (sig (type_of x))) (spelling order (o + length (ended_text order 1 (sig (type_of x)))) x)

pub length-struct : (order : Order) (o : ℕ) (xs : ValueTrees) → length (spelling order o (StructValue xs)) ≡ gap_to 8 o + length (spellings order (o + gap_to 8 o) xs)
unfolding spelling
length-struct order o xs = omega (arith, length-append (pad 8 o) (spellings order (o + gap_to 8 o) xs), length-replicate {A = ℕ} (gap_to 8 o) 0)

pub length-entry : (order : Order) (o : ℕ) (k v : ValueTree) →
    length (spelling order o (EntryValue k v)) ≡ gap_to 8 o + (length (spelling order (o + gap_to 8 o) k) + length (spelling order (o + gap_to 8 o + length (spelling order (o + gap_to 8 o) k)) v))
unfolding spelling
length-entry order o k v =
    let p = o + gap_to 8 o in
    let key = spelling order p k in
    omega (arith, length-append (pad 8 o) (key ++ spelling order (p + length key) v), length-append key (spelling order (p + length key) v), length-replicate {A = ℕ} (gap_to 8 o) 0)

pub length-array : (order : Order) (o : ℕ) (t : TypeTree) (xs : ValueTrees) → o + length (spelling order o (ArrayValue t xs)) ≡ contents_start t o + length (spellings order (contents_start t o) xs)
unfolding spelling
length-array order o t xs =
    let p = o + gap_to 4 o + 4 in
    let c = spellings order (contents_start t o) xs in
    omega (
      arith,
      length-append (pad 4 o) (num order 4 (length c) ++ (pad (alignment_of t) p ++ c)),
      length-append (num order 4 (length c)) (pad (alignment_of t) p ++ c),
      length-append (pad (alignment_of t) p) c,
      length-num order 4 (length c),
      length-replicate {A = ℕ} (gap_to 4 o) 0,
      length-replicate {A = ℕ} (gap_to (alignment_of t) p) 0,
    )

pub length-more : (order : Order) (o : ℕ) (x : ValueTree) (xs : ValueTrees) →
    length (spellings order o (MoreValues x xs)) ≡ length (spelling order o x) + length (spellings order (o + length (spelling order o x)) xs)
unfolding spellings
length-more order o x xs = length-append (spelling order o x) (spellings order (o + length (spelling order o x)) xs)

pub length-none : (order : Order) (o : ℕ) → length (spellings order o NoValues) ≡ 0
unfolding spellings
length-none order o = refl
