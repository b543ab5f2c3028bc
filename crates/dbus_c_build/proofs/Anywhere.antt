-- A struct begins at a multiple of 8, so it is spelled alike wherever it is; and so is each field
-- of a message.
use Rattle.std.proofs.Common.{◌≡◌, ℕ, zero, suc, ◌+◌, ◌-◌, ◌%◌, ◌<◌, ◌≤◌, List, [], ◌∷◌, ◌++◌, length, take, drop, map, true, refl, sym, ap, subst, ◌∙◌, arith, append_assoc}
use Rattle.std.proofs.lemmas.List.{length-append, length-drop, length-replicate, take_at, drop_at, drop-drop}
use Rattle.dbus_texts.specs.Types.{BYTE}
use Rattle.dbus_value_model.specs.SizeLimits.{with_padding, with_value, with_values}
use Rattle.dbus_value_model.specs.Bounds.{bounds_of}
use Rattle.dbus_value_model.specs.Bytes.{gap_to, pad}
use Rattle.dbus_value_model.specs.Laws.{Spells}
use Rattle.dbus_value_model.specs.Spelling.{spelling, spellings, IsWithinLimits, AreWithinLimits}
use Rattle.dbus_value_model.specs.Values.{ValueTrees, NoValues, MoreValues, NumberValue, VariantValue, StructValue, value_trees, IsWellFormed, AreWellFormed}
use Rattle.dbus_value_model.specs.declared.limits.Bounds.{Bounds}
use Rattle.dbus_value_model.specs.declared.limits.Limits.{Limits}
use Rattle.dbus_value_model.specs.declared.order.Order.{Order}
use Rattle.dbus_value_model.proofs.Periods.{values-period}
use Rattle.dbus_marshal.proofs.Written.{length_padding, written_struct}
use Rattle.dbus_message_model.specs.Messages.{FieldTree, MessageTree, IsMessage, field_array, field_struct}

-- ---- a struct

at_multiple : (o : ℕ) → (o + gap_to 8 o) % 8 ≡ 0
unfolding gap_to
at_multiple o = omega arith

same_start : (o p : ℕ) → (o + gap_to 8 o) % 8 ≡ (p + gap_to 8 p) % 8
same_start o p = at_multiple o ∙ sym (at_multiple p)

module _ (order : Order) (xs : ValueTrees) where
  pub struct_within : (array o p : ℕ) → IsWithinLimits array order o (StructValue xs) → IsWithinLimits array order p (StructValue xs)
  struct_within array o p within = (values-period order xs (o + gap_to 8 o) (p + gap_to 8 p) (same_start o p)).1 array within

  -- what follows its padding where it stands is what it is where it is appended
  appended : (out : List ℕ) (start : ℕ) → start % 8 ≡ 0 → with_padding 8 out ++ spellings order start xs ≡ with_value order (StructValue xs) out
  unfolding with_values
  appended out start multiple =
      let p = length (with_padding 8 out) in
      let there : p % 8 ≡ 0 = ap (λ (n : ℕ). n % 8) (length_padding 8 out) ∙ at_multiple (length out) in
      ap (λ (s : List ℕ). with_padding 8 out ++ s) (values-period order xs start p (multiple ∙ sym there)).0 ∙ sym (written_struct order xs out)

  spelled_apart : (at : ℕ) → spelling order at (StructValue xs) ≡ pad 8 at ++ spellings order (at + gap_to 8 at) xs
  unfolding spelling
  spelled_apart at = refl

  pub struct_copied : (out bytes rest : List ℕ) (at start end : ℕ) → drop at bytes ≡ spelling order at (StructValue xs) ++ rest → start ≡ at + gap_to 8 at
      → end ≡ at + length (spelling order at (StructValue xs)) → with_padding 8 out ++ take (end - start) (drop start bytes) ≡ with_value order (StructValue xs) out
  struct_copied out bytes rest at start end stands begins ends =
      let s = spellings order (at + gap_to 8 at) xs in
      let gap : length (pad 8 at) ≡ gap_to 8 at = length-replicate {A = ℕ} (gap_to 8 at) 0 in
      let apart : drop at bytes ≡ pad 8 at ++ (s ++ rest) = stands ∙ ap (λ (l : List ℕ). l ++ rest) (spelled_apart at) ∙ append_assoc (pad 8 at) s rest in
      let here : drop start bytes ≡ s ++ rest =
      ap (λ (n : ℕ). drop n bytes) begins ∙ sym (drop-drop (gap_to 8 at) at bytes) ∙ ap (drop (gap_to 8 at)) apart ∙ drop_at (pad 8 at) (s ++ rest) (gap_to 8 at) gap in
      let long : length s ≡ end - start = omega (arith, begins, ends, ap length (spelled_apart at), length-append (pad 8 at) s, gap) in
      ap (λ (l : List ℕ). with_padding 8 out ++ take (end - start) l) here ∙ ap (λ (l : List ℕ). with_padding 8 out ++ l) (take_at s rest (end - start) long)
      ∙ appended out (at + gap_to 8 at) (at_multiple at)

  -- it lies within the bytes
  pub struct_inside : (bytes rest : List ℕ) (at start end : ℕ) → drop at bytes ≡ spelling order at (StructValue xs) ++ rest → 0 < length (spelling order at (StructValue xs))
      → start ≡ at + gap_to 8 at → end ≡ at + length (spelling order at (StructValue xs)) → (start ≤ end) × (end ≤ length bytes)
  struct_inside bytes rest at start end stands some begins ends =
      let gap : length (pad 8 at) ≡ gap_to 8 at = length-replicate {A = ℕ} (gap_to 8 at) 0 in
      let long = ap length (spelled_apart at) ∙ length-append (pad 8 at) (spellings order (at + gap_to 8 at) xs) in
      let all = ap length stands ∙ length-append (spelling order at (StructValue xs)) rest in
      (omega (arith, begins, ends, long, gap), omega (arith, ends, all, some, length-drop at bytes))

-- ---- fields

-- what a field is made of, as a struct
abbrev pub coded : FieldTree → ValueTrees
coded f = MoreValues (NumberValue BYTE f.code) (MoreValues (VariantValue f.value) NoValues)

abbrev pub structs : List FieldTree → ValueTrees
structs fs = value_trees (map field_struct fs)

-- a field that has a spelling at any offset
abbrev pub IsSpelled : Bounds → Order → (depth : ℕ) → FieldTree → Type 0
IsSpelled bounds order depth f = (o : ℕ) → Spells bounds order depth o (field_struct f)

abbrev pub AreSpelled : Bounds → Order → (depth : ℕ) → List FieldTree → Type 0
AreSpelled bounds order depth [] = Unit {0}
AreSpelled bounds order depth (f ∷ fs) = IsSpelled bounds order depth f × AreSpelled bounds order depth fs

module _ (bounds : Bounds) (order : Order) (depth : ℕ) where
  spelled_from : (fs : List FieldTree) (o : ℕ) → AreWellFormed depth (structs fs) → AreWithinLimits bounds.array order o (structs fs) → AreSpelled bounds order depth fs
  spelled_from [] o formed within = tt
  spelled_from (f ∷ fs) o formed within = (
    λ p. record { formed = formed.0; within = struct_within order (coded f) bounds.array o p within.0; complete = (true, (tt, (tt, tt))) },
    spelled_from fs (o + length (spelling order o (field_struct f))) formed.1 within.1,
  )

pub formed_structs : (depth : ℕ) (fs : List FieldTree) → IsWellFormed depth (field_array fs) → AreWellFormed (depth - 1) (structs fs)
formed_structs zero fs h = absurd h
formed_structs (suc d) fs h = let same : d ≡ suc d - 1 = omega arith in subst (λ (k : ℕ). AreWellFormed k (structs fs)) same h.1

-- each field of a message
pub message_spelled : (limits : Limits) (order : Order) (m : MessageTree) → IsMessage limits order m → AreSpelled (bounds_of limits) order (limits.depth - 1) m.fields
unfolding gap_to
message_spelled limits order m valid = spelled_from (bounds_of limits) order (limits.depth - 1) m.fields 16 (formed_structs limits.depth m.fields valid.formed_fields) valid.within_fields.1
