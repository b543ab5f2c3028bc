-- Header fields, each byteswapped by its value alone.
use Rattle.std.proofs.Common.{◌≡◌, ℕ, ◌+◌, List, [], ◌∷◌, ◌++◌, length, map, take, drop, replicate, reverse, refl, sym, ap, subst, ◌∙◌, arith, append_assoc}
use Rattle.std.proofs.lemmas.List.{length-append, length-replicate, append-nil, map_push}
use Rattle.dbus_texts.specs.Types.{sig}
use Rattle.dbus_value_model.specs.Bytes.{gap_to, pad, num}
use Rattle.dbus_value_model.specs.declared.order.Order.{Order}
use Rattle.dbus_value_model.specs.Spelling.{spelling, spellings, ended_text}
use Rattle.dbus_value_model.specs.Values.{VariantValue, value_trees, type_of}
use Rattle.dbus_value_model.proofs.Numbers.{length-num}
use Rattle.dbus_value_model.proofs.Periods.{no_gap}
use Rattle.dbus_message_model.specs.Messages.{FieldTree, field_type, field_struct, field_array}
use Rattle.dbus_walk.specs.declared.container.Container.TheVariants.{Array}
use Rattle.dbus_walk.specs.Containers.{inside, front}
use Rattle.dbus_walk.proofs.Fronts.{same_inside}
use Rattle.dbus_swap.specs.Byteswapping.{other, Replaces}
use Rattle.dbus_swap.specs.ByteswapLaws.{ByteswappedTo, nothing_put, then_put, one_more, whole_put}
use Rattle.dbus_swap.proofs.Leaves.{one_byte, array_opens}

-- what stands before a field's value
abbrev before_value : Order → ℕ → FieldTree → List ℕ
before_value order at f = pad 8 at ++ (num order 1 f.code ++ ended_text order 1 (sig (type_of f.value)))

module _ (order : Order) (at q : ℕ) (f : FieldTree) (begins : q ≡ inside order (at + gap_to 8 at + 1) (VariantValue f.value)) where
  field_long : q ≡ at + length (before_value order at f)
  field_long =
      let ended = ended_text order 1 (sig (type_of f.value)) in
      omega (arith, begins, length-append (pad 8 at) (num order 1 f.code ++ ended), length-append (num order 1 f.code) ended, length-num order 1 f.code, length-replicate {A = ℕ} (gap_to 8 at) 0)

  field_spelled : spelling order at (field_struct f) ≡ before_value order at f ++ spelling order q f.value
  unfolding spelling spellings
  field_spelled =
      let start = at + gap_to 8 at in
      let code = num order 1 f.code in
      let ended = ended_text order 1 (sig (type_of f.value)) in
      let padded : pad 1 start ++ code ≡ code = ap (λ (g : ℕ). replicate g 0 ++ code) (no_gap start) in
      let place : start + length code + length ended ≡ q = omega (arith, begins, length-num order 1 f.code) in
      rw (padded, place) (simp (append_assoc, append-nil))

module _ (order : Order) (at q : ℕ) (f : FieldTree) (before now : List ℕ) (begins : q ≡ inside order (at + gap_to 8 at + 1) (VariantValue f.value)) where
  pub field_byteswaps : Replaces q (spelling order q f.value) (spelling (other order) q f.value) before now
      → Replaces at (spelling order at (field_struct f)) (spelling (other order) at (field_struct f)) before now
  field_byteswaps value =
      let x = before_value order at f in
      let y = before_value (other order) at f in
      let t = sig (type_of f.value) in
      let same : x ≡ y = rw (one_byte order f.code, one_byte order (length t)) refl in
      let begins_other : q ≡ inside (other order) (at + gap_to 8 at + 1) (VariantValue f.value) = begins ∙ same_inside order (other order) (at + gap_to 8 at + 1) (VariantValue f.value) in
      rw (field_spelled order at q f begins, field_spelled (other order) at q f begins_other)
      (then_put at x y (spelling order q f.value) (spelling (other order) q f.value) before before now q (field_long order at q f begins) (ap length same) (nothing_put at x y before before same refl) value)

-- These fields are byteswapped, after what stands before all fields, and the next one begins at
-- `place`.
pub record FieldsByteswapped (order : Order) (fs : List FieldTree) (before now : List ℕ) (place : ℕ) (done : List FieldTree) : Type 0 where
  pub between : List ℕ
  pub opened : Replaces 12 (front order 12 (field_array fs)) (front (other order) 12 (field_array fs)) before between
  pub swapped : ByteswappedTo order 16 between now place (map field_struct done)

module _ (order : Order) (fs : List FieldTree) (before now : List ℕ) where
  pub fields_opened : now ≡ take 12 before ++ (reverse (take 4 (drop 12 before)) ++ drop 16 before) → FieldsByteswapped order fs before now 16 []
  unfolding spellings gap_to
  fields_opened byteswapped = record {
    between = now;
    opened = array_opens order 12 12 before now field_type (value_trees (map field_struct fs)) refl byteswapped;
    swapped = record { here = refl; replaced = nothing_put 16 [] [] now now refl refl };
  }

  pub field_byteswapped : (place q : ℕ) (done : List FieldTree) (f : FieldTree) (next : List ℕ) → FieldsByteswapped order fs before now place done → q ≡ place + length (spelling order place (field_struct f))
      → Replaces place (spelling order place (field_struct f)) (spelling (other order) place (field_struct f)) now next → FieldsByteswapped order fs before next q (done ++ f ∷ [])
  field_byteswapped place q done f next b ends value = record {
    between = b.between;
    opened = b.opened;
    swapped = subst (ByteswappedTo order 16 b.between next q) (sym (map_push field_struct done f)) (one_more order 16 place q (map field_struct done) (field_struct f) b.between now next b.swapped ends value);
  }

  pub all_fields_byteswapped : (place : ℕ) → FieldsByteswapped order fs before now place fs → Replaces 12 (spelling order 12 (field_array fs)) (spelling (other order) 12 (field_array fs)) before now
  unfolding gap_to
  all_fields_byteswapped place b = whole_put order 12 (field_array fs) Array tt before b.between now b.opened b.swapped.replaced
