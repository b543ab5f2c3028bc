-- Steps of reading a value of any type.
use Rattle.std.proofs.Common.{◌≡◌, ℕ, zero, suc, ◌-◌, ◌<◌, List, [], ◌∷◌, true, false, cond, ltb, refl, ap, ◌∙◌, sym, arith}
use Rattle.std.proofs.lemmas.Bool.{lt-ltb, le-ltb, eq-eqb}
use Rattle.dbus_texts.specs.Types.{NumberCode, TextCode, TypeTree, NumberType, TextType, VariantType, ArrayType, StructType, EntryType, TypeTrees, NoTypes, MoreTypes, IsShaped, IsSingleType}
use Rattle.dbus_texts.proofs.KindFacts.{shaped_of}
use Rattle.dbus_value_model.specs.declared.limits.Bounds.{Bounds}
use Rattle.dbus_value_model.specs.declared.order.Order.{Order}
use Rattle.dbus_value_model.specs.Values.{ValueTree, ArrayValue, value_trees}
use Rattle.dbus_value_model.specs.Reading.{Reader, Outcome, Done, Faulty, Partial, after, pure, up_to, contents, fields, padding, number, opened, value}
use Rattle.dbus_types.specs.Alignments.{alignment_of}
use Rattle.dbus_value_model.specs.ValueItems.{array_row}
use Rattle.dbus_value_model.specs.ValueReaders.{number_value, text_value, variant_value, held_value, array_frame, open_array, array_value, open_struct, struct_value, entry_value}
use Rattle.dbus_value_model.specs.Reading as reading
use Rattle.dbus_value_laws.proofs.ReadSteps.{same_after, after_after}

-- ---- reading a value of each type is its own reading

-- what stands after an array's length and padding
abbrev array_rest : Bounds → Order → ℕ → ℕ → TypeTree → ℕ → Reader ValueTree
array_rest bounds order depth_left end t n o s = after (contents n (λ end before. value bounds order depth_left end t) o s) (λ xs. pure (ArrayValue t (value_trees xs)))

module _ (bounds : Bounds) (order : Order) where
  pub value_number : (depth_left end : ℕ) (k : NumberCode) (o : ℕ) (s : List ℕ) → value bounds order depth_left end (NumberType k) o s ≡ number_value bounds.fds order end k o s
  unfolding value number_value
  value_number zero end k o s = refl
  value_number (suc depth_left) end k o s = refl

  pub value_text : (depth_left end : ℕ) (k : TextCode) (o : ℕ) (s : List ℕ) → value bounds order depth_left end (TextType k) o s ≡ text_value order end k o s
  unfolding value text_value
  value_text zero end k o s = refl
  value_text (suc depth_left) end k o s = refl

  pub value_variant : (depth_left end o : ℕ) (s : List ℕ) → value bounds order depth_left end VariantType o s ≡ variant_value bounds order depth_left end o s
  unfolding value variant_value held_value
  value_variant zero end o s = refl
  value_variant (suc depth_left) end o s = let e : suc depth_left - 1 ≡ depth_left = omega arith in rw e refl

  pub value_struct : (depth_left end : ℕ) (ts : TypeTrees) (o : ℕ) (s : List ℕ) → value bounds order depth_left end (StructType ts) o s ≡ struct_value bounds order depth_left end ts o s
  unfolding value struct_value open_struct
  value_struct zero end ts o s = refl
  value_struct (suc depth_left) end ts o s = let e : suc depth_left - 1 ≡ depth_left = omega arith in rw e refl

  pub value_entry : (depth_left end : ℕ) (k v : TypeTree) (o : ℕ) (s : List ℕ) → value bounds order depth_left end (EntryType k v) o s ≡ entry_value bounds order depth_left end k v o s
  unfolding value entry_value
  value_entry zero end k v o s = refl
  value_entry (suc depth_left) end k v o s = refl

  pub value_array : (depth_left end : ℕ) (t : TypeTree) (o : ℕ) (s : List ℕ) → value bounds order depth_left end (ArrayType t) o s ≡ array_value bounds order depth_left end t o s
  unfolding value array_value open_array array_frame
  value_array zero end t o s = refl
  value_array (suc depth_left) end t o s =
      let e : suc depth_left - 1 ≡ depth_left = omega arith in
      rw e (same_after (padding 4 end o s) _ _ (λ x p u. sym (after_after (number order 4 end (array_row bounds t end) p u) _ (array_rest bounds order depth_left end t)
      ∙ same_after (number order 4 end (array_row bounds t end) p u) _ _ (λ n q v. after_after (padding (alignment_of t) end q v) (λ _. pure n) (array_rest bounds order depth_left end t)))))

-- ---- turns of a loop

module _ {A : Type 0} (part : List A → Reader A) (end : ℕ) where
  -- a part is read: what is left is read after it
  pub one_turn : (before : List A) (turns rest : ℕ) (o : ℕ) (s : List ℕ) (v : A) (q : ℕ) (r : List ℕ) → turns ≡ suc rest → o < end → part before o s ≡ Done v q r
      → up_to turns end part before o s ≡ after (up_to rest end part (v ∷ before) q r) (λ vs. pure (v ∷ vs))
  one_turn before turns rest o s v q r more on e = rw (more, lt-ltb _ _ on, e) refl

  pub no_turn : (before : List A) (turns : ℕ) (o : ℕ) (s : List ℕ) → o ≡ end → up_to turns end part before o s ≡ Done [] o s
  no_turn before zero o s e = rw (eq-eqb o end e) refl
  no_turn before (suc turns) o s e = let no_more : ltb o end ≡ false = le-ltb _ _ (omega arith) in rw (no_more, eq-eqb o end e) refl

-- elements do not see those before them
pub same_turns : {A : Type 0} (run : Reader A) (end turns : ℕ) (a b : List A) (o : ℕ) (s : List ℕ) → up_to turns end (λ before. run) a o s ≡ up_to turns end (λ before. run) b o s
same_turns run end zero a b o s = refl
same_turns {A} run end (suc turns) a b o s = ap (λ (next : A → Reader (List A)). cond (ltb o end) (after (run o s) next) (reading.stop end o s)) (λ i v p t. after (same_turns run end turns (v ∷ a) (v ∷ b) p t i) (λ vs. pure (v ∷ vs)))

-- ---- types of parts

pub shaped_inside : (t : TypeTree) → IsShaped false t → IsShaped true t
shaped_inside (NumberType k) h = tt
shaped_inside (TextType k) h = tt
shaped_inside VariantType h = tt
shaped_inside (ArrayType t) h = h
shaped_inside (StructType NoTypes) h = absurd h
shaped_inside (StructType (MoreTypes t ts)) h = h
shaped_inside (EntryType k v) h = absurd h

pub single_shaped : (t : TypeTree) → IsSingleType t → IsShaped true t
single_shaped t h = shaped_inside t (shaped_of t false 0 0 h.0)
