-- Values of any type: what is said of them where their parts are read, or are not.
use Rattle.std.proofs.Common.{◌≡◌, ℕ, zero, suc, ◌+◌, ◌-◌, ◌<◌, List, [], ◌∷◌, Option, Some, None, take, drop, true, refl, sym, ap, subst, ◌∙◌, arith}
use Rattle.std.proofs.lemmas.Bool.{lt-ltb, ne_eqb}
use Rattle.dbus_texts.specs.Types.{NumberCode, TextCode, TypeTree, NumberType, TextType, VariantType, ArrayType, StructType, EntryType, TypeTrees, NoTypes, MoreTypes, sig, IsShaped}
use Rattle.dbus_texts.specs.ComputedKinds.{type_spelled}
use Rattle.dbus_texts.specs.declared.text_kind.TextKind.TheVariants.{Single}
use Rattle.dbus_types.specs.Alignments.{width}
use Rattle.dbus_types.specs.SignatureCodes.{free_width_of}
use Rattle.dbus_value_model.specs.ValueReaders.{IsFree, number_value, text_value, variant_value, held_value, array_frame, open_array, array_value, struct_value, entry_value}
use Rattle.dbus_value_model.proofs.FreeNumbers.{free_is}
use Rattle.dbus_value_validator.specs.Endings.{value_in, Answers, EndsAt, IsNotRead, EndedText}
use Rattle.dbus_value_validator.specs.declared.untrusted_bytes.UntrustedBytes.{UntrustedBytes}
use Rattle.dbus_value_model.specs.declared.fault.Reason.TheVariants as reasons
use Rattle.dbus_value_model.specs.declared.limits.Bounds.{Bounds}
use Rattle.dbus_value_model.specs.declared.order.Order.{Order}
use Rattle.dbus_value_model.specs.Items.{fault}
use Rattle.dbus_value_model.specs.Values.{ValueTree, ValueTrees, NoValues, MoreValues, VariantValue, ArrayValue, StructValue, EntryValue, value_trees}
use Rattle.dbus_value_model.specs.ValueItems.{text_row}
use Rattle.dbus_value_model.specs.Reading.{Reader, Outcome, Done, after, pure, opened, padding, number, text, up_to, contents, fields, value}
use Rattle.dbus_value_model.specs.WantedTexts.{Of}
use Rattle.dbus_value_laws.proofs.KindLaws.{single_text}
use Rattle.dbus_value_laws.proofs.ReadSteps.{after_after}
use Rattle.dbus_value_laws.proofs.ValueSteps.{value_number, value_text, value_variant, value_array, value_struct, value_entry, one_turn, no_turn, same_turns, single_shaped}
use Rattle.dbus_value_validator.proofs.ReadParts.{not_faulty, not_partial, not_same, not_first, not_then, answers_same, answers_made, made_first, not_ended, short_unread}

-- ---- elements of an array

-- what is said of elements from a place on, in so many turns, is said of all the elements
abbrev pub LeadsTo : Reader ValueTree → List ℕ → (n turns end at place : ℕ) → Type 0
LeadsTo part bytes n turns end at place = (r : Option ℕ) → Answers bytes r (up_to turns end (λ before. part) [] place (drop place bytes)) → Answers bytes r (up_to n end (λ before. part) [] at (drop at bytes))

module _ (part : Reader ValueTree) (bytes : List ℕ) (n end at turns : ℕ) where
  pub leads_all : turns ≡ n → LeadsTo part bytes n turns end at at
  leads_all e = λ r answer. subst (λ (k : ℕ). Answers bytes r (up_to k end (λ before. part) [] at (drop at bytes))) e answer

  module _ (place : ℕ) (leads : LeadsTo part bytes n turns end at place) where
    module _ (rest : ℕ) (more : turns ≡ suc rest) (lt : place < end) where
      pub leads_on : (q : ℕ) → EndsAt bytes q (part place (drop place bytes)) → LeadsTo part bytes n rest end at q
      leads_on q one = λ r answer.
          leads r (answers_same bytes r _ (after (up_to rest end (λ before. part) [] q (drop q bytes)) (λ us. pure (one.0 ∷ us)))
          (one_turn (λ before. part) end [] turns rest place (drop place bytes) one.0 q (drop q bytes) more lt one.1
          ∙ ap (λ (us : Outcome (List ValueTree)). after us (λ us. pure (one.0 ∷ us))) (same_turns part end rest (one.0 ∷ []) [] q (drop q bytes)))
          (answers_made bytes r (up_to rest end (λ before. part) [] q (drop q bytes)) (λ us. one.0 ∷ us) answer))

      -- an element is not read
      pub lacks_element : IsNotRead (part place (drop place bytes)) → IsNotRead (up_to n end (λ before. part) [] at (drop at bytes))
      lacks_element unread = leads None (rw (more, lt-ltb place end lt) (not_first (part place (drop place bytes)) _ unread))

    pub leads_end : place ≡ end → EndsAt bytes end (up_to n end (λ before. part) [] at (drop at bytes))
    leads_end here = leads (Some end) ([], no_turn (λ before. part) end [] turns place (drop place bytes) here ∙ ap (λ (q : ℕ). Done [] q (drop q bytes)) here)

    -- they end elsewhere
    pub lacks_end : turns ≡ 0 → (place ≡ end → ⊥) → IsNotRead (up_to n end (λ before. part) [] at (drop at bytes))
    lacks_end over elsewhere = leads None (not_partial (up_to turns end (λ before. part) [] place (drop place bytes)) (rw (over, ne_eqb place end elsewhere) refl))

-- ---- containers

opens : {A : Type 0} (depth_left : ℕ) (inner : Reader A) (o : ℕ) (s : List ℕ) → 0 < depth_left → opened depth_left inner o s ≡ inner o s
opens zero inner o s h = absurd (omega arith)
opens (suc depth_left) inner o s h = refl

-- a container that is padded is too deep, whatever its padding
pub too_deep : {A : Type 0} (depth_left : ℕ) (inner : Reader A) (padded : Outcome (Unit {0})) → depth_left ≡ 0 → IsNotRead (after padded (λ x. opened depth_left inner))
too_deep depth_left inner padded none = rw none (not_then padded _ (λ x p u e. not_faulty _ (fault p reasons.TooDeep) refl))

abbrev entry_of : ValueTrees → ValueTree
entry_of NoValues = StructValue NoValues
entry_of (MoreValues k NoValues) = k
entry_of (MoreValues k (MoreValues x others)) = EntryValue k x

key_made : (key : Outcome ValueTree) (held : Reader ValueTree)
    → after key (λ k p u. after (held p u) (λ x. pure (EntryValue k x))) ≡ after (after key (λ k p u. after (after (held p u) (λ x. pure (MoreValues x NoValues))) (λ vs. pure (MoreValues k vs)))) (λ vs. pure (entry_of vs))
key_made key held = simp after_after

module _ (bounds : Bounds) (order : Order) (depth_left end at : ℕ) (bytes : List ℕ) where
  pub variant_too_deep : depth_left ≡ 0 → IsNotRead (variant_value bounds order depth_left end at (drop at bytes))
  unfolding variant_value
  variant_too_deep none = rw none (not_faulty _ (fault at reasons.TooDeep) refl)

  module _ (some : 0 < depth_left) where
    pub variant_unsigned : ((n : ℕ) → number order 1 end (text_row end) at (drop at bytes) ≡ Done n (at + 1) (drop (at + 1) bytes) → EndedText Single n (at + 1) bytes → ⊥) → IsNotRead (variant_value bounds order depth_left end at (drop at bytes))
    unfolding variant_value held_value
    variant_unsigned unread = not_same _ _ (opens depth_left (held_value bounds order (depth_left - 1) end) at (drop at bytes) some) (short_unread Single order end at (text_row end) bytes _ unread (λ n unended.
        not_same _ _ (made_first (text (Of Single) n (at + 1) (drop (at + 1) bytes)) type_spelled _) (not_ended Single n (at + 1) bytes (λ t p u. after (value bounds order (depth_left - 1) end (type_spelled t) p u) (λ x. pure (VariantValue x))) unended)))

    pub variant_answers : (n : ℕ) → number order 1 end (text_row end) at (drop at bytes) ≡ Done n (at + 1) (drop (at + 1) bytes) → EndedText Single n (at + 1) bytes
        → (w : ℕ) → w ≡ n → (r : Option ℕ) → ((t : TypeTree) → sig t ≡ take w (drop (at + 1) bytes) → IsShaped true t → Answers bytes r (value bounds order (depth_left - 1) end t (at + 1 + n + 1) (drop (at + 1 + n + 1) bytes)))
        → Answers bytes r (variant_value bounds order depth_left end at (drop at bytes))
    unfolding variant_value held_value
    variant_answers n measured ended w long r gives =
        let t = take n (drop (at + 1) bytes) in
        let single = single_text t ended.is_kind in
        let held = gives (type_spelled t) (single.1 ∙ ap (λ (m : ℕ). take m (drop (at + 1) bytes)) (sym long)) (single_shaped (type_spelled t) single.0) in
        let last = at + 1 + n + 1 in
        answers_same bytes r _ (after (value bounds order (depth_left - 1) end (type_spelled t) last (drop last bytes)) (λ x. pure (VariantValue x)))
        (opens depth_left (held_value bounds order (depth_left - 1) end) at (drop at bytes) some ∙ rw (measured, ended.is_text, ended.is_ended) refl) (answers_made bytes r _ VariantValue held)

  module _ (start : ℕ) where
    module _ (padded : padding 4 end at (drop at bytes) ≡ Done tt start (drop start bytes)) (some : 0 < depth_left) (t : TypeTree) where
      is_array : array_value bounds order depth_left end t at (drop at bytes) ≡ open_array bounds order (depth_left - 1) end t start (drop start bytes)
      unfolding array_value
      is_array = rw padded (opens depth_left (open_array bounds order (depth_left - 1) end t) start (drop start bytes) some)

      pub array_unframed : IsNotRead (array_frame bounds order end t start (drop start bytes)) → IsNotRead (array_value bounds order depth_left end t at (drop at bytes))
      unfolding open_array
      array_unframed unread = not_same _ _ is_array (not_first (array_frame bounds order end t start (drop start bytes)) _ unread)

      pub array_answers : (n first : ℕ) → array_frame bounds order end t start (drop start bytes) ≡ Done n first (drop first bytes)
          → (r : Option ℕ) → Answers bytes r (contents n (λ end before. value bounds order (depth_left - 1) end t) first (drop first bytes)) → Answers bytes r (array_value bounds order depth_left end t at (drop at bytes))
      unfolding open_array
      array_answers n first framed r answer =
          answers_same bytes r _ (after (contents n (λ end before. value bounds order (depth_left - 1) end t) first (drop first bytes)) (λ xs. pure (ArrayValue t (value_trees xs)))) (is_array ∙ rw framed refl)
          (answers_made bytes r _ (λ xs. ArrayValue t (value_trees xs)) answer)

    module _ (padded : padding 8 end at (drop at bytes) ≡ Done tt start (drop start bytes)) where
      pub entry_answers : (k v : TypeTree) (r : Option ℕ) → Answers bytes r (fields (value bounds order depth_left end) (MoreTypes k (MoreTypes v NoTypes)) start (drop start bytes)) → Answers bytes r (entry_value bounds order depth_left end k v at (drop at bytes))
      unfolding entry_value
      entry_answers k v r answer =
          answers_same bytes r _ (after (fields (value bounds order depth_left end) (MoreTypes k (MoreTypes v NoTypes)) start (drop start bytes)) (λ vs. pure (entry_of vs)))
          (rw padded (key_made (value bounds order depth_left end k start (drop start bytes)) (value bounds order depth_left end v))) (answers_made bytes r _ entry_of answer)

-- ---- what is said of a value of its type

module _ (bounds : Bounds) (order : Order) (depth_left end at : ℕ) (bytes : List ℕ) (t : TypeTree) (r : Option ℕ) where
  abbrev AnswersHere : TypeTree → Type 0
  AnswersHere u = Answers bytes r (value bounds order depth_left end u at (drop at bytes))

  pub as_number : (k : NumberCode) → t ≡ NumberType k → Answers bytes r (number_value bounds.fds order end k at (drop at bytes)) → AnswersHere t
  as_number k is answer = subst AnswersHere (sym is) (answers_same bytes r _ _ (value_number bounds order depth_left end k at (drop at bytes)) answer)

  pub as_text : (k : TextCode) → t ≡ TextType k → Answers bytes r (text_value order end k at (drop at bytes)) → AnswersHere t
  as_text k is answer = subst AnswersHere (sym is) (answers_same bytes r _ _ (value_text bounds order depth_left end k at (drop at bytes)) answer)

  pub as_variant : t ≡ VariantType → Answers bytes r (variant_value bounds order depth_left end at (drop at bytes)) → AnswersHere t
  as_variant is answer = subst AnswersHere (sym is) (answers_same bytes r _ _ (value_variant bounds order depth_left end at (drop at bytes)) answer)

  pub as_array : (u : TypeTree) → t ≡ ArrayType u → Answers bytes r (array_value bounds order depth_left end u at (drop at bytes)) → AnswersHere t
  as_array u is answer = subst AnswersHere (sym is) (answers_same bytes r _ _ (value_array bounds order depth_left end u at (drop at bytes)) answer)

  pub as_struct : (ts : TypeTrees) → t ≡ StructType ts → Answers bytes r (struct_value bounds order depth_left end ts at (drop at bytes)) → AnswersHere t
  as_struct ts is answer = subst AnswersHere (sym is) (answers_same bytes r _ _ (value_struct bounds order depth_left end ts at (drop at bytes)) answer)

  pub as_entry : (k v : TypeTree) → t ≡ EntryType k v → Answers bytes r (entry_value bounds order depth_left end k v at (drop at bytes)) → AnswersHere t
  as_entry k v is answer = subst AnswersHere (sym is) (answers_same bytes r _ _ (value_entry bounds order depth_left end k v at (drop at bytes)) answer)

-- a number of a width, any of which is valid
pub free_value : (source : UntrustedBytes) (end at wide size depth_left : ℕ) (t : TypeTree) (r : Option ℕ) → 0 < wide → wide ≡ free_width_of t → wide ≡ size
    → ((index_limit : Option ℕ) (order : Order) (k : NumberCode) → width k ≡ size → IsFree index_limit k → Answers source.bytes.now r (number_value index_limit order end k at (drop at source.bytes.now)))
    → Answers source.bytes.now r (value_in source depth_left end t at)
free_value source end at wide size depth_left t r some is same gives =
    let free = free_is t wide some is in
    as_number source.bounds source.order depth_left end at source.bytes.now t r free.code free.is (gives source.bounds.fds source.order free.code (free.wide ∙ same) (free.free source.bounds.fds))
