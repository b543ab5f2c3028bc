-- Values of header fields: what is said of them where their parts are read, or are not.
use Rattle.std.proofs.Common.{◌≡◌, ℕ, zero, suc, ◌+◌, ◌-◌, ◌≤◌, List, [], ◌∷◌, length, take, drop, get_or, true, None, refl, sym, ap, ◌∙◌, arith}
use Rattle.std.proofs.lemmas.List.{drop_more, length-take}
use Rattle.dbus_texts.specs.ComputedKinds.{type_spelled}
use Rattle.dbus_texts.specs.Types.{TypeTree, OBJECT_PATH, UINT32, STRING, TextCode, text_code, NumberType, TextType, sig, IsShaped}
use Rattle.dbus_texts.specs.declared.text_kind.TextKind.{TextKind}
use Rattle.dbus_texts.specs.declared.text_kind.TextKind.TheVariants.{Path, Single}
use Rattle.dbus_value_model.specs.declared.fault.Reason.TheVariants as reasons
use Rattle.dbus_value_model.specs.declared.limits.Limits.{Limits}
use Rattle.dbus_value_model.specs.declared.order.Order.{Order}
use Rattle.dbus_value_model.specs.Bounds.{bounds_of}
use Rattle.dbus_value_model.specs.Bytes.{gap_to}
use Rattle.dbus_value_model.specs.ValueItems.{text_row, number_row}
use Rattle.dbus_value_model.specs.WantedTexts.{Of, Only}
use Rattle.dbus_value_model.specs.Reading.{Done, pure, number, text, nul, value}
use Rattle.dbus_value_model.specs.ValueReaders.{text_value}
use Rattle.dbus_message_model.specs.Messages.{Want, Anything, OfType, Name, Serial}
use Rattle.dbus_value_laws.proofs.Composition.{row_fits}
use Rattle.dbus_value_laws.proofs.KindLaws.{single_text}
use Rattle.dbus_value_laws.proofs.ReadSteps.{number_done, text_fits, one_byte, nul_done, only_done}
use Rattle.dbus_value_laws.proofs.ValueSteps.{value_number, value_text, single_shaped}
use Rattle.dbus_header.specs.HeaderReading.{wanted_signature, wanted_value}
use Rattle.dbus_header.specs.MessageItems.{kind_wanted, name_row, not_zero_row}
use Rattle.dbus_header.proofs.FieldSteps.{typed_value, any_value}
use Rattle.dbus_value_validator.specs.Endings.{IsNotRead, EndedText}
use Rattle.dbus_value_validator.proofs.ItemSteps.{number_by, is_number, text_by, is_text}
use Rattle.dbus_value_validator.proofs.ReadParts.{not_same, not_first, not_then, made_first, number_read, unlike, not_ended, short_unread}

-- ---- the signature

zero_first : (b o : ℕ) (s : List ℕ) (q : ℕ) (r : List ℕ) → nul o (b ∷ s) ≡ Done tt q r → b ≡ 0
zero_first zero o s q r e = refl
zero_first (suc b) o s q r e = absurd cc

module _ (order : Order) (end at c : ℕ) (bytes : List ℕ) (inside : end ≤ length bytes) where
  pub letter_read : at + 3 ≤ end → get_or bytes at 0 ≡ 1 → get_or bytes (at + 1) 0 ≡ c → get_or bytes (at + 2) 0 ≡ 0 → wanted_signature order end (Only (c ∷ [])) at (drop at bytes) ≡ Done (type_spelled (c ∷ [])) (at + 3) (drop (at + 3) bytes)
  unfolding wanted_signature
  letter_read fits one is last =
      let measured = number_done order 1 end (text_row end) at bytes (omega arith) 1 (omega arith) (sym one ∙ one_byte order bytes at (omega arith)) (text_fits end (at + 1) 1 (omega arith)) in
      let given : get_or bytes (at + 1) 0 ∷ [] ≡ take 1 (drop (at + 1) bytes) = sym (ap (take 1) (drop_more bytes (at + 1) 0 (omega arith))) in
      let same : get_or bytes (at + 1) 0 ∷ [] ≡ c ∷ [] = ap (λ (b : ℕ). b ∷ []) is in
      let there = only_done 1 (at + 1) bytes (get_or bytes (at + 1) 0 ∷ []) given (c ∷ []) same (omega arith) in
      let two : at + 1 + 1 ≡ at + 2 = omega arith in
      let three : at + 2 + 1 ≡ at + 3 = omega arith in
      let ended = nul_done (at + 2) bytes (omega arith) last in
      rw (measured, there, two, ended, three) refl

  -- a signature of one letter has three bytes
  pub letter_unread : (at + 3 ≤ end → get_or bytes at 0 ≡ 1 → get_or bytes (at + 1) 0 ≡ c → get_or bytes (at + 2) 0 ≡ 0 → ⊥) → IsNotRead (wanted_signature order end (Only (c ∷ [])) at (drop at bytes))
  unfolding wanted_signature
  letter_unread against = not_then (number order 1 end (text_row end) at (drop at bytes)) _ (λ n p u e.
      let r = number_read order 1 end (text_row end) at bytes n p u e in
      rw (r.ends, r.left) (not_same _ _ (made_first (text (Only (c ∷ [])) n (at + 1) (drop (at + 1) bytes)) type_spelled _) (unlike (Only (c ∷ [])) n (at + 1) bytes (λ t. pure (type_spelled t)) (λ wanted long zero.
      let one : n ≡ 1 = omega (arith, ap length wanted, length-take n (drop (at + 1) bytes), long) in
      let fits : at + 3 ≤ end = omega (arith, row_fits end (at + 1) n r.passes) in
      let first = drop_more bytes (at + 1) 0 (omega arith) in
      let last = drop_more bytes (at + 2) 0 (omega arith) in
      let letter : get_or bytes (at + 1) 0 ∷ [] ≡ c ∷ [] = rw (one, first) at wanted in
      let two : at + 1 + 1 ≡ at + 2 = omega arith in
      against fits (one_byte order bytes at (omega arith) ∙ sym r.is ∙ one) (cc) (zero_first (get_or bytes (at + 2) 0) (at + 2) (drop (at + 2 + 1) bytes) _ _ (rw (one, two, last) at zero))))))

module _ (order : Order) (end at : ℕ) (bytes : List ℕ) where
  single_read : (n : ℕ) → number order 1 end (text_row end) at (drop at bytes) ≡ Done n (at + 1) (drop (at + 1) bytes) → EndedText Single n (at + 1) bytes
      → wanted_signature order end (Of Single) at (drop at bytes) ≡ Done (type_spelled (take n (drop (at + 1) bytes))) (at + 1 + n + 1) (drop (at + 1 + n + 1) bytes)
  unfolding wanted_signature
  single_read n measured ended = rw (measured, ended.is_text, ended.is_ended) refl

  pub single_unread : ((n : ℕ) → number order 1 end (text_row end) at (drop at bytes) ≡ Done n (at + 1) (drop (at + 1) bytes) → EndedText Single n (at + 1) bytes → ⊥) → IsNotRead (wanted_signature order end (Of Single) at (drop at bytes))
  unfolding wanted_signature
  single_unread unread = short_unread Single order end at (text_row end) bytes _ unread (λ n unended.
      not_same _ _ (made_first (text (Of Single) n (at + 1) (drop (at + 1) bytes)) type_spelled _) (not_ended Single n (at + 1) bytes (λ t. pure (type_spelled t)) unended))

-- ---- the value after its signature

module _ (limits : Limits) (order : Order) (end at : ℕ) (bytes : List ℕ) where
  pub unsigned : (w : Want) → IsNotRead (wanted_signature order end (kind_wanted w) at (drop at bytes)) → IsNotRead (wanted_value limits order end w at (drop at bytes))
  unfolding wanted_value
  unsigned w unread = not_first (wanted_signature order end (kind_wanted w) at (drop at bytes)) _ unread

  module _ (signed : ℕ) where
    abbrev IsSigned : ℕ → Type 0
    IsSigned c = wanted_signature order end (Only (c ∷ [])) at (drop at bytes) ≡ Done (type_spelled (c ∷ [])) signed (drop signed bytes)

    pub is_name : (kind : TextKind) → IsSigned 115 → wanted_value limits order end (Name (Of kind)) at (drop at bytes) ≡ text_by order end 4 (name_row end) kind STRING signed (drop signed bytes)
    unfolding wanted_value
    is_name kind found = rw found refl

    pub is_serial : IsSigned 117 → wanted_value limits order end Serial at (drop at bytes) ≡ number_by order end 4 (not_zero_row reasons.ZeroSerial) UINT32 signed (drop signed bytes)
    unfolding wanted_value
    is_serial found = rw found refl

    pub is_count : IsSigned 117 → wanted_value limits order end (OfType (NumberType UINT32)) at (drop at bytes) ≡ number_by order end 4 (number_row None UINT32) UINT32 signed (drop signed bytes)
    is_count found =
        typed_value limits order end at bytes signed (NumberType UINT32) (117 ∷ []) refl found ∙ value_number (bounds_of limits) order (limits.depth - 3) end UINT32 signed (drop signed bytes) ∙ is_number None order end UINT32 4 signed (drop signed bytes) refl

    pub is_text_value : (k : TextCode) → IsSigned (text_code k) → wanted_value limits order end (OfType (TextType k)) at (drop at bytes) ≡ text_value order end k signed (drop signed bytes)
    is_text_value k found = typed_value limits order end at bytes signed (TextType k) (text_code k ∷ []) refl found ∙ value_text (bounds_of limits) order (limits.depth - 3) end k signed (drop signed bytes)

    pub is_path : IsSigned 111 → wanted_value limits order end (OfType (TextType OBJECT_PATH)) at (drop at bytes) ≡ text_by order end 4 (text_row end) Path OBJECT_PATH signed (drop signed bytes)
    is_path found = is_text_value OBJECT_PATH found ∙ is_text order end OBJECT_PATH Path 4 signed (drop signed bytes) refl refl

  -- any value is one of the type that its signature spells
  pub is_any : (n w : ℕ) → number order 1 end (text_row end) at (drop at bytes) ≡ Done n (at + 1) (drop (at + 1) bytes) → EndedText Single n (at + 1) bytes → w ≡ n
      → (t : TypeTree) × (sig t ≡ take w (drop (at + 1) bytes)) × IsShaped true t × (wanted_value limits order end Anything at (drop at bytes) ≡ value (bounds_of limits) order (limits.depth - 3) end t (at + 1 + n + 1) (drop (at + 1 + n + 1) bytes))
  is_any n w measured ended long =
      let given = take n (drop (at + 1) bytes) in
      let t = type_spelled given in
      let single = single_text given ended.is_kind in
      (t, single.1 ∙ ap (λ (m : ℕ). take m (drop (at + 1) bytes)) (sym long), single_shaped t single.0, any_value limits order end at bytes (at + 1 + n + 1) t (single_read order end at bytes n measured ended))

-- ---- where a text begins after a signature of three bytes

pub text_begins : (at signed place w : ℕ) → signed ≡ at + 3 → place ≡ signed + gap_to w signed → place + w ≡ at + 3 + gap_to w (at + 3) + w
text_begins at signed place w is there = ap (λ (k : ℕ). k + w) (there ∙ ap (λ (s : ℕ). s + gap_to w s) is)
