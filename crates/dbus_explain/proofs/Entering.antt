-- Where a search enters no value.
use Rattle.std.proofs.Common.{◌≡◌, ℕ, zero, suc, ◌+◌, ◌-◌, ◌<◌, ◌≤◌, List, [], ◌∷◌, ◌++◌, append_assoc, get_or, length, true, refl, sym, ap, ◌∙◌, subst, arith}
use Rattle.dbus_texts.specs.Types.{TypeTree, TypeTrees, NumberType, TextType, VariantType, ArrayType, StructType, EntryType, NoTypes, MoreTypes, IsShaped, sig, sigs}
use Rattle.dbus_texts.specs.declared.text_kind.TextKind.TheVariants.{Single}
use Rattle.dbus_types.proofs.TypeCodes.{no_text_of}
use Rattle.dbus_value_model.specs.Bytes.{gap_to}
use Rattle.dbus_explain.specs.Places.{Enters, IsAmong, IsSignatureField, IsTyped, Passes, first_element}
use Rattle.dbus_explain.specs.declared.path.PathStep.{PathStep}
use Rattle.dbus_explain.specs.declared.path.PathStep.TheVariants.{Number, Keyed, Key, Value, Variant}
use Rattle.dbus_explain.proofs.OneField.{passes_one}
use Rattle.std.proofs.lemmas.List.{length-append}

module _ (bytes : List ℕ) (at : ℕ) where
  -- ---- what is entered in a value of each type

  pub in_array : (t : TypeTree) (p : ℕ) (step : PathStep) (u : TypeTree) (q : ℕ) → Enters bytes at (ArrayType t) p step u q → first_element t p ≤ at
  in_array t p (Number n) u q h = h.0
  in_array t p (Keyed key) u q h = h.0
  in_array t p step u q h = absurd h

  pub in_struct : (ts : TypeTrees) (p : ℕ) (step : PathStep) (u : TypeTree) (q : ℕ) → Enters bytes at (StructType ts) p step u q → (p + gap_to 8 p ≤ at) × (n : ℕ) × IsAmong bytes at ts (p + gap_to 8 p) n u q
  in_struct ts p (Number n) u q h = (h.0, n, h.1)
  in_struct ts p step u q h = absurd h

  pub in_entry : (k v : TypeTree) (p : ℕ) (step : PathStep) (u : TypeTree) (q : ℕ) → Enters bytes at (EntryType k v) p step u q
      → (p + gap_to 8 p ≤ at) × (n : ℕ) × IsAmong bytes at (MoreTypes k (MoreTypes v NoTypes)) (p + gap_to 8 p) n u q
  in_entry k v p Key u q h = (h.0, 0, h.1)
  in_entry k v p Value u q h = (h.0, 1, h.1)
  in_entry k v p step u q h = absurd h

  pub in_variant : (p : ℕ) (step : PathStep) (u : TypeTree) (q : ℕ) → Enters bytes at VariantType p step u q → (q ≤ at) × IsTyped bytes at Single p (sig u) q
  in_variant p Variant u q h = h
  in_variant p step u q h = absurd h

  -- ---- among several values

  -- behind one that is passed
  pub among_behind : (us vs : TypeTrees) (u : TypeTree) (p r n : ℕ) (t : TypeTree) (q : ℕ) → us ≡ MoreTypes u vs → IsShaped true u → Passes bytes at u p r → IsAmong bytes at us p n t q → (m : ℕ) × IsAmong bytes at vs r m t q
  among_behind us vs u p r n t q is shaped passes h = behind n (subst (λ (l : TypeTrees). IsAmong bytes at l p n t q) is h)
    where
      behind : (n : ℕ) → IsAmong bytes at (MoreTypes u vs) p n t q → (m : ℕ) × IsAmong bytes at vs r m t q
      behind zero h = absurd (h.2 r passes)
      behind (suc m) h = (m, subst (λ (k : ℕ). IsAmong bytes at vs k m t q) (passes_one bytes at u shaped p h.0 r h.1 passes) h.2)

  -- in no types there is none
  pub among_nothing : (us : TypeTrees) (p n : ℕ) (t : TypeTree) (q : ℕ) → length (sigs us) ≡ 0 → IsAmong bytes at us p n t q → ⊥
  among_nothing NoTypes p n t q none h = h
  among_nothing (MoreTypes u us) p n t q none h = no_text_of u (sig u) refl (omega (arith, none, length-append (sig u) (sigs us)))

  -- a field of the types of the body ends behind its code
  pub signature_behind : (p : ℕ) (w : List ℕ) → (h : IsSignatureField bytes at p w) → (p + gap_to 8 p < h.q) × (h.q ≤ at)
  signature_behind p w h = let ends = h.value.after in let typed = h.typed.after in let within = h.within in (omega (arith, typed), omega (arith, ends, within))

  -- ---- by the first and the last byte of a type

  last_byte : (xs : List ℕ) (b c : ℕ) → get_or (b ∷ (xs ++ c ∷ [])) (length (b ∷ (xs ++ c ∷ [])) - 1) 0 ≡ c
  last_byte xs b c = ends xs b (length (b ∷ (xs ++ c ∷ [])) - 1) (omega (arith, length-append xs (c ∷ [])))
    where
      ends : (xs : List ℕ) (b n : ℕ) → n ≡ length xs + 1 → get_or (b ∷ (xs ++ c ∷ [])) n 0 ≡ c
      ends [] b n e = ap (λ (k : ℕ). get_or (b ∷ c ∷ []) k 0) e
      ends (x ∷ xs) b n e = let more : n ≡ suc (length xs + 1) = omega (arith, e) in ap (λ (k : ℕ). get_or (b ∷ x ∷ (xs ++ c ∷ [])) k 0) more ∙ ends xs x (length xs + 1) refl

  -- a type that is no container has no value in it
  pub none_in : (t : TypeTree) (types : List ℕ) (p : ℕ) (step : PathStep) (u : TypeTree) (q : ℕ) → sig t ≡ types
      → (get_or types 0 0 ≡ 97 → ⊥)
      → (2 ≤ length types → get_or types 0 0 ≡ 40 → get_or types (length types - 1) 0 ≡ 41 → ⊥)
      → (2 ≤ length types → get_or types 0 0 ≡ 123 → get_or types (length types - 1) 0 ≡ 125 → ⊥)
      → (length types ≡ 1 → get_or types 0 0 ≡ 118 → ⊥)
      → Enters bytes at t p step u q → ⊥
  none_in (NumberType k) types p step u q is array struct entry variant h = h
  none_in (TextType k) types p step u q is array struct entry variant h = h
  none_in VariantType types p step u q is array struct entry variant h = variant (ap (λ (l : List ℕ). length l) (sym is)) (ap (λ (l : List ℕ). get_or l 0 0) (sym is))
  none_in (ArrayType t) types p step u q is array struct entry variant h = array (ap (λ (l : List ℕ). get_or l 0 0) (sym is))
  none_in (StructType ts) types p step u q is array struct entry variant h =
      let long : 2 ≤ length types = omega (arith, ap (λ (l : List ℕ). length l) is, length-append (sigs ts) (41 ∷ [])) in
      struct long (ap (λ (l : List ℕ). get_or l 0 0) (sym is)) (ap (λ (l : List ℕ). get_or l (length l - 1) 0) (sym is) ∙ last_byte (sigs ts) 40 41)
  none_in (EntryType k v) types p step u q is array struct entry variant h =
      let same : sig (EntryType k v) ≡ 123 ∷ ((sig k ++ sig v) ++ 125 ∷ []) = ap (λ (l : List ℕ). 123 ∷ l) (sym (append_assoc (sig k) (sig v) (125 ∷ []))) in
      let whole : types ≡ 123 ∷ ((sig k ++ sig v) ++ 125 ∷ []) = sym is ∙ same in
      let long : 2 ≤ length types = omega (arith, ap (λ (l : List ℕ). length l) whole, length-append (sig k ++ sig v) (125 ∷ [])) in
      entry long (ap (λ (l : List ℕ). get_or l 0 0) whole) (ap (λ (l : List ℕ). get_or l (length l - 1) 0) whole ∙ last_byte (sig k ++ sig v) 123 125)
