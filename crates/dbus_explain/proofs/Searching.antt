-- What a search passes and enters.
use Rattle.std.proofs.Common.{◌≡◌, ◌<◌, ◌≤◌, arith, get_or, ℕ, zero, suc, ◌+◌, List, false, true, length, take, drop, Option, None, Some, IfSome, refl, sym, ap, ◌∙◌}
use Rattle.std.proofs.Common.{subst, zero-add, add-one, [], ◌∷◌, ◌++◌, append_assoc, append-nil}
use Rattle.std.proofs.lemmas.List.{drop_at, take_at}
use Rattle.std.proofs.lemmas.List.Concat.{flat_map-append}
use Rattle.dbus_texts.specs.Types.{TypeTree, TypeTrees, STRING, OBJECT_PATH, SIGNATURE, NumberType, TextType, VariantType, ArrayType, StructType, EntryType, NoTypes, MoreTypes, IsShaped}
use Rattle.dbus_texts.specs.Types.{AreShaped, sig, sigs}
use Rattle.dbus_texts.specs.declared.text_kind.TextKind.{TextKind}
use Rattle.dbus_texts.specs.declared.text_kind.TextKind.TheVariants.{Single}
use Rattle.dbus_texts.proofs.KindFacts.{shaped_of, are_shaped_of}
use Rattle.dbus_types.specs.Alignments.{alignment_of}
use Rattle.dbus_types.proofs.TypeCodes.{code_is}
use Rattle.dbus_types.specs.SignatureCodes.{IsTypeEnd}
use Rattle.dbus_value_model.specs.Bytes.{gap_to}
use Rattle.dbus_value_laws.proofs.ValueSteps.{shaped_inside}
use Rattle.dbus_explain.specs.Places.{Leads, AreBodyTypes, Enters, IsAmong, IsIn, IsSignatureField, IsTyped, Pass, Passes, field_type}
use Rattle.dbus_explain.specs.Places.{first_element, IsInText, IsPath}
use Rattle.dbus_explain.specs.declared.path.PathStep.{PathStep}
use Rattle.dbus_explain.specs.declared.path.PathStep.TheVariants.{Key, Value}
use Rattle.dbus_explain.specs.declared.search.ValuePlace.{ValuePlace}
use Rattle.dbus_explain.specs.Names.{IsTextIf, path_text, step_text}
use Rattle.dbus_explain.specs.declared.search.StatedText.{StatedText}
use Rattle.dbus_value_model.specs.declared.order.Order.TheVariants.{Little}

pub some_map : {A : Type 0} {P Q : A → Type 0} (o : Option A) → ((a : A) → P a → Q a) → IfSome o P → IfSome o Q
some_map None f h = h
some_map (Some a) f h = f a h

-- where the first element is
pub element_at : (t : TypeTree) (p length after first : ℕ) → length ≡ p + gap_to 4 p → after ≡ length + 4
    → first ≡ after + gap_to (alignment_of t) after → first ≡ first_element t p
element_at t p length after first a b c = let e : after ≡ p + gap_to 4 p + 4 = b ∙ ap (λ (n : ℕ). n + 4) a in c
    ∙ ap (λ (n : ℕ). n + gap_to (alignment_of t) n) e

-- the first of several types, and the others
pub split_types : (us : TypeTrees) (types front back : List ℕ) (end : ℕ) → sigs us ≡ types → AreShaped us → (length types ≡ 0 → ⊥)
    → IsTypeEnd types 0 end → front ≡ take end types → back ≡ drop end types
    → (u : TypeTree) × (vs : TypeTrees) × (us ≡ MoreTypes u vs) × (sig u ≡ front) × (sigs vs ≡ back) × IsShaped true u × AreShaped vs
split_types NoTypes types front back end is shaped some ends f b = absurd (some (sym (ap (λ (l : List ℕ). length l) is)))
split_types (MoreTypes u vs) types front back end is shaped some ends f b =
    let at : end ≡ length (sig u) = ends u (sigs vs) (sym is) ∙ zero-add (length (sig u)) in (
      u,
      vs,
      refl,
      sym (f ∙ (ap (λ (l : List ℕ). take end l) (sym is) ∙ take_at (sig u) (sigs vs) end (sym at))),
      sym (b ∙ (ap (λ (l : List ℕ). drop end l) (sym is) ∙ drop_at (sig u) (sigs vs) end (sym at))),
      shaped_inside u shaped.0,
      shaped.1,
    )

module _ (bytes : List ℕ) (at : ℕ) where
  -- one more value is passed
  pub passed_more : (t : TypeTree) (n p q r : ℕ) → Pass bytes at t n p q → Passes bytes at t q r → Pass bytes at t (n + 1) p r
  passed_more t n p q r h k = let more : Pass bytes at t (suc n) p r = (q, h, k) in
      subst (λ (m : ℕ). Pass bytes at t m p r) (sym (add-one n)) more

  -- the place is in the first of these types, or one is passed
  pub among_first : (us vs : TypeTrees) (u : TypeTree) (p : ℕ) → us ≡ MoreTypes u vs → IsIn bytes at u p → IsAmong bytes at us p 0 u p
  among_first us vs u p is h = subst (λ (xs : TypeTrees). IsAmong bytes at xs p 0 u p) (sym is) (refl, refl, h)

  pub among_later : (us vs : TypeTrees) (u t : TypeTree) (p r n q : ℕ) → us ≡ MoreTypes u vs → Passes bytes at u p r
      → IsAmong bytes at vs r n t q → IsAmong bytes at us p (suc n) t q
  among_later us vs u t p r n q is h k = subst (λ (xs : TypeTrees). IsAmong bytes at xs p (suc n) t q) (sym is) (r, h, k)

  -- of two types, the second
  second : (k v u : TypeTree) (p n q : ℕ) → (n ≡ 0 → ⊥) → IsAmong bytes at (MoreTypes k (MoreTypes v NoTypes)) p n u q
      → IsAmong bytes at (MoreTypes k (MoreTypes v NoTypes)) p 1 u q
  second k v u p zero q not h = absurd (not refl)
  second k v u p (suc zero) q not h = h
  second k v u p (suc (suc n)) q not h = absurd h.2.2

  pub key_entered : (k v u : TypeTree) (p n q : ℕ) (step : PathStep) → n ≡ 0 → step ≡ Key
      → p + gap_to 8 p ≤ at → IsAmong bytes at (MoreTypes k (MoreTypes v NoTypes)) (p + gap_to 8 p) n u q → Enters bytes at (EntryType k v) p step u q
  key_entered k v u p n q step zero_is is at_most h =
      subst (λ (s : PathStep). Enters bytes at (EntryType k v) p s u q) (sym is)
      (at_most, subst (λ (m : ℕ). IsAmong bytes at (MoreTypes k (MoreTypes v NoTypes)) (p + gap_to 8 p) m u q) zero_is h)

  pub value_entered : (k v u : TypeTree) (p n q : ℕ) (step : PathStep) → (n ≡ 0 → ⊥) → step ≡ Value
      → p + gap_to 8 p ≤ at → IsAmong bytes at (MoreTypes k (MoreTypes v NoTypes)) (p + gap_to 8 p) n u q → Enters bytes at (EntryType k v) p step u q
  value_entered k v u p n q step not is at_most h = subst (λ (s : PathStep). Enters bytes at (EntryType k v) p s u q) (sym is)
      (at_most, second k v u (p + gap_to 8 p) n q not h)

  -- ---- texts of types

  pub single_typed : (p : ℕ) (w : List ℕ) (q : ℕ) → IsTyped bytes at Single p w q
      → (t : TypeTree) × (sig t ≡ w) × IsShaped true t × IsTyped bytes at Single p (sig t) q
  single_typed p w q h =
      let single = h.ended.is_kind.0 in
      let is : sig single.0 ≡ w = sym (h.text_is ∙ single.2) in (
        single.0,
        is,
        shaped_inside single.0 (shaped_of single.0 false 0 0 single.1),
        subst (λ (s : List ℕ). IsTyped bytes at Single p s q)
            (sym is) h,
      )

  pub body_typed : (n p : ℕ) (w : List ℕ) → Pass bytes at field_type n 16 p → IsSignatureField bytes at p w
      → ((m q : ℕ) (v : List ℕ) → m < n → Pass bytes at field_type m 16 q → IsSignatureField bytes at q v → ⊥)
      → (ts : TypeTrees) × (sigs ts ≡ w) × AreShaped ts × AreBodyTypes bytes at ts
  body_typed n p w before h first =
      let signature = h.value.ended.is_kind.0 in
      let is : sigs signature.0 ≡ w = sym (h.value.text_is ∙ signature.2) in (
        signature.0,
        is,
        are_shaped_of signature.0 0 0 signature.1,
        record { n = n; p = p; before = before; signature = subst (λ (s : List ℕ). IsSignatureField bytes at p s) (sym is) h; first = first },
      )

  -- ---- a step from a type

  module _ (t : TypeTree) (p : ℕ) (step : PathStep) (spot : ValuePlace) where
    pub leads_by : (u : TypeTree) → t ≡ u → Leads bytes at u p step spot → Leads bytes at t p step spot
    leads_by u is h = subst (λ (x : TypeTree). Leads bytes at x p step spot) (sym is) h

-- A path grows by a step.

pub text_more : (steps : List PathStep) (step : PathStep) → path_text steps ++ step_text step ≡ path_text (steps ++ step ∷ [])
text_more steps step = sym (flat_map-append step_text steps (step ∷ []) ∙ ap (λ s. path_text steps ++ s) (append-nil (step_text step)))

module _ (bytes : List ℕ) (at : ℕ) (t : TypeTree) (p : ℕ) where
  -- steps that lead from a value to one in it, from which others go on
  abbrev pub GoesOn : (steps : List PathStep) → TypeTree → ℕ → Type 0
  GoesOn steps u q = (more : List PathStep) (v : TypeTree) (r : ℕ) → IsPath bytes at u q more v r → IsPath bytes at t p (steps ++ more) v r

  pub goes_on : (steps : List PathStep) (u : TypeTree) (q : ℕ) (step : PathStep) (v : TypeTree) (r : ℕ) → GoesOn steps u q
      → Enters bytes at u q step v r → GoesOn (steps ++ step ∷ []) v r
  goes_on steps u q step v r h enters = λ more w o path. subst (λ (s : List PathStep). IsPath bytes at t p s w o)
      (sym (append_assoc steps (step ∷ []) more)) (h (step ∷ more) w o (v, r, enters, path))

  pub ends_there : (steps : List PathStep) (u : TypeTree) (q : ℕ) → GoesOn steps u q → IsPath bytes at t p steps u q
  ends_there steps u q h = subst (λ (s : List PathStep). IsPath bytes at t p s u q) (append-nil steps) (h [] u q (refl, refl))

-- Which types are texts.

-- a text whose code is not that of a SIGNATURE is in a STRING as well
pub long_only : (bytes : List ℕ) (at p start stated : ℕ) (t : TypeTree) (types : List ℕ) → sig t ≡ types → (get_or types 0 0 ≡ 103 → ⊥)
    → IsInText bytes at t p start stated → IsInText bytes at (TextType STRING) p start stated
long_only bytes at p start stated (TextType SIGNATURE) types is other h = absurd (other (sym (code_is (TextType SIGNATURE) types is)))
long_only bytes at p start stated (TextType STRING) types is other h = h
long_only bytes at p start stated (TextType OBJECT_PATH) types is other h = h
long_only bytes at p start stated (NumberType k) types is other h = absurd h
long_only bytes at p start stated VariantType types is other h = absurd h
long_only bytes at p start stated (ArrayType t) types is other h = absurd h
long_only bytes at p start stated (StructType ts) types is other h = absurd h
long_only bytes at p start stated (EntryType k v) types is other h = absurd h

module _ (bytes : List ℕ) (at : ℕ) where
  -- a text begins behind its place, and at the place of the fault or before it
  pub inside_text : (t : TypeTree) (p start stated : ℕ) → IsInText bytes at t p start stated → (p < start) × (start ≤ at)
  inside_text (TextType SIGNATURE) p start stated h = (omega (arith, h.0), h.1)
  inside_text (TextType STRING) p start stated h = (omega (arith, h.0), h.1)
  inside_text (TextType OBJECT_PATH) p start stated h = (omega (arith, h.0), h.1)
  inside_text (NumberType k) p start stated h = absurd h
  inside_text VariantType p start stated h = absurd h
  inside_text (ArrayType t) p start stated h = absurd h
  inside_text (StructType ts) p start stated h = absurd h
  inside_text (EntryType k v) p start stated h = absurd h

  -- one text of types is at a place
  pub typed_one : (kind : TextKind) (p : ℕ) (w x : List ℕ) (q r : ℕ) → IsTyped bytes at kind p w q → IsTyped bytes at kind p x r → (w ≡ x) × (q ≡ r)
  typed_one kind p w x q r a b =
      let long : length w ≡ length x = let e = sym (a.measured Little) ∙ b.measured Little in cc in (
        a.text_is ∙ (ap (λ (n : ℕ). take n (drop (p + 1) bytes)) long ∙ sym b.text_is),
        a.after ∙ (ap (λ (n : ℕ). p + 1 + n + 1) long ∙ sym b.after),
      )

-- the text that is found is one of which Is holds
pub text_if : (Is : (start stated : ℕ) → Type 0) (text : Option StatedText) → IfSome text (λ x. Is x.start x.stated)
    → (text ≡ None → (start stated : ℕ) → Is start stated → ⊥) → IsTextIf Is text
text_if Is None some none = none refl
text_if Is (Some x) some none = some
