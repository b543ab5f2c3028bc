-- How long a type's text is, by the lengths of the types in it.
use Rattle.std.proofs.Common.{◌≡◌, ℕ, ◌+◌, ◌-◌, ◌<◌, ◌⊎◌, inl, inr, List, [], ◌∷◌, ◌++◌, length, take, drop, get_or, refl, sym, ap, subst, ◌∙◌, arith, append_assoc}
use Rattle.std.proofs.lemmas.List.{length-append, length-drop, length-take, drop_more, drop_at, drop-drop, drop-take, take-append-drop, get_or-take, get_or-drop}
use Rattle.dbus_texts.specs.Types.{TypeTree, NumberType, TextType, VariantType, ArrayType, StructType, EntryType, TypeTrees, NoTypes, MoreTypes, sig, sigs}
use Rattle.dbus_texts.specs.ComputedKinds.{Nothing, opening}
use Rattle.dbus_texts.proofs.TypeTexts.{sig_positive}
use Rattle.dbus_types.specs.SignatureCodes.{first_code, IsTypeEnd, AreLengths, AreNoted}
use Rattle.dbus_types.proofs.TypeCodes.{begins, code_is, opens, opening_is, array_is, struct_is, entry_is}

-- no type begins with a closing bracket
no_close : (t : TypeTree) (c : ℕ) → first_code t ≡ c → (c ≡ 41) ⊎ (c ≡ 125) → ⊥
no_close t c e close = of t (sym (opening_is t) ∙ ap opening e ∙ nothing close)
  where
    nothing : (c ≡ 41) ⊎ (c ≡ 125) → opening c ≡ Nothing
    nothing (inl is) = ap opening is
    nothing (inr is) = ap opening is

    of : (t : TypeTree) → opens t ≡ Nothing → ⊥
    of (NumberType k) h = cc
    of _ h = cc

-- the byte at which a type's text stands
pub first_there : (types : List ℕ) (pos : ℕ) (t : TypeTree) (more : List ℕ) → pos < length types → drop pos types ≡ sig t ++ more → first_code t ≡ get_or types pos 0
first_there types pos t more lt e =
    ap (λ (s : List ℕ). get_or s 0 0) (ap (λ (s : List ℕ). s ++ more) (sym (begins t)) ∙ sym e ∙ drop_more types pos 0 lt)

first_of_text : (types : List ℕ) (pos : ℕ) (t : TypeTree) (more : List ℕ) → pos < length types → drop pos types ≡ sig t ++ more → get_or types pos 0 ≡ get_or (sig t) 0 0
first_of_text types pos t more lt e = sym (first_there types pos t more lt e) ∙ code_is t (sig t) refl

-- Of what stands between the brackets of the type t, which begins at `at`, some types are left from
-- a place on.
pub record Enclosed (types : List ℕ) (at : ℕ) (t : TypeTree) (more : List ℕ) (place : ℕ) : Type 0 where
  pub us : TypeTrees
  pub close : ℕ
  pub closes : (close ≡ 41) ⊎ (close ≡ 125)
  pub here : drop place types ≡ sigs us ++ (close ∷ more)
  pub ends : place + length (sigs us) + 1 ≡ at + length (sig t)

module _ (types : List ℕ) (at : ℕ) (t : TypeTree) (more : List ℕ) where
  -- all of them are left at first
  pub enclosed_all : at < length types → (get_or types at 0 ≡ 40) ⊎ (get_or types at 0 ≡ 123) → drop at types ≡ sig t ++ more → Enclosed types at t more (at + 1)
  enclosed_all lt opens e = of opens
    where
      after : (s : List ℕ) (c : ℕ) → drop at types ≡ c ∷ s → drop (at + 1) types ≡ s
      after s c e1 = sym (drop-drop 1 at types) ∙ ap (drop 1) e1

      of : (get_or types at 0 ≡ 40) ⊎ (get_or types at 0 ≡ 123) → Enclosed types at t more (at + 1)
      of (inl o) =
          let p = struct_is t (sig t) refl (sym (first_of_text types at t more lt e) ∙ o) in
          let ts = p.0 in
          let whole : drop at types ≡ 40 ∷ (sigs ts ++ (41 ∷ more)) = e ∙ ap (λ (v : TypeTree). sig v ++ more) p.1 ∙ ap (λ (s : List ℕ). 40 ∷ s) (append_assoc (sigs ts) (41 ∷ []) more) in
          record { us = ts; close = 41; closes = inl refl; here = after (sigs ts ++ (41 ∷ more)) 40 whole; ends = omega (arith, ap (λ (v : TypeTree). length (sig v)) p.1, length-append (sigs ts) (41 ∷ [])) }
      of (inr o) =
          let p = entry_is t (sig t) refl (sym (first_of_text types at t more lt e) ∙ o) in
          let k = p.0 in
          let v = p.1 in
          let joined : (sig k ++ (sig v ++ 125 ∷ [])) ++ more ≡ (sig k ++ (sig v ++ [])) ++ (125 ∷ more) = simp append_assoc in
          let whole : drop at types ≡ 123 ∷ ((sig k ++ (sig v ++ [])) ++ (125 ∷ more)) = e ∙ ap (λ (w : TypeTree). sig w ++ more) p.2 ∙ ap (λ (s : List ℕ). 123 ∷ s) joined in
          record { us = MoreTypes k (MoreTypes v NoTypes); close = 125; closes = inr refl; here = after ((sig k ++ (sig v ++ [])) ++ (125 ∷ more)) 123 whole; ends = omega (arith, ap (λ (w : TypeTree). length (sig w)) p.2, length-append (sig k) (sig v ++ 125 ∷ []), length-append (sig v) (125 ∷ []), length-append (sig k) (sig v ++ []), length-append (sig v) []) }

  module _ (place : ℕ) (n : Enclosed types at t more place) where
    -- the first of those that are left is passed over
    pub enclosed_less : (lengths : List ℕ) → AreNoted (at + 1) types lengths → at < place → place < length types
        → (get_or types place 0 ≡ 41 → ⊥) → (get_or types place 0 ≡ 125 → ⊥) → Enclosed types at t more (place + get_or lengths place 0)
    enclosed_less lengths noted lt some one two = of n.us n.here n.ends
      where
        closed : (c : ℕ) → drop place types ≡ c ∷ more → c ≡ get_or types place 0
        closed c e = ap (λ (s : List ℕ). get_or s 0 0) (sym e ∙ drop_more types place 0 some)

        of : (us : TypeTrees) → drop place types ≡ sigs us ++ (n.close ∷ more) → place + length (sigs us) + 1 ≡ at + length (sig t) → Enclosed types at t more (place + get_or lengths place 0)
        of NoTypes here ends = pick n.closes
          where
            pick : (n.close ≡ 41) ⊎ (n.close ≡ 125) → Enclosed types at t more (place + get_or lengths place 0)
            pick (inl is) = absurd (one (sym (closed n.close here) ∙ is))
            pick (inr is) = absurd (two (sym (closed n.close here) ∙ is))
        of (MoreTypes u us) here ends =
            let there : drop place types ≡ sig u ++ (sigs us ++ (n.close ∷ more)) = here ∙ append_assoc (sig u) (sigs us) (n.close ∷ more) in
            let long = noted.value place u (sigs us ++ (n.close ∷ more)) (omega (arith, lt)) there in
            record {
              us = us;
              close = n.close;
              closes = n.closes;
              here = ap (λ (k : ℕ). drop (place + k) types) long ∙ sym (drop-drop (length (sig u)) place types) ∙ ap (drop (length (sig u))) there ∙ drop_at (sig u) (sigs us ++ (n.close ∷ more)) (length (sig u)) refl;
              ends = omega (arith, long, ends, length-append (sig u) (sigs us));
            }

    -- the bytes do not end there
    pub enclosed_inside : place < length types
    enclosed_inside = omega (arith, ap length n.here, length-drop place types, length-append (sigs n.us) (n.close ∷ more))

    -- none are left where a bracket closes
    pub enclosed_none : (get_or types place 0 ≡ 41) ⊎ (get_or types place 0 ≡ 125) → place + 1 ≡ at + length (sig t)
    enclosed_none close = of n.us n.here n.ends
      where
        of : (us : TypeTrees) → drop place types ≡ sigs us ++ (n.close ∷ more) → place + length (sigs us) + 1 ≡ at + length (sig t) → place + 1 ≡ at + length (sig t)
        of NoTypes here ends = omega (arith, ends)
        of (MoreTypes u us) here ends =
            absurd (no_close u (get_or types place 0) (first_there types place u (sigs us ++ (n.close ∷ more)) enclosed_inside (here ∙ append_assoc (sig u) (sigs us) (n.close ∷ more))) close)

-- ---- a type by its first byte

module _ (types : List ℕ) (at : ℕ) (t : TypeTree) (more : List ℕ) (lt : at < length types) (e : drop at types ≡ sig t ++ more) where
  -- an array is its element's type after one byte
  pub record ArrayThere : Type 0 where
    pub element : TypeTree
    pub long : length (sig t) ≡ 1 + length (sig element)
    pub here : drop (at + 1) types ≡ sig element ++ more

  pub array_there : get_or types at 0 ≡ 97 → ArrayThere
  array_there a =
      let p = array_is t (sig t) refl (sym (first_of_text types at t more lt e) ∙ a) in
      let whole : drop at types ≡ 97 ∷ (sig p.0 ++ more) = e ∙ ap (λ (v : TypeTree). sig v ++ more) p.1 in
      record { element = p.0; long = ap (λ (v : TypeTree). length (sig v)) p.1 ∙ omega arith; here = sym (drop-drop 1 at types) ∙ ap (drop 1) whole }

  -- and where it is none, and no bracket opens, it is that byte
  pub one_byte : (get_or types at 0 ≡ 97 → ⊥) → (get_or types at 0 ≡ 40 → ⊥) → (get_or types at 0 ≡ 123 → ⊥) → length (sig t) ≡ 1
  one_byte array struct entry = of t refl
    where
      coded : (u : TypeTree) → t ≡ u → first_code u ≡ get_or types at 0
      coded u is = ap first_code (sym is) ∙ first_there types at t more lt e

      of : (u : TypeTree) → t ≡ u → length (sig t) ≡ 1
      of (NumberType k) is = ap (λ (v : TypeTree). length (sig v)) is
      of (TextType k) is = ap (λ (v : TypeTree). length (sig v)) is
      of VariantType is = ap (λ (v : TypeTree). length (sig v)) is
      of (ArrayType v) is = absurd (array (sym (coded (ArrayType v) is)))
      of (StructType ts) is = absurd (struct (sym (coded (StructType ts) is)))
      of (EntryType k v) is = absurd (entry (sym (coded (EntryType k v) is)))

-- ---- a part of a signature

module _ (types lengths : List ℕ) (all : AreLengths types lengths) where
  -- the type that begins at a place ends there
  pub ends_by : (pos : ℕ) → IsTypeEnd types pos (pos + get_or lengths pos 0)
  ends_by pos t more e = ap (λ (n : ℕ). pos + n) (all.value pos t more e)

  -- the lengths of a part are that part of the lengths
  pub lengths_within : (from k : ℕ) → AreLengths (take k (drop from types)) (take k (drop from lengths))
  lengths_within from k = record {
    same = omega (arith, all.same, length-take k (drop from types), length-take k (drop from lengths), length-drop from types, length-drop from lengths);
    value = value;
  }
    where
      value : (pos : ℕ) (t : TypeTree) (more : List ℕ) → drop pos (take k (drop from types)) ≡ sig t ++ more → get_or (take k (drop from lengths)) pos 0 ≡ length (sig t)
      value pos t more e =
          let inside : pos < k = omega (arith, ap length e, length-drop pos (take k (drop from types)), length-take k (drop from types), length-append (sig t) more, sig_positive t) in
          let m = k - pos in
          let ys = drop (from + pos) types in
          let split : pos + m ≡ k = omega arith in
          let front : take m ys ≡ sig t ++ more =
          ap (take m) (sym (drop-drop pos from types)) ∙ sym (drop-take pos m (drop from types)) ∙ ap (λ (n : ℕ). drop pos (take n (drop from types))) split ∙ e in
          let whole : ys ≡ sig t ++ (more ++ drop m ys) = sym (take-append-drop m ys) ∙ ap (λ (l : List ℕ). l ++ drop m ys) front ∙ append_assoc (sig t) more (drop m ys) in
          get_or-take k (drop from lengths) pos 0 inside ∙ get_or-drop from lengths pos 0 ∙ all.value (from + pos) t (more ++ drop m ys) whole

  -- and of all but the first
  pub lengths_rest : (from : ℕ) → AreLengths (take (length types - from) (drop from types)) (take (length lengths - from) (drop from lengths))
  lengths_rest from = subst (λ (k : ℕ). AreLengths (take (length types - from) (drop from types)) (take (k - from) (drop from lengths))) (sym all.same) (lengths_within from (length types - from))

-- A signature of one byte has one type, of one byte.
pub one_length : (types : List ℕ) → length types ≡ 1 → AreLengths types (1 ∷ [])
one_length types one = record { same = sym one; value = value }
  where
    value : (pos : ℕ) (t : TypeTree) (more : List ℕ) → drop pos types ≡ sig t ++ more → get_or (1 ∷ []) pos 0 ≡ length (sig t)
    value pos t more e =
        let zero : pos ≡ 0 = omega (arith, one, ap length e, length-drop pos types, length-append (sig t) more, sig_positive t) in
        let is : 1 ≡ length (sig t) = omega (arith, one, zero, ap length e, length-drop pos types, length-append (sig t) more, sig_positive t) in
        ap (λ (k : ℕ). get_or (1 ∷ []) k 0) zero ∙ is
