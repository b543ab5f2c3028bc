-- Structs that open together, taken apart.
use Rattle.std.proofs.Common.{◌≡◌, ℕ, suc, ◌+◌, ◌-◌, ◌<◌, ◌≤◌, List, [], ◌∷◌, ◌++◌, length, get_or, take, drop, refl, sym, ap, subst, ◌∙◌, arith, ◌⊎◌, inl, inr, zero}
use Rattle.std.proofs.lemmas.List.{length-append, length-take, length-drop, drop-take, take-take, take_rest, drop-drop, drop_more, length-replicate}
use Rattle.dbus_texts.specs.Types.{sig, sigs}
use Rattle.dbus_texts.proofs.TypeTexts.{sig_positive}
use Rattle.dbus_types.specs.SignatureCodes.{IsTypeEnd, AreLengths}
use Rattle.dbus_types.proofs.TypeCodes.{within}
use Rattle.dbus_types.proofs.TypeLengths.{lengths_within}
use Rattle.dbus_value_model.specs.Bytes.{gap_to, pad}
use Rattle.dbus_value_model.specs.declared.order.Order.{Order}
use Rattle.dbus_value_model.specs.Spelling.{spelling, spellings}
use Rattle.dbus_value_model.specs.Values.{ValueTree, ValueTrees, NoValues, MoreValues, StructValue, type_of, types_of}
use Rattle.dbus_walk.specs.declared.spot.MessageBytes.{MessageBytes}
use Rattle.dbus_walk.specs.declared.spot.Spot.{Spot}
use Rattle.dbus_walk.specs.Standing.{IsRow, FieldsStandAt, between, Stands, AllStand}
use Rattle.dbus_walk.proofs.Enclosed.{struct_stands}
use Rattle.dbus_walk.proofs.Lists.{first_value}

last_or : (k n : ℕ) → k < n + 1 → (k < n) ⊎ (k ≡ n)
last_or zero zero lt = inr refl
last_or zero (suc n) lt = inl (omega arith)
last_or (suc k) zero lt = absurd (omega (arith, lt))
last_or (suc k) (suc n) lt = of (last_or k n (omega (arith, lt)))
  where
    of : (k < n) ⊎ (k ≡ n) → (suc k < suc n) ⊎ (suc k ≡ suc n)
    of (inl lt) = inl (omega (arith, lt))
    of (inr e) = inr (omega (arith, e))

pub no_row : {types lengths : List ℕ} → IsRow types lengths 0
no_row = record { opens = λ k lt. absurd (omega (arith, lt)); ends = λ k lt. absurd (omega (arith, lt)); long = omega arith }

-- one struct more
pub row_more : {types lengths : List ℕ} {n : ℕ} → IsRow types lengths n → get_or types n 0 ≡ 40 → get_or lengths n 0 ≡ length types - n - n → n + 1 + (n + 1) ≤ length types → IsRow types lengths (n + 1)
row_more {types} {lengths} {n} r opens ends long = record { opens = λ k lt. of_opens k (last_or k n lt); ends = λ k lt. of_ends k (last_or k n lt); long = long }
  where
    of_opens : (k : ℕ) → (k < n) ⊎ (k ≡ n) → get_or types k 0 ≡ 40
    of_opens k (inl lt) = r.opens k lt
    of_opens k (inr e) = ap (λ (i : ℕ). get_or types i 0) e ∙ opens

    of_ends : (k : ℕ) → (k < n) ⊎ (k ≡ n) → get_or lengths k 0 ≡ length types - k - k
    of_ends k (inl lt) = r.ends k lt
    of_ends k (inr e) = ap (λ (i : ℕ). get_or lengths i 0) e ∙ ends ∙ ap (λ (i : ℕ). length types - i - i) (sym e)

first_of : (k : ℕ) (x : ℕ) (l : List ℕ) → 0 < k → get_or (take k (x ∷ l)) 0 0 ≡ x
first_of (suc k) x l some = refl
first_of k x l some = absurd (omega (arith, some))

-- the first of what stands there
first_there : (l : List ℕ) (n k : ℕ) → 0 < k → n < length l → get_or (take k (drop n l)) 0 0 ≡ get_or l n 0
first_there l n k some lt = ap (λ (r : List ℕ). get_or (take k r) 0 0) (drop_more l n 0 lt) ∙ first_of k (get_or l n 0) (drop (n + 1) l) some

-- within a further bracket
between_more : (types : List ℕ) (n : ℕ) → 1 + n + n + 1 ≤ length types → within (between n types) ≡ between (n + 1) types
between_more types n long =
    let a = length types - n - n in
    let l = drop n types in
    let is_a : a ≡ 1 + (a - 1) = omega arith in
    let long_w : length (take a l) ≡ a = omega (arith, length-take a l, length-drop n types) in
    let counts : length (take a l) - 1 - 1 ≡ length types - (n + 1) - (n + 1) = omega (arith, long_w) in
    let inner : drop 1 (take a l) ≡ take (a - 1) (drop (n + 1) types) =
    ap (λ (k : ℕ). drop 1 (take k l)) is_a ∙ drop-take 1 (a - 1) l ∙ ap (take (a - 1)) (drop-drop 1 n types) in
    ap (λ (k : ℕ). take k (drop 1 (take a l))) counts ∙ ap (take (length types - (n + 1) - (n + 1))) inner
    ∙ take-take (length types - (n + 1) - (n + 1)) (a - 1) (drop (n + 1) types) (omega arith)

no_values : (us : ValueTrees) → length (sigs (types_of us)) ≡ 0 → us ≡ NoValues
no_values NoValues e = refl
no_values (MoreValues v us) e = absurd (omega (arith, e, length-append (sig (type_of v)) (sigs (types_of us)), sig_positive (type_of v)))

-- a struct that is the only one of some values
pub record OneStruct (order : Order) (depth_left : ℕ) (types : List ℕ) (at : ℕ) (bytes : List ℕ) (vs : ValueTrees) (rest : List ℕ) : Type 0 where
  pub xs : ValueTrees
  pub is : vs ≡ MoreValues (StructValue xs) NoValues
  pub some : 0 < depth_left
  pub held : AllStand order (depth_left - 1) types (at + gap_to 8 at) bytes xs rest

pub between_long : (types : List ℕ) (n : ℕ) → length (between n types) ≡ length types - n - n
between_long types n = omega (arith, length-take (length types - n - n) (drop n types), length-drop n types)

module _ {types lengths : List ℕ} {row : ℕ} (noted : AreLengths types lengths) (r : IsRow types lengths row) (n : ℕ) (lt : n < row) where
  -- the type that begins there ends with them
  here_ends : IsTypeEnd (between n types) 0 (length (between n types))
  here_ends t more e =
      let k = length types - n - n in
      let inside : n < length lengths = omega (arith, noted.same, r.long, lt) in
      omega (arith, between_long types n, r.ends n lt, first_there lengths n k (omega (arith, r.long, lt)) inside, (lengths_within types lengths noted n k).value 0 t more e)

  pub one_struct : {order : Order} {depth_left at : ℕ} {bytes rest : List ℕ} (vs : ValueTrees) → AllStand order depth_left (between n types) at bytes vs rest → OneStruct order depth_left (between (n + 1) types) at bytes vs rest
  unfolding spellings
  one_struct NoValues a = absurd (omega (arith, ap length a.text, between_long types n, r.long, lt))
  one_struct {order} {depth_left} {at} {bytes} {rest} (MoreValues v us) a =
      let long = here_ends (type_of v) (sigs (types_of us)) (sym a.text) in
      let none : us ≡ NoValues = no_values us (omega (arith, long, ap length a.text, length-append (sig (type_of v)) (sigs (types_of us)))) in
      let first = first_value (between n types) 0 (length (between n types)) here_ends a in
      let whole : Stands order depth_left (between n types) at bytes v rest =
      subst (λ (u : ValueTrees). Stands order depth_left (between n types) at bytes v (spellings order (at + length (spelling order at v)) u ++ rest)) none
      (subst (λ (types : List ℕ). Stands order depth_left types at bytes v (spellings order (at + length (spelling order at v)) us ++ rest)) (take_rest (between n types) 0) first) in
      let code : get_or (between n types) 0 0 ≡ 40 = first_there types n (length types - n - n) (omega (arith, r.long, lt)) (omega (arith, r.long, lt)) ∙ r.opens n lt in
      let s = struct_stands whole code in
      record {
        xs = s.0;
        is = ap (λ (u : ValueTrees). MoreValues v u) none ∙ ap (λ (x : ValueTree). MoreValues x NoValues) s.1;
        some = s.2;
        held = subst (λ (inner : List ℕ). AllStand order (depth_left - 1) inner (at + gap_to 8 at) bytes s.0 rest) (between_more types n (omega (arith, r.long, lt))) s.3;
      }

-- it ends where its fields do
pub one_ends : (order : Order) (at : ℕ) (xs : ValueTrees) → gap_to 8 at ≡ 0 → at + length (spellings order at xs) ≡ at + length (spellings order at (MoreValues (StructValue xs) NoValues))
unfolding spelling spellings
one_ends order at xs padded = let e : at + gap_to 8 at ≡ at = omega (arith, padded) in
    omega (arith, padded, length-replicate {A = ℕ} (gap_to 8 at) 0, ap (λ (k : ℕ). length (spellings order k xs)) e, length-append (spelling order at (StructValue xs)) [], length-append (pad 8 at) (spellings order (at + gap_to 8 at) xs))

pub aligned : (at : ℕ) → gap_to 8 (at + gap_to 8 at) ≡ 0
unfolding gap_to
aligned at = omega arith

-- and they stand at the spot, within one bracket more
pub fields_inside : (source : MessageBytes) (spot : Spot) (outer : ℕ) {vs : ValueTrees} {rest : List ℕ} → gap_to 8 spot.at ≡ 0
    → (o : OneStruct source.order (spot.depth_left - outer) (between (outer + 1 + 1) spot.types.now) spot.at source.bytes.now vs rest) → FieldsStandAt source spot (outer + 1) o.xs rest
fields_inside source spot outer {vs} {rest} padded o =
    let deep : spot.depth_left - outer - 1 ≡ spot.depth_left - (outer + 1) = omega arith in
    let place : spot.at + gap_to 8 spot.at ≡ spot.at = omega (arith, padded) in
    subst (λ (d : ℕ). AllStand source.order d (between (outer + 1 + 1) spot.types.now) spot.at source.bytes.now o.xs rest) deep
    (subst (λ (k : ℕ). AllStand source.order (spot.depth_left - outer - 1) (between (outer + 1 + 1) spot.types.now) k source.bytes.now o.xs rest) place o.held)

-- with none around them
pub outermost : {order : Order} (depth_left : ℕ) {types : List ℕ} {at : ℕ} {bytes : List ℕ} {vs : ValueTrees} {rest : List ℕ} → AllStand order depth_left types at bytes vs rest → AllStand order (depth_left - 0) types at bytes vs rest
outermost {order} depth_left {types} {at} {bytes} {vs} {rest} a = let e : depth_left ≡ depth_left - 0 = omega arith in subst (λ (d : ℕ). AllStand order d types at bytes vs rest) e a
