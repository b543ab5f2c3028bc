-- Variants and arrays that stand in the bytes, taken apart.
use Rattle.std.proofs.Common.{◌≡◌, ℕ, zero, suc, ◌+◌, ◌-◌, ◌^◌, ◌<◌, ◌≤◌, List, [], ◌∷◌, ◌++◌, length, get_or, take, drop, refl, sym, ap, subst, ◌∙◌, arith, append_assoc}
use Rattle.std.proofs.lemmas.List.{length-append, length-replicate, take_at, drop_at, length-take}
use Rattle.dbus_texts.specs.Types.{TypeTree, VariantType, ArrayType, sig, IsSingleType}
use Rattle.dbus_texts.proofs.TypeTexts.{sig_positive}
use Rattle.dbus_types.specs.Alignments.{alignment_of}
use Rattle.dbus_value_model.specs.Bytes.{gap_to, pad, num}
use Rattle.dbus_value_model.specs.Reading.{number_of}
use Rattle.dbus_value_model.specs.declared.order.Order.{Order}
use Rattle.dbus_value_model.specs.Spelling.{spelling, spellings, contents_start, ended_text, IsWithinLimits}
use Rattle.dbus_value_model.specs.Values.{ValueTree, ValueTrees, VariantValue, ArrayValue, type_of, AllOf, IsWellFormed, AreWellFormed}
use Rattle.dbus_value_model.proofs.Numbers.{length-num}
use Rattle.dbus_value_laws.proofs.ReadSteps.{one_byte}
use Rattle.dbus_value_laws.proofs.ValueSteps.{single_shaped}
use Rattle.dbus_types.specs.SignatureCodes.{first_code}
use Rattle.dbus_types.proofs.TypeCodes.{begins, code_is, variant_is, array_is}
use Rattle.dbus_walk.specs.Standing.{Stands, ElementsStand}
use Rattle.dbus_walk.specs.Containers.{inside}
use Rattle.dbus_walk.specs.declared.container.Container.TheVariants as kind
use Rattle.dbus_walk.proofs.Fronts.{parts_end, parts_there, parts_within}
use Rattle.dbus_walk.proofs.Parts.{there_within, stands_after, stands_as}
use Rattle.dbus_walk.proofs.NumberFacts.{number_there}

variant_of_type : (v : ValueTree) → type_of v ≡ VariantType → (x : ValueTree) × (v ≡ VariantValue x)
variant_of_type (VariantValue x) e = (x, refl)
variant_of_type v e = absurd cc

array_of_type : (v : ValueTree) (u : TypeTree) → type_of v ≡ ArrayType u → (xs : ValueTrees) × (v ≡ ArrayValue u xs)
array_of_type (ArrayValue t xs) u e = let same : t ≡ u = cc in (xs, ap (λ (w : TypeTree). ArrayValue w xs) same)
array_of_type v u e = absurd cc

formed_variant : (depth_left : ℕ) (x : ValueTree) → IsWellFormed depth_left (VariantValue x) → (0 < depth_left) × IsSingleType (type_of x) × IsWellFormed (depth_left - 1) x
formed_variant zero x h = absurd h
formed_variant (suc depth_left) x h = let less : depth_left ≡ suc depth_left - 1 = omega arith in (omega arith, h.0, subst (λ (r : ℕ). IsWellFormed r x) less h.1)

formed_array : (depth_left : ℕ) (t : TypeTree) (xs : ValueTrees) → IsWellFormed depth_left (ArrayValue t xs) → (0 < depth_left) × AllOf t xs × AreWellFormed (depth_left - 1) xs
formed_array zero t xs h = absurd h
formed_array (suc depth_left) t xs h = let less : depth_left ≡ suc depth_left - 1 = omega arith in (omega arith, h.0, subst (λ (r : ℕ). AreWellFormed r xs) less h.1)

-- ---- variants

-- what a variant holds stands after a signature of n bytes
pub record VariantParts (order : Order) (depth_left at : ℕ) (bytes : List ℕ) (x : ValueTree) (rest : List ℕ) (n : ℕ) : Type 0 where
  pub some : 0 < depth_left
  pub single : IsSingleType (type_of x)
  pub few : n < 256
  pub begins : at + 1 + n + 1 ≡ inside order at (VariantValue x)
  pub held : Stands order (depth_left - 1) (take (at + 1 + n - (at + 1)) (drop (at + 1) bytes)) (at + 1 + n + 1) bytes x rest
  pub ends : at + 1 + n + 1 + length (spelling order (at + 1 + n + 1) x) ≡ at + length (spelling order at (VariantValue x))
  pub inside : at + 1 + n + 1 ≤ length bytes

module _ {order : Order} {depth_left : ℕ} {types : List ℕ} {at : ℕ} {bytes rest : List ℕ} where
  pub variant_parts : (x : ValueTree) → Stands order depth_left types at bytes (VariantValue x) rest → (n : ℕ) → n ≡ get_or bytes at 0 → VariantParts order depth_left at bytes x rest n
  unfolding spelling
  variant_parts x s n counted =
      let t = sig (type_of x) in
      let y = num order 1 (length t) in
      let front = ended_text order 1 t in
      let q = at + length front in
      let more = spelling order q x ++ rest in
      let formed = formed_variant depth_left x s.formed in
      let len_y : length y ≡ 1 = length-num order 1 (length t) in
      let long : length front ≡ length t + 2 = omega (arith, len_y, length-append y (t ++ 0 ∷ []), length-append t (0 ∷ [])) in
      let apart : drop at bytes ≡ front ++ more = s.spelled ∙ append_assoc front (spelling order q x) rest in
      let begins : drop at bytes ≡ y ++ ((t ++ 0 ∷ []) ++ more) = apart ∙ append_assoc y (t ++ 0 ∷ []) more in
      let inside : q ≤ length bytes = there_within at front more bytes apart (omega (arith, long)) in
      let count : n ≡ length t =
      counted ∙ one_byte order bytes at (omega (arith, inside, long)) ∙ number_there order 1 (length t) at bytes ((t ++ 0 ∷ []) ++ more) begins (omega (arith, formed.1.1)) in
      let place : q ≡ at + 1 + n + 1 = omega (arith, long, count) in
      let texts : drop (at + 1) bytes ≡ t ++ (0 ∷ more) = stands_after at (at + 1) y ((t ++ 0 ∷ []) ++ more) bytes begins (omega (arith, len_y)) ∙ append_assoc t (0 ∷ []) more in
      record {
        some = formed.0;
        single = formed.1;
        few = omega (arith, count, formed.1.1);
        begins = sym place;
        held = record {
          text = sym (ap (take (at + 1 + n - (at + 1))) texts ∙ take_at t (0 ∷ more) (at + 1 + n - (at + 1)) (omega (arith, count)));
          shaped = single_shaped (type_of x) formed.1;
          formed = formed.2;
          array = s.array;
          small = s.small;
          within = subst (λ (k : ℕ). IsWithinLimits s.array order k x) place s.within;
          spelled = subst (λ (k : ℕ). drop k bytes ≡ spelling order k x ++ rest) place (stands_after at q front more bytes apart refl);
        };
        ends = subst (λ (k : ℕ). k + length (spelling order k x) ≡ at + length (spelling order at (VariantValue x))) place (omega (arith, length-append front (spelling order q x)));
        inside = omega (arith, inside, place);
      }

module _ {order : Order} {depth_left : ℕ} {types : List ℕ} {at : ℕ} {bytes : List ℕ} {v : ValueTree} {rest : List ℕ} (s : Stands order depth_left types at bytes v rest) (code : get_or types 0 0 ≡ 118) where
  pub variant_stands : (x : ValueTree) × (v ≡ VariantValue x)
  variant_stands = variant_of_type v (variant_is (type_of v) (code_is (type_of v) types s.text ∙ code))

  pub variant_held : (n : ℕ) → n ≡ get_or bytes at 0 → VariantParts order depth_left at bytes variant_stands.0 rest n
  variant_held n counted = variant_parts variant_stands.0 (stands_as s variant_stands.1) n counted

-- ---- arrays

-- what stands after the first byte
abbrev pub element_types : List ℕ → List ℕ
element_types types = take (length types - 1) (drop 1 types)

module _ {order : Order} {depth_left : ℕ} {types : List ℕ} {at : ℕ} {bytes : List ℕ} {v : ValueTree} {rest : List ℕ} (s : Stands order depth_left types at bytes v rest) where
  pub record ArrayStands : Type 0 where
    pub type : TypeTree
    pub xs : ValueTrees
    pub is : v ≡ ArrayValue type xs
    pub text : sig type ≡ element_types types
    pub code : first_code type ≡ get_or types 1 0
    pub long : 2 ≤ length types
    pub all : AllOf type xs
    pub some : 0 < depth_left
    pub n : ℕ
    pub counts : number_of order (take 4 (drop (at + gap_to 4 at) bytes)) ≡ n
    pub elements : ElementsStand order (depth_left - 1) (element_types types) (contents_start type at) (contents_start type at + n) bytes xs rest
    pub inside : contents_start type at + n ≤ length bytes
    pub ends : contents_start type at + n ≡ at + length (spelling order at v)

  array_of : (t : TypeTree) (xs : ValueTrees) → v ≡ ArrayValue t xs → sig t ≡ element_types types → ArrayStands
  unfolding spelling
  array_of t xs is text =
      let own = stands_as s is in
      let first = contents_start t at in
      let c = spellings order first xs in
      let n = length c in
      let x = pad 4 at in
      let y = num order 4 n in
      let z = pad (alignment_of t) (at + gap_to 4 at + 4) in
      let formed = formed_array depth_left t xs own.formed in
      let few : n < 256 ^ 4 = omega (arith, own.within.0, own.small) in
      let padded : drop at bytes ≡ x ++ (y ++ (z ++ (c ++ rest))) = own.spelled ∙ simp append_assoc in
      let there = stands_after at (at + gap_to 4 at) x (y ++ (z ++ (c ++ rest))) bytes padded (omega (arith, length-replicate {A = ℕ} (gap_to 4 at) 0)) in
      let inside = parts_within own kind.Array tt in
      record {
        type = t;
        xs = xs;
        is = is;
        text = text;
        code = ap (λ (l : List ℕ). get_or l 1 0) (ap (λ (l : List ℕ). 97 ∷ l) (sym (begins t)) ∙ own.text);
        long = omega (arith, ap length own.text, sig_positive t);
        all = formed.1;
        some = formed.0;
        n = n;
        counts = number_there order 4 n (at + gap_to 4 at) bytes (z ++ (c ++ rest)) there few;
        elements = record {
          type = t;
          text = text;
          shaped = own.shaped;
          all = formed.1;
          formed = formed.2;
          array = own.array;
          small = own.small;
          within = own.within.1;
          spelled = parts_there own kind.Array tt;
          ends = refl;
          inside = omega (arith, inside);
        };
        inside = inside;
        ends = parts_end own kind.Array tt ∙ ap (λ (u : ValueTree). at + length (spelling order at u)) (sym is);
      }

  pub array_stands : get_or types 0 0 ≡ 97 → ArrayStands
  array_stands e =
      let t = array_is (type_of v) types s.text e in
      let w = array_of_type v t.0 t.1 in
      array_of t.0 w.0 w.1 t.2

  -- where its elements begin, and how many bytes they have, as the code finds it
  pub array_begins : (p : ArrayStands) (start first : ℕ) → start ≡ at + gap_to 4 at → ((t : TypeTree) → first_code t ≡ get_or types 1 0 → first ≡ start + 4 + gap_to (alignment_of t) (start + 4))
      → first ≡ contents_start p.type at
  array_begins p start first begins is = is p.type p.code ∙ ap (λ (k : ℕ). k + 4 + gap_to (alignment_of p.type) (k + 4)) begins

  pub array_counts : (p : ArrayStands) (start n : ℕ) → start ≡ at + gap_to 4 at → n ≡ number_of order (take 4 (drop start bytes)) → n ≡ p.n
  array_counts p start n begins is = is ∙ ap (λ (k : ℕ). number_of order (take 4 (drop k bytes))) begins ∙ p.counts

  -- the same of what the code finds: the gaps, the boundary and the count
  pub array_found : (p : ArrayStands) {g b h n : ℕ} → g ≡ gap_to 4 at → ((t : TypeTree) → first_code t ≡ get_or types 1 0 → b ≡ alignment_of t) → h ≡ gap_to b (at + g + 4) → n ≡ number_of order (take 4 (drop (at + g) bytes))
      → (at + g + 4 + h ≡ contents_start p.type at) × (n ≡ p.n)
  array_found p {g} {b} {h} {n} padded bounded aligned counted =
      let start : at + g ≡ at + gap_to 4 at = ap (λ (k : ℕ). at + k) padded in
      let boundary : b ≡ alignment_of p.type = bounded p.type p.code in
      (ap (λ (k : ℕ). at + g + 4 + k) (aligned ∙ ap (λ (k : ℕ). gap_to k (at + g + 4)) boundary) ∙ ap (λ (k : ℕ). k + 4 + gap_to (alignment_of p.type) (k + 4)) start, array_counts p (at + g) n start counted)

  pub elements_there : (p : ArrayStands) (first n : ℕ) → first ≡ contents_start p.type at → n ≡ p.n → ElementsStand order (depth_left - 1) (element_types types) first (first + n) bytes p.xs rest
  elements_there p first n is_first is_n =
      subst (λ (k : ℕ). ElementsStand order (depth_left - 1) (element_types types) first (first + k) bytes p.xs rest) (sym is_n)
      (subst (λ (k : ℕ). ElementsStand order (depth_left - 1) (element_types types) k (k + p.n) bytes p.xs rest) (sym is_first) p.elements)

-- Bytes put one after another.

module _ (at : ℕ) (x r b n : List ℕ) (h : at ≤ length b) (e : n ≡ take at b ++ (x ++ r)) where
  flat : n ≡ (take at b ++ x) ++ r
  flat = e ∙ sym (append_assoc (take at b) x r)

  module _ (q : ℕ) (place : q ≡ at + length x) where
    long : length (take at b ++ x) ≡ q
    long = omega (arith, place, length-append (take at b) x, length-take at b)

    pub put_front : take q n ≡ take at b ++ x
    put_front = ap (take q) flat ∙ take_at (take at b ++ x) r q long

    pub put_rest : drop q n ≡ r
    put_rest = ap (drop q) flat ∙ drop_at (take at b ++ x) r q long

    -- and more after it
    pub put_more : (y s m : List ℕ) → m ≡ take q n ++ (y ++ s) → m ≡ take at b ++ ((x ++ y) ++ s)
    put_more y s m more =
        more ∙ ap (λ (l : List ℕ). l ++ (y ++ s)) put_front ∙ append_assoc (take at b) x (y ++ s)
        ∙ ap (λ (l : List ℕ). take at b ++ l) (sym (append_assoc x y s))

-- bytes in place of others of the same length
module _ (x s r c : List ℕ) (q : ℕ) (is : c ≡ x ++ (s ++ r)) (long : length x ≡ q) where
  pub rest_next : drop q c ≡ s ++ r
  rest_next = ap (drop q) is ∙ drop_at x (s ++ r) q long

  pub put_next : (t next : List ℕ) → next ≡ take q c ++ (t ++ r) → next ≡ (x ++ t) ++ r
  put_next t next put = put ∙ ap (λ (l : List ℕ). l ++ (t ++ r)) (ap (take q) is ∙ take_at x (s ++ r) q long) ∙ sym (append_assoc x t r)
