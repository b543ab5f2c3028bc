-- What is found of a value by what is found of its parts, level by level and along a list.
use Rattle.std.proofs.Common.{◌≡◌, ◌↔◌, ℕ, zero, suc, ◌+◌, ◌-◌, ◌<◌, not, List, [], ◌∷◌, ◌++◌, Vec, Box, IsTrue, length, get_or, take, refl, sym, ap, subst, ◌∙◌, arith}
use Rattle.std.proofs.lemmas.Bool.{and_parts, and_from}
use Rattle.std.proofs.lemmas.List.{take_more}
use Rattle.dbus_texts.specs.Types.{NumberType, BYTE, IsSingleType}
use Rattle.dbus_texts.specs.PlainTypes.{is_byte}
use Rattle.dbus_types.specs.SigTypes.{type_tree}
use Rattle.dbus_types.specs.declared.sig_type.SigType.{SigType}
use Rattle.dbus_value_model.specs.Checks.{IsTyped}
use Rattle.dbus_value_model.specs.Forming.{NestsWithin, NestWithin, AreUniform, IsNamed, AreNamed}
use Rattle.dbus_value_model.specs.Verdicts.{HoldsNumbers, HoldNumbers, earlier, IsVerdict, Fits, Fit, IsPartsVerdict, ArePartsVerdict}
use Rattle.dbus_value_model.specs.Values.{AllOf, type_of}
use Rattle.dbus_value_model.specs.ValueViews.{value_tree, value_trees_of, byte_values}
use Rattle.dbus_value_model.specs.declared.value.Value.{Value, Bytes, Array, Struct, Variant}
use Rattle.dbus_value_model.specs.declared.verdict.Verdict.{Verdict}
use Rattle.dbus_value_model.specs.declared.verdict.Verdict.TheVariants.{TooDeep, Mixed, Misnamed, Sound}
use Rattle.dbus_value_model.proofs.Formed.{keeps-Array, keeps-Struct, keeps-Variant, keeps-Bytes}
use Rattle.dbus_value_model.proofs.ValueRows.{tree-Bytes, tree-Array, tree-Struct, tree-Variant}

-- ---- any facts

pub both : (a b c d e f g h : Type 0) (one other : Verdict) → IsVerdict a b c d one → IsVerdict e f g h other → IsVerdict (a × e) (b × f) (c × g) (d × h) (earlier one other)
both a b c d e f g h TooDeep other x y = λ w. x w.0
both a b c d e f g h Mixed TooDeep x y = λ w. y w.1
both a b c d e f g h Mixed Mixed x y = ((x.0, y.0), λ w. x.1 w.0)
both a b c d e f g h Mixed Misnamed x y = ((x.0, y.0), λ w. x.1 w.0)
both a b c d e f g h Mixed Sound x y = ((x.0, y.0), λ w. x.1 w.0)
both a b c d e f g h Misnamed TooDeep x y = λ w. y w.1
both a b c d e f g h Misnamed Mixed x y = ((x.0, y.0), λ w. y.1 w.1)
both a b c d e f g h Misnamed Misnamed x y = ((x.0, y.0), (x.1, y.1), λ w. x.2 w.0)
both a b c d e f g h Misnamed Sound x y = ((x.0, y.0), (x.1, y.1), λ w. x.2 w.0)
both a b c d e f g h Sound TooDeep x y = λ w. y w.1
both a b c d e f g h Sound Mixed x y = ((x.0, y.0), λ w. y.1 w.1)
both a b c d e f g h Sound Misnamed x y = ((x.0, y.0), (x.1, y.1), λ w. y.2 w.1)
both a b c d e f g h Sound Sound x y = ((x.0, y.0), (x.1, y.1), (x.2, y.2), (x.3, y.3))

pub verdict_by : (a b c d e f g h : Type 0) → a ↔ e → b ↔ f → c ↔ g → (d → h) → (v : Verdict) → IsVerdict a b c d v → IsVerdict e f g h v
verdict_by a b c d e f g h p q r s TooDeep w = λ x. w (p.1 x)
verdict_by a b c d e f g h p q r s Mixed w = (p.0 w.0, λ x. w.1 (q.1 x))
verdict_by a b c d e f g h p q r s Misnamed w = (p.0 w.0, q.0 w.1, λ x. w.2 (r.1 x))
verdict_by a b c d e f g h p q r s Sound w = (p.0 w.0, q.0 w.1, r.0 w.2, s w.3)

-- ---- a list

same : {a : Type 0} → a ↔ a
same = (λ w. w, λ w. w)

module _ {A : Type 0} (Each : List A → Type 0) (P : A → Type 0) (cons : (x : A) (xs : List A) → Each (x ∷ xs) ↔ (P x × Each xs)) (nil : Each []) where
  pushed : (xs : List A) (x : A) → (Each xs × P x) ↔ Each (xs ++ x ∷ [])
  pushed [] x = (λ w. (cons x []).1 (w.1, nil), λ w. (nil, ((cons x []).0 w).0))
  pushed (y ∷ ys) x =
      let rest = pushed ys x in (
        λ w. let v = (cons y ys).0 w.0 in (cons y (ys ++ x ∷ [])).1 (v.0, rest.0 (v.1, w.1)),
        λ w. let v = (cons y (ys ++ x ∷ [])).0 w in let u = rest.1 v.1 in ((cons y ys).1 (v.0, u.0), u.1),
      )

module _ {A : Type 0} where
  fit_cons : (v : Value A) (vs : List (Value A)) → Fit (v ∷ vs) ↔ (Fits v × Fit vs)
  fit_cons v vs = (
    λ w. let k = and_parts _ _ w.1 in ((w.0.0, k.0), (w.0.1, k.1)),
    λ w. ((w.0.0, w.1.0), and_from _ _ w.0.1 w.1.1),
  )

  together : (depth_left : ℕ) (vs : List (Value A)) (v : Value A) (one other : Verdict) → ArePartsVerdict depth_left vs one → IsPartsVerdict depth_left v other → ArePartsVerdict depth_left (vs ++ v ∷ []) (earlier one other)
  together depth_left vs v one other x y =
      verdict_by _ _ _ _ _ _ _ _
      (pushed (λ us. NestWithin depth_left (value_trees_of us)) (λ u. NestsWithin depth_left (value_tree u)) (λ u us. same) tt vs v)
      (pushed Fit Fits fit_cons (tt, refl) vs v)
      (pushed (λ us. AreNamed (value_trees_of us)) (λ u. IsNamed (value_tree u)) (λ u us. same) tt vs v)
      (pushed (λ us. HoldNumbers (value_trees_of us)) (λ u. HoldsNumbers (value_tree u)) (λ u us. same) tt vs v).0
      (earlier one other) (both _ _ _ _ _ _ _ _ one other x y)

  -- of the values in front of i, and of the one at i
  pub found_more : (depth_left : ℕ) (vs : List (Value A)) (i : ℕ) (v : Value A) (one other : Verdict) → i < length vs → v ≡ get_or vs i v → ArePartsVerdict depth_left (take i vs) one → IsPartsVerdict depth_left v other → ArePartsVerdict depth_left (take (i + 1) vs) (earlier one other)
  found_more depth_left vs i v one other l is x y =
      let more : take (i + 1) vs ≡ take i vs ++ v ∷ [] = take_more vs i v l ∙ ap (λ (u : Value A). take i vs ++ u ∷ []) (sym is) in
      subst (λ us. ArePartsVerdict depth_left us (earlier one other)) (sym more) (together depth_left (take i vs) v one other x y)

-- ---- a container

second : {a : Type 0} → (Unit {0} × a) ↔ a
second = (λ w. w.1, λ w. (tt, w))

module _ {A : Type 0} where
  pub array_found : (depth_left : ℕ) (t : SigType A) (vs : Vec (Value A) A) (one other : Verdict) → 0 < depth_left → IsVerdict (Unit {0}) (IsTrue (not (is_byte (type_tree t))) × AllOf (type_tree t) (value_trees_of vs.items)) (Unit {0}) (Unit {0}) one
      → ArePartsVerdict (depth_left - 1) vs.items other → IsPartsVerdict depth_left (Array t vs) (earlier one other)
  array_found zero t vs one other l x y = absurd (omega arith)
  array_found (suc n) t vs one other l x y =
      let e : suc n - 1 ≡ n = omega arith in
      let parts : ArePartsVerdict n vs.items other = rw e at y in
      rw (tree-Array t vs, keeps-Array t vs) (verdict_by _ _ _ _ _ _ _ _ second (
        λ w. ((w.0.1, w.1.0), and_from _ _ w.0.0 w.1.1),
        λ w. let k = and_parts _ _ w.1 in ((k.0, w.0.0), (w.0.1, k.1)),
      ) second (λ w. w.1) (earlier one other) (both _ _ _ _ _ _ _ _ one other x parts))

  pub struct_found : (depth_left : ℕ) (vs : Vec (Value A) A) (one : Verdict) → 0 < depth_left → ArePartsVerdict (depth_left - 1) vs.items one → IsPartsVerdict depth_left (Struct vs) one
  struct_found zero vs one l x = absurd (omega arith)
  struct_found (suc n) vs one l x =
      let e : suc n - 1 ≡ n = omega arith in
      let parts : ArePartsVerdict n vs.items one = rw e at x in
      rw (tree-Struct vs, keeps-Struct vs) parts

  pub variant_found : (depth_left : ℕ) (v : Box (Value A) A) (one other : Verdict) → 0 < depth_left → IsVerdict (Unit {0}) (IsSingleType (type_of (value_tree v.value))) (Unit {0}) (Unit {0}) one → IsPartsVerdict (depth_left - 1) v.value other → IsPartsVerdict depth_left (Variant v) (earlier one other)
  variant_found zero v one other l x y = absurd (omega arith)
  variant_found (suc n) v one other l x y =
      let e : suc n - 1 ≡ n = omega arith in
      let part : IsPartsVerdict n v.value other = rw e at y in
      rw (tree-Variant v, keeps-Variant v) (verdict_by _ _ _ _ _ _ _ _ second (λ w. ((w.0, w.1.0), w.1.1), λ w. (w.0.0, (w.0.1, w.1))) second (λ w. w.1) (earlier one other) (both _ _ _ _ _ _ _ _ one other x part))

  pub bytes_found : (depth_left : ℕ) (bs : Vec ℕ A) → 0 < depth_left → HoldNumbers (byte_values bs.items) → IsPartsVerdict {A = A} depth_left (Bytes bs) Sound
  bytes_found zero bs l h = absurd (omega arith)
  bytes_found (suc n) bs l h = let w = bytes_fine n bs.items in rw (tree-Bytes bs, keeps-Bytes bs) (w.0, (w.1, refl), w.2, h)
    where
      bytes_fine : (n : ℕ) (bs : List ℕ) → NestWithin n (byte_values bs) × (AllOf (NumberType BYTE) (byte_values bs) × AreUniform (byte_values bs)) × AreNamed (byte_values bs)
      bytes_fine n [] = (tt, (tt, tt), tt)
      bytes_fine n (b ∷ bs) = let w = bytes_fine n bs in ((tt, w.0), ((refl, w.1.0), (tt, w.1.1)), (tt, w.2))

  -- the whole value, of its own type and of its parts
  pub whole_found : (depth_left : ℕ) (v : Value A) (one other : Verdict) → IsVerdict (Unit {0}) (IsSingleType (type_of (value_tree v))) (Unit {0}) (Unit {0}) one → IsPartsVerdict depth_left v other
      → IsVerdict (NestsWithin depth_left (value_tree v)) (IsTyped v) (IsNamed (value_tree v)) (HoldsNumbers (value_tree v)) (earlier one other)
  whole_found depth_left v one other x y =
      verdict_by _ _ _ _ _ _ _ _ second (
        λ w. record { single = w.0; uniform = w.1.0; packed = w.1.1 },
        λ t. (t.single, (t.uniform, t.packed)),
      ) second (λ w. w.1) (earlier one other) (both _ _ _ _ _ _ _ _ one other x y)
