-- A value is well formed exactly where it is so in its parts.
use Rattle.std.proofs.Common.{ℕ, zero, suc, ◌≡◌, true, ◌&&◌, not, List, [], ◌∷◌, ◌++◌, Vec, Box, refl, sym, subst, rules, IsTrue, arith, ◌+◌, ◌*◌, ◌<◌, length, get_or, ap}
use Rattle.std.proofs.lemmas.Bool.{and_parts, and_from}
use Rattle.dbus_texts.specs.PlainTypes.{is_byte}
use Rattle.dbus_types.specs.SigTypes.{type_tree}
use Rattle.dbus_types.specs.declared.sig_type.SigType.{SigType}
use Rattle.dbus_texts.specs.Types.{STRING, OBJECT_PATH, SIGNATURE}
use denote.Param.Weighed.{most, at_most}
use Rattle.dbus_value_model.specs.Forming.{NestsWithin, NestWithin, IsUniform, AreUniform, IsNamed, AreNamed, IsRanged, AreRanged, FormedByParts}
use Rattle.dbus_value_model.specs.Values.{ValueTree, ValueTrees, NumberValue, TextValue, VariantValue, ArrayValue, StructValue, EntryValue, NoValues, MoreValues, IsWellFormed, AreWellFormed}
use Rattle.dbus_value_model.specs.PackedBytes.{keeps_bytes, keep_bytes}
use Rattle.dbus_value_model.specs.declared.value.Value.{Value, Bytes, Array, Struct, Variant, the_lemmas}
use Rattle.dbus_value_model.specs.Sizes.{HasShortSignatures, HaveShortSignatures}

mutual
  pub formed_of : (depth_left : ℕ) (v : ValueTree) → NestsWithin depth_left v → IsUniform v → IsNamed v → IsRanged v → IsWellFormed depth_left v
  formed_of depth_left (NumberValue k n) a b c d = d
  formed_of depth_left (TextValue k t) a b c d = (c, d)
  formed_of zero (VariantValue x) a b c d = absurd a
  formed_of (suc depth_left) (VariantValue x) a b c d = (b.0, formed_of depth_left x a b.1 c d)
  formed_of zero (ArrayValue t xs) a b c d = absurd a
  formed_of (suc depth_left) (ArrayValue t xs) a b c d = (b.0, all_formed_of depth_left xs a b.1 c d)
  formed_of zero (StructValue xs) a b c d = absurd a
  formed_of (suc depth_left) (StructValue xs) a b c d = all_formed_of depth_left xs a b c d
  formed_of depth_left (EntryValue k v) a b c d = (formed_of depth_left k a.0 b.0 c.0 d.0, formed_of depth_left v a.1 b.1 c.1 d.1)

  pub all_formed_of : (depth_left : ℕ) (vs : ValueTrees) → NestWithin depth_left vs → AreUniform vs → AreNamed vs → AreRanged vs → AreWellFormed depth_left vs
  all_formed_of depth_left NoValues a b c d = tt
  all_formed_of depth_left (MoreValues v vs) a b c d = (formed_of depth_left v a.0 b.0 c.0 d.0, all_formed_of depth_left vs a.1 b.1 c.1 d.1)

mutual
  pub parts_of : (depth_left : ℕ) (v : ValueTree) → IsWellFormed depth_left v → NestsWithin depth_left v × IsUniform v × IsNamed v × IsRanged v
  parts_of depth_left (NumberValue k n) h = (tt, tt, tt, h)
  parts_of depth_left (TextValue k t) h = (tt, tt, h.0, h.1)
  parts_of zero (VariantValue x) h = absurd h
  parts_of (suc depth_left) (VariantValue x) h = let w = parts_of depth_left x h.1 in (w.0, (h.0, w.1), w.2, w.3)
  parts_of zero (ArrayValue t xs) h = absurd h
  parts_of (suc depth_left) (ArrayValue t xs) h = let w = all_parts_of depth_left xs h.1 in (w.0, (h.0, w.1), w.2, w.3)
  parts_of zero (StructValue xs) h = absurd h
  parts_of (suc depth_left) (StructValue xs) h = all_parts_of depth_left xs h
  parts_of depth_left (EntryValue k v) h =
      let w = parts_of depth_left k h.0 in
      let u = parts_of depth_left v h.1 in
      ((w.0, u.0), (w.1, u.1), (w.2, u.2), (w.3, u.3))

  pub all_parts_of : (depth_left : ℕ) (vs : ValueTrees) → AreWellFormed depth_left vs → NestWithin depth_left vs × AreUniform vs × AreNamed vs × AreRanged vs
  all_parts_of depth_left NoValues h = (tt, tt, tt, tt)
  all_parts_of depth_left (MoreValues v vs) h =
      let w = parts_of depth_left v h.0 in
      let u = all_parts_of depth_left vs h.1 in
      ((w.0, u.0), (w.1, u.1), (w.2, u.2), (w.3, u.3))

pub formed_exact : FormedByParts
formed_exact depth_left v = (λ h. parts_of depth_left v h, λ h. formed_of depth_left v h.0 h.1 h.2 h.3)

-- Which values keep their arrays of bytes as `Bytes`, level by level and along a list.

pub keeps-Array : {A : Type 0} (t : SigType A) (vs : Vec (Value A) A) → keeps_bytes {A = A} (Array t vs) ≡ (not (is_byte (type_tree t)) && keep_bytes vs.items)
keeps-Array t vs = search (rules, the_lemmas)

pub keeps-Struct : {A : Type 0} (vs : Vec (Value A) A) → keeps_bytes {A = A} (Struct vs) ≡ keep_bytes vs.items
keeps-Struct vs = search (rules, the_lemmas)

pub keeps-Variant : {A : Type 0} (v : Box (Value A) A) → keeps_bytes {A = A} (Variant v) ≡ keeps_bytes v.value
keeps-Variant v = search (rules, the_lemmas)

pub keeps-Bytes : {A : Type 0} (bs : Vec ℕ A) → keeps_bytes {A = A} (Bytes bs) ≡ true
keeps-Bytes bs = search (rules, the_lemmas)

pub keep_push : {A : Type 0} (vs : List (Value A)) (v : Value A) (us : List (Value A)) → us ≡ vs ++ v ∷ [] → IsTrue (keep_bytes vs) → IsTrue (keeps_bytes v) → IsTrue (keep_bytes us)
keep_push vs v us is h k = subst (λ ws. IsTrue (keep_bytes ws)) (sym is) (each vs v h k)
  where
    each : {A : Type 0} (vs : List (Value A)) (v : Value A) → IsTrue (keep_bytes vs) → IsTrue (keeps_bytes v) → IsTrue (keep_bytes (vs ++ v ∷ []))
    each [] v h k = and_from _ _ k refl
    each (u ∷ us) v h k = let w = and_parts _ _ h in and_from _ _ w.0 (each us v w.1 k)

-- The signatures of a value are short where it is well formed, and where its types and texts are.

mutual
  pub formed_short : (depth_left : ℕ) (v : ValueTree) → IsWellFormed depth_left v → HasShortSignatures v
  formed_short depth_left (NumberValue k n) h = tt
  formed_short depth_left (TextValue STRING t) h = tt
  formed_short depth_left (TextValue OBJECT_PATH t) h = tt
  formed_short depth_left (TextValue SIGNATURE t) h = h.1
  formed_short zero (VariantValue x) h = absurd h
  formed_short (suc depth_left) (VariantValue x) h = (h.0.1, formed_short depth_left x h.1)
  formed_short zero (ArrayValue t xs) h = absurd h
  formed_short (suc depth_left) (ArrayValue t xs) h = all_short depth_left xs h.1
  formed_short zero (StructValue xs) h = absurd h
  formed_short (suc depth_left) (StructValue xs) h = all_short depth_left xs h
  formed_short depth_left (EntryValue k v) h = (formed_short depth_left k h.0, formed_short depth_left v h.1)

  pub all_short : (depth_left : ℕ) (vs : ValueTrees) → AreWellFormed depth_left vs → HaveShortSignatures vs
  all_short depth_left NoValues h = tt
  all_short depth_left (MoreValues x xs) h = (formed_short depth_left x h.0, all_short depth_left xs h.1)

mutual
  pub short_of : (v : ValueTree) → IsUniform v → IsNamed v → HasShortSignatures v
  short_of (NumberValue k n) h name = tt
  short_of (TextValue STRING t) h name = tt
  short_of (TextValue OBJECT_PATH t) h name = tt
  short_of (TextValue SIGNATURE t) h name = omega (arith, name.1)
  short_of (VariantValue x) h name = (h.0.1, short_of x h.1 name)
  short_of (ArrayValue t xs) h name = all_short_of xs h.1 name
  short_of (StructValue xs) h name = all_short_of xs h name
  short_of (EntryValue k v) h name = (short_of k h.0 name.0, short_of v h.1 name.1)

  pub all_short_of : (vs : ValueTrees) → AreUniform vs → AreNamed vs → HaveShortSignatures vs
  all_short_of NoValues h name = tt
  all_short_of (MoreValues x xs) h name = (short_of x h.0 name.0, all_short_of xs h.1 name.1)

-- An element is no larger than the largest.

pub below_most : {X : Type 0} (μ : X → ℕ) (xs : List X) (i : ℕ) (x : X) → i < length xs → x ≡ get_or xs i x → 2 * μ x + 0 < 2 * most μ xs + 1
below_most μ xs i x lt e =
    let same : μ x ≡ μ (get_or xs i x) = ap μ e in
    let le = at_most μ xs i x lt in
    omega arith

pub below_most_of_three : {X : Type 0} (μ : X → ℕ) (xs : List X) (i : ℕ) (x : X) → i < length xs → x ≡ get_or xs i x → 3 * μ x + 0 < 3 * most μ xs + 1
below_most_of_three μ xs i x lt e =
    let same : μ x ≡ μ (get_or xs i x) = ap μ e in
    let le = at_most μ xs i x lt in
    omega arith
