-- The signature of a type and of a value's type, level by level, and the types of several values.
use Rattle.std.proofs.Common.{◌≡◌, ℕ, ◌+◌, ◌<◌, ◌≤◌, List, [], ◌∷◌, ◌++◌, length, get_or, drop, map, Vec, Box, refl, ap, ◌∙◌, sym, arith, Bool, true, false, length-append, subst, zero, suc, rules, ◌↔◌, IsTrue}
use Rattle.std.specs.declared.sync.Arc.{Arc}
use Rattle.std.proofs.lemmas.Bool.{false≢true}
use Rattle.std.proofs.lemmas.List.{at_drop_more, at_drop_all, drop_more}
use Rattle.dbus_texts.specs.Types.{TypeTree, StructType, EntryType, MoreTypes, type_trees, sig, sigs, TypeTrees, NumberType, TextType, VariantType, ArrayType, NoTypes, IsBasic, IsComplete, AreComplete, IsSingleType}
use Rattle.dbus_types.specs.SigTypes.{type_tree, type_trees_of}
use Rattle.dbus_types.specs.declared.sig_type.SigType.{SigType, Array, Struct, Entry, the_lemmas}
use Rattle.dbus_types.proofs.TypeEnds.{type_tree-Array, type_tree-Struct, type_tree-Entry}
use Rattle.dbus_value_model.specs.Values.{ValueTree, StructValue, type_of, types_of, ValueTrees, NumberValue, TextValue, VariantValue, ArrayValue, EntryValue, NoValues, MoreValues, AllOf}
use Rattle.dbus_value_model.specs.ValueViews.{value_tree, value_trees_of}
use Rattle.dbus_value_model.specs.declared.value.Value.{Value, Bytes, Array as ArrayOf, Struct as StructOf, Entry as EntryOf}
use Rattle.dbus_value_model.specs.declared.value.DictEntry.{DictEntry}
use Rattle.dbus_value_model.proofs.ValueRows.{tree-Bytes, tree-Array, tree-Struct, tree-Entry}
use Rattle.dbus_value_model.specs.Forming.{IsUniform, AreUniform, IsItemType, HasTypedParts, AreTypedParts, AreTypedItems, WholesSpeakForParts}

pub sig-Array : {A : Type 0} (t : Arc (SigType A) A) → sig (type_tree {A = A} (Array t)) ≡ 97 ∷ sig (type_tree t.value)
sig-Array t = ap sig (type_tree-Array t)

pub sig-Struct : {A : Type 0} (ts : Arc (Vec (SigType A) A) A) → sig (type_tree {A = A} (Struct ts)) ≡ 40 ∷ (sigs (type_trees_of ts.value.items) ++ 41 ∷ [])
sig-Struct ts = ap sig (type_tree-Struct ts)

pub sig-Entry : {A : Type 0} (k v : Arc (SigType A) A) → sig (type_tree {A = A} (Entry k v)) ≡ 123 ∷ (sig (type_tree k.value) ++ (sig (type_tree v.value) ++ 125 ∷ []))
sig-Entry k v = ap sig (type_tree-Entry k v)

pub sigs_more : {A : Type 0} (ts : List (SigType A)) (i : ℕ) (t : SigType A) → i < length ts → t ≡ get_or ts i t →
    sigs (type_trees_of (drop i ts)) ≡ sig (type_tree t) ++ sigs (type_trees_of (drop (i + 1) ts))
sigs_more {A} ts i t lt e =
    at_drop_more (λ (l : List (SigType A)). sigs (type_trees_of l)) ts i t lt ∙ ap (λ (x : SigType A). sig (type_tree x) ++ sigs (type_trees_of (drop (i + 1) ts))) (sym e)

pub sigs_end : {A : Type 0} (ts : List (SigType A)) (i : ℕ) → length ts ≤ i → sigs (type_trees_of (drop i ts)) ≡ []
sigs_end {A} ts i le = at_drop_all (λ (l : List (SigType A)). sigs (type_trees_of l)) ts i le

length_within : (a b : ℕ) (s : List ℕ) → length (a ∷ (s ++ b ∷ [])) ≡ length s + 2
length_within a b s = omega (arith, length-append s (b ∷ []))

pub length-Array : {A : Type 0} (t : Arc (SigType A) A) → length (sig (type_tree {A = A} (Array t))) ≡ 1 + length (sig (type_tree t.value))
length-Array t = ap length (sig-Array t) ∙ omega arith

pub length-Struct : {A : Type 0} (ts : Arc (Vec (SigType A) A) A) → length (sig (type_tree {A = A} (Struct ts))) ≡ 2 + length (sigs (type_trees_of ts.value.items))
length-Struct ts = ap length (sig-Struct ts) ∙ omega (arith, length_within 40 41 (sigs (type_trees_of ts.value.items)))

pub length-Entry : {A : Type 0} (k v : Arc (SigType A) A) → length (sig (type_tree {A = A} (Entry k v))) ≡ 2 + length (sig (type_tree k.value)) + length (sig (type_tree v.value))
length-Entry k v =
    let a = sig (type_tree k.value) in
    let b = sig (type_tree v.value) in
    ap length (sig-Entry k v) ∙ omega (arith, length-append a (b ++ 125 ∷ []), length-append b (125 ∷ []))

pub length_more : {A : Type 0} (ts : List (SigType A)) (i : ℕ) (t : SigType A) → i < length ts → t ≡ get_or ts i t →
    length (sigs (type_trees_of (drop i ts))) ≡ length (sig (type_tree t)) + length (sigs (type_trees_of (drop (i + 1) ts)))
length_more ts i t lt e = ap length (sigs_more ts i t lt e) ∙ length-append (sig (type_tree t)) (sigs (type_trees_of (drop (i + 1) ts)))

pub length_end : {A : Type 0} (ts : List (SigType A)) (i : ℕ) → length ts ≤ i → length (sigs (type_trees_of (drop i ts))) ≡ 0
length_end ts i le = ap length (sigs_end ts i le)

pub ruleset type_lengths = (length-Array, length-Struct, length-Entry, length_more, length_end)

-- ---- of values

pub type-Bytes : {A : Type 0} (bs : Vec ℕ A) → sig (type_of (value_tree {A = A} (Bytes bs))) ≡ 97 ∷ 121 ∷ []
type-Bytes bs = ap (λ (v : ValueTree). sig (type_of v)) (tree-Bytes bs)

pub type-Array : {A : Type 0} (t : SigType A) (vs : Vec (Value A) A) → sig (type_of (value_tree {A = A} (ArrayOf t vs))) ≡ 97 ∷ sig (type_tree t)
type-Array t vs = ap (λ (v : ValueTree). sig (type_of v)) (tree-Array t vs)

pub type-Struct : {A : Type 0} (vs : Vec (Value A) A) → sig (type_of (value_tree {A = A} (StructOf vs))) ≡ 40 ∷ (sigs (types_of (value_trees_of vs.items)) ++ 41 ∷ [])
type-Struct vs = ap (λ (v : ValueTree). sig (type_of v)) (tree-Struct vs)

pub type-Entry : {A : Type 0} (e : Box (DictEntry A) A) → sig (type_of (value_tree {A = A} (EntryOf e))) ≡ 123 ∷ (sig (type_of (value_tree e.value.key)) ++ (sig (type_of (value_tree e.value.value)) ++ 125 ∷ []))
type-Entry e = ap (λ (v : ValueTree). sig (type_of v)) (tree-Entry e)

pub types_more : {A : Type 0} (vs : List (Value A)) (i : ℕ) (v : Value A) → i < length vs → v ≡ get_or vs i v →
    sigs (types_of (value_trees_of (drop i vs))) ≡ sig (type_of (value_tree v)) ++ sigs (types_of (value_trees_of (drop (i + 1) vs)))
types_more {A} vs i v lt e =
    at_drop_more (λ (l : List (Value A)). sigs (types_of (value_trees_of l))) vs i v lt ∙ ap (λ (x : Value A). sig (type_of (value_tree x)) ++ sigs (types_of (value_trees_of (drop (i + 1) vs)))) (sym e)

pub types_end : {A : Type 0} (vs : List (Value A)) (i : ℕ) → length vs ≤ i → sigs (types_of (value_trees_of (drop i vs))) ≡ []
types_end {A} vs i le = at_drop_all (λ (l : List (Value A)). sigs (types_of (value_trees_of l))) vs i le

pub value_length-Bytes : {A : Type 0} (bs : Vec ℕ A) → length (sig (type_of (value_tree {A = A} (Bytes bs)))) ≡ 2
value_length-Bytes bs = ap length (type-Bytes bs)

pub value_length-Array : {A : Type 0} (t : SigType A) (vs : Vec (Value A) A) → length (sig (type_of (value_tree {A = A} (ArrayOf t vs)))) ≡ 1 + length (sig (type_tree t))
value_length-Array t vs = ap length (type-Array t vs) ∙ omega arith

pub value_length-Struct : {A : Type 0} (vs : Vec (Value A) A) → length (sig (type_of (value_tree {A = A} (StructOf vs)))) ≡ 2 + length (sigs (types_of (value_trees_of vs.items)))
value_length-Struct vs = ap length (type-Struct vs) ∙ omega (arith, length_within 40 41 (sigs (types_of (value_trees_of vs.items))))

pub value_length-Entry : {A : Type 0} (e : Box (DictEntry A) A) →
    length (sig (type_of (value_tree {A = A} (EntryOf e)))) ≡ 2 + length (sig (type_of (value_tree e.value.key))) + length (sig (type_of (value_tree e.value.value)))
value_length-Entry e =
    let a = sig (type_of (value_tree e.value.key)) in
    let b = sig (type_of (value_tree e.value.value)) in
    ap length (type-Entry e) ∙ omega (arith, length-append a (b ++ 125 ∷ []), length-append b (125 ∷ []))

pub value_length_more : {A : Type 0} (vs : List (Value A)) (i : ℕ) (v : Value A) → i < length vs → v ≡ get_or vs i v →
    length (sigs (types_of (value_trees_of (drop i vs)))) ≡ length (sig (type_of (value_tree v))) + length (sigs (types_of (value_trees_of (drop (i + 1) vs))))
value_length_more vs i v lt e = ap length (types_more vs i v lt e) ∙ length-append (sig (type_of (value_tree v))) (sigs (types_of (value_trees_of (drop (i + 1) vs))))

pub value_length_end : {A : Type 0} (vs : List (Value A)) (i : ℕ) → length vs ≤ i → length (sigs (types_of (value_trees_of (drop i vs)))) ≡ 0
value_length_end vs i le = ap length (types_end vs i le)

pub ruleset value_lengths = (value_length-Bytes, value_length-Array, value_length-Struct, value_length-Entry, value_length_more, value_length_end)

pub types_of-trees : {A : Type 0} (vs : List (Value A)) → types_of (value_trees_of vs) ≡ type_trees (map (λ v. type_of (value_tree v)) vs)
types_of-trees [] = refl
types_of-trees (v ∷ vs) = ap (MoreTypes (type_of (value_tree v))) (types_of-trees vs)

pub struct_type : {A : Type 0} (ts : List (SigType A)) (vs : List (Value A)) → map type_tree ts ≡ map (λ v. type_of (value_tree v)) vs →
    StructType (type_trees_of ts) ≡ type_of (StructValue (value_trees_of vs))
struct_type ts vs e = ap (λ (l : List TypeTree). StructType (type_trees l)) e ∙ ap StructType (sym (types_of-trees vs))

same_entries : (k l u v : TypeTree) → k ≡ l → u ≡ v → EntryType k u ≡ EntryType l v
same_entries k l u v e f = cc

pub entry_type : {A : Type 0} (k v : Arc (SigType A) A) (e : Box (DictEntry A) A) → type_tree k.value ≡ type_of (value_tree e.value.key) → type_tree v.value ≡ type_of (value_tree e.value.value) →
    type_tree {A = A} (Entry k v) ≡ type_of (value_tree {A = A} (EntryOf e))
entry_type k v e key held = type_tree-Entry k v ∙ same_entries _ _ _ _ key held ∙ ap type_of (sym (tree-Entry e))

-- The types of a value's parts, where the whole's type is one that a signature spells.

-- with fewer arrays and structs open around it
mutual
  loosen : (t : TypeTree) (inside : Bool) (a s b r : ℕ) → b ≤ a → r ≤ s → IsComplete t inside a s → IsComplete t inside b r
  loosen (NumberType n) i a s b r l m h = tt
  loosen (TextType n) i a s b r l m h = tt
  loosen VariantType i a s b r l m h = tt
  loosen (ArrayType t) i a s b r l m h = let c = h.0 in (omega arith, loosen t true (a + 1) s (b + 1) r (omega arith) m h.1)
  loosen (StructType ts) i a s b r l m h = let c = h.0 in (omega arith, h.1, all_loosen ts a (s + 1) b (r + 1) l (omega arith) h.2)
  loosen (EntryType k v) i a s b r l m h = (h.0, h.1, loosen v false a s b r l m h.2)

  all_loosen : (ts : TypeTrees) (a s b r : ℕ) → b ≤ a → r ≤ s → AreComplete ts a s → AreComplete ts b r
  all_loosen NoTypes a s b r l m h = tt
  all_loosen (MoreTypes t ts) a s b r l m h = (loosen t false a s b r l m h.0, all_loosen ts a s b r l m h.1)

alone : (t : TypeTree) (a s : ℕ) → IsComplete t false a s → length (sig t) < 256 → IsSingleType t
alone t a s c l = (loosen t false a s 0 0 (omega arith) (omega arith) c, l)

as_item : (t : TypeTree) (a s : ℕ) → IsComplete t true a s → length (sig t) < 256 → IsItemType t
as_item (NumberType n) a s c l = tt
as_item (TextType n) a s c l = tt
as_item VariantType a s c l = tt
as_item (ArrayType t) a s c l = alone (ArrayType t) a s c l
as_item (StructType ts) a s c l = alone (StructType ts) a s c l
as_item (EntryType k v) a s c l = c.1

basic_alone : (t : TypeTree) (a s : ℕ) → IsBasic t → IsComplete t false a s × (length (sig t) < 256)
basic_alone (NumberType n) a s h = (tt, omega arith)
basic_alone (TextType n) a s h = (tt, omega arith)
basic_alone VariantType a s h = absurd h
basic_alone (ArrayType t) a s h = absurd h
basic_alone (StructType ts) a s h = absurd h
basic_alone (EntryType k v) a s h = absurd h

mutual
  parts : (v : ValueTree) (inside : Bool) (a s : ℕ) → IsComplete (type_of v) inside a s → length (sig (type_of v)) < 256 → IsUniform v → HasTypedParts v
  parts (NumberValue k n) i a s c l u = tt
  parts (TextValue k t) i a s c l u = tt
  parts (VariantValue x) i a s c l u = (u.0, parts x false 0 0 u.0.0 u.0.1 u.1)
  parts (ArrayValue t xs) i a s c l u = (u.0, items t xs (a + 1) s c.1 (omega arith) u.0 u.1)
  parts (StructValue xs) i a s c l u = fields xs a (s + 1) c.2 (omega (arith, length-append (sigs (types_of xs)) (41 ∷ []))) u
  parts (EntryValue k v) i a s c l u =
      let key = basic_alone (type_of k) a s c.1 in
      let short : length (sig (type_of v)) < 256 = omega (arith, length-append (sig (type_of k)) (sig (type_of v) ++ 125 ∷ []), length-append (sig (type_of v)) (125 ∷ [])) in
      (alone (type_of k) a s key.0 key.1, parts k false a s key.0 key.1 u.0, alone (type_of v) a s c.2 short, parts v false a s c.2 short u.1)

  fields : (xs : ValueTrees) (a s : ℕ) → AreComplete (types_of xs) a s → length (sigs (types_of xs)) < 256 → AreUniform xs → AreTypedParts xs
  fields NoValues a s c l u = tt
  fields (MoreValues x xs) a s c l u =
      let first : length (sig (type_of x)) < 256 = omega (arith, length-append (sig (type_of x)) (sigs (types_of xs))) in
      let rest : length (sigs (types_of xs)) < 256 = omega (arith, length-append (sig (type_of x)) (sigs (types_of xs))) in
      (alone (type_of x) a s c.0 first, parts x false a s c.0 first u.0, fields xs a s c.1 rest u.1)

  items : (t : TypeTree) (xs : ValueTrees) (a s : ℕ) → IsComplete t true a s → length (sig t) < 256 → AllOf t xs → AreUniform xs → AreTypedItems xs
  items t NoValues a s c l h u = tt
  items t (MoreValues x xs) a s c l h u =
      let cx = subst (λ w. IsComplete w true a s) (sym h.0) c in
      let lx = subst (λ w. length (sig w) < 256) (sym h.0) l in
      (as_item (type_of x) a s cx lx, parts x true a s cx lx u.0, items t xs a s c l h.1 u.1)

mutual
  even : (v : ValueTree) → HasTypedParts v → IsUniform v
  even (NumberValue k n) h = tt
  even (TextValue k t) h = tt
  even (VariantValue x) h = (h.0, even x h.1)
  even (ArrayValue t xs) h = (h.0, even_items xs h.1)
  even (StructValue xs) h = even_parts xs h
  even (EntryValue k v) h = (even k h.1, even v h.3)

  even_parts : (xs : ValueTrees) → AreTypedParts xs → AreUniform xs
  even_parts NoValues h = tt
  even_parts (MoreValues x xs) h = (even x h.1, even_parts xs h.2)

  even_items : (xs : ValueTrees) → AreTypedItems xs → AreUniform xs
  even_items NoValues h = tt
  even_items (MoreValues x xs) h = (even x h.1, even_items xs h.2)

pub wholes_speak : WholesSpeakForParts
wholes_speak v h = (λ u. parts v false 0 0 h.0 h.1 u, λ p. even v p)

-- When types are the same, level by level and along two lists.

-- the types of two lists, of values or of types
module _ {X Y : Type 0} (F : X → TypeTree) (G : Y → TypeTree) where
  pub same_length : (xs : List X) (ys : List Y) → type_trees (map F xs) ≡ type_trees (map G ys) → length xs ≡ length ys
  same_length [] [] e = refl
  same_length [] (y ∷ ys) e = let n : NoTypes ≡ MoreTypes (G y) (type_trees (map G ys)) = e in absurd cc
  same_length (x ∷ xs) [] e = let n : MoreTypes (F x) (type_trees (map F xs)) ≡ NoTypes = e in absurd cc
  same_length (x ∷ xs) (y ∷ ys) e =
      let n : MoreTypes (F x) (type_trees (map F xs)) ≡ MoreTypes (G y) (type_trees (map G ys)) = e in
      let rest : type_trees (map F xs) ≡ type_trees (map G ys) = cc in
      ap suc (same_length xs ys rest)

  -- two that differ
  pub differ_at : (xs : List X) (ys : List Y) (i : ℕ) (d : X) (e : Y) → i < length xs → i < length ys → (F (get_or xs i d) ≡ G (get_or ys i e) → ⊥) → type_trees (map F xs) ≡ type_trees (map G ys) → ⊥
  differ_at [] ys i d e l m n h = absurd (omega arith)
  differ_at (x ∷ xs) [] i d e l m n h = absurd (omega arith)
  differ_at (x ∷ xs) (y ∷ ys) zero d e l m n h = let w : MoreTypes (F x) (type_trees (map F xs)) ≡ MoreTypes (G y) (type_trees (map G ys)) = h in n cc
  differ_at (x ∷ xs) (y ∷ ys) (suc i) d e l m n h = let w : MoreTypes (F x) (type_trees (map F xs)) ≡ MoreTypes (G y) (type_trees (map G ys)) = h in differ_at xs ys i d e (omega arith) (omega arith) n cc

  -- one more of each
  pub same_more : (xs : List X) (ys : List Y) (i : ℕ) (d : X) (e : Y) → i < length xs → i < length ys → F (get_or xs i d) ≡ G (get_or ys i e) → type_trees (map F (drop (i + 1) xs)) ≡ type_trees (map G (drop (i + 1) ys)) → type_trees (map F (drop i xs)) ≡ type_trees (map G (drop i ys))
  same_more xs ys i d e l m s h =
      let one : MoreTypes (F (get_or xs i d)) (type_trees (map F (drop (i + 1) xs))) ≡ MoreTypes (G (get_or ys i e)) (type_trees (map G (drop (i + 1) ys))) = cc in
      ap (λ us. type_trees (map F us)) (drop_more xs i d l) ∙ one ∙ sym (ap (λ us. type_trees (map G us)) (drop_more ys i e m))

-- types of structs, by their fields
pub structs_same : (t u : TypeTree) (a b : TypeTrees) (r : Bool) → t ≡ StructType a → u ≡ StructType b → (IsTrue r ↔ (a ≡ b)) → IsTrue r ↔ (t ≡ u)
structs_same t u a b r first second h = (λ e. let inner = h.0 e in cc, λ e. h.1 cc)

-- types of arrays, by their elements
pub arrays_same : (t u a b : TypeTree) (r : Bool) → t ≡ ArrayType a → u ≡ ArrayType b → (IsTrue r ↔ (a ≡ b)) → IsTrue r ↔ (t ≡ u)
arrays_same t u a b r first second h = (λ e. let inner = h.0 e in cc, λ e. h.1 cc)

-- types of dict entries, by their values' types if those of the keys are the same
module _ (t u k l v w : TypeTree) (r : Bool) (first : t ≡ EntryType k v) (second : u ≡ EntryType l w) where
  pub entries_same : k ≡ l → (IsTrue r ↔ (v ≡ w)) → IsTrue r ↔ (t ≡ u)
  entries_same key h = (λ e. let inner = h.0 e in cc, λ e. h.1 cc)

  pub entries_differ : r ≡ false → (IsTrue r ↔ (k ≡ l)) → IsTrue r ↔ (t ≡ u)
  entries_differ is_false h = (λ e. absurd (false≢true (sym is_false ∙ e)), λ e. absurd (false≢true (sym is_false ∙ h.1 cc)))

-- no other type is that of an array, of a struct or of a dict entry
module _ {A : Type 0} (o : SigType A) where
  pub array_told : ((x : Arc (SigType A) A) → o ≡ Array x → ⊥) → (t : TypeTree) → ArrayType t ≡ type_tree o → ⊥
  array_told n t e = search (rules, the_lemmas)

  pub struct_told : ((x : Arc (Vec (SigType A) A) A) → o ≡ Struct x → ⊥) → (ts : TypeTrees) → StructType ts ≡ type_tree o → ⊥
  struct_told n ts e = search (rules, the_lemmas)

  pub entry_told : ((x y : Arc (SigType A) A) → o ≡ Entry x y → ⊥) → (k v : TypeTree) → EntryType k v ≡ type_tree o → ⊥
  entry_told n k v e = search (rules, the_lemmas)

pub told_apart : (t u : TypeTree) → (t ≡ u → ⊥) → IsTrue false ↔ (t ≡ u)
told_apart t u n = (λ e. absurd (false≢true e), λ e. absurd (n e))
