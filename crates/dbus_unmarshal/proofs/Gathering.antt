-- A container opens, its parts are gathered one after another, and it is built of them.
use Rattle.std.proofs.Common.{◌≡◌, ℕ, zero, suc, ◌<◌, List, [], ◌∷◌, ◌++◌, length, get_or, map, Box, Vec, not, false, Result, Ok, Err, IfOk, append-nil, refl, sym, ap, subst, ◌∙◌, arith, rules}
use Rattle.std.proofs.lemmas.Bool.{and_from, and_parts}
use Rattle.std.specs.declared.sync.Arc.{Arc}
use Rattle.std.proofs.lemmas.List.{map_push, length-map}
use Rattle.std.proofs.lemmas.Result.{IfOk-weaker}
use Rattle.std.specs.Result.{MatchResult}
use Rattle.std.specs.Prelude.{Option, Some, None, MatchOption}
use Rattle.std.specs.Borrow.{Bor}
use Rattle.std.specs.Slice.{IsItemAt}
use Rattle.dbus_texts.specs.ComputedKinds.{type_spelled, types_spelled}
use Rattle.dbus_texts.specs.Types.{TypeTree, TypeTrees, ArrayType, StructType, EntryType, sig, sigs}
use Rattle.dbus_texts.specs.PlainTypes.{is_byte}
use Rattle.dbus_texts.proofs.TypeTexts.{spelled_sig, spelled_sigs}
use Rattle.dbus_types.specs.SigTypes.{type_tree, type_trees_of}
use Rattle.dbus_types.specs.declared.sig_type.SigType as ty
use Rattle.dbus_types.specs.declared.sig_type.SigType.{SigType, the_lemmas}
use Rattle.dbus_types.proofs.TypeEnds.{type_tree-Array, type_tree-Struct, type_tree-Entry}
use Rattle.dbus_value_model.specs.ValueViews.{value_tree}
use Rattle.dbus_value_model.specs.Values.{ValueTree, ValueTrees, VariantValue, ArrayValue, StructValue, EntryValue, NoValues, MoreValues, AllOf, IsWellFormed, AreWellFormed, type_of, types_of, value_trees}
use Rattle.dbus_value_model.specs.declared.value.Value.{Value, Array, Struct}
use Rattle.dbus_value_model.specs.declared.value.DictEntry.{DictEntry}
use Rattle.dbus_value_model.proofs.Formed.{keeps-Array, keeps-Struct, keep_push}
use Rattle.dbus_value_model.proofs.ValueRows.{tree-Array, tree-Struct}
use Rattle.dbus_walk.specs.Containers.{IsOf, parts}
use Rattle.dbus_walk.specs.declared.container.Container.{Container}
use Rattle.dbus_walk.specs.declared.container.Container.TheVariants as kind
use Rattle.dbus_unmarshal.specs.declared.gathered.Gathered.{Gathered}
use Rattle.dbus_unmarshal.specs.declared.gathered.Gathered.TheVariants as gathered
use Rattle.dbus_unmarshal.specs.Builds.{IsBuilt, AreBuilt, IsVariantOf, IsEntryOf, IsStructOf, IsArrayOf, IsNext, Holds, Gathers, Pushes, Builds, Closes}

-- ---- the types of parts

struct_types : (ts : TypeTrees) (v : ValueTree) → IsStructOf ts v → ts ≡ types_of (parts v)
struct_types ts (StructValue zs) is = is
struct_types ts v is = absurd is

all_type : (u : TypeTree) (done us : List ValueTree) (x : ValueTree) → AllOf u (value_trees (done ++ x ∷ us)) → u ≡ type_of x
all_type u [] us x h = sym h.0
all_type u (y ∷ done) us x h = all_type u done us x h.1

element_type : (t : TypeTree) (v : ValueTree) → IsArrayOf t v → (done us : List ValueTree) (x : ValueTree) → parts v ≡ value_trees (done ++ x ∷ us) → t ≡ type_of x
element_type t (ArrayValue u zs) is done us x has = is.0 ∙ all_type u done us x (subst (AllOf u) has is.2)
element_type t v is done us x has = absurd is

array_all : (depth_left : ℕ) (u : TypeTree) (xs : ValueTrees) → IsWellFormed depth_left (ArrayValue u xs) → AllOf u xs
array_all zero u xs h = absurd h
array_all (suc depth_left) u xs h = h.0

pub same_type : (t u : TypeTree) (w : List ℕ) → sig t ≡ w → sig u ≡ w → t ≡ u
same_type t u w first second = sym (spelled_sig t) ∙ ap type_spelled (first ∙ sym second) ∙ spelled_sig u

pub same_types : (ts us : TypeTrees) (w : List ℕ) → sigs ts ≡ w → sigs us ≡ w → ts ≡ us
same_types ts us w first second = sym (spelled_sigs ts) ∙ ap types_spelled (first ∙ sym second) ∙ spelled_sigs us

pub variant_opened : (v : ValueTree) → IsOf kind.Variant v → (t : TypeTree) (types : List ℕ) → sigs (types_of (parts v)) ≡ types → sig t ≡ types → IsVariantOf t v × ◌≡◌ {A = List ValueTree} [] []
variant_opened (VariantValue x) is t types text spelled = (same_type t (type_of x) types spelled (sym (append-nil (sig (type_of x))) ∙ text), refl)
variant_opened v is t types text spelled = absurd is

pub variant_left : (k : Container) → (k ≡ kind.Struct → ⊥) → (k ≡ kind.Entry → ⊥) → (k ≡ kind.Array → ⊥) → k ≡ kind.Variant
variant_left kind.Variant a b c = refl
variant_left kind.Struct a b c = absurd (a refl)
variant_left kind.Entry a b c = absurd (b refl)
variant_left kind.Array a b c = absurd (c refl)

module _ {A : Type 0} where
  pub at_field : (ts : List (SigType A)) (d : SigType A) (done us : List ValueTree) (x : ValueTree) → type_trees_of ts ≡ types_of (value_trees (done ++ x ∷ us)) → (length done < length ts) × (type_tree (get_or ts (length done) d) ≡ type_of x)
  at_field [] d [] us x e = absurd cc
  at_field [] d (y ∷ done) us x e = absurd cc
  at_field (t ∷ ts) d [] us x e = let same : type_tree t ≡ type_of x = cc in (omega arith, same)
  at_field (t ∷ ts) d (y ∷ done) us x e =
      let tail : type_trees_of ts ≡ types_of (value_trees (done ++ x ∷ us)) = cc in
      let found = at_field ts d done us x tail in
      (omega (arith, found.0), found.1)

  pub none_built : {rs : List (Value A)} → rs ≡ [] → AreBuilt [] rs
  none_built e = subst (λ (l : List (Value A)). AreBuilt [] l) (sym e) (record { trees = refl; packed = refl })

  pub built_more : {xs : List ValueTree} {v : ValueTree} {r : Value A} (rs us : List (Value A)) → us ≡ rs ++ r ∷ [] → AreBuilt xs rs → IsBuilt v r → AreBuilt (xs ++ v ∷ []) us
  built_more {xs} {v} {r} rs us is a b = record {
    trees = ap (map value_tree) is ∙ map_push value_tree rs r ∙ ap (λ (l : List ValueTree). l ++ value_tree r ∷ []) a.trees ∙ ap (λ (t : ValueTree). xs ++ t ∷ []) b.tree;
    packed = keep_push rs r us is a.packed b.packed;
  }

  built_long : {xs : List ValueTree} (rs : List (Value A)) → AreBuilt xs rs → length xs ≡ length rs
  built_long rs a = sym (ap length a.trees) ∙ length-map rs value_tree

  -- ---- the next part

  module _ (m : Gathered A) (v x : ValueTree) (done us : List ValueTree) (n : IsNext m v done x us) where
    held_as : {k : Gathered A} → m ≡ k → Holds k v done
    held_as e = subst (λ (k : Gathered A). Holds k v done) e n.held

    pub next_field : (ts : Arc (Vec (SigType A) A) A) (rs : Vec (Value A) A) → m ≡ gathered.Fields ts rs → (d : SigType A) → (length rs.items < length ts.value.items) × (type_tree (get_or ts.value.items (length rs.items) d) ≡ type_of x)
    next_field ts rs e d =
        let h = held_as e in
        let found = at_field ts.value.items d done us x (struct_types (type_trees_of ts.value.items) v h.0 ∙ ap types_of n.has) in
        let long = built_long rs.items h.1 in
        (subst (λ (k : ℕ). k < length ts.value.items) long found.0, ap (λ (k : ℕ). type_tree (get_or ts.value.items k d)) (sym long) ∙ found.1)

    pub next_element : (t : SigType A) (rs : Vec (Value A) A) → m ≡ gathered.Elements t rs → type_tree t ≡ type_of x
    next_element t rs e = element_type (type_tree t) v (held_as e).0 done us x n.has

    -- a variant has no second part, and a dict entry no third
    pub next_none : ((t : SigType A) → m ≡ gathered.Variant t → ⊥) → ((t u : SigType A) → m ≡ gathered.Entry t u → ⊥) → ((u : SigType A) (k : Value A) → m ≡ gathered.Key u k → ⊥)
        → ((ts : Arc (Vec (SigType A) A) A) (rs : Vec (Value A) A) → m ≡ gathered.Fields ts rs → ⊥) → ((t : SigType A) (rs : Vec (Value A) A) → m ≡ gathered.Elements t rs → ⊥) → ⊥
    next_none a b c d f = of m v refl n.has n.held
      where
        of : (k : Gathered A) (w : ValueTree) → m ≡ k → parts w ≡ value_trees (done ++ x ∷ us) → Holds k w done → ⊥
        of (gathered.Variant t) w e has h = a t e
        of (gathered.Held y) (VariantValue z) e has h = let one : MoreValues z NoValues ≡ MoreValues (value_tree y) (MoreValues x (value_trees us)) = has ∙ ap (λ (l : List ValueTree). value_trees (l ++ x ∷ us)) (sym h.1.trees) in absurd cc
        of (gathered.Held y) w e has h = h.0
        of (gathered.Entry t u) w e has h = b t u e
        of (gathered.Key u y) w e has h = c u y e
        of (gathered.Both y) (EntryValue z q) e has h =
            let two : MoreValues z (MoreValues q NoValues) ≡ MoreValues (value_tree y.value.key) (MoreValues (value_tree y.value.value) (MoreValues x (value_trees us))) = has ∙ ap (λ (l : List ValueTree). value_trees (l ++ x ∷ us)) (sym h.1.trees) in absurd cc
        of (gathered.Both y) w e has h = h.0
        of (gathered.Fields ts rs) w e has h = d ts rs e
        of (gathered.Elements t rs) w e has h = f t rs e

  pub field_there : (r : Option (Bor (SigType A))) (ts : List (SigType A)) (n : ℕ) (w : TypeTree) → IsItemAt ts n r → n < length ts → ((d : SigType A) → type_tree (get_or ts n d) ≡ w) → MatchOption r ⊥ (λ t. type_tree t.now ≡ w)
  field_there (Some t) ts n w gives lt is = ap type_tree gives.1 ∙ is t.now
  field_there None ts n w gives lt is = let z = gives.2 lt in absurd cc

  -- ---- a container opens

  pub struct_opened : (v : ValueTree) → IsOf kind.Struct v → (w : SigType A) (fields types : Arc (Vec (SigType A) A) A) (rs : List (Value A)) → w ≡ ty.Struct fields → types.value ≡ fields.value → rs ≡ []
      → type_tree w ≡ type_of v → IsStructOf (type_trees_of types.value.items) v × AreBuilt [] rs
  struct_opened (StructValue xs) is w fields types rs e same none typed =
      let all : StructType (type_trees_of fields.value.items) ≡ StructType (types_of xs) = sym (type_tree-Struct fields) ∙ ap type_tree (sym e) ∙ typed in
      (ap (λ (l : Vec (SigType A) A). type_trees_of l.items) same ∙ (let inner : type_trees_of fields.value.items ≡ types_of xs = cc in inner), none_built none)
  struct_opened v is w fields types rs e same none typed = absurd is

  pub not_struct : (v : ValueTree) → IsOf kind.Struct v → (w : SigType A) → ((ts : Arc (Vec (SigType A) A) A) → w ≡ ty.Struct ts → ⊥) → type_tree w ≡ type_of v → ⊥
  not_struct (StructValue xs) is w none typed = search (rules, the_lemmas)
  not_struct v is w none typed = absurd is

  pub not_entry : (v : ValueTree) → IsOf kind.Entry v → (w : SigType A) → ((k u : Arc (SigType A) A) → w ≡ ty.Entry k u → ⊥) → type_tree w ≡ type_of v → ⊥
  not_entry (EntryValue x y) is w none typed = search (rules, the_lemmas)
  not_entry v is w none typed = absurd is

  pub entry_opened : (v : ValueTree) → IsOf kind.Entry v → (w t u : SigType A) (key value : Arc (SigType A) A) → w ≡ ty.Entry key value → type_tree t ≡ type_tree key.value → type_tree u ≡ type_tree value.value
      → type_tree w ≡ type_of v → IsEntryOf (type_tree t) (type_tree u) v × ◌≡◌ {A = List ValueTree} [] []
  entry_opened (EntryValue x y) is w t u key value e first second typed =
      let all : EntryType (type_tree key.value) (type_tree value.value) ≡ EntryType (type_of x) (type_of y) = sym (type_tree-Entry key value) ∙ ap type_tree (sym e) ∙ typed in
      let one : type_tree key.value ≡ type_of x = cc in
      let two : type_tree value.value ≡ type_of y = cc in
      ((first ∙ one, second ∙ two), refl)
  entry_opened v is w t u key value e first second typed = absurd is

  pub element_made : {E : Type 0} (r : Result (SigType A) E) (bad : E → Type 0) (w d : SigType A) (element : Arc (SigType A) A) → MatchResult r (λ copy. type_tree copy ≡ type_tree d) bad → w ≡ ty.Array element → d ≡ element.value
      → IfOk r (λ t. (u : TypeTree) → type_tree w ≡ ArrayType u → type_tree t ≡ u)
  element_made (Ok t) bad w d element made is same = λ u typed.
      let all : ArrayType (type_tree element.value) ≡ ArrayType u = sym (type_tree-Array element) ∙ ap type_tree (sym is) ∙ typed in
      let inner : type_tree element.value ≡ u = cc in
      made ∙ ap type_tree same ∙ inner
  element_made (Err e) bad w d element made is same = tt

  pub elements_opened : (u : TypeTree) (xs : ValueTrees) (item : SigType A) (rs : List (Value A)) → type_tree item ≡ u → rs ≡ []
      → is_byte u ≡ false → (depth_left : ℕ) × IsWellFormed depth_left (ArrayValue u xs) → ((type_tree item ≡ u) × (is_byte u ≡ false) × AllOf u xs) × AreBuilt [] rs
  elements_opened u xs item rs fit none no_byte formed = ((fit, no_byte, array_all formed.0 u xs formed.1), none_built none)

  -- ---- one part more

  pub push_full : (m : Gathered A) (r : Value A) → ((t : SigType A) → m ≡ gathered.Variant t → ⊥) → ((t u : SigType A) → m ≡ gathered.Entry t u → ⊥) → ((u : SigType A) (x : Value A) → m ≡ gathered.Key u x → ⊥)
      → ((ts : Arc (Vec (SigType A) A) A) (rs : Vec (Value A) A) → m ≡ gathered.Fields ts rs → ⊥) → ((t : SigType A) (rs : Vec (Value A) A) → m ≡ gathered.Elements t rs → ⊥) → Pushes m r m
  push_full m r a b c d f v x done us next built = absurd (next_none m v x done us next a b c d f)

  -- ---- what is gathered of a value that is built

  pub placed : {U E : Type 0} (answer : Result U E) (m later : Gathered A) (v : ValueTree) (r : Value A) → ((u : ValueTree) (done us : List ValueTree) → IsNext m u done v us → IsBuilt v r) → IfOk answer (λ _. Pushes m r later) → IfOk answer (λ _. Gathers m (v ∷ []) later)
  placed answer m later v r built = IfOk-weaker answer _ _ (λ _ pushes u done us formed has h. let next : IsNext m u done v us = record { formed = formed; has = has; held = h } in pushes u v done us next (built u done us next))

  pub closed : {U E : Type 0} (answer : Result U E) (m later held : Gathered A) (v : ValueTree) (r : Value A) → Builds held v r → IfOk answer (λ _. Pushes m r later) → IfOk answer (λ _. Closes m held v later)
  closed answer m later held v r builds = IfOk-weaker answer _ _ (λ _ pushes u done us xs next h has. pushes u v done us next (builds xs h has))

  -- ---- all parts

  close_as : {m n : Gathered A} (v : ValueTree) (r : Value A) → m ≡ n → Builds n v r → Builds m v r
  close_as v r e h = subst (λ (n : Gathered A). Builds n v r) (sym e) h

  pub close_fields : {m : Gathered A} (v : ValueTree) (ts : Arc (Vec (SigType A) A) A) (rs : Vec (Value A) A) → m ≡ gathered.Fields ts rs → Builds m v (Struct rs)
  close_fields v ts rs e = close_as v (Struct rs) e (of v)
    where
      of : (v : ValueTree) → Builds (gathered.Fields ts rs) v (Struct rs)
      of (StructValue ys) xs h has = record {
        tree = tree-Struct rs ∙ ap (λ (l : List ValueTree). StructValue (value_trees l)) h.1.trees ∙ ap StructValue (sym has);
        packed = keeps-Struct rs ∙ h.1.packed;
      }
      of v xs h has = absurd h.0

  pub close_elements : {m : Gathered A} (v : ValueTree) (t : SigType A) (rs : Vec (Value A) A) → m ≡ gathered.Elements t rs → Builds m v (Array t rs)
  close_elements v t rs e = close_as v (Array t rs) e (of v)
    where
      of : (v : ValueTree) → Builds (gathered.Elements t rs) v (Array t rs)
      of (ArrayValue u ys) xs h has = record {
        tree = tree-Array t rs ∙ ap (λ (l : List ValueTree). ArrayValue (type_tree t) (value_trees l)) h.1.trees ∙ ap (ArrayValue (type_tree t)) (sym has) ∙ ap (λ w. ArrayValue w ys) h.0.0;
        packed = keeps-Array t rs ∙ and_from _ _ (ap (λ u. not (is_byte u)) h.0.0 ∙ ap not h.0.1) h.1.packed;
      }
      of v xs h has = absurd h.0

  -- what has no part yet, or a key alone, is not all of a container
  pub close_none : (m : Gathered A) (v : ValueTree) (r : Value A) → ((x : Value A) → m ≡ gathered.Held x → ⊥) → ((e : Box (DictEntry A) A) → m ≡ gathered.Both e → ⊥)
      → ((ts : Arc (Vec (SigType A) A) A) (rs : Vec (Value A) A) → m ≡ gathered.Fields ts rs → ⊥) → ((t : SigType A) (rs : Vec (Value A) A) → m ≡ gathered.Elements t rs → ⊥) → Builds m v r
  close_none (gathered.Variant t) (VariantValue y) r a b c d xs h has = let z : MoreValues y NoValues ≡ NoValues = has ∙ ap value_trees h.1 in absurd cc
  close_none (gathered.Variant t) v r a b c d xs h has = absurd h.0
  close_none (gathered.Held x) v r a b c d xs h has = absurd (a x refl)
  close_none (gathered.Entry t u) (EntryValue y z) r a b c d xs h has = let q : MoreValues y (MoreValues z NoValues) ≡ NoValues = has ∙ ap value_trees h.1 in absurd cc
  close_none (gathered.Entry t u) v r a b c d xs h has = absurd h.0
  close_none (gathered.Key u x) (EntryValue y z) r a b c d xs h has =
      let q : MoreValues y (MoreValues z NoValues) ≡ MoreValues (value_tree x) NoValues = has ∙ ap value_trees (sym h.1.trees) in absurd cc
  close_none (gathered.Key u x) v r a b c d xs h has = absurd h.0
  close_none (gathered.Both e) v r a b c d xs h has = absurd (b e refl)
  close_none (gathered.Fields ts rs) v r a b c d xs h has = absurd (c ts rs refl)
  close_none (gathered.Elements t rs) v r a b c d xs h has = absurd (d t rs refl)

  -- ---- values one after another, as if they were the fields of a struct

  pub all_gathered : (m : Gathered A) {vs : ValueTrees} (xs : List ValueTree) (ts : Arc (Vec (SigType A) A) A) (types : Vec (SigType A) A) (list : Vec (Value A) A) {text : List ℕ} (depth : ℕ) → ts.value ≡ types → list.items ≡ []
      → sigs (type_trees_of types.items) ≡ text → sigs (types_of vs) ≡ text → AreWellFormed depth vs → vs ≡ value_trees xs → Gathers (gathered.Fields ts list) xs m → Holds m (StructValue vs) xs
  all_gathered m {vs} xs ts types list depth own none spelled text formed are many =
      let fit : type_trees_of ts.value.items ≡ types_of vs = ap (λ (l : Vec (SigType A) A). type_trees_of l.items) own ∙ same_types (type_trees_of types.items) (types_of vs) _ spelled text in
      many (StructValue vs) [] [] (depth, formed) (are ∙ ap value_trees (sym (append-nil xs))) (fit, none_built none)

  pub fields_built : (m : Gathered A) (vs : ValueTrees) (xs : List ValueTree) (ts : Arc (Vec (SigType A) A) A) (rs : Vec (Value A) A) → m ≡ gathered.Fields ts rs → Holds m (StructValue vs) xs → AreBuilt xs rs.items
  fields_built m vs xs ts rs e h = (subst (λ (n : Gathered A). Holds n (StructValue vs) xs) e h).1

  pub only_fields : (m : Gathered A) (vs : ValueTrees) (xs : List ValueTree) → Holds m (StructValue vs) xs → ((ts : Arc (Vec (SigType A) A) A) (rs : Vec (Value A) A) → m ≡ gathered.Fields ts rs → ⊥) → ⊥
  only_fields (gathered.Fields ts rs) vs xs h n = n ts rs refl
  only_fields m vs xs h n = h.0

  -- ---- one value, as if a variant held it

  pub one_gathered : (m : Gathered A) (v : ValueTree) (t : SigType A) (depth : ℕ) → IsWellFormed depth v → type_tree t ≡ type_of v → Gathers (gathered.Variant t) (v ∷ []) m → Holds m (VariantValue v) (v ∷ [])
  one_gathered m v t depth formed typed many = many (VariantValue v) [] [] (depth, (formed, tt)) refl (typed, refl)

  pub value_built : (m : Gathered A) (v : ValueTree) (r : Value A) → m ≡ gathered.Held r → Holds m (VariantValue v) (v ∷ []) → IsBuilt v r
  value_built m v r e h =
      let b = (subst (λ (n : Gathered A). Holds n (VariantValue v) (v ∷ [])) e h).1 in
      let same : value_tree r ∷ [] ≡ v ∷ [] = b.trees in
      record { tree = cc; packed = (and_parts _ _ b.packed).0 }

  pub only_held : (m : Gathered A) (v : ValueTree) → Holds m (VariantValue v) (v ∷ []) → ((r : Value A) → m ≡ gathered.Held r → ⊥) → ⊥
  only_held (gathered.Held r) v h n = n r refl
  only_held (gathered.Variant t) v h n = let none : ◌≡◌ {A = List ValueTree} (v ∷ []) [] = h.1 in absurd cc
  only_held m v h n = h.0
