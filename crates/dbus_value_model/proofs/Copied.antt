-- What a copy of a value has in common with it, level by level.
use Rattle.std.proofs.Common.{◌≡◌, ℕ, ◌+◌, ◌<◌, false, List, [], ◌∷◌, ◌++◌, length, get_or, take, map, Vec, Box, Bool, sym, ap, rules, ◌∙◌}
use Rattle.std.proofs.lemmas.List.{map_push, map_more}
use Rattle.dbus_texts.specs.Types.{TypeTree}
use Rattle.dbus_types.specs.SigTypes.{type_tree}
use Rattle.dbus_types.specs.declared.sig_type.SigType.{SigType}
use Rattle.dbus_value_model.specs.PackedBytes.{packing, joined}
use Rattle.dbus_value_model.specs.Values.{ValueTree, ArrayValue, StructValue, EntryValue, value_trees}
use Rattle.dbus_value_model.specs.ValueViews.{value_tree}
use Rattle.dbus_value_model.specs.declared.value.Value.{Value, Array, Struct, Entry, the_lemmas}
use Rattle.dbus_value_model.specs.declared.value.DictEntry.{DictEntry}
use Rattle.dbus_value_model.proofs.ValueRows.{tree-Array, tree-Struct, tree-Entry}

same_arrays : (t u : TypeTree) (xs ys : List ValueTree) → t ≡ u → xs ≡ ys → ArrayValue t (value_trees xs) ≡ ArrayValue u (value_trees ys)
same_arrays t u xs ys e f = cc

packing-Array : {A : Type 0} (t : SigType A) (vs : Vec (Value A) A) → packing {A = A} (Array t vs) ≡ false ∷ joined (map packing vs.items)
packing-Array t vs = search (rules, the_lemmas)

packing-Struct : {A : Type 0} (vs : Vec (Value A) A) → packing {A = A} (Struct vs) ≡ joined (map packing vs.items)
packing-Struct vs = search (rules, the_lemmas)

packing-Entry : {A : Type 0} (e : Box (DictEntry A) A) → packing {A = A} (Entry e) ≡ packing e.value.key ++ packing e.value.value
packing-Entry e = search (rules, the_lemmas)

same_entries : (k l u v : ValueTree) → k ≡ l → u ≡ v → EntryValue k u ≡ EntryValue l v
same_entries k l u v e f = cc

same_halves : (k l u v : List Bool) → k ≡ l → u ≡ v → k ++ u ≡ l ++ v
same_halves k l u v e f = cc

module _ {A : Type 0} (vs ws : Vec (Value A) A) where
  pub array_equal : (t u : SigType A) → type_tree t ≡ type_tree u → map value_tree vs.items ≡ map value_tree ws.items → value_tree {A = A} (Array t vs) ≡ value_tree {A = A} (Array u ws)
  array_equal t u e f = tree-Array t vs ∙ same_arrays _ _ _ _ e f ∙ sym (tree-Array u ws)

  pub struct_equal : map value_tree vs.items ≡ map value_tree ws.items → value_tree {A = A} (Struct vs) ≡ value_tree {A = A} (Struct ws)
  struct_equal f = tree-Struct vs ∙ ap (λ l. StructValue (value_trees l)) f ∙ sym (tree-Struct ws)

  pub array_same_bytes : (t u : SigType A) → map packing vs.items ≡ map packing ws.items → packing {A = A} (Array t vs) ≡ packing {A = A} (Array u ws)
  array_same_bytes t u f = packing-Array t vs ∙ ap (λ l. false ∷ joined l) f ∙ sym (packing-Array u ws)

  pub struct_same_bytes : map packing vs.items ≡ map packing ws.items → packing {A = A} (Struct vs) ≡ packing {A = A} (Struct ws)
  struct_same_bytes f = packing-Struct vs ∙ ap joined f ∙ sym (packing-Struct ws)

module _ {A : Type 0} (e f : Box (DictEntry A) A) where
  pub entry_equal : value_tree e.value.key ≡ value_tree f.value.key → value_tree e.value.value ≡ value_tree f.value.value → value_tree {A = A} (Entry e) ≡ value_tree {A = A} (Entry f)
  entry_equal key held = tree-Entry e ∙ same_entries _ _ _ _ key held ∙ sym (tree-Entry f)

  pub entry_same_bytes : packing e.value.key ≡ packing f.value.key → packing e.value.value ≡ packing f.value.value → packing {A = A} (Entry e) ≡ packing {A = A} (Entry f)
  entry_same_bytes key held = packing-Entry e ∙ same_halves _ _ _ _ key held ∙ sym (packing-Entry f)

-- one more is copied
pub more_copied : {A B : Type 0} (f : A → B) (xs us : List A) (i : ℕ) (x made : A) (all : List A) → i < length xs → all ≡ us ++ made ∷ [] →
    map f us ≡ map f (take i xs) → f made ≡ f (get_or xs i x) → map f all ≡ map f (take (i + 1) xs)
more_copied f xs us i x made all l is so_far here =
    ap (map f) is ∙ map_push f us made ∙ ap (λ ys. ys ++ f made ∷ []) so_far ∙ ap (λ y. map f (take i xs) ++ y ∷ []) here ∙ sym (map_more f xs i x l)
