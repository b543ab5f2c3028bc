-- A value's tree, level by level.
use Rattle.std.proofs.Common.{◌≡◌, ℕ, ℤ, Vec, Box, String, Bool, rules, cond, zero, suc, ◌+◌, ◌<◌, List, [], ◌∷◌, length, get_or, drop, sym, subst, arith}
use Rattle.std.specs.Prelude.{string_bytes}
use Rattle.std.specs.Int.{cast_unsigned, w16, w32, w64}
use Rattle.std.proofs.lemmas.List.{drop_more}
use Rattle.dbus_texts.specs.Types.{NumberType, BYTE, BOOLEAN, INT16, UINT16, INT32, UINT32, INT64, UINT64, DOUBLE, UNIX_FD, STRING, OBJECT_PATH, SIGNATURE}
use Rattle.dbus_types.specs.SigTypes.{type_tree}
use Rattle.dbus_types.specs.declared.sig_type.SigType.{SigType}
use Rattle.dbus_value_model.specs.Values.{NumberValue, TextValue, VariantValue, ArrayValue, StructValue, EntryValue}
use Rattle.dbus_value_model.specs.ValueViews.{value_tree, value_trees_of, byte_values}
use Rattle.dbus_value_model.specs.declared.value.Value.{Value, Byte, Bool as BoolOf, I16, U16, I32, U32, I64, U64, Double, Str, Path, Sig, Fd, Bytes, Array, Struct, Entry, Variant, the_lemmas}
use Rattle.dbus_value_model.specs.declared.value.DictEntry.{DictEntry}

pub tree-Byte : (A : Type 0) (n : ℕ) → value_tree {A = A} (Byte n) ≡ NumberValue BYTE n
tree-Byte A n = search (rules, the_lemmas)

pub tree-Bool : (A : Type 0) (b : Bool) → value_tree {A = A} (BoolOf b) ≡ NumberValue BOOLEAN (cond b 1 0)
tree-Bool A b = search (rules, the_lemmas)

pub tree-I16 : (A : Type 0) (z : ℤ) → value_tree {A = A} (I16 z) ≡ NumberValue INT16 (cast_unsigned w16 z)
tree-I16 A z = search (rules, the_lemmas)

pub tree-U16 : (A : Type 0) (n : ℕ) → value_tree {A = A} (U16 n) ≡ NumberValue UINT16 n
tree-U16 A n = search (rules, the_lemmas)

pub tree-I32 : (A : Type 0) (z : ℤ) → value_tree {A = A} (I32 z) ≡ NumberValue INT32 (cast_unsigned w32 z)
tree-I32 A z = search (rules, the_lemmas)

pub tree-U32 : (A : Type 0) (n : ℕ) → value_tree {A = A} (U32 n) ≡ NumberValue UINT32 n
tree-U32 A n = search (rules, the_lemmas)

pub tree-I64 : (A : Type 0) (z : ℤ) → value_tree {A = A} (I64 z) ≡ NumberValue INT64 (cast_unsigned w64 z)
tree-I64 A z = search (rules, the_lemmas)

pub tree-U64 : (A : Type 0) (n : ℕ) → value_tree {A = A} (U64 n) ≡ NumberValue UINT64 n
tree-U64 A n = search (rules, the_lemmas)

pub tree-Double : (A : Type 0) (n : ℕ) → value_tree {A = A} (Double n) ≡ NumberValue DOUBLE n
tree-Double A n = search (rules, the_lemmas)

pub tree-Str : {A : Type 0} (s : String A) → value_tree {A = A} (Str s) ≡ TextValue STRING (string_bytes s)
tree-Str s = search (rules, the_lemmas)

pub tree-Path : {A : Type 0} (s : String A) → value_tree {A = A} (Path s) ≡ TextValue OBJECT_PATH (string_bytes s)
tree-Path s = search (rules, the_lemmas)

pub tree-Sig : {A : Type 0} (s : String A) → value_tree {A = A} (Sig s) ≡ TextValue SIGNATURE (string_bytes s)
tree-Sig s = search (rules, the_lemmas)

pub tree-Fd : (A : Type 0) (n : ℕ) → value_tree {A = A} (Fd n) ≡ NumberValue UNIX_FD n
tree-Fd A n = search (rules, the_lemmas)

pub tree-Bytes : {A : Type 0} (bs : Vec ℕ A) → value_tree {A = A} (Bytes bs) ≡ ArrayValue (NumberType BYTE) (byte_values bs.items)
tree-Bytes bs = search (rules, the_lemmas)

pub tree-Array : {A : Type 0} (t : SigType A) (vs : Vec (Value A) A) → value_tree {A = A} (Array t vs) ≡ ArrayValue (type_tree t) (value_trees_of vs.items)
tree-Array t vs = search (rules, the_lemmas)

pub tree-Struct : {A : Type 0} (vs : Vec (Value A) A) → value_tree {A = A} (Struct vs) ≡ StructValue (value_trees_of vs.items)
tree-Struct vs = search (rules, the_lemmas)

pub tree-Entry : {A : Type 0} (e : Box (DictEntry A) A) → value_tree {A = A} (Entry e) ≡ EntryValue (value_tree e.value.key) (value_tree e.value.value)
tree-Entry e = search (rules, the_lemmas)

pub tree-Variant : {A : Type 0} (v : Box (Value A) A) → value_tree {A = A} (Variant v) ≡ VariantValue (value_tree v.value)
tree-Variant v = search (rules, the_lemmas)

-- What is said of every item of a list, one by one.

module _ {A : Type 0} (Each : List A → Type 0) where
  -- said of all, it is said of the one at i
  module _ (P : A → Type 0) (parts : (x : A) (xs : List A) → Each (x ∷ xs) → P x × Each xs) where
    at_index : (xs : List A) (i : ℕ) (d : A) → i < length xs → Each xs → P (get_or xs i d)
    at_index [] i d l h = absurd (omega arith)
    at_index (x ∷ xs) zero d l h = (parts x xs h).0
    at_index (x ∷ xs) (suc i) d l h = at_index xs i d (omega arith) (parts x xs h).1

    pub item_of : (xs : List A) (i : ℕ) (x : A) → i < length xs → x ≡ get_or xs i x → Each xs → P x
    item_of xs i x l is h = subst P (sym is) (at_index xs i x l h)

  -- said of the one at i and of those after it, it is said of all from i on
  pub items_from : (xs : List A) (i : ℕ) (x : A) → i < length xs → x ≡ get_or xs i x → Each (x ∷ drop (i + 1) xs) → Each (drop i xs)
  items_from xs i x l is h = subst Each (sym (drop_more xs i x l)) (subst (λ y. Each (y ∷ drop (i + 1) xs)) is h)
