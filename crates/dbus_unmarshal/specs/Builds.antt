-- Which trees values stand for that are built, and what is gathered of a container's parts.
-- D-Bus Specification, "Type System".
use Rattle.std.specs.Prelude.{◌≡◌, ℕ, List, [], ◌∷◌, ◌++◌, map, false, IsTrue, drop, Bool, true, Result, Ok, Err}
use Rattle.dbus_texts.specs.Types.{TypeTree, TypeTrees}
use Rattle.dbus_texts.specs.PlainTypes.{is_byte}
use Rattle.dbus_types.specs.SigTypes.{type_tree, type_trees_of}
use Rattle.dbus_value_model.specs.PackedBytes.{keeps_bytes, keep_bytes}
use Rattle.dbus_value_model.specs.ValueViews.{value_tree}
use Rattle.dbus_value_model.specs.Values.{ValueTree, VariantValue, ArrayValue, StructValue, EntryValue, AllOf, AreWellFormed, type_of, types_of, value_trees}
use Rattle.dbus_value_model.specs.declared.value.Value.{Value}
use Rattle.dbus_walk.specs.Containers.{parts}
use Rattle.dbus_value_model.specs.declared.limits.Bounds.{Bounds}
use Rattle.dbus_value_model.specs.declared.order.Order.{Order}
use Rattle.dbus_value_model.specs.declared.fault.Fault.{Fault}
use Rattle.dbus_value_model.specs.Spelling.{Spelled}
use Rattle.dbus_value_model.specs.ValueItems.{value}
use Rattle.dbus_value_model.specs.RoundTrip.{IsValuePartial}
use Rattle.dbus_unmarshal.specs.declared.gathered.Gathered.{Gathered}
use Rattle.dbus_unmarshal.specs.declared.gathered.Gathered.TheVariants as gathered

-- the value stands for the tree, and each array of BYTE in it is `Bytes`
pub record IsBuilt {A : Type 0} (v : ValueTree) (r : Value A) : Type 0 where
  pub tree : value_tree r ≡ v
  pub packed : IsTrue (keeps_bytes r)

-- the same of values one after another
pub record AreBuilt {A : Type 0} (xs : List ValueTree) (rs : List (Value A)) : Type 0 where
  pub trees : map value_tree rs ≡ xs
  pub packed : IsTrue (keep_bytes rs)

-- the parts of a container are well formed, however many containers may be open in them
abbrev pub AreFormed : ValueTree → Type 0
AreFormed v = (depth_left : ℕ) × AreWellFormed depth_left (parts v)

-- ---- the parts of a container

-- which container it is, with the types of the parts that are to come
abbrev pub IsVariant : ValueTree → Type 0
IsVariant (VariantValue x) = Unit {0}
IsVariant _ = ⊥

abbrev pub IsVariantOf : TypeTree → ValueTree → Type 0
IsVariantOf t (VariantValue x) = t ≡ type_of x
IsVariantOf t _ = ⊥

abbrev pub IsEntry : ValueTree → Type 0
IsEntry (EntryValue x y) = Unit {0}
IsEntry _ = ⊥

abbrev pub IsEntryOf : (key value : TypeTree) → ValueTree → Type 0
IsEntryOf t u (EntryValue x y) = (t ≡ type_of x) × (u ≡ type_of y)
IsEntryOf t u _ = ⊥

abbrev pub IsKeyOf : (value : TypeTree) → ValueTree → Type 0
IsKeyOf u (EntryValue x y) = u ≡ type_of y
IsKeyOf u _ = ⊥

abbrev pub IsStructOf : TypeTrees → ValueTree → Type 0
IsStructOf ts (StructValue xs) = ts ≡ types_of xs
IsStructOf ts _ = ⊥

abbrev pub IsArrayOf : TypeTree → ValueTree → Type 0
IsArrayOf t (ArrayValue u xs) = (t ≡ u) × (is_byte u ≡ false) × AllOf u xs
IsArrayOf t _ = ⊥

-- This is gathered of the first parts of a container, which are these.
abbrev pub Holds : {A : Type 0} → Gathered A → ValueTree → (done : List ValueTree) → Type 0
Holds (gathered.Variant t) v done = IsVariantOf (type_tree t) v × (done ≡ [])
Holds (gathered.Held x) v done = IsVariant v × AreBuilt done (x ∷ [])
Holds (gathered.Entry t u) v done = IsEntryOf (type_tree t) (type_tree u) v × (done ≡ [])
Holds (gathered.Key u x) v done = IsKeyOf (type_tree u) v × AreBuilt done (x ∷ [])
Holds (gathered.Both e) v done = IsEntry v × AreBuilt done (e.value.key ∷ e.value.value ∷ [])
Holds (gathered.Fields ts rs) v done = IsStructOf (type_trees_of ts.value.items) v × AreBuilt done rs.items
Holds (gathered.Elements t rs) v done = IsArrayOf (type_tree t) v × AreBuilt done rs.items

-- a value is the next part of a container, of whose parts before it this is gathered
pub record IsNext {A : Type 0} (m : Gathered A) (v : ValueTree) (done : List ValueTree) (x : ValueTree) (us : List ValueTree) : Type 0 where
  pub formed : AreFormed v
  pub has : parts v ≡ value_trees (done ++ x ∷ us)
  pub held : Holds m v done

-- ---- what is gathered before, and after

-- after what was gathered, these parts are too
abbrev pub Gathers : {A : Type 0} → Gathered A → List ValueTree → Gathered A → Type 0
Gathers m xs later = (v : ValueTree) (done us : List ValueTree) → AreFormed v → parts v ≡ value_trees (done ++ (xs ++ us)) → Holds m v done → Holds later v (done ++ xs)

-- one part more is gathered, for which this value is built
abbrev pub Pushes : {A : Type 0} → Gathered A → Value A → Gathered A → Type 0
Pushes m r later = (v x : ValueTree) (done us : List ValueTree) → IsNext m v done x us → IsBuilt x r → Holds later v (done ++ x ∷ [])

-- a container opens that is the next part
abbrev pub Opens : {A : Type 0} → Gathered A → ValueTree → Gathered A → Type 0
Opens m v none = (u : ValueTree) (done us : List ValueTree) → IsNext m u done v us → Holds none v []

-- of all the parts of a container it is built
abbrev pub Builds : {A : Type 0} → Gathered A → ValueTree → Value A → Type 0
Builds held v r = (xs : List ValueTree) → Holds held v xs → parts v ≡ value_trees xs → IsBuilt v r

-- a container of which all parts are gathered is gathered as the next part
abbrev pub Closes : {A : Type 0} → Gathered A → Gathered A → ValueTree → Gathered A → Type 0
Closes m held v later =
    (u : ValueTree) (done us xs : List ValueTree) → IsNext m u done v us → Holds held v xs → parts v ≡ value_trees xs → Holds later u (done ++ v ∷ [])

-- What is said of the bytes where a value is wanted.
-- D-Bus Specification, "Marshaling (Wire Format)".

-- a value of the type is spelled there whole
abbrev pub IsSpelledThere : Bounds → Order → (depth_left end : ℕ) → TypeTree → (at : ℕ) → List ℕ → Type 0
IsSpelledThere bounds order depth_left end t at bytes = (v : ValueTree) × (q : ℕ) × Spelled bounds order depth_left end t at (drop at bytes) v q (drop q bytes)

-- whether one is, or the first fault of the bytes
abbrev pub Validates : Bounds → Order → (depth_left end : ℕ) → TypeTree → (at : ℕ) → List ℕ → Result Bool Fault → Type 0
Validates bounds order depth_left end t at bytes (Ok true) = IsSpelledThere bounds order depth_left end t at bytes
Validates bounds order depth_left end t at bytes (Ok false) = IsValuePartial bounds order depth_left end t at (drop at bytes)
Validates bounds order depth_left end t at bytes (Err f) = (value bounds order depth_left end t).Refused at (drop at bytes) f
