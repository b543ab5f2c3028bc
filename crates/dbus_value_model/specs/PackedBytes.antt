-- Where an array of bytes is `Bytes`: the one thing of a `Value` that its tree does not show.
-- D-Bus Specification, "Marshaling (Wire Format)".
use Rattle.std.specs.Prelude.{Bool, true, false, ◌&&◌, not, List, [], ◌∷◌, ◌++◌, map, IsTrue}
use Rattle.std.specs.List.{list_all}
use Rattle.dbus_texts.specs.PlainTypes.{is_byte}
use Rattle.dbus_types.specs.SigTypes.{type_tree}
use Rattle.dbus_value_model.specs.declared.got.Got.{Got}
use Rattle.dbus_value_model.specs.declared.got.Got.TheVariants.{Done, Partial}
use Rattle.dbus_value_model.specs.declared.value.Value.{Value}
use Rattle.dbus_value_model.specs.declared.value.Value.TheOpen.{Value-F, DictEntry-F}
use Rattle.dbus_value_model.specs.declared.value.Value.TheFolds.{fold-Value}

-- no `Array` in it is one of BYTE: such an array is `Bytes`
abbrev pub keep_step : {A : Type 0} → Value-F A Bool Bool → Bool
keep_step (Value-F.Array t vs) = not (is_byte (type_tree t)) && list_all (λ b. b) vs.items
keep_step (Value-F.Struct vs) = list_all (λ b. b) vs.items
keep_step (Value-F.Entry e) = e.value
keep_step (Value-F.Variant v) = v.value
keep_step (Value-F.Byte n) = true
keep_step (Value-F.Bool b) = true
keep_step (Value-F.I16 z) = true
keep_step (Value-F.U16 n) = true
keep_step (Value-F.I32 z) = true
keep_step (Value-F.U32 n) = true
keep_step (Value-F.I64 z) = true
keep_step (Value-F.U64 n) = true
keep_step (Value-F.Double n) = true
keep_step (Value-F.Str s) = true
keep_step (Value-F.Path s) = true
keep_step (Value-F.Sig s) = true
keep_step (Value-F.Fd n) = true
keep_step (Value-F.Bytes bytes) = true

abbrev pub keep_entry : {A : Type 0} → DictEntry-F A Bool Bool → Bool
keep_entry e = e.key && e.value

abbrev pub keeps_bytes : {A : Type 0} → Value A → Bool
keeps_bytes {A} = fold-Value A Bool Bool keep_step keep_entry

abbrev pub keep_bytes : {A : Type 0} → List (Value A) → Bool
keep_bytes vs = list_all (λ b. b) (map keeps_bytes vs)

abbrev pub joined : List (List Bool) → List Bool
joined [] = []
joined (bs ∷ more) = bs ++ joined more

-- for each array in it, an outer one before those within it and else from left to right: whether it
-- is `Bytes`
abbrev pub packing_step : {A : Type 0} → Value-F A (List Bool) (List Bool) → List Bool
packing_step (Value-F.Bytes bytes) = true ∷ []
packing_step (Value-F.Array t vs) = false ∷ joined vs.items
packing_step (Value-F.Struct vs) = joined vs.items
packing_step (Value-F.Entry e) = e.value
packing_step (Value-F.Variant v) = v.value
packing_step (Value-F.Byte n) = []
packing_step (Value-F.Bool b) = []
packing_step (Value-F.I16 z) = []
packing_step (Value-F.U16 n) = []
packing_step (Value-F.I32 z) = []
packing_step (Value-F.U32 n) = []
packing_step (Value-F.I64 z) = []
packing_step (Value-F.U64 n) = []
packing_step (Value-F.Double n) = []
packing_step (Value-F.Str s) = []
packing_step (Value-F.Path s) = []
packing_step (Value-F.Sig s) = []
packing_step (Value-F.Fd n) = []

abbrev pub packing_entry : {A : Type 0} → DictEntry-F A (List Bool) (List Bool) → List Bool
packing_entry e = e.key ++ e.value

abbrev pub packing : {A : Type 0} → Value A → List Bool
packing {A} = fold-Value A (List Bool) (List Bool) packing_step packing_entry

-- the value that was got, where there is one, keeps bytes
abbrev pub KeepsBytes : {A : Type 0} → Got A → Type 0
KeepsBytes (Done v q) = IsTrue (keeps_bytes v)
KeepsBytes Partial = Unit {0}
