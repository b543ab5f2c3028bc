-- Structs and dict entries that stand in the bytes, taken apart.
use Rattle.std.proofs.Common.{◌≡◌, ℕ, zero, suc, ◌+◌, ◌-◌, ◌<◌, ◌≤◌, List, [], ◌∷◌, ◌++◌, length, get_or, refl, sym, ap, subst, ◌∙◌, arith, ◌⊎◌, inl, inr}
use Rattle.std.proofs.lemmas.List.{length-append}
use Rattle.dbus_texts.specs.Types.{TypeTree, StructType, EntryType, TypeTrees, NoTypes, MoreTypes, sig, sigs}
use Rattle.dbus_value_model.specs.Bytes.{gap_to}
use Rattle.dbus_value_model.specs.declared.order.Order.{Order}
use Rattle.dbus_value_model.specs.Values.{ValueTree, ValueTrees, NoValues, MoreValues, StructValue, EntryValue, type_of, types_of, IsWellFormed, AreWellFormed}
use Rattle.dbus_types.proofs.TypeCodes.{struct_is, entry_is, struct_shaped, entry_shaped, within}
use Rattle.dbus_walk.specs.declared.container.Container.TheVariants as kind
use Rattle.dbus_walk.specs.Standing.{Stands, AllStand}
use Rattle.dbus_walk.proofs.Fronts.{parts_there, parts_within}
use Rattle.dbus_walk.proofs.Parts.{stands_as}

struct_of_type : (v : ValueTree) (ts : TypeTrees) → type_of v ≡ StructType ts → (xs : ValueTrees) × (v ≡ StructValue xs) × (types_of xs ≡ ts)
struct_of_type (StructValue xs) ts e = (xs, refl, cc)
struct_of_type v ts e = absurd cc

entry_of_type : (v : ValueTree) (k w : TypeTree) → type_of v ≡ EntryType k w → (x : ValueTree) × (y : ValueTree) × (v ≡ EntryValue x y) × (type_of x ≡ k) × (type_of y ≡ w)
entry_of_type (EntryValue x y) k w e = (x, y, refl, cc, cc)
entry_of_type v k w e = absurd cc

formed_struct : (depth_left : ℕ) (xs : ValueTrees) → IsWellFormed depth_left (StructValue xs) → (0 < depth_left) × AreWellFormed (depth_left - 1) xs
formed_struct zero xs h = absurd h
formed_struct (suc depth_left) xs h = let less : depth_left ≡ suc depth_left - 1 = omega arith in (omega arith, subst (λ (r : ℕ). AreWellFormed r xs) less h)

pub struct_left : {c : ℕ} → (c ≡ 40) ⊎ (c ≡ 123) → (c ≡ 123 → ⊥) → c ≡ 40
struct_left (inl e) not_entry = e
struct_left (inr e) not_entry = absurd (not_entry e)

module _ {order : Order} {depth_left : ℕ} {types : List ℕ} {at : ℕ} {bytes rest : List ℕ} where
  pub struct_parts : (xs : ValueTrees) → Stands order depth_left types at bytes (StructValue xs) rest → sigs (types_of xs) ≡ within types → (0 < depth_left) × AllStand order (depth_left - 1) (within types) (at + gap_to 8 at) bytes xs rest
  struct_parts xs s text =
      let formed = formed_struct depth_left xs s.formed in
      let ends = parts_within s kind.Struct tt in (
        formed.0,
        record { text = text; shaped = struct_shaped (types_of xs) s.shaped; formed = formed.1; array = s.array; small = s.small; within = s.within; spelled = parts_there s kind.Struct tt; inside = omega (arith, ends) },
      )

  entry_parts : (x y : ValueTree) → Stands order depth_left types at bytes (EntryValue x y) rest → sigs (MoreTypes (type_of x) (MoreTypes (type_of y) NoTypes)) ≡ within types
      → AllStand order depth_left (within types) (at + gap_to 8 at) bytes (MoreValues x (MoreValues y NoValues)) rest
  entry_parts x y s text =
      let ends = parts_within s kind.Entry tt in
      record {
        text = text;
        shaped = entry_shaped (type_of x) (type_of y) s.shaped;
        formed = (s.formed.0, (s.formed.1, tt));
        array = s.array;
        small = s.small;
        within = (s.within.0, (s.within.1, tt));
        spelled = parts_there s kind.Entry tt;
        inside = omega (arith, ends);
      }

module _ {order : Order} {depth_left : ℕ} {types : List ℕ} {at : ℕ} {bytes : List ℕ} {v : ValueTree} {rest : List ℕ} (s : Stands order depth_left types at bytes v rest) where
  pub struct_stands : get_or types 0 0 ≡ 40 → (xs : ValueTrees) × (v ≡ StructValue xs) × (0 < depth_left) × AllStand order (depth_left - 1) (within types) (at + gap_to 8 at) bytes xs rest
  struct_stands e =
      let t = struct_is (type_of v) types s.text e in
      let w = struct_of_type v t.0 t.1 in
      let all = struct_parts w.0 (stands_as s w.1) (ap sigs w.2 ∙ t.2) in
      (w.0, w.1, all.0, all.1)

  pub entry_stands : get_or types 0 0 ≡ 123 → (x : ValueTree) × (y : ValueTree) × (v ≡ EntryValue x y) × AllStand order depth_left (within types) (at + gap_to 8 at) bytes (MoreValues x (MoreValues y NoValues)) rest
  entry_stands e =
      let t = entry_is (type_of v) types s.text e in
      let w = entry_of_type v t.0 t.1 t.2 in
      let text = ap (λ (k : TypeTree). sigs (MoreTypes k (MoreTypes (type_of w.1) NoTypes))) w.3 ∙ ap (λ (k : TypeTree). sigs (MoreTypes t.0 (MoreTypes k NoTypes))) w.4 ∙ t.3 in
      (w.0, w.1, w.2, entry_parts w.0 w.1 (stands_as s w.2) text)

  pub enclosed_within : (get_or types 0 0 ≡ 40) ⊎ (get_or types 0 0 ≡ 123) → at + gap_to 8 at ≤ length bytes
  enclosed_within (inl e) = (struct_stands e).3.inside
  enclosed_within (inr e) = (entry_stands e).3.inside

  -- the brackets around its parts' types
  pub enclosed_long : (get_or types 0 0 ≡ 40) ⊎ (get_or types 0 0 ≡ 123) → 2 ≤ length types
  enclosed_long (inl e) = let t = struct_is (type_of v) types s.text e in omega (arith, ap length (sym s.text ∙ ap sig t.1), length-append (sigs t.0) (41 ∷ []))
  enclosed_long (inr e) = let t = entry_is (type_of v) types s.text e in omega (arith, ap length (sym s.text ∙ ap sig t.2), length-append (sig t.0) (sig t.1 ++ 125 ∷ []), length-append (sig t.1) (125 ∷ []))
