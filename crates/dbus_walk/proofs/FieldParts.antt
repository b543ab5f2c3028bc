-- Header fields that stand in the bytes, taken apart, and one after another.
use Rattle.std.proofs.Common.{◌≡◌, ℕ, ◌+◌, ◌-◌, ◌<◌, ◌≤◌, List, [], ◌∷◌, ◌++◌, length, get_or, take, drop, map, refl, sym, ap, subst, ◌∙◌, arith, append_assoc}
use Rattle.std.proofs.lemmas.List.{length-append, append-nil}
use Rattle.dbus_texts.specs.Types.{BYTE, IsSingleType}
use Rattle.dbus_types.proofs.TypeCodes.{boundary_by}
use Rattle.dbus_types.proofs.TypeEnds.{ends_there}
use Rattle.dbus_value_model.specs.Bytes.{gap_to}
use Rattle.dbus_value_model.specs.Reading.{number_of}
use Rattle.dbus_value_model.specs.Spelling.{spelling, spellings}
use Rattle.dbus_value_model.specs.Values.{ValueTrees, NoValues, MoreValues, NumberValue, VariantValue, value_trees, type_of}
use Rattle.dbus_value_model.proofs.Periods.{no_gap}
use Rattle.dbus_message_model.specs.Messages.{FieldTree, field_struct}
use Rattle.dbus_value_laws.proofs.ReadSteps.{one_byte}
use Rattle.dbus_walk.specs.Containers.{inside}
use Rattle.dbus_walk.specs.Fields.{FieldsStand, FieldsLeft, FieldStands, field_types, field_end}
use Rattle.dbus_walk.specs.Standing.{Stands, AllStand, ElementsStand}
use Rattle.dbus_walk.specs.declared.container.Container.TheVariants as kind
use Rattle.dbus_walk.specs.declared.spot.MessageBytes.{MessageBytes}
use Rattle.dbus_walk.proofs.Containers.{variant_parts, array_stands, array_found, elements_there}
use Rattle.dbus_walk.proofs.Enclosed.{struct_parts}
use Rattle.dbus_walk.proofs.Fronts.{parts_end}
use Rattle.dbus_walk.proofs.Lists.{none_ends, some_ends, first_element, other_elements, first_value, other_values}
use Rattle.dbus_walk.proofs.Parts.{number_of_width, number_ends, stands_positive}
use Rattle.dbus_walk.proofs.ReadThere.{number_read}

-- ---- a field

module _ (source : MessageBytes) (depth_left at : ℕ) (f : FieldTree) (rest : List ℕ) (s : FieldStands source depth_left at f rest) (start : ℕ) (begins : start ≡ at + gap_to 8 at) where
  abbrev bytes : List ℕ
  bytes = source.bytes.now

  abbrev coded_values : ValueTrees
  coded_values = MoreValues (NumberValue BYTE f.code) (MoreValues (VariantValue f.value) NoValues)

  -- its code and the variant stand one after the other
  record Coded : Type 0 where
    some : 0 < depth_left - 1
    inside : start + 1 ≤ length bytes
    code : get_or bytes start 0 ≡ f.code
    held : Stands source.order (depth_left - 1 - 1) (118 ∷ []) (start + 1) bytes (VariantValue f.value) rest
    ends : start + 1 + length (spelling source.order (start + 1) (VariantValue f.value)) ≡ field_end source at f

  coded : Coded
  unfolding spellings
  coded =
      let order = source.order in
      let p = struct_parts coded_values s.stands refl in
      let all = subst (λ (k : ℕ). AllStand order (depth_left - 1 - 1) (121 ∷ 118 ∷ []) k bytes coded_values rest) (sym begins) p.1 in
      let first = first_value (121 ∷ 118 ∷ []) 0 1 (ends_there (121 ∷ 118 ∷ []) 0 1 refl) all in
      let more = other_values (121 ∷ 118 ∷ []) 0 1 (ends_there (121 ∷ 118 ∷ []) 0 1 refl) all in
      let one = spelling order start (NumberValue BYTE f.code) in
      let after = start + length one in
      let second = first_value (118 ∷ []) 0 1 (ends_there (118 ∷ []) 0 1 refl) more in
      let number = number_of_width first 1 BYTE f.code refl (omega arith) refl in
      let none = no_gap start in
      let begin : start ≡ start + gap_to 1 start = omega (arith, none) in
      let read = number_read first 1 start number begin in
      let same : number.n ≡ f.code = let e = number.is in cc in
      let place : after ≡ start + 1 = sym (number_ends first 1 start number begin) in
      let two = spelling order after (VariantValue f.value) in
      let whole : length (spellings order start coded_values) ≡ length one + (length two + 0) = length-append one (two ++ []) ∙ ap (λ (k : ℕ). length one + k) (length-append two []) in
      let ended : start + length (spellings order start coded_values) ≡ field_end source at f = ap (λ (k : ℕ). k + length (spellings order k coded_values)) begins ∙ parts_end s.stands kind.Struct tt in
      let same_two : length two ≡ length (spelling order (start + 1) (VariantValue f.value)) = ap (λ (k : ℕ). length (spelling order k (VariantValue f.value))) place in
      record {
        some = p.0;
        inside = omega (arith, number.inside, none);
        code = one_byte order bytes start (omega (arith, number.inside, none)) ∙ read ∙ same;
        held = subst (λ (k : ℕ). Stands order (depth_left - 1 - 1) (118 ∷ []) k bytes (VariantValue f.value) rest) place second;
        ends = omega (arith, ended, whole, place, same_two);
      }

  -- its code, and the value, whose signature has so many bytes
  pub record FieldApart (n : ℕ) : Type 0 where
    pub deep : 3 ≤ depth_left
    pub code : get_or bytes start 0 ≡ f.code
    pub few : n < 256
    pub single : IsSingleType (type_of f.value)
    pub value_begins : start + 1 + 1 + n + 1 ≡ inside source.order (start + 1) (VariantValue f.value)
    pub inside : start + 1 + 1 + n + 1 ≤ length bytes
    pub value : Stands source.order (depth_left - 3) (take (start + 1 + 1 + n - (start + 1 + 1)) (drop (start + 1 + 1) bytes)) (start + 1 + 1 + n + 1) bytes f.value rest
    pub ends : start + 1 + 1 + n + 1 + length (spelling source.order (start + 1 + 1 + n + 1) f.value) ≡ field_end source at f

  pub field_apart : (n : ℕ) → n ≡ get_or bytes (start + 1) 0 → FieldApart n
  field_apart n read =
      let v = variant_parts f.value coded.held n read in
      let deep : 3 ≤ depth_left = omega (arith, v.some) in
      let less : depth_left - 1 - 1 - 1 ≡ depth_left - 3 = omega arith in
      let q = start + 1 + 1 + n + 1 in
      let types = take (start + 1 + 1 + n - (start + 1 + 1)) (drop (start + 1 + 1) bytes) in
      record {
        deep = deep;
        code = coded.code;
        few = v.few;
        single = v.single;
        inside = v.inside;
        value_begins = v.begins;
        value = subst (λ (r : ℕ). Stands source.order r types q bytes f.value rest) less v.held;
        ends = v.ends ∙ coded.ends;
      }

-- whatever field it is
pub field_inside : {source : MessageBytes} {depth_left at : ℕ} → (f : FieldTree) × (rest : List ℕ) × FieldStands source depth_left at f rest → {g : ℕ} → g ≡ gap_to 8 at
    → (3 ≤ depth_left) × (at + g + 1 + 1 + get_or source.bytes.now (at + g + 1) 0 + 1 ≤ length source.bytes.now)
field_inside {source} {depth_left} {at} (f, rest, s) {g} e = let p = field_apart source depth_left at f rest s (at + g) (omega (arith, e)) _ refl in (p.deep, p.inside)

-- ---- a message's fields

gaps : (gap_to 4 12 ≡ 0) × (gap_to 8 16 ≡ 0)
unfolding gap_to
gaps = (refl, refl)

module _ (source : MessageBytes) (depth_left : ℕ) (fs : List FieldTree) (rest : List ℕ) (s : FieldsStand source depth_left fs rest) where
  pub fields_apart : (n : ℕ) → n ≡ number_of source.order (take 4 (drop 12 source.bytes.now)) → (16 + n ≤ length source.bytes.now) × FieldsLeft source depth_left 16 (16 + n) fs rest
  fields_apart n read =
      let p = array_stands s refl in
      let found = array_found s p {g = 0} {b = 8} {h = 0} {n = n} (sym gaps.0) (boundary_by 40 8 refl) (sym gaps.1) read in
      let is : p.xs ≡ value_trees (map field_struct fs) = let e = p.is in cc in (
        omega (arith, p.inside, found.0, found.1),
        record {
          some = p.some;
          stand = subst (λ (us : ValueTrees). ElementsStand source.order (depth_left - 1) field_types 16 (16 + n) source.bytes.now us rest) is (elements_there s p 16 n found.0 found.1);
        },
      )

-- ---- fields one after another

-- Of the fields fs, some are left, from `place` on; of those before them Q holds.
pub record Walked (source : MessageBytes) (depth_left end : ℕ) (fs : List FieldTree) (rest : List ℕ) (Q : List FieldTree → Type 0) (place : ℕ) : Type 0 where
  pub left : List FieldTree
  pub stand : FieldsLeft source depth_left place end left rest
  pub done : List FieldTree
  pub joins : fs ≡ done ++ left
  pub walked : Q done

pub none_walked : (source : MessageBytes) (depth_left at end : ℕ) (fs : List FieldTree) (rest : List ℕ) (Q : List FieldTree → Type 0) → FieldsLeft source depth_left at end fs rest → Q [] → Walked source depth_left end fs rest Q at
none_walked source depth_left at end fs rest Q stand walked = record { left = fs; stand = stand; done = []; joins = refl; walked = walked }

-- the first of some fields, and those after it
pub record FirstField (source : MessageBytes) (depth_left place end : ℕ) (rest : List ℕ) (fs : List FieldTree) : Type 0 where
  pub f : FieldTree
  pub others : List FieldTree
  pub begins : fs ≡ f ∷ others
  pub after : List ℕ
  pub stands : FieldStands source depth_left place f after
  pub some : place < field_end source place f
  pub left : FieldsLeft source depth_left (field_end source place f) end others rest

module _ {source : MessageBytes} {depth_left place end : ℕ} {rest : List ℕ} where
  pub first_field : (fs : List FieldTree) → FieldsLeft source depth_left place end fs rest → place < end → FirstField source depth_left place end rest fs
  first_field [] l lt = absurd (omega (arith, lt, none_ends l.stand))
  first_field (f ∷ others) l lt =
      let s = first_element l.stand in
      record {
        f = f;
        others = others;
        begins = refl;
        after = spellings source.order (field_end source place f) (value_trees (map field_struct others)) ++ rest;
        stands = record { some = l.some; stands = s };
        some = omega (arith, stands_positive source.order (field_struct f) place s.shaped);
        left = record { some = l.some; stand = other_elements l.stand };
      }

  pub no_field : (fs : List FieldTree) → FieldsLeft source depth_left place end fs rest → end ≤ place → fs ≡ []
  no_field [] l le = refl
  no_field (f ∷ others) l le = absurd (omega (arith, le, some_ends l.stand, stands_positive source.order (field_struct f) place (first_element l.stand).shaped))

  module _ {fs : List FieldTree} {Q : List FieldTree → Type 0} (w : Walked source depth_left end fs rest Q place) where
    pub next_field : place < end → FirstField source depth_left place end rest w.left
    next_field lt = first_field w.left w.stand lt

    pub field_walked : (Q' : List FieldTree → Type 0) (n : FirstField source depth_left place end rest w.left) (q : ℕ) → q ≡ field_end source place n.f → Q' (w.done ++ n.f ∷ []) → Walked source depth_left end fs rest Q' q
    field_walked Q' n q ends walked = record {
      left = n.others;
      stand = subst (λ (k : ℕ). FieldsLeft source depth_left k end n.others rest) (sym ends) n.left;
      done = w.done ++ n.f ∷ [];
      joins = w.joins ∙ ap (λ (u : List FieldTree). w.done ++ u) n.begins ∙ sym (append_assoc w.done (n.f ∷ []) n.others);
      walked = walked;
    }

    pub all_walked : end ≤ place → Q fs
    all_walked le = subst Q (sym (w.joins ∙ ap (λ (u : List FieldTree). w.done ++ u) (no_field w.left w.stand le) ∙ append-nil w.done)) w.walked
