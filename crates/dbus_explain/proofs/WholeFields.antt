-- Header fields that are passed one after another stand in the bytes.
use Rattle.std.proofs.Common.{◌≡◌, ℕ, zero, suc, ◌+◌, ◌<◌, ◌≤◌, List, [], ◌∷◌, length, drop, map, true, refl, sym, subst, ap, ◌∙◌, arith}
use Rattle.dbus_texts.specs.Types.{TypeTree, BYTE, NumberType, VariantType, NoTypes, MoreTypes, IsShaped}
use Rattle.dbus_value_model.specs.Bounds.{bounds_of}
use Rattle.dbus_value_model.specs.Outcomes.{SpelledAll}
use Rattle.dbus_value_model.specs.Specification.{specification}
use Rattle.dbus_value_model.specs.Spelling.{Spelled, spellings}
use Rattle.dbus_value_model.specs.Values.{ValueTree, ValueTrees, NumberValue, VariantValue, StructValue, NoValues, MoreValues, AllOf, type_of, types_of, value_trees}
use Rattle.dbus_value_model.specs.declared.limits.TheConstants.{DEPTH_LIMIT}
use Rattle.dbus_value_laws.proofs.Composition.{all_more}
use Rattle.dbus_value_laws.proofs.ValueItemLaws.{positive}
use Rattle.dbus_message_model.specs.Messages.{FieldTree, field_struct, field_type}
use Rattle.dbus_walk.specs.Fields.{field_types}
use Rattle.dbus_walk.specs.Standing.{ElementsStand}
use Rattle.dbus_walk.proofs.NumberFacts.{number_of_type}
use Rattle.dbus_explain.specs.Places.{IsIn, Pass, Passes, order_of}

-- ---- values of the type of a field

variant_of_type : (v : ValueTree) → type_of v ≡ VariantType → (x : ValueTree) × (v ≡ VariantValue x)
variant_of_type (VariantValue x) e = (x, refl)
variant_of_type v e = absurd cc

two_of_types : (xs : ValueTrees) (s t : TypeTree) → types_of xs ≡ MoreTypes s (MoreTypes t NoTypes)
    → (a : ValueTree) × (b : ValueTree) × (xs ≡ MoreValues a (MoreValues b NoValues)) × (type_of a ≡ s) × (type_of b ≡ t)
two_of_types NoValues s t e = absurd cc
two_of_types (MoreValues a NoValues) s t e = absurd cc
two_of_types (MoreValues a (MoreValues b NoValues)) s t e = (a, b, refl, cc, cc)
two_of_types (MoreValues a (MoreValues b (MoreValues c xs))) s t e = absurd cc

field_of_type : (v : ValueTree) → type_of v ≡ field_type → (f : FieldTree) × (v ≡ field_struct f)
field_of_type (StructValue xs) e =
    let are : types_of xs ≡ MoreTypes (NumberType BYTE) (MoreTypes VariantType NoTypes) = cc in
    let two = two_of_types xs (NumberType BYTE) VariantType are in
    let code = number_of_type two.0 BYTE two.3 in
    let value = variant_of_type two.1 two.4 in (
      record { code = code.0; value = value.0 },
      ap StructValue two.2 ∙ ap (λ (a : ValueTree). StructValue (MoreValues a (MoreValues two.1 NoValues))) code.1
          ∙ ap (λ (b : ValueTree). StructValue (MoreValues (NumberValue BYTE code.0) (MoreValues b NoValues))) value.1,
    )
field_of_type v e = absurd cc

all_fields : (fs : List FieldTree) → AllOf field_type (value_trees (map field_struct fs))
all_fields [] = tt
all_fields (f ∷ fs) = (refl, all_fields fs)

module _ (bytes : List ℕ) (at : ℕ) where
  -- ---- values move on

  pub passes_moves : (t : TypeTree) → IsShaped true t → (p q : ℕ) → Passes bytes at t p q → p < q
  passes_moves t shaped p q (v, one) =
      let some = positive (bounds_of specification) (order_of bytes) v true p (subst (λ (u : TypeTree). IsShaped true u) (sym one.has_type) shaped) in
      omega (arith, some, one.place)

  pub pass_moves : (t : TypeTree) → IsShaped true t → (n p q : ℕ) → Pass bytes at t n p q → p + n ≤ q
  pass_moves t shaped zero p q h = omega (arith, h)
  pass_moves t shaped (suc n) p q (r, before, last) = omega (arith, pass_moves t shaped n p r before, passes_moves t shaped r q last)

  -- no value is behind the last byte
  pub none_behind : (t : TypeTree) → IsShaped true t → (p : ℕ) → at ≤ p → IsIn bytes at t p
  none_behind t shaped p h = λ q spelled. let bound = spelled.1.bound in omega (arith, passes_moves t shaped p q spelled, bound, h)

  -- ---- fields

  abbrev pub Spelt : List FieldTree → (p q : ℕ) → Type 0
  Spelt fs p q = SpelledAll (bounds_of specification) (order_of bytes) DEPTH_LIMIT p (drop p bytes) (value_trees (map field_struct fs)) q (drop q bytes)

  before_others : (n p q : ℕ) (fs : List FieldTree) (end : ℕ) → Pass bytes at field_type n p q → Spelt fs q end → (gs : List FieldTree) × Spelt gs p end
  before_others zero p q fs end h others = (fs, subst (λ (k : ℕ). Spelt fs k end) h others)
  before_others (suc n) p q fs end (r, before, last) others =
      let f = field_of_type last.0 last.1.has_type in
      let field = subst (λ (w : ValueTree). Spelled (bounds_of specification) (order_of bytes) DEPTH_LIMIT at field_type r (drop r bytes) w q (drop q bytes)) f.1 last.1 in
      before_others n p r (f.0 ∷ fs) end before
      (all_more (bounds_of specification) (order_of bytes) DEPTH_LIMIT at field_type r (drop r bytes) (field_struct f.0) q (drop q bytes) (value_trees (map field_struct fs)) end (drop end bytes) field others)

  pub fields_passed : (n p q : ℕ) → Pass bytes at field_type n p q → (fs : List FieldTree) × Spelt fs p q
  unfolding spellings
  fields_passed n p q h = before_others n p q [] q h (record { formed = tt; within = tt; indexes = tt; bytes = refl; place = omega arith })

  pub fields_stand : (fs : List FieldTree) (p q : ℕ) → p ≤ length bytes → Spelt fs p q → ElementsStand (order_of bytes) DEPTH_LIMIT field_types p q bytes (value_trees (map field_struct fs)) (drop q bytes)
  fields_stand fs p q inside spelt = record {
    type = field_type;
    text = refl;
    shaped = (tt, (tt, tt));
    all = all_fields fs;
    formed = spelt.formed;
    array = (bounds_of specification).array;
    small = omega arith;
    within = spelt.within;
    spelled = spelt.bytes;
    ends = spelt.place;
    inside = inside;
  }
