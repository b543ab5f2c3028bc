-- The known fields of a message that is validated, and where their values stand.
use Rattle.std.proofs.Common.{◌≡◌, ℕ, zero, suc, ◌-◌, List, false, ◌∙◌, arith, Bool, true, cond, eqb, [], ◌∷◌, map, Option, Some, None, slice_index_or, refl, sym, subst, ◌+◌, ◌≤◌, length, take, drop, IsUtf8, ap}
use Rattle.dbus_texts.specs.Types.{IsSingleType, UINT32}
use Rattle.dbus_texts.proofs.TypeTexts.{shaped_of}
use Rattle.dbus_message_model.specs.Messages.{FieldTree, field_struct, is_known, field_array, MessageTree, want}
use Rattle.dbus_value_model.specs.Values.{ValueTree, ValueTrees, NoValues, MoreValues, type_of, IsWellFormed, AreWellFormed, value_trees, NumberValue}
use Rattle.dbus_values.specs.States.{ValuesState, AreLeft, IsAfter}
use Rattle.dbus_values.proofs.Views.{one_left}
use Rattle.dbus_walk.specs.Fields.{FieldsLeft, FieldStands, IsFieldAt, field_end}
use Rattle.dbus_walk.specs.declared.fields.FieldSpot.{FieldSpot}
use Rattle.dbus_walk.specs.declared.spot.MessageBytes.{MessageBytes}
use Rattle.dbus_walk.proofs.FieldParts.{FirstField, first_field}
use Rattle.dbus_message_model.specs.KnownFields.{field_value, WantsText, IsTextOf}
use Rattle.dbus_validate.specs.Seen.{AreNoted, IsNotedOf, StandsAt}
use Rattle.dbus_validate.specs.declared.seen.FieldPlace.{FieldPlace}
use Rattle.dbus_validate.specs.declared.seen.FieldPlaces.{FieldPlaces}
use Rattle.dbus_walk.proofs.Signed.{held_formed}
use Rattle.dbus_value_model.specs.declared.limits.Limits.{Limits}
use Rattle.dbus_validate.specs.declared.validating.Validated.{Validated}
use Rattle.dbus_validate.specs.Validating.{IsValidatedWhole}
use Rattle.dbus_validate.proofs.WholeParts.{noted_there}
use Rattle.dbus_message_model.proofs.KnownValues.{suits_of, has_text, text_known, has_number}
use Rattle.dbus_walk.proofs.ReadThere.{formed_utf8}
use Rattle.dbus_view.proofs.Whole.{message, valid}

-- Header fields that are left: the first of them, and the others.

single_value : (depth_left : ℕ) (f : FieldTree) → IsWellFormed depth_left (field_struct f) → IsSingleType (type_of f.value)
single_value zero f h = absurd h
single_value (suc zero) f h = absurd h.1.0
single_value (suc (suc depth_left)) f h = h.1.0.0

module _ {source : MessageBytes} {depth_left at end : ℕ} {fs : List FieldTree} {rest : List ℕ} (l : FieldsLeft source depth_left at end fs rest) (some : at ≡ end → ⊥) where
  pub first : FirstField source depth_left at end rest fs
  first = first_field fs l (omega (arith, l.stand.ends, some))

  module _ (spot : FieldSpot) (found : (f : FieldTree) (after : List ℕ) → FieldStands source depth_left at f after → IsFieldAt source at f after spot) where
    pub there : IsFieldAt source at first.f first.after spot
    there = found first.f first.after first.stands

    abbrev pub value : ValuesState
    value = record { order = source.order; bytes = source.bytes.now; at = spot.at; types = spot.types.now; depth_left = spot.depth_left }

    pub value_left : AreLeft value (MoreValues first.f.value NoValues) first.after
    value_left = one_left there.value (shaped_of (type_of first.f.value) false 0 0 (single_value (depth_left - 1) first.f first.stands.stands.formed).0)

    -- the others begin where the value ends
    pub others_begin : (next : ValuesState) → ((x : ValueTree) (us : ValueTrees) (after : List ℕ) → AreLeft value (MoreValues x us) after → IsAfter value x next) → next.at ≡ field_end source at first.f
    others_begin next after = (after first.f.value NoValues first.after value_left).2 ∙ there.ends

-- The known fields of a message, and where their values stand.

-- ---- the first field of a code

each_formed : (depth_left c : ℕ) (fs : List FieldTree) → AreWellFormed depth_left (value_trees (map field_struct fs)) → (v : ValueTree) → field_value c fs ≡ Some v → (r : ℕ) × IsWellFormed r v
each_formed depth_left c [] h v e = absurd cc
each_formed depth_left c (f ∷ fs) h v e = go (eqb f.code c) e (each_formed depth_left c fs h.1 v)
  where
    go : (b : Bool) → cond b (Some f.value) (field_value c fs) ≡ Some v → (field_value c fs ≡ Some v → (r : ℕ) × IsWellFormed r v) → (r : ℕ) × IsWellFormed r v
    go true g more =
        let same : f.value ≡ v = cc in
        let w = held_formed depth_left f.code f.value h.0 in
        (w.0, subst (λ (x : ValueTree). IsWellFormed w.0 x) same w.1)
    go false g more = more g

pub formed_of : (depth c : ℕ) (fs : List FieldTree) → IsWellFormed depth (field_array fs) → (v : ValueTree) → field_value c fs ≡ Some v → (r : ℕ) × IsWellFormed r v
formed_of zero c fs h v e = absurd h
formed_of (suc depth_left) c fs h v e = each_formed depth_left c fs h.1 v e

-- ---- what is noted

module _ (fs : List FieldTree) (bytes : List ℕ) (seen : FieldPlaces) (c : ℕ) (noted : AreNoted fs bytes seen) (known : is_known c ≡ true) where
  pub stands : (p : FieldPlace) → Some p ≡ slice_index_or seen.places c None → (v : ValueTree) × (field_value c fs ≡ Some v) × StandsAt v bytes p
  stands p e = go (field_value c fs) refl (subst (λ (o : Option FieldPlace). IsNotedOf (field_value c fs) bytes o) (sym e) (noted c known))
    where
      go : (o : Option ValueTree) → field_value c fs ≡ o → IsNotedOf o bytes (Some p) → (v : ValueTree) × (field_value c fs ≡ Some v) × StandsAt v bytes p
      go None is h = absurd h
      go (Some v) is h = (v, is, h)

  pub absent : None ≡ slice_index_or seen.places c None → field_value c fs ≡ None
  absent e = go (field_value c fs) refl (subst (λ (o : Option FieldPlace). IsNotedOf (field_value c fs) bytes o) (sym e) (noted c known))
    where
      go : (o : Option ValueTree) → field_value c fs ≡ o → IsNotedOf o bytes None → field_value c fs ≡ None
      go None is h = is
      go (Some v) is h = absurd h

module _ (limits : Limits) (bytes : List ℕ) (j : Validated) (h : IsValidatedWhole limits bytes j) where
  abbrev read : MessageTree
  read = message limits bytes j h

  noted : AreNoted read.fields bytes j.fields
  noted = noted_there limits bytes j h.validated

  module _ (c : ℕ) (wants : WantsText (want c)) where
    -- its text stands there
    pub record TextThere (p : FieldPlace) : Type 0 where
      pub value : ValueTree
      pub is : field_value c read.fields ≡ Some value
      pub inside : p.start + p.length ≤ length bytes
      pub text : IsTextOf (want c) (Some value) (take p.length (drop p.start bytes))
      pub utf8 : IsUtf8 (take p.length (drop p.start bytes))

    pub text_there : (p : FieldPlace) → Some p ≡ slice_index_or j.fields.places c None → TextThere p
    text_there p e =
        let ok = valid limits bytes j h in
        let s = stands read.fields bytes j.fields c noted (text_known (want c) wants) p e in
        let t = has_text (want c) s.0 (take p.length (drop p.start bytes)) wants (suits_of c _ read.fields ok.fields s.0 s.1) s.2.text in
        let formed = formed_of limits.depth c read.fields ok.formed_fields s.0 s.1 in
        record {
          value = s.0;
          is = s.1;
          inside = s.2.inside;
          text = t.text;
          utf8 = formed_utf8 formed.0 t.code (take p.length (drop p.start bytes)) (subst (λ (v : ValueTree). IsWellFormed formed.0 v) t.is formed.1);
        }

    pub no_text : None ≡ slice_index_or j.fields.places c None → field_value c read.fields ≡ None
    no_text e = absent read.fields bytes j.fields c noted (text_known (want c) wants) e

  pub number_there : (p : FieldPlace) → Some p ≡ slice_index_or j.fields.places 5 None → field_value 5 read.fields ≡ Some (NumberValue UINT32 p.number)
  number_there p e =
      let ok = valid limits bytes j h in
      let s = stands read.fields bytes j.fields 5 noted refl p e in
      s.1 ∙ ap Some (has_number s.0 p.number (suits_of 5 _ read.fields ok.fields s.0 s.1) s.2.number)

  pub no_number : None ≡ slice_index_or j.fields.places 5 None → field_value 5 read.fields ≡ None
  no_number e = absent read.fields bytes j.fields 5 noted refl e
