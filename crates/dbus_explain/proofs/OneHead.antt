-- What is whole of a header is one list of header fields.
use Rattle.std.proofs.Common.{◌≡◌, ℕ, ◌+◌, ◌≤◌, List, [], ◌∷◌, ◌++◌, drop, length, map, min, Option, Some, refl, sym, ap, ◌∙◌, subst, arith}
use Rattle.std.proofs.lemmas.List.{drop_at, drop-drop}
use Rattle.std.specs.List.{flat_map}
use Rattle.dbus_value_model.specs.Bounds.{bounds_of}
use Rattle.dbus_value_model.specs.Specification.{specification}
use Rattle.dbus_value_model.specs.Spelling.{Spelled, spelling, spellings}
use Rattle.dbus_value_model.specs.Values.{value_trees}
use Rattle.dbus_value_model.specs.declared.limits.TheConstants.{DEPTH_LIMIT}
use Rattle.dbus_value_laws.proofs.Composition.{all_parts}
use Rattle.dbus_message_model.specs.Messages.{FieldTree, field_struct, field_type}
use Rattle.dbus_show.specs.ShownMessages.{field_text, start_text}
use Rattle.dbus_explain.specs.Heads.{AreWhole, IsHead, flags_of, kind_of, serial_of}
use Rattle.dbus_explain.specs.Heads as head
use Rattle.dbus_explain.specs.Places.{IsIn, fields_end, order_of}
use Rattle.dbus_explain.proofs.OneField.{spelled_one}
use Rattle.dbus_explain.proofs.WholeFields.{Spelt}

same_field : (f g : FieldTree) → field_struct f ≡ field_struct g → f ≡ g
same_field f g e =
    let code : f.code ≡ g.code = cc in
    let value : f.value ≡ g.value = cc in
    λ i. record { code = code i; value = value i }

module _ (bytes : List ℕ) (at : ℕ) where
  -- the first of some fields, and the others behind it
  pub record FirstField (f : FieldTree) (fs : List FieldTree) (p end : ℕ) : Type 0 where
    pub q : ℕ
    pub first : Spelled (bounds_of specification) (order_of bytes) DEPTH_LIMIT at field_type p (drop p bytes) (field_struct f) q (drop q bytes)
    pub others : Spelt bytes at fs q end

  first_field : (f : FieldTree) (fs : List FieldTree) (p end : ℕ) → end ≤ at → Spelt bytes at (f ∷ fs) p end → FirstField f fs p end
  first_field f fs p end within h =
      let parts = all_parts (bounds_of specification) (order_of bytes) DEPTH_LIMIT at p (drop p bytes) (field_struct f) (value_trees (map field_struct fs)) end (drop end bytes) within h in
      let text = spelling (order_of bytes) p (field_struct f) in
      let long = length text in
      let place : parts.0 ≡ p + long = parts.2.place in
      let rest : parts.1 ≡ drop parts.0 bytes = sym (ap (λ (n : ℕ). drop n bytes) place ∙ (sym (drop-drop long p bytes) ∙ (ap (λ (l : List ℕ). drop long l) parts.2.bytes ∙ drop_at text parts.1 long refl))) in
      record {
        q = parts.0;
        first = subst (λ (l : List ℕ). Spelled (bounds_of specification) (order_of bytes) DEPTH_LIMIT at field_type p (drop p bytes) (field_struct f) parts.0 l) rest parts.2;
        others = rw rest at parts.3;
      }

  ends_none : (p end : ℕ) → Spelt bytes at [] p end → end ≡ p
  unfolding spellings
  ends_none p end h = let place = h.place in omega (arith, place)

  fields_from : (fs gs : List FieldTree) (p e d : ℕ) → Spelt bytes at fs p e → Spelt bytes at gs p d → e ≤ at → d ≤ at → IsIn bytes at field_type e → IsIn bytes at field_type d → fs ≡ gs
  fields_from [] [] p e d a b near too stops also = refl
  fields_from [] (g ∷ gs) p e d a b near too stops also =
      let one = first_field g gs p d too b in
      absurd (subst (λ (k : ℕ). IsIn bytes at field_type k) (ends_none p e a) stops one.q (field_struct g, one.first))
  fields_from (f ∷ fs) [] p e d a b near too stops also =
      let one = first_field f fs p e near a in
      absurd (subst (λ (k : ℕ). IsIn bytes at field_type k) (ends_none p d b) also one.q (field_struct f, one.first))
  fields_from (f ∷ fs) (g ∷ gs) p e d a b near too stops also =
      let one = first_field f fs p e near a in
      let two = first_field g gs p d too b in
      let same = spelled_one bytes at field_type (tt, (tt, tt)) p one.q two.q (field_struct f) (field_struct g) one.first two.first in
      let rest = fields_from fs gs one.q e d one.others (subst (λ (k : ℕ). Spelt bytes at gs k d) (sym same.1) two.others) near too stops also in
      λ i. same_field f g same.0 i ∷ rest i

  pub whole_one : (fs gs : List FieldTree) → AreWhole bytes at fs → AreWhole bytes at gs → fs ≡ gs
  whole_one fs gs a b = fields_from fs gs 16 a.end b.end a.spelled b.spelled a.within b.within a.last b.last

module _ (bytes : List ℕ) (at number : ℕ) where
  pub head_one : (x y : Option (List ℕ)) → IsHead bytes at number x → IsHead bytes at number y → x ≡ y
  head_one x y (head.none h) (head.none k) = refl
  head_one x y (head.none h) (head.typed k l) = absurd (omega (arith, h, k))
  head_one x y (head.none h) (head.fields gs k l) = absurd (omega (arith, h, k))
  head_one x y (head.typed h l) (head.none k) = absurd (omega (arith, h, k))
  head_one x y (head.typed h l) (head.typed k m) = refl
  head_one x y (head.typed h l) (head.fields gs k m) = absurd (omega (arith, l, k))
  head_one x y (head.fields fs h a) (head.none k) = absurd (omega (arith, h, k))
  head_one x y (head.fields fs h a) (head.typed k m) = absurd (omega (arith, h, m))
  head_one x y (head.fields fs h a) (head.fields gs k b) =
      ap (λ (l : List FieldTree). Some (start_text (order_of bytes) (kind_of bytes) (serial_of bytes) (flags_of bytes) number ++ flat_map field_text l))
      (whole_one bytes (min at (fields_end bytes)) fs gs a b)
