-- Parts that have no bytes, or whose bytes begin with no message, make none; and bytes that are
-- validated are the message built.
use Rattle.std.proofs.Common.{◌≡◌, ◌⊎◌, ℕ, ◌+◌, ◌-◌, ◌^◌, ◌<◌, ◌≤◌, ◌||◌, List, [], ◌∷◌, ◌++◌, length, replicate, Bool, true, false, if◌then◌else◌, nat_eq, Option, Some, None, inl, inr, refl, sym, ap, subst, ◌∙◌, arith}
use Rattle.std.specs.Borrow.{Bor}
use Rattle.std.specs.List.{flat_map}
use Rattle.std.proofs.lemmas.Bool.{eqb-true}
use Rattle.std.proofs.lemmas.List.{length-append, length-replicate, append-nil}
use Rattle.dbus_texts.specs.Types.{TextCode, sig}
use Rattle.dbus_types.specs.Alignments.{length_width}
use Rattle.dbus_value_model.specs.declared.limits.Limits.{Limits}
use Rattle.dbus_value_model.specs.declared.order.Order.{Order}
use Rattle.dbus_value_model.specs.SizeLimits.{with_padding, with_value, with_values}
use Rattle.dbus_value_model.specs.Bounds.{bounds_of}
use Rattle.dbus_value_model.specs.Bytes.{pad, num}
use Rattle.dbus_value_model.specs.Spelling.{ended_text, spelling, spellings}
use Rattle.dbus_value_model.specs.Values.{ValueTree, NumberValue, TextValue, VariantValue, ArrayValue, StructValue, EntryValue, type_of, IsWellFormed, AreWellFormed}
use Rattle.dbus_marshal.proofs.Written.{written_more, length_values}
use Rattle.dbus_message_model.specs.Messages.{FieldTree, MessageTree, IsMessage, field_struct, has_code, message_bytes}
use Rattle.dbus_encode.proofs.FieldWriting.{field_length}
use Rattle.dbus_message_model.proofs.BothOrders.{message_length}
use Rattle.dbus_header.specs.MessageOutcomes.{IsWhole}
use Rattle.dbus_validate.specs.Validating.{IsValidated}
use Rattle.dbus_header.specs.NoMessage.{BeginsWithNone}
use Rattle.dbus_validate.specs.declared.validating.Validated.{Validated}
use Rattle.dbus_c_build.specs.Drafts.{HasParts, text_of, text_code, field_of, field_given, stays, in_place, added, known_codes, fields_after}
use Rattle.dbus_c_build.specs.Building.{spelled, HaveBytes, HaveNoBytes, IsBuilt, IsShort, IsRefusal, MakeNone, most_of, fields_length}
use Rattle.dbus_c_build.specs.declared.draft.Draft.{Draft}
use Rattle.dbus_c_build.specs.declared.draft_fault.DraftFault.{DraftFault}
use Rattle.dbus_c_build.specs.declared.draft_fault.DraftFault.TheVariants as refusals
use Rattle.dbus_c_build.proofs.Anywhere.{AreSpelled, formed_structs, structs}
use Rattle.dbus_c_build.proofs.OnlyMessage.{parts_spelled, contents_within, only_message}
use Rattle.dbus_c_build.proofs.SameFields.{sound_field}

-- ---- texts by their codes

if_is : (P : ℕ → Option (Bor (List ℕ)) → Type 0) (code k : ℕ) (x y : Option (Bor (List ℕ))) (same : Bool) → nat_eq code k ≡ same → P k x → P code y → P code (if same then x else y)
if_is P code k x y true e there else_there = subst (λ (c : ℕ). P c x) (sym (eqb-true code k e)) there
if_is P code k x y false e there else_there = else_there

-- what holds of each text holds by its code
pub by_code : (p : Draft) (P : ℕ → Option (Bor (List ℕ)) → Type 0) → ((code : ℕ) → P code None) → P 0 (Some p.body)
    → (P 1 p.path × P 2 p.interface × P 3 p.member × P 4 p.error_name × P 6 p.destination × P 7 p.sender × P 8 p.signature) → (code : ℕ) → P code (text_of code p)
by_code p P none body h code =
    if_is P code 0 _ _ (nat_eq code 0) refl body (if_is P code 1 _ _ (nat_eq code 1) refl h.0 (if_is P code 2 _ _ (nat_eq code 2) refl h.1
    (if_is P code 3 _ _ (nat_eq code 3) refl h.2 (if_is P code 4 _ _ (nat_eq code 4) refl h.3 (if_is P code 6 _ _ (nat_eq code 6) refl h.4
    (if_is P code 7 _ _ (nat_eq code 7) refl h.5 (if_is P code 8 _ _ (nat_eq code 8) refl h.6 (none code))))))))

-- ---- texts in a message are short

abbrev HasShort : ℕ → ValueTree → Type 0
HasShort most (TextValue k t) = (length t ≤ most) × (length t < 256 ^ length_width k)
HasShort most (NumberValue k n) = Unit {0}
HasShort most (VariantValue x) = Unit {0}
HasShort most (ArrayValue t xs) = Unit {0}
HasShort most (StructValue xs) = Unit {0}
HasShort most (EntryValue k v) = Unit {0}

abbrev HaveShort : ℕ → List FieldTree → Type 0
HaveShort most [] = Unit {0}
HaveShort most (f ∷ fs) = HasShort most f.value × HaveShort most fs

inside_text : (order : Order) (o : ℕ) (k : TextCode) (t : List ℕ) → length t ≤ length (spelling order o (TextValue k t))
unfolding spelling
inside_text order o k t =
    let w = length_width k in
    omega (arith, length-append (pad w o) (ended_text order w t), length-append (num order w (length t)) (t ++ 0 ∷ []), length-append t (0 ∷ []))

module _ (order : Order) (most : ℕ) where
  short_value : (v : ValueTree) (depth o : ℕ) → IsWellFormed depth v → length (spelling order o v) ≤ most → HasShort most v
  short_value (TextValue k t) depth o formed within = (omega (arith, within, inside_text order o k t), formed.1)
  short_value (NumberValue k n) depth o formed within = tt
  short_value (VariantValue x) depth o formed within = tt
  short_value (ArrayValue t xs) depth o formed within = tt
  short_value (StructValue xs) depth o formed within = tt
  short_value (EntryValue k v) depth o formed within = tt

  short_fields : (gs : List FieldTree) (depth : ℕ) (front : List ℕ) → AreWellFormed depth (structs gs) → length (with_values order (structs gs) front) ≤ most → HaveShort most gs
  short_fields [] depth front formed within = tt
  short_fields (g ∷ gs) depth front formed within =
      let sound = sound_field depth g formed.0 in
      let all = ap length (written_more order (field_struct g) (structs gs) front) in
      let rest = length_values order (structs gs) (with_value order (field_struct g) front) in
      let one = field_length order g.code g.value front sound.code in
      (short_value g.value sound.depth (length (with_padding 8 front) + 1 + 1 + length (sig (type_of g.value)) + 1) sound.formed (omega (arith, within, all, rest, one)), short_fields gs depth (with_value order (field_struct g) front) formed.1 (omega (arith, within, all)))

-- ---- the field that the parts have of a code is short if all fields are

abbrev is_among : ℕ → List ℕ → Bool
is_among c [] = false
is_among c (k ∷ ks) = nat_eq k c || is_among c ks

module _ (most : ℕ) where
  short_parts : (xs ys : List FieldTree) → HaveShort most (xs ++ ys) → HaveShort most xs × HaveShort most ys
  short_parts [] ys h = (tt, h)
  short_parts (x ∷ xs) ys h = let parts = short_parts xs ys h.1 in ((h.0, parts.0), parts.1)

  module _ (kept : List FieldTree) (p : Draft) (c : ℕ) where
    abbrev Given : Type 0
    Given = HaveShort most (field_given p c)

    -- where a field of the code is kept
    short_kept : (fs : List FieldTree) → stays p kept c ≡ false → has_code c fs ≡ true → HaveShort most (flat_map (in_place p kept) fs) → Given
    short_kept [] changed has h = absurd cc
    short_kept (f ∷ fs) changed has h =
        let parts = short_parts (in_place p kept f) (flat_map (in_place p kept) fs) h in
        here (nat_eq f.code c) refl has parts.0 (λ later. short_kept fs changed later parts.1)
      where
        here : (same : Bool) → nat_eq f.code c ≡ same → same || has_code c fs ≡ true → HaveShort most (in_place p kept f) → (has_code c fs ≡ true → Given) → Given
        here false is has one later = later has
        here true is has one later =
            let at_code = subst (λ (k : ℕ). HaveShort most (if stays p kept k then f ∷ [] else field_given p k)) (eqb-true f.code c is) one in
            subst (λ (same : Bool). HaveShort most (if same then f ∷ [] else field_given p c)) changed at_code

    -- and where none is
    short_added : (codes : List ℕ) → has_code c kept ≡ false → is_among c codes ≡ true → HaveShort most (flat_map (added p kept) codes) → Given
    short_added [] none among h = absurd cc
    short_added (k ∷ ks) none among h =
        let parts = short_parts (added p kept k) (flat_map (added p kept) ks) h in
        here (nat_eq k c) refl among parts.0 (λ later. short_added ks none later parts.1)
      where
        here : (same : Bool) → nat_eq k c ≡ same → same || is_among c ks ≡ true → HaveShort most (added p kept k) → (is_among c ks ≡ true → Given) → Given
        here false is among one later = later among
        here true is among one later =
            let at_code = subst (λ (j : ℕ). HaveShort most (added p kept j)) (eqb-true k c is) one in
            subst (λ (there : Bool). HaveShort most (if there then [] else field_given p c)) none at_code

    short_given : stays p kept c ≡ false → is_among c known_codes ≡ true → HaveShort most (fields_after p kept) → Given
    short_given changed among h = by (has_code c kept) refl
      where
        parts : HaveShort most (flat_map (in_place p kept) kept) × HaveShort most (flat_map (added p kept) known_codes)
        parts = short_parts (flat_map (in_place p kept) kept) (flat_map (added p kept) known_codes) h

        by : (has : Bool) → has_code c kept ≡ has → Given
        by true is = short_kept kept changed is parts.0
        by false is = short_added known_codes is among parts.1

text_short : (most code : ℕ) (text : Option (Bor (List ℕ))) (n : ℕ) → ((n : ℕ) → n ≤ most → n < 256 ^ length_width (text_code code) → n ≤ most_of code)
    → HaveShort most (field_of code text n) → IsShort code text
text_short most code None n bound short = tt
text_short most code (Some t) n bound short = bound (length t.now) short.0.0 short.0.1

module _ (limits : Limits) (kept : List FieldTree) (p : Draft) where
  all_short : (m : MessageTree) → HasParts kept p m → IsMessage limits p.order m → (code : ℕ) → IsShort code (text_of code p)
  all_short m has valid =
      let most : ℕ = 134217728 in
      let front : List ℕ = replicate 16 0 in
      let sixteen : length front ≡ 16 = length-replicate {A = ℕ} 16 0 in
      let long = length_values p.order (structs m.fields) front ∙ ap (λ (n : ℕ). n + length (spellings p.order n (structs m.fields))) sixteen in
      let all = short_fields p.order most m.fields (limits.depth - 1) front (formed_structs limits.depth m.fields valid.formed_fields) (omega (arith, long, contents_within limits p.order m valid, limits.array_in)) in
      let given = subst (HaveShort most) has.fields all in
      let body = ap length has.body in
      let name : (n : ℕ) → n ≤ 134217728 → n < 256 ^ 4 → n ≤ 134217728 = λ n h few. h in
      let each = λ (c : ℕ). short_given most kept p c in
      by_code p IsShort (λ code. tt) (omega (arith, body, message_length p.order m, valid.limit, limits.message_in)) (
        text_short most 1 p.path 0 name (each 1 refl refl given),
        text_short most 2 p.interface 0 name (each 2 refl refl given),
        text_short most 3 p.member 0 name (each 3 refl refl given),
        text_short most 4 p.error_name 0 name (each 4 refl refl given),
        text_short most 6 p.destination 0 name (each 6 refl refl given),
        text_short most 7 p.sender 0 name (each 7 refl refl given),
        text_short most 8 p.signature 0 (λ n h few. omega (arith, few)) (each 8 refl refl given),
      )

  long_none : (code : ℕ) → (IsShort code (text_of code p) → ⊥) ⊎ ((code ≡ 0) × (67108864 < fields_length kept p)) → MakeNone limits kept p
  long_none code (inl long) = λ m has valid. long (all_short m has valid code)
  long_none code (inr many) = λ m has valid.
      let same : length (spellings p.order 16 (structs m.fields)) ≡ fields_length kept p = ap (λ (fs : List FieldTree). length (spellings p.order 16 (structs fs))) has.fields in
      absurd (omega (arith, many.1, same, contents_within limits p.order m valid, limits.array_in))

  pub refused_so : (why : DraftFault) → HaveNoBytes kept p why → IsRefusal limits kept p why
  refused_so refusals.Memory h = tt
  refused_so (refusals.TooLong code) (inl h) = (long_none code (inl h.1), inl h)
  refused_so (refusals.TooLong code) (inr h) = (long_none code (inr (h.0, h.2)), inr h)
  refused_so (refusals.Format f code) h = absurd h

  pub none_so : (out : List ℕ) → out ≡ spelled kept p → BeginsWithNone limits out → MakeNone limits kept p
  unfolding IsWhole
  none_so out is none = λ m has valid.
      none p.order m (length (message_bytes p.order m)) (valid, ([], is ∙ sym (parts_spelled kept p m has) ∙ sym (append-nil (message_bytes p.order m))), refl)

  pub built_so : (out : List ℕ) (v : Validated) → out ≡ spelled kept p → HaveBytes kept p → AreSpelled (bounds_of limits) p.order (limits.depth - 1) kept → IsValidated limits out v → IsBuilt limits kept p out
  unfolding IsWhole
  built_so out v is have spells validated =
      let m = validated.message in
      let w = validated.whole in
      let few : length p.body.now < 256 ^ 4 = omega (arith, have.short 0) in
      let only = only_message limits kept p have spells v.order m w.1.0 few w.0 (sym w.1.1 ∙ is) in
      record {
        message = m;
        parts = record { numbers = only.numbers; fields = only.fields; body = only.body };
        valid = subst (λ (o : Order). IsMessage limits o m) only.order_is w.0;
        bytes = w.1.1 ∙ ap (λ (l : List ℕ). message_bytes v.order m ++ l) only.nothing ∙ append-nil (message_bytes v.order m) ∙ ap (λ (o : Order). message_bytes o m) only.order_is;
      }
