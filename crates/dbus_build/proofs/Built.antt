-- Parts of which no case of fault holds make a valid message of the size that was measured.
use Rattle.std.proofs.Common.{◌≡◌, inl, inr, ℕ, ◌+◌, ◌<◌, ◌≤◌, List, [], ◌∷◌, length, map, Bool, true, false, not, IsTrue, ◌↔◌, Option, None, Some, refl, sym, ap, ◌∙◌, arith}
use Rattle.std.specs.Option.{is_some}
use Rattle.std.proofs.Math.Decide.{dec_lt}
use Rattle.dbus_value_model.specs.declared.limits.Limits.{Limits}
use Rattle.dbus_value_model.specs.Specification.{specification}
use Rattle.dbus_value_model.specs.declared.limits.TheConstants.{ARRAY_LIMIT, MESSAGE_LIMIT}
use Rattle.dbus_value_model.specs.declared.order.Order.TheVariants.{Little}
use Rattle.dbus_value_model.specs.Bytes.{gap_to}
use Rattle.dbus_value_model.specs.FdIndexes.{AreAllBelow}
use Rattle.dbus_value_model.specs.FirstPast.{IsFirstPast}
use Rattle.dbus_value_model.specs.SizeLimits.{capped, EndsAt, AreMeasured}
use Rattle.dbus_value_model.specs.Sizes.{HaveShortSignatures}
use Rattle.dbus_value_model.specs.Spelling.{spelling, spellings, IsWithinLimits, AreWithinLimits}
use Rattle.dbus_value_model.specs.Values.{value_trees, ValueTrees, NoValues, MoreValues}
use Rattle.dbus_value_model.specs.Verdicts.{HoldNumbers}
use Rattle.dbus_value_model.proofs.Formed.{formed_of, all_formed_of, all_short_of}
use Rattle.dbus_value_model.proofs.Indexes.{any_all_below, all_below}
use Rattle.dbus_value_model.proofs.PartRanges.{ranged_of, all_ranged_of}
use Rattle.dbus_value_model.proofs.Periods.{gap-of_8}
use Rattle.dbus_marshal.proofs.MeasureSteps.{capped-near, capped_tells, measured-array, measured-items, onward-from, rest-of}
use Rattle.dbus_message_model.specs.KeptLimits.{KeepsArrays, IsLong}
use Rattle.dbus_message_model.specs.declared.parts.Parts.{Parts}
use Rattle.dbus_message_model.specs.Messages.{FieldTree, MessageTree, field_struct, field_array, field_type, fields_end, body_start, message_bytes, IsValidMessage}
use Rattle.dbus_message_model.specs.PartsViews.{parts_tree}
use Rattle.dbus_message_model.proofs.BothOrders.{valid_from, message_length}
use Rattle.dbus_message_model.proofs.FieldLists.{structs}
use Rattle.dbus_message_model.proofs.Widening.{nests_wider, nest_wider, within_wider, are_within_wider}
use Rattle.dbus_build.specs.BuildFaults.{Keeps, HoldsSound, IsSound, SignaturePasses, SizePasses, NoFault, IsFirstFault, HoldFieldNumbers, HoldTheirNumbers}
use Rattle.dbus_build.specs.declared.build_fault.BuildFault.{BuildFault}
use Rattle.dbus_build.specs.declared.build_fault.BuildFault.TheVariants as faults
use Rattle.dbus_build.specs.declared.faulty_fields.Rule.TheVariants.{Nonzero, OwnType, OwnKind}
use Rattle.dbus_build.proofs.Finding.{not_both}
use Rattle.dbus_build.proofs.SoundParts.{fields_pass, are_fields, formed_fields, sound_values}

pub past_both : (fds : Option ℕ) (n : ℕ) (vs : ValueTrees) (i : ℕ) → AreAllBelow fds vs → IsFirstPast fds n vs (Some i) → ⊥
past_both fds n NoValues i below past = absurd cc
past_both fds n (MoreValues v vs) i below past = elim past [
  | inl x ↦ x.0 below.0
  | inr y ↦ past_both fds (n + 1) vs i below.1 y.1
]

pub none_is_past : (fds : Option ℕ) (vs : ValueTrees) (r : Option ℕ) (none : Bool) → IsFirstPast fds 0 vs r → is_some r ≡ not none
    → IsTrue none ↔ AreAllBelow fds vs
none_is_past fds vs None true past e = (λ t. all_below fds 0 vs past, λ below. refl)
none_is_past fds vs None false past e = absurd cc
none_is_past fds vs (Some i) true past e = absurd cc
none_is_past fds vs (Some i) false past e = (λ t. absurd cc, λ below. absurd (past_both fds 0 vs i below past))

fields_hold : (fs : List FieldTree) → HoldFieldNumbers fs → HoldNumbers (value_trees (map field_struct fs))
fields_hold [] h = tt
fields_hold (f ∷ fs) h = ((h.0.0, (h.0.1, tt)), fields_hold fs h.1)

module _ (limits : Limits) where
  pub fields_short : {A : Type 0} (p : Parts A) → SignaturePasses limits p → HaveShortSignatures (structs p.fields.items)
  fields_short p s =
      let formed = formed_fields 0 p.fields.items (fields_pass limits p s) in
      all_short_of (structs p.fields.items) formed.uniform formed.named

  pub body_short : {A : Type 0} (p : Parts A) → SignaturePasses limits p → HaveShortSignatures (parts_tree p).body
  body_short p s = let sound = sound_values 0 p.body.items s.0.1 in all_short_of (parts_tree p).body sound.uniform sound.named

  -- ---- the message

  within_whole : (m : MessageTree) → (length (spelling Little 12 (field_array m.fields)) ≤ length (message_bytes Little m))
      × (length (spellings Little (body_start Little m.fields) m.body) ≤ length (message_bytes Little m))
  within_whole m = (omega (arith, message_length Little m), omega (arith, message_length Little m))

  pub valid : {A : Type 0} (p : Parts A) → SignaturePasses limits p → HoldTheirNumbers (parts_tree p) → KeepsArrays limits (parts_tree p)
      → (IsLong limits (parts_tree p) → ⊥) → IsValidMessage specification (parts_tree p)
  valid p s holds arrays long =
      let m = parts_tree p in
      let short : length (message_bytes Little m) ≤ MESSAGE_LIMIT = omega (arith, limits.message_in, long) in
      let inside = within_whole m in
      let all = fields_pass limits p s in
      let fields = formed_fields 0 p.fields.items all in
      let shallow = s.0.0.0.0.1 in
      let body = sound_values 0 p.body.items s.0.1 in
      let ranged = all_ranged_of (body_start Little m.fields) m.body holds.body body.named (omega (arith, short, inside.1)) in
      let header = ranged_of 12 (field_array m.fields) (fields_hold m.fields holds.fields) fields.named (omega (arith, short, inside.0)) in
      valid_from specification Little m (record {
        kind = positive m.kind s.0.0.0.0.0.0.0.0.0.0;
        kind_fits = holds.kind;
        flags = holds.flags;
        serial = positive m.serial s.0.0.0.0.0.0.0.0.0.1;
        serial_fits = holds.serial;
        fields = are_fields 0 [] p.fields.items all s.0.0.0.0.0.0.0.1;
        formed_fields =
            (formed_of 64 (field_array m.fields) (nests_wider limits.depth 64 (field_array m.fields) limits.depth_in shallow.0)
            (fields.typed, fields.uniform) fields.named header);
        within_fields = within_wider limits.array ARRAY_LIMIT limits.array_in Little 12 (field_array m.fields) arrays.0;
        required_codes = s.0.0.0.0.0.1;
        signature = s.1;
        formed_body =
            (all_formed_of 64 m.body (nest_wider limits.depth 64 m.body limits.depth_in shallow.1) body.uniform body.named ranged);
        within_body = are_within_wider limits.array ARRAY_LIMIT limits.array_in Little (body_start Little m.fields) m.body arrays.1;
        limit = short;
        indexes = any_all_below m.body;
      })
    where
      positive : (n : ℕ) → (n ≡ 0 → ⊥) → 0 < n
      positive n h = omega (arith, h)

  -- ---- its end, as it is measured

  module _ {A : Type 0} (p : Parts A) where
    abbrev m : MessageTree
    m = parts_tree p

    -- the contents of the field array begin at 16
    begins : 16 ≡ capped 16
    begins = sym (capped-near 16 (omega arith))

    pub none_ends : AreMeasured limits.array (structs p.fields.items) 0 None → KeepsArrays limits m → ⊥
    unfolding gap_to
    none_ends h kept = (measured-items limits field_type (structs p.fields.items) 12 16 16 begins begins h).from Little 12
        (capped-near 12 (omega arith)) kept.0

    pub past_ends : (e : ℕ) → AreMeasured limits.array (structs p.fields.items) 0 (Some e) → limits.array < e → KeepsArrays limits m → ⊥
    unfolding gap_to
    past_ends e h past kept =
        (measured-array limits field_type (structs p.fields.items) 12 16 16 begins begins e None h (omega (arith, past))).from Little 12
        (capped-near 12 (omega arith)) kept.0

    pub ends : (e g : ℕ) (r : Option ℕ) → AreMeasured limits.array (structs p.fields.items) 0 (Some e) → e ≤ limits.array
        → g ≡ gap_to 8 (16 + e) → g < 8 → AreMeasured limits.array m.body (16 + e + g) r
        → EndsAt (length (message_bytes Little m)) (KeepsArrays limits m) r
    unfolding gap_to
    ends e g r h near gap few body =
        let o = fields_end Little m.fields in
        let at = 16 + e in
        let fits : (e ≤ 0 + limits.array) × (at ≡ capped at) =
        (omega (arith, near), sym (capped-near at (omega (arith, near, limits.array_in)))) in
        let fields = (measured-array limits field_type (structs p.fields.items) 12 16 16 begins begins e (Some at) h fits).from Little 12
        (capped-near 12 (omega arith)) in
        let same : g ≡ gap_to 8 o = gap ∙ sym (gap-of_8 o at (rest-of o at (sym fields.1))) in
        let start : at + g ≡ capped (body_start Little m.fields) = onward-from o at g (gap_to 8 o) (at + g) (sym fields.1) same
        (sym (capped-near (at + g) (omega (arith, near, few, limits.array_in)))) in
        whole r fields.0 (body.from Little (body_start Little m.fields) (sym start))
      where
        whole : (r : Option ℕ) → IsWithinLimits limits.array Little 12 (field_array m.fields)
            → EndsAt (body_start Little m.fields + length (spellings Little (body_start Little m.fields) m.body))
            (AreWithinLimits limits.array Little (body_start Little m.fields) m.body) r
            → EndsAt (length (message_bytes Little m)) (KeepsArrays limits m) r
        whole None fields h = λ kept. h kept.1
        whole (Some n) fields h = ((fields, h.0), h.1 ∙ ap capped (sym (message_length Little m)))

    -- it is over the limit, or it is the size
    pub too_long : (n : ℕ) → EndsAt (length (message_bytes Little m)) (KeepsArrays limits m) (Some n) → limits.message < n → IsLong limits m
    too_long n h long = elim (dec_lt limits.message (length (message_bytes Little m))) [
      | yes is ↦ is
      | no is ↦
          let within : length (message_bytes Little m) ≤ limits.message = omega arith in
          absurd (omega (arith, h.1, long, (capped_tells limits (length (message_bytes Little m))).0.0 within))
    ]

    pub built : (n : ℕ) → EndsAt (length (message_bytes Little m)) (KeepsArrays limits m) (Some n) → n ≤ limits.message
        → SignaturePasses limits p → HoldTheirNumbers m
        → IsValidMessage specification m × (n ≡ length (message_bytes Little m)) × SizePasses limits p
    built n h le passed holds =
        let tells = capped_tells limits (length (message_bytes Little m)) in
        let within = tells.0.1 (omega (arith, h.1, le)) in
        let short : IsLong limits m → ⊥ = λ long. absurd (omega (arith, long, within)) in
        (valid p passed holds h.0 short, h.1 ∙ tells.1 within, ((passed, h.0), short))

  -- ---- what is at fault is not without fault

  pub only_memory : {A : Type 0} (p : Parts A) (f : BuildFault) → IsFirstFault limits p f → NoFault limits p → f ≡ faults.Memory
  only_memory p f h n = absurd (never p f h n)
    where
      never : {A : Type 0} (p : Parts A) (f : BuildFault) → IsFirstFault limits p f → NoFault limits p → ⊥
      never p faults.Memory h n = h
      never p faults.Kind h n = n.0.0.0.0.0.0.0.0.0.0.0.0.0 h
      never p faults.ZeroSerial h n = elim h.1 [
        | inl e ↦ n.0.0.0.0.0.0.0.0.0.0.0.0.1 e
        | inr w ↦ not_both (Keeps Nonzero) (λ i g. g.code) 0 p.fields.items w.0 n.0.0.0.0.0.0.0.0.0.0.0.0.2 w.1
      ]
      never p faults.FieldCode h n = let e = sym n.0.0.0.0.0.0.0.0.0.0.0.1 ∙ h.1 in absurd cc
      never p (faults.FieldTwice c) h n = let e = sym n.0.0.0.0.0.0.0.0.0.0.1 ∙ h.1 in absurd cc
      never p (faults.FieldType c) h n = not_both (Keeps OwnType) (λ i g. g.code) 0 p.fields.items c n.0.0.0.0.0.0.0.0.0.1 h.1
      never p (faults.FieldMissing c) h n = let e = sym n.0.0.0.0.0.0.0.0.1 ∙ h.1 in absurd cc
      never p faults.TooDeep h n = h.1 n.0.0.0.0.0.0.0.1
      never p (faults.Name c) h n = not_both (Keeps OwnKind) (λ i g. g.code) 0 p.fields.items c n.0.0.0.0.0.0.1 h.1
      never p (faults.FieldValue c) h n = not_both HoldsSound (λ i g. g.code) 0 p.fields.items c n.0.0.0.0.0.1 h.1
      never p (faults.Value i) h n = not_both IsSound (λ j v. j) 0 p.body.items i n.0.0.0.0.1 h.1
      never p faults.SignatureDiffers h n = h.1 n.0.0.0.1
      never p faults.ArrayTooLong h n = h.1 n.0.0.1
      never p faults.MessageTooLong h n = n.0.1 h.1
      never p (faults.FdIndex i) h n = past_both _ 0 (parts_tree p).body i n.1 h.1
