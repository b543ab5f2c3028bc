-- A message: what its items pass is a message that is spelled, and its reader agrees.
use Rattle.std.proofs.Common.{◌≡◌, ℕ, suc, ◌+◌, ◌-◌, ◌≤◌, List, [], ◌∷◌, ◌++◌, Bool, true, false, cond, ltb, eqb, Option, Some, None, refl, sym, ap, subst, ◌∙◌, inl, inr, arith}
use Rattle.std.proofs.lemmas.Bool.{ltb-false, le-ltb, eqb-true}
use Rattle.dbus_texts.specs.Types.{SIGNATURE, TextType, TypeTrees, NoTypes, sigs, AreShaped}
use Rattle.dbus_value_model.specs.declared.limits.Limits.{Limits}
use Rattle.dbus_value_model.specs.declared.limits.Bounds.{Bounds}
use Rattle.dbus_value_model.specs.Bounds.{bounds_of, bounds_with}
use Rattle.dbus_value_model.specs.WantedTexts.{IsWanted}
use Rattle.dbus_texts.specs.ComputedKinds.{types_spelled}
use Rattle.dbus_texts.specs.Kinds.{IsKind}
use Rattle.dbus_texts.specs.declared.text_kind.TextKind.TheVariants as kinds
use Rattle.dbus_value_model.specs.declared.order.Order.{Order}
use Rattle.dbus_value_model.specs.declared.order.Order.TheVariants.{Little, Big}
use Rattle.dbus_value_model.specs.Bytes.{gap_to}
use Rattle.dbus_value_model.specs.Values.{IsWellFormed, ValueTree, ValueTrees, NumberValue, TextValue, VariantValue, ArrayValue, StructValue, EntryValue, type_of}
use Rattle.dbus_value_model.specs.Items.{Sequence, fault, validate, no_row}
use Rattle.dbus_value_model.specs.declared.fault.Reason.{Reason}
use Rattle.dbus_value_model.specs.Items as items
use Rattle.dbus_value_model.specs.ValueItems.{value}
use Rattle.dbus_value_model.specs.ValueItems as faults
use Rattle.dbus_value_model.specs.Reading.{Done, Faulty}
use Rattle.dbus_value_model.specs.Reading as reading
use Rattle.dbus_message_model.specs.Messages.{FieldTree, MessageTree, Suits, field_struct, want, order_byte, lacks, required, text_in, body_signature, body_fds}
use Rattle.dbus_header.specs.MessageItems.{not_zero_row, version_row, fields_row, opening, field, byte_order, types_of_text, body_items, fixed_items, message_items}
use Rattle.dbus_header.specs.HeaderReading.{fixed_header, field_read, fields_read, body_read, message_read}
use Rattle.dbus_header.specs.HeaderReading as reads
use Rattle.dbus_value_laws.proofs.KindLaws.{signature_text, spelled_sigs}
use Rattle.dbus_value_laws.proofs.Agreement.{Agrees, Says, Agrees-then, Agrees-before}
use Rattle.dbus_value_laws.proofs.OwnItems.{chosen, Agrees-pure, Agrees-padding, Agrees-number, Agrees-validate, Agrees-bounded, Agrees-ends, Agrees-contents}
use Rattle.dbus_value_laws.proofs.ValueItemLaws.{Agrees-value, value_inside, agrees_fields}
use Rattle.dbus_header.proofs.Fields.{Agrees-opening, Agrees-field, field_moves, open_to, two_rooms}
use Rattle.dbus_value_model.specs.declared.fault.Reason.TheVariants as reasons

-- ---- rows

pub validate_passed : (row : Option Reason) (o : ℕ) (s : List ℕ) (x : Unit {0}) (q : ℕ) (r : List ℕ) → (validate row).Passed o s x q r → (row ≡ None) × (q ≡ o) × (r ≡ s)
validate_passed None o s x q r h = (refl, h.1, h.2)
validate_passed (Some why) o s x q r h = absurd h

pub passes_validate : (row : Option Reason) (o : ℕ) (s : List ℕ) → row ≡ None → (validate row).Passed o s tt o s
passes_validate None o s e = (refl, refl, refl)
passes_validate (Some why) o s e = absurd cc

pub version_fits : (p n : ℕ) → version_row p n ≡ None → n ≡ 1
version_fits p n e = elim (chosen (eqb n 1) _ _ _ e) [
  | inl h ↦ eqb-true _ _ h.0
  | inr h ↦ absurd (cc (h.1))
]

pub fields_row_fits : (limits : Limits) (body p n : ℕ) → fields_row limits body p n ≡ None → (n ≤ limits.array) × (p + n + gap_to 8 (p + n) + body ≤ limits.message)
fields_row_fits limits body p n e = elim (chosen (ltb limits.array n) _ _ _ e) [
  | inl h ↦ absurd (cc (h.1))
  | inr h ↦ elim (chosen (ltb limits.message (p + n + gap_to 8 (p + n) + body)) _ _ _ h.1) [
    | inl k ↦ absurd (cc (k.1))
    | inr k ↦ (ltb-false _ _ h.0, ltb-false _ _ k.0)
  ]
]

pub fits_fields_row : (limits : Limits) (body p n : ℕ) → n ≤ limits.array → p + n + gap_to 8 (p + n) + body ≤ limits.message → fields_row limits body p n ≡ None
fits_fields_row limits body p n a b = rw (le-ltb _ _ a, le-ltb _ _ b) refl

-- ---- the byte order

byte_order_says : (o : ℕ) (s : List ℕ) → Says byte_order o s (reads.byte_order o s)
unfolding reads.byte_order
byte_order_says o [] = tt
byte_order_says o (b ∷ s) = by_byte (eqb b 108) (eqb b 66) refl refl
  where
    by_byte : (little big : Bool) → eqb b 108 ≡ little → eqb b 66 ≡ big → Says byte_order o (b ∷ s) (cond little (Done Little (o + 1) s) (cond big (Done Big (o + 1) s) (Faulty (fault o reasons.ByteOrder))))
    by_byte true big e d = (ap (λ (c : ℕ). c ∷ s) (eqb-true _ _ e), refl)
    by_byte false true e d = (ap (λ (c : ℕ). c ∷ s) (eqb-true _ _ d), refl)
    by_byte false false e d = (b, s, refl, e, d, refl)

byte_order_passes : (o : ℕ) (order : Order) (r : List ℕ) → reads.byte_order o (order_byte order ∷ r) ≡ Done order (o + 1) r
unfolding reads.byte_order
byte_order_passes o Little r = refl
byte_order_passes o Big r = refl

byte_order_refuses : (o b : ℕ) (s : List ℕ) → eqb b 108 ≡ false → eqb b 66 ≡ false → reads.byte_order o (b ∷ s) ≡ Faulty (fault o reasons.ByteOrder)
unfolding reads.byte_order
byte_order_refuses o b s e d = rw (e, d) refl

pub Agrees-byte_order : Agrees byte_order reads.byte_order
Agrees-byte_order = record {
  says = λ o s bytes. byte_order_says o s;
  passes = λ o s order q r h. rw (h.0, h.1) (byte_order_passes o order r);
  refuses = λ o s f h. rw (h.2, h.5) (byte_order_refuses o h.0 h.1 h.3 h.4);
  front = λ o s order q r h. (order_byte order ∷ [], h.0);
  passes_more = λ c o s order q r h. (ap (λ (t : List ℕ). t ++ c) h.0, h.1);
  refuses_more = λ c o s f h. (h.0, h.1 ++ c, ap (λ (t : List ℕ). t ++ c) h.2, h.3, h.4, h.5);
}

-- ---- the signature of the body

no_types : IsKind kinds.Signature []
no_types = ((NoTypes, tt, refl), omega arith)

signature_value : (inner : ℕ) (v : ValueTree) → type_of v ≡ TextType SIGNATURE → IsWellFormed inner v → IsKind kinds.Signature (text_in v)
signature_value inner (NumberValue k n) e h = absurd cc
signature_value inner (TextValue k t) e h =
    let same : k ≡ SIGNATURE = cc in
    subst (λ (u : Rattle.dbus_texts.specs.Types.TextCode). IsWanted (Rattle.dbus_value_model.specs.WantedTexts.kind_of u) t) same h.0
signature_value inner (VariantValue x) e h = absurd cc
signature_value inner (ArrayValue t xs) e h = absurd cc
signature_value inner (StructValue xs) e h = absurd cc
signature_value inner (EntryValue k x) e h = absurd cc

module _ (bounds : Bounds) (order : Order) (depth_left end : ℕ) where
  pub field_signature : (fs before : List FieldTree) (o : ℕ) (s : List ℕ) (q : ℕ) (r : List ℕ) → Sequence (field bounds order depth_left end) before fs o s q r → IsKind kinds.Signature (body_signature fs)
  field_signature [] before o s q r h = no_types
  field_signature (f ∷ fs) before o s q r h =
      let more = field_signature fs (f ∷ before) h.0 h.1 q r h.3 in
      go (eqb f.code 8) refl more
    where
      go : (b : Bool) → eqb f.code 8 ≡ b → IsKind kinds.Signature (body_signature fs) → IsKind kinds.Signature (cond b (text_in f.value) (body_signature fs))
      go true e more =
          let is : f.code ≡ 8 = eqb-true _ _ e in
          let suits : Suits (want 8) f.value = subst (λ (c : ℕ). Suits (want c) f.value) is h.2.1.suits in
          let two = two_rooms depth_left f h.2.0.formed in
          let formed = subst (λ (u : ℕ). IsWellFormed u (field_struct f)) two.1 h.2.0.formed in
          signature_value two.0 f.value suits formed.1.0.1
      go false e more = more

-- ---- agreement

-- the text is the signatures of some types
Agrees-types : (text : List ℕ) → AreShaped (types_spelled text) × (sigs (types_spelled text) ≡ text) → Agrees (types_of_text text) (reading.pure (types_spelled text))
Agrees-types text ok = record {
  says = λ o s bytes. (ok.1, ok.0, refl, refl);
  passes = λ o s ts q r h. let same : types_spelled text ≡ ts = ap types_spelled (sym h.0) ∙ spelled_sigs ts in rw (same, h.2, h.3) refl;
  refuses = λ o s f h. absurd h;
  front = λ o s ts q r h. ([], sym h.3);
  passes_more = λ c o s ts q r h. (h.0, h.1, h.2, ap (λ (t : List ℕ). t ++ c) h.3);
  refuses_more = λ c o s f h. absurd h;
}

Agrees-body : (limits : Limits) (fds : Option ℕ) (order : Order) (ts : TypeTrees) → AreShaped ts → (end : ℕ) → Agrees (body_items (bounds_with limits fds) order limits.depth ts end) (body_read limits fds order ts end)
unfolding body_read
Agrees-body limits fds order ts complete end =
    let bounds = bounds_with limits fds in
    Agrees-before (faults.fields (value bounds order limits.depth end) ts) (reading.fields (reading.value bounds order limits.depth end) ts) _ _
    (agrees_fields bounds order limits.depth (value bounds order limits.depth) (reading.value bounds order limits.depth) (value_inside bounds order limits.depth) (Agrees-value bounds order limits.depth) end ts complete) (λ xs.
    Agrees-before (items.ends end) (reading.ends end) _ _ (Agrees-ends end) (λ _.
    Agrees-pure xs))

pub Agrees-fixed : (limits : Limits) → Agrees (fixed_items limits) (fixed_header limits)
unfolding fixed_header
Agrees-fixed limits =
    Agrees-before byte_order reads.byte_order _ _ Agrees-byte_order (λ order.
    Agrees-before (items.number order 1 16 (not_zero_row reasons.Kind)) (reading.number order 1 16 (not_zero_row reasons.Kind)) _ _ (Agrees-number order 1 16 (not_zero_row reasons.Kind)) (λ kind.
    Agrees-before (items.number order 1 16 no_row) (reading.number order 1 16 no_row) _ _ (Agrees-number order 1 16 no_row) (λ flags.
    Agrees-before (items.number order 1 16 version_row) (reading.number order 1 16 version_row) _ _ (Agrees-number order 1 16 version_row) (λ version.
    Agrees-before (items.number order 4 16 no_row) (reading.number order 4 16 no_row) _ _ (Agrees-number order 4 16 no_row) (λ body.
    Agrees-before (items.number order 4 16 (not_zero_row reasons.ZeroSerial)) (reading.number order 4 16 (not_zero_row reasons.ZeroSerial)) _ _ (Agrees-number order 4 16 (not_zero_row reasons.ZeroSerial)) (λ serial.
    Agrees-before (opening limits.depth) (reads.opening limits.depth) _ _ (Agrees-opening limits.depth) (λ depth_left.
    Agrees-before (items.number order 4 16 (fields_row limits body)) (reading.number order 4 16 (fields_row limits body)) _ _ (Agrees-number order 4 16 (fields_row limits body)) (λ n.
    Agrees-pure (record { order = order; kind = kind; flags = flags; body = body; serial = serial; fields = n })))))))))

pub Agrees-fields : (limits : Limits) (order : Order) (n : ℕ) → limits.depth ≡ suc (limits.depth - 1) → Agrees (items.contents n (field (bounds_of limits) order (limits.depth - 1))) (fields_read limits order n)
unfolding fields_read
Agrees-fields limits order n deep = Agrees-contents n (field (bounds_of limits) order (limits.depth - 1)) (field_read limits order) (λ end before. Agrees-field limits order (limits.depth - 1) end deep before) (field_moves (bounds_of limits) order (limits.depth - 1))

pub Agrees-message_items : (limits : Limits) → Agrees (message_items limits) (message_read limits)
unfolding message_read
Agrees-message_items limits =
    Agrees-then (fixed_items limits) (fixed_header limits) _ _ (Agrees-fixed limits) (λ h o s p t fixed.
    let room = fixed.4.4.4.4.4.4 in
    let deep : limits.depth ≡ suc (limits.depth - 1) = omega (arith, (open_to limits.depth fixed.4.4.4.4.4.1 fixed.4.4.4.4.4.2 room.0 room.1 room.2 room.3).0) in
    Agrees-then (items.contents h.fields (field (bounds_of limits) h.order (limits.depth - 1))) (fields_read limits h.order h.fields) _ _ (Agrees-fields limits h.order h.fields deep) (λ fs o s q r was.
    let signed = signature_text (body_signature fs) (field_signature (bounds_of limits) h.order (limits.depth - 1) (o + h.fields) fs [] o s q r was.0) in
    let whole : ValueTrees → Order × MessageTree = λ xs. (h.order, record { kind = h.kind; flags = h.flags; serial = h.serial; fields = fs; body = xs }) in
    Agrees-before (items.validate (lacks (required h.kind) fs)) (reading.validate (lacks (required h.kind) fs)) _ _ (Agrees-validate (lacks (required h.kind) fs)) (λ _.
    Agrees-before (items.bounded 8 (items.padding 8)) (reading.bounded 8 (reading.padding 8)) _ _ (Agrees-bounded 8 (items.padding 8) (reading.padding 8) (Agrees-padding 8)) (λ _.
    Agrees-then (types_of_text (body_signature fs)) (reading.pure (types_spelled (body_signature fs))) _ (λ ts. reading.◌>>=◌ (reading.bounded h.body (body_read limits (body_fds limits fs) h.order ts)) (λ xs. reading.pure (whole xs))) (Agrees-types (body_signature fs) signed) (λ ts o s q r typed.
    Agrees-before (items.bounded h.body (body_items (bounds_with limits (body_fds limits fs)) h.order limits.depth ts)) (reading.bounded h.body (body_read limits (body_fds limits fs) h.order ts)) _ _
    (Agrees-bounded h.body (body_items (bounds_with limits (body_fds limits fs)) h.order limits.depth ts) (body_read limits (body_fds limits fs) h.order ts) (Agrees-body limits (body_fds limits fs) h.order ts typed.1)) (λ xs.
    Agrees-pure (whole xs)))))))
