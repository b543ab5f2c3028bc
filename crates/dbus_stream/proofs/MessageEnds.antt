-- What bytes state of a message's length is enough: if as many bytes are there, they are a message
-- or are refused. And no fault of bytes is that of an input that ends.
use Rattle.std.proofs.Common.{◌≡◌, ℕ, zero, suc, ◌+◌, ◌-◌, ◌<◌, ◌≤◌, List, [], ◌∷◌, length, Bool, true, false, cond, ltb, eqb, ◌&&◌, Option, Some, None, refl, sym, ap, subst, arith, inl, inr}
use Rattle.dbus_texts.specs.Types.{UINT32, STRING, TypeTree, TypeTrees, NumberType, TextType, sig, AreShaped, IsShaped}
use Rattle.dbus_texts.specs.ComputedKinds.{types_spelled}
use Rattle.dbus_value_model.specs.Bounds.{bounds_of, bounds_with}
use Rattle.dbus_value_model.specs.ByteNumbers.{IsBytes}
use Rattle.dbus_value_model.specs.Bytes.{gap_to}
use Rattle.dbus_value_model.specs.Items.{fault, no_row}
use Rattle.dbus_value_model.specs.ValueItems.{text_row}
use Rattle.dbus_value_model.specs.Reading.{Reader, Outcome, Done, Faulty, Partial, after, bounded, padding, pure, validate, ◌>>=◌, ◌>>◌}
use Rattle.dbus_value_model.specs.declared.fault.Fault.{Fault}
use Rattle.dbus_value_model.specs.declared.fault.Reason.{Reason}
use Rattle.dbus_value_model.specs.declared.fault.Reason.TheVariants as reasons
use Rattle.dbus_value_model.specs.declared.limits.Limits.{Limits}
use Rattle.dbus_value_model.specs.declared.order.Order.{Order}
use Rattle.dbus_value_model.specs.declared.order.Order.TheVariants.{Little, Big}
use Rattle.dbus_value_model.proofs.Periods.{gap_below}
use Rattle.dbus_value_model.proofs.Numbers.{IsBytes-rest}
use Rattle.dbus_message_model.specs.Messages.{FieldTree, MessageTree, Want, Anything, OfType, Name, Serial, want, is_known, has_code, lacks, required, body_signature, body_fds}
use Rattle.dbus_message_model.proofs.KnownValues.{WantOk, want_ok}
use Rattle.dbus_value_laws.proofs.Agreement.{read_passes}
use Rattle.dbus_value_laws.proofs.KindLaws.{only_is, signature_text, text_single}
use Rattle.dbus_value_laws.proofs.OwnItems.{IsOfSingles, chosen}
use Rattle.dbus_header.specs.HeaderReading.{field_read, fields_read, fixed_header, body_read, message_read, wanted_signature, wanted_value, byte_order, opening, value_wanted}
use Rattle.dbus_header.specs.MessageItems.{code_row, field, fields_row, fixed_items, kind_wanted, name_row, not_zero_row, version_row}
use Rattle.dbus_header.specs.MessageOutcomes.{IsRefused, IsPartial}
use Rattle.dbus_header.specs.StatedLengths.{StatesLength, length_by}
use Rattle.dbus_header.specs.declared.fixed_header.FixedHeader.{FixedHeader}
use Rattle.dbus_header.proofs.Fields.{open_to}
use Rattle.dbus_header.proofs.MessageParts.{Agrees-fields, Agrees-fixed, Agrees-message_items, field_signature}
use Rattle.dbus_header.proofs.Decoded.{refused_read, whole_read}
use Rattle.dbus_value_model.specs.Items as items
use Rattle.dbus_stream.specs.Lasting.{is_truncated}
use Rattle.dbus_stream.specs.CutEnds.{NoneTruncated, StatedSuffice}
use Rattle.dbus_stream.proofs.ValueEnds.{Fits, Moves, IsOwn, after_fits, contents_fit, ends_fit, fields_fit, fits_as, moved_fits, nul_fits, number_fits, own_else, own_if, own_text, padding_fits, padding_to, signature_fits, text_fits, text_within, value_fits}

-- ---- rows

own_none : (p n : ℕ) → IsOwn (no_row p n)
own_none p n = tt

own_zero : (why : Reason) → is_truncated why ≡ false → (p n : ℕ) → IsOwn (not_zero_row why p n)
own_zero why own p n = own_if (eqb n 0) why None own tt

own_version : (p n : ℕ) → IsOwn (version_row p n)
own_version p n = own_else (eqb n 1) reasons.Version None refl tt

own_fields : (limits : Limits) (body p n : ℕ) → IsOwn (fields_row limits body p n)
own_fields limits body p n = own_if (ltb limits.array n) reasons.ArrayTooLong _ refl (own_if (ltb limits.message (p + n + gap_to 8 (p + n) + body)) reasons.MessageTooLong None refl tt)

own_code : (before : List FieldTree) (p n : ℕ) → IsOwn (code_row before p n)
own_code before p n = own_if (eqb n 0) reasons.FieldCode _ refl (own_if (is_known n && has_code n before) reasons.FieldTwice None refl tt)

own_name : (end p n : ℕ) → IsOwn (name_row end p n)
own_name end p n = own_if (ltb 255 n) reasons.NameTooLong _ refl (own_text end p n)

name_within : (end p n : ℕ) → name_row end p n ≡ None → p + n + 1 ≤ end
name_within end p n e = elim (chosen (ltb 255 n) _ _ _ e) [
  | inl h ↦ absurd (cc (h.1))
  | inr h ↦ text_within end p n h.1
]

own_lacks : (codes : List ℕ) (fs : List FieldTree) → IsOwn (lacks codes fs)
own_lacks [] fs = tt
own_lacks (c ∷ codes) fs = own_else (has_code c fs) (reasons.FieldMissing c) (lacks codes fs) refl (own_lacks codes fs)

-- ---- the first sixteen bytes

order_fits : (end o : ℕ) (s : List ℕ) → o < end → Fits (λ x q. q ≡ o + 1) end o s (byte_order o s)
unfolding byte_order
order_fits end o [] lt = omega (arith, lt)
order_fits end o (b ∷ s) lt = by (eqb b 108) (eqb b 66)
  where
    by : (little big : Bool) → Fits (λ x q. q ≡ o + 1) end o (b ∷ s) (cond little (Done Little (o + 1) s) (cond big (Done Big (o + 1) s) (Faulty (fault o reasons.ByteOrder))))
    by true big = (omega arith, omega (arith, lt), refl)
    by false true = (omega arith, omega (arith, lt), refl)
    by false false = refl

opening_fits : (depth_left end o : ℕ) (s : List ℕ) → o ≤ end → Fits (λ x q. q ≡ o) end o s (opening depth_left o s)
opening_fits zero end o s le = refl
opening_fits (suc depth_left) end o s le = (refl, le, refl)

fixed_fits : (limits : Limits) (s : List ℕ) → Fits (λ h q. q ≡ 16) 16 0 s (fixed_header limits 0 s)
unfolding fixed_header
fixed_fits limits s =
    after_fits _ _ 16 0 s _ _ (order_fits 16 0 s (omega arith)) (λ order q s at le.
    after_fits _ _ 16 q s _ _ (number_fits order 1 16 (not_zero_row reasons.Kind) (own_zero reasons.Kind refl) q s) (λ kind p s kinded le.
    after_fits _ _ 16 p s _ _ (number_fits order 1 16 no_row own_none p s) (λ flags i s flagged le.
    after_fits _ _ 16 i s _ _ (number_fits order 1 16 version_row own_version i s) (λ version j s versioned le.
    after_fits _ _ 16 j s _ _ (number_fits order 4 16 no_row own_none j s) (λ body k s bodied le.
    after_fits _ _ 16 k s _ _ (number_fits order 4 16 (not_zero_row reasons.ZeroSerial) (own_zero reasons.ZeroSerial refl) k s) (λ serial m s serialed le.
    after_fits _ _ 16 m s _ _ (opening_fits limits.depth 16 m s le) (λ depth_left n s opened le.
    after_fits _ _ 16 n s _ _ (number_fits order 4 16 (fields_row limits body) (own_fields limits body) n s) (λ fields t s h le.
    (refl, le, omega (arith, at, kinded.0, flagged.0, versioned.0, bodied.0, serialed.0, opened, h.0))))))))))

-- ---- the fields

single_kinds : (w : Want) → WantOk w → IsOfSingles (kind_wanted w)
single_kinds Anything ok t h = h
single_kinds (OfType u) ok t h = rw (← only_is (sig u) t h) (text_single u ok.0).0
single_kinds (Name k) ok t h = rw (← only_is (sig (TextType STRING)) t h) (text_single (TextType STRING) (tt, omega arith)).0
single_kinds Serial ok t h = rw (← only_is (sig (NumberType UINT32)) t h) (text_single (NumberType UINT32) (tt, omega arith)).0

module _ (limits : Limits) (order : Order) (end : ℕ) where
  held_fits : (depth_left : ℕ) (w : Want) (t : TypeTree) → IsShaped false t → (o : ℕ) (s : List ℕ) → o ≤ end → Fits (Moves o) end o s (value_wanted (bounds_of limits) order depth_left end w t o s)
  held_fits depth_left (Name k) t shaped o s le =
      after_fits _ (Moves o) end o s _ _ (padding_fits 4 end o s) (λ x p s at low.
      after_fits _ (Moves o) end p s _ _ (number_fits order 4 end (name_row end) (own_name end) p s) (λ n q s h le.
      let within = name_within end q n h.1 in
      after_fits _ (Moves o) end q s _ _ (text_fits k n end q s (omega (arith, within))) (λ name i s there le.
      after_fits _ (Moves o) end i s _ _ (nul_fits end i s (omega (arith, there.0, within))) (λ y j s past le. (refl, le, omega (arith, at, h.0, there.0, past))))))
  held_fits depth_left Serial t shaped o s le =
      after_fits _ (Moves o) end o s _ _ (padding_fits 4 end o s) (λ x p s at low.
      after_fits _ (Moves o) end p s _ _ (number_fits order 4 end (not_zero_row reasons.ZeroSerial) (own_zero reasons.ZeroSerial refl) p s) (λ n q s h le. (refl, le, omega (arith, at, h.0))))
  held_fits depth_left w t shaped o s le = value_fits (bounds_of limits) order depth_left end false t shaped o s le

  signed_fits : (w : Want) → WantOk w → (o : ℕ) (s : List ℕ) → Fits (λ t q. (o < q) × IsShaped false t) end o s (wanted_signature order end (kind_wanted w) o s)
  unfolding wanted_signature
  signed_fits w ok o s =
      after_fits _ _ end o s _ _ (number_fits order 1 end (text_row end) (own_text end) o s) (λ n q s h le.
      let within = text_within end q n h.1 in
      after_fits _ _ end q s _ _ (signature_fits (kind_wanted w) (single_kinds w ok) n end q s (omega (arith, within))) (λ held i s there le.
      after_fits _ _ end i s _ _ (nul_fits end i s (omega (arith, there.0, within))) (λ y j s past le. (refl, le, (omega (arith, h.0, there.0, past), there.1)))))

  wanted_fits : (w : Want) → WantOk w → (o : ℕ) (s : List ℕ) → Fits (Moves o) end o s (wanted_value limits order end w o s)
  unfolding wanted_value
  wanted_fits w ok o s =
      after_fits _ (Moves o) end o s _ _ (signed_fits w ok o s) (λ held q s h le.
      fits_as (Moves q) (Moves o) end end q s (omega arith) (λ x p on. omega (arith, on, h.0)) _ (held_fits (limits.depth - 3) w held h.1 q s le))

  field_fits : (before : List FieldTree) (o : ℕ) (s : List ℕ) → Fits (Moves o) end o s (field_read limits order end before o s)
  unfolding field_read
  field_fits before o s =
      after_fits _ (Moves o) end o s _ _ (padding_fits 8 end o s) (λ x p s at low.
      after_fits _ (Moves o) end p s _ _ (opening_fits (limits.depth - 1) end p s low) (λ within q s struct low.
      after_fits _ (Moves o) end q s _ _ (number_fits order 1 end (code_row before) (own_code before) q s) (λ code i s h low.
      after_fits _ (Moves o) end i s _ _ (opening_fits (limits.depth - 2) end i s low) (λ inner j s variant low.
      after_fits _ (Moves o) end j s _ _ (wanted_fits (want code) (want_ok code) j s) (λ y k s on le. (refl, le, omega (arith, at, struct, h.0, variant, on)))))))

fields_end : (limits : Limits) (order : Order) (n o : ℕ) (s : List ℕ) → Fits (λ fs q. q ≡ o + n) (o + n) o s (fields_read limits order n o s)
unfolding fields_read
fields_end limits order n o s = contents_fit n (field_read limits order) (o + n) o s (omega arith) (λ before p t le. field_fits limits order (o + n) before p t)

-- ---- the message

body_fits : (limits : Limits) (fds : Option ℕ) (order : Order) (ts : TypeTrees) → AreShaped ts → (end o : ℕ) (s : List ℕ) → o ≤ end → Fits (λ xs q. q ≡ end) end o s (body_read limits fds order ts end o s)
unfolding body_read
body_fits limits fds order ts shaped end o s le =
    after_fits _ _ end o s _ _ (fields_fit _ (value_fits (bounds_with limits fds) order limits.depth) end ts shaped o s le) (λ xs q s on le.
    after_fits _ _ end q s _ _ (ends_fit end q s le) (λ x p s at le. (refl, le, at)))

validated_fits : (row : Option Reason) → IsOwn row → (end o : ℕ) (s : List ℕ) → o ≤ end → Fits (λ x q. q ≡ o) end o s (validate row o s)
validated_fits None own end o s le = (refl, le, refl)
validated_fits (Some why) own end o s le = own

-- what is read after the fields
abbrev after_fields : Limits → FixedHeader → List FieldTree → Reader (Order × MessageTree)
after_fields limits h fs = do
  validate (lacks (required h.kind) fs)
  bounded 8 (padding 8)
  xs ← bounded h.body (body_read limits (body_fds limits fs) h.order (types_spelled (body_signature fs)))
  pure (h.order, record { kind = h.kind; flags = h.flags; serial = h.serial; fields = fs; body = xs })

module _ (limits : Limits) (h : FixedHeader) where
  after_fields_fits : (fs : List FieldTree) → AreShaped (types_spelled (body_signature fs)) → (o : ℕ) (s : List ℕ) → o ≡ 16 + h.fields → Fits (λ x q. Unit {0}) (length_by h) o s (after_fields limits h fs o s)
  after_fields_fits fs shaped o s at =
      let gap : gap_to 8 o ≡ gap_to 8 (16 + h.fields) = ap (gap_to 8) at in
      after_fits _ _ (length_by h) o s _ _ (validated_fits (lacks (required h.kind) fs) (own_lacks (required h.kind) fs) (length_by h) o s (omega (arith, at))) (λ x p s same le.
      let gap_too : gap_to 8 p ≡ gap_to 8 o = ap (gap_to 8) same in
      after_fits _ _ (length_by h) p s _ _ (padding_to 8 (p + 8) (length_by h) p s (omega (arith, gap_below 8 p)) (omega (arith, same, at, gap, gap_too))) (λ y q s padded le.
      let last : q + h.body ≡ length_by h = omega (arith, same, at, gap, gap_too, padded) in
      after_fits _ _ (length_by h) q s _ _ (fits_as (λ xs i. i ≡ q + h.body) (λ xs i. Unit {0}) (q + h.body) (length_by h) q s (omega (arith, last)) (λ xs i e. tt) _
      (body_fits limits (body_fds limits fs) h.order (types_spelled (body_signature fs)) shaped (q + h.body) q s (omega arith))) (λ xs i s x le. (refl, le, tt))))

  module _ (s : List ℕ) (bytes : IsBytes s) (deep : limits.depth ≡ suc (limits.depth - 1)) where
    fields_then : (read : Outcome (List FieldTree)) → fields_read limits h.order h.fields 16 s ≡ read → Fits (λ fs q. q ≡ 16 + h.fields) (16 + h.fields) 16 s read → Fits (λ x q. Unit {0}) (length_by h) 16 s (after read (after_fields limits h))
    fields_then (Done fs q r) e fit =
        let was = read_passes (items.contents h.fields (field (bounds_of limits) h.order (limits.depth - 1))) (fields_read limits h.order h.fields) (Agrees-fields limits h.order h.fields deep) 16 s bytes fs q r e in
        let signed = signature_text (body_signature fs) (field_signature (bounds_of limits) h.order (limits.depth - 1) (16 + h.fields) fs [] 16 s q r was.0) in
        moved_fits _ (length_by h) q 16 r s fit.0 (after_fields limits h fs q r) (after_fields_fits fs signed.0 q r fit.2)
    fields_then (Faulty f) e fit = fit
    fields_then Partial e fit = omega (arith, fit)

    after_fixed_fits : Fits (λ x q. Unit {0}) (length_by h) 16 s (after (fields_read limits h.order h.fields 16 s) (after_fields limits h))
    after_fixed_fits = fields_then (fields_read limits h.order h.fields 16 s) refl (fields_end limits h.order h.fields 16 s)

  message_fits : (b : List ℕ) → IsBytes b → (q : ℕ) (rest : List ℕ) → fixed_header limits 0 b ≡ Done h q rest → Fits (λ x q. Unit {0}) (length_by h) 0 b (message_read limits 0 b)
  unfolding message_read
  message_fits b bytes q rest e =
      let fit = subst (Fits (λ h q. q ≡ 16) 16 0 b) e (fixed_fits limits b) in
      let passed = read_passes (fixed_items limits) (fixed_header limits) (Agrees-fixed limits) 0 b bytes h q rest e in
      let room = passed.4.4.4.4.4.4 in
      let deep : limits.depth ≡ suc (limits.depth - 1) = omega (arith, (open_to limits.depth passed.4.4.4.4.4.1 passed.4.4.4.4.4.2 room.0 room.1 room.2 room.3).0) in
      let front = (Agrees-fixed limits).front 0 b h q rest passed in
      let after_header = after_fixed_fits rest (IsBytes-rest b front.0 rest front.1 bytes) deep in
      rw (e, fit.2) (moved_fits _ (length_by h) 16 0 rest b (omega (arith, fit.0, fit.2)) _ after_header)

reads_fit : (limits : Limits) (b : List ℕ) → IsBytes b → (f : Fault) → message_read limits 0 b ≡ Faulty f → is_truncated f.reason ≡ false
unfolding message_read
reads_fit limits b bytes f e = go (fixed_header limits 0 b) refl (fixed_fits limits b)
  where
    go : (read : Outcome FixedHeader) → fixed_header limits 0 b ≡ read → Fits (λ h q. q ≡ 16) 16 0 b read → is_truncated f.reason ≡ false
    go (Done h q r) d fit = subst (Fits (λ x q. Unit {0}) (length_by h) 0 b) e (message_fits limits h b bytes q r d)
    go (Faulty g) d fit =
        let same : message_read limits 0 b ≡ Faulty g = rw d refl in
        let is : f ≡ g = cc in
        subst (λ (x : Fault). is_truncated x.reason ≡ false) (sym is) fit
    go Partial d fit =
        let same : message_read limits 0 b ≡ Partial = rw d refl in
        absurd cc

-- no fault of bytes is that of an input that ends
pub refused_reason : NoneTruncated
unfolding IsRefused
refused_reason limits b f bytes h = reads_fit limits b bytes f ((Agrees-message_items limits).refuses 0 b f h)

-- bytes that are neither a message nor refused are fewer than they state
pub partial_short : StatedSuffice
unfolding StatesLength IsPartial
partial_short limits b n bytes s partial = go (message_read limits 0 b) refl (message_fits limits s.0 b bytes 16 s.1 ((Agrees-fixed limits).passes 0 b s.0 16 s.1 s.2))
  where
    go : (read : Outcome (Order × MessageTree)) → message_read limits 0 b ≡ read → Fits (λ x q. Unit {0}) (length_by s.0) 0 b read → length b < n
    go (Done m q r) e fit = absurd (partial.0 m.0 m.1 q (whole_read limits b bytes m.0 m.1 q r e))
    go (Faulty f) e fit = absurd (partial.1 f (refused_read limits b bytes f e))
    go Partial e fit = omega (arith, fit, s.3)
