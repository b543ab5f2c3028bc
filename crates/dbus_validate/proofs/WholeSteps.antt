-- A message, from its parts as the code passes them over.
use Rattle.std.proofs.Common.{◌≡◌, ℕ, ◌+◌, ◌-◌, ◌<◌, ◌≤◌, List, [], take, drop, get_or, None, refl, sym, ◌∙◌, arith}
use Rattle.dbus_texts.specs.Kinds.{IsKind}
use Rattle.dbus_texts.specs.ComputedKinds.{types_spelled}
use Rattle.dbus_texts.specs.declared.text_kind.TextKind.TheVariants.{Signature}
use Rattle.dbus_value_model.specs.declared.limits.Limits.{Limits}
use Rattle.dbus_value_model.specs.declared.order.Order.{Order}
use Rattle.dbus_value_model.specs.ByteNumbers.{IsBytes}
use Rattle.dbus_value_model.specs.Bytes.{gap_to}
use Rattle.dbus_value_model.specs.Items.{Sequence, contents}
use Rattle.dbus_value_model.specs.Bounds.{bounds_of}
use Rattle.dbus_value_model.specs.Values.{ValueTrees}
use Rattle.dbus_value_model.specs.Reading.{Done, padding}
use Rattle.dbus_value_laws.proofs.Agreement.{read_passes}
use Rattle.dbus_value_laws.proofs.ReadSteps.{padding_is, bytes_from, bytes_at}
use Rattle.dbus_message_model.specs.Messages.{FieldTree, MessageTree, lacks, required, body_signature, body_fds}
use Rattle.dbus_header.specs.declared.fixed_header.FixedHeader.{FixedHeader}
use Rattle.dbus_header.specs.HeaderReading.{fixed_header, fields_read, body_read, message_read}
use Rattle.dbus_header.specs.MessageItems.{field}
use Rattle.dbus_header.specs.MessageOutcomes.{IsWhole}
use Rattle.dbus_header.proofs.Decoded.{whole_read}
use Rattle.dbus_header.proofs.MessageParts.{Agrees-fields, field_signature}
use Rattle.dbus_validate.specs.declared.seen.FieldPlaces.{FieldPlaces}
use Rattle.dbus_validate.specs.Validating.{IsValidated}
use Rattle.dbus_validate.specs.Seen.{AreNoted, ArePlaced}
use Rattle.dbus_validate.proofs.BodySteps.{body_begins, body_there}

-- ---- the padding after the fields

-- the bytes may go on after it
pub padded_to : (end o q : ℕ) (bytes : List ℕ) → q ≡ o + gap_to 8 o → q ≤ end → padding 8 end o (drop o bytes) ≡ Done tt q (drop q bytes) → padding 8 (o + 8) o (drop o bytes) ≡ Done tt q (drop q bytes)
unfolding gap_to
padded_to end o q bytes is le read =
    padding_is 8 (o + 8) o (gap_to 8 o) (drop o bytes) refl (omega arith) ∙ sym (padding_is 8 end o (gap_to 8 o) (drop o bytes) refl (omega (arith, is, le))) ∙ read

-- ---- the fields

-- fields that were read passed, one after another
pub in_sequence : (limits : Limits) (order : Order) (n o : ℕ) (s : List ℕ) (fs : List FieldTree) (q : ℕ) (r : List ℕ) → 0 < limits.depth → IsBytes s → fields_read limits order n o s ≡ Done fs q r
    → Sequence (field (bounds_of limits) order (limits.depth - 1) (o + n)) [] fs o s q r
in_sequence limits order n o s fs q r opened are e =
    let agrees = Agrees-fields limits order n (omega (arith, opened)) in
    (read_passes (contents n (field (bounds_of limits) order (limits.depth - 1))) (fields_read limits order n) agrees o s are fs q r e).0

module _ (limits : Limits) (bytes : List ℕ) (are : (i : ℕ) → get_or bytes i 0 < 256) (h : FixedHeader) (opened : 0 < limits.depth) (fs : List FieldTree) (fielded : fields_read limits h.order h.fields 16 (drop 16 bytes) ≡ Done fs (16 + h.fields) (drop (16 + h.fields) bytes)) where
  sequence : Sequence (field (bounds_of limits) h.order (limits.depth - 1) (16 + h.fields)) [] fs 16 (drop 16 bytes) (16 + h.fields) (drop (16 + h.fields) bytes)
  sequence = in_sequence limits h.order h.fields 16 (drop 16 bytes) fs (16 + h.fields) (drop (16 + h.fields) bytes) opened (bytes_at bytes 16 are) fielded

  pub signed : IsKind Signature (body_signature fs)
  signed = field_signature (bounds_of limits) h.order (limits.depth - 1) (16 + h.fields) fs [] 16 (drop 16 bytes) (16 + h.fields) (drop (16 + h.fields) bytes) sequence

  module _ (headed : fixed_header limits 0 bytes ≡ Done h 16 (drop 16 bytes)) (none : lacks (required h.kind) fs ≡ None) (start : ℕ) (padded : padding 8 (16 + h.fields + 8) (16 + h.fields) (drop (16 + h.fields) bytes) ≡ Done tt start (drop start bytes)) where
    module _ (vs : ValueTrees) where
      abbrev pub made : MessageTree
      made = record { kind = h.kind; flags = h.flags; serial = h.serial; fields = fs; body = vs }

      pub whole : body_read limits (body_fds limits fs) h.order (types_spelled (body_signature fs)) (start + h.body) start (drop start bytes) ≡ Done vs (start + h.body) (drop (start + h.body) bytes) → IsWhole limits bytes h.order made (start + h.body)
      unfolding message_read
      whole read = whole_read limits bytes (bytes_from bytes are) h.order made (start + h.body) (drop (start + h.body) bytes) (rw (headed, fielded, none, padded, read) refl)

      pub is_validated : IsWhole limits bytes h.order made (start + h.body) → (seen : FieldPlaces) → AreNoted fs (take (start + h.body) bytes) seen → ArePlaced h.order fs seen → start ≡ 16 + h.fields + gap_to 8 (16 + h.fields)
          → IsValidated limits bytes (record { length = start + h.body; order = h.order; kind = h.kind; flags = h.flags; serial = h.serial; fields = seen; body = start })
      is_validated is seen noted placed suffix =
          let begins = body_begins (bounds_of limits) h.order (limits.depth - 1) h.fields start fs (drop 16 bytes) (drop (16 + h.fields) bytes) sequence suffix in
          record {
            message = made;
            whole = is;
            parts = (refl, refl, refl);
            fields = noted;
            places = placed;
            body = (begins, body_there h.order made limits bytes (start + h.body) start is begins);
          }
