-- Bytes that begin with no message, as the code finds it.
use Rattle.std.proofs.Common.{◌≡◌, ℕ, ◌+◌, ◌<◌, ◌≤◌, List, [], ◌++◌, length, drop, Option, Some, None, refl, sym, ap, ◌∙◌, arith, inl, inr}
use Rattle.std.proofs.lemmas.Bool.{cases_lt}
use Rattle.std.proofs.lemmas.List.{append-nil}
use Rattle.dbus_texts.specs.ComputedKinds.{types_spelled}
use Rattle.dbus_value_model.specs.declared.fault.Reason.{Reason}
use Rattle.dbus_value_model.specs.declared.limits.Limits.{Limits}
use Rattle.dbus_value_model.specs.declared.stop.Stop.{Stop}
use Rattle.dbus_value_model.specs.declared.stop.Stop.TheVariants as stops
use Rattle.dbus_value_model.specs.ByteNumbers.{IsBytes}
use Rattle.dbus_value_model.specs.Bytes.{gap_to}
use Rattle.dbus_value_model.specs.ValueReaders.{Stops}
use Rattle.dbus_value_model.specs.Items.{fault}
use Rattle.dbus_value_model.specs.Reading.{Outcome, Done, padding, validate}
use Rattle.dbus_value_laws.proofs.ReadSteps.{padding_is}
use Rattle.dbus_message_model.specs.Messages.{FieldTree, lacks, required, body_signature, body_fds}
use Rattle.dbus_header.specs.declared.fixed_header.FixedHeader.{FixedHeader}
use Rattle.dbus_header.specs.HeaderReading.{fixed_header, fields_read, body_read, message_read}
use Rattle.dbus_header.proofs.OutcomeLaws.{whole_reads, whole_for_good}
use Rattle.dbus_header.proofs.StatedLengths.{header_states, stated_holds}
use Rattle.dbus_value_validator.specs.Endings.{IsNotRead}
use Rattle.dbus_value_validator.proofs.ReadParts.{not_same, not_first, not_faulty, not_partial}
use Rattle.dbus_header.specs.NoMessage.{BeginsWithNone}

-- where reading stops nothing is read
pub stops_unread : {A : Type 0} (e : Stop) (read : Outcome A) → Stops e read → IsNotRead read
stops_unread stops.Partial read h = not_partial read h
stops_unread (stops.Refused f) read h = not_faulty read f h

validate_unread : (why : Option Reason) (o : ℕ) (s : List ℕ) → (why ≡ None → ⊥) → IsNotRead (validate why o s)
validate_unread None o s some = absurd (some refl)
validate_unread (Some why) o s some = not_faulty (validate (Some why) o s) (fault o why) refl

gap_near : (o : ℕ) → gap_to 8 o ≤ 8
unfolding gap_to
gap_near o = omega arith

module _ (limits : Limits) (bytes : List ℕ) (are : IsBytes bytes) where
  -- a message that they begin with is read
  pub not_read : IsNotRead (message_read limits 0 bytes) → BeginsWithNone limits bytes
  not_read unread = λ order m n w. let r = whole_reads limits bytes order m n w in unread (order, m) n r.0 r.1

  pub no_header : IsNotRead (fixed_header limits 0 bytes) → BeginsWithNone limits bytes
  unfolding message_read
  no_header unread = not_read (not_first (fixed_header limits 0 bytes) _ unread)

  module _ (h : FixedHeader) (headed : fixed_header limits 0 bytes ≡ Done h 16 (drop 16 bytes)) where
    -- it is as long as its header says
    pub too_short : length bytes < 16 + h.fields + gap_to 8 (16 + h.fields) + h.body → BeginsWithNone limits bytes
    too_short short = λ order m n w.
        let states = header_states limits bytes are h 16 (drop 16 bytes) headed in
        let holds = stated_holds limits bytes [] order m (16 + h.fields + gap_to 8 (16 + h.fields) + h.body) n states (whole_for_good limits bytes [] order m n w) in
        let all : length (bytes ++ []) ≡ length bytes = ap length (append-nil bytes) in
        absurd (omega (arith, short, holds.1, all))

    pub no_fields : IsNotRead (fields_read limits h.order h.fields 16 (drop 16 bytes)) → BeginsWithNone limits bytes
    unfolding message_read
    no_fields unread = not_read (rw headed (not_first (fields_read limits h.order h.fields 16 (drop 16 bytes)) _ unread))

    module _ (fs : List FieldTree) (fielded : fields_read limits h.order h.fields 16 (drop 16 bytes) ≡ Done fs (16 + h.fields) (drop (16 + h.fields) bytes)) where
      abbrev ends : ℕ
      ends = 16 + h.fields

      pub some_lacks : (lacks (required h.kind) fs ≡ None → ⊥) → BeginsWithNone limits bytes
      unfolding message_read
      some_lacks unlike = not_read (rw (headed, fielded) (not_first (validate (lacks (required h.kind) fs) ends (drop ends bytes)) _ (validate_unread (lacks (required h.kind) fs) ends (drop ends bytes) unlike)))

      module _ (none : lacks (required h.kind) fs ≡ None) where
        unpadded : IsNotRead (padding 8 (ends + 8) ends (drop ends bytes)) → BeginsWithNone limits bytes
        unfolding message_read
        unpadded unread = not_read (rw (headed, fielded, none) (not_first (padding 8 (ends + 8) ends (drop ends bytes)) _ unread))

        -- the bytes end after the padding, or before its end
        pub no_padding : IsNotRead (padding 8 (length bytes) ends (drop ends bytes)) → BeginsWithNone limits bytes
        no_padding unread = elim (cases_lt (length bytes) (ends + gap_to 8 ends)) [
          | inl short ↦ too_short (omega (arith, short))
          | inr fits ↦
              let near = gap_near ends in
              unpadded (not_same (padding 8 (ends + 8) ends (drop ends bytes)) (padding 8 (length bytes) ends (drop ends bytes))
              (padding_is 8 (ends + 8) ends (gap_to 8 ends) (drop ends bytes) refl (omega (arith, near)) ∙ sym (padding_is 8 (length bytes) ends (gap_to 8 ends) (drop ends bytes) refl fits)) unread)
        ]

        pub no_body : (start : ℕ) → padding 8 (ends + 8) ends (drop ends bytes) ≡ Done tt start (drop start bytes)
            → IsNotRead (body_read limits (body_fds limits fs) h.order (types_spelled (body_signature fs)) (start + h.body) start (drop start bytes)) → BeginsWithNone limits bytes
        unfolding message_read
        no_body start padded unread =
            not_read (rw (headed, fielded, none, padded) (not_first (body_read limits (body_fds limits fs) h.order (types_spelled (body_signature fs)) (start + h.body) start (drop start bytes)) _ unread))
