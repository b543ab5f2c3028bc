-- Worked examples of the wire format, computed by the plain reader that stands beside the
-- definitions: the outcome of each list of bytes. D-Bus Specification, "Message Format";
-- docs/WIRE-FORMAT.md.
use Rattle.std.proofs.Common.{◌≡◌, ℕ, List, [], ◌∷◌, map, refl}
use Rattle.dbus_texts.specs.ComputedKinds as computed
use Rattle.dbus_texts.specs.ComputedKinds.{type_spelled, types_spelled, parse}
use Rattle.dbus_value_model.specs.ComputedTexts.{is_kind, break_at}
use Rattle.dbus_value_model.specs.Specification.{specification}
use Rattle.dbus_value_model.specs.declared.order.Order.{Order}
use Rattle.dbus_value_model.specs.declared.order.Order.TheVariants.{Little, Big}
use Rattle.dbus_value_model.specs.declared.fault.Fault.{Fault}
use Rattle.dbus_value_model.specs.declared.fault.Reason.TheVariants as reasons
use Rattle.dbus_value_model.specs.Bytes.{gap_to}
use Rattle.dbus_value_model.specs.Items.{fault}
use Rattle.dbus_value_model.specs.Reading.{Outcome, Done, Faulty, Partial, padding, number, number_of, text, ends, value}
use Rattle.dbus_message_model.specs.Messages.{MessageTree}
use Rattle.dbus_header.specs.HeaderReading.{fixed_header, wanted_signature, wanted_value, field_read, fields_read, body_read, message_read, byte_order}

data Answer : Type 0 where
  Whole : Order → ℕ → Answer
  Refused : Fault → Answer
  Wanting : Answer

abbrev answer_of : Outcome (Order × MessageTree) → Answer
answer_of (Done x n rest) = Whole x.0 n
answer_of (Faulty f) = Refused f
answer_of Partial = Wanting

-- what bytes that may begin with a message are answered
abbrev answer : List ℕ → Answer
answer bytes = answer_of (message_read specification 0 bytes)

-- bytes, and what they are answered
abbrev examples : List (List ℕ × Answer)
examples =
    -- A reply to the call with serial 1, without a body ("Message Format")
    (108 ∷ 2 ∷ 1 ∷ 1 ∷ 0 ∷ 0 ∷ 0 ∷ 0 ∷ 1 ∷ 0 ∷ 0 ∷ 0 ∷ 8 ∷ 0 ∷ 0 ∷ 0 ∷ 5 ∷ 1 ∷ 117 ∷ 0 ∷ 1 ∷ 0 ∷ 0 ∷ 0 ∷ [], Whole Little 24) ∷
    -- The same in big endian ("Message Format")
    (66 ∷ 2 ∷ 1 ∷ 1 ∷ 0 ∷ 0 ∷ 0 ∷ 0 ∷ 0 ∷ 0 ∷ 0 ∷ 1 ∷ 0 ∷ 0 ∷ 0 ∷ 8 ∷ 5 ∷ 1 ∷ 117 ∷ 0 ∷ 0 ∷ 0 ∷ 0 ∷ 1 ∷ [], Whole Big 24) ∷
    -- A message of type 5, which the specification does not name ("Message Format")
    (108 ∷ 5 ∷ 0 ∷ 1 ∷ 0 ∷ 0 ∷ 0 ∷ 0 ∷ 1 ∷ 0 ∷ 0 ∷ 0 ∷ 0 ∷ 0 ∷ 0 ∷ 0 ∷ [], Whole Little 16) ∷
    -- A body of UINT32 7 and an empty array of INT64: padding up to the first element that is not
    -- there ("Marshalling containers")
    (108 ∷ 2 ∷ 0 ∷ 1 ∷ 8 ∷ 0 ∷ 0 ∷ 0 ∷ 1 ∷ 0 ∷ 0 ∷ 0 ∷ 17 ∷ 0 ∷ 0 ∷ 0 ∷ 5 ∷ 1 ∷ 117 ∷ 0 ∷ 1 ∷ 0 ∷ 0 ∷ 0 ∷ 8 ∷ 1 ∷ 103 ∷ 0 ∷ 3 ∷ 117 ∷ 97 ∷ 120 ∷ 0 ∷ 0 ∷ 0 ∷ 0 ∷ 0 ∷ 0 ∷ 0 ∷ 0 ∷ 7 ∷ 0 ∷ 0 ∷ 0 ∷ 0 ∷ 0 ∷ 0 ∷ 0 ∷ [], Whole Little 48) ∷
    -- A body of an empty array of INT64 alone ("Marshalling containers")
    (108 ∷ 2 ∷ 0 ∷ 1 ∷ 8 ∷ 0 ∷ 0 ∷ 0 ∷ 1 ∷ 0 ∷ 0 ∷ 0 ∷ 16 ∷ 0 ∷ 0 ∷ 0 ∷ 5 ∷ 1 ∷ 117 ∷ 0 ∷ 1 ∷ 0 ∷ 0 ∷ 0 ∷ 8 ∷ 1 ∷ 103 ∷ 0 ∷ 2 ∷ 97 ∷ 120 ∷ 0 ∷ 0 ∷ 0 ∷ 0 ∷ 0 ∷ 0 ∷ 0 ∷ 0 ∷ 0 ∷ [], Whole Little 40) ∷
    -- The same without that padding: the body ends too early ("Marshalling containers")
    (108 ∷ 2 ∷ 0 ∷ 1 ∷ 4 ∷ 0 ∷ 0 ∷ 0 ∷ 1 ∷ 0 ∷ 0 ∷ 0 ∷ 16 ∷ 0 ∷ 0 ∷ 0 ∷ 5 ∷ 1 ∷ 117 ∷ 0 ∷ 1 ∷ 0 ∷ 0 ∷ 0 ∷ 8 ∷ 1 ∷ 103 ∷ 0 ∷ 2 ∷ 97 ∷ 120 ∷ 0 ∷ 0 ∷ 0 ∷ 0 ∷ 0 ∷ [], Refused (fault 32 reasons.Overrun)) ∷
    -- The same with a byte of padding that is not 0 ("Marshalling containers")
    (108 ∷ 2 ∷ 0 ∷ 1 ∷ 8 ∷ 0 ∷ 0 ∷ 0 ∷ 1 ∷ 0 ∷ 0 ∷ 0 ∷ 16 ∷ 0 ∷ 0 ∷ 0 ∷ 5 ∷ 1 ∷ 117 ∷ 0 ∷ 1 ∷ 0 ∷ 0 ∷ 0 ∷ 8 ∷ 1 ∷ 103 ∷ 0 ∷ 2 ∷ 97 ∷ 120 ∷ 0 ∷ 0 ∷ 0 ∷ 0 ∷ 0 ∷ 0 ∷ 0 ∷ 1 ∷ 0 ∷ [], Refused (fault 38 reasons.Padding)) ∷
    -- A reply without REPLY_SERIAL ("Header Fields")
    (108 ∷ 2 ∷ 1 ∷ 1 ∷ 0 ∷ 0 ∷ 0 ∷ 0 ∷ 1 ∷ 0 ∷ 0 ∷ 0 ∷ 0 ∷ 0 ∷ 0 ∷ 0 ∷ [], Refused (fault 16 (reasons.FieldMissing 5))) ∷
    -- A body of 4,294,967,295 bytes ("Message Format")
    (108 ∷ 2 ∷ 1 ∷ 1 ∷ 255 ∷ 255 ∷ 255 ∷ 255 ∷ 1 ∷ 0 ∷ 0 ∷ 0 ∷ 8 ∷ 0 ∷ 0 ∷ 0 ∷ [], Refused (fault 12 reasons.MessageTooLong)) ∷
    -- The same with serial 0, which comes first ("Message Format")
    (108 ∷ 2 ∷ 1 ∷ 1 ∷ 255 ∷ 255 ∷ 255 ∷ 255 ∷ 0 ∷ 0 ∷ 0 ∷ 0 ∷ 8 ∷ 0 ∷ 0 ∷ 0 ∷ [], Refused (fault 8 reasons.ZeroSerial)) ∷
    -- The header of a message of 134,217,728 bytes ("Message Format")
    (108 ∷ 2 ∷ 1 ∷ 1 ∷ 232 ∷ 255 ∷ 255 ∷ 7 ∷ 1 ∷ 0 ∷ 0 ∷ 0 ∷ 8 ∷ 0 ∷ 0 ∷ 0 ∷ [], Wanting) ∷
    -- The header of one of 134,217,729 ("Message Format")
    (108 ∷ 2 ∷ 1 ∷ 1 ∷ 233 ∷ 255 ∷ 255 ∷ 7 ∷ 1 ∷ 0 ∷ 0 ∷ 0 ∷ 8 ∷ 0 ∷ 0 ∷ 0 ∷ [], Refused (fault 12 reasons.MessageTooLong)) ∷
    -- An array of 67,108,864 bytes, which have not come yet ("Marshalling containers")
    (108 ∷ 2 ∷ 0 ∷ 1 ∷ 4 ∷ 0 ∷ 0 ∷ 4 ∷ 1 ∷ 0 ∷ 0 ∷ 0 ∷ 16 ∷ 0 ∷ 0 ∷ 0 ∷ 5 ∷ 1 ∷ 117 ∷ 0 ∷ 1 ∷ 0 ∷ 0 ∷ 0 ∷ 8 ∷ 1 ∷ 103 ∷ 0 ∷ 2 ∷ 97 ∷ 121 ∷ 0 ∷ 0 ∷ 0 ∷ 0 ∷ 4 ∷ [], Wanting) ∷
    -- An array of 67,108,865 bytes ("Marshalling containers")
    (108 ∷ 2 ∷ 0 ∷ 1 ∷ 5 ∷ 0 ∷ 0 ∷ 4 ∷ 1 ∷ 0 ∷ 0 ∷ 0 ∷ 16 ∷ 0 ∷ 0 ∷ 0 ∷ 5 ∷ 1 ∷ 117 ∷ 0 ∷ 1 ∷ 0 ∷ 0 ∷ 0 ∷ 8 ∷ 1 ∷ 103 ∷ 0 ∷ 2 ∷ 97 ∷ 121 ∷ 0 ∷ 1 ∷ 0 ∷ 0 ∷ 4 ∷ [], Refused (fault 32 reasons.ArrayTooLong)) ∷
    -- A BOOLEAN that is 2 ("Marshalling basic types")
    (108 ∷ 2 ∷ 0 ∷ 1 ∷ 4 ∷ 0 ∷ 0 ∷ 0 ∷ 1 ∷ 0 ∷ 0 ∷ 0 ∷ 15 ∷ 0 ∷ 0 ∷ 0 ∷ 5 ∷ 1 ∷ 117 ∷ 0 ∷ 1 ∷ 0 ∷ 0 ∷ 0 ∷ 8 ∷ 1 ∷ 103 ∷ 0 ∷ 1 ∷ 98 ∷ 0 ∷ 0 ∷ 2 ∷ 0 ∷ 0 ∷ 0 ∷ [], Refused (fault 32 reasons.Bool)) ∷
    -- The same while its last byte is missing ("Marshalling basic types")
    (108 ∷ 2 ∷ 0 ∷ 1 ∷ 4 ∷ 0 ∷ 0 ∷ 0 ∷ 1 ∷ 0 ∷ 0 ∷ 0 ∷ 15 ∷ 0 ∷ 0 ∷ 0 ∷ 5 ∷ 1 ∷ 117 ∷ 0 ∷ 1 ∷ 0 ∷ 0 ∷ 0 ∷ 8 ∷ 1 ∷ 103 ∷ 0 ∷ 1 ∷ 98 ∷ 0 ∷ 0 ∷ 2 ∷ 0 ∷ 0 ∷ [], Wanting) ∷
    -- An array of UINT32 whose length is 6: its second element passes its end ("Marshalling
    -- containers")
    (108 ∷ 2 ∷ 0 ∷ 1 ∷ 10 ∷ 0 ∷ 0 ∷ 0 ∷ 1 ∷ 0 ∷ 0 ∷ 0 ∷ 16 ∷ 0 ∷ 0 ∷ 0 ∷ 5 ∷ 1 ∷ 117 ∷ 0 ∷ 1 ∷ 0 ∷ 0 ∷ 0 ∷ 8 ∷ 1 ∷ 103 ∷ 0 ∷ 2 ∷ 97 ∷ 117 ∷ 0 ∷ 6 ∷ 0 ∷ 0 ∷ 0 ∷ 1 ∷ 0 ∷ 0 ∷ 0 ∷ [], Refused (fault 40 reasons.Overrun)) ∷
    -- 64 variants within one another ("Valid Signatures")
    (108 ∷ 2 ∷ 0 ∷ 1 ∷ 193 ∷ 0 ∷ 0 ∷ 0 ∷ 1 ∷ 0 ∷ 0 ∷ 0 ∷ 15 ∷ 0 ∷ 0 ∷ 0 ∷ 5 ∷ 1 ∷ 117 ∷ 0 ∷ 1 ∷ 0 ∷ 0 ∷ 0 ∷ 8 ∷ 1 ∷ 103 ∷ 0 ∷ 1 ∷ 118 ∷ 0 ∷ 0 ∷ 1 ∷ 118 ∷ 0 ∷ 1 ∷ 118 ∷ 0 ∷ 1 ∷ 118 ∷ 0 ∷ 1 ∷ 118 ∷ 0 ∷ 1 ∷ 118 ∷ 0 ∷ 1 ∷ 118 ∷ 0 ∷ 1 ∷ 118 ∷ 0 ∷ 1 ∷ 118 ∷ 0 ∷ 1 ∷ 118 ∷ 0 ∷ 1 ∷ 118 ∷ 0 ∷ 1 ∷ 118 ∷ 0 ∷ 1 ∷ 118 ∷ 0 ∷ 1 ∷ 118 ∷ 0 ∷ 1 ∷ 118 ∷ 0 ∷ 1 ∷ 118 ∷ 0 ∷ 1 ∷ 118 ∷ 0 ∷ 1 ∷ 118 ∷ 0 ∷ 1 ∷ 118 ∷ 0 ∷ 1 ∷ 118 ∷ 0 ∷ 1 ∷ 118 ∷ 0 ∷ 1 ∷ 118 ∷ 0 ∷ 1 ∷ 118 ∷ 0 ∷ 1 ∷ 118 ∷ 0 ∷ 1 ∷ 118 ∷ 0 ∷ 1 ∷ 118 ∷ 0 ∷ 1 ∷ 118 ∷ 0 ∷ 1 ∷ 118 ∷ 0 ∷ 1 ∷ 118 ∷ 0 ∷ 1 ∷ 118 ∷ 0 ∷ 1 ∷ 118 ∷ 0 ∷ 1 ∷ 118 ∷ 0 ∷ 1 ∷ 118 ∷ 0 ∷ 1 ∷ 118 ∷ 0 ∷ 1 ∷ 118 ∷ 0 ∷ 1 ∷ 118 ∷ 0 ∷ 1 ∷ 118 ∷ 0 ∷ 1 ∷ 118 ∷ 0 ∷ 1 ∷ 118 ∷ 0 ∷ 1 ∷ 118 ∷ 0 ∷ 1 ∷ 118 ∷ 0 ∷ 1 ∷ 118 ∷ 0 ∷ 1 ∷ 118 ∷ 0 ∷ 1 ∷ 118 ∷ 0 ∷ 1 ∷ 118 ∷ 0 ∷ 1 ∷ 118 ∷ 0 ∷ 1 ∷ 118 ∷ 0 ∷ 1 ∷ 118 ∷ 0 ∷ 1 ∷ 118 ∷ 0 ∷ 1 ∷ 118 ∷ 0 ∷ 1 ∷ 118 ∷ 0 ∷ 1 ∷ 118 ∷ 0 ∷ 1 ∷ 118 ∷ 0 ∷ 1 ∷ 118 ∷ 0 ∷ 1 ∷ 118 ∷ 0 ∷ 1 ∷ 118 ∷ 0 ∷ 1 ∷ 118 ∷ 0 ∷ 1 ∷ 118 ∷ 0 ∷ 1 ∷ 118 ∷ 0 ∷ 1 ∷ 118 ∷ 0 ∷ 1 ∷ 118 ∷ 0 ∷ 1 ∷ 118 ∷ 0 ∷ 1 ∷ 118 ∷ 0 ∷ 1 ∷ 118 ∷ 0 ∷ 1 ∷ 121 ∷ 0 ∷ 7 ∷ [], Whole Little 225) ∷
    -- 65 variants within one another ("Valid Signatures")
    (108 ∷ 2 ∷ 0 ∷ 1 ∷ 196 ∷ 0 ∷ 0 ∷ 0 ∷ 1 ∷ 0 ∷ 0 ∷ 0 ∷ 15 ∷ 0 ∷ 0 ∷ 0 ∷ 5 ∷ 1 ∷ 117 ∷ 0 ∷ 1 ∷ 0 ∷ 0 ∷ 0 ∷ 8 ∷ 1 ∷ 103 ∷ 0 ∷ 1 ∷ 118 ∷ 0 ∷ 0 ∷ 1 ∷ 118 ∷ 0 ∷ 1 ∷ 118 ∷ 0 ∷ 1 ∷ 118 ∷ 0 ∷ 1 ∷ 118 ∷ 0 ∷ 1 ∷ 118 ∷ 0 ∷ 1 ∷ 118 ∷ 0 ∷ 1 ∷ 118 ∷ 0 ∷ 1 ∷ 118 ∷ 0 ∷ 1 ∷ 118 ∷ 0 ∷ 1 ∷ 118 ∷ 0 ∷ 1 ∷ 118 ∷ 0 ∷ 1 ∷ 118 ∷ 0 ∷ 1 ∷ 118 ∷ 0 ∷ 1 ∷ 118 ∷ 0 ∷ 1 ∷ 118 ∷ 0 ∷ 1 ∷ 118 ∷ 0 ∷ 1 ∷ 118 ∷ 0 ∷ 1 ∷ 118 ∷ 0 ∷ 1 ∷ 118 ∷ 0 ∷ 1 ∷ 118 ∷ 0 ∷ 1 ∷ 118 ∷ 0 ∷ 1 ∷ 118 ∷ 0 ∷ 1 ∷ 118 ∷ 0 ∷ 1 ∷ 118 ∷ 0 ∷ 1 ∷ 118 ∷ 0 ∷ 1 ∷ 118 ∷ 0 ∷ 1 ∷ 118 ∷ 0 ∷ 1 ∷ 118 ∷ 0 ∷ 1 ∷ 118 ∷ 0 ∷ 1 ∷ 118 ∷ 0 ∷ 1 ∷ 118 ∷ 0 ∷ 1 ∷ 118 ∷ 0 ∷ 1 ∷ 118 ∷ 0 ∷ 1 ∷ 118 ∷ 0 ∷ 1 ∷ 118 ∷ 0 ∷ 1 ∷ 118 ∷ 0 ∷ 1 ∷ 118 ∷ 0 ∷ 1 ∷ 118 ∷ 0 ∷ 1 ∷ 118 ∷ 0 ∷ 1 ∷ 118 ∷ 0 ∷ 1 ∷ 118 ∷ 0 ∷ 1 ∷ 118 ∷ 0 ∷ 1 ∷ 118 ∷ 0 ∷ 1 ∷ 118 ∷ 0 ∷ 1 ∷ 118 ∷ 0 ∷ 1 ∷ 118 ∷ 0 ∷ 1 ∷ 118 ∷ 0 ∷ 1 ∷ 118 ∷ 0 ∷ 1 ∷ 118 ∷ 0 ∷ 1 ∷ 118 ∷ 0 ∷ 1 ∷ 118 ∷ 0 ∷ 1 ∷ 118 ∷ 0 ∷ 1 ∷ 118 ∷ 0 ∷ 1 ∷ 118 ∷ 0 ∷ 1 ∷ 118 ∷ 0 ∷ 1 ∷ 118 ∷ 0 ∷ 1 ∷ 118 ∷ 0 ∷ 1 ∷ 118 ∷ 0 ∷ 1 ∷ 118 ∷ 0 ∷ 1 ∷ 118 ∷ 0 ∷ 1 ∷ 118 ∷ 0 ∷ 1 ∷ 118 ∷ 0 ∷ 1 ∷ 118 ∷ 0 ∷ 1 ∷ 118 ∷ 0 ∷ 1 ∷ 121 ∷ 0 ∷ 7 ∷ [], Refused (fault 224 reasons.TooDeep)) ∷
    -- A text of two bytes, of which the first begins a character ("Marshalling basic types")
    (108 ∷ 2 ∷ 0 ∷ 1 ∷ 7 ∷ 0 ∷ 0 ∷ 0 ∷ 1 ∷ 0 ∷ 0 ∷ 0 ∷ 15 ∷ 0 ∷ 0 ∷ 0 ∷ 5 ∷ 1 ∷ 117 ∷ 0 ∷ 1 ∷ 0 ∷ 0 ∷ 0 ∷ 8 ∷ 1 ∷ 103 ∷ 0 ∷ 1 ∷ 115 ∷ 0 ∷ 0 ∷ 2 ∷ 0 ∷ 0 ∷ 0 ∷ 226 ∷ [], Wanting) ∷
    -- The same with a second byte that goes on with that character, for which the text has no room
    -- ("Marshalling basic types")
    (108 ∷ 2 ∷ 0 ∷ 1 ∷ 7 ∷ 0 ∷ 0 ∷ 0 ∷ 1 ∷ 0 ∷ 0 ∷ 0 ∷ 15 ∷ 0 ∷ 0 ∷ 0 ∷ 5 ∷ 1 ∷ 117 ∷ 0 ∷ 1 ∷ 0 ∷ 0 ∷ 0 ∷ 8 ∷ 1 ∷ 103 ∷ 0 ∷ 1 ∷ 115 ∷ 0 ∷ 0 ∷ 2 ∷ 0 ∷ 0 ∷ 0 ∷ 226 ∷ 130 ∷ [], Refused (fault 38 reasons.Text)) ∷
    -- The same with a second byte that cannot follow the first ("Marshalling basic types")
    (108 ∷ 2 ∷ 0 ∷ 1 ∷ 7 ∷ 0 ∷ 0 ∷ 0 ∷ 1 ∷ 0 ∷ 0 ∷ 0 ∷ 15 ∷ 0 ∷ 0 ∷ 0 ∷ 5 ∷ 1 ∷ 117 ∷ 0 ∷ 1 ∷ 0 ∷ 0 ∷ 0 ∷ 8 ∷ 1 ∷ 103 ∷ 0 ∷ 1 ∷ 115 ∷ 0 ∷ 0 ∷ 2 ∷ 0 ∷ 0 ∷ 0 ∷ 226 ∷ 40 ∷ [], Refused (fault 37 reasons.Text)) ∷
    -- A signal with PATH, INTERFACE, MEMBER, SIGNATURE and a body ("Header Fields")
    (108 ∷ 4 ∷ 0 ∷ 1 ∷ 24 ∷ 0 ∷ 0 ∷ 0 ∷ 2 ∷ 0 ∷ 0 ∷ 0 ∷ 56 ∷ 0 ∷ 0 ∷ 0 ∷ 1 ∷ 1 ∷ 111 ∷ 0 ∷ 2 ∷ 0 ∷ 0 ∷ 0 ∷ 47 ∷ 97 ∷ 0 ∷ 0 ∷ 0 ∷ 0 ∷ 0 ∷ 0 ∷ 2 ∷ 1 ∷ 115 ∷ 0 ∷ 3 ∷ 0 ∷ 0 ∷ 0 ∷ 97 ∷ 46 ∷ 98 ∷ 0 ∷ 0 ∷ 0 ∷ 0 ∷ 0 ∷ 3 ∷ 1 ∷ 115 ∷ 0 ∷ 1 ∷ 0 ∷ 0 ∷ 0 ∷ 67 ∷ 0 ∷ 0 ∷ 0 ∷ 0 ∷ 0 ∷ 0 ∷ 0 ∷ 8 ∷ 1 ∷ 103 ∷ 0 ∷ 2 ∷ 115 ∷ 118 ∷ 0 ∷ 2 ∷ 0 ∷ 0 ∷ 0 ∷ 104 ∷ 105 ∷ 0 ∷ 2 ∷ 97 ∷ 117 ∷ 0 ∷ 0 ∷ 8 ∷ 0 ∷ 0 ∷ 0 ∷ 1 ∷ 0 ∷ 0 ∷ 0 ∷ 2 ∷ 0 ∷ 0 ∷ 0 ∷ [], Whole Little 96) ∷
    -- A reply of UINT32 7 and STRING `hi` ("Message Format")
    (108 ∷ 2 ∷ 0 ∷ 1 ∷ 11 ∷ 0 ∷ 0 ∷ 0 ∷ 1 ∷ 0 ∷ 0 ∷ 0 ∷ 16 ∷ 0 ∷ 0 ∷ 0 ∷ 5 ∷ 1 ∷ 117 ∷ 0 ∷ 1 ∷ 0 ∷ 0 ∷ 0 ∷ 8 ∷ 1 ∷ 103 ∷ 0 ∷ 2 ∷ 117 ∷ 115 ∷ 0 ∷ 7 ∷ 0 ∷ 0 ∷ 0 ∷ 2 ∷ 0 ∷ 0 ∷ 0 ∷ 104 ∷ 105 ∷ 0 ∷ [], Whole Little 43) ∷
    -- The same in big endian ("Message Format")
    (66 ∷ 2 ∷ 0 ∷ 1 ∷ 0 ∷ 0 ∷ 0 ∷ 11 ∷ 0 ∷ 0 ∷ 0 ∷ 1 ∷ 0 ∷ 0 ∷ 0 ∷ 16 ∷ 5 ∷ 1 ∷ 117 ∷ 0 ∷ 0 ∷ 0 ∷ 0 ∷ 1 ∷ 8 ∷ 1 ∷ 103 ∷ 0 ∷ 2 ∷ 117 ∷ 115 ∷ 0 ∷ 0 ∷ 0 ∷ 0 ∷ 7 ∷ 0 ∷ 0 ∷ 0 ∷ 2 ∷ 104 ∷ 105 ∷ 0 ∷ [], Whole Big 43) ∷
    -- An unknown header field twice: both are kept ("Header Fields")
    (108 ∷ 5 ∷ 0 ∷ 1 ∷ 0 ∷ 0 ∷ 0 ∷ 0 ∷ 1 ∷ 0 ∷ 0 ∷ 0 ∷ 13 ∷ 0 ∷ 0 ∷ 0 ∷ 10 ∷ 1 ∷ 121 ∷ 0 ∷ 5 ∷ 0 ∷ 0 ∷ 0 ∷ 10 ∷ 1 ∷ 121 ∷ 0 ∷ 6 ∷ 0 ∷ 0 ∷ 0 ∷ [], Whole Little 32) ∷
    -- REPLY_SERIAL twice ("Header Fields")
    (108 ∷ 2 ∷ 1 ∷ 1 ∷ 0 ∷ 0 ∷ 0 ∷ 0 ∷ 1 ∷ 0 ∷ 0 ∷ 0 ∷ 16 ∷ 0 ∷ 0 ∷ 0 ∷ 5 ∷ 1 ∷ 117 ∷ 0 ∷ 1 ∷ 0 ∷ 0 ∷ 0 ∷ 5 ∷ 1 ∷ 117 ∷ 0 ∷ 2 ∷ 0 ∷ 0 ∷ 0 ∷ [], Refused (fault 24 reasons.FieldTwice)) ∷
    -- A header field of code 0 ("Header Fields")
    (108 ∷ 2 ∷ 1 ∷ 1 ∷ 0 ∷ 0 ∷ 0 ∷ 0 ∷ 1 ∷ 0 ∷ 0 ∷ 0 ∷ 8 ∷ 0 ∷ 0 ∷ 0 ∷ 0 ∷ 1 ∷ 117 ∷ 0 ∷ 1 ∷ 0 ∷ 0 ∷ 0 ∷ [], Refused (fault 16 reasons.FieldCode)) ∷
    -- REPLY_SERIAL of type INT64 ("Header Fields")
    (108 ∷ 2 ∷ 1 ∷ 1 ∷ 0 ∷ 0 ∷ 0 ∷ 0 ∷ 1 ∷ 0 ∷ 0 ∷ 0 ∷ 8 ∷ 0 ∷ 0 ∷ 0 ∷ 5 ∷ 1 ∷ 120 ∷ 0 ∷ 1 ∷ 0 ∷ 0 ∷ 0 ∷ [], Refused (fault 18 reasons.FieldType)) ∷
    -- REPLY_SERIAL 0 ("Header Fields")
    (108 ∷ 2 ∷ 1 ∷ 1 ∷ 0 ∷ 0 ∷ 0 ∷ 0 ∷ 1 ∷ 0 ∷ 0 ∷ 0 ∷ 8 ∷ 0 ∷ 0 ∷ 0 ∷ 5 ∷ 1 ∷ 117 ∷ 0 ∷ 0 ∷ 0 ∷ 0 ∷ 0 ∷ [], Refused (fault 20 reasons.ZeroSerial)) ∷
    -- REPLY_SERIAL of two types ("Header Fields")
    (108 ∷ 2 ∷ 1 ∷ 1 ∷ 0 ∷ 0 ∷ 0 ∷ 0 ∷ 1 ∷ 0 ∷ 0 ∷ 0 ∷ 8 ∷ 0 ∷ 0 ∷ 0 ∷ 5 ∷ 2 ∷ 117 ∷ 117 ∷ 0 ∷ 0 ∷ 0 ∷ 0 ∷ [], Refused (fault 19 reasons.FieldType)) ∷
    -- A MEMBER of 256 bytes ("Valid Names")
    (108 ∷ 4 ∷ 0 ∷ 1 ∷ 0 ∷ 0 ∷ 0 ∷ 0 ∷ 1 ∷ 0 ∷ 0 ∷ 0 ∷ 8 ∷ 0 ∷ 0 ∷ 0 ∷ 3 ∷ 1 ∷ 115 ∷ 0 ∷ 0 ∷ 1 ∷ 0 ∷ 0 ∷ [], Refused (fault 20 reasons.NameTooLong)) ∷
    -- A MEMBER of 255 bytes in header fields of 8 ("Header Fields")
    (108 ∷ 4 ∷ 0 ∷ 1 ∷ 0 ∷ 0 ∷ 0 ∷ 0 ∷ 1 ∷ 0 ∷ 0 ∷ 0 ∷ 8 ∷ 0 ∷ 0 ∷ 0 ∷ 3 ∷ 1 ∷ 115 ∷ 0 ∷ 255 ∷ 0 ∷ 0 ∷ 0 ∷ [], Refused (fault 20 reasons.Overrun)) ∷
    -- The MEMBER `a.b` ("Member names")
    (108 ∷ 4 ∷ 0 ∷ 1 ∷ 0 ∷ 0 ∷ 0 ∷ 0 ∷ 1 ∷ 0 ∷ 0 ∷ 0 ∷ 12 ∷ 0 ∷ 0 ∷ 0 ∷ 3 ∷ 1 ∷ 115 ∷ 0 ∷ 3 ∷ 0 ∷ 0 ∷ 0 ∷ 97 ∷ 46 ∷ 98 ∷ 0 ∷ [], Refused (fault 25 reasons.Member)) ∷
    -- A MEMBER with a byte that is no UTF-8: the fault of a name ("Member names")
    (108 ∷ 4 ∷ 0 ∷ 1 ∷ 0 ∷ 0 ∷ 0 ∷ 0 ∷ 1 ∷ 0 ∷ 0 ∷ 0 ∷ 12 ∷ 0 ∷ 0 ∷ 0 ∷ 3 ∷ 1 ∷ 115 ∷ 0 ∷ 3 ∷ 0 ∷ 0 ∷ 0 ∷ 97 ∷ 255 ∷ 98 ∷ 0 ∷ [], Refused (fault 25 reasons.Member)) ∷
    -- A signal without header fields: PATH is the first that it needs ("Header Fields")
    (108 ∷ 4 ∷ 0 ∷ 1 ∷ 0 ∷ 0 ∷ 0 ∷ 0 ∷ 1 ∷ 0 ∷ 0 ∷ 0 ∷ 0 ∷ 0 ∷ 0 ∷ 0 ∷ [], Refused (fault 16 (reasons.FieldMissing 1))) ∷
    -- A body of one byte without SIGNATURE ("Header Fields")
    (108 ∷ 5 ∷ 0 ∷ 1 ∷ 1 ∷ 0 ∷ 0 ∷ 0 ∷ 1 ∷ 0 ∷ 0 ∷ 0 ∷ 0 ∷ 0 ∷ 0 ∷ 0 ∷ [], Refused (fault 16 reasons.Trailing)) ∷
    -- The SIGNATURE `a` ("Valid Signatures")
    (108 ∷ 2 ∷ 0 ∷ 1 ∷ 4 ∷ 0 ∷ 0 ∷ 0 ∷ 1 ∷ 0 ∷ 0 ∷ 0 ∷ 15 ∷ 0 ∷ 0 ∷ 0 ∷ 5 ∷ 1 ∷ 117 ∷ 0 ∷ 1 ∷ 0 ∷ 0 ∷ 0 ∷ 8 ∷ 1 ∷ 103 ∷ 0 ∷ 1 ∷ 97 ∷ 0 ∷ 0 ∷ 2 ∷ 0 ∷ 0 ∷ 0 ∷ [], Refused (fault 30 reasons.Signature)) ∷
    -- A first byte that names no byte order ("Message Format")
    (109 ∷ [], Refused (fault 0 reasons.ByteOrder)) ∷
    -- A message of type 0 ("Message Format")
    (108 ∷ 0 ∷ [], Refused (fault 1 reasons.Kind)) ∷
    -- Version 2 of the protocol ("Message Format")
    (108 ∷ 2 ∷ 0 ∷ 2 ∷ [], Refused (fault 3 reasons.Version)) ∷
    -- No bytes ("Message Protocol")
    ([], Wanting) ∷
    []

each_is_answered_so : map (λ e. answer e.0) examples ≡ map (λ e. e.1) examples
unfolding is_kind break_at computed.is_kind computed.break_at parse type_spelled types_spelled gap_to padding number number_of text ends value byte_order fixed_header wanted_signature wanted_value field_read fields_read body_read message_read
each_is_answered_so = refl
