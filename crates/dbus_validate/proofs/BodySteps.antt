-- A body, as the code passes it over.
use Rattle.std.proofs.Common.{◌≡◌, ℕ, ◌<◌, ◌≤◌, List, drop, get_or, sym, ap, ◌∙◌, ◌+◌, ◌-◌, [], ◌∷◌, ◌++◌, length, take, map, arith, append_assoc}
use Rattle.std.proofs.lemmas.List.{length-append, take_at, drop_at}
use Rattle.dbus_texts.specs.Kinds.{IsKind}
use Rattle.dbus_texts.specs.ComputedKinds.{types_spelled}
use Rattle.dbus_texts.specs.Types.{TypeTrees, sigs, AreShaped}
use Rattle.dbus_texts.specs.declared.text_kind.TextKind.TheVariants.{Signature}
use Rattle.dbus_value_model.specs.declared.fault.Reason.TheVariants as reasons
use Rattle.dbus_value_model.specs.declared.limits.Bounds.{Bounds}
use Rattle.dbus_value_model.specs.declared.limits.Limits.{Limits}
use Rattle.dbus_value_model.specs.declared.order.Order.{Order}
use Rattle.dbus_value_model.specs.Bounds.{bounds_with}
use Rattle.dbus_value_model.specs.Items.{fault, Sequence}
use Rattle.dbus_value_model.specs.Values.{ValueTrees, value_trees}
use Rattle.dbus_value_model.specs.Reading.{Outcome, Done, value, fields}
use Rattle.dbus_value_laws.proofs.KindLaws.{signature_text}
use Rattle.dbus_message_model.specs.Messages.{FieldTree, body_signature, body_fds, MessageTree, order_byte, field_struct, field_array, fields_end, body_start, body_bytes, message_bytes}
use Rattle.dbus_header.specs.HeaderReading.{body_read}
use Rattle.dbus_header.proofs.BodyLoop.{body_whole, body_trailing}
use Rattle.dbus_value_validator.specs.Endings.{EndsAt, IsNotRead, AreSpelledTo, AreNotSpelled}
use Rattle.dbus_value_validator.proofs.ReadParts.{not_first, not_faulty}
use Rattle.dbus_value_validator.proofs.ItemSteps.{fields_read, fields_spelled}
use Rattle.dbus_value_model.specs.Bytes.{num, gap_to, pad}
use Rattle.dbus_value_model.specs.Spelling.{spelling, spellings}
use Rattle.dbus_message_model.proofs.BothOrders.{fields_end_is, message_length}
use Rattle.dbus_header.specs.MessageItems.{field}
use Rattle.dbus_header.specs.MessageOutcomes.{IsWhole}

module _ (limits : Limits) (order : Order) (at end : ℕ) (bytes types : List ℕ) (bounds : Bounds) (fs : List FieldTree) (typed : types ≡ body_signature fs) (bound : bounds ≡ bounds_with limits (body_fds limits fs)) (kind : IsKind Signature (body_signature fs)) where
  abbrev shaped : TypeTrees
  shaped = types_spelled (body_signature fs)

  abbrev read : Outcome ValueTrees
  read = fields (value (bounds_with limits (body_fds limits fs)) order limits.depth end) shaped at (drop at bytes)

  abbrev body : Outcome ValueTrees
  body = body_read limits (body_fds limits fs) order shaped end at (drop at bytes)

  module _ (after : ℕ) (spelled : (ts : TypeTrees) → sigs ts ≡ types → AreShaped ts → AreSpelledTo bounds order limits.depth end ts at bytes after) where
    values_end : EndsAt bytes after read
    values_end =
        let signed = signature_text (body_signature fs) kind in
        rw (← bound) (fields_read bounds order limits.depth end at bytes shaped signed.0 after (spelled shaped (signed.1 ∙ sym typed) signed.0))

    pub body_ends : after ≡ end → EndsAt bytes end body
    body_ends here =
        let whole = body_whole limits (body_fds limits fs) order end shaped at (drop at bytes) values_end.0 after (drop after bytes) values_end.1 here in
        (values_end.0, whole ∙ ap (λ (q : ℕ). Done values_end.0 q (drop q bytes)) here)

    -- its values end before its end
    pub body_longer : after < end → IsNotRead body
    body_longer lt = not_faulty body (fault after reasons.Trailing) (body_trailing limits (body_fds limits fs) order end shaped at (drop at bytes) values_end.0 after (drop after bytes) values_end.1 lt)

  pub body_unspelled : at ≤ end → ((i : ℕ) → get_or bytes i 0 < 256) → ((ts : TypeTrees) → sigs ts ≡ types → AreShaped ts → AreNotSpelled bounds order limits.depth end ts at bytes) → IsNotRead body
  unfolding body_read
  body_unspelled le are none =
      let signed = signature_text (body_signature fs) kind in
      not_first read _ (rw (← bound) (λ vs q rest e. none shaped (signed.1 ∙ sym typed) signed.0 q (vs, fields_spelled bounds order limits.depth end at bytes shaped signed.0 le are vs q rest e)))

-- Where the body of a message stands.

fields_length : (bounds : Bounds) (order : Order) (depth_left end : ℕ) (fs before : List FieldTree) (o : ℕ) (s : List ℕ) (q : ℕ) (r : List ℕ) → Sequence (field bounds order depth_left end) before fs o s q r → q ≡ o + length (spellings order o (value_trees (map field_struct fs)))
unfolding spelling
fields_length bounds order depth_left end [] before o s q r h = omega (arith, h.0)
fields_length bounds order depth_left end (f ∷ fs) before o s q r h =
    let one = spelling order o (field_struct f) in
    let others = value_trees (map field_struct fs) in
    let place : h.0 ≡ o + length one = h.2.0.place in
    let rest = fields_length bounds order depth_left end fs (f ∷ before) h.0 h.1 q r h.3 in
    let moved : length (spellings order h.0 others) ≡ length (spellings order (o + length one) others) = ap (λ (u : ℕ). length (spellings order u others)) place in
    omega (arith, place, rest, moved, length-append one (spellings order (o + length one) others))

-- after the padding that follows the fields
pub body_begins : (bounds : Bounds) (order : Order) (depth_left n start : ℕ) (fs : List FieldTree) (s r : List ℕ) → Sequence (field bounds order depth_left (16 + n)) [] fs 16 s (16 + n) r → start ≡ 16 + n + gap_to 8 (16 + n) → body_start order fs ≡ start
body_begins bounds order depth_left n start fs s r all is =
    let ends : fields_end order fs ≡ 16 + n = omega (arith, fields_end_is order fs, fields_length bounds order depth_left (16 + n) fs [] 16 s (16 + n) r all) in
    ap (λ (u : ℕ). u + gap_to 8 u) ends ∙ sym is

-- the bytes before the body
abbrev header_bytes : Order → MessageTree → List ℕ
header_bytes order m =
    order_byte order ∷ (num order 1 m.kind ++ (num order 1 m.flags ++ (num order 1 1
    ++ (num order 4 (length (body_bytes order m)) ++ (num order 4 m.serial ++ (spelling order 12 (field_array m.fields) ++ pad 8 (fields_end order m.fields)))))))

grouped : (x : ℕ) (a b c d e f h i : List ℕ) → (x ∷ (a ++ (b ++ (c ++ (d ++ (e ++ (f ++ h))))))) ++ i ≡ x ∷ (a ++ (b ++ (c ++ (d ++ (e ++ (f ++ (h ++ i)))))))
grouped x a b c d e f h i = ap (λ (u : List ℕ). x ∷ u) (simp append_assoc)

module _ (order : Order) (m : MessageTree) where
  header_first : header_bytes order m ++ body_bytes order m ≡ message_bytes order m
  header_first = grouped (order_byte order) (num order 1 m.kind) (num order 1 m.flags) (num order 1 1) (num order 4 (length (body_bytes order m))) (num order 4 m.serial) (spelling order 12 (field_array m.fields)) (pad 8 (fields_end order m.fields)) (body_bytes order m)

  header_length : length (header_bytes order m) ≡ body_start order m.fields
  header_length =
      let all : length (header_bytes order m ++ body_bytes order m) ≡ length (message_bytes order m) = ap (λ (u : List ℕ). length u) header_first in
      omega (arith, all, message_length order m, length-append (header_bytes order m) (body_bytes order m))

  pub body_there : (limits : Limits) (b : List ℕ) (n start : ℕ) → IsWhole limits b order m n → body_start order m.fields ≡ start → body_bytes order m ≡ take (n - start) (drop start b)
  unfolding IsWhole
  body_there limits b n start w is =
      let body = body_bytes order m in
      let header = header_bytes order m in
      let there : b ≡ header ++ (body ++ w.1.0) = w.1.1 ∙ ap (λ (u : List ℕ). u ++ w.1.0) (sym header_first) ∙ append_assoc header body w.1.0 in
      let long : length header ≡ start = header_length ∙ is in
      let suffix : drop start b ≡ body ++ w.1.0 = ap (drop start) there ∙ drop_at header (body ++ w.1.0) start long in
      let size : length body ≡ n - start = omega (arith, w.2, message_length order m, is) in
      sym (ap (take (n - start)) suffix ∙ take_at body w.1.0 (n - start) size)
