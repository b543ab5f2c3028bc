-- A message that is valid and within the limits in one byte order is so in the other.
use Rattle.std.proofs.Common.{◌≡◌, ℕ, ◌+◌, List, ◌++◌, length, map, refl, arith, ◌≤◌, sym, ap, subst, ◌∙◌, suc}
use Rattle.std.proofs.lemmas.List.{length-append, length-replicate}
use Rattle.std.specs.Coded.{×_prop, Unit-prop, le_prop}
use Rattle.dbus_value_model.specs.declared.order.Order.{Order}
use Rattle.dbus_value_model.specs.Bytes.{num, gap_to}
use Rattle.dbus_value_model.specs.Spelling.{spelling, spellings, contents_start, ended_text, IsWithinLimits, AreWithinLimits}
use Rattle.dbus_value_model.specs.Values.{value_trees, ValueTree, ValueTrees, NoValues, MoreValues, NumberValue, TextValue, VariantValue, ArrayValue, StructValue, EntryValue, type_of, IsWellFormed, AreWellFormed}
use Rattle.dbus_value_model.proofs.Numbers.{length-num}
use Rattle.dbus_texts.specs.Types.{sig, STRING, OBJECT_PATH, SIGNATURE}
use Rattle.dbus_value_model.specs.declared.limits.Limits.{Limits}
use Rattle.dbus_value_model.specs.Sizes.{HasShortSignatures, HaveShortSignatures}
use Rattle.dbus_value_model.proofs.Formed.{all_short}
use Rattle.dbus_message_model.specs.Messages.{FieldTree, MessageTree, field_struct, field_array, fields_end, body_start, body_bytes, message_bytes, IsMessage, KeepsIndexes, IsValidMessage}

-- Where the fields of a message end, and how many bytes it has.

-- the bytes of the fields, which begin at 16
abbrev pub field_bytes : Order → List FieldTree → List ℕ
field_bytes order fs = spellings order 16 (value_trees (map field_struct fs))

pub field_array_bytes : (order : Order) (fs : List FieldTree) → spelling order 12 (field_array fs) ≡ num order 4 (length (field_bytes order fs)) ++ field_bytes order fs
unfolding spelling gap_to
field_array_bytes order fs = refl

pub fields_end_is : (order : Order) (fs : List FieldTree) → fields_end order fs ≡ 16 + length (field_bytes order fs)
fields_end_is order fs = rw (field_array_bytes order fs) (simp (length-append, length-num) (omega arith))

module _ (order : Order) (m : MessageTree) where
  abbrev pub body_length : ℕ
  body_length = length (body_bytes order m)

  pub message_length : length (message_bytes order m) ≡ body_start order m.fields + body_length
  message_length =
      let e = fields_end_is order m.fields in
      let l : length (spelling order 12 (field_array m.fields)) ≡ 4 + length (field_bytes order m.fields) = rw (field_array_bytes order m.fields) (simp (length-append, length-num)) in
      simp (length-append, length-num, length-replicate) (omega (arith, e, l))

-- ---- any two orders take as many bytes

any_ended : (order other : Order) (w : ℕ) (t : List ℕ) → length (ended_text order w t) ≡ length (ended_text other w t)
any_ended order other w t = simp (length-append, length-num)

mutual
  unfolding spelling

  pub any_length : (order other : Order) (o : ℕ) (v : ValueTree) → length (spelling order o v) ≡ length (spelling other o v)
  any_length order other o (NumberValue k n) = simp (length-append, length-num)
  any_length order other o (TextValue k t) = simp (length-append, length-num)
  any_length order other o (VariantValue x) =
      let t = sig (type_of x) in
      let e = any_ended order other 1 t in
      let ih : length (spelling order (o + length (ended_text order 1 t)) x) ≡ length (spelling other (o + length (ended_text other 1 t)) x) = rw e (any_length order other (o + length (ended_text other 1 t)) x) in
      length-append (ended_text order 1 t) _ ∙ omega (arith, e, ih) ∙ sym (length-append (ended_text other 1 t) _)
  any_length order other o (ArrayValue t xs) =
      let ih = any_lengths order other (contents_start t o) xs in
      simp (length-append, length-num, length-replicate) (omega (arith, ih))
  any_length order other o (StructValue xs) =
      let ih = any_lengths order other (o + gap_to 8 o) xs in
      simp (length-append, length-replicate) (omega (arith, ih))
  any_length order other o (EntryValue k x) =
      let p = o + gap_to 8 o in
      let e = any_length order other p k in
      let ih : length (spelling order (p + length (spelling order p k)) x) ≡ length (spelling other (p + length (spelling other p k)) x) = rw e (any_length order other (p + length (spelling other p k)) x) in
      simp (length-append, length-replicate) (omega (arith, e, ih))

  pub any_lengths : (order other : Order) (o : ℕ) (vs : ValueTrees) → length (spellings order o vs) ≡ length (spellings other o vs)
  any_lengths order other o NoValues = refl
  any_lengths order other o (MoreValues v vs) =
      let e = any_length order other o v in
      let ih : length (spellings order (o + length (spelling order o v)) vs) ≡ length (spellings other (o + length (spelling other o v)) vs) = rw e (any_lengths order other (o + length (spelling other o v)) vs) in
      simp length-append (omega (arith, e, ih))

pub any_fields_end : (order other : Order) (fs : List FieldTree) → fields_end order fs ≡ fields_end other fs
any_fields_end order other fs = ap (λ (n : ℕ). 12 + n) (any_length order other 12 (field_array fs))

pub any_body_start : (order other : Order) (fs : List FieldTree) → body_start order fs ≡ body_start other fs
any_body_start order other fs = ap (λ (n : ℕ). n + gap_to 8 n) (any_fields_end order other fs)

pub any_message_length : (order other : Order) (m : MessageTree) → length (message_bytes order m) ≡ length (message_bytes other m)
any_message_length order other m =
    let start = any_body_start order other m.fields in
    let body : length (body_bytes order m) ≡ length (body_bytes other m) = any_lengths order other (body_start order m.fields) m.body ∙ ap (λ (n : ℕ). length (spellings other n m.body)) start in
    message_length order m ∙ omega (arith, body, start) ∙ sym (message_length other m)

mutual
  pub any_within : (array : ℕ) (order other : Order) (o : ℕ) (v : ValueTree) → IsWithinLimits array order o v → IsWithinLimits array other o v
  any_within array order other o (NumberValue k n) h = tt
  any_within array order other o (TextValue k t) h = tt
  any_within array order other o (VariantValue x) h =
      any_within array order other (o + length (ended_text other 1 (sig (type_of x)))) x
      (subst (λ (n : ℕ). IsWithinLimits array order (o + n) x) (any_ended order other 1 (sig (type_of x))) h)
  any_within array order other o (ArrayValue t xs) h =
      (subst (λ (n : ℕ). n ≤ array) (any_lengths order other (contents_start t o) xs) h.0, any_within_all array order other (contents_start t o) xs h.1)
  any_within array order other o (StructValue xs) h = any_within_all array order other (o + gap_to 8 o) xs h
  any_within array order other o (EntryValue k x) h = (
    any_within array order other (o + gap_to 8 o) k h.0,
    any_within array order other (o + gap_to 8 o + length (spelling other (o + gap_to 8 o) k)) x
        (subst (λ (n : ℕ). IsWithinLimits array order (o + gap_to 8 o + n) x) (any_length order other (o + gap_to 8 o) k) h.1),
  )

  pub any_within_all : (array : ℕ) (order other : Order) (o : ℕ) (vs : ValueTrees) → AreWithinLimits array order o vs → AreWithinLimits array other o vs
  any_within_all array order other o NoValues h = tt
  any_within_all array order other o (MoreValues x xs) h = (
    any_within array order other o x h.0,
    any_within_all array order other (o + length (spelling other o x)) xs
        (subst (λ (n : ℕ). AreWithinLimits array order (o + n) xs) (any_length order other o x) h.1),
  )

-- a message where what the limits and the order touch is known
pub message_under : (limits under : Limits) (order other : Order) (m : MessageTree) → IsMessage limits order m → IsWellFormed under.depth (field_array m.fields) → IsWithinLimits under.array other 12 (field_array m.fields)
    → AreWellFormed under.depth m.body → AreWithinLimits under.array other (body_start other m.fields) m.body → length (message_bytes other m) ≤ under.message → KeepsIndexes under m → IsMessage under other m
message_under limits under order other m h fields_formed fields_within body_formed body_within limit indexes = record {
  kind = h.kind;
  kind_fits = h.kind_fits;
  flags = h.flags;
  serial = h.serial;
  serial_fits = h.serial_fits;
  fields = h.fields;
  formed_fields = fields_formed;
  within_fields = fields_within;
  required_codes = h.required_codes;
  signature = h.signature;
  formed_body = body_formed;
  within_body = body_within;
  limit = limit;
  indexes = indexes;
}

pub any_order : (limits : Limits) (order other : Order) (m : MessageTree) → IsMessage limits order m → IsMessage limits other m
any_order limits order other m h =
    message_under limits limits order other m h h.formed_fields (any_within limits.array order other 12 (field_array m.fields) h.within_fields) h.formed_body
    (any_within_all limits.array order other (body_start other m.fields) m.body (subst (λ (n : ℕ). AreWithinLimits limits.array order n m.body) (any_body_start order other m.fields) h.within_body))
    (subst (λ (n : ℕ). n ≤ limits.message) (any_message_length order other m) h.limit) h.indexes

pub valid_from : (limits : Limits) (order : Order) (m : MessageTree) → IsMessage limits order m → IsValidMessage limits m
valid_from limits order m h other = any_order limits order other m h

-- A valid message has short signatures.

mutual
  pub short_prop : (v : ValueTree) → IsProp (HasShortSignatures v)
  short_prop (NumberValue k n) = Unit-prop
  short_prop (TextValue STRING t) = Unit-prop
  short_prop (TextValue OBJECT_PATH t) = Unit-prop
  short_prop (TextValue SIGNATURE t) = le_prop
  short_prop (VariantValue x) = ×_prop le_prop (short_prop x)
  short_prop (ArrayValue t xs) = shorts_prop xs
  short_prop (StructValue xs) = shorts_prop xs
  short_prop (EntryValue k v) = ×_prop (short_prop k) (short_prop v)

  pub shorts_prop : (vs : ValueTrees) → IsProp (HaveShortSignatures vs)
  shorts_prop NoValues = Unit-prop
  shorts_prop (MoreValues x xs) = ×_prop (short_prop x) (shorts_prop xs)

pub short_all : (room : ℕ) (vs : ValueTrees) → AreWellFormed room vs → HaveShortSignatures vs
short_all room vs h = all_short room vs h

-- the fields' structs too
pub short_fields : (room : ℕ) (fs : List FieldTree) → IsWellFormed (suc room) (field_array fs) → HaveShortSignatures (value_trees (map field_struct fs))
short_fields room fs h = all_short room (value_trees (map field_struct fs)) h.1
