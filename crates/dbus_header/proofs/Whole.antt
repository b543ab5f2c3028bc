-- What the items of a message pass, from the first byte on, is a message that is spelled.
use Rattle.std.proofs.Common.{◌≡◌, ℕ, zero, suc, ◌+◌, ◌-◌, ◌^◌, ◌<◌, ◌≤◌, ◌↔◌, List, [], ◌∷◌, ◌++◌, length, map, None, refl, sym, ap, subst, ◌∙◌, arith, append_assoc, get_or, drop, Some, Result}
use Rattle.std.specs.Result.{IsErrAnd}
use Rattle.std.proofs.lemmas.Result.{err_from_is_err_and}
use Rattle.std.proofs.lemmas.Bool.{eq-eqb, ne_eqb, lt-ltb, le-ltb}
use Rattle.dbus_texts.specs.Types.{TypeTrees, sigs, AreShaped}
use Rattle.dbus_texts.specs.ComputedKinds.{types_spelled}
use Rattle.dbus_value_model.specs.declared.limits.Limits.{Limits}
use Rattle.dbus_value_model.specs.declared.limits.Bounds.{Bounds}
use Rattle.dbus_value_model.specs.Bounds.{bounds_of, bounds_with}
use Rattle.dbus_value_model.specs.declared.order.Order.{Order}
use Rattle.dbus_value_model.specs.Bytes.{num, gap_to, pad}
use Rattle.dbus_value_model.specs.Spelling.{spelling, IsWithinLimits, AreWithinLimits}
use Rattle.dbus_value_model.specs.Outcomes.{SpelledAll}
use Rattle.dbus_value_model.specs.Values.{AllOf, value_trees, ValueTrees, types_of, IsWellFormed}
use Rattle.dbus_value_model.specs.Items.{Sequence, fault}
use Rattle.dbus_value_model.specs.ValueItems.{value}
use Rattle.dbus_message_model.specs.Messages.{FieldTree, MessageTree, AreFields, field_type, field_struct, field_array, fields_end, body_start, body_bytes, message_bytes, order_byte, lacks, required, body_signature, body_fds, IsMessage}
use Rattle.dbus_value_model.proofs.Indexes.{any_all_below}
use Rattle.dbus_value_laws.proofs.KindLaws.{signature_text, spelled_sigs}
use Rattle.dbus_value_model.proofs.Periods.{gap_below}
use Rattle.dbus_value_laws.proofs.Composition.{all_none, all_more, all_parts, fields_to, fields_from}
use Rattle.dbus_value_laws.proofs.ValueItemLaws.{value_inside}
use Rattle.dbus_message_model.proofs.BothOrders.{field_bytes, field_array_bytes, fields_end_is, body_length, message_length}
use Rattle.dbus_value_model.specs.declared.fault.Reason.TheVariants as reasons
use Rattle.dbus_value_model.specs.declared.order.Order.TheVariants.{Little, Big}
use Rattle.dbus_value_model.specs.declared.fault.Reason.{Reason}
use Rattle.dbus_value_model.specs.Reading.{Outcome, Done, Faulty, Partial}
use Rattle.dbus_value_model.specs.declared.stop.Stop.{Stop}
use Rattle.dbus_value_model.specs.ValueReaders.{Stops, Gives}
use Rattle.dbus_header.specs.MessageItems.{field, fixed_items, message_items, not_zero_row, version_row, fields_row}
use Rattle.dbus_header.specs.StatedLengths.{length_by}
use Rattle.dbus_header.specs.declared.fixed_header.FixedHeader.{FixedHeader}
use Rattle.dbus_header.proofs.Fields.{not_zero_fits, fits_not_zero, open_to, opens}
use Rattle.dbus_header.proofs.MessageParts.{validate_passed, passes_validate, version_fits, fields_row_fits, fits_fields_row, field_signature}
use Rattle.dbus_header.specs.HeaderReading.{byte_order}

-- ---- the field array

field_array_within : (array : ℕ) (order : Order) (fs : List FieldTree) → length (field_bytes order fs) ≤ array → AreWithinLimits array order 16 (value_trees (map field_struct fs)) → IsWithinLimits array order 12 (field_array fs)
unfolding gap_to
field_array_within array order fs a b = (a, b)

within_field_array : (array : ℕ) (order : Order) (fs : List FieldTree) → IsWithinLimits array order 12 (field_array fs) → (length (field_bytes order fs) ≤ array) × AreWithinLimits array order 16 (value_trees (map field_struct fs))
unfolding gap_to
within_field_array array order fs h = h

module _ (bounds : Bounds) (order : Order) (depth_left end : ℕ) where
  seq_fields_to : (fs before : List FieldTree) (o : ℕ) (s : List ℕ) (q : ℕ) (r : List ℕ) → Sequence (field bounds order depth_left end) before fs o s q r
      → AreFields before fs × AllOf field_type (value_trees (map field_struct fs)) × SpelledAll bounds order depth_left o s (value_trees (map field_struct fs)) q r
  seq_fields_to [] before o s q r h = (tt, tt, rw (h.0, h.1) (all_none bounds order depth_left o s))
  seq_fields_to (f ∷ fs) before o s q r h =
      let more = seq_fields_to fs (f ∷ before) h.0 h.1 q r h.3 in
      ((h.2.1, more.0), (h.2.0.has_type, more.1), all_more bounds order depth_left end field_type o s (field_struct f) h.0 h.1 (value_trees (map field_struct fs)) q r h.2.0 more.2)

  seq_fields_from : (fs before : List FieldTree) (o : ℕ) (s : List ℕ) (q : ℕ) (r : List ℕ) → q ≤ end → AreFields before fs → SpelledAll bounds order depth_left o s (value_trees (map field_struct fs)) q r → Sequence (field bounds order depth_left end) before fs o s q r
  unfolding spelling
  seq_fields_from [] before o s q r bound ok h = (omega (arith, h.place), sym h.bytes)
  seq_fields_from (f ∷ fs) before o s q r bound ok h =
      let parts = all_parts bounds order depth_left end o s (field_struct f) (value_trees (map field_struct fs)) q r bound h in
      (parts.0, parts.1, (parts.2, ok.0), seq_fields_from fs (f ∷ before) parts.0 parts.1 q r bound ok.1 parts.3)

-- ---- the fixed header

-- its bytes, and those after it
abbrev pub fixed_bytes : FixedHeader → List ℕ → List ℕ
fixed_bytes h r =
    order_byte h.order ∷ (num h.order 1 h.kind ++ (num h.order 1 h.flags ++ (num h.order 1 1 ++ (num h.order 4 h.body ++ (num h.order 4 h.serial ++ (num h.order 4 h.fields ++ r))))))

pub record IsFixed (limits : Limits) (h : FixedHeader) : Type 0 where
  pub kind : 0 < h.kind
  pub kind_fits : h.kind < 256
  pub flags : h.flags < 256
  pub body : h.body < 256 ^ 4
  pub serial : 0 < h.serial
  pub serial_fits : h.serial < 256 ^ 4
  pub deep : limits.depth ≡ suc (limits.depth - 1)
  pub fields : h.fields ≤ limits.array
  pub limit : length_by h ≤ limits.message

pub fixed_to : (limits : Limits) (s : List ℕ) (h : FixedHeader) (q : ℕ) (r : List ℕ) → (fixed_items limits).Passed 0 s h q r → IsFixed limits h × (s ≡ fixed_bytes h r) × (q ≡ 16)
fixed_to limits s h q r w =
    let kind = w.4 in
    let flags = kind.4 in
    let version = flags.4 in
    let body = version.4 in
    let serial = body.4 in
    let opened = serial.4 in
    let n = opened.4 in
    let is_open = open_to limits.depth serial.1 serial.2 opened.0 opened.1 opened.2 opened.3 in
    let one : version.0 ≡ 1 = version_fits version.1 version.0 version.3.4 in
    let at : n.1 ≡ 16 = omega (arith, w.3.1, kind.3.2, flags.3.2, version.3.2, body.3.2, serial.3.2, is_open.1, n.3.2) in
    let rows = fields_row_fits limits body.0 n.1 n.0 n.3.4 in
    let fits = rw at at rows.1 in
    rw (n.4.0, n.4.1, n.4.2) (
      record {
        kind = not_zero_fits reasons.Kind kind.1 kind.0 kind.3.4;
        kind_fits = kind.3.0;
        flags = flags.3.0;
        body = body.3.0;
        serial = not_zero_fits reasons.ZeroSerial serial.1 serial.0 serial.3.4;
        serial_fits = serial.3.0;
        deep = omega (arith, is_open.0);
        fields = rows.0;
        limit = fits;
      },
      rw (w.3.0, kind.3.1, flags.3.1, version.3.1, one, body.3.1, serial.3.1, ← is_open.2, n.3.1) refl,
      at,
    )

fixed_from : (limits : Limits) (h : FixedHeader) (r : List ℕ) → IsFixed limits h → (fixed_items limits).Passed 0 (fixed_bytes h r) h 16 r
fixed_from limits h r is =
    let s6 = num h.order 4 h.fields ++ r in
    let s5 = num h.order 4 h.serial ++ s6 in
    let s4 = num h.order 4 h.body ++ s5 in
    let s3 = num h.order 1 1 ++ s4 in
    let s2 = num h.order 1 h.flags ++ s3 in (
      h.order,
      1,
      num h.order 1 h.kind ++ s2,
      (refl, refl),
      (
        h.kind,
        2,
        s2,
        (is.kind_fits, refl, refl, omega arith, fits_not_zero reasons.Kind 2 h.kind is.kind),
        (
          h.flags,
          3,
          s3,
          (is.flags, refl, refl, omega arith, refl),
          (
            1,
            4,
            s4,
            (omega arith, refl, refl, omega arith, refl),
            (
              h.body,
              8,
              s5,
              (is.body, refl, refl, omega arith, refl),
              (
                h.serial,
                12,
                s6,
                (is.serial_fits, refl, refl, omega arith, fits_not_zero reasons.ZeroSerial 12 h.serial is.serial),
                (limits.depth - 1, 12, s6, opens limits.depth (limits.depth - 1) 12 s6 is.deep, (h.fields, 16, r, (omega (arith, is.fields, limits.array_in), refl, refl, omega arith, fits_fields_row limits h.body 16 h.fields is.fields is.limit), (refl, refl, refl))),
              ),
            ),
          ),
        ),
      ),
    )

-- ---- the parts of a message, put together

-- the fixed header of a message
abbrev pub header_of : Order → MessageTree → FixedHeader
header_of order m = record { order = order; kind = m.kind; flags = m.flags; body = body_length order m; serial = m.serial; fields = length (field_bytes order m.fields) }

-- what stands after it
abbrev pub after_fixed : Order → MessageTree → List ℕ → List ℕ
after_fixed order m r = field_bytes order m.fields ++ (pad 8 (fields_end order m.fields) ++ (body_bytes order m ++ r))

regrouped : (x : ℕ) (a b c d e f g k h i r : List ℕ) → f ≡ g ++ k → (x ∷ (a ++ (b ++ (c ++ (d ++ (e ++ (f ++ (h ++ i)))))))) ++ r ≡ x ∷ (a ++ (b ++ (c ++ (d ++ (e ++ (g ++ (k ++ (h ++ (i ++ r)))))))))
regrouped x a b c d e f g k h i r is = ap (λ (u : List ℕ). x ∷ u) (simp (is, append_assoc))

-- the bytes, one part after another
message_parts : (order : Order) (m : MessageTree) (r : List ℕ) → message_bytes order m ++ r ≡ fixed_bytes (header_of order m) (after_fixed order m r)
message_parts order m r =
    regrouped (order_byte order) (num order 1 m.kind) (num order 1 m.flags) (num order 1 1) (num order 4 (body_length order m)) (num order 4 m.serial) (spelling order 12 (field_array m.fields)) (num order 4 (length (field_bytes order m.fields))) (field_bytes order m.fields)
    (pad 8 (fields_end order m.fields)) (body_bytes order m) r (field_array_bytes order m.fields)

pub header_length : (order : Order) (m : MessageTree) → length_by (header_of order m) ≡ length (message_bytes order m)
header_length order m =
    let start : body_start order m.fields ≡ 16 + length (field_bytes order m.fields) + gap_to 8 (16 + length (field_bytes order m.fields)) = ap (λ (u : ℕ). u + gap_to 8 u) (fields_end_is order m.fields) in
    omega (arith, message_length order m, start)

-- a message and the bytes after it
abbrev IsFront : Limits → List ℕ → Order × MessageTree → ℕ → List ℕ → Type 0
IsFront limits s y q r = IsMessage limits y.0 y.1 × (s ≡ message_bytes y.0 y.1 ++ r) × (q ≡ length (message_bytes y.0 y.1))

-- the message, from its parts as they were passed
built : (limits : Limits) (h : FixedHeader) (p : ℕ) (fs : List FieldTree) (ts : TypeTrees) (xs : ValueTrees) (s t u v r : List ℕ) (q : ℕ) → IsFixed limits h → s ≡ fixed_bytes h t
    → AreFields [] fs → AllOf field_type (value_trees (map field_struct fs)) → SpelledAll (bounds_of limits) h.order (limits.depth - 1) 16 t (value_trees (map field_struct fs)) (16 + h.fields) u
    → lacks (required h.kind) fs ≡ None → u ≡ pad 8 (16 + h.fields) ++ v → p ≡ 16 + h.fields + gap_to 8 (16 + h.fields)
    → sigs ts ≡ body_signature fs → types_of xs ≡ ts → SpelledAll (bounds_with limits (body_fds limits fs)) h.order limits.depth p v xs q r → q ≡ p + h.body
    → IsFront limits s (h.order, record { kind = h.kind; flags = h.flags; serial = h.serial; fields = fs; body = xs }) q r
built limits h p fs ts xs s t u v r q is there fields types all none padded start sigs_are typed body_all ends =
    let m : MessageTree = record { kind = h.kind; flags = h.flags; serial = h.serial; fields = fs; body = xs } in
    let len : h.fields ≡ length (field_bytes h.order fs) = omega (arith, all.place) in
    let fields_stop : 16 + h.fields ≡ fields_end h.order fs = omega (arith, len, fields_end_is h.order fs) in
    let begins : p ≡ body_start h.order fs = start ∙ ap (λ (n : ℕ). n + gap_to 8 n) fields_stop in
    let spelled = subst (λ (n : ℕ). SpelledAll (bounds_with limits (body_fds limits fs)) h.order limits.depth n v xs q r) begins body_all in
    let body_len : h.body ≡ body_length h.order m = omega (arith, spelled.place, ends, begins) in
    let padded' : u ≡ pad 8 (fields_end h.order fs) ++ v = rw fields_stop at padded in (
      record {
        kind = is.kind;
        kind_fits = is.kind_fits;
        flags = is.flags;
        serial = is.serial;
        serial_fits = is.serial_fits;
        fields = fields;
        formed_fields = subst (λ (n : ℕ). IsWellFormed n (field_array fs)) (sym is.deep) (types, all.formed);
        within_fields = field_array_within limits.array h.order fs (omega (arith, len, is.fields)) all.within;
        required_codes = none;
        signature = ap sigs typed ∙ sigs_are;
        formed_body = spelled.formed;
        within_body = spelled.within;
        limit = omega (arith, message_length h.order m, is.limit, start, begins, body_len);
        indexes = spelled.indexes;
      },
      there ∙ rw (len, body_len, all.bytes, padded', spelled.bytes) refl ∙ sym (message_parts h.order m r),
      omega (arith, message_length h.order m, spelled.place),
    )

-- the message, from what the items passed
message_to : (limits : Limits) (s : List ℕ) (y : Order × MessageTree) (q : ℕ) (r : List ℕ) → (message_items limits).Passed 0 s y q r → IsFront limits s y q r
message_to limits s y q r w =
    let h = w.0 in
    let a = w.4 in
    let fs = a.0 in
    let checked = a.4 in
    let padded = checked.4 in
    let types = padded.4 in
    let body = types.4 in
    let b = body.3 in
    let bounds = bounds_with limits (body_fds limits fs) in
    let fixed = fixed_to limits s h w.1 w.2 w.3 in
    let seq = seq_fields_to (bounds_of limits) h.order (limits.depth - 1) (w.1 + h.fields) fs [] w.1 w.2 a.1 a.2 a.3.0 in
    let at_end : a.1 ≡ 16 + h.fields = omega (arith, a.3.1, fixed.2) in
    let none = validate_passed (lacks (required h.kind) fs) a.1 a.2 checked.0 checked.1 checked.2 checked.3 in
    let typed = fields_to bounds h.order limits.depth (value bounds h.order limits.depth) (value_inside bounds h.order limits.depth) (types.1 + h.body) types.0 types.1 types.2 b.0 b.1 b.2 b.3 in
    let one =
    built limits h padded.1 fs types.0 b.0 s w.2 a.2 padded.2 b.2 b.1 fixed.0 fixed.1 seq.0 seq.1 (rw (fixed.2, at_end) at seq.2) none.0
    (rw (none.2, none.1, at_end) at padded.3.0) (rw (none.1, at_end) at padded.3.1) types.3.0 typed.0 (rw (types.3.2, types.3.3) at typed.1) (b.4.3.0 ∙ ap (λ (n : ℕ). n + h.body) types.3.2) in
    rw (body.4.0, body.4.1 ∙ b.4.4.1 ∙ b.4.3.1, body.4.2 ∙ b.4.4.2 ∙ b.4.3.2, b.4.4.0) one

some_room : (depth : ℕ) (fs : List FieldTree) → IsWellFormed depth (field_array fs) → depth ≡ suc (depth - 1)
some_room zero fs h = absurd h
some_room (suc depth_left) fs h = omega arith

-- the fixed header of a message that bytes begin with
pub fixed_of : (limits : Limits) (order : Order) (m : MessageTree) → IsMessage limits order m → IsFixed limits (header_of order m)
fixed_of limits order m h =
    let long = header_length order m in
    let within = within_field_array limits.array order m.fields h.within_fields in
    let fits = h.limit in
    let few = limits.message_in in
    record {
      kind = h.kind;
      kind_fits = h.kind_fits;
      flags = h.flags;
      body = omega arith;
      serial = h.serial;
      serial_fits = h.serial_fits;
      deep = some_room limits.depth m.fields h.formed_fields;
      fields = within.0;
      limit = omega arith;
    }

pub fixed_passed : (limits : Limits) (order : Order) (m : MessageTree) (r : List ℕ) → IsMessage limits order m → (fixed_items limits).Passed 0 (message_bytes order m ++ r) (header_of order m) 16 (after_fixed order m r)
fixed_passed limits order m r h = subst (λ (s : List ℕ). (fixed_items limits).Passed 0 s (header_of order m) 16 (after_fixed order m r)) (sym (message_parts order m r)) (fixed_from limits (header_of order m) (after_fixed order m r) (fixed_of limits order m h))

message_from : (limits : Limits) (s : List ℕ) (order : Order) (m : MessageTree) (q : ℕ) (r : List ℕ) → IsFront limits s (order, m) q r → (message_items limits).Passed 0 s (order, m) q r
message_from limits s order m q r h =
    let ok = h.0 in
    let n = length (field_bytes order m.fields) in
    let bounds = bounds_with limits (body_fds limits m.fields) in
    let deep = some_room limits.depth m.fields ok.formed_fields in
    let formed = subst (λ (u : ℕ). IsWellFormed u (field_array m.fields)) deep ok.formed_fields in
    let tail = body_bytes order m ++ r in
    let rest = pad 8 (fields_end order m.fields) ++ tail in
    let at = 16 + n + gap_to 8 (16 + n) in
    let stop = at + body_length order m in
    let ends : fields_end order m.fields ≡ 16 + n = fields_end_is order m.fields in
    let start : body_start order m.fields ≡ at = ap (λ (u : ℕ). u + gap_to 8 u) ends in
    let last : q ≡ stop = omega (arith, h.2, header_length order m) in
    let small = gap_below 8 (16 + n) (omega arith) in
    let seq = seq_fields_from (bounds_of limits) order (limits.depth - 1) (16 + n) m.fields [] 16 (field_bytes order m.fields ++ rest) (16 + n) rest (omega arith) ok.fields
    (record { formed = formed.1; within = (within_field_array limits.array order m.fields ok.within_fields).1; indexes = any_all_below (value_trees (map field_struct m.fields)); bytes = refl; place = refl }) in
    let spells = signature_text (body_signature m.fields) (field_signature (bounds_of limits) order (limits.depth - 1) (16 + n) m.fields [] 16 (field_bytes order m.fields ++ rest) (16 + n) rest seq) in
    let types : types_spelled (body_signature m.fields) ≡ types_of m.body = ap types_spelled (sym ok.signature) ∙ spelled_sigs (types_of m.body) in
    let spelled : SpelledAll bounds order limits.depth (body_start order m.fields) tail m.body (body_start order m.fields + body_length order m) r =
    record { formed = ok.formed_body; within = ok.within_body; indexes = ok.indexes; bytes = refl; place = refl } in
    let typed = fields_from bounds order limits.depth (value bounds order limits.depth) (value_inside bounds order limits.depth) stop m.body at tail stop r (omega arith)
    (subst (λ (u : ℕ). SpelledAll bounds order limits.depth u tail m.body (u + body_length order m) r) start spelled) in
    rw (last, h.1) (
      header_of order m,
      16,
      field_bytes order m.fields ++ rest,
      fixed_passed limits order m r ok,
      (
        m.fields,
        16 + n,
        rest,
        (seq, refl),
        (
          tt,
          16 + n,
          rest,
          passes_validate (lacks (required m.kind) m.fields) (16 + n) rest ok.required_codes,
          (
            tt,
            at,
            tail,
            (ap (λ (u : ℕ). pad 8 u ++ tail) ends, refl, omega arith),
            (
              types_of m.body,
              at,
              tail,
              (ok.signature, subst AreShaped types spells.0, refl, refl),
              (m.body, stop, r, (m.body, stop, r, typed, (tt, stop, r, (refl, refl, refl), (refl, refl, refl))), (refl, refl, refl)),
            ),
          ),
        ),
      ),
    )

-- what the items pass from the first byte on is a message, whole
pub message_passed : (limits : Limits) (s : List ℕ) (y : Order × MessageTree) (q : ℕ) (r : List ℕ) → (message_items limits).Passed 0 s y q r ↔ IsFront limits s y q r
message_passed limits s y q r = (message_to limits s y q r, message_from limits s y.0 y.1 q r)

-- Steps of reading the items that have fixed places, and of any reader's exits.

-- the exit of a `?`: what stopped the part stops the whole
pub exits : {X A : Type 0} (view : X → A × ℕ) (bytes : List ℕ) (result : Result X Stop) (e : Stop) (read : Outcome A) → IsErrAnd result (λ y. y ≡ e) → Stops e read → Gives view bytes result read
exits view bytes result e read h stopped = let p = err_from_is_err_and result h in rw (p.1, p.2) stopped

-- ---- the byte order

pub order_partial : (s : List ℕ) → length s ≡ 0 → byte_order 0 s ≡ Partial
unfolding byte_order
order_partial [] h = refl
order_partial (b ∷ s) h = absurd (omega arith)

pub order_done : (s : List ℕ) (order : Order) → 0 < length s → get_or s 0 0 ≡ order_byte order → byte_order 0 s ≡ Done order 1 (drop 1 s)
unfolding byte_order
order_done [] order h e = absurd (omega arith)
order_done (b ∷ s) Little h e = rw e refl
order_done (b ∷ s) Big h e = rw e refl

pub order_faulty : (s : List ℕ) → 0 < length s → ((order : Order) → get_or s 0 0 ≡ order_byte order → ⊥) → byte_order 0 s ≡ Faulty (fault 0 reasons.ByteOrder)
unfolding byte_order
order_faulty [] h none = absurd (omega arith)
order_faulty (b ∷ s) h none = rw (ne_eqb b 108 (none Little), ne_eqb b 66 (none Big)) refl

pub ruleset orders = (order_partial, order_done, order_faulty)

-- ---- rows

pub zero_row : (why : Reason) (p n : ℕ) → n ≡ 0 → not_zero_row why p n ≡ Some why
zero_row why p n h = rw (eq-eqb n 0 h) refl

pub some_row : (why : Reason) (p n : ℕ) → (n ≡ 0 → ⊥) → not_zero_row why p n ≡ None
some_row why p n h = rw (ne_eqb n 0 h) refl

pub other_version : (p n : ℕ) → (n ≡ 1 → ⊥) → version_row p n ≡ Some reasons.Version
other_version p n h = rw (ne_eqb n 1 h) refl

pub long_fields : (limits : Limits) (body p n : ℕ) → limits.array < n → fields_row limits body p n ≡ Some reasons.ArrayTooLong
long_fields limits body p n h = rw (lt-ltb _ _ h) refl

pub long_message : (limits : Limits) (body p n : ℕ) → n ≤ limits.array → limits.message < p + n + gap_to 8 (p + n) + body → fields_row limits body p n ≡ Some reasons.MessageTooLong
long_message limits body p n le h = rw (le-ltb _ _ le, lt-ltb _ _ h) refl
