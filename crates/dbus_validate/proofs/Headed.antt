-- What stands before a body, and the body: of what bytes begin with, by what is validated.
use Rattle.std.proofs.Common.{Option, Some, None, Ok, ◌≡◌, ℕ, ◌+◌, ◌≤◌, List, [], ◌++◌, length, take, take_all, drop, sym, ap, subst, ◌∙◌, arith, ◌<◌, get_or, refl}
use Rattle.std.proofs.lemmas.List.{append-nil, length-append, length-take-le, take-append-drop}
use Rattle.dbus_value_model.specs.declared.limits.Limits.{Limits}
use Rattle.dbus_value_model.specs.declared.order.Order.{Order}
use Rattle.dbus_value_model.proofs.Numbers.{length-num}
use Rattle.dbus_message_model.specs.Messages.{MessageTree, message_bytes, FieldTree, body_signature, body_fds}
use Rattle.dbus_header.specs.MessageOutcomes.{IsWhole}
use Rattle.dbus_header.specs.StatedLengths.{StatesLength, Stated}
use Rattle.dbus_header.proofs.Whole.{fixed_bytes, fixed_to}
use Rattle.dbus_header.proofs.OutcomeLaws.{valid_whole, whole_bytes, whole_for_good, whole_inside, whole_valid, whole_reads}
use Rattle.dbus_header.proofs.StatedLengths.{stated_holds, header_states}
use Rattle.dbus_texts.specs.Kinds.{IsKind}
use Rattle.dbus_texts.specs.ComputedKinds.{types_spelled}
use Rattle.dbus_texts.specs.declared.text_kind.TextKind.TheVariants.{Signature}
use Rattle.dbus_value_model.specs.Bytes.{gap_to}
use Rattle.dbus_value_model.specs.Reading.{Outcome, Done, after}
use Rattle.dbus_value_model.specs.Values.{ValueTrees}
use Rattle.dbus_value_laws.proofs.Agreement.{after_done}
use Rattle.dbus_value_laws.proofs.ReadSteps.{bytes_from}
use Rattle.dbus_header.specs.declared.fixed_header.FixedHeader.{FixedHeader}
use Rattle.dbus_header.specs.HeaderReading.{body_read, message_read}
use Rattle.dbus_header.proofs.Decoded.{whole_read}
use Rattle.dbus_value_validator.specs.Endings.{EndsAt, IsNotRead}
use Rattle.dbus_header.specs.NoMessage.{BeginsWithNone}
use Rattle.dbus_validate.specs.declared.validating.Validated.{Validated}
use Rattle.dbus_validate.specs.Seen.{AreNoted}
use Rattle.dbus_validate.specs.Validating.{IsValidated, IsValidatedWhole, IsHeaded, validated_of}
use Rattle.dbus_validate.proofs.BodySteps.{body_there}
use Rattle.dbus_validate.specs.declared.validating.Head.{Head}
use Rattle.dbus_validate.specs.declared.seen.FieldPlaces.{FieldPlaces}
use Rattle.dbus_validate.proofs.WholeRefusals.{no_body}
use Rattle.dbus_validate.proofs.WholeSteps.{signed, made, whole, is_validated}

-- The message that bytes begin with, taken by itself, and the sixteen bytes that state its length.

-- bytes that state a length are sixteen at least
pub sixteen_there : (limits : Limits) (b : List ℕ) (n : ℕ) → StatesLength limits b n → 16 ≤ length b
unfolding StatesLength
sixteen_there limits b n states =
    let there = (fixed_to limits b states.0 16 states.1 states.2).1 in
    let all : length (fixed_bytes states.0 states.1) ≡ 16 + length states.1 = simp (length-append, length-num) (omega arith) in
    omega (arith, ap length there, all)

-- where a length was looked for and more bytes are wanted, the bytes state none
pub none_stated : (limits : Limits) (b : List ℕ) (found : Option ℕ) → found ≡ None → Stated limits b (Ok found) → (n : ℕ) → StatesLength limits b n → ⊥
none_stated limits b None is stated n states = let there = sixteen_there limits b n states in absurd (omega (arith, there, stated.0))
none_stated limits b (Some k) is stated n states = absurd cc

module _ (limits : Limits) (b : List ℕ) (order : Order) (m : MessageTree) where
  -- it is whole there too
  pub alone : (n : ℕ) → IsWhole limits b order m n → IsWhole limits (take n b) order m n
  alone n w =
      let parts = whole_bytes limits b order m n w in
      let by_itself : IsWhole limits (message_bytes order m ++ []) order m (length (message_bytes order m)) = valid_whole limits order m [] (whole_valid limits b order m n w) in
      let long : IsWhole limits (message_bytes order m ++ []) order m n = subst (λ (k : ℕ). IsWhole limits (message_bytes order m ++ []) order m k) (sym parts.1) by_itself in
      subst (λ (t : List ℕ). IsWhole limits t order m n) (append-nil (message_bytes order m) ∙ sym parts.0) long

  -- and what is whole there is so with what follows
  pub followed : (n k : ℕ) → IsWhole limits (take n b) order m k → IsWhole limits b order m k
  followed n k w = subst (λ (t : List ℕ). IsWhole limits t order m k) (take-append-drop n b) (whole_for_good limits (take n b) (drop n b) order m k w)

  -- it has the length that the bytes state
  pub has_stated : (n k : ℕ) → StatesLength limits b n → IsWhole limits b order m k → (k ≡ n) × (n ≤ length b)
  has_stated n k states w =
      let held = stated_holds limits b [] order m n k states (subst (λ (t : List ℕ). IsWhole limits t order m k) (sym (append-nil b)) w) in
      (held.0, subst (λ (t : List ℕ). n ≤ length t) (append-nil b) held.1)

-- what is said of bytes that begin with a message is said of the message by itself
pub own_validated : (limits : Limits) (b : List ℕ) (j : Validated) → IsValidated limits b j → IsValidatedWhole limits (take j.length b) j
own_validated limits b j is =
    let own = take j.length b in
    let fits : length own ≡ j.length = length-take-le j.length b (whole_inside limits b j.order is.message j.length is.whole).1 in
    let same : take j.length own ≡ own = take_all j.length own (omega (arith, fits)) in
    record {
      validated = record {
        message = is.message;
        whole = alone limits b j.order is.message j.length is.whole;
        parts = is.parts;
        fields = subst (λ (l : List ℕ). AreNoted is.message.fields l j.fields) (sym same) is.fields;
        places = is.places;
        body = (is.body.0, body_there j.order is.message limits own j.length j.body (alone limits b j.order is.message j.length is.whole) is.body.0);
      };
      all = sym fits;
    }

module _ (limits : Limits) (bytes : List ℕ) (are : (i : ℕ) → get_or bytes i 0 < 256) (x : Head) (seen : FieldPlaces) (p : IsHeaded limits bytes x seen) where
  abbrev h : FixedHeader
  h = x.header

  abbrev fs : List FieldTree
  fs = p.fields

  pub types_signed : IsKind Signature (body_signature fs)
  types_signed = signed limits bytes are h p.opened fs p.fielded

  -- the message with this body
  abbrev with_body : ValueTrees → MessageTree
  with_body vs = made limits bytes are h p.opened fs p.fielded p.headed p.lacks_none x.start p.padded vs

  validated_with : (vs : ValueTrees) → IsWhole limits bytes h.order (with_body vs) (x.start + h.body) → IsValidated limits bytes (validated_of x seen)
  validated_with vs w =
      subst (λ (n : ℕ). IsValidated limits bytes (record { length = n; order = h.order; kind = h.kind; flags = h.flags; serial = h.serial; fields = seen; body = x.start })) (sym p.ends)
      (is_validated limits bytes are h p.opened fs p.fielded p.headed p.lacks_none x.start p.padded vs w seen (subst (λ (n : ℕ). AreNoted fs (take n bytes) seen) p.ends p.noted) p.placed p.begins)

  abbrev body : (end : ℕ) → Outcome ValueTrees
  body end = body_read limits (body_fds limits fs) h.order (types_spelled (body_signature fs)) end x.start (drop x.start bytes)

  pub body_validated : EndsAt bytes x.end (body x.end) → IsValidated limits bytes (validated_of x seen)
  body_validated e = validated_with e.0 (whole limits bytes are h p.opened fs p.fielded p.headed p.lacks_none x.start p.padded e.0 (subst (λ (k : ℕ). body k ≡ Done e.0 k (drop k bytes)) p.ends e.1))

  pub body_refused : IsNotRead (body x.end) → BeginsWithNone limits bytes
  body_refused u = no_body limits bytes (bytes_from bytes are) h p.headed fs p.fielded p.lacks_none x.start p.padded (subst (λ (k : ℕ). IsNotRead (body k)) p.ends u)

  -- ---- a message that is known

  read_on : message_read limits 0 bytes ≡ after (body (x.start + h.body)) (λ vs o s. Done (h.order, with_body vs) o s)
  unfolding message_read
  read_on = rw (p.headed, p.fielded, p.lacks_none, p.padded) refl

  pub known : (order : Order) (m : MessageTree) (n : ℕ) → IsWhole limits bytes order m n → IsValidated limits bytes (validated_of x seen) × (x.end ≡ n)
  known order m n w =
      let long : n ≡ x.start + h.body = (has_stated limits bytes order m (16 + h.fields + gap_to 8 (16 + h.fields) + h.body) n (header_states limits bytes (bytes_from bytes are) h 16 (drop 16 bytes) p.headed) w).0 ∙ omega (arith, p.begins) in
      let r = whole_reads limits bytes order m n w in
      let found = after_done (body (x.start + h.body)) (λ vs o s. Done (h.order, with_body vs) o s) (order, m) n r.0 (sym read_on ∙ r.1) in
      let pair : (h.order, with_body found.0) ≡ (order, m) = let e = found.4 in cc in
      let is = whole_read limits bytes (bytes_from bytes are) h.order (with_body found.0) n r.0 (r.1 ∙ ap (λ (y : Order × MessageTree). Done y n r.0) (sym pair)) in
      (validated_with found.0 (subst (λ (k : ℕ). IsWhole limits bytes h.order (with_body found.0) k) long is), p.ends ∙ sym long)
