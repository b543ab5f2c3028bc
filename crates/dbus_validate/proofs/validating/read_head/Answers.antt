use Rattle.std.proofs.Common.{◌≡◌, ℕ, refl, subst, ◌+◌, length, take, arith}
use Rattle.dbus_value_model.specs.Bytes.{gap_to}
use Rattle.dbus_header.specs.HeaderReading.{fixed_header}
use Rattle.dbus_value_laws.proofs.ReadSteps.{bytes_from}
use Rattle.dbus_validate.specs.Seen.{AreNoted}
use Rattle.dbus_validate.proofs.SeenSteps.{noted_of_more}
use Rattle.dbus_validate.proofs.WholeRefusals.{stops_unread, no_header, too_short, no_fields, some_lacks, no_padding}
use Rattle.dbus_validate.proofs.WholeSteps.{padded_to}
use Rattle.dbus_validate.proofs.validating.read_head.Goals as goal

pub returns-clause-headed : goal.returns-clause-headed
returns-clause-headed c =
    let h = c.in-Ok.header in
    let b = c.args.bytes.now in
    let start = c.in_ok-start.start in
    let seen = c.validate_fields.ensures.accepts c.if-not-validate_fields.false in
    let size : 16 + h.fields + (gap_to 8 (16 + h.fields) + h.body) ≡ start + h.body = omega (arith, c.in_ok-start.ensures.moves.0) in
    record {
      fields = seen.0;
      opened = c.in-Ok.ensures.there.0;
      headed = c.in-Ok.ensures.gives;
      fielded = seen.1;
      lacks_none = c.has_required.ensures.accepts (take (16 + h.fields) b) seen.0 seen.2 c.if-not-has_required.false;
      padded = padded_to (length b) (16 + h.fields) start b c.in_ok-start.ensures.moves.0 c.in_ok-start.ensures.moves.1 c.in_ok-start.ensures.gives;
      begins = c.in_ok-start.ensures.moves.0;
      ends = refl;
      inside = omega (arith, c.if-bytes-start.false, c.in_ok-start.ensures.moves);
      noted = subst (λ (n : ℕ). AreNoted seen.0 (take n b) c.validate_fields.new.seen) size (noted_of_more seen.0 (16 + h.fields) (gap_to 8 (16 + h.fields) + h.body) b c.validate_fields.new.seen seen.2);
      placed = seen.3;
    }

pub returns-in-Err-clause-none : goal.returns-in-Err-clause-none
returns-in-Err-clause-none c = λ none. no_header c.args.limits c.args.bytes.now (bytes_from c.args.bytes.now (λ i. omega (arith, c.type_inv.bytes i))) (stops_unread c.in-Err.field-0 (fixed_header c.args.limits 0 c.args.bytes.now) c.in-Err.ensures.gives)

pub returns-then-bytes-n-clause-none : goal.returns-then-bytes-n-clause-none
returns-then-bytes-n-clause-none c = λ none. too_short c.args.limits c.args.bytes.now (bytes_from c.args.bytes.now (λ i. omega (arith, c.type_inv.bytes i))) c.in-Ok.header c.in-Ok.ensures.gives (omega (arith, c.if-bytes-n.true, c.in-Ok.ensures.there))

pub returns-then-not-validate_fields-clause-none : goal.returns-then-not-validate_fields-clause-none
returns-then-not-validate_fields-clause-none c = λ none. no_fields c.args.limits c.args.bytes.now (bytes_from c.args.bytes.now (λ i. omega (arith, c.type_inv.bytes i))) c.in-Ok.header c.in-Ok.ensures.gives (c.validate_fields.ensures.refuses c.if-not-validate_fields.true)

pub returns-then-not-has_required-clause-none : goal.returns-then-not-has_required-clause-none
returns-then-not-has_required-clause-none c = λ none.
    some_lacks c.args.limits c.args.bytes.now (bytes_from c.args.bytes.now (λ i. omega (arith, c.type_inv.bytes i))) c.in-Ok.header c.in-Ok.ensures.gives (c.validate_fields.ensures.accepts c.if-not-validate_fields.false).0 (c.validate_fields.ensures.accepts c.if-not-validate_fields.false).1
    (c.has_required.ensures.refuses (take (16 + c.in-Ok.header.fields) c.args.bytes.now) (c.validate_fields.ensures.accepts c.if-not-validate_fields.false).0 (c.validate_fields.ensures.accepts c.if-not-validate_fields.false).2 c.if-not-has_required.true)

pub returns-in_err-start-clause-none : goal.returns-in_err-start-clause-none
returns-in_err-start-clause-none c = λ none.
    no_padding c.args.limits c.args.bytes.now (bytes_from c.args.bytes.now (λ i. omega (arith, c.type_inv.bytes i))) c.in-Ok.header c.in-Ok.ensures.gives (c.validate_fields.ensures.accepts c.if-not-validate_fields.false).0 (c.validate_fields.ensures.accepts c.if-not-validate_fields.false).1
    (c.has_required.ensures.accepts (take (16 + c.in-Ok.header.fields) c.args.bytes.now) (c.validate_fields.ensures.accepts c.if-not-validate_fields.false).0 (c.validate_fields.ensures.accepts c.if-not-validate_fields.false).2 c.if-not-has_required.false) (c.padding.ensures.none c.in_err-start.was)

pub returns-then-bytes-start-clause-none : goal.returns-then-bytes-start-clause-none
returns-then-bytes-start-clause-none c = λ none. too_short c.args.limits c.args.bytes.now (bytes_from c.args.bytes.now (λ i. omega (arith, c.type_inv.bytes i))) c.in-Ok.header c.in-Ok.ensures.gives (omega (arith, c.if-bytes-start.true, c.in_ok-start.ensures.moves))
