use Rattle.std.proofs.Common.{◌≡◌, ℕ, ◌<◌, ◌≤◌, Bool, false, refl, ap, sym, subst, ◌∙◌, arith}
use Rattle.dbus_explain.specs.Explained.{place_in}
use Rattle.dbus_explain.specs.Names.{in_none, in_one, missing_one, is_missing}
use Rattle.dbus_explain.specs.Places.{IsInField, fields_end}
use Rattle.dbus_explain.proofs.ThreeLines.{other_reason}
use Rattle.dbus_explain.proofs.places.field_of.Goals as goal

pub returns-in-FieldMissing : goal.returns-in-FieldMissing
returns-in-FieldMissing c = missing_one c.in-FieldMissing.code c.in-FieldMissing.is

pub returns-then-at-lt-FIELDS : goal.returns-then-at-lt-FIELDS
returns-then-at-lt-FIELDS c =
    let before = subst (λ (n : ℕ). n < 16) c.place_in-at.ensures c.if-at-lt-FIELDS.true in
    in_none (other_reason c.args.fault.reason c.in_default.not-FieldMissing) (λ begun within p code field. absurd (omega (arith, before, begun)))

pub returns-then-at-end_of_fields : goal.returns-then-at-end_of_fields
returns-then-at-end_of_fields c =
    let at = place_in c.args.bytes.now c.args.fault in
    let behind = subst (λ (n : ℕ). n ≤ at) c.end_of_fields.ensures.fields (subst (λ (n : ℕ). c.end_of_fields.result ≤ n) c.place_in-at.ensures c.if-at-end_of_fields.true) in
    in_none (other_reason c.args.fault.reason c.in_default.not-FieldMissing) (λ begun within p code field. absurd (omega (arith, behind, within)))

pub returns-in-Some : goal.returns-in-Some
returns-in-Some c =
    let bytes = c.args.bytes.now in
    let at = c.place_in-at.ensures in
    let begun = subst (λ (n : ℕ). 16 ≤ n) at c.if-at-lt-FIELDS.false in
    let within = subst (λ (n : ℕ). place_in bytes c.args.fault < n) c.end_of_fields.ensures.fields (subst (λ (n : ℕ). n < c.end_of_fields.result) at c.if-at-end_of_fields.false) in
    in_one c.in-Some.field-0-0 c.in-Some.code (other_reason c.args.fault.reason c.in_default.not-FieldMissing) begun within
    (subst (λ (n : ℕ). IsInField bytes n c.in-Some.field-0-0 c.in-Some.code) at c.in-Some.ensures.some)

pub returns-in-None : goal.returns-in-None
returns-in-None c =
    let bytes = c.args.bytes.now in
    in_none (other_reason c.args.fault.reason c.in_default.not-FieldMissing) (λ begun within p code field.
    c.field_at.ensures.none c.in-None.is p code (subst (λ (n : ℕ). IsInField bytes n p code) (sym c.place_in-at.ensures) field))
