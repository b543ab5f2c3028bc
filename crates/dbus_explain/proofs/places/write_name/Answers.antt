use Rattle.std.proofs.Common.{ℕ, ◌<◌, ◌≤◌, List, codes, ap, subst}
use Rattle.dbus_explain.specs.Names.{first, missing, field, padding, value, first_part, is_missing}
use Rattle.dbus_explain.proofs.ThreeLines.{other_reason}
use Rattle.dbus_explain.proofs.places.write_name.Goals as goal

pub returns-then-at-lt-FIELDS : goal.returns-then-at-lt-FIELDS
returns-then-at-lt-FIELDS g c = (first_part c.args.at, first c.if-at-lt-FIELDS.true, subst (λ (s : List ℕ). g.D.Draft.gains c.args.draft.now s c.push_str.new.self) c.first_part.ensures c.push_str.ensures)

pub returns-in-FieldMissing : goal.returns-in-FieldMissing
returns-in-FieldMissing g c = (codes "the end of the header fields", missing c.if-at-lt-FIELDS.false (ap is_missing c.in-FieldMissing.is), c.push_str-in-FieldMissing.ensures)

pub returns-then-at-fields_end : goal.returns-then-at-fields_end
returns-then-at-fields_end g c =
    let bytes = c.args.bytes.now in
    let fields = c.end_of_fields-fields_end.ensures.fields in
    let before = subst (λ (n : ℕ). c.args.at < n) fields c.if-at-fields_end.true in (
      c.write_field.ensures.0,
      field c.write_field.ensures.0 c.write_field.result c.if-at-lt-FIELDS.false (other_reason c.args.reason c.in_default.not-FieldMissing) before c.write_field.ensures.1,
      c.write_field.ensures.2,
    )

pub returns-then-at-body : goal.returns-then-at-body
returns-then-at-body g c =
    let bytes = c.args.bytes.now in
    let fields = c.end_of_fields-fields_end.ensures.fields in
    let body = c.body_begin-body.ensures in
    let behind = subst (λ (n : ℕ). n ≤ c.args.at) fields c.if-at-fields_end.false in
    let before = subst (λ (n : ℕ). c.args.at < n) body c.if-at-body.true in
    (codes "the padding after the header fields", padding c.if-at-lt-FIELDS.false (other_reason c.args.reason c.in_default.not-FieldMissing) behind before, c.push_str-then-at-body.ensures)

pub returns-else-at-body : goal.returns-else-at-body
returns-else-at-body g c =
    let bytes = c.args.bytes.now in
    let body = c.body_begin-body.ensures in
    let behind = subst (λ (n : ℕ). n ≤ c.args.at) body c.if-at-body.false in (
      c.write_value.ensures.0,
      value c.write_value.ensures.0 c.write_value.result c.if-at-lt-FIELDS.false (other_reason c.args.reason c.in_default.not-FieldMissing) behind c.write_value.ensures.1,
      c.write_value.ensures.2,
    )
