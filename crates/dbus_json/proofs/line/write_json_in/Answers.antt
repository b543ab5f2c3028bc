use Rattle.std.proofs.Common.{ℕ, List, [], ◌∷◌, ◌++◌, length, codes, decimal, refl, subst, not, eqb}
use Rattle.dbus_message_model.specs.Messages.{message_bytes}
use Rattle.dbus_header.proofs.OutcomeLaws.{whole_bytes}
use Rattle.dbus_show.proofs.FieldTexts.{then}
use Rattle.dbus_validate.proofs.WholeParts.{told_parts}
use Rattle.dbus_json.specs.JsonIntegers.{integers_of}
use Rattle.dbus_json.specs.JsonValues.{array, member, object}
use Rattle.dbus_json.specs.JsonMessages.{IsJsonLine, first_members}
use Rattle.dbus_json.specs.FormLaws.{are_json}
use Rattle.dbus_json.proofs.OneLines.{later_members, line_is, start_is}
use Rattle.dbus_json.proofs.line.write_json_in.Goals as goal

pub returns : goal.returns
returns g c = record {
  written = λ m whole.
      let j = c.args.validated.now in
      let spelled = whole_bytes c.args.limits c.args.bytes.now j.order m j.length whole in
      let parts = told_parts c.args.limits c.args.bytes.now j c.requires.validated m whole in
      let it = c.of.ensures.fields m whole in
      let fields = c.write_header_fields.ensures.written m.fields it.0 it.1 in
      let values = c.write_body.ensures.written m whole in
      let first = first_members c.args.place j.order (length (message_bytes j.order m)) m.kind m.flags m.serial in
      let text = object (first ++ (fields.0 ++ (member (codes "fields") (array fields.1) ∷ member (codes "body") (array values.0) ∷ []))) ++ codes "\n" in
      let start = subst (λ (s : List ℕ). g.D.Draft.gains c.args.draft.now s c.write_start.new.draft) (start_is j m c.args.place spelled.1 parts) c.write_start.ensures in
      let is : IsJsonLine (integers_of (not (eqb g.row.SAFE 0))) j.order m c.args.place text = record { known = fields.0; knows = fields.2.0; others = fields.1; other = fields.2.1; values = values.0; body = are_json (integers_of (not (eqb g.row.SAFE 0))) m.body values.0 values.1; is = refl } in (
        text,
        is,
        subst (λ (s : List ℕ). g.D.Draft.gains c.args.draft.now s c.push_str-2.new.self) (line_is (member (codes "number") (decimal c.args.place.number)) (later_members c.args.place j.order (length (message_bytes j.order m)) m.kind m.flags m.serial) fields.0 fields.1 values.0)
            (then g.D.Draft.gains g.met.D.Draft.joins start (then g.D.Draft.gains g.met.D.Draft.joins fields.3 (then g.D.Draft.gains g.met.D.Draft.joins c.push_str.ensures (then g.D.Draft.gains g.met.D.Draft.joins values.2 c.push_str-2.ensures)))),
      );
}
