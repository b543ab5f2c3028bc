use Rattle.std.proofs.Common.{codes, subst}
use Rattle.dbus_value_model.specs.declared.order.Order.{Order}
use Rattle.dbus_json.specs.JsonMessages.{IsJsonHeader, front_members}
use Rattle.dbus_json.specs.JsonValues.{object}
use Rattle.dbus_explain.specs.Heads.{kind_of}
use Rattle.dbus_explain.specs.Members.{fields, none, typed}
use Rattle.dbus_explain.specs.Places.{order_of}
use Rattle.dbus_explain.specs.declared.head.FirstPart.{FirstPart}
use Rattle.dbus_explain.proofs.members.write_whole_header.Goals as goal

pub returns-then-at-lt-TYPE_END : goal.returns-then-at-lt-TYPE_END
returns-then-at-lt-TYPE_END g c = (codes "{}", none c.if-at-lt-TYPE_END.true, c.push_str.ensures)

pub returns-then-at-lt-FIELDS : goal.returns-then-at-lt-FIELDS
returns-then-at-lt-FIELDS g c =
    let bytes = c.args.bytes.now in (
      object (front_members (order_of bytes) (kind_of bytes)),
      typed c.if-at-lt-TYPE_END.false c.if-at-lt-FIELDS.true,
      subst (λ (o : Order). g.D.Draft.gains c.args.draft.now (object (front_members o (kind_of bytes))) c.write_header_front.new.draft) c.order_of.ensures c.write_header_front.ensures,
    )

pub returns : goal.returns
returns g c =
    let run = c.whole_fields-run.ensures.fields in
    let text = c.write_header.ensures.written run.0 run.1 run.2 in
    let is = subst (λ (first : FirstPart). IsJsonHeader first.order first.kind first.flags first.serial run.0 text.0) c.first_part-first.ensures text.1 in
    (text.0, fields run.0 text.0 c.if-at-lt-FIELDS.false run.3 is, text.2)
