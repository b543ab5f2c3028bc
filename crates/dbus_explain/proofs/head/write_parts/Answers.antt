use Rattle.std.proofs.Common.{◌++◌, subst}
use Rattle.std.specs.List.{flat_map}
use Rattle.dbus_value_model.specs.declared.order.Order.{Order}
use Rattle.dbus_show.specs.ShownMessages.{field_text, front_text, start_text}
use Rattle.dbus_show.proofs.FieldTexts.{then}
use Rattle.dbus_explain.specs.Heads.{fields, flags_of, kind_of, serial_of, typed}
use Rattle.dbus_explain.specs.Places.{order_of}
use Rattle.dbus_explain.specs.declared.head.FirstPart.{FirstPart}
use Rattle.dbus_explain.proofs.head.write_parts.Goals as goal

pub returns-then-at-lt-FIELDS : goal.returns-then-at-lt-FIELDS
returns-then-at-lt-FIELDS g c =
    let bytes = c.args.bytes.now in (
      front_text (order_of bytes) (kind_of bytes) c.args.number,
      typed c.requires.typed c.if-at-lt-FIELDS.true,
      subst (λ (o : Order). g.D.Draft.gains c.args.draft.now (front_text o (kind_of bytes) c.args.number) c.write_front.new.draft) c.order_of.ensures c.write_front.ensures,
    )

pub returns : goal.returns
returns g c =
    let bytes = c.args.bytes.now in
    let gains = g.D.Draft.gains in
    let run = c.whole_fields.ensures.fields in
    let start = subst (λ (first : FirstPart). gains c.args.draft.now (start_text first.order first.kind first.serial first.flags c.args.number) c.write_start.new.draft) c.first_part-first.ensures c.write_start.ensures in (
      start_text (order_of bytes) (kind_of bytes) (serial_of bytes) (flags_of bytes) c.args.number ++ flat_map field_text run.0,
      fields run.0 c.if-at-lt-FIELDS.false run.3,
      then gains g.met.D.Draft.joins start (c.write_shown_fields.ensures.shown run.0 run.1 run.2),
    )
