use Rattle.std.proofs.Common.{List, ℕ, Option, codes, decimal, subst}
use Rattle.dbus_texts.specs.Types.{STRING, OBJECT_PATH}
use Rattle.dbus_message_model.specs.KnownFields.{field_value}
use Rattle.dbus_message_model.specs.declared.field_code.TheConstants as field
use Rattle.dbus_calls.specs.Events.{destination_of, sender_of, text_at}
use Rattle.dbus_show.proofs.FieldTexts.{then}
use Rattle.dbus_call_lines.specs.CallLines.{behind_commas, connection_members, member_if}
use Rattle.dbus_call_lines.specs.Names.{names_seen}
use Rattle.dbus_call_lines.proofs.LineLaws.{members_are, text_seen}
use Rattle.dbus_call_lines.proofs.fronts.write_members.Goals as goal

pub returns : goal.returns
returns g c = λ order m views.
    let gains = g.D.Draft.gains in
    let joins = g.met.D.Draft.joins in
    let names = names_seen c.args.names in
    let serial = subst (λ (n : ℕ). gains c.push_str-2.new.self (decimal n) c.write_integer-2.new.draft) (c.serial.ensures order m views) c.write_integer-2.ensures in
    let sender = subst (λ (t : Option (List ℕ)). gains c.write_integer-2.new.draft (behind_commas (connection_members (codes "sender") t (codes "sender_name") names.sender)) c.write_known.new.draft)
    (text_seen c.sender.result STRING (field_value field.SENDER m.fields) (c.sender.ensures order m views)) c.write_known.ensures in
    let destination = subst (λ (t : Option (List ℕ)). gains c.write_known.new.draft (behind_commas (connection_members (codes "destination") t (codes "destination_name") names.destination)) c.write_known-2.new.draft)
    (text_seen c.destination.result STRING (field_value field.DESTINATION m.fields) (c.destination.ensures order m views)) c.write_known-2.ensures in
    let path = subst (λ (t : Option (List ℕ)). gains c.write_known-2.new.draft (behind_commas (member_if (codes "path") t)) c.write_text.new.draft)
    (text_seen c.path.result OBJECT_PATH (field_value field.PATH m.fields) (c.path.ensures order m views)) c.write_text.ensures in
    let interface = subst (λ (t : Option (List ℕ)). gains c.write_text.new.draft (behind_commas (member_if (codes "interface") t)) c.write_text-2.new.draft)
    (text_seen c.interface.result STRING (field_value field.INTERFACE m.fields) (c.interface.ensures order m views)) c.write_text-2.ensures in
    let member = subst (λ (t : Option (List ℕ)). gains c.write_text-2.new.draft (behind_commas (member_if (codes "member") t)) c.write_text-3.new.draft)
    (text_seen c.member.result STRING (field_value field.MEMBER m.fields) (c.member.ensures order m views)) c.write_text-3.ensures in
    subst (λ (t : List ℕ). gains c.args.draft.now t c.write_text-3.new.draft)
    (members_are c.args.place.number c.args.place.time m.serial (connection_members (codes "sender") (sender_of m) (codes "sender_name") names.sender)
    (connection_members (codes "destination") (destination_of m) (codes "destination_name") names.destination) (member_if (codes "path") (text_at field.PATH m))
    (member_if (codes "interface") (text_at field.INTERFACE m)) (member_if (codes "member") (text_at field.MEMBER m)))
    (then gains joins c.push_str.ensures (then gains joins c.write_integer.ensures (then gains joins c.write_time.ensures (then gains joins c.push_str-2.ensures (then gains joins serial
    (then gains joins sender (then gains joins destination (then gains joins path (then gains joins interface member)))))))))
