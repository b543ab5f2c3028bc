use Rattle.std.proofs.Common.{List, ℕ, Option, option_map, subst}
use Rattle.dbus_texts.specs.Types.{STRING}
use Rattle.dbus_message_model.specs.KnownFields.{field_value}
use Rattle.dbus_message_model.specs.declared.field_code.TheConstants as field
use Rattle.dbus_show.proofs.FieldTexts.{then}
use Rattle.dbus_call_lines.specs.CallLines.{connection_text}
use Rattle.dbus_call_lines.proofs.LineLaws.{text_seen}
use Rattle.dbus_call_lines.proofs.fronts.write_call.Goals as goal

pub returns : goal.returns
returns g c = λ order m views.
    let gains = g.D.Draft.gains in
    let joins = g.met.D.Draft.joins in
    let sender = subst (λ (t : Option (List ℕ)). gains c.push_str.new.self (connection_text t (option_map (λ s. s.now) c.args.names.sender)) c.write_connection.new.draft)
    (text_seen c.sender.result STRING (field_value field.SENDER m.fields) (c.sender.ensures order m views)) c.write_connection.ensures in
    let destination = subst (λ (t : Option (List ℕ)). gains c.push_str-2.new.self (connection_text t (option_map (λ s. s.now) c.args.names.destination)) c.write_connection-2.new.draft)
    (text_seen c.destination.result STRING (field_value field.DESTINATION m.fields) (c.destination.ensures order m views)) c.write_connection-2.ensures in
    then gains joins c.write_integer.ensures (then gains joins c.push_str.ensures (then gains joins sender (then gains joins c.push_str-2.ensures (then gains joins destination (then gains joins c.push_str-3.ensures (c.write_member.ensures order m views))))))
