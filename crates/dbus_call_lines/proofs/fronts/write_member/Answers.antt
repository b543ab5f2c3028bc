use Rattle.std.proofs.Common.{List, ℕ, Option, option_map, subst}
use Rattle.dbus_texts.specs.Types.{STRING}
use Rattle.dbus_message_model.specs.KnownFields.{field_value}
use Rattle.dbus_message_model.specs.declared.field_code.TheConstants as field
use Rattle.dbus_calls.specs.Events.{text_at}
use Rattle.dbus_call_lines.specs.CallLines.{member_text}
use Rattle.dbus_call_lines.proofs.LineLaws.{text_seen}
use Rattle.dbus_call_lines.proofs.fronts.write_member.Goals as goal

pub returns : goal.returns
returns g c = λ order m views.
    let gains = g.D.Draft.gains in
    let interface = subst (λ (t : Option (List ℕ)). gains c.args.draft.now (member_text t (option_map (λ s. s.now) c.member.result)) c.write_names.new.draft)
    (text_seen c.interface.result STRING (field_value field.INTERFACE m.fields) (c.interface.ensures order m views)) c.write_names.ensures in
    subst (λ (t : Option (List ℕ)). gains c.args.draft.now (member_text (text_at field.INTERFACE m) t) c.write_names.new.draft)
    (text_seen c.member.result STRING (field_value field.MEMBER m.fields) (c.member.ensures order m views)) interface
