use Rattle.std.proofs.Common.{◌≡◌, ℕ, List, Option, None, Some, ap, option_map, sym, subst, ◌∙◌}
use Rattle.dbus_texts.specs.Types.{STRING}
use Rattle.dbus_message_model.specs.KnownFields.{field_value}
use Rattle.dbus_message_model.specs.declared.field_code.TheConstants as field
use Rattle.dbus_calls.specs.Events.{text_at}
use Rattle.dbus_show.proofs.FieldTexts.{then}
use Rattle.dbus_list.specs.Columns.{short}
use Rattle.dbus_list.specs.Lines.{interface_part}
use Rattle.dbus_list.proofs.Shown.{text_seen}
use Rattle.dbus_list.proofs.about.write_interface.Goals as goal

pub returns-in-Some : goal.returns-in-Some
returns-in-Some g c = λ order m views.
    let gains = g.D.Draft.gains in
    let seen : text_at field.INTERFACE m ≡ Some c.in-Some.name.now
    = sym (text_seen c.interface.result STRING (field_value field.INTERFACE m.fields) (c.interface.ensures order m views)) ∙ ap (option_map (λ t. t.now)) c.in-Some.is in
    let name = subst (λ (n : ℕ). gains c.args.draft.now (short n c.in-Some.name.now) c.write_short.new.draft) c.name_cells.ensures c.write_short.ensures.written in
    subst (λ (o : Option (List ℕ)). gains c.args.draft.now (interface_part c.args.line o) c.push_code.new.self) (sym seen) (then gains g.met.D.Draft.joins name c.push_code.ensures)

pub returns-in_default : goal.returns-in_default
returns-in_default g c = λ order m views.
    let seen : text_at field.INTERFACE m ≡ None
    = sym (text_seen c.interface.result STRING (field_value field.INTERFACE m.fields) (c.interface.ensures order m views)) ∙ ap (option_map (λ t. t.now)) c.in_default.is in
    subst (λ (o : Option (List ℕ)). g.D.Draft.gains c.args.draft.now (interface_part c.args.line o) c.args.draft.now) (sym seen) (g.met.D.Draft.nothing c.args.draft.now)
