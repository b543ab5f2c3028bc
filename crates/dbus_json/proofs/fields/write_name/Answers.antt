use Rattle.std.proofs.Common.{◌≡◌, ◌++◌, append_assoc, codes, subst}
use Rattle.dbus_show.specs.ShownMessages.{field_name}
use Rattle.dbus_show.proofs.FieldTexts.{then}
use Rattle.dbus_json.specs.JsonValues.{plain}
use Rattle.dbus_json.proofs.fields.write_name.Goals as goal

pub returns-in_default : goal.returns-in_default
returns-in_default g c =
    let text : codes "\"" ++ (field_name c.args.code ++ codes "\":") ≡ plain (field_name c.args.code) ++ codes ":" = simp append_assoc in
    subst (λ s. g.D.Draft.gains c.args.draft.now s c.push_str.new.self) text (then g.D.Draft.gains g.met.D.Draft.joins c.push_code.ensures (then g.D.Draft.gains g.met.D.Draft.joins c.write_field_name.ensures c.push_str.ensures))
