use Rattle.std.proofs.Common.{rules, ◌≡◌, ◌++◌, codes, decimal, subst}
use Rattle.dbus_show.specs.ShownMessages.{field_name}
use Rattle.dbus_show.proofs.FieldTexts.{then}
use Rattle.dbus_show.proofs.fields.write_field_name.Goals as goal

pub returns-in_default : goal.returns-in_default
returns-in_default g c =
    let text : codes "field" ++ decimal c.args.code ≡ field_name c.args.code = search rules in
    subst (λ s. g.D.Draft.gains c.args.draft.now s c.write_integer.new.draft) text (then g.D.Draft.gains g.met.D.Draft.joins c.push_str-in_default.ensures c.write_integer.ensures)
