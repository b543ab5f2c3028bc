use Rattle.std.proofs.Common.{◌++◌, codes}
use Rattle.dbus_show.proofs.FieldTexts.{then}
use Rattle.dbus_explain.specs.Names.{behind_fields, code_name, in_field}
use Rattle.dbus_explain.proofs.Searching.{text_if}
use Rattle.dbus_explain.proofs.places.write_field.Goals as goal

pub returns-in-Some : goal.returns-in-Some
returns-in-Some g c =
    let text = c.field_text.result in
    let gains = g.D.Draft.gains in
    let joins = g.met.D.Draft.joins in (
      codes "header field " ++ code_name c.in-Some.code,
      in_field c.in-Some.field c.in-Some.code text c.in-Some.ensures.some (text_if _ text c.field_text.ensures.some c.field_text.ensures.none),
      then gains joins c.push_str.ensures c.write_code.ensures,
    )

pub returns-in-None : goal.returns-in-None
returns-in-None g c = (codes "the header fields", behind_fields (c.field_at.ensures.none c.in-None.is), c.push_str-in-None.ensures)
