use Rattle.dbus_show.proofs.FieldTexts.{then}
use Rattle.dbus_json.proofs.header.write_header_fields.Goals as goal

pub returns : goal.returns
returns g c = record {
  written = λ fs rest s.
      let gains = g.D.Draft.gains in
      let joins = g.met.D.Draft.joins in
      let known = c.write_field_run-known.ensures.written fs rest s in
      let others = c.write_others.ensures.written fs rest s in
      (known.0, others.0, (known.1, others.1), then gains joins known.2 (then gains joins c.push_str.ensures (then gains joins others.2 c.push_code.ensures)));
}
