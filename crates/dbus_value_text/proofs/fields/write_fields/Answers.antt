use Rattle.dbus_value_text.proofs.fields.write_fields.Goals as goal

pub returns : goal.returns
returns g c = record {
  written = λ m whole. let it = c.of.ensures.fields m whole in c.write_field_run.ensures.written m.fields it.0 it.1;
  all = λ m whole. let it = c.of.ensures.fields m whole in c.write_field_run.ensures.all m.fields it.0 it.1;
  end = λ m whole. let it = c.of.ensures.fields m whole in c.write_field_run.ensures.end m.fields it.0 it.1;
}
