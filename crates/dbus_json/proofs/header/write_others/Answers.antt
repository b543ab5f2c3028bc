use Rattle.std.proofs.Common.{[], sym, ◌∙◌, not, eqb}
use Rattle.dbus_json.proofs.FieldTexts.{no_others, others_are}
use Rattle.dbus_json.specs.JsonIntegers.{integers_of}
use Rattle.dbus_json.specs.JsonMessages.{other_fields}
use Rattle.dbus_json.proofs.header.write_others.Goals as goal

pub returns-then-known : goal.returns-then-known
returns-then-known g c = record {
  written = λ fs rest s. ([], no_others (integers_of (not (eqb g.row.SAFE 0))) fs (sym (c.requires.all fs rest s) ∙ c.if-known.true), g.met.D.Draft.nothing c.args.draft.now);
}

pub returns : goal.returns
returns g c = record {
  written = λ fs rest s.
      let w = c.write_field_run.ensures.written fs rest s in
      (w.0, others_are (integers_of (not (eqb g.row.SAFE 0))) c.args.known.end fs (c.requires.end fs rest s) (other_fields fs) w.0 w.1, w.2);
}
