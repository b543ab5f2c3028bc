use Rattle.std.proofs.Common.{sym, ◌∙◌}
use Rattle.dbus_value_model.specs.declared.fault.Reason.TheVariants as reasons
use Rattle.dbus_check.proofs.Stages.{fields_over, lacks_field, lacks_none}
use Rattle.dbus_check.proofs.progress.Progress.missing.Goals as goal

pub returns-in-Some-clause-turns : goal.returns-in-Some-clause-turns
returns-in-Some-clause-turns c = λ to w.
    let x = c.args.self.now in
    rw c.refuse.ensures (λ t.
    sym (w.same t) ∙ fields_over x.limits x.order x.kind x.body w.kept w.turns x.end x.offset t c.requires.over
    ∙ lacks_field x.limits x.order x.kind x.body w.kept (reasons.FieldMissing c.in-Some.code) x.offset t (c.in-Some.ensures w.kept.codes w.keeps.sees))

pub returns-in-None-clause-turns : goal.returns-in-None-clause-turns
returns-in-None-clause-turns c = λ to w.
    let x = c.args.self.now in
    let over = c.requires.over in
    let near = w.near in
    record {
      kept = w.kept;
      keeps = assumption w.keeps;
      near = rw over near;
      same = λ t. sym (lacks_none x.limits x.order x.kind x.body w.kept x.offset t (c.in-None.ensures w.kept.codes w.keeps.sees))
          ∙ sym (fields_over x.limits x.order x.kind x.body w.kept w.turns x.end x.offset t over) ∙ w.same t;
    }
