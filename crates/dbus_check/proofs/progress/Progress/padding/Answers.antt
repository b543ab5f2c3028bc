use Rattle.std.proofs.Common.{◌+◌, sym, ap, ◌∙◌, refl}
use Rattle.dbus_value_model.specs.FdIndexes.{index_limit}
use Rattle.dbus_value_model.specs.Bounds.{bounds_with}
use Rattle.dbus_check.proofs.Stages.{padding_taken, body_flows}
use Rattle.dbus_value_laws.proofs.KindLaws.{signature_types}
use Rattle.dbus_check.proofs.progress.Progress.padding.Goals as goal

pub begin-requires-clause-types : goal.begin-requires-clause-types
begin-requires-clause-types c =
    let w = c.requires.valid.1 in
    let t = signature_types w.kept.text w.keeps.signature in
    (t.0, (c.as_slice.ensures.value ∙ w.keeps.text ∙ t.1.0, t.1.1))

pub returns-clause-moves : goal.returns-clause-moves
returns-clause-moves c = λ to w.
    let x = c.args.self.now in
    let s = c.args.bytes.now in
    let n = c.in_ok-zeros.zeros in
    let bounds_is = c.bounds_with.ensures ∙ ap (bounds_with x.limits) (c.index_limit-fds.ensures ∙ ap (index_limit x.limits.fds) w.keeps.count) in
    let o = x.offset + n in (
      c.in_ok-zeros.ensures.moves.2,
      record {
        flows = body_flows x.limits x.order x.body w.kept c.bounds_with.result (o + x.body) o bounds_is refl c.begin.new.self c.as_slice.result.now _ (c.as_slice.ensures.value ∙ w.keeps.text) w.keeps.signature c.begin.ensures
            (λ t. sym (padding_taken x.limits x.order x.kind x.body w.kept x.offset s n c.in_ok-zeros.ensures.gives t) ∙ w.same (_));
      },
    )
