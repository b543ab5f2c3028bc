use Rattle.std.proofs.Common.{◌+◌, drop, take, sym, ◌∙◌, arith}
use Rattle.std.proofs.lemmas.Bool.{false≢true}
use Rattle.std.proofs.lemmas.Bool.Decides.{Decides-eqb}
use Rattle.std.proofs.lemmas.List.{length-take-le}
use Rattle.std.proofs.lemmas.Slice.Eq.{slice_eq-Decides}
use Rattle.dbus_texts.specs.Types.{sig, sigs}
use Rattle.dbus_value_model.specs.Values.{type_of, types_of}
use Rattle.dbus_value_model.specs.ValueViews.{value_tree, value_trees_of}
use Rattle.dbus_value_model.proofs.TypeRows.{types_more, types_end}
use Rattle.dbus_marshal.proofs.Spells.{step_joined}
use Rattle.dbus_build.specs.BuildFaults.{IsSound}
use Rattle.dbus_build.proofs.Finding.{rest_from, spelled_past, spelled_whole}
use Rattle.dbus_build.proofs.faulty_body.has_types.Goals as goal

pub signature_length-requires : goal.signature_length-requires
signature_length-requires g c =
    (rest_from IsSound (λ n v. n) c.args.values.now c.loop-value.value-index c.value-item.result c.loop-value-test.true c.value-item.is
    c.loop-value.invariant.sound).0.0.single.1

pub returns-then-signature-end : goal.returns-then-signature-end
returns-then-signature-end g c =
    let here = length-take-le c.loop-value.end c.loop-value.spelled
    (omega (arith, c.loop-value.invariant.within, c.loop-value.invariant.long)) in (
      λ e. absurd (false≢true e),
      λ e. absurd
          (spelled_past (take c.loop-value.end c.loop-value.spelled) (sig (type_of (value_tree c.value-item.result))) _
          (sigs (types_of (value_trees_of (drop (c.loop-value.value-index + 1) c.args.values.now)))) _ c.args.signature.now
          (types_more c.args.values.now c.loop-value.value-index c.value-item.result c.loop-value-test.true c.value-item.is)
          c.loop-value.invariant.on (omega (arith, here, c.signature_length.ensures, c.if-signature-end.true)) e),
    )

pub loop-value-preserved : goal.loop-value-preserved
loop-value-preserved g c = record {
  sound = (rest_from IsSound (λ n v. n) c.args.values.now c.loop-value.value-index c.value-item.result c.loop-value-test.true
      c.value-item.is c.loop-value.invariant.sound).1;
  on = step_joined _ _ _ _ _ _ c.loop-value.invariant.on
      (types_more c.args.values.now c.loop-value.value-index c.value-item.result c.loop-value-test.true c.value-item.is)
      c.write_type_of-end.ensures.written;
  long = omega (arith, c.loop-value.invariant.long, c.write_type_of-end.auto.out);
  within = omega
      (arith, c.signature_length.ensures, c.if-signature-end.false, c.loop-value.invariant.within, c.write_type_of-end.ensures.ends);
}

pub returns : goal.returns
returns g c =
    let whole = spelled_whole (take c.loop-value.end c.loop-value.spelled) _ _
    (types_end c.args.values.now c.loop-value.value-index c.loop-value-test.false) c.loop-value.invariant.on in
    let d = slice_eq-Decides Decides-eqb _ c.args.signature.now c.eq.result c.eq.ensures in
    (λ e. sym whole ∙ d.0 e, λ e. d.1 (whole ∙ e))
