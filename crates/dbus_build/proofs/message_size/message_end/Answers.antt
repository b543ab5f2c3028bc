use Rattle.std.proofs.Common.{◌≤◌, ℕ, List, None, Some, arith, drop, length, subst, sym}
use Rattle.std.proofs.lemmas.List.{drop_all}
use Rattle.dbus_value_model.specs.SizeLimits.{IsCapped, AreMeasured}
use Rattle.dbus_value_model.specs.declared.limits.Limits.{Limits}
use Rattle.dbus_value_model.proofs.ValueRows.{items_from}
use Rattle.dbus_marshal.proofs.MeasureSteps.{measured-first, measured-more, measured-none}
use Rattle.dbus_message_model.specs.Messages.{field_struct}
use Rattle.dbus_message_model.specs.PartsViews.{field_tree}
use Rattle.dbus_message_model.specs.declared.header_field.HeaderField.{HeaderField}
use Rattle.dbus_message_model.proofs.FieldLists.{fields_short, structs}
use Rattle.dbus_build.proofs.Built.{none_ends, past_ends, ends}
use Rattle.dbus_build.proofs.message_size.message_end.Goals as goal

-- no fields are left
last : {A : Type 0} (limits : Limits) (fields : List (HeaderField A)) (i at : ℕ) → IsCapped at → length fields ≤ i
    → AreMeasured limits.array (structs (drop i fields)) at (Some at)
last {A} limits fields i at low h =
    subst (λ (fs : List (HeaderField A)). AreMeasured limits.array (structs fs) at (Some at)) (sym (drop_all i fields h))
    (measured-none limits at low)

pub measure_header_field-requires-clause-signed : goal.measure_header_field-requires-clause-signed
measure_header_field-requires-clause-signed g c =
    let lt = rw c.deref-field-items.ensures.value at c.loop-field-test.true in
    let is = rw c.deref-field-items.ensures.value at c.field-item.is in
    (fields_short c.args.parts.now.fields.items c.loop-field.field-index c.field-item.result lt is c.loop-field.invariant.signed).0.1.0

pub returns-in_err-at : goal.returns-in_err-at
returns-in_err-at g c =
    let l = c.args.limits in
    let lt = rw c.deref-field-items.ensures.value at c.loop-field-test.true in
    let is = rw c.deref-field-items.ensures.value at c.field-item.is in
    let stop = measured-first l (field_struct (field_tree c.field-item.result)) _ c.loop-field.at
    (c.in_err-at.ensures.exact c.field-item.result.code) in
    rw c.from_residual.ensures
    (none_ends l c.args.parts.now
    (c.loop-field.invariant.so_far None
    (items_from (λ fs. AreMeasured l.array (structs fs) c.loop-field.at None) c.args.parts.now.fields.items c.loop-field.field-index
    c.field-item.result lt is stop)))

pub loop-field-preserved : goal.loop-field-preserved
loop-field-preserved g c =
    let l = c.args.limits in
    let lt = rw c.deref-field-items.ensures.value at c.loop-field-test.true in
    let is = rw c.deref-field-items.ensures.value at c.field-item.is in
    record {
      low = c.in_ok-at.ensures.within;
      signed = (fields_short c.args.parts.now.fields.items c.loop-field.field-index c.field-item.result lt is
          c.loop-field.invariant.signed).1;
      so_far = λ r w. c.loop-field.invariant.so_far r
          (items_from (λ fs. AreMeasured l.array (structs fs) c.loop-field.at r) c.args.parts.now.fields.items c.loop-field.field-index
          c.field-item.result lt is
          (measured-more l (field_struct (field_tree c.field-item.result)) _ c.loop-field.at c.in_ok-at.at r
          (c.in_ok-at.ensures.exact c.field-item.result.code) w));
    }

pub returns-then-at-from : goal.returns-then-at-from
returns-then-at-from g c =
    let all = c.loop-field.invariant.so_far (Some c.loop-field.at)
    (last c.args.limits c.args.parts.now.fields.items c.loop-field.field-index c.loop-field.at c.loop-field.invariant.low
    (rw c.deref-field-items.ensures.value at c.loop-field-test.false)) in
    past_ends c.args.limits c.args.parts.now c.loop-field.at all (omega arith)

pub returns : goal.returns
returns g c =
    let all = c.loop-field.invariant.so_far (Some c.loop-field.at)
    (last c.args.limits c.args.parts.now.fields.items c.loop-field.field-index c.loop-field.at c.loop-field.invariant.low
    (rw c.deref-field-items.ensures.value at c.loop-field-test.false)) in
    ends c.args.limits c.args.parts.now c.loop-field.at c.from-2.result c.measure_all.result all (omega arith) (omega arith) (omega arith)
    (rw c.deref.ensures.value at c.measure_all.ensures.exact)
