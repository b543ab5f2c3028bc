use Rattle.std.proofs.Common.{[], subst}
use Rattle.dbus_value_model.specs.Values.{NoValues}
use Rattle.dbus_value_model.specs.declared.order.Order.{Order}
use Rattle.dbus_flatten.specs.Flattening.{ArePartsFlat}
use Rattle.dbus_c.specs.Explaining.{none, some}
use Rattle.dbus_c.proofs.FaultsTold.{no_items}
use Rattle.dbus_explain.specs.Places.{order_of}
use Rattle.dbus_c.proofs.whole_parts.flatten_before.Goals as goal

pub returns-in-Some : goal.returns-in-Some
returns-in-Some c =
    let run = c.in-Some.ensures.fields in
    let body = c.in-Some.ensures.values in
    let start = c.in-Some.parts.body.at in
    let flat = c.flatten_parts.ensures.flat run.0 run.1 body.0 body.1 run.2 body.2 in
    record {
      fields = run.0;
      start = start;
      values = body.0;
      whole = some run.0 start body.0 c.in-Some.ensures.begun run.3 body.3;
      flat = subst (λ (o : Order). ArePartsFlat o run.0 start body.0 c.args.first c.args.items.now c.flatten_parts.new.out c.flatten_parts.result) c.in-Some.ensures.order flat;
    }

pub returns-in-None : goal.returns-in-None
returns-in-None c = record {
  fields = [];
  start = 0;
  values = NoValues;
  whole = none 0 (c.parts_before.ensures.none c.in-None.is);
  flat = no_items (order_of c.args.bytes.now) c.args.first c.args.items.now;
}
