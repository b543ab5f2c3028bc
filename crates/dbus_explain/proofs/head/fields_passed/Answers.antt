use Rattle.std.proofs.Common.{arith, refl, drop}
use Rattle.dbus_explain.specs.Places.{field_type}
use Rattle.dbus_explain.proofs.WholeFields.{fields_passed as passed_fields, fields_stand}
use Rattle.dbus_explain.proofs.head.fields_passed.Goals as goal

pub returns-clause-fields : goal.returns-clause-fields
returns-clause-fields c =
    let search = c.args.search.now in
    let bytes = search.bytes.now in
    let end = c.after_values.result.1.place in
    let passed = c.after_values.ensures.passed field_type refl (tt, (tt, tt)) in
    let fields = passed_fields bytes search.at c.after_values.result.0 16 end passed.0 in (
      fields.0,
      drop end bytes,
      record { some = omega arith; stand = rw search.order_is (fields_stand bytes search.at fields.0 16 end (omega arith) fields.1) },
      record { end = end; spelled = fields.1; within = c.after_values.ensures.within; last = passed.1 },
    )
