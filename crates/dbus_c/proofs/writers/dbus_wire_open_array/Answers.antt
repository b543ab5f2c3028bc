use Rattle.std.proofs.Common.{◌≡◌, Some}
use Rattle.dbus_c.proofs.writers.dbus_wire_open_array.Goals as goal

pub returns-in-Some-array_in-clause-put : goal.returns-in-Some-array_in-clause-put
returns-in-Some-array_in-clause-put c _ =
    let same : c.in-Some.alignment ≡ c.args.alignment = c.in-Some.ensures.0 in
    record { end = Some c.in-Some-array_in.place.start; puts = rw (← same) c.in-Some-array_in.ensures.1; told = c.put_to.ensures }
