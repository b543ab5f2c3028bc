use Rattle.std.proofs.Common.{◌≡◌, ◌+◌, arith}
use Rattle.dbus_value_model.specs.Reading.{number_of}
use Rattle.dbus_value_model.proofs.Numbers.{bytes_at}
use Rattle.dbus_value_model.proofs.order.Order.u32_at.Goals as goal

pub returns-in-Little : goal.returns-in-Little
unfolding number_of
returns-in-Little c =
    let here : c.args.at + 0 ≡ c.args.at = omega arith in
    rw c.in-Little.is record { spelled = rw (c.from_le_bytes.ensures, bytes_at 4 c.args.at c.args.bytes.now c.requires, here) (omega arith); places = rw (c.from_le_bytes.ensures, here) (omega arith) }

pub returns-in-Big : goal.returns-in-Big
unfolding number_of
returns-in-Big c =
    let here : c.args.at + 0 ≡ c.args.at = omega arith in
    rw c.in-Big.is record { spelled = rw (c.from_be_bytes.ensures, bytes_at 4 c.args.at c.args.bytes.now c.requires, here) (omega arith); places = rw (c.from_be_bytes.ensures, here) (omega arith) }
