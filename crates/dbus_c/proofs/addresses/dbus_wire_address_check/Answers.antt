use Rattle.std.proofs.Common.{ℕ, refl, ap}
use Rattle.dbus_address.specs.Views.{addresses_of}
use Rattle.dbus_c.proofs.ReadAddresses.{is_refused, is_taken, told_of}
use Rattle.dbus_c.proofs.addresses.dbus_wire_address_check.Goals as goal
use Rattle.dbus_c.specs.Addresses.{taken, refused}

pub returns-in-Ok : goal.returns-in-Ok
returns-in-Ok c =
    taken (addresses_of c.in-Ok.addresses) (is_taken _ _ _ c.parse_addresses.ensures c.in-Ok.is) refl
    (ap (λ (n : ℕ). told_of n 0 0) c.count_of.ensures)

pub returns-in-Err : goal.returns-in-Err
returns-in-Err c =
    let fault = c.in-Err.fault in
    refused fault.reason fault.at (is_refused _ _ _ c.parse_addresses.ensures c.in-Err.is) refl
    (ap (λ (n : ℕ). told_of 0 fault.at n) c.address_reason_number.ensures)
