use Rattle.std.proofs.Common.{Option, option_map, refl, sym, ap, ◌∙◌}
use Rattle.dbus_address.specs.Views.{address_view, addresses_of}
use Rattle.dbus_address.specs.declared.reading.AddressView.{AddressView}
use Rattle.dbus_c.proofs.ReadAddresses.{is_refused, is_taken}
use Rattle.dbus_c.proofs.addresses.dbus_wire_address_transport.Goals as goal
use Rattle.dbus_c.specs.Addresses.{transport_in, found, missing, refused}

pub returns-in-Some : goal.returns-in-Some
returns-in-Some c =
    found (addresses_of c.in-Ok.addresses) c.in-Some.address.transport.now (is_taken _ _ _ c.parse_addresses.ensures c.in-Ok.is)
    (ap transport_in (sym c.address_at.ensures ∙ ap (λ (a : Option AddressView). option_map address_view a) c.in-Some.is))
    c.write_bytes.ensures

pub returns-in-None : goal.returns-in-None
returns-in-None c =
    missing (addresses_of c.in-Ok.addresses) (is_taken _ _ _ c.parse_addresses.ensures c.in-Ok.is)
    (ap transport_in (sym c.address_at.ensures ∙ ap (λ (a : Option AddressView). option_map address_view a) c.in-None.is))
    refl refl refl

pub returns-in-Err : goal.returns-in-Err
returns-in-Err c =
    let fault = c.in-Err.field-0 in
    refused fault.reason fault.at (is_refused _ _ _ c.parse_addresses.ensures c.in-Err.is) refl refl refl
