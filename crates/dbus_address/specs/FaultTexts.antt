-- The reasons why a text of addresses is refused, as text: the names of this project's own list.
-- D-Bus Specification, "Server Addresses".
use Rattle.std.specs.Prelude.{ℕ, List, codes}
use Rattle.dbus_address.specs.declared.fault.AddressReason.{AddressReason}
use Rattle.dbus_address.specs.declared.fault.AddressReason.TheVariants.{TooLong, Transport, Key, Value, Escape, KeyTwice, Guid}

abbrev pub address_reason_text : AddressReason → List ℕ
address_reason_text TooLong = codes "TooLong"
address_reason_text Transport = codes "Transport"
address_reason_text Key = codes "Key"
address_reason_text Value = codes "Value"
address_reason_text Escape = codes "Escape"
address_reason_text KeyTwice = codes "KeyTwice"
address_reason_text Guid = codes "Guid"
