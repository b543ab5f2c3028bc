use Rattle.std.proofs.Common.{map}
use Rattle.dbus_address.specs.WrittenViews.{address_parts}
use Rattle.dbus_address.proofs.Appends.{whole_from}
use Rattle.dbus_address.proofs.writing.write_some.Goals as goal

pub returns : goal.returns
returns g c = whole_from c.new-text.result.items c.push_address.new.text.items c.push_more_addresses.new.text.items (address_parts c.args.first.now) (map address_parts c.args.more.now) c.new-text.ensures.items c.in_ok-push_address.ensures c.in_ok-push_more_addresses.ensures
