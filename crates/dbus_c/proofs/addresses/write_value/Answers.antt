use Rattle.std.proofs.Common.{rules}
use Rattle.dbus_address.specs.Views.{bytes_of}
use Rattle.dbus_c.proofs.Filled.{ended}
use Rattle.dbus_c.proofs.addresses.write_value.Goals as goal
use Rattle.dbus_room.proofs.Ending.{long}

pub returns : goal.returns
returns c =
    let zero_behind = c.end_text.ensures in
    record {
      written = ended c.args.out.now (bytes_of c.args.value) _ _ _ c.new-room.ensures.begins c.push_value.ensures zero_behind.gains _ c.end_text.result (search rules) zero_behind.answers;
      count_is = long c.args.out.now (bytes_of c.args.value) _ _ c.new-room.ensures.begins c.push_value.ensures;
    }
