use Rattle.std.proofs.Common.{ap, option_map}
use Rattle.dbus_names.specs.Kept.{call_kept, state_of}
use Rattle.dbus_names.specs.NameStates.{if_had}
use Rattle.dbus_names.proofs.names.Names.new.Goals as goal

pub returns : goal.returns
unfolding state_of
returns c = λ i. record {
  owners = c.args.owners;
  calls = λ caller serial. ap (option_map call_kept) (c.new.ensures caller serial) i;
  names = λ unique. ap (if_had c.args.owners unique) (c.new-2.ensures unique) i;
}
