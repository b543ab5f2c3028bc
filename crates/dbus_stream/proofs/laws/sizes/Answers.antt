use Rattle.dbus_stream.proofs.SizeSteps.{lengths_are_sizes, one_size, sizes_tell}
use Rattle.dbus_stream.proofs.laws.sizes.Goals as goal

pub returns-clause-one : goal.returns-clause-one
returns-clause-one c = one_size

pub returns-clause-lengths : goal.returns-clause-lengths
returns-clause-lengths c = lengths_are_sizes

pub returns-clause-tell : goal.returns-clause-tell
returns-clause-tell c = sizes_tell
