use Rattle.dbus_descriptors.proofs.Shares.{refusal}
use Rattle.dbus_descriptors.proofs.laws.refusal.Goals as goal

pub returns : goal.returns
returns g c = refusal _
