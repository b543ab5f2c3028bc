use Rattle.dbus_rule.proofs.Canonical.{canonical_spells}
use Rattle.dbus_rule.proofs.laws.canonical_spells.Goals as goal

pub returns : goal.returns
returns c = canonical_spells
