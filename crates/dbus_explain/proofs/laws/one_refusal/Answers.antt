use Rattle.dbus_explain.proofs.OneText.{one_refusal}
use Rattle.dbus_explain.proofs.laws.one_refusal.Goals as goal

pub returns : goal.returns
returns c = one_refusal
