use Rattle.dbus_explain.proofs.OneText.{one_explanation}
use Rattle.dbus_explain.proofs.laws.one_explanation.Goals as goal

pub returns : goal.returns
returns c = one_explanation
