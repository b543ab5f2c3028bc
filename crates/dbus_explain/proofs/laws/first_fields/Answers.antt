use Rattle.dbus_explain.proofs.FirstFields.{first_fields}
use Rattle.dbus_explain.proofs.laws.first_fields.Goals as goal

pub returns : goal.returns
returns c = first_fields
