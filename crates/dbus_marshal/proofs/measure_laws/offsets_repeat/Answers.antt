use Rattle.std.proofs.Common.{length, ap, sym}
use Rattle.dbus_value_model.proofs.Periods.{value-period}
use Rattle.dbus_marshal.proofs.measure_laws.offsets_repeat.Goals as goal

pub returns : goal.returns
returns c = λ array order v o p e. (ap length (value-period order v o p e).0, (λ w. (value-period order v o p e).1 array w, λ w. (value-period order v p o (sym e)).1 array w))
