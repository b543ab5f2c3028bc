use Rattle.std.proofs.Common.{ap, option_map, refl}
use Rattle.dbus_call_lines.specs.Keeping.{Keeps, kept}
use Rattle.dbus_call_lines.proofs.call_list.CallList.new.Goals as goal

pub returns : goal.returns
unfolding Keeps
returns c = λ texts. (refl, λ caller serial. ap (option_map kept) (c.new.ensures caller serial), (0, refl, refl))
