use Rattle.std.proofs.Common.{ℕ, List, rules, sym, subst}
use Rattle.std.specs.Str.{IsUtf8}
use Rattle.dbus_list.proofs.Clocks.{clock_text}
use Rattle.dbus_list.proofs.columns.write_clock.Goals as goal

pub from_utf8_unchecked-requires : goal.from_utf8_unchecked-requires
from_utf8_unchecked-requires g c = subst IsUtf8 (sym c.clock_of-text.ensures) (clock_text c.args.nanoseconds)

pub returns : goal.returns
returns g c = subst (λ (t : List ℕ). g.D.Draft.gains c.args.draft.now t c.push_str.new.self) (search rules) c.push_str.ensures
