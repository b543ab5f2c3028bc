use Rattle.std.proofs.Common.{◌≡◌, rules, true}
use Rattle.std.specs.List.{list_all}
use Rattle.std.proofs.lemmas.Str.{IsUtf8-from_ascii}
use Rattle.dbus_explain.specs.Places.{is_printable}
use Rattle.dbus_explain.proofs.Keys.{printable_ascii}
use Rattle.dbus_explain.proofs.search.printable.Goals as goal

pub from_utf8_unchecked-requires : goal.from_utf8_unchecked-requires
from_utf8_unchecked-requires c =
    let plain : list_all is_printable c.args.bytes.now ≡ true = search rules in
    IsUtf8-from_ascii c.args.bytes.now (printable_ascii c.args.bytes.now plain)

pub returns-clause-some : goal.returns-clause-some
returns-clause-some c =
    let plain : list_all is_printable c.args.bytes.now ≡ true = search rules in
    (c.from_utf8_unchecked.ensures, plain)
