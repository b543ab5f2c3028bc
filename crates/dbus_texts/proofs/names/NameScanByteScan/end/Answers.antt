use Rattle.std.proofs.Common.{◌≡◌, rules}
use Rattle.dbus_texts.specs.NameScans.{name_end}
use Rattle.dbus_texts.proofs.ScanSteps.{name_at_end}
use Rattle.dbus_texts.proofs.names.NameScanByteScan.end.Goals as goal

pub returns-in-More : goal.returns-in-More
returns-in-More c = let e : c.ne.result ≡ name_end c.args.self.now = search rules in name_at_end c.args.self.now c.ne.result e
