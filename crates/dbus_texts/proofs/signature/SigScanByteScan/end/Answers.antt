use Rattle.std.proofs.Common.{◌≡◌, rules}
use Rattle.dbus_texts.specs.SignatureScans.{sig_end}
use Rattle.dbus_texts.specs.SigViews.{sig_view}
use Rattle.dbus_texts.proofs.ScanSteps.{signature_at_end}
use Rattle.dbus_texts.proofs.signature.SigScanByteScan.end.Goals as goal

pub returns-then-eq : goal.returns-then-eq
returns-then-eq c = let e : c.is_empty.result ≡ sig_end (sig_view c.args.self.now) = search rules in signature_at_end c.args.self.now c.is_empty.result e

pub returns-else-eq : goal.returns-else-eq
returns-else-eq c = let e : c.eq.result ≡ sig_end (sig_view c.args.self.now) = search rules in signature_at_end c.args.self.now c.eq.result e
