use Rattle.std.proofs.Common.{◌≡◌, ◌≤◌, ◌-◌, ◌++◌, ℕ, List, length, take}
use Rattle.dbus_texts.specs.Scans.{Stands, kind_of}
use Rattle.dbus_texts.proofs.scan.TextScan.take.Given as goal

abbrev pub invariant-loop-count : goal.invariant-loop-count
invariant-loop-count l = record {
  within : l.count ≤ length l.bytes;
  kind : kind_of l.self ≡ kind_of l.fn.self;
  stands : (w : List ℕ) → Stands l.fn.self w → Stands l.self (w ++ take l.count l.bytes);
}

abbrev pub decreases-loop-count : goal.decreases-loop-count
decreases-loop-count l = length l.bytes - l.count
