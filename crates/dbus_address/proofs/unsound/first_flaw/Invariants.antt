use Rattle.std.proofs.Common.{◌≡◌, ◌+◌, suc, length}
use Rattle.std.specs.Prelude.{option_map}
use Rattle.dbus_address.specs.Parts.{parts, parts_left}
use Rattle.dbus_address.specs.Scans.{first_flaw}
use Rattle.dbus_address.proofs.FirstFlaw.{length_left}
use Rattle.dbus_address.proofs.unsound.first_flaw.Given as goal

abbrev pub invariant-loop-left : goal.invariant-loop-left
invariant-loop-left l = record {
  found : first_flaw l.at (parts_left 59 (option_map (λ t. t.now) l.left)) ≡ first_flaw 0 (parts 59 l.fn.text);
  place : l.at + length_left (option_map (λ t. t.now) l.left) ≡ suc (length l.fn.text);
}

abbrev pub decreases-loop-left : goal.decreases-loop-left
decreases-loop-left l = length_left (option_map (λ t. t.now) l.left)
