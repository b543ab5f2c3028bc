use Rattle.std.proofs.Common.{◌≡◌, ◌-◌, ◌++◌, replicate, take}
use Rattle.dbus_marshal.proofs.writing.write_zeros.Given as goal

abbrev pub invariant-loop-place : goal.invariant-loop-place
invariant-loop-place l = take l.place l.out ≡ take l.at l.fn.out ++ replicate (l.place - l.at) 0
