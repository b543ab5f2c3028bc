use Rattle.std.proofs.Common.{◌≡◌, ◌+◌, ◌≤◌, ◌++◌, take, drop, vec_len, vec_capacity}
use Rattle.std.specs.VecDeque.{deque_capacity, deque_len}
use Rattle.dbus_descriptors.specs.Sharing.{descriptors_of}
use Rattle.dbus_descriptors.proofs.descriptors.move_front.Given as goal

abbrev pub invariant-loop-taken : goal.invariant-loop-taken
invariant-loop-taken g l = record {
  others : l.others.items ≡ l.initial.others.items ++ descriptors_of (take l._taken l.initial.waiting.items);
  waiting : l.waiting.items ≡ drop l._taken l.initial.waiting.items;
  room : vec_len l.others + l.count ≤ vec_capacity l.others + l._taken;
  there : deque_len l.waiting + l._taken ≡ deque_len l.initial.waiting;
  same : deque_capacity l.waiting ≡ deque_capacity l.initial.waiting;
}
