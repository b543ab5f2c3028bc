use Rattle.std.proofs.Common.{◌≡◌, ◌≤◌, ◌++◌, length}
use Rattle.std.specs.Str.{IsUtf8, chars, encode_utf8_all}
use Rattle.dbus_list.specs.Cuts.{width}
use Rattle.dbus_list.proofs.cut_draft.front_of.Given as goal

abbrev pub invariant-loop-c : goal.invariant-loop-c
invariant-loop-c l = record {
  left : l.text ≡ encode_utf8_all l.yielded ++ l.c-iterator.rest.now;
  utf8 : IsUtf8 l.c-iterator.rest.now;
  done : IsUtf8 (encode_utf8_all l.yielded);
  bytes : l.front.bytes ≡ length (encode_utf8_all l.yielded);
  width_is : width (chars (encode_utf8_all l.yielded)) ≡ l.front.cells;
  fits : l.front.cells ≤ l.most;
}
