use Rattle.std.proofs.Common.{◌≡◌, ◌++◌}
use Rattle.std.specs.Str.{IsUtf8, encode_utf8_all}
use Rattle.dbus_list.specs.Cutting.{Gains}
use Rattle.dbus_list.proofs.cut_draft.CutDraft.push_each.Given as goal

abbrev pub invariant-loop-c : goal.invariant-loop-c
invariant-loop-c g l = record {
  so_far : Gains g.D.Draft.gains l.initial.self (encode_utf8_all l.yielded) l.self;
  left : l.text ≡ encode_utf8_all l.yielded ++ l.c-iterator.rest.now;
  utf8 : IsUtf8 l.c-iterator.rest.now;
}
