use Rattle.std.proofs.Common.{refl}
use Rattle.dbus_tool.proofs.words.list_handshake.Goals as goal

pub returns-in_default-Err : goal.returns-in_default-Err
returns-in_default-Err g c = record {
  read = c.write_lines.result.0;
  put = c.write_lines.result.1;
  lines = c.write_lines.ensures.lines;
  counts = c.write_lines.ensures.failed;
  ends = rw c.in_default-Err.is-1 (c.give_up.ensures.failed, c.give_up.ensures.told);
}

pub returns-in-Ok-Ok : goal.returns-in-Ok-Ok
returns-in-Ok-Ok g c = record {
  read = c.write_lines.result.0;
  put = c.write_lines.result.1;
  lines = c.write_lines.ensures.lines;
  counts = c.write_lines.ensures.failed;
  ends = rw (c.in-Ok-Ok.is-0, c.in-Ok-Ok.is-1) (refl, refl);
}

pub returns-in-Err-Ok : goal.returns-in-Err-Ok
returns-in-Err-Ok g c = record {
  read = c.write_lines.result.0;
  put = c.write_lines.result.1;
  lines = c.write_lines.ensures.lines;
  counts = c.write_lines.ensures.failed;
  ends = rw (c.in-Err-Ok.is-0, c.in-Err-Ok.is-1) c.refuse_handshake.ensures;
}
