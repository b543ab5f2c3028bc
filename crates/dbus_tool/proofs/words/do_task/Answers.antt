use Rattle.std.proofs.Common.{inl}
use Rattle.dbus_tool.proofs.words.do_task.Goals as goal

pub returns-in-Write : goal.returns-in-Write
returns-in-Write g c = rw c.in-Write.is (inl (c.take_handshake.new.reader, c.in-Ok.ensures, c.run_with.ensures))

pub returns-in-Calls : goal.returns-in-Calls
returns-in-Calls g c = rw c.in-Calls.is (inl (c.take_handshake.new.reader, c.in-Ok.ensures, c.do_calls.ensures))

pub returns-in-Count : goal.returns-in-Count
returns-in-Count g c = rw c.in-Count.is (inl (c.take_handshake.new.reader, c.in-Ok.ensures, c.count_by_name.ensures))

pub returns-in-Lines : goal.returns-in-Lines
returns-in-Lines g c = rw c.in-Lines.is (inl (c.take_handshake.new.reader, c.in-Ok.ensures, c.list_lines.ensures))
