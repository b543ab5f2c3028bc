use Rattle.dbus_lines.proofs.line_reader.LineReader.next_kept.Goals as goal

pub returns-clause-kept : goal.returns-clause-kept
returns-clause-kept g c = λ w kept. c.take_kept.ensures.answers w (c.begin.ensures.keeps w kept)
