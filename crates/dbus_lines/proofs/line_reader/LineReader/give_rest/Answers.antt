use Rattle.std.proofs.Common.{not, refl}
use Rattle.dbus_lines.proofs.ReadSteps.{gave_rest}
use Rattle.dbus_lines.proofs.line_reader.LineReader.give_rest.Goals as goal

pub returns-clause-answers : goal.returns-clause-answers
returns-clause-answers g c = λ w kept.
    let now = c.args.self.now in
    gave_rest now (record now { given = not c.is_empty.result; in_order = _; in_room = _; few = _ }) w c.is_empty.result c.requires.ungiven kept c.requires.drained c.requires.ended refl refl c.requires.drained refl c.is_empty.ensures
