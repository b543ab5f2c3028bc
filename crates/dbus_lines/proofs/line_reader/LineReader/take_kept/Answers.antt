use Rattle.std.proofs.Common.{◌+◌, refl}
use Rattle.dbus_lines.proofs.ReadSteps.{later_part, no_part, took_all, took_line}
use Rattle.dbus_lines.proofs.line_reader.LineReader.take_kept.Goals as goal

pub returns-in_ok-add-in-Some-clause-answers : goal.returns-in_ok-add-in-Some-clause-answers
returns-in_ok-add-in-Some-clause-answers g c = λ w kept.
    let now = c.args.self.now in
    let add = c.in_ok-add-in-Some.ensures in
    took_line now _ w c.in-Some.count c.requires kept c.in-Some.ensures add.added add.most refl (later_part now.bytes now.start now.end (c.in-Some.count + 1))

pub returns-in_ok-add-in-None-clause-answers : goal.returns-in_ok-add-in-None-clause-answers
returns-in_ok-add-in-None-clause-answers g c = λ w kept.
    let now = c.args.self.now in
    let add = c.in_ok-add-in-None.ensures in
    took_all now _ w c.requires kept c.in-None.ensures add.added add.most c.requires (no_part now.bytes now.end)
