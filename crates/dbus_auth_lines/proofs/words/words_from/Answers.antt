use Rattle.std.proofs.Common.{refl}
use Rattle.dbus_auth_lines.proofs.Spaces.{next_words_at}
use Rattle.dbus_auth_lines.proofs.words.words_from.Goals as goal

pub returns-clause-place : goal.returns-clause-place
returns-clause-place c =
    let found = c.space_count.ensures in
    next_words_at c.args.line.now c.rest_of.result.now c.args.from c.space_count.result _ c.rest_of.ensures found.spaces found.begins c.requires found.within refl
