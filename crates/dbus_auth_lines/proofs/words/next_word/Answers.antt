use Rattle.dbus_auth_lines.proofs.Spaces.{next_word_at}
use Rattle.dbus_auth_lines.proofs.words.next_word.Goals as goal

pub returns-clause-place : goal.returns-clause-place
returns-clause-place c =
    let left = c.words_from-left in
    let word = c.word_len.ensures in
    next_word_at c.args.line.now c.rest_of.result.now c.args.from left.result.at left.result.length c.word_len.result c.rest_of.ensures left.ensures.place c.if-left-eq0.false word.no_space word.ends word.within
