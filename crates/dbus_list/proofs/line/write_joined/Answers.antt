use Rattle.std.proofs.Common.{[], rules, subst}
use Rattle.dbus_list.proofs.line.write_joined.Goals as goal

pub returns : goal.returns
returns g c = λ m whole.
    let w = c.write_text.ensures m whole in
    let more = w.2 in
    let same = more.same in
    let has = more.more c.args.draft.now [] c.new-joined.ensures.begins in
    let written = c.finish.ensures.written c.args.draft.now w.0 has in
    (w.0, w.1, subst (λ d. g.D.Draft.gains c.args.draft.now w.0 d) (search rules) written)
