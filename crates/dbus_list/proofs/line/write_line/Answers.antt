use Rattle.std.proofs.Common.{[], rules, refl, subst}
use Rattle.dbus_show.proofs.FieldTexts.{then}
use Rattle.dbus_show.specs.Escapes.{visible}
use Rattle.dbus_list.specs.Cuts.{cut}
use Rattle.dbus_list.specs.Cutting.{HasCut}
use Rattle.dbus_list.specs.Lines.{line_of}
use Rattle.dbus_list.proofs.line.write_line.Goals as goal

pub returns : goal.returns
returns g c = λ m whole.
    let gains = g.D.Draft.gains in
    let w = c.write_joined.ensures m whole in
    let sees = w.2 in
    let more = sees.gained in
    let cuts = more.more c.args.draft.now c.args.width [] c.new-line.ensures.begins in
    let same = sees.same in
    let written = c.finish.ensures.written c.args.draft.now c.args.width (visible w.0) (subst (λ d. HasCut gains c.args.draft.now c.args.width (visible w.0) d) (search rules) cuts) in
    let below = more.same in
    (line_of c.args.width w.0, (w.0, w.1, refl), then gains g.met.D.Draft.joins (subst (λ d. gains c.args.draft.now (cut c.args.width (visible w.0)) d) (search rules) written) c.push_code.ensures)
