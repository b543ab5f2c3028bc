use Rattle.std.proofs.Common.{rules, ◌≡◌, arith, chars, length, replicate, subst}
use Rattle.std.proofs.lemmas.List.{replicate-append-replicate}
use Rattle.std.proofs.lemmas.Str.{chars_from_encodes}
use Rattle.dbus_show.proofs.FieldTexts.{then}
use Rattle.dbus_explain.proofs.blanks.write_blanks.Goals as goal

pub loop-preserved : goal.loop-preserved
loop-preserved g c = subst (λ s. g.D.Draft.gains c.args.draft.now s c.push_code.new.self) (replicate-append-replicate c.loop.counter 1 32) (then g.D.Draft.gains g.met.D.Draft.joins c.loop.invariant c.push_code.ensures)

pub returns : goal.returns
returns g c =
    let all : c.count-end.result ≡ length (chars c.args.text.now) = search (rules, chars_from_encodes) in
    let end : c.loop.counter ≡ length (chars c.args.text.now) = omega (arith, c.loop-test.false, c.loop.auto.counter-end, all) in
    subst (λ n. g.D.Draft.gains c.args.draft.now (replicate n 32) c.loop.draft) end c.loop.invariant
