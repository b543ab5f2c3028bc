use Rattle.std.proofs.Common.{◌≡◌, ◌++◌, List, ℕ, ap, codes, subst}
use Rattle.dbus_show.proofs.FieldTexts.{then}
use Rattle.cli_encode.specs.Rules.{words_of}
use Rattle.cli_encode.proofs.rules.write_words.Goals as goal

pub returns-in-OfName : goal.returns-in-OfName
returns-in-OfName g c =
    let gains = g.D.Draft.gains in
    let joins = g.met.D.Draft.joins in
    let whole : c.rule_of-in-OfName.result.now ++ (codes "; " ++ c.rule_of-in-OfName-2.result.now) ≡ words_of c.args.rule =
    let is = ap words_of c.in-OfName.is in
    let rule = c.rule_of-in-OfName.ensures.text in
    let also = c.rule_of-in-OfName-2.ensures.text in
    cc in
    subst (λ (t : List ℕ). gains c.args.draft.now t c.push_str-in-OfName-3.new.self) whole
    (then gains joins c.push_str-in-OfName.ensures (then gains joins c.push_str-in-OfName-2.ensures c.push_str-in-OfName-3.ensures))
