use Rattle.std.proofs.Common.{ap, codes, decimal, ◌++◌, subst}
use Rattle.std.specs.Option.{unwrap_or}
use Rattle.dbus_show.proofs.FieldTexts.{then}
use Rattle.dbus_show.proofs.show.write_kind.Goals as goal

pub returns-in-Some : goal.returns-in-Some
returns-in-Some g c =
    let named = ap (λ o. unwrap_or o (codes "kind" ++ decimal c.args.kind)) c.in-Some.ensures in
    subst (λ s. g.D.Draft.gains c.args.draft.now s c.push_str.new.self) named c.push_str.ensures

pub returns-in-None : goal.returns-in-None
returns-in-None g c =
    let numbered = ap (λ o. unwrap_or o (codes "kind" ++ decimal c.args.kind)) c.in-None.ensures in
    subst (λ s. g.D.Draft.gains c.args.draft.now s c.write_integer.new.draft) numbered (then g.D.Draft.gains g.met.D.Draft.joins c.push_str-in-None.ensures c.write_integer.ensures)
