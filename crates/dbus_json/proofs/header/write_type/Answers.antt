use Rattle.std.proofs.Common.{ap, decimal, option_map, subst}
use Rattle.std.specs.Option.{unwrap_or}
use Rattle.dbus_show.proofs.FieldTexts.{then}
use Rattle.dbus_json.specs.JsonValues.{plain}
use Rattle.dbus_json.proofs.header.write_type.Goals as goal

pub returns-in-Some : goal.returns-in-Some
returns-in-Some g c =
    let named = ap (λ o. unwrap_or (option_map plain o) (decimal c.args.kind)) c.in-Some.ensures in
    subst (λ s. g.D.Draft.gains c.args.draft.now s c.push_code-in-Some.new.self) named (then g.D.Draft.gains g.met.D.Draft.joins c.push_code.ensures (then g.D.Draft.gains g.met.D.Draft.joins c.push_str.ensures c.push_code-in-Some.ensures))

pub returns-in-None : goal.returns-in-None
returns-in-None g c =
    let numbered = ap (λ o. unwrap_or (option_map plain o) (decimal c.args.kind)) c.in-None.ensures in
    subst (λ s. g.D.Draft.gains c.args.draft.now s c.write_integer.new.draft) numbered c.write_integer.ensures
