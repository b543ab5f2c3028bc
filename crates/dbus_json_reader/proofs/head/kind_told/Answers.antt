use Rattle.std.proofs.Common.{◌≡◌, codes, refl, sym, ap, ◌∙◌, subst}
use Rattle.std.proofs.lemmas.Option.{same_Some}
use Rattle.json.specs.Value.{value_view}
use Rattle.dbus_json_reader.specs.JsonMembers.{SpellsKind}
use Rattle.dbus_json_reader.specs.JsonRules.{kind_reason}
use Rattle.dbus_json_reader.proofs.Shown.{value_shows}
use Rattle.dbus_json_reader.proofs.head.kind_told.Goals as goal

pub returns-in-None-clause-refused : goal.returns-in-None-clause-refused
returns-in-None-clause-refused g c = λ kind fits type told spelled.
    let same : type ≡ value_view c.in-Some.value.now = same_Some _ _ (sym told ∙ sym c.in-Some.ensures) in
    c.in-None.ensures.none refl kind fits (subst (SpellsKind kind) same spelled)

pub returns-in-None-clause-shown : goal.returns-in-None-clause-shown
returns-in-None-clause-shown g c = λ type told.
    let same : value_view c.in-Some.value.now ≡ type = same_Some _ _ (c.in-Some.ensures ∙ told) in
    value_shows (codes "type") kind_reason (value_view c.args.json.now) type c.at_value.result c.no_kind.result (c.no_kind.ensures.reason ∙ ap kind_reason same) (c.at_value.ensures type told)
