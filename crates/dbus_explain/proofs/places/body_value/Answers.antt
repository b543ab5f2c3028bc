use Rattle.std.proofs.Common.{refl, subst}
use Rattle.dbus_texts.specs.Types.{TypeTrees}
use Rattle.dbus_explain.specs.Places.{IsAmongNone}
use Rattle.dbus_explain.proofs.OneName.{types_one}
use Rattle.dbus_explain.proofs.Searching.{some_map}
use Rattle.dbus_explain.proofs.places.body_value.Goals as goal

pub returns-clause-some : goal.returns-clause-some
returns-clause-some c =
    let types = c.in_ok-types.ensures.some in
    some_map c.among.result (λ r found. let value = found types.0 types.1 types.2 in (types.0, value.0, types.3, value.1, value.2, value.3)) c.among.ensures.found

pub returns-in_err-types-clause-none : goal.returns-in_err-types-clause-none
returns-in_err-types-clause-none c = λ none ts is n u q h. c.in_err-types.ensures.none refl ts is

pub returns-clause-none : goal.returns-clause-none
returns-clause-none c = λ none ts is.
    let search = c.args.search.now in
    let types = c.in_ok-types.ensures.some in
    let same = types_one search.bytes.now search.at types.0 ts types.3 is in
    subst (λ (us : TypeTrees). IsAmongNone search.bytes.now search.at us c.args.body) same (c.among.ensures.none none types.0 types.1 types.2)
