use Rattle.std.proofs.Common.{◌≡◌, ◌+◌, List, [], ◌∷◌, ◌++◌, take, get_or, rules, sym, ap, ◌∙◌, string_bytes}
use Rattle.std.specs.FinSet.{from_list, insert}
use Rattle.std.proofs.lemmas.List.{map_more, take_all}
use Rattle.std.specs.declared.alloc.Global.{Global}
use Rattle.dbus_match.specs.declared.owner.Owner.{Owner}
use Rattle.dbus_match.specs.Matching.{Ownership, ownership, ownerships}
use Rattle.dbus_rule_set.proofs.OwnerSets.{more_owners}
use Rattle.cli_run.proofs.picking.owners_of.Goals as goal

pub loop-owner-preserved : goal.loop-owner-preserved
loop-owner-preserved c =
    let owners = c.args.owners.now in
    let i = c.loop-owner.owner-index in
    let owner = c.owner-item.result in
    let before = ownerships (take i owners) in
    let name : c.as_str.result.now ≡ string_bytes owner.name = search rules in
    let unique : c.as_str-in-loop-owner.result.now ≡ string_bytes owner.unique = search rules in
    let at : get_or owners i owner ≡ owner = search rules in
    let more : ownerships (take (i + 1) owners) ≡ before ++ ownership owner ∷ [] = map_more ownership owners i owner (search rules) ∙ ap (λ (o : Owner Global). before ++ ownership o ∷ []) at in
    c.in_ok-add.ensures.added
    ∙ ((λ j. insert (c.loop-owner.invariant j) (record { name = name j; unique = unique j }))
    ∙ (sym (more_owners before (ownership owner)) ∙ ap (λ (os : List Ownership). from_list os) (sym more)))

pub returns : goal.returns
returns c = c.loop-owner.invariant ∙ ap (λ os. from_list (ownerships os)) (take_all c.loop-owner.owner-index c.args.owners.now (search rules))
