use Rattle.std.proofs.Common.{◌≡◌, true, false, None, Some, if◌then◌else◌, option_map, string_bytes, sym, ap, ◌∙◌, arith}
use Rattle.std.specs.BTreeMap.{get_by_text}
use Rattle.std.specs.FinSet.{contains}
use Rattle.std.proofs.lemmas.Map.Text.{text_keys}
use Rattle.dbus_rule_set.proofs.OwnerSets.{pair}
use Rattle.dbus_names.specs.NameStates.{if_had}
use Rattle.dbus_names.proofs.first_names.FirstNames.of.Goals as goal

pub returns-then-contains : goal.returns-then-contains
returns-then-contains c =
    let os = c.args.owners.now in
    let unique = c.args.unique.now in
    let name = string_bytes c.in_ok-name.name.now in
    let found : get_by_text c.args.self.now.names unique ≡ Some c.in_ok-name.name.now = grind (arith, text_keys) in
    let had : contains os (pair name unique) ≡ true = grind (arith, c.in_ok-names.ensures name) in
    ap (λ text. Some text) c.as_str-then-contains.ensures.value
    ∙ sym (ap (λ o. if_had os unique (option_map string_bytes o)) found ∙ ap (λ b. if b then Some name else None) had)

pub returns-else-contains : goal.returns-else-contains
returns-else-contains c =
    let os = c.args.owners.now in
    let unique = c.args.unique.now in
    let name = string_bytes c.in_ok-name.name.now in
    let found : get_by_text c.args.self.now.names unique ≡ Some c.in_ok-name.name.now = grind (arith, text_keys) in
    let had : contains os (pair name unique) ≡ false = grind (arith, c.in_ok-names.ensures name) in
    sym (ap (λ o. if_had os unique (option_map string_bytes o)) found ∙ ap (λ b. if b then Some name else None) had)
