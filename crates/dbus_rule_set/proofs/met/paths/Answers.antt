use denote.Ref.{Bor}
use Rattle.std.proofs.Common.{List, ℕ, Option, IfSome, option_map, sym, subst}
use Rattle.std.proofs.lemmas.Bool.{both_ways}
use Rattle.dbus_match.specs.Matching.{PathsMeet}
use Rattle.dbus_rule_set.specs.Places.{Covers, IsAmong, trimmed}
use Rattle.dbus_rule_set.specs.TextNumbers.{text_hash}
use Rattle.dbus_rule_set.proofs.Fronts.{path_front, some_along}
use Rattle.dbus_rule_set.proofs.met.paths.Goals as goal

pub returns : goal.returns
returns c =
    let bytes = c.as_bytes-bytes.result.now in
    let all = some_along c.fronts.result (λ hashes met v meets. met (trimmed v) (path_front v bytes (λ ends. both_ways c.ends_in_slash.result c.if-ends_in_slash.false (c.ends_in_slash.ensures.1 ends)) meets)) c.fronts.ensures in
    subst (λ (o : Option (Bor (List ℕ))). IfSome c.fronts.result (λ hashes. Covers (option_map (λ t. t.now) o) (λ v w. PathsMeet v w) trimmed hashes.items)) (sym c.in-Some.is)
    (subst (λ (w : List ℕ). IfSome c.fronts.result (λ hashes. (v : List ℕ) → PathsMeet v w → IsAmong (text_hash (trimmed v)) hashes.items)) c.as_bytes-bytes.ensures.value all)
