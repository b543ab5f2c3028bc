use denote.Ref.{Bor}
use Rattle.std.proofs.Common.{List, ℕ, Option, IfSome, option_map, sym, subst}
use Rattle.dbus_rule_set.specs.Places.{Covers, IsAmong, IsFront}
use Rattle.dbus_rule_set.specs.TextNumbers.{text_hash}
use Rattle.dbus_rule_set.proofs.met.fronts_of.Goals as goal

pub returns-in-Some : goal.returns-in-Some
returns-in-Some c =
    let s = c.args.separator in
    subst (λ (o : Option (Bor (List ℕ))). IfSome c.fronts.result (λ hashes. Covers (option_map (λ t. t.now) o) (λ v w. IsFront s v w) (λ v. v) hashes.items)) (sym c.in-Some.is)
    (subst (λ (w : List ℕ). IfSome c.fronts.result (λ hashes. (u : List ℕ) → IsFront s u w → IsAmong (text_hash u) hashes.items)) c.as_bytes.ensures.value c.fronts.ensures)
