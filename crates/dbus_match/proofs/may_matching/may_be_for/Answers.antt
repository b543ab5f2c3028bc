use Rattle.std.proofs.Common.{ℕ, List, Option, option_map, subst}
use Rattle.std.specs.Bool.{Decides}
use Rattle.dbus_match.specs.Matching.{IsThere}
use Rattle.dbus_match.specs.TakenFor.{AreOne, for_whom, text_at}
use Rattle.dbus_match.proofs.TakenFor.{text_seen}
use Rattle.dbus_match.proofs.may_matching.may_be_for.Goals as goal

pub returns : goal.returns
returns g c = λ m w.
    let P : List ℕ → Type 0 = λ v. AreOne (g.O.KnownOwners.known c.args.owners.now) c.args.name.now v in
    let e = text_seen (λ s. s.now) c.destination.result (text_at 6 m) (c.destination.ensures m w) in
    let h = subst (λ (k : ℕ). Decides c.is_for.result (IsThere (for_whom k (option_map (λ s. s.now) c.destination.result)) P)) (c.kind.ensures m w) c.is_for.ensures in
    subst (λ (o : Option (List ℕ)). Decides c.is_for.result (IsThere (for_whom m.kind o) P)) e h
