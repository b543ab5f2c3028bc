use Rattle.std.proofs.Common.{inr, ⊎_elim, sym, ◌∙◌}
use Rattle.std.proofs.lemmas.Bool.{false≢true}
use Rattle.dbus_match.specs.Matching.{ownerships}
use Rattle.dbus_match.proofs.TakenFor.{one_by, one_found}
use Rattle.dbus_match.proofs.known_owners.RefSliceOwnerKnownOwners.are_one.Goals as goal

pub returns-else-names_in : goal.returns-else-names_in
returns-else-names_in g c =
    let os = ownerships c.args.self.now.now in (
      λ t. one_by os c.args.name.now c.args.other.now (inr (c.shares.ensures.0 t)),
      λ h. ⊎_elim (λ n. absurd (false≢true (sym c.if-names_in.false ∙ c.names_in.ensures.1 n))) c.shares.ensures.1 (one_found os c.args.name.now c.args.other.now h),
    )
