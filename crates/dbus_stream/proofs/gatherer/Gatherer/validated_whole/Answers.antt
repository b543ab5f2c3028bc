use Rattle.std.proofs.Common.{rules, ◌≡◌, ℕ, List, true, subst, sym}
use Rattle.dbus_validate.specs.Validating.{IsValidatedWhole}
use Rattle.dbus_stream.specs.Gathering.{GathererState, IsOneMessage}
use Rattle.dbus_stream.proofs.gatherer.Gatherer.validated_whole.Goals as goal

pub validate_known-requires : goal.validate_known-requires
validate_known-requires g c =
    let held = c.self.inside.held.items in
    let whole : c.self.inside.whole ≡ true = search rules in
    let same : c.as_slice.result.now ≡ held = search rules in
    record { known = subst (λ (b : List ℕ). IsOneMessage c.self.inside.limits b) (sym same) (c.self.invariant.complete whole) }

pub returns : goal.returns
returns g c =
    let held = c.self.inside.held.items in
    let same : c.as_slice.result.now ≡ held = search rules in
    let validated : IsValidatedWhole c.self.inside.limits held c.validate_known.result = subst (λ (b : List ℕ). IsValidatedWhole c.self.inside.limits b c.validate_known.result) same c.validate_known.ensures.validated in
    subst (λ (s : GathererState). IsValidatedWhole s.limits s.held c.validate_known.result) c.self.view_is validated
