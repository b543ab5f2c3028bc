use Rattle.std.proofs.Common.{ℕ, ◌+◌, ◌<◌, ◌≤◌, arith, refl, sym, subst}
use Rattle.dbus_texts.specs.Types.{StructType}
use Rattle.dbus_value_model.specs.Bytes.{gap_to}
use Rattle.dbus_explain.specs.Places.{IsAmong}
use Rattle.dbus_explain.proofs.Entering.{in_struct}
use Rattle.dbus_explain.proofs.search.Search.member.Goals as goal

pub returns-clause-leads : goal.returns-clause-leads
returns-clause-leads c = λ ts is shaped.
    let self = c.args.self.now in
    let found = c.in_ok-index.ensures.found ts is shaped in
    let gap = c.in_ok-place.ensures.gap (StructType ts) refl in (
      found.0,
      found.1,
      found.2,
      (
        subst (λ (p : ℕ). p ≤ self.at) gap c.in_ok-place.ensures.within,
        subst (λ (p : ℕ). IsAmong self.bytes.now self.at ts p c.in_ok-index.index found.0 c.in_ok-index.spot.place) gap found.3,
      ),
    )

pub returns-in_err-place-clause-none : goal.returns-in_err-place-clause-none
returns-in_err-place-clause-none c = λ none ts is shaped step u q h.
    let self = c.args.self.now in
    let found = in_struct self.bytes.now self.at ts c.args.place step u q h in
    let far : self.at < c.args.place + gap_to 8 c.args.place = c.in_err-place.ensures.none refl (StructType ts) refl in
    omega (arith, found.0, far)

pub returns-in_err-index-clause-none : goal.returns-in_err-index-clause-none
returns-in_err-index-clause-none c = λ none ts is shaped step u q h.
    let self = c.args.self.now in
    let found = in_struct self.bytes.now self.at ts c.args.place step u q h in
    let gap = c.in_ok-place.ensures.gap (StructType ts) refl in
    c.in_err-index.ensures.none refl ts is shaped found.1 u q (subst (λ (p : ℕ). IsAmong self.bytes.now self.at ts p found.1 u q) (sym gap) found.2)
