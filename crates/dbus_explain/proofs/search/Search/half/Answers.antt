use Rattle.std.proofs.Common.{ℕ, ◌+◌, ◌<◌, ◌≤◌, arith, refl, sym, subst}
use Rattle.dbus_texts.specs.Types.{EntryType, NoTypes, MoreTypes}
use Rattle.dbus_value_model.specs.Bytes.{gap_to}
use Rattle.dbus_explain.specs.Places.{IsAmong}
use Rattle.dbus_explain.proofs.Entering.{in_entry}
use Rattle.dbus_explain.proofs.Searching.{key_entered, value_entered}
use Rattle.dbus_explain.proofs.search.Search.half.Goals as goal
use Rattle.dbus_explain.proofs.search.Search.half.Goals.{then-index-eq0, else-index-eq0}

pub returns-clause-leads : goal.returns-clause-leads
returns-clause-leads c = λ k v is shaped.
    let self = c.args.self.now in
    let n = c.in_ok-index.index in
    let spot = c.in_ok-index.spot in
    let step = c.if-index-eq0.step in
    let found = c.in_ok-index.ensures.found (MoreTypes k (MoreTypes v NoTypes)) is shaped in
    let gap = c.in_ok-place.ensures.gap (EntryType k v) refl in
    let begun = subst (λ (p : ℕ). p ≤ self.at) gap c.in_ok-place.ensures.within in
    let among = subst (λ (p : ℕ). IsAmong self.bytes.now self.at (MoreTypes k (MoreTypes v NoTypes)) p n found.0 spot.place) gap found.3 in (
      found.0,
      found.1,
      found.2,
      elim c.if-index-eq0.branch [
        | then-index-eq0 w ↦ key_entered self.bytes.now self.at k v found.0 c.args.place n spot.place step w.if-index-eq0.true w.step-is begun among
        | else-index-eq0 w ↦ value_entered self.bytes.now self.at k v found.0 c.args.place n spot.place step w.if-index-eq0.false w.step-is begun among
      ],
    )

pub returns-in_err-place-clause-none : goal.returns-in_err-place-clause-none
returns-in_err-place-clause-none c = λ none k v is shaped step u q h.
    let self = c.args.self.now in
    let found = in_entry self.bytes.now self.at k v c.args.place step u q h in
    let far : self.at < c.args.place + gap_to 8 c.args.place = c.in_err-place.ensures.none refl (EntryType k v) refl in
    omega (arith, found.0, far)

pub returns-in_err-index-clause-none : goal.returns-in_err-index-clause-none
returns-in_err-index-clause-none c = λ none k v is shaped step u q h.
    let self = c.args.self.now in
    let ts = MoreTypes k (MoreTypes v NoTypes) in
    let found = in_entry self.bytes.now self.at k v c.args.place step u q h in
    let gap = c.in_ok-place.ensures.gap (EntryType k v) refl in
    c.in_err-index.ensures.none refl ts is shaped found.1 u q (subst (λ (p : ℕ). IsAmong self.bytes.now self.at ts p found.1 u q) (sym gap) found.2)
