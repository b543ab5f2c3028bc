use Rattle.std.proofs.Common.{refl}
use Rattle.dbus_texts.specs.Types.{sig}
use Rattle.dbus_explain.proofs.Entering.{in_variant}
use Rattle.dbus_explain.proofs.Searching.{single_typed}
use Rattle.dbus_explain.proofs.search.Search.inner.Goals as goal

pub returns-clause-leads : goal.returns-clause-leads
returns-clause-leads c =
    let spot = c.in_ok-spot.spot in
    let single = single_typed c.args.self.now.bytes.now c.args.self.now.at c.args.place spot.types.now spot.place c.in_ok-spot.ensures.typed in
    (single.0, single.1, single.2, (c.in_ok-spot.ensures.within, single.3))

pub returns-in_err-spot-clause-none : goal.returns-in_err-spot-clause-none
returns-in_err-spot-clause-none c = λ none step u q h.
    let found = in_variant c.args.self.now.bytes.now c.args.self.now.at c.args.place step u q h in
    c.in_err-spot.ensures.none refl (sig u) q found.0 found.1
