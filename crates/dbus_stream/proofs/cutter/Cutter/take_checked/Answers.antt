use Rattle.std.proofs.Common.{◌≡◌, ◌+◌, ◌++◌, None, ℕ, List, length, take, refl, sym, ap, subst, ◌∙◌}
use Rattle.std.proofs.lemmas.List.{length-append}
use Rattle.dbus_message_model.specs.MessageViews.{message_tree}
use Rattle.dbus_header.specs.MessageOutcomes.{IsWhole}
use Rattle.dbus_header.proofs.OutcomeLaws.{nothing_partial}
use Rattle.dbus_stream.specs.Cutting.{CutterState, fresh}
use Rattle.dbus_stream.specs.Gathering.{GathererState, Gathered, IsUnderWay, begun, IsOneMessage}
use Rattle.dbus_stream.proofs.CutterSteps.{one_message, begins_with}
use Rattle.dbus_stream.proofs.cutter.Cutter.take_checked.Goals as goal
use Rattle.dbus_stream.proofs.cutter.Cutter.take_checked.Goals.{In-Ok-Some}

-- the message ends within the piece, and is held
gathered : (g : _) (c : In-Ok-Some g) → Gathered c.self.inside.gatherer c.args.piece.now c.in-Ok-Some.count c.gather.new.self
gathered g c = rw c.in-Ok-Some.field-0-is at c.in-Ok-Some.ensures

pub decode_known-requires : goal.decode_known-requires
decode_known-requires g c =
    let old = c.self.inside.gatherer in
    let piece = c.args.piece.now in
    let n = c.in-Ok-Some.count in
    let e = gathered g (goal.at.decode_known-requires g c).In-Ok-Some in
    let limits_are = c.limits-limits.ensures ∙ ap (λ (s : GathererState). s.limits) e.state in
    let bytes_are = c.bytes.ensures ∙ ap (λ (s : GathererState). s.held) e.state in
    record {
      known =
          subst (λ l. IsOneMessage l c.bytes.result.now) (sym limits_are)
          (subst (λ (b : List ℕ). IsOneMessage old.limits b) (sym bytes_are) (one_message old.limits old.held piece n e.order e.message e.fits e.whole));
    }

pub invariant_of-self : goal.invariant_of-self
invariant_of-self g c =
    let e = gathered g (goal.at.invariant_of-self g c).In-Ok-Some in
    let empty = c.begin.ensures ∙ ap begun e.state in
    subst IsUnderWay (sym empty) (record { partial = nothing_partial c.self.inside.gatherer.limits; not_whole = refl; unlent = refl })

pub returns-in-Ok : goal.returns-in-Ok
returns-in-Ok g c =
    let old = c.self.inside.gatherer in
    let piece = c.args.piece.now in
    let n = c.in-Ok-Some.count in
    let order = c.in-Ok.given.0 in
    let m = message_tree c.in-Ok.given.1 in
    let e = gathered g (goal.at.returns-in-Ok g c).In-Ok-Some in
    let limits_are = c.limits-limits.ensures ∙ ap (λ (s : GathererState). s.limits) e.state in
    let bytes_are = c.bytes.ensures ∙ ap (λ (s : GathererState). s.held) e.state in
    let all = old.held ++ take n piece in
    let own : IsWhole old.limits all order m (length all) = subst (λ (b : List ℕ). IsWhole old.limits b order m (length b)) bytes_are (subst (λ l. IsWhole l c.bytes.result.now order m (length c.bytes.result.now)) limits_are c.in-Ok.ensures.decoded) in
    let whole = begins_with old.limits old.held piece n order m e.fits (subst (λ k. IsWhole old.limits all order m k) (length-append old.held (take n piece)) own) in
    let empty = c.begin.ensures ∙ ap begun e.state in
    let open_ : c.self.inside.fault ≡ None = ap (λ (s : CutterState). s.fault) c.self.view_is ∙ c.requires in
    let state : (record { limits = c.begin.new.self.limits; held = c.begin.new.self.held; fault = c.self.inside.fault }) ≡ fresh old.limits = λ i. record { limits = (empty i).limits; held = (empty i).held; fault = open_ i } in (
      subst (λ (s : CutterState). IsWhole s.limits (s.held ++ piece) order m (length s.held + n)) c.self.view_is whole,
      state ∙ ap (λ (s : CutterState). fresh s.limits) c.self.view_is,
    )
