use Rattle.std.proofs.Common.{rules, ◌≡◌, true, false, ℕ, List, ◌++◌, take, ap, subst, sym, ◌∙◌}
use Rattle.dbus_check.specs.Checks.{Stands, Takes}
use Rattle.dbus_check.specs.declared.check.Check.TheVariants as check
use Rattle.dbus_header.specs.MessageOutcomes.{IsPartial, IsRefused}
use Rattle.dbus_header.proofs.OutcomeLaws.{nothing_partial}
use Rattle.dbus_stream.specs.Gathering.{GathererState, Gathered, under_way, IsOneMessage}
use Rattle.dbus_stream.proofs.CutterSteps.{ends_later, one_message}
use Rattle.dbus_stream.proofs.gatherer.Gatherer.gather.Goals as goal
use Rattle.dbus_stream.proofs.gatherer.Gatherer.gather.Goals.{In-Done}

-- the checker found that a message ends in the piece, and what is held is a part of it only
found : (g : _) (c : In-Done g) → IsPartial c.self.inside.limits c.self.inside.held.items × Takes c.self.inside.limits c.self.inside.held.items c.args.piece.now (check.Done c.in-Done.count)
found g c =
    let held = c.self.inside.held.items in
    let open_ : c.self.inside.whole ≡ false = search rules in
    let stands : Stands c.self.inside.checker held = subst (λ b. Stands c.self.inside.checker (under_way b held)) open_ c.self.invariant.stands in (
      subst (λ b. IsPartial c.self.inside.limits (under_way b held)) open_ c.self.invariant.partial,
      subst (λ l. Takes l held c.args.piece.now (check.Done c.in-Done.count)) c.self.invariant.same_limits (c.in-Done.ensures.answers held stands),
    )

pub invariant_of-self-in-Done : goal.invariant_of-self-in-Done
invariant_of-self-in-Done g c =
    let limits = c.self.inside.limits in
    let held = c.self.inside.held.items in
    let piece = c.args.piece.now in
    let n = c.in-Done.count in
    let takes = (found g (goal.at.invariant_of-self-in-Done g c).In-Done).1 in
    let now_held : c.extend_from_slice-in-Done.new.self.items ≡ held ++ take n piece = search rules in
    record {
      partial = nothing_partial limits;
      stands = c.restart.ensures.stands;
      same_limits = c.restart.ensures.limits ∙ (c.take.ensures.limits ∙ c.self.invariant.same_limits);
      complete = λ _. subst (λ (b : List ℕ). IsOneMessage limits b) (sym now_held) (one_message limits held piece n takes.1 takes.2 takes.0 takes.3);
    }

pub returns-else-is_err-2 : goal.returns-else-is_err-2
returns-else-is_err-2 g c =
    let old = c.self.inside in
    let piece = c.args.piece.now in
    let n = c.in-Done.count in
    let there = found g (goal.at.returns-else-is_err-2 g c).In-Done in
    let takes = there.1 in
    let now_held : c.extend_from_slice-in-Done.new.self.items ≡ old.held.items ++ take n piece = search rules in
    let new : GathererState = record { limits = old.limits; held = c.extend_from_slice-in-Done.new.self.items; whole = true; lent = old.lent } in
    subst (λ (s : GathererState). Gathered s piece n new) c.self.view_is (record {
      fits = takes.0;
      some = ends_later old.limits old.held.items piece n takes.1 takes.2 there.0 takes.3;
      order = takes.1;
      message = takes.2;
      whole = takes.3;
      state = ap (λ (h : List ℕ). record { limits = old.limits; held = h; whole = true; lent = old.lent }) now_held;
    })

-- what is held shows no fault
pub returns-in-Refused : goal.returns-in-Refused
returns-in-Refused g c =
    let limits = c.self.inside.limits in
    let held = c.self.inside.held.items in
    let piece = c.args.piece.now in
    let fault = c.in-Refused.fault in
    let open_ : c.self.inside.whole ≡ false = search rules in
    let stands : Stands c.self.inside.checker held = subst (λ b. Stands c.self.inside.checker (under_way b held)) open_ c.self.invariant.stands in
    let partial : IsPartial limits held = subst (λ b. IsPartial limits (under_way b held)) open_ c.self.invariant.partial in
    let refused = subst (λ l. IsRefused l (held ++ piece) fault) c.self.invariant.same_limits (c.in-Refused.ensures.answers held stands) in (
      subst (λ (s : GathererState). IsRefused s.limits (s.held ++ piece) fault) c.self.view_is refused,
      subst (λ (s : GathererState). IsPartial s.limits s.held) c.self.view_is partial,
      c.self.view_is,
    )
