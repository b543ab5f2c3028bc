use Rattle.std.proofs.Common.{◌≡◌, ◌&&◌, not, is_some, ap, ◌∙◌, refl, rules, sym}
use Rattle.std.proofs.Math.Path.{transport}
use Rattle.dbus_call_lines.specs.CallLines.{front}
use Rattle.dbus_call_lines.specs.Listing.{rows_text}
use Rattle.dbus_call_lines.proofs.Written.{are_lines}
use Rattle.cli_run.specs.CallListing.{notes}
use Rattle.cli_run.proofs.call_listing.CallRendererEndRenderer.finish.Goals as goal

pub returns-clause-ends : goal.returns-clause-ends
returns-clause-ends g c = λ s there.
    let h = c.in-Ok-finish.ensures.lists s.wanted s.before there.keeps there.rising in
    let lent = h.2.0 in
    let goes = h.2.1 in
    let back : c.finish.new.sink.draft.draft.now ≡ c.draft-1.given.0 = search rules in
    let lacks = (λ i. c.is_some.ensures i && not c.args.self.timed) ∙ (λ i. is_some (sym there.wanted_is i).slower && not (sym there.timed_is i)) in (
      rows_text s.wanted h.0,
      ((h.0, h.1, refl), (c.stray_replies.result, c.stray_replies.ensures front s.wanted s.before there.keeps, c.in-Ok.ensures ∙ ap (λ b. notes b c.stray_replies.result) lacks)),
      transport (λ i. g.D.Draft.gains c.args.draft.now (are_lines s.wanted h.0 i) (back i)) goes,
    )
