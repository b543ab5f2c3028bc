use Rattle.std.proofs.Common.{◌||◌, is_some, length, sym, subst, ◌∙◌}
use Rattle.dbus_view.specs.Views.{ViewState, Views}
use Rattle.cli_run.specs.CallLaws.{or_false}
use Rattle.cli_run.proofs.SumSteps.{sums_one, some_of_one}
use Rattle.cli_run.proofs.OutputSteps.{views_it}
use Rattle.cli_run.proofs.call_summing.SumRendererRenderer.take.Goals as goal

pub returns-in_default-clause-renders : goal.returns-in_default-clause-renders
returns-in_default-clause-renders g c = λ order m whole s there up. some_of_one s order m c.args.lent.now.place (length c.args.lent.now.bytes.now) up

pub returns-then-is_short-clause-renders : goal.returns-then-is_short-clause-renders
returns-then-is_short-clause-renders g c = λ order m whole s there up. some_of_one s order m c.args.lent.now.place (length c.args.lent.now.bytes.now) up

pub returns-clause-renders : goal.returns-clause-renders
returns-clause-renders g c = λ order m whole s there up.
    let views = views_it c.args.lent.now.limits c.args.lent.now.bytes.now c.of_validated-view.result order m c.of_validated-view.ensures.viewed whole in
    let seen : Views c.of-message.result order m = subst (λ (v : ViewState). Views v order m) (sym c.of-message.ensures) views in
    let h = c.in-Ok.ensures.takes order m seen s.wanted s.before there.knows.keeps up in
    let all = sym c.is_short.ensures ∙ c.if-is_short.false in
    sums_one s order m c.args.lent.now.place (length c.args.lent.now.bytes.now) _ h.1 h.2 (
      record {
        wanted_is = there.wanted_is;
        timed_is = (λ i. there.timed_is i || sym (c.is_some.ensures ∙ or_false (is_some c.args.lent.now.place.time)) i);
        knows = record { keeps = h.0; sums = h.3.adds all s.earlier there.knows.sums; all = all };
        rising = up;
      },
      g.met.D.Draft.nothing c.args._draft.now,
    )
