use Rattle.std.proofs.Common.{◌≡◌, List, ℕ, ◌<◌, [], ◌∷◌, ◌++◌, length, refl, subst, arith}
use Rattle.std.proofs.lemmas.List.{length-append}
use Rattle.dbus_show.proofs.FieldTexts.{then}
use Rattle.dbus_explain.proofs.Searching.{ends_there, goes_on, text_more}
use Rattle.dbus_explain.proofs.places.write_steps.Goals as goal

pub loop-init : goal.loop-init
loop-init g c = ([], g.met.D.Draft.nothing c.args.draft.now, refl, λ t is shaped. (t, is, shaped, λ more u q path. path))

pub loop-preserved : goal.loop-preserved
loop-preserved g c =
    let before = c.loop.invariant in
    let search = c.args.search.now in
    let step = c.in-Some.step in (
      before.0 ++ step ∷ [],
      subst (λ (s : List ℕ). g.D.Draft.gains c.args.draft.now s c.write_step.new.draft) (text_more before.0 step) (then g.D.Draft.gains g.met.D.Draft.joins before.1 c.write_step.ensures),
      omega (arith, before.2, length-append before.0 (step ∷ [])),
      λ t is shaped.
          let from = before.3 t is shaped in
          let leads = c.in-Some.ensures.leads from.0 from.1 from.2 in
          (leads.0, leads.1, leads.2, goes_on search.bytes.now search.at t c.args.value.place before.0 from.0 c.loop.spot.place step leads.0 c.in-Some.inside.place from.3 leads.3),
    )

pub returns-in_default : goal.returns-in_default
returns-in_default g c =
    let before = c.loop.invariant in
    let search = c.args.search.now in
    let count : length before.0 < 128 = omega (arith, before.2) in (
      before.0,
      before.1,
      λ t is shaped.
          let from = before.3 t is shaped in (
            from.0,
            from.1,
            record {
              path = ends_there search.bytes.now search.at t c.args.value.place before.0 from.0 c.loop.spot.place from.3;
              few = omega (arith, count);
              ends = λ less. c.entered.ensures.none c.in_default.is from.0 from.1 from.2;
            },
          ),
    )

pub returns : goal.returns
returns g c =
    let before = c.loop.invariant in
    let search = c.args.search.now in
    let all : length before.0 ≡ 128 = omega (arith, before.2, c.loop-test.false, c.loop.auto.counter-end) in (
      before.0,
      before.1,
      λ t is shaped.
          let from = before.3 t is shaped in (
            from.0,
            from.1,
            record {
              path = ends_there search.bytes.now search.at t c.args.value.place before.0 from.0 c.loop.spot.place from.3;
              few = omega (arith, all);
              ends = λ less. omega (arith, less, all);
            },
          ),
    )
