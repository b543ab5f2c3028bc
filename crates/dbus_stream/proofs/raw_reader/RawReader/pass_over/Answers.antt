use Rattle.std.proofs.Common.{rules, ◌≡◌, ◌++◌, List, ℕ, arith, length, length-append, refl, sym, ap, ◌∙◌, subst, inl, inr}
use Rattle.std.proofs.lemmas.Bool.{false≢true}
use Rattle.std.specs.List.{slice_range}
use Rattle.dbus_value_model.specs.declared.limits.Limits.{Limits}
use Rattle.dbus_stream.specs.Dropping.{AreInside, HasDropped}
use Rattle.dbus_stream.specs.Gathering.{GathererState, under_way}
use Rattle.dbus_stream.specs.RawReading.{limits_of, stopped_of}
use Rattle.dbus_stream.specs.Rooms.{put_or}
use Rattle.dbus_stream.proofs.PacketSteps.{still}
use Rattle.dbus_stream.proofs.PassSteps.{after_pass, inside_held, passing, refusal_is, refusal_of}
use Rattle.dbus_stream.proofs.SizeSteps.{inside_same, witness}
use Rattle.dbus_stream.proofs.raw_reader.RawReader.pass_over.Goals as goal

pub returns-then-not-is_refusal-clause-passes : goal.returns-then-not-is_refusal-clause-passes
returns-then-not-is_refusal-clause-passes g c =
    inr (λ fault gone refusal has. absurd (false≢true (sym c.if-not-is_refusal.true ∙ (c.is_refusal.ensures ∙ refusal_is (stopped_of c.args.self.now) fault refusal))), refl, refl)

pub returns-then-states_none-clause-passes : goal.returns-then-states_none-clause-passes
returns-then-states_none-clause-passes g c = inr (λ fault gone refusal has. c.states_none.ensures c.if-states_none.true gone has, refl, refl)

pub pass_over-requires-clause-counted : goal.pass_over-requires-clause-counted
pass_over-requires-clause-counted g c =
    let r = c.args.self.now in
    let w = witness r.refused (let all : length r.refused.front ≡ 16 = search rules in all) in
    let one = (c.drop_bytes.ensures.dropped w.0 w.1).count in
    let first = w.1.count in
    let both = length-append w.0 c.under_way.result.now in
    let held = ap length c.under_way.ensures.bytes in
    omega (arith, one, first, both, held, r.held_counted, r.dropped_counted)

pub pass_over-requires-clause-inside : goal.pass_over-requires-clause-inside
pass_over-requires-clause-inside g c = λ gone has.
    let r = c.args.self.now in
    let w = witness r.refused (let all : length r.refused.front ≡ 16 = search rules in all) in
    let held = under_way r.reader.taker.whole r.reader.taker.held in
    let one = subst (λ (l : List ℕ). HasDropped c.drop_bytes.new.self (w.0 ++ l)) c.under_way.ensures.bytes (c.drop_bytes.ensures.dropped w.0 w.1) in
    let inside = inside_held r w.0 w.1 (subst (AreInside (limits_of r)) c.under_way.ensures.bytes (c.drop_bytes.ensures.inside (limits_of r) c.under_way.ensures.partial)) in
    let same = c.limits-limits.ensures ∙ ap (λ (t : GathererState). t.limits) c.let_go.ensures in
    rw same (inside_same c.drop_bytes.new.self (limits_of r) (w.0 ++ held) gone one has inside)

pub invariant_of-self-4 : goal.invariant_of-self-4
invariant_of-self-4 g c =
    let r = c.args.self.now in
    let w = witness r.refused (let all : length r.refused.front ≡ 16 = search rules in all) in
    let held = under_way r.reader.taker.whole r.reader.taker.held in
    let one = subst (λ (l : List ℕ). HasDropped c.drop_bytes.new.self (w.0 ++ l)) c.under_way.ensures.bytes (c.drop_bytes.ensures.dropped w.0 w.1) in
    let same = c.limits-limits.ensures ∙ ap (λ (t : GathererState). t.limits) c.let_go.ensures in
    let met = sym c.is_refusal.ensures ∙ c.if-not-is_refusal.false in
    let passed = c.pass_over.ensures.passes (w.0 ++ held) one in
    let a = after_pass c.limits-limits.result (w.0 ++ held) _ _ c.pass_over.new.self c.pass_over.new.refused met c.pass_over.result passed.1 in
    let fresh = c.pass_over.ensures.nothing.0 ∙ c.let_go.ensures in
    let unlent = ap (λ (t : GathererState). t.lent) fresh in
    let new = c.pass_over.new.self in
    record {
      looked_few = c.args.self.now.looked_few;
      lent_before = omega (arith, unlent);
      lent_counted = omega (arith, unlent);
      lent_alone = λ some. absurd (omega (arith, unlent, some));
      held_counted = c.pass_over.ensures.nothing.1 ∙ sym (ap (λ (t : GathererState). length (under_way t.whole t.held)) fresh);
      dropped_refused = a.refused;
      dropped_alone = λ some. ap (λ (t : GathererState). under_way t.whole t.held ++ slice_range (put_or new.put new.buffer.bytes) new.start new.end) fresh ∙ a.alone some;
      dropped_counted = c.pass_over.ensures.counted;
      dropped_inside = λ gone h. subst (λ (l : Limits). AreInside l gone) (same ∙ sym (ap (λ (t : GathererState). t.limits) fresh)) (a.inside gone h);
    }

pub returns-clause-passes : goal.returns-clause-passes
returns-clause-passes g c =
    let old = c.args.self.now in
    let refusal = refusal_of (stopped_of old) (sym c.is_refusal.ensures ∙ c.if-not-is_refusal.false) in
    let same = c.limits-limits.ensures ∙ ap (λ (t : GathererState). t.limits) c.let_go.ensures in
    inl (
      refusal.0,
      refusal.1,
      λ gone has.
          passing old _
          (record { nothing = record { source = refl; reads = refl; most_reads = refl; limits = ap (λ (t : GathererState). t.limits) c.let_go.ensures; ended = refl; read = refl; last = refl; packed = refl }; part = refl; held = refl; done = refl; stopped = refl; taker = c.let_go.ensures })
          gone c.limits-limits.result same g.R.Source.left g.R.Source.calls _ c.pass_over.ensures.nothing.0 c.pass_over.result
          (c.pass_over.ensures.passes (gone ++ under_way old.reader.taker.whole old.reader.taker.held) (subst (λ (l : List ℕ). HasDropped c.drop_bytes.new.self (gone ++ l)) c.under_way.ensures.bytes (c.drop_bytes.ensures.dropped gone has))),
    )

pub returns-clause-packets : goal.returns-clause-packets
returns-clause-packets g c = λ all h.
    c.pass_over.ensures.packets all (still g.R.Source.packets g.R.Source.packet c.args.self.now.reader _ refl refl refl refl all h)
