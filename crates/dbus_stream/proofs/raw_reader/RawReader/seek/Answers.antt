use Rattle.std.proofs.Common.{◌≡◌, ℕ, Some, ◌+◌, ◌++◌, inl, inr, length, take, refl, sym, ap, ◌∙◌, subst, arith}
use Rattle.std.proofs.Math.Path.{transport}
use Rattle.std.proofs.lemmas.List.{length-take}
use Rattle.dbus_value_model.specs.declared.limits.Limits.{Limits}
use Rattle.dbus_resync.specs.declared.found.Found.{Found}
use Rattle.dbus_resync.specs.declared.found.Found.TheVariants.{At, Nowhere, Spent}
use Rattle.dbus_stream.specs.Gathering.{GathererState, under_way}
use Rattle.dbus_stream.specs.GoingOn.{ahead_of, checked, counted, effort_in, effort_of, IsFoundIn, Seeks}
use Rattle.dbus_stream.specs.RawReading.{done_of, is_ended, kept, limits_of, looked_of, stopped_of}
use Rattle.dbus_stream.specs.declared.read_fault.ReadFault.TheVariants.{Format}
use Rattle.dbus_stream.proofs.AheadSteps.{fails_ahead, found_in, goes_reads, goes_to, stays_ahead}
use Rattle.dbus_stream.proofs.PacketSteps.{still}
use Rattle.dbus_stream.proofs.PassSteps.{none_inside}
use Rattle.dbus_stream.proofs.raw_reader.RawReader.seek.Goals as goal
use Rattle.dbus_stream.proofs.raw_reader.RawReader.seek.Goals.{After-seek_in-searched}

pub returns-in-Err-clause-goes : goal.returns-in-Err-clause-goes
returns-in-Err-clause-goes g c =
    let l = c.in-Err.ensures.looks in
    let old = c.args.self.now in (l.0, fails_ahead (kept old ++ l.0.bytes) old c.look_ahead.new.self c.args.by_size c.args.window c.in-Err.fault l.1)

pub returns-then-self-clause-goes : goal.returns-then-self-clause-goes
returns-then-self-clause-goes g c =
    let l = c.in-Ok.ensures.looks in
    let old = c.args.self.now in
    let some : stopped_of old ≡ Some c.in-Some-Format.field-0 = c.in-Some-Format.is in
    let met : stopped_of old ≡ Some (Format c.in-Some-Format.met) = some ∙ ap Some (rw c.in-Some-Format.is at c.in-Some-Format.field-0-is) in
    (l.0, (stays_ahead (kept old ++ l.0.bytes) old c.look_ahead.new.self c.args.by_size c.args.window l.1, met, c.if-self.true))

-- what is left of the effort
effort_is : (g : _) (c : After-seek_in-searched g) → c.effort_of-effort.result ≡ effort_in c.args.window c.args.self.now
effort_is g c =
    let l = c.in-Ok.ensures.looks.1 in
    c.effort_of-effort.ensures ∙ (λ i. effort_of c.args.window (l.done i) (c.look_ahead.ensures.looked i + (c.checked-at.ensures ∙ ap checked l.stopped) i))

-- what is found
finds : (g : _) (c : After-seek_in-searched g) (found : Found) → c.seek_in-searched.result.found ≡ found
    → IsFoundIn c.args.by_size (limits_of c.args.self.now) c.args.window (effort_in c.args.window c.args.self.now) (is_ended c.look_ahead.new.self) (kept c.args.self.now ++ c.in-Ok.ensures.looks.0.bytes)
    (record { found = found; looked = c.seek_in-searched.result.looked })
finds g c found is =
    let old = c.args.self.now in
    let l = c.in-Ok.ensures.looks in
    let part = c.part-part.result.now in
    let limits : c.limits-limits.result ≡ limits_of old = c.limits-limits.ensures ∙ ap (λ (t : GathererState). t.limits) l.1.taker in
    let effort = effort_is g c in
    found_in c.args.by_size (limits_of old) c.args.window (effort_in c.args.window old) c.min-looked.result (is_ended c.look_ahead.new.self) (kept old ++ l.0.bytes) part _ (c.part-part.ensures ∙ l.1.part) c.min-looked.ensures l.1.enough
    (transport (λ i. Seeks c.args.by_size (limits i) c.args.window (effort i) (take c.min-looked.result part) (record { found = is i; looked = c.seek_in-searched.result.looked })) c.seek_in-searched.ensures.seeks)

-- and what was looked at
counts : (g : _) (c : After-seek_in-searched g) (many : ℕ) → many ≡ counted c.args.window (done_of c.look_ahead.new.self) (looked_of c.look_ahead.new.self) (c.checked-at.result + c.seek_in-searched.result.looked)
    → many ≡ counted c.args.window (done_of c.args.self.now) (looked_of c.args.self.now) (checked (stopped_of c.args.self.now) + c.seek_in-searched.result.looked)
counts g c many is =
    let l = c.in-Ok.ensures.looks.1 in
    is ∙ (λ i. counted c.args.window (l.done i) (c.look_ahead.ensures.looked i) ((c.checked-at.ensures ∙ ap checked l.stopped) i + c.seek_in-searched.result.looked))

pub skip-requires : goal.skip-requires
skip-requires g c =
    let a = c.part-part.result.now in
    let inside = c.seek_in-searched.ensures.inside c.in-At.offset c.in-At.is in
    let size = length-take c.min-looked.result a in
    let same = ap length c.part-part.ensures in
    omega (arith, inside, size, same)

pub invariant_of-self-in-At : goal.invariant_of-self-in-At
invariant_of-self-in-At g c =
    let l = c.in-Ok.ensures.looks in
    let mid = c.look_ahead.new.self in
    let buffers = c.skip.ensures.drops.buffers in
    let fresh = buffers.taker ∙ l.1.taker in
    let unlent = ap (λ (t : GathererState). t.lent) fresh in
    let zero = l.1.nothing in
    record {
      looked_few = c.counted-self.ensures.few mid.looked_few;
      lent_before = omega (arith, unlent);
      lent_counted = omega (arith, unlent);
      lent_alone = λ some. absurd (omega (arith, unlent, some));
      held_counted = buffers.held ∙ (mid.held_counted ∙ sym (ap (λ (t : GathererState). length (under_way t.whole t.held)) buffers.taker));
      dropped_refused = λ some. absurd (omega (arith, zero, some));
      dropped_alone = λ some. absurd (omega (arith, zero, some));
      dropped_counted = omega (arith, zero);
      dropped_inside = none_inside mid.refused _ zero;
    }

pub returns-in-At-clause-goes : goal.returns-in-At-clause-goes
returns-in-At-clause-goes g c =
    let old = c.args.self.now in
    let mid = c.look_ahead.new.self in
    let l = c.in-Ok.ensures.looks in
    let w = kept old ++ l.0.bytes in
    let u = c.skip.ensures.unread in
    let d = c.skip.ensures.drops in
    let a = c.part-part.result.now in
    let place = goal.at.returns-in-At-clause-goes g c in
    let inside = c.seek_in-searched.ensures.inside c.in-At.offset c.in-At.is in
    let size = length-take c.min-looked.result a in
    let same = ap length (c.part-part.ensures ∙ l.1.part) in (
      goes_reads g.R.Source.left g.R.Source.calls c.args.by_size c.args.window old mid.reader _ l.0 (record { source = u.source; reads = u.reads; most_reads = u.most_reads; limits = u.limits; ended = u.ended; read = u.read; last = u.last; packed = u.packed }),
      (
        record {
          looked = c.seek_in-searched.result.looked;
          is_found = subst (λ b. IsFoundIn c.args.by_size (limits_of old) c.args.window (effort_in c.args.window old) b w (record { found = At c.in-At.offset; looked = c.seek_in-searched.result.looked })) (sym u.ended)
              (finds g place.After-seek_in-searched (At c.in-At.offset) c.in-At.is);
          far = elim l.1.far [ inl same ↦ inl (u.reads ∙ same) | inr more ↦ inr (elim more [ inl wide ↦ inl wide | inr (inl end) ↦ inr (inl (u.ended ∙ end)) | inr (inr met) ↦ inr (inr met) ]) ];
          counts = counts g place.After-seek_in-searched c.counted-self.result c.counted-self.ensures.counts;
        },
        goes_to c.args.by_size c.args.window c.in-At.offset w old mid _ l.1 (omega (arith, inside, size, same)) d.buffers.left d.buffers.taker d.done refl,
      ),
    )

pub returns-in-At-clause-packets : goal.returns-in-At-clause-packets
returns-in-At-clause-packets g c = λ all has.
    let u = c.skip.ensures.unread in
    still g.R.Source.packets g.R.Source.packet c.look_ahead.new.self.reader _ u.source u.read u.last u.packed all (c.look_ahead.ensures.packets c.if-self.false all has)

pub returns-in-Nowhere-clause-goes : goal.returns-in-Nowhere-clause-goes
returns-in-Nowhere-clause-goes g c =
    let old = c.args.self.now in
    let l = c.in-Ok.ensures.looks in
    let place = goal.at.returns-in-Nowhere-clause-goes g c in (
      l.0,
      (
        record { looked = c.seek_in-searched.result.looked; is_found = finds g place.After-seek_in-searched Nowhere c.in-Nowhere.is; far = l.1.far; counts = counts g place.After-seek_in-searched c.counted-self.result c.counted-self.ensures.counts },
        stays_ahead (kept old ++ l.0.bytes) old _ c.args.by_size c.args.window (record { part = l.1.part; taker = l.1.taker; done = l.1.done; stopped = l.1.stopped; nothing = l.1.nothing; enough = l.1.enough; far = l.1.far }),
      ),
    )

pub returns-in-Spent-clause-goes : goal.returns-in-Spent-clause-goes
returns-in-Spent-clause-goes g c =
    let old = c.args.self.now in
    let l = c.in-Ok.ensures.looks in
    let place = goal.at.returns-in-Spent-clause-goes g c in (
      l.0,
      (
        record { looked = c.seek_in-searched.result.looked; is_found = finds g place.After-seek_in-searched Spent c.in-Spent.is; far = l.1.far; counts = counts g place.After-seek_in-searched c.counted-self.result c.counted-self.ensures.counts },
        stays_ahead (kept old ++ l.0.bytes) old _ c.args.by_size c.args.window (record { part = l.1.part; taker = l.1.taker; done = l.1.done; stopped = l.1.stopped; nothing = l.1.nothing; enough = l.1.enough; far = l.1.far }),
      ),
    )
