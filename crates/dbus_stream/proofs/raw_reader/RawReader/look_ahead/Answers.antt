use Rattle.std.proofs.Common.{◌≡◌, ◌⊎◌, ◌≤◌, ◌<◌, ◌*◌, ◌++◌, ℕ, true, false, inl, inr, length, take, refl, subst, sym, ap, ◌∙◌, arith, append-nil}
use Rattle.std.proofs.Math.Path.{transport}
use Rattle.std.proofs.lemmas.Bool.{cases_lt}
use Rattle.dbus_stream.specs.Gathering.{GathererState, gathering}
use Rattle.dbus_value_model.specs.declared.limits.Limits.{Limits}
use Rattle.dbus_stream.specs.GoingOn.{ahead_of, IsMet}
use Rattle.dbus_stream.specs.LookingAhead.{HasAhead, IsFar, Meets}
use Rattle.dbus_stream.specs.Next.{ReadsNothing}
use Rattle.dbus_stream.specs.RawReading.{is_ended, kept, limits_of}
use Rattle.dbus_stream.specs.Reading.{part_of}
use Rattle.dbus_stream.proofs.AheadSteps.{ahead_looks, ahead_reads, asks_first, looks_there, there_reads, unpacked, unread_both}
use Rattle.dbus_stream.proofs.PacketSteps.{unread}
use Rattle.dbus_stream.proofs.raw_reader.RawReader.look_ahead.Goals as goal

pub returns-then-is_there-clause-looks : goal.returns-then-is_there-clause-looks
returns-then-is_there-clause-looks g c =
    let old = c.args.self.now in
    let e = c.is_there.ensures.there c.if-is_there.true in
    let enough = transport (λ i. ((c.max-many.ensures i ≤ length (part_of old.reader)) ⊎ IsMet c.args.by_size (c.limits-limits.ensures i) (take c.args.window (part_of old.reader))) ⊎ (is_ended old ≡ true)) e.1 in (
      there_reads g.R.Source.left g.R.Source.calls c.args.by_size c.args.window old _
          (record { source = refl; reads = refl; most_reads = refl; limits = ap (λ (t : GathererState). t.limits) c.let_go.ensures; ended = refl; read = refl; last = refl; packed = refl }),
      looks_there c.args.by_size c.args.window old _ e.0 enough refl c.let_go.ensures refl refl refl refl c.nothing-self.ensures,
    )

pub returns-in-Err-clause-looks : goal.returns-in-Err-clause-looks
returns-in-Err-clause-looks g c =
    let old = c.args.self.now in (
      there_reads g.R.Source.left g.R.Source.calls c.args.by_size c.args.window old old.reader
          (record { source = refl; reads = refl; most_reads = refl; limits = refl; ended = refl; read = refl; last = refl; packed = refl }),
      (
        record { kept = sym (append-nil (kept old)); done = refl; lent = λ none. none; stopped = refl },
        asks_first c.args.by_size c.args.window old (transport (λ i. (length (part_of old.reader) < length (kept old)) ⊎ ((length (kept old) < c.max-many.ensures i) × (is_ended old ≡ false) × (IsMet c.args.by_size (c.limits-limits.ensures i) (take c.args.window (kept old)) → ⊥))) (c.is_there.ensures.asks c.if-is_there.false)),
      ),
    )

-- all that was kept counts as done
dropped : (g : _) (c : goal.After-self-3-1 g) → ReadsNothing gathering c.args.self.now.reader c.drop_kept.new.self
dropped g c =
    unread_both c.args.self.now.reader _ c.drop_kept.new.self
    (record { source = refl; reads = refl; most_reads = refl; limits = ap (λ (t : GathererState). t.limits) c.let_go-2.ensures; ended = refl; read = refl; last = refl; packed = refl }) c.drop_kept.ensures.unread

pub returns-clause-looks : goal.returns-clause-looks
returns-clause-looks g c =
    let old = c.args.self.now in
    let mid = c.drop_kept.new.self in
    let last = c.read_ahead-looked.new.self in
    let front = c.in-Ok.ahead.items in
    let bytes = c.read_ahead-looked.new.ahead.items in
    let many = ahead_of c.args.window in
    let same : c.max-many.result ≡ many = c.max-many.ensures in
    let far = c.far_enough-far.result in
    let is : front ≡ kept old = c.in-Ok.ensures in
    let size = c.len.ensures in
    let twice : length front < many → far ≡ 2 * many = λ less. (let all = c.far_enough-far.ensures.twice (omega (arith, less, size, same)) in omega (arith, all, same)) in
    let enough : many ≤ length front → far ≡ 0 = λ more. c.far_enough-far.ensures.enough (omega (arith, more, size, same)) in
    let no_wider : far ≤ 2 * many = elim (cases_lt (length front) many) [ inl less ↦ (let all = twice less in omega (arith, all)) | inr more ↦ (let zero = enough more in omega (arith, zero)) ] in
    let drops = c.drop_kept.ensures.drops in
    let h = subst (λ (l : Limits). HasAhead gathering g.R.Source.left g.R.Source.calls (record { by_size = c.args.by_size; limits = l; window = c.args.window }) far front bytes mid last) c.limits-limits.ensures c.read_ahead-looked.ensures.ahead in
    let r = ahead_reads g.R.Source.left g.R.Source.calls c.args.by_size c.args.window old far front is no_wider enough mid last c.stand_before.new.self (dropped g c) bytes h c.stand_before.ensures in (
      r.0,
      ahead_looks g.R.Source.left g.R.Source.calls c.args.by_size c.args.window far old _ front bytes is twice enough mid last (drops.taker ∙ c.let_go-2.ensures) drops.done drops.stopped h c.stand_before.ensures c.nothing-self-2.ensures r.0 (kept old ++ r.0.bytes) r.1 c.read_ahead-looked.result
          (subst (λ (l : Limits). IsFar (record { by_size = c.args.by_size; limits = l; window = c.args.window }) far bytes last c.read_ahead-looked.result) c.limits-limits.ensures c.read_ahead-looked.ensures.far),
    )

pub returns-clause-packets : goal.returns-clause-packets
returns-clause-packets g c = λ none all has.
    let old = c.args.self.now in
    let last = c.read_ahead-looked.new.self in
    let s = c.stand_before.ensures in
    let h = c.read_ahead-looked.ensures.ahead in
    let left = ap length s.left in
    let drained = ap length h.drained in
    let before = unread g.R.Source.packets g.R.Source.packet gathering old.reader old.reader c.drop_kept.new.self (λ all has. has) (dropped g c) all has in
    unpacked g.R.Source.packets g.R.Source.packet last c.stand_before.new.self s.source (omega (arith, s.done, s.held, left, drained)) s.packed (omega (arith, s.last, left)) none all (c.read_ahead-looked.ensures.packets all before)
