use Rattle.std.proofs.Common.{◌≡◌, ◌-◌, ◌≤◌, ◌++◌, false, arith, refl, sym, ap, ◌∙◌, length}
use Rattle.std.specs.List.{slice_range}
use Rattle.dbus_stream.specs.Gathering.{GathererState, under_way}
use Rattle.dbus_stream.specs.RawReading.{buffered, whole_or}
use Rattle.dbus_stream.proofs.CutLaws.{no_part, kept_again, part_size}
use Rattle.dbus_stream.proofs.raw_reader.RawReader.give.Goals as goal

pub returns-clause-gives : goal.returns-clause-gives
returns-clause-gives g c =
    let raw = c.args.self.now in
    let r = raw.reader in
    let held = r.taker.held in
    let bytes = buffered raw in
    let n = c.lent-lent.result in
    let n_is = c.lent-lent.ensures in
    let whole : r.taker.whole ≡ false = sym c.is_whole.ensures ∙ c.if-is_whole.false in
    let rest = slice_range bytes r.start r.end in
    let lent = slice_range bytes (r.start - r.taker.lent) r.start in
    let all = slice_range bytes (r.start - n) r.end in
    let ordered = r.in_order in
    let before = raw.lent_before in
    let inside = r.in_buffer in
    let room : r.start ≤ length bytes = omega (arith, ordered, inside) in
    let size = part_size bytes (r.start - r.taker.lent) r.start (omega arith) room in
    let counted = raw.lent_counted in
    let lent_is = ap (λ b. length (whole_or b held lent)) whole in
    record {
      kept = ap (λ (s : GathererState). under_way s.whole s.held ++ all) c.begin.ensures
          ∙ (ap (λ b. under_way b held ++ all) whole
          ∙ (ap (λ k. held ++ slice_range bytes (r.start - k) r.end) n_is
          ∙ (kept_again held bytes r.start r.end r.taker.lent before ordered raw.lent_alone
          ∙ sym (ap (λ b. whole_or b held lent ++ (under_way b held ++ rest)) whole))));
      done = omega (arith, before, size, counted, lent_is, n_is);
      stopped = refl;
      lent = ap (λ (s : GathererState). whole_or s.whole s.held (slice_range bytes ((r.start - n) - s.lent) (r.start - n))) c.begin.ensures
          ∙ (ap (λ b. whole_or false (under_way b held) (slice_range bytes ((r.start - n) - 0) (r.start - n))) whole ∙ no_part bytes ((r.start - n) - 0) (r.start - n) (omega arith));
    }

pub returns-clause-unread : goal.returns-clause-unread
returns-clause-unread g c =
    let r = c.args.self.now.reader in
    let bytes = buffered c.args.self.now in
    let n = c.lent-lent.result in
    let n_is = c.lent-lent.ensures in
    let ordered = r.in_order in
    let before = c.args.self.now.lent_before in
    let counted = c.args.self.now.lent_counted in
    let room : r.end ≤ length bytes = r.in_buffer in
    let size = part_size bytes r.start r.end ordered room in
    let more = part_size bytes (r.start - n) r.end (omega (arith, ordered)) room in
    record {
      source = refl;
      reads = refl;
      most_reads = refl;
      limits = ap (λ (s : GathererState). s.limits) c.begin.ensures;
      ended = refl;
      read = omega (arith, before, counted, n_is, size, more, ordered);
      last = refl;
      packed = refl;
    }
