use Rattle.std.proofs.Common.{◌≡◌, ◌≤◌, ◌+◌, ◌-◌, ◌++◌, [], append-nil, arith, ap, refl, sym, subst, ◌∙◌, List, ℕ, length, drop, take, true, false, not, Option, None, Some}
use Rattle.std.specs.List.{slice_range}
use Rattle.std.specs.Option.{is_some}
use Rattle.std.proofs.lemmas.List.{length-append, length-drop, length-take}
use Rattle.dbus_header.specs.MessageOutcomes.{IsWhole, IsPartial, IsRefused}
use Rattle.dbus_stream.specs.Reading.{limits_of}
use Rattle.dbus_stream.specs.Taking.{Completes, Waits}
use Rattle.dbus_stream.specs.Rooms.{put_or}
use Rattle.dbus_stream.proofs.CutLaws.{left_after, left_of, no_part, front_of}
use Rattle.dbus_stream.proofs.reader.Reader.take_kept.Goals as goal

-- what is given
given_one : {G : Type 0} (o : Option G) → is_some o ≡ true → (given : G) × (o ≡ Some given)
given_one (Some given) there = (given, refl)
given_one None there = absurd cc

given_none : {G : Type 0} (o : Option G) → is_some o ≡ false → o ≡ None
given_none None none = refl
given_none (Some given) none = absurd cc

pub returns-clause-takes : goal.returns-clause-takes
returns-clause-takes g c = λ w kept.
    let k = g.T.Taker.known in
    let r = c.args.self.now in
    let n = c.in-Ok.count in
    let one = given_one c.take_piece.new.given (c.is_none.ensures ∙ ap not c.if-is_none.false) in
    let part = slice_range (put_or r.put (g.B.Buffer.room.bytes r.buffer)) r.start r.end in
    let e : Completes k r.taker kept.held part c.take_piece.new.self n one.0 =
    subst (λ piece. Completes k r.taker kept.held piece c.take_piece.new.self n one.0) c.bytes_between-piece.ensures
    (rw (c.in-Ok.is, one.1) at (c.take_piece.ensures.takes kept.held kept.holds kept.size)) in
    let taken : n ≤ length part = subst (λ (piece : List ℕ). n ≤ length piece) c.bytes_between-piece.ensures c.in-Ok.ensures.within in
    let ends = length-take (r.end - r.start) (drop r.start (put_or r.put (g.B.Buffer.room.bytes r.buffer))) in
    let ordered = r.in_order in
    let fits : r.start + n ≤ r.end = omega (arith, taken, ends, ordered) in
    let size = length kept.held + n in rw one.1 (
      size,
      record {
        order = e.order;
        message = e.message;
        whole = subst (λ l. IsWhole (limits_of k r) l e.order e.message size) (sym kept.bytes) e.whole;
        kept = record {
          held = [];
          holds = e.holds;
          size = refl;
          bytes = ap (drop size) kept.bytes ∙ sym (left_after kept.held (put_or r.put (g.B.Buffer.room.bytes r.buffer)) r.start r.end n);
        };
        done = ap (λ x. r.done + (x + n)) kept.size;
        unstopped = c.requires;
        in_last = (let past = length-take (r.end - (r.start + n)) (drop (r.start + n) (put_or r.put (g.B.Buffer.room.bytes r.buffer))) in let some = e.some in omega (arith, past, some, fits));
      },
      subst (λ l. k.gives c.take_piece.new.self l size one.0) (sym kept.bytes) e.gives,
      λ some.
          let l = e.lends some in
          let none = ap length l.0 in
          let same : size ≡ n = omega (arith, none) in
          let first : (r.start + n) - size ≡ r.start = omega (arith, same) in
          let all : w ≡ part = kept.bytes ∙ ap (λ (l : List ℕ). l ++ part) l.0 in (
            l.1 ∙ sym same,
            omega (arith, same),
            ap (λ x. slice_range (put_or r.put (g.B.Buffer.room.bytes r.buffer)) x (r.start + n)) first ∙ (front_of (put_or r.put (g.B.Buffer.room.bytes r.buffer)) r.start r.end n fits ∙ (ap (λ x. take x part) (sym same) ∙ ap (take size) (sym all))),
          ),
    )

pub returns-then-is_none-clause-takes : goal.returns-then-is_none-clause-takes
returns-then-is_none-clause-takes g c = λ w kept.
    let k = g.T.Taker.known in
    let r = c.args.self.now in
    let part = slice_range (put_or r.put (g.B.Buffer.room.bytes r.buffer)) r.start r.end in
    let all = kept.held ++ part in
    let piece = c.bytes_between-piece.result.now in
    let there : IsPartial (k.limits r.taker) (kept.held ++ piece) × (c.in-Ok.count ≡ length piece) × Waits k (kept.held ++ piece) c.take_piece.new.self =
    rw (c.in-Ok.is, given_none c.take_piece.new.given (c.is_none.ensures ∙ ap not c.if-is_none.true)) at (c.take_piece.ensures.takes kept.held kept.holds kept.size) in
    let e : IsPartial (k.limits r.taker) all × Waits k all c.take_piece.new.self =
    subst (λ piece. IsPartial (k.limits r.taker) (kept.held ++ piece) × Waits k (kept.held ++ piece) c.take_piece.new.self) c.bytes_between-piece.ensures (there.0, there.2) in (
      record {
        kept = record {
          held = all;
          holds = e.1.holds;
          size = ap (λ x. x + length piece) kept.size ∙ (ap (λ (l : List ℕ). length kept.held + length l) c.bytes_between-piece.ensures ∙ sym (length-append kept.held part));
          bytes = kept.bytes ∙ (sym (append-nil all) ∙ ap (λ l. all ++ l) (sym (no_part (put_or r.put (g.B.Buffer.room.bytes r.buffer)) r.end r.end refl)));
        };
        done = refl;
        rests = e.1.rests;
      },
      c.requires,
      subst (λ l. IsPartial (limits_of k r) l) (sym kept.bytes) e.0,
    )

pub returns-then-is_none-clause-takes_all : goal.returns-then-is_none-clause-takes_all
returns-then-is_none-clause-takes_all g c = (no_part (put_or c.args.self.now.put (g.B.Buffer.room.bytes c.args.self.now.buffer)) c.args.self.now.end c.args.self.now.end refl, c.requires)

pub returns-in-Err-Format-clause-takes : goal.returns-in-Err-Format-clause-takes
returns-in-Err-Format-clause-takes g c = λ w kept.
    let k = g.T.Taker.known in
    let r = c.args.self.now in
    let there : IsRefused (k.limits r.taker) (kept.held ++ c.bytes_between-piece.result.now) c.in-Err-Format.fault × IsPartial (k.limits r.taker) kept.held × k.keeps c.take_piece.new.self kept.held =
    rw (c.in-Err-Format.is, c.in-Err-Format.field-0-is) at (c.take_piece.ensures.takes kept.held kept.holds kept.size) in
    let whole : kept.held ++ c.bytes_between-piece.result.now ≡ w = ap (λ (l : List ℕ). kept.held ++ l) c.bytes_between-piece.ensures ∙ sym kept.bytes in
    let refused = subst (λ l. IsRefused (limits_of k r) l c.in-Err-Format.fault) whole there.0 in
    rw c.in-Err-Format.field-0-is (refl, refl, record { refused = refused; held = kept.held; unshown = there.1; keeps = there.2; size = kept.size; bytes = kept.bytes })

pub returns-clause-unread : goal.returns-clause-unread
returns-clause-unread g c =
    let r = c.args.self.now in
    let n = c.in-Ok.count in
    let bytes = put_or r.put (g.B.Buffer.room.bytes r.buffer) in
    let part = slice_range bytes r.start r.end in
    let taken : n ≤ length part = subst (λ (piece : List ℕ). n ≤ length piece) c.bytes_between-piece.ensures c.in-Ok.ensures.within in
    let left = ap length (left_of bytes r.start r.end n) in
    let size = length-drop n part in
    record { source = refl; reads = refl; most_reads = refl; limits = c.in-Ok.ensures.limits; ended = refl; read = omega (arith, taken, left, size); last = refl; packed = refl }

pub returns-then-is_none-clause-unread : goal.returns-then-is_none-clause-unread
returns-then-is_none-clause-unread g c =
    let r = c.args.self.now in
    let none = ap length (no_part (put_or r.put (g.B.Buffer.room.bytes r.buffer)) r.end r.end refl) in
    let piece = ap length c.bytes_between-piece.ensures in
    record { source = refl; reads = refl; most_reads = refl; limits = c.in-Ok.ensures.limits; ended = refl; read = omega (arith, none, piece); last = refl; packed = refl }
