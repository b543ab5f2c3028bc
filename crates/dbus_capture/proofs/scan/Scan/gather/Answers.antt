use Rattle.std.proofs.Common.{◌≡◌, ◌+◌, ◌≤◌, ◌<◌, ℕ, List, [], ◌++◌, length, take, None, false, sym, ap, ◌∙◌, arith}
use Rattle.std.proofs.lemmas.List.{length-take-le, nil_from_length, take_all}
use Rattle.dbus_capture.specs.Types.{Scan, Stage}
use Rattle.dbus_capture.specs.Stages.{is_raw, want, Heading, begun}
use Rattle.dbus_capture.specs.Blocks.{decoded}
use Rattle.dbus_capture.specs.Heads.{front_out}
use Rattle.dbus_capture.specs.Steps.{LeadsWithin}
use Rattle.dbus_capture.proofs.StepLaws.{within_to, within_of, within_out, run_gathers, run_head}
use Rattle.dbus_capture.proofs.scan.Scan.gather.Goals as goal

pub returns-then-piece-missing-clause-leads : goal.returns-then-piece-missing-clause-leads
returns-then-piece-missing-clause-leads c =
    let s = c.args.self.now in
    let q = c.requires in
    within_of (take_all (length c.args.piece.now) c.args.piece.now (omega arith))
    (within_out (within_to (run_gathers s c.args.piece.now q.unfaulted q.filed q.given q.skipped (omega (arith, c.missing-missing.ensures.count, c.if-piece-missing.true)))
    (sym (ap (λ (h : Heading). record s { head = h }) c.push.ensures))) (sym q.none))

whole : (s : Scan) (piece : List ℕ) (n : ℕ) → s.fault ≡ None → is_raw s.head.stage ≡ false → s.give ≡ 0 → s.skip ≡ 0 → 0 < n → n ≤ length piece
    → length s.head.bytes + n ≡ want s.head.stage → LeadsWithin s (take n piece) (front_out s (s.head.bytes ++ take n piece)) (decoded (record s { head = begun s.head.stage }) (s.head.bytes ++ take n piece))
whole s piece n p q z k some short count =
    let size = length-take-le n piece short in
    run_head s (take n piece) p q z k (omega (arith, size, some)) (omega (arith, size, count))

pub follow-requires-whole : goal.follow-requires-whole
follow-requires-whole c =
    let size = length-take-le c.missing-missing.result c.args.piece.now c.if-piece-missing.false in
    λ κs. (omega (arith, size, c.missing-missing.ensures.count, c.len.ensures, c.if-len-eq0.true), c.requires.none)

pub returns-then-len-eq0-clause-leads : goal.returns-then-len-eq0-clause-leads
returns-then-len-eq0-clause-leads c =
    let s = c.args.self.now in
    let piece = take c.missing-missing.result c.args.piece.now in
    let q = c.requires in
    let m = c.missing-missing.ensures in
    let none = nil_from_length s.head.bytes (sym c.len.ensures ∙ c.if-len-eq0.true) in
    within_out (within_to (whole s c.args.piece.now c.missing-missing.result q.unfaulted q.filed q.given q.skipped m.some c.if-piece-missing.false m.count)
    (sym (c.follow.ensures.follows ∙ ap (λ (b : List ℕ). decoded (record s { head = record { stage = s.head.stage; bytes = b } }) piece) none
    ∙ ap (λ (b : List ℕ). decoded (record s { head = begun s.head.stage }) (b ++ piece)) (sym none))))
    (ap (λ (b : List ℕ). front_out s (b ++ piece)) none ∙ sym c.follow.ensures.owes)

pub returns-clause-leads : goal.returns-clause-leads
returns-clause-leads c =
    let s = c.args.self.now in
    let q = c.requires in
    let m = c.missing-missing.ensures in
    let heads = c.replace.ensures.after ∙ c.new.ensures ∙ ap (λ (t : Stage). begun t) c.stage-stage.ensures in
    let joined = c.with-size.ensures.bytes ∙ ap (λ (h : Heading). h.bytes ++ take c.missing-missing.result c.args.piece.now) c.replace.ensures.value in
    let all = take c.with-size.result.1 c.with-size.result.0 in
    within_out (within_to (whole s c.args.piece.now c.missing-missing.result q.unfaulted q.filed q.given q.skipped m.some c.if-piece-missing.false m.count)
    (sym (c.follow-2.ensures.follows ∙ ap (λ (h : Heading). decoded (record s { head = h }) all) heads
    ∙ ap (decoded (record s { head = begun s.head.stage })) joined)))
    (sym (c.follow-2.ensures.owes ∙ ap (λ (h : Heading). front_out (record s { head = h }) all) heads ∙ ap (front_out s) joined))
