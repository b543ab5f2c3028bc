use Rattle.std.proofs.Common.{◌≡◌, ◌<◌, ◌+◌, ◌^◌, ◌≤◌, ℕ, Bool, true, false, nat_eq, List, [], take, length, Result, Ok, Err, inl, inr, refl, sym, ◌∙◌, ap, subst, arith}
use Rattle.std.proofs.lemmas.Result.{err_from_is_err_and}
use Rattle.std.proofs.lemmas.List.{nil_from_length}
use Rattle.dbus_device.specs.Device.{one_more}
use Rattle.dbus_capture.specs.Types.{DeviceFault}
use Rattle.dbus_capture.specs.Captures.{kept_of, HasBytes, SourceFails, ReadsPart, Asks}
use Rattle.dbus_capture.proofs.CaptureSteps.{still, owed_part, turns_none, some_there, goes_filled, turns_more, gives_part, goes_reads, goes_ends, gives_up, asks, raw_part}
use Rattle.dbus_capture.proofs.input.Input.read_part.Goals.{then-count-gt0-via-then-count-gt0, then-count-gt0-via-else-count-gt0+then-is_some-2}
use Rattle.dbus_capture.proofs.input.Input.read_part.Goals as goal

some_room : (n : ℕ) (b : Bool) → b ≡ nat_eq n 0 → b ≡ false → 0 < n
some_room n b e t = grind (arith, e, t)

-- nothing is owed
paid : (owed : List ℕ) (n : ℕ) → n ≡ length owed → n ≤ 0 → owed ≡ []
paid owed n e none = nil_from_length owed (omega (arith, e, none))

pub returns-then-len-gt0-clause-part : goal.returns-then-len-gt0-clause-part
returns-then-len-gt0-clause-part g c =
    let e = c.give.ensures in
    let room = some_room (length c.args.buffer.now) c.is_empty.result c.is_empty.ensures c.if-is_empty.false in
    owed_part g.R.Source.left g.R.Source.calls g.R.Source.failures c.args.self.now _ c.give.result c.give.new.out e.first refl refl refl refl e.gave
    (λ zero more. absurd (let some = e.moves (omega (arith, c.len.ensures, c.if-len-gt0.true)) room in omega (arith, zero, some)))

pub returns-then-is_some-clause-part : goal.returns-then-is_some-clause-part
returns-then-is_some-clause-part g c =
    still g.R.Source.left g.R.Source.calls g.R.Source.failures c.args.self.now c.args.buffer.now (λ room. (sym c.is_some.ensures ∙ c.if-is_some.true, paid _ _ c.len.ensures c.if-len-gt0.false))

no_room : (n : ℕ) (b : Bool) → b ≡ nat_eq n 0 → b ≡ true → 0 < n → ⊥
no_room n b e t room = absurd (grind (arith, e, t, room))

pub returns-then-is_empty-clause-part : goal.returns-then-is_empty-clause-part
returns-then-is_empty-clause-part g c =
    let none = no_room _ _ c.is_empty.ensures c.if-is_empty.true in
    still g.R.Source.left g.R.Source.calls g.R.Source.failures c.args.self.now c.args.buffer.now (λ room. absurd (none room))

pub returns-then-passes_on-clause-part : goal.returns-then-passes_on-clause-part
returns-then-passes_on-clause-part g c =
    let e = c.read.ensures in
    let none = c.passes_on.ensures.kept c.if-passes_on.true in
    let owed = paid _ _ c.len.ensures c.if-len-gt0.false in
    let room = some_room (length c.args.buffer.now) c.is_empty.result c.is_empty.ensures c.if-is_empty.false in
    raw_part g.R.Source.left g.R.Source.failures c.args.self.now _ (record {
      none = none;
      empty = none;
      paid = (owed, owed);
      scan = refl;
      gave_up = refl;
      unfaulted = sym c.is_some.ensures ∙ c.if-is_some.false;
      raw = c.passes_on.ensures.raw c.if-passes_on.true;
    }) g.R.Source.calls e.called c.read.result c.read.new.buffer (subst (λ (n : ℕ). 0 < n) (sym c.read.auto.buffer) room) e.bound e.bytes e.failed

pub turns-init : goal.turns-init
turns-init g c = (turns_none g.R.Source.left g.R.Source.calls g.R.Source.failures c.args.self.now (paid _ _ c.len.ensures c.if-len-gt0.false), c.requires)

pub returns-in_err-fill-clause-part : goal.returns-in_err-fill-clause-part
returns-in_err-fill-clause-part g c =
    let left = g.R.Source.left in
    let t = c.turns.invariant.0 in
    let e = c.in_err-fill.ensures in
    let old = c.args.self.now in
    let new = c.fill.new.self in
    let n = (goes_filled left g.R.Source.calls t.goes new t.found e.fills e.scan e.owed).0 in
    let fails : SourceFails left g.R.Source.failures old new = record {
      reads = goes_reads left g.R.Source.calls n new refl refl refl refl;
      source = e.failed ∙ ap one_more t.unfailed.source;
      gave_up = e.gave_up ∙ t.unfailed.gave_up;
      nothing = e.has;
    } in
    let is = (err_from_is_err_and c.from_residual.result c.from_residual.ensures.1).1 in
    subst (λ (r : Result ℕ DeviceFault). ReadsPart left g.R.Source.failures old new r c.turns.buffer × Asks left g.R.Source.calls old new r) (sym is)
    (inl fails, asks left g.R.Source.calls n new refl (Err _) (inr tt))

pub returns-then-not-branch-clause-part : goal.returns-then-not-branch-clause-part
returns-then-not-branch-clause-part g c =
    let left = g.R.Source.left in
    let t = c.turns.invariant.0 in
    let e = c.in_ok-fill.ensures in
    let n = (goes_filled left g.R.Source.calls t.goes c.fill.new.self t.found e.fills e.scan e.owed).0 in
    let none = subst (λ (b : Bool). HasBytes left c.fill.new.self (Ok b)) c.if-not-branch.true e.has in
    let ends = goes_ends left g.R.Source.calls n _ refl refl c.end.ensures refl none in (
      (record { source = e.failed ∙ t.unfailed.source; gave_up = e.gave_up ∙ t.unfailed.gave_up }, inr (refl, ends)),
      asks left g.R.Source.calls n _ refl (Ok 0) (inr (refl, ends)),
    )

pub returns-then-count-gt0-clause-part : goal.returns-then-count-gt0-clause-part
returns-then-count-gt0-clause-part g c =
    let left = g.R.Source.left in
    let t = c.turns.invariant.0 in
    let e = c.in_ok-fill.ensures in
    let n = goes_filled left g.R.Source.calls t.goes c.fill.new.self t.found e.fills e.scan e.owed in
    let some = subst (λ (b : Bool). HasBytes left c.fill.new.self (Ok b)) c.if-not-branch.false e.has in
    let new = c.hand_on-count.new.self in
    let count = c.hand_on-count.result in
    let h = c.hand_on-count.ensures in (
      (
        record { source = ap g.R.Source.failures h.source ∙ e.failed ∙ t.unfailed.source; gave_up = h.gave_up ∙ e.gave_up ∙ t.unfailed.gave_up },
        inl (
          gives_part left g.R.Source.calls n.0 new _ h.moved h.source,
          λ zero room. elim c.then-count-gt0.branch [
            | then-count-gt0-via-then-count-gt0 w ↦ absurd (omega (arith, zero, w.if-count-gt0.true))
            | then-count-gt0-via-else-count-gt0+then-is_some-2 w ↦ (sym w.is_some-else-count-gt0.ensures ∙ w.if-is_some-2.true, h.owed zero (omega (arith, room)))
          ],
        ),
      ),
      asks left g.R.Source.calls n.0 new h.source (Ok count) (inl (n.1 some)),
    )

pub turns-preserved : goal.turns-preserved
turns-preserved g c =
    let left = g.R.Source.left in
    let t = c.turns.invariant.0 in
    let e = c.in_ok-fill.ensures in
    let n = goes_filled left g.R.Source.calls t.goes c.fill.new.self t.found e.fills e.scan e.owed in
    let there = subst (λ (b : Bool). HasBytes left c.fill.new.self (Ok b)) c.if-not-branch.false e.has in
    let h = c.hand_on-count.ensures in
    let zero : c.hand_on-count.result ≡ 0 = omega (arith, c.if-count-gt0.false) in
    let none = ap (λ (k : ℕ). take k c.hand_on-count.new.buffer) zero in
    let room = some_room (length c.args.buffer.now) c.is_empty.result c.is_empty.ensures c.if-is_empty.false in
    let fewer = h.some (some_there (kept_of c.fill.new.self) there) (omega (arith, room)) in (
      turns_more left g.R.Source.calls n.0 c.hand_on-count.new.self _ h.moved h.source g.R.Source.failures (n.1 there)
          (record { source = e.failed ∙ t.unfailed.source; gave_up = e.gave_up ∙ t.unfailed.gave_up }) h.gave_up none (h.owed zero (omega (arith, room))) fewer,
      h.chosen,
    )

pub returns-clause-part : goal.returns-clause-part
returns-clause-part g c =
    let t = c.turns.invariant.0 in
    let most : 2 ^ 64 ≤ c.turns.turn + 1 = omega (arith, c.turns-test.false) in (
      inr (gives_up g.R.Source.left g.R.Source.calls t.goes g.R.Source.failures _ t.unfailed most refl refl refl refl refl),
      asks g.R.Source.left g.R.Source.calls t.goes _ refl (Err _) (inl t.found),
    )
