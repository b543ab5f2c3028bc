use Rattle.std.proofs.Common.{◌≡◌, ℕ, ◌+◌, ◌-◌, ◌<◌, List, ◌++◌, length, take, drop, Ok, Err, refl, sym, ap, subst, ◌∙◌, arith}
use Rattle.std.proofs.lemmas.Result.{err_from_is_err_and}
use Rattle.dbus_check.specs.Checks.{Joined}
use Rattle.dbus_check.specs.Progress.{To, Denotes, IsLive, Runs}
use Rattle.dbus_check.proofs.PieceSteps.{join_back, join_stays, join_refused}
use Rattle.dbus_check.proofs.pieces.Pieces.join.Goals as goal

pub returns-in_err-taken-clause-joined : goal.returns-in_err-taken-clause-joined
returns-in_err-taken-clause-joined c = let p = err_from_is_err_and c.from_residual.result c.from_residual.ensures.1 in rw (p.1, p.2) (λ to h.
    let x = c.args.self.now in
    let piece = c.args.piece.now in
    let b = c.len-before.ensures.value in
    let few = h.few in
    let room = 20 - c.len-before.result in
    let both : c.as_slice.result.now ≡ x.kept.items ++ take room piece = c.as_slice.ensures.value ∙ c.in-Ok.ensures.ok ∙ ap (λ (t : List ℕ). x.kept.items ++ t) c.front-given.ensures in
    join_refused x to h piece room (omega (arith, b, few)) c.run.new.self c.in_err-taken.field-0.0
    (subst (λ (u : List ℕ). (to : To) → Denotes x.progress to → Runs u (Err c.in_err-taken.field-0.0) c.run.new.self to) both c.in_err-taken.ensures.runs))

pub returns-then-taken-before-clause-joined : goal.returns-then-taken-before-clause-joined
returns-then-taken-before-clause-joined c = λ to h.
    let x = c.args.self.now in
    let piece = c.args.piece.now in
    let b = c.len-before.ensures.value in
    let few = h.few in
    let k = c.in_ok-taken.taken in
    let p = c.run.new.self in
    let lt = c.if-taken-before.true in
    let room = 20 - c.len-before.result in
    let items : c.try_extend_from_slice.new.self.items ≡ x.kept.items ++ take room piece = c.in-Ok.ensures.ok ∙ ap (λ (t : List ℕ). x.kept.items ++ t) c.front-given.ensures in
    let both : c.as_slice.result.now ≡ x.kept.items ++ take room piece = c.as_slice.ensures.value ∙ items in
    subst (λ (g : List ℕ). Joined piece (Ok (length g)) c.keep_after.new.self to) (sym c.front-given.ensures)
    (join_stays x to h piece room (omega (arith, b, few)) p k
    (subst (λ (u : List ℕ). (to : To) → Denotes x.progress to → Runs u (Ok k) p to) both c.in_ok-taken.ensures.runs)
    (subst (λ (u : List ℕ). IsLive p.stage → length u < k + 20) both c.in_ok-taken.ensures.short)
    (omega (arith, b, lt)) c.keep_after.new.self c.keep_after.ensures.progress (c.keep_after.ensures.items ∙ ap (drop k) items))

pub returns-clause-joined : goal.returns-clause-joined
returns-clause-joined c = λ to h.
    let x = c.args.self.now in
    let piece = c.args.piece.now in
    let b = c.len-before.ensures.value in
    let few = h.few in
    let k = c.in_ok-taken.taken in
    let p = c.run.new.self in
    let le = c.if-taken-before.false in
    let room = 20 - c.len-before.result in
    let both : c.as_slice.result.now ≡ x.kept.items ++ take room piece = c.as_slice.ensures.value ∙ c.in-Ok.ensures.ok ∙ ap (λ (t : List ℕ). x.kept.items ++ t) c.front-given.ensures in
    subst (λ (before : ℕ). Joined piece (Ok (k - before)) (record { progress = p; kept = c.clear.new.self }) to) (sym b)
    (join_back x to h piece room (omega (arith, b, few)) p k
    (subst (λ (u : List ℕ). (to : To) → Denotes x.progress to → Runs u (Ok k) p to) both c.in_ok-taken.ensures.runs)
    (omega (arith, b, le)) (record { progress = p; kept = c.clear.new.self }) refl c.clear.ensures)
