use Rattle.std.proofs.Common.{ℕ, List, ◌++◌, refl, ap, ◌∙◌}
use Rattle.dbus_check.proofs.PieceSteps.{read_kept}
use Rattle.dbus_check.proofs.pieces.Pieces.read.Goals as goal

pub returns-in-Ok : goal.returns-in-Ok
returns-in-Ok c = λ to h.
    let x = c.args.self.now in
    read_kept x to h c.requires.none c.args.piece.now c.run.new.self c.in_ok-taken.taken c.in_ok-taken.ensures.runs (c.if-not-is_live.ensures.0 refl) c.in_ok-taken.ensures.short
    (record { progress = c.run.new.self; kept = c.try_extend_from_slice.new.self }) refl
    (c.in-Ok.ensures.ok ∙ ap (λ (t : List ℕ). x.kept.items ++ t) c.rest_after.ensures)
