use Rattle.std.proofs.Common.{length, ◌++◌, ℕ, List, refl, sym, ap, ◌∙◌, subst, arith}
use Rattle.std.proofs.lemmas.List.{append-nil, drop_all}
use Rattle.dbus_check.specs.Checks.{Holds}
use Rattle.dbus_check.specs.declared.progress.Progress.{Progress}
use Rattle.dbus_check.proofs.PieceSteps.{read_kept}
use Rattle.dbus_check.proofs.pieces.Pieces.pass.Goals as goal

pub returns-then-skip : goal.returns-then-skip
returns-then-skip c = λ to h.
    let x = c.args.self.now in let s = c.args.piece.now in let k = c.skip.ensures in let yes = c.if-skip.true in
    read_kept x to h c.requires.none s c.skip.new.self (length s) (k.runs yes) (k.live yes) (λ live. omega arith) (record { progress = c.skip.new.self; kept = x.kept }) refl
    (sym (ap (λ (t : List ℕ). x.kept.items ++ t) (drop_all (length s) s (omega arith)) ∙ append-nil x.kept.items))

pub read-requires-clause-valid : goal.read-requires-clause-valid
read-requires-clause-valid c = let v = c.requires.valid in (v.0, subst (λ (p : Progress). Holds (record c.args.self.now { progress = p }) v.0) (sym (c.skip.ensures.same c.if-skip.false)) v.1)

pub returns : goal.returns
returns c = λ to h. c.read.ensures to (subst (λ (p : Progress). Holds (record c.args.self.now { progress = p }) to) (sym (c.skip.ensures.same c.if-skip.false)) h)
