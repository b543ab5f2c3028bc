use Rattle.std.proofs.Common.{ℕ, Bool, List, sym, subst}
use Rattle.cli_run.specs.Output.{header_if}
use Rattle.cli_run.proofs.framing.write_file_header.Goals as goal

pub returns-then-front : goal.returns-then-front
returns-then-front g c =
    let there = subst (λ (l : List ℕ). g.D.Draft.gains c.args.draft.now l c.append.new.self) c.file_header.ensures c.append.ensures in
    subst (λ (b : Bool). g.D.Draft.gains c.args.draft.now (header_if b) c.append.new.self) (sym c.if-front.true) there

pub returns-else-front : goal.returns-else-front
returns-else-front g c = subst (λ (b : Bool). g.D.Draft.gains c.args.draft.now (header_if b) c.args.draft.now) (sym c.if-front.false) (g.met.D.Draft.nothing c.args.draft.now)
