use Rattle.std.proofs.Common.{◌≡◌, ◌+◌, ◌-◌, arith, ap, ◌∙◌}
use Rattle.cli_run.specs.declared.tally.Tally.{Tally}
use Rattle.cli_run.proofs.tally.Tally.at_end.Goals as goal

pub returns : goal.returns
returns c =
    let t = c.args.self in
    let there = c.args.end - t.size in
    let after = c.requires.after in
    let size : c.args.end ≡ t.size + there = omega (arith, after) in
    ap (λ (x : Tally). record x { is_cut = c.args.is_cut }) c.past.ensures
    ∙ (λ i. record { count = t.count + 1; size = size i; passed = t.passed + 1; passed_size = t.passed_size + there; is_cut = c.args.is_cut })
