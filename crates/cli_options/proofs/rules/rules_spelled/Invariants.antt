use Rattle.std.proofs.Common.{map, take}
use Rattle.cli_options.specs.Named.{AreRulesOf}
use Rattle.cli_options.proofs.rules.rules_spelled.Given as goal

-- the rules so far are those of the texts so far
abbrev pub invariant-loop-text : goal.invariant-loop-text
invariant-loop-text l = AreRulesOf (map (λ t. t.now) (take l.text-index l.texts)) l.rules.items
