use Rattle.std.proofs.Common.{map, take}
use Rattle.cli_options.specs.Owners.{AreOwnersOf}
use Rattle.cli_options.proofs.owners.owners_given.Given as goal

-- the owners so far are those of the words so far
abbrev pub invariant-loop-word : goal.invariant-loop-word
invariant-loop-word l = AreOwnersOf (map (λ w. w.now) (take l.word-index l.words)) l.owners.items
