use Rattle.std.proofs.Common.{ℕ, ◌+◌, ◌*◌}
use Rattle.case_engines.proofs.seeing.+say.Given as goal

-- each container is one less deep, and a value is less than a run of them
abbrev pub decreases-say_elements : goal.decreases-say_elements
decreases-say_elements l = 2 * l.depth + 1

abbrev pub decreases-say_value : goal.decreases-say_value
decreases-say_value l = 2 * l.depth

abbrev pub decreases-say_values : goal.decreases-say_values
decreases-say_values l = 2 * l.depth + 1
