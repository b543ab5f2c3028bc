use Rattle.std.proofs.Common.{◌≡◌, drop}
use Rattle.clap.specs.Words.{App}
use Rattle.cli_options.specs.CommandLine.{IsLocal, with_flags}
use Rattle.cli_options.proofs.wire.with_flags.Given as goal

-- with the flags that are left, it is what it has to be with all
abbrev pub invariant-loop-flag : goal.invariant-loop-flag
invariant-loop-flag l = (app : App) → IsLocal app l.initial.told → (now : App) × IsLocal now l.told × (with_flags (drop l.flag-index l.flags) now ≡ with_flags l.flags app)
