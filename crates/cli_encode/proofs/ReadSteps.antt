-- The next line, by the reader's answers.
use Rattle.std.proofs.Common.{Bool, true, false, List, ℕ, Ok, Err}
use Rattle.dbus_lines.specs.LineReading.{KeptAnswers, NextAnswers}
use Rattle.dbus_lines.specs.declared.fault.NoLine.{NoLine}
use Rattle.dbus_lines.specs.declared.fault.NoLine.TheVariants.{Memory, Device, TooManyReads}
use Rattle.dbus_lines.specs.declared.line_reader.LineReader.{LineReader}
use Rattle.cli_encode.specs.Runs.{GivesKept, LineAnswers, cause_of}

module _ {R A : Type 0} (w : List ℕ) (new : LineReader R A) where
  pub gives_kept : (given : Bool) → KeptAnswers w new (Ok given) → GivesKept w new given
  gives_kept true a = a
  gives_kept false a = a.1

  pub line_or_end : (more : Bool) → NextAnswers w new (Ok more) → LineAnswers w new (Ok more)
  line_or_end true a = a
  line_or_end false a = a

  pub no_line : (fault : NoLine) → NextAnswers w new (Err fault) → LineAnswers w new (Err (cause_of fault))
  no_line Memory a = a
  no_line Device a = a
  no_line TooManyReads a = (a.0, a.1, a.2)
