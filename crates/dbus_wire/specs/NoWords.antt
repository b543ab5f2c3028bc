-- What the program says if the words of its command line are not there.
use Rattle.std.specs.Prelude.{◌≡◌, ◌≢◌, ◌⊎◌, ℕ, codes, List, Option}
use Rattle.std.specs.declared.io.ErrorKind.{ErrorKind}
use Rattle.std.specs.declared.io.ErrorKind.TheVariants.{OutOfMemory}
use Rattle.cli_report.specs.declared.ending.ExitStatus.{ExitStatus}
use Rattle.cli_report.specs.declared.ending.ExitStatus.TheVariants as status
use Rattle.dbus_tool.specs.Handshaking.{Shows}

-- memory ran out, or one of them is not text; or a write failed
abbrev pub TellsNoWords : {E : Type 0} → (E → Option (List ℕ)) → (E → ℕ) → (old new : E) → ErrorKind → ExitStatus → Type 0
TellsNoWords held failures old new kind end =
    ((kind ≡ OutOfMemory) × Shows held failures old new status.Failed (codes "out of memory\n") end)
    ⊎ ((kind ≢ OutOfMemory) × Shows held failures old new status.Usage (codes "error: an argument is not UTF-8\n") end)
