-- Lines have one encoding.
use Rattle.std.specs.Prelude.{◌≡◌, ◌≢◌, ℕ}
use Rattle.cli_report.specs.Devices.{Reading, Writing}
use Rattle.cli_report.specs.declared.ending.ExitStatus.{ExitStatus}
use Rattle.cli_report.specs.declared.ending.ExitStatus.TheVariants as status
use Rattle.cli_run.specs.Laws.{GotAlike, ReadAlike}
use Rattle.cli_encode.specs.Runs.{EncodesLines}
use Rattle.cli_encode.specs.declared.encoding.Encoding.{Encoding}

-- two runs end with one status, and the first writers got the same bytes; the second ones too, if
-- no line is refused
pub record EncodeAlike {W V E F : Type 0} (w : Writing W) (v : Writing V) (e : Writing E) (f : Writing F) (end other : ExitStatus) : Type 0 where
  pub status_is : other ≡ end
  pub first : GotAlike w v
  pub second : end ≡ status.Done → GotAlike e f

-- two runs that encode the same input in one way, and did not fail, end alike
abbrev pub OneEncoding : (R S W V E F : Type 0) → Type 0
OneEncoding R S W V E F = (r : Reading R) (s : Reading S) (w : Writing W) (v : Writing V) (e : Writing E) (f : Writing F) (encoding : Encoding) (most more : ℕ) (end other : ExitStatus)
    → ReadAlike r s → end ≢ status.Failed → other ≢ status.Failed → EncodesLines r w e encoding most end → EncodesLines s v f encoding more other → EncodeAlike w v e f end other
