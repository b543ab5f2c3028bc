-- What is read of a whole input.
use Rattle.std.specs.Prelude.{◌≡◌, ℕ, Bool, true, List, None}
use Rattle.dbus_capture.specs.Beginnings.{first_scan}
use Rattle.dbus_capture.specs.Scans.{place}
use Rattle.dbus_capture.specs.CutPackets.{Captured, whole_payload, cut_count}
use Rattle.dbus_capture.specs.Steps.{run, given, ended}

-- these bytes are handed on of a whole input, which has no fault
pub record IsRead (passes : Bool) (bytes out : List ℕ) : Type 0 where
  pub gives : given (first_scan passes bytes) bytes ≡ out
  pub unfaulted : (ended (run (first_scan passes bytes) bytes)).fault ≡ None

-- A whole input of these packets has no fault. The bytes of those that are whole are handed on, and
-- the others are counted.
pub record IsReadOf (passes : Bool) (bytes : List ℕ) (packets : List Captured) : Type 0 where
  pub read : IsRead passes bytes (whole_payload true packets)
  pub counted : (run (first_scan passes bytes) bytes).cut ≡ place (cut_count true packets)
