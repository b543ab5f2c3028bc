-- What a scan has read so far.
-- D-Bus Specification, "Basic types", "Valid Object Paths", "Valid Names" and "Valid Signatures".
use Rattle.std.specs.Prelude.{◌≡◌, ℕ, List, length, min}
use Rattle.dbus_texts.specs.declared.scan.TextScan.{TextScan}
use Rattle.dbus_texts.specs.declared.scan.ScanState.{ScanState}
use Rattle.dbus_texts.specs.declared.scan.ScanState.TheVariants.{InText, InName, InSignature}
use Rattle.dbus_texts.specs.Quotients.{IsQuotient}
use Rattle.dbus_texts.specs.NameScans.{name_rest}
use Rattle.dbus_texts.specs.Utf8Scans.{text_rest}
use Rattle.dbus_texts.specs.SignatureScans.{sig_rest}
use Rattle.dbus_texts.specs.SigViews.{sig_view}
use Rattle.dbus_texts.specs.Kinds.{IsOfKind}
use Rattle.dbus_texts.specs.declared.text_kind.TextKind.{TextKind}

-- what may follow
abbrev pub state_rest : ScanState → List ℕ → Type 0
state_rest (InText p) c = text_rest p c
state_rest (InName n) c = name_rest n c
state_rest (InSignature s) c = sig_rest (sig_view s) c

abbrev pub kind_of : TextScan → TextKind
kind_of x = x.kind

-- the bytes w are what the scan was handed: what may follow them in its kind is what it still
-- takes, and it counts them as far as 256
pub record Stands (x : TextScan) (w : List ℕ) : Type 0 where
  pub quotient : IsQuotient (IsOfKind x.kind) w (state_rest x.state)
  pub counted : x.length ≡ min (length w) 256
