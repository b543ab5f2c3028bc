-- What a signature's scan shows.
-- D-Bus Specification, "Type System" ("Valid Signatures").
use Rattle.std.specs.Prelude.{◌≡◌, Bool, true, false, Option, Some, None, []}
use Rattle.dbus_texts.specs.declared.signature.SigScan.{SigScan}
use Rattle.dbus_texts.specs.declared.signature.SigPlace.TheVariants.{After, One}
use Rattle.dbus_texts.specs.SignatureScans.{SigState, sig_state}

abbrev pub sig_view : SigScan → SigState
sig_view x = sig_state x.single x.place x.arrays x.structs x.frames.items

-- the scan goes to this state, or stays where there is none
abbrev pub Follows : SigScan → Bool → SigScan → Option SigState → Type 0
Follows old moved new None = (moved ≡ false) × (new ≡ old)
Follows old moved new (Some s) = (moved ≡ true) × (sig_view new ≡ s)

abbrev pub sig_start : Bool → SigState
sig_start true = sig_state true One 0 0 []
sig_start false = sig_state false After 0 0 []
