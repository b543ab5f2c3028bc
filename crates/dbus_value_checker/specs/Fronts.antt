-- What the front of some bytes is read as.
use Rattle.std.specs.Prelude.{◌≡◌, ℕ, ◌+◌, ◌<◌, ◌≤◌, ◌++◌, List, length, take, Result, Ok, Err, ◌≢◌}
use Rattle.dbus_value_model.specs.declared.order.Order.{Order}
use Rattle.dbus_value_model.specs.declared.fault.Reason.TheVariants as reasons
use Rattle.dbus_value_model.specs.declared.stop.Stop.{Stop}
use Rattle.dbus_value_model.specs.declared.stop.Stop.TheVariants as stops
use Rattle.dbus_value_model.specs.Items.{fault}
use Rattle.dbus_value_model.specs.Reading.{Reader, Done, Faulty, Partial, number_of}

-- a reader does not pass the front of the bytes s at the offset o: they end within it; or a fault
-- shows, whatever bytes follow them
abbrev pub Halts : {A : Type 0} → ℕ → List ℕ → Stop → Reader A → Type 0
Halts o s stops.Partial run = run o s ≡ Partial
Halts o s (stops.Refused f) run = (c : List ℕ) → run o (s ++ c) ≡ Faulty f

-- What a reader makes of the front of the bytes s at the offset o, whatever bytes follow them: it
-- takes so many; or it does not pass it. `view` says of an answer what was read, and how many bytes
-- were taken.
abbrev pub Fronts : {X A : Type 0} → (X → A × ℕ) → ℕ → List ℕ → Result X Stop → Reader A → Type 0
Fronts view o s (Ok x) run = ((view x).1 ≤ length s) × ((c : List ℕ) → run o (take (view x).1 s ++ c) ≡ Done (view x).0 (o + (view x).1) c)
Fronts view o s (Err e) run = Halts o s e run

-- w bytes are not there
abbrev pub Lack : ℕ → ℕ → ℕ → List ℕ → Stop → Type 0
Lack w o end s stops.Partial = (length s < w) × (o + w ≤ end)
Lack w o end s (stops.Refused f) = (end < o + w) × (f ≡ fault o reasons.Overrun)

-- w bytes are there, or not
abbrev pub IsThere : {A : Type 0} → ℕ → ℕ → ℕ → List ℕ → Result A Stop → Type 0
IsThere w o end s (Ok x) = (w ≤ length s) × (o + w ≤ end)
IsThere w o end s (Err e) = Lack w o end s e

-- a number of four bytes is there, or not
abbrev pub IsWord : Order → ℕ → ℕ → List ℕ → Result ℕ Stop → Type 0
IsWord order o end s (Ok n) = (4 ≤ length s) × (o + 4 ≤ end) × (n ≡ number_of order (take 4 s))
IsWord order o end s (Err e) = Lack 4 o end s e

-- a number of one byte is there, or not
abbrev pub IsByte : ℕ → ℕ → List ℕ → Result ℕ Stop → Type 0
IsByte o end s (Ok n) = (1 ≤ length s) × (o + 1 ≤ end) × ((order : Order) → n ≡ number_of order (take 1 s))
IsByte o end s (Err e) = Lack 1 o end s e

-- Which codes are none of a number.

-- no code of a text or of a container
pub record IsNumberCode (c : ℕ) : Type 0 where
  pub array : c ≢ 97
  pub struct : c ≢ 40
  pub entry : c ≢ 123
  pub signature : c ≢ 103
  pub path : c ≢ 111
  pub string : c ≢ 115
  pub variant : c ≢ 118
