-- What a write of a message did.
use Rattle.std.specs.Prelude.{◌≡◌, ℕ, List, Option, Result, Ok, Err}
use Rattle.dbus_device.specs.Device.{Wrote, Stopped}
use Rattle.dbus_stream.specs.declared.write_fault.WriteFault.{WriteFault}
use Rattle.dbus_stream.specs.declared.write_fault.WriteFault.TheVariants.{Memory, Device}

-- nothing is written for want of memory
abbrev pub WritesMessage : {W : Type 0} → (W → Option (List ℕ)) → (W → ℕ) → W → List ℕ → W → Result (Unit {0}) WriteFault → Type 0
WritesMessage held failures old bytes new (Ok x) = Wrote held failures old bytes new
WritesMessage held failures old bytes new (Err Memory) = new ≡ old
WritesMessage held failures old bytes new (Err (Device n)) = Stopped held failures old bytes n new
