-- A source and a writer before and after a call, with what is known of it, so that a relation takes
-- each as one argument.
use Rattle.std.specs.Prelude.{◌≤◌, ℕ, List, Option}
use Rattle.dbus_device.specs.Device.{RisesBy}
use Rattle.dbus_device.specs.Packets.{Packets}

-- a count, modulo 2^64, rises by at most so many
abbrev pub RisesAtMost : ℕ → ℕ → ℕ → Type 0
RisesAtMost most old new = (n : ℕ) × (n ≤ most) × RisesBy n old new

-- the bytes that are left in a source, the calls that it had, those that failed, and of which
-- packets the bytes are that are left
pub record Reading (R : Type 0) : Type 0 where
  pub left : R → Option (List ℕ)
  pub calls : R → ℕ
  pub failures : R → ℕ
  pub packets : R → Option Packets
  pub old : R
  pub new : R

abbrev pub reading : {R : Type 0} → (R → Option (List ℕ)) → (R → ℕ) → (R → ℕ) → (R → Option Packets) → R → R → Reading R
reading left calls failures packets old new = record { left = left; calls = calls; failures = failures; packets = packets; old = old; new = new }

-- the bytes that a writer holds, and the calls that failed
pub record Writing (W : Type 0) : Type 0 where
  pub held : W → Option (List ℕ)
  pub failures : W → ℕ
  pub old : W
  pub new : W

abbrev pub writing : {W : Type 0} → (W → Option (List ℕ)) → (W → ℕ) → W → W → Writing W
writing held failures old new = record { held = held; failures = failures; old = old; new = new }

-- a source before and after: the bytes that are left, the calls that it had, and those that failed;
-- and of which packets the bytes were that were left before
pub record Taken : Type 0 where
  pub left0 : Option (List ℕ)
  pub left1 : Option (List ℕ)
  pub calls0 : ℕ
  pub calls1 : ℕ
  pub failures0 : ℕ
  pub failures1 : ℕ
  pub packets : Option Packets

abbrev pub taken : {R : Type 0} → Reading R → Taken
taken r = record {
  left0 = r.left r.old;
  left1 = r.left r.new;
  calls0 = r.calls r.old;
  calls1 = r.calls r.new;
  failures0 = r.failures r.old;
  failures1 = r.failures r.new;
  packets = r.packets r.old;
}
