-- What the counts of a device say of a call.
use Rattle.std.specs.Prelude.{◌≡◌, ℕ, ◌+◌, ◌^◌, ◌%◌, Result, Ok, Err, zero, suc, ◌≤◌, List, length, take, Option}
use Rattle.std.specs.Io.KnownBytes.{Appends}
use Rattle.dbus_device.specs.declared.from_read.FromRead.{FromRead}
use Rattle.dbus_device.specs.declared.from_write.FromWrite.{FromWrite}
use Rattle.dbus_device.specs.declared.writing.WrittenOnly.{WrittenOnly}

-- a count of calls goes round at 2^64
abbrev pub one_more : ℕ → ℕ
one_more n = (n + 1) % 2 ^ 64

-- a count of calls, modulo 2^64, rises by k
abbrev pub RisesBy : ℕ → ℕ → ℕ → Type 0
RisesBy k old new = new % 2 ^ 64 ≡ (old + k) % 2 ^ 64

-- a read counts as failed exactly where it failed
abbrev pub ReadCounts : {T E : Type 0} → ℕ → ℕ → Result T E → Type 0
ReadCounts old new (Ok n) = new ≡ old
ReadCounts old new (Err e) = new ≡ one_more old

-- a write counts as failed exactly where it failed, or took none of one or more bytes
abbrev pub WriteCounts : {E : Type 0} → ℕ → ℕ → Result ℕ E → ℕ → Type 0
WriteCounts old new (Ok (suc n)) size = new ≡ old
WriteCounts old new (Ok zero) zero = new ≡ old
WriteCounts old new (Ok zero) (suc size) = new ≡ one_more old
WriteCounts old new (Err e) size = new ≡ one_more old

-- What a clause reads of a reader or a writer of std's that is made a device.

abbrev pub reader_of : {R : Type 0} → FromRead R → R
reader_of s = s.reader

abbrev pub read_failures : {R : Type 0} → FromRead R → ℕ
read_failures s = s.failures

abbrev pub read_calls : {R : Type 0} → FromRead R → ℕ
read_calls s = s.calls

abbrev pub writer_of : {W : Type 0} → FromWrite W → W
writer_of s = s.writer

abbrev pub write_failures : {W : Type 0} → FromWrite W → ℕ
write_failures s = s.failures

-- What a write of several calls did.

-- all the bytes were written, and no call failed
pub record Wrote {W : Type 0} (held : W → Option (List ℕ)) (failures : W → ℕ) (old : W) (bytes : List ℕ) (new : W) : Type 0 where
  pub appended : Appends (held old) (held new) bytes
  pub failed : failures new ≡ failures old

-- The first n bytes were written, and then a call failed or took none. One call failed in all: none
-- came after it, since that might have failed too.
pub record Stopped {W : Type 0} (held : W → Option (List ℕ)) (failures : W → ℕ) (old : W) (bytes : List ℕ) (n : ℕ) (new : W) : Type 0 where
  pub within : n ≤ length bytes
  pub appended : Appends (held old) (held new) (take n bytes)
  pub failed : failures new ≡ one_more (failures old)

abbrev pub WritesAll : {W : Type 0} → (W → Option (List ℕ)) → (W → ℕ) → W → List ℕ → W → Result (Unit {0}) WrittenOnly → Type 0
WritesAll held failures old bytes new (Ok x) = Wrote held failures old bytes new
WritesAll held failures old bytes new (Err n) = Stopped held failures old bytes n.0 new
