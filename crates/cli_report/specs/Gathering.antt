-- Bytes that are gathered before they are written. g0 and g1 are what is gathered before and after.
use Rattle.std.specs.Prelude.{◌≡◌, ◌≢◌, ℕ, List, [], ◌++◌, take, Option, Result, Ok, Err, true, false}
use Rattle.std.specs.Io.KnownBytes.{Appends}
use Rattle.dbus_device.specs.Device.{Stopped, Wrote, one_more}
use Rattle.cli_report.specs.declared.output_buffer.OutputBuffer.{OutputBuffer}
use Rattle.cli_report.specs.declared.gathering.Unwritten.{Unwritten}
use Rattle.cli_report.specs.declared.ending.Cause.{Cause}
use Rattle.cli_report.specs.declared.ending.Cause.TheVariants.{Memory, ReadFailed, WriteFailed, TooManyReads}
use Rattle.cli_report.specs.declared.page.Page.{Page}

-- the first list is a prefix of the second
abbrev pub IsPrefixTo : List ℕ → List ℕ → Type 0
IsPrefixTo front all = (more : List ℕ) × (all ≡ front ++ more)

-- the bytes that are gathered
unfoldable pub gathered_bytes : OutputBuffer → List ℕ
gathered_bytes g = take g.len g.bytes

module _ {W : Type 0} (held : W → Option (List ℕ)) (failures : W → ℕ) where
  -- what was gathered and then these bytes were written, but for what is gathered now
  pub record Passes (bytes g0 g1 : List ℕ) (old new : W) : Type 0 where
    pub written : List ℕ
    pub appended : Appends (held old) (held new) written
    pub joined : g0 ++ bytes ≡ written ++ g1
    pub failed : failures new ≡ failures old
    -- of nothing no write was made
    pub unwritten : written ≡ [] → new ≡ old

  -- a prefix of what was gathered and then these bytes was written, and then a write failed
  pub record Breaks (bytes g0 : List ℕ) (old new : W) : Type 0 where
    pub written : List ℕ
    pub appended : Appends (held old) (held new) written
    pub front : IsPrefixTo written (g0 ++ bytes)
    pub some : g0 ++ bytes ≢ []
    pub failed : failures new ≡ one_more (failures old)

  -- these bytes were written, by no write if there are none; or a write failed after the first of
  -- them
  abbrev pub WritesSome : List ℕ → W → W → Result (Unit {0}) Unwritten → Type 0
  WritesSome bytes old new (Ok x) = Wrote held failures old bytes new × (bytes ≡ [] → new ≡ old)
  WritesSome bytes old new (Err e) = (bytes ≢ []) × (n : ℕ) × Stopped held failures old bytes n new

  abbrev pub Gathers : List ℕ → List ℕ → List ℕ → W → W → Result (Unit {0}) Unwritten → Type 0
  Gathers bytes g0 g1 old new (Ok x) = Passes bytes g0 g1 old new
  Gathers bytes g0 g1 old new (Err e) = Breaks bytes g0 old new

  -- what was done with bytes where this is why no more follow: before a read all was written
  abbrev pub Leaves : Cause → List ℕ → List ℕ → List ℕ → W → W → Type 0
  Leaves Memory bytes g0 g1 old new = Passes bytes g0 g1 old new
  Leaves ReadFailed bytes g0 g1 old new = Passes bytes g0 [] old new
  Leaves WriteFailed bytes g0 g1 old new = Breaks bytes g0 old new
  Leaves TooManyReads bytes g0 g1 old new = Passes bytes g0 [] old new

-- What becomes of a text that is gathered and written as it comes.

-- the text was gathered or written, or a write failed, now or before
pub record Goes {W : Type 0} (held : W → Option (List ℕ)) (failures : W → ℕ) (before : Page W) (text : List ℕ)
    (after : Page W) : Type 0 where
  pub same_gathered : after.gathered.ghost_name ≡ before.gathered.ghost_name
  pub same_first : after.first.ghost_name ≡ before.first.ghost_name
  pub passes : before.failed ≡ false → after.failed ≡ false
      → Passes held failures text (gathered_bytes before.gathered.now) (gathered_bytes after.gathered.now) before.first.now after.first.now
  pub breaks : before.failed ≡ false → after.failed ≡ true → Breaks held failures text (gathered_bytes before.gathered.now) before.first.now
      after.first.now
  pub stays : before.failed ≡ true → (after.failed ≡ true) × (after.first.now ≡ before.first.now)
