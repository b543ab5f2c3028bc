-- A body that is spelled value by value into the caller's bytes.
-- D-Bus Specification, "Marshaling (Wire Format)".
use Rattle.std.specs.Prelude.{◌≡◌, ℕ, ◌≤◌, List, ◌++◌, length, take, drop, Bool, ◌||◌, nat_eq, Option, Some, None}
use Rattle.dbus_body.specs.Arrays.{closed, IsLengthWritten, Puts}
use Rattle.dbus_body.specs.declared.arrays.OpenArray.{OpenArray}
use Rattle.dbus_c.specs.Outcomes.{order_named}
use Rattle.dbus_c.specs.declared.answers.TheConstants.{WHOLE, REFUSED, NO_ROOM}
use Rattle.dbus_c.specs.declared.writers.WireArray.{WireArray}
use Rattle.dbus_c.specs.declared.writers.WireWriter.{WireWriter}

-- the widths of numbers, and the alignments of all types
abbrev pub is_width : ℕ → Bool
is_width n = nat_eq n 1 || (nat_eq n 2 || (nat_eq n 4 || nat_eq n 8))

-- the bytes that a writer has spelled, in these
abbrev pub spelled : WireWriter → List ℕ → List ℕ
spelled w bytes = take w.length bytes

abbrev pub with_length : ℕ → WireWriter → WireWriter
with_length n w = record { length = n; order = w.order; reserved = w.reserved }

-- where what is put ends, if there is room for it
abbrev pub IsTold : Option ℕ → WireWriter → (answer : ℕ) → WireWriter → Type 0
IsTold (Some end) w answer v = (answer ≡ WHOLE) × (v ≡ with_length end w)
IsTold None w answer v = (answer ≡ NO_ROOM) × (v ≡ w)

-- more is put after what is spelled, or there is too little room and all stays
pub record Appends (with_more : List ℕ → List ℕ) (w : WireWriter) (old : List ℕ) (answer : ℕ) (v : WireWriter) (new : List ℕ) : Type 0 where
  pub end : Option ℕ
  pub puts : Puts with_more w.length old end new
  pub told : IsTold end w answer v

-- nothing is put, for this reason
abbrev pub Declines : (reason : ℕ) → WireWriter → (old : List ℕ) → (answer : ℕ) → WireWriter → (new : List ℕ) → Type 0
Declines reason w old answer v new = (answer ≡ reason) × (v ≡ w) × (new ≡ old)

-- the place of an array in words
abbrev pub words_of : OpenArray → WireArray
words_of a = record { length_at = a.length_at; start = a.start }

abbrev pub place_in : WireArray → OpenArray
place_in a = record { length_at = a.length_at; start = a.start }

-- the array of a writer is open there, and its length can be written
abbrev pub CanClose : WireWriter → WireArray → List ℕ → Type 0
CanClose w a old = (w.length ≤ length old) × IsLengthWritten (place_in a) (spelled w old)

-- its length is written; or it cannot be, and all stays
pub data Closes (w : WireWriter) (a : WireArray) (old : List ℕ) (answer : ℕ) (new : List ℕ) : Type 0 where
  is_closed : answer ≡ WHOLE → CanClose w a old → new ≡ closed (order_named w.order) (place_in a) (spelled w old) ++ drop w.length old
      → Closes w a old answer new
  is_not : answer ≡ REFUSED → (CanClose w a old → ⊥) → new ≡ old → Closes w a old answer new
