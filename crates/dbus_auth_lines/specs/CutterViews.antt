-- What a scan of the code found, and how a call of the line cutter answers.
-- D-Bus Specification, "Protocol Overview".
use Rattle.std.specs.Prelude.{ℕ, ◌+◌, ◌≤◌, ◌≡◌, ◌==◌, ◌-◌, ◌++◌, Bool, List, [], ◌∷◌, length, take, Option, Some, None, Vec, Result, Err, MatchResult}
use Rattle.dbus_auth_lines.specs.Cut.{Fault, TooLong, BadByte, Cut, Ends, Bad, More, Beginning, WholeLine, Faulty, Unfinished}
use Rattle.dbus_auth_lines.specs.declared.scanning.BadLine.{BadLine}
use Rattle.dbus_auth_lines.specs.declared.scanning.BadLine.TheVariants as bad
use Rattle.dbus_auth_lines.specs.declared.cutter.LineFault.{LineFault}
use Rattle.dbus_auth_lines.specs.declared.cutter.LineFault.TheVariants as answer
use Rattle.dbus_auth_lines.specs.declared.scanning.Found.{Found}
use Rattle.dbus_auth_lines.specs.declared.scanning.Found.TheVariants as it

abbrev pub fault_of : BadLine → Fault
fault_of bad.TooLong = TooLong
fault_of (bad.BadByte at) = BadByte at

abbrev pub line_fault : Fault → LineFault
line_fault TooLong = answer.TooLong
line_fault (BadByte at) = answer.BadByte at

abbrev pub found : Found → Cut
found (it.Ends size) = Ends size
found (it.Bad fault) = Bad (fault_of fault)
found it.More = More

-- whether the byte before is CR, after these bytes
abbrev pub cr_after : Bool → List ℕ → Bool
cr_after cr [] = cr
cr_after cr (b ∷ bs) = cr_after (b == 13) bs

-- a line ends after what is kept, and within the piece
abbrev pub IsWithin : ℕ → ℕ → Cut → Type 0
IsWithin had more (Ends size) = (2 ≤ size) × (had ≤ size) × (size - had ≤ more)
IsWithin had more More = Unit {0}
IsWithin had more (Bad f) = Unit {0}

-- ---- the line cutter

pub record CutterState : Type 0 where
  pub kept : List ℕ
  pub fault : Option Fault

abbrev pub IsLineOf : {Z : Type 0} → Option (Vec ℕ Z) → List ℕ → Type 0
IsLineOf None line = ⊥
IsLineOf (Some v) line = v.items ≡ line

-- all of the piece was taken and is kept
abbrev pub KeepsAll : {Z : Type 0} → List ℕ → List ℕ → ℕ × Option (Vec ℕ Z) → CutterState → Type 0
KeepsAll kept piece t after = (t.0 ≡ length piece) × (t.1 ≡ None) × (after ≡ record { kept = kept ++ piece; fault = None })

-- memory ran out, and nothing is changed
abbrev pub Unchanged : List ℕ → LineFault → CutterState → Type 0
Unchanged kept e after = (e ≡ answer.Memory) × (after ≡ record { kept = kept; fault = None })

-- the bytes up to the line's end were taken, the line was given, and nothing is kept
abbrev pub GivesLine : {Z : Type 0} → List ℕ → List ℕ → ℕ × Option (Vec ℕ Z) → CutterState → Type 0
GivesLine kept line t after = (t.0 + length kept ≡ length line + 2) × IsLineOf t.1 line × (after ≡ record { kept = []; fault = None })

-- what a call answers, by how the bytes kept and the piece begin
abbrev pub Takes : {Z : Type 0} → List ℕ → List ℕ → Result (ℕ × Option (Vec ℕ Z)) LineFault → CutterState → Beginning → Type 0
Takes kept piece result after (WholeLine line) = MatchResult result (λ t. GivesLine kept line t after) (λ e. Unchanged kept e after)
Takes kept piece result after Unfinished = MatchResult result (λ t. KeepsAll kept piece t after) (λ e. Unchanged kept e after)
Takes kept piece result after (Faulty f) = (result ≡ Err (line_fault f)) × (after ≡ record { kept = kept; fault = Some f })

-- the same by what the scan finds
abbrev pub GivesCut : {Z : Type 0} → List ℕ → List ℕ → ℕ → ℕ × Option (Vec ℕ Z) → CutterState → Type 0
GivesCut kept piece size t after = (t.0 + length kept ≡ size) × IsLineOf t.1 (take (size - 2) (kept ++ piece)) × (after ≡ record { kept = []; fault = None })

abbrev pub TakesCut : {Z : Type 0} → List ℕ → List ℕ → Result (ℕ × Option (Vec ℕ Z)) LineFault → CutterState → Cut → Type 0
TakesCut kept piece result after (Ends size) = MatchResult result (λ t. GivesCut kept piece size t after) (λ e. Unchanged kept e after)
TakesCut kept piece result after More = MatchResult result (λ t. KeepsAll kept piece t after) (λ e. Unchanged kept e after)
TakesCut kept piece result after (Bad f) = (result ≡ Err (line_fault f)) × (after ≡ record { kept = kept; fault = Some f })
