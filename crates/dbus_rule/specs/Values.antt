-- The texts of a value, by whole pieces: 39 is the apostrophe, 44 the comma, 92 the backslash.
-- D-Bus Specification, "Match Rules".
use Rattle.std.specs.Prelude.{◌≡◌, ◌≢◌, ℕ, List, [], ◌∷◌, ◌++◌, ◌+◌, Bool, false, ◌&&◌, ◌==◌, if◌then◌else◌, length, drop}
use Rattle.std.specs.List.{AllByRecursion}
use Rattle.dbus_rule.specs.declared.value_cut.Mode.{Mode}
use Rattle.dbus_rule.specs.declared.value_cut.Mode.TheVariants.{Outside, Escape, Inside}
use Rattle.dbus_rule.specs.declared.value_cut.Cut.{Cut}
use Rattle.dbus_rule.specs.declared.value_cut.Cut.TheVariants.{Closed, Open}

-- a run inside apostrophes, `\'`, or a byte that stands for itself
pub data Piece : Type 0 where
  quoted : List ℕ → Piece
  escaped : Piece
  plain : ℕ → Piece

abbrev pub piece_text : Piece → List ℕ
piece_text (quoted w) = 39 ∷ (w ++ 39 ∷ [])
piece_text escaped = 92 ∷ 39 ∷ []
piece_text (plain b) = b ∷ []

abbrev pub piece_value : Piece → List ℕ
piece_value (quoted w) = w
piece_value escaped = 39 ∷ []
piece_value (plain b) = b ∷ []

abbrev pub pieces_text : List Piece → List ℕ
pieces_text [] = []
pieces_text (p ∷ ps) = piece_text p ++ pieces_text ps

abbrev pub pieces_value : List Piece → List ℕ
pieces_value [] = []
pieces_value (p ∷ ps) = piece_value p ++ pieces_value ps

abbrev pub NoQuoteFirst : List ℕ → Type 0
NoQuoteFirst [] = Unit {0}
NoQuoteFirst (b ∷ c) = b ≢ 39

-- the piece may stand before the text c
abbrev pub IsPiece : Piece → List ℕ → Type 0
IsPiece (quoted w) c = AllByRecursion (λ b. b ≢ 39) w
IsPiece escaped c = Unit {0}
IsPiece (plain b) c = (b ≢ 44) × (b ≢ 39) × (b ≡ 92 → NoQuoteFirst c)

abbrev pub ArePieces : List Piece → List ℕ → Type 0
ArePieces [] c = Unit {0}
ArePieces (p ∷ ps) c = IsPiece p (pieces_text ps ++ c) × ArePieces ps c

-- A value's text at the start of a text, read byte by byte.
-- D-Bus Specification, "Match Rules".

-- what a value's text gives: the value, and the place and text after it; or the place of the
-- apostrophe that is not closed
pub data Reading : Type 0 where
  closed : List ℕ → ℕ → List ℕ → Reading
  open_at : ℕ → Reading

abbrev pub quote_first : List ℕ → Bool
quote_first [] = false
quote_first (b ∷ c) = b == 39

abbrev pub scan : Mode → ℕ → List ℕ → List ℕ → Reading
scan Outside n v [] = closed v n []
scan Escape n v [] = closed v n []
scan (Inside q) n v [] = open_at q
scan Outside n v (b ∷ c) =
    if b == 44 then closed v n (b ∷ c)
    else (if b == 39 then scan (Inside n) (n + 1) v c
    else (if b == 92 && quote_first c then scan Escape (n + 1) v c
    else scan Outside (n + 1) (v ++ b ∷ []) c))
scan Escape n v (b ∷ c) = scan Outside (n + 1) (v ++ b ∷ []) c
scan (Inside q) n v (b ∷ c) = if b == 39 then scan Outside (n + 1) v c else scan (Inside q) (n + 1) (v ++ b ∷ []) c

-- A value's text at the start of a text, by its pieces: it is closed and ends, or an apostrophe is
-- not closed. D-Bus Specification, "Match Rules".

-- what stands after a value: nothing, or a comma
abbrev pub Ends : List ℕ → Type 0
Ends [] = Unit {0}
Ends (b ∷ c) = b ≡ 44

-- pieces, and then the end; or pieces and a run inside an apostrophe that is not closed
pub record IsClosed (n : ℕ) (v w v' : List ℕ) (m : ℕ) (r : List ℕ) : Type 0 where
  pub pieces : List Piece
  pub are : ArePieces pieces r
  pub spelled : w ≡ pieces_text pieces ++ r
  pub value : v' ≡ v ++ pieces_value pieces
  pub place : m ≡ n + length (pieces_text pieces)
  pub ends : Ends r

pub record IsOpen (n : ℕ) (w : List ℕ) (q : ℕ) : Type 0 where
  pub pieces : List Piece
  pub run : List ℕ
  pub are : ArePieces pieces (39 ∷ run)
  pub run_is : AllByRecursion (λ b. b ≢ 39) run
  pub spelled : w ≡ pieces_text pieces ++ 39 ∷ run
  pub place : q ≡ n + length (pieces_text pieces)

abbrev pub IsReading : ℕ → List ℕ → List ℕ → Reading → Type 0
IsReading n v w (closed v' m r) = IsClosed n v w v' m r
IsReading n v w (open_at q) = IsOpen n w q

-- What the reading of a value's text answers, as a reading: after the value stands the rest of the
-- text. D-Bus Specification, "Match Rules".

abbrev pub cut_of : {A : Type 0} → List ℕ → Cut A → Reading
cut_of w (Closed v n) = closed v.items n (drop n w)
cut_of w (Open q) = open_at q
