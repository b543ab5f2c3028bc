-- Several reads of a device, one after the other.
use Rattle.std.specs.Prelude.{◌≡◌, ℕ, ◌<◌, List, [], ◌∷◌, ◌++◌, length, Option}
use Rattle.std.specs.Io.KnownBytes.{Consumes}
use Rattle.dbus_device.specs.Device.{one_more}

-- Pieces are listed from the last that came to the first. These are their bytes, as they came.
abbrev pub joined : List (List ℕ) → List ℕ
joined [] = []
joined (last ∷ before) = joined before ++ last

abbrev pub HasByte : List ℕ → Type 0
HasByte piece = 0 < length piece

module _ {R : Type 0} (left : R → Option (List ℕ)) (calls : R → ℕ) where
  -- one call, which gave this piece
  pub record ReadsPiece (old : R) (piece : List ℕ) (new : R) : Type 0 where
    pub gave : Consumes (left old) (left new) piece
    pub counted : calls new ≡ one_more (calls old)

  -- as many calls as there are pieces, each of which gave its piece
  abbrev pub ReadsPieces : (old : R) → List (List ℕ) → (new : R) → Type 0
  ReadsPieces old [] new = new ≡ old
  ReadsPieces old (last ∷ before) new = (mid : R) × ReadsPieces old before mid × ReadsPiece mid last new
