-- What may follow bytes in the texts of a set, how that changes by a byte, and where a text that is
-- not of the set breaks. The sets are those of the D-Bus Specification, "Basic types", "Valid
-- Object Paths", "Valid Names" and "Valid Signatures".
use Rattle.std.specs.Prelude.{◌≡◌, ℕ, Bool, true, false, Option, Some, None, List, ◌∷◌, ◌++◌}
use Rattle.dbus_texts.specs.Kinds.{IsBreakIn}

-- w is of the set; or it is not, and breaks there
abbrev pub IsBreakFrom : (List ℕ → Type 0) → List ℕ → Option ℕ → Type 0
IsBreakFrom L w None = L w
IsBreakFrom L w (Some at) = (L w → ⊥) × IsBreakIn L w at

-- R is what may follow w in the set, and something may
pub record IsQuotient (L : List ℕ → Type 0) (w : List ℕ) (R : List ℕ → Type 0) : Type 0 where
  pub to : (c : List ℕ) → L (w ++ c) → R c
  pub from : (c : List ℕ) → R c → L (w ++ c)
  pub some : (c : List ℕ) × R c

-- what follows changes from R to R' by the byte b; or b cannot stand there
pub record Moves (R : List ℕ → Type 0) (b : ℕ) (R' : List ℕ → Type 0) : Type 0 where
  pub to : (c : List ℕ) → R (b ∷ c) → R' c
  pub from : (c : List ℕ) → R' c → R (b ∷ c)
  pub some : (c : List ℕ) × R' c

abbrev pub IsStepFrom : {S : Type 0} → (S → List ℕ → Type 0) → (List ℕ → Type 0) → ℕ → Option S → Type 0
IsStepFrom Rest R b None = (c : List ℕ) → R (b ∷ c) → ⊥
IsStepFrom Rest R b (Some t) = Moves R b (Rest t)

abbrev pub IsStep : {S : Type 0} → (S → List ℕ → Type 0) → S → ℕ → Option S → Type 0
IsStep Rest s b o = IsStepFrom Rest (Rest s) b o

-- the scan goes on by the byte b, or the byte cannot stand here and nothing changes
abbrev pub Steps : {S : Type 0} → (S → List ℕ → Type 0) → S → ℕ → Bool → S → Type 0
Steps Rest old b true new = Moves (Rest old) b (Rest new)
Steps Rest old b false new = ((c : List ℕ) → Rest old (b ∷ c) → ⊥) × (new ≡ old)
