-- What drafts gain.
use Rattle.std.specs.Prelude.{ℕ, List, ◌++◌}

-- a draft that gains two texts gains the one after the other
abbrev pub Joins : {D : Type 0} → (D → List ℕ → D → Type 0) → Type 0
Joins {D} gains = (a b c : D) (s t : List ℕ) → gains a s b → gains b t c → gains a (s ++ t) c

-- a draft gains a text of which this holds
abbrev pub GainsSome : {D : Type 0} → (D → List ℕ → D → Type 0) → (before : D) → (List ℕ → Type 0) → (now : D) → Type 0
GainsSome gains before Is now = (text : List ℕ) × Is text × gains before text now
