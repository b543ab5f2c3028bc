-- A text that is cut to the cells of a terminal's line. D-Bus says nothing of terminals; texts are
-- UTF-8 by the D-Bus Specification, "Basic types".
use Rattle.std.specs.Prelude.{ℕ, zero, suc, ◌-◌, nat_lt, nat_le, List, [], ◌∷◌, ◌++◌, codes, if◌then◌else◌}
use Rattle.std.specs.List.{sum_by}
use Rattle.std.specs.Str.{chars, encode_utf8_all}

-- How many cells a character takes at most: one if it is ASCII. Some of the others take one, some
-- two and some none, so each counts as two.
abbrev pub cells : (character : ℕ) → ℕ
cells c = if nat_lt c 128 then 1 else 2

abbrev pub width : (characters : List ℕ) → ℕ
width cs = sum_by cells cs

-- the first characters, as many as have at most so many cells
abbrev pub front : (most : ℕ) → (characters : List ℕ) → List ℕ
front most [] = []
front most (c ∷ cs) = if nat_le (cells c) most then c ∷ front (most - cells c) cs else []

-- A text as far as it fits so many cells: all of it, or if it is wider its front, and `~` in the
-- last cell. For 0 cells there is no bound.
abbrev pub cut : (most : ℕ) → (text : List ℕ) → List ℕ
cut zero text = text
cut (suc most) text = if nat_lt (suc most) (width (chars text)) then encode_utf8_all (front most (chars text)) ++ codes "~" else text
