-- What may follow at each place within a text, and the steps from place to place.
-- D-Bus Specification, "Basic types" ("String-like types", "STRING").
use Rattle.std.specs.Prelude.{ℕ, Bool, true, false, Option, Some, None, List, [], ◌∷◌, if◌then◌else◌, ◌==◌}
use Rattle.std.specs.Int.{is_in_range, IsInRange}
use Rattle.dbus_texts.specs.declared.utf8.Utf8Place.{Utf8Place}
use Rattle.dbus_texts.specs.declared.utf8.Utf8Place.TheVariants.{Free, Last, LastTwo, LastThree, AfterE0, AfterEd, AfterF0, AfterF4}
use Rattle.dbus_texts.specs.Kinds.{IsText}

-- a byte from low to high, and then what R says
abbrev pub ByteThen : ℕ → ℕ → (List ℕ → Type 0) → List ℕ → Type 0
ByteThen low high R [] = ⊥
ByteThen low high R (b ∷ c) = IsInRange low high b × R c

-- What may follow, by the place in a character.
abbrev pub text_rest : Utf8Place → List ℕ → Type 0
text_rest Free c = IsText c
text_rest Last c = ByteThen 128 191 IsText c
text_rest LastTwo c = ByteThen 128 191 (ByteThen 128 191 IsText) c
text_rest LastThree c = ByteThen 128 191 (ByteThen 128 191 (ByteThen 128 191 IsText)) c
text_rest AfterE0 c = ByteThen 160 191 (ByteThen 128 191 IsText) c
text_rest AfterEd c = ByteThen 128 159 (ByteThen 128 191 IsText) c
text_rest AfterF0 c = ByteThen 144 191 (ByteThen 128 191 (ByteThen 128 191 IsText)) c
text_rest AfterF4 c = ByteThen 128 143 (ByteThen 128 191 (ByteThen 128 191 IsText)) c

-- one byte further
abbrev pub lead : ℕ → Option Utf8Place
lead b =
    if is_in_range 1 127 b then Some Free
    else (if is_in_range 194 223 b then Some Last
    else (if b == 224 then Some AfterE0
    else (if is_in_range 225 236 b then Some LastTwo
    else (if b == 237 then Some AfterEd
    else (if is_in_range 238 239 b then Some LastTwo
    else (if b == 240 then Some AfterF0
    else (if is_in_range 241 243 b then Some LastThree
    else (if b == 244 then Some AfterF4 else None))))))))

abbrev pub text_next : Utf8Place → ℕ → Option Utf8Place
text_next Free b = lead b
text_next Last b = if is_in_range 128 191 b then Some Free else None
text_next LastTwo b = if is_in_range 128 191 b then Some Last else None
text_next LastThree b = if is_in_range 128 191 b then Some LastTwo else None
text_next AfterE0 b = if is_in_range 160 191 b then Some Last else None
text_next AfterEd b = if is_in_range 128 159 b then Some Last else None
text_next AfterF0 b = if is_in_range 144 191 b then Some LastTwo else None
text_next AfterF4 b = if is_in_range 128 143 b then Some LastTwo else None

abbrev pub text_end : Utf8Place → Bool
text_end Free = true
text_end Last = false
text_end LastTwo = false
text_end LastThree = false
text_end AfterE0 = false
text_end AfterEd = false
text_end AfterF0 = false
text_end AfterF4 = false
