-- Where the tokens of a text of JSON begin.
-- RFC 8259, section 2.
use Rattle.std.specs.Prelude.{◌++◌, suc, ℕ, List, [], ◌∷◌, get_or, length, Bool, true, false}
use Rattle.dbus_json_lines.specs.declared.places.Scan.{Scan}
use Rattle.dbus_json_lines.specs.declared.places.Scan.TheVariants.{Between, Word, Text, Escape}
use Rattle.json.specs.Lex.{Lexeme, token, comma, colon, Class, quote, backslash, operator, space, other, class, Mode, between, in_word, in_string, in_escape, lex_byte}

-- the mode after a byte of this class
abbrev pub next_mode : Mode → Class → Mode
next_mode between quote = in_string
next_mode between backslash = in_word
next_mode between operator = between
next_mode between space = between
next_mode between other = in_word
next_mode in_word quote = in_word
next_mode in_word backslash = in_word
next_mode in_word operator = between
next_mode in_word space = between
next_mode in_word other = in_word
next_mode in_string quote = between
next_mode in_string backslash = in_escape
next_mode in_string operator = in_string
next_mode in_string space = in_string
next_mode in_string other = in_string
next_mode in_escape c = in_string

-- the offset, if the byte there begins a lexeme that is no comma and no colon
abbrev pub start : (at : ℕ) → List Lexeme → List ℕ
start at [] = []
start at (token t ∷ ls) = at ∷ []
start at (comma ∷ ls) = []
start at (colon ∷ ls) = []

-- where each lexeme begins that is no comma and no colon, of bytes the first of which has this offset
unfoldable pub starts_from : Mode → (at : ℕ) → List ℕ → List ℕ
starts_from m at [] = []
starts_from m at (x ∷ xs) = start at (lex_byte m (class x) x xs (λ next. [])) ++ starts_from (next_mode m (class x)) (suc at) xs

abbrev pub starts : List ℕ → List ℕ
starts text = starts_from between 0 text

-- Each token of a text of JSON is at the start of its number; if there are too few, the end.
abbrev pub start_of : (text : List ℕ) → (number : ℕ) → ℕ
start_of text number = get_or (starts text) number (length text)

abbrev pub mode_of : Scan → Mode
mode_of Between = between
mode_of Word = in_word
mode_of Text = in_string
mode_of Escape = in_escape

-- the offset, if a lexeme begins that is no comma and no colon
abbrev pub start_if : Bool → (at : ℕ) → List ℕ
start_if true at = at ∷ []
start_if false at = []
