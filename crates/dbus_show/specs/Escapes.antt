-- Which characters of a text are escaped as it is written, and how.
-- RFC 8259, section 7, for strings of JSON.
use Rattle.std.specs.Prelude.{ℕ, List, [], ◌∷◌, ◌++◌, Bool, codes, chars, encode_utf8, ◌||◌, ◌/◌, ◌%◌, nat_eq, if◌then◌else◌}
use Rattle.std.specs.Char.{is_ascii_control}
use Rattle.std.specs.Char.Escape.{encode_utf16, escape_unicode}
use Rattle.std.specs.Int.{is_in_range}
use Rattle.std.specs.List.{concat, flat_map}
use Rattle.hex.specs.Hex.{encode_lower}
use Rattle.dbus_show.specs.declared.escapes.Escapes.{Escapes}
use Rattle.dbus_show.specs.declared.escapes.Escapes.TheVariants.{Shown, Json, Hidden, Line}

-- A hidden character, beyond ASCII, is one that a terminal may obey, or that it does not draw: the
-- controls U+0080 to U+009F; what ends a line, turns the direction of writing, or joins and parts
-- letters; what has no width; tags. Unicode, chapter 23, "Special Areas and Format Characters".
abbrev pub is_hidden : ℕ → Bool
is_hidden c =
    is_in_range 0x80 0x9F c || nat_eq c 0xAD || nat_eq c 0x61C || nat_eq c 0x180E || is_in_range 0x200B 0x200F c || is_in_range 0x2028 0x202E c
    || is_in_range 0x2060 0x206F c || nat_eq c 0xFEFF || is_in_range 0xFFF9 0xFFFB c || is_in_range 0xE0000 0xE0FFF c

-- a quotation mark or a backslash
abbrev pub is_quote : ℕ → Bool
is_quote c = nat_eq c 34 || nat_eq c 92

-- whether a character is escaped
abbrev pub is_escaped : Escapes → ℕ → Bool
is_escaped Shown c = is_quote c || is_ascii_control c
is_escaped Json c = is_quote c || is_ascii_control c || is_hidden c
is_escaped Hidden c = is_hidden c
is_escaped Line c = is_ascii_control c || is_hidden c

-- the units of a character in UTF-16, each as `\u` and four hexadecimal digits
abbrev pub units_text : ℕ → List ℕ
units_text c = flat_map (λ u. codes "\\u" ++ encode_lower (u / 256 ∷ u % 256 ∷ [])) (encode_utf16 c)

-- What stands for a character that is escaped: a backslash and itself, if it is a quotation mark or
-- a backslash; of any other, in a text that is shown, `\x` and two hexadecimal digits; in JSON, its
-- units; or `\u{`, its code in hexadecimal and `}`. In a line it is `\x` for a control character of
-- ASCII, and `\u{` for a hidden one.
abbrev pub escape : Escapes → ℕ → List ℕ
escape Shown c = if is_quote c then 92 ∷ c ∷ [] else codes "\\x" ++ encode_lower (c ∷ [])
escape Json c = if is_quote c then 92 ∷ c ∷ [] else units_text c
escape Hidden c = escape_unicode c
escape Line c = if is_ascii_control c then codes "\\x" ++ encode_lower (c ∷ []) else escape_unicode c

-- a text with its escapes: every other character is itself
abbrev pub escaped : Escapes → List ℕ → List ℕ
escaped escapes text = flat_map (λ c. if is_escaped escapes c then escape escapes c else encode_utf8 c) (chars text)

-- the same between quotation marks
abbrev pub quoted_by : Escapes → List ℕ → List ℕ
quoted_by escapes text = concat (codes "\"" ∷ escaped escapes text ∷ codes "\"" ∷ [])

-- a text in which each hidden character is seen, by its escape
abbrev pub visible : List ℕ → List ℕ
visible text = escaped Hidden text
