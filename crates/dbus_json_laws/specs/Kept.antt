-- What `json` writes is read as it is meant.
-- RFC 8259, of the values and the messages of the D-Bus Specification, "Type System" and "Message
-- Format".
use Rattle.std.specs.Prelude.{◌≡◌, ◌∷◌, ◌++◌, ℕ, ◌*◌, ◌^◌, ◌<◌, List, [], Some, codes}
use Rattle.std.specs.Str.{IsUtf8}
use Rattle.json.specs.Json.{Json, value}
use Rattle.json.specs.Token as tokens
use Rattle.json.specs.Lex as lexer
use Rattle.json.specs.Lex.{lex, between, token}
use Rattle.dbus_texts.specs.Types.{IsSingleType}
use Rattle.dbus_value_model.specs.declared.limits.Limits.{Limits}
use Rattle.dbus_value_model.specs.declared.order.Order.{Order}
use Rattle.dbus_value_model.specs.Values.{ValueTree, type_of, IsWellFormed}
use Rattle.dbus_message_model.specs.Messages.{MessageTree, IsValidMessage}
use Rattle.dbus_json.specs.declared.integers.Integers.{Integers}
use Rattle.dbus_json.specs.declared.place.LinePlace.{LinePlace}
use Rattle.dbus_json.specs.JsonMessages.{IsJsonLine}
use Rattle.dbus_json.specs.JsonValues.{string, IsJson}
use Rattle.dbus_json_reader.specs.JsonValues.{Spells}
use Rattle.dbus_json_lines.specs.JsonLines.{IsLineOf}

-- What `json` writes of a text, with its escapes, is one token, the string of that text, and what
-- stands after it is read as if it stood alone.
abbrev pub IsTextKept : Type 0
IsTextKept = (text rest : List ℕ) → IsUtf8 text → lex between (string text ++ rest) ≡ token (tokens.string text) ∷ lex between rest

-- What `json` writes of a value is JSON that spells the value, and nothing after it, with integers
-- that are safe or not. It nests no more than twice as deep as the value, since each entry of a dict
-- is an array within one.
abbrev pub IsValueKept : Type 0
IsValueKept = (integers : Integers) (depth : ℕ) (v : ValueTree) (text : List ℕ) → IsSingleType (type_of v) → IsWellFormed depth v → IsJson integers v text
    → (j : Json) × Spells integers v j × (value (2 * depth) (lexer.tokens text) ≡ Some (j, []))

-- The line that `json` writes of a valid message, without its line feed, is a line of this message,
-- whatever serial a message with none would have: it is UTF-8, and one JSON value that spells the
-- message. What says where the message stands are numbers of 64 bits.
abbrev pub IsLineKept : Type 0
IsLineKept = (integers : Integers) (limits : Limits) (number : ℕ) (order : Order) (m : MessageTree) (place : LinePlace) (line : List ℕ) → IsValidMessage limits m → place.number < 2 ^ 64 → place.offset < 2 ^ 64 → IsJsonLine integers order m place (line ++ codes "\n") → IsLineOf integers limits number line order m

-- No line is of two messages, whatever the limits.
abbrev pub IsOneMessageOfALine : Type 0
IsOneMessageOfALine = (integers : Integers) (limits bounds : Limits) (number : ℕ) (order other : Order) (m w : MessageTree) (line : List ℕ) → IsLineOf integers limits number line order m → IsLineOf integers bounds number line other w → (order ≡ other) × (m ≡ w)
