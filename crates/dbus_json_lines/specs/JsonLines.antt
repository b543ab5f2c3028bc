-- Which lines spell which message.
-- RFC 8259, sections 2 and 8.1, of the messages of the D-Bus Specification, "Message Format".
use Rattle.std.specs.Prelude.{◌≡◌, ℕ, List, Option, Some, option_and_then}
use Rattle.std.specs.List.{AllPass}
use Rattle.std.specs.Str.{IsUtf8}
use Rattle.json.specs.Json.{Json, if_last, value}
use Rattle.json.specs.Lex.{tokens}
use Rattle.json.specs.Word.{is_space}
use Rattle.dbus_value_model.specs.declared.limits.Limits.{Limits}
use Rattle.dbus_value_model.specs.declared.order.Order.{Order}
use Rattle.dbus_message_model.specs.Messages.{MessageTree}
use Rattle.dbus_json.specs.declared.integers.Integers.{Integers}
use Rattle.dbus_json_reader.specs.JsonMessages.{IsReadMessage}

-- a line of white space, which spells nothing and is no fault
abbrev pub IsBlank : List ℕ → Type 0
IsBlank line = AllPass is_space line

-- How deep the arrays and objects of a line may nest. No message's line nests deeper: the body is
-- an array in an object, and each of the 64 containers that may be open in it at once is an array
-- or an object, or of dict entries an array of arrays.
abbrev pub line_depth : ℕ
line_depth = 130

-- the one JSON value that a text is
abbrev pub json_of : (text : List ℕ) → Option Json
json_of text = option_and_then (λ p. if_last p.0 p.1) (value line_depth (tokens text))

-- The line, without its line feed, is UTF-8 and one JSON value, which spells this message, valid
-- within the limits. A message with no serial has this number as one.
pub record IsLineOf (integers : Integers) (limits : Limits) (number : ℕ) (line : List ℕ) (order : Order) (m : MessageTree) : Type 0 where
  pub text : IsUtf8 line
  pub json : Json
  pub read : json_of line ≡ Some json
  pub spelled : IsReadMessage integers limits number order m json
