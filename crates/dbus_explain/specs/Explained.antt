-- The lines that explain why a message is refused.
use Rattle.std.specs.Prelude.{◌≡◌, ℕ, ⊤, ◌+◌, ◌<◌, ◌≤◌, List, ◌++◌, codes, ◌-◌, [], ◌∷◌, take, drop, length, replicate, decimal, min, chars, IsCharBoundary, Option, None, Some}
use Rattle.std.specs.List.{All, flat_map}
use Rattle.dbus_show.specs.ShownMessages.{line_feeds}
use Rattle.hex.specs.Hex.{encode_lower}
use Rattle.dbus_value_model.specs.declared.fault.Fault.{Fault}
use Rattle.dbus_show.specs.Escapes.{escaped, visible}
use Rattle.dbus_show.specs.ShownValues.{quoted}
use Rattle.dbus_show.specs.declared.escapes.Escapes.TheVariants.{Line, Shown}
use Rattle.dbus_room.specs.Counting.{counted}
use Rattle.dbus_explain.specs.Heads.{IsHead, head_lines, head_part, head_shown}
use Rattle.dbus_explain.specs.Looks.{look_text}
use Rattle.dbus_explain.specs.Names.{IsNameOf, text_part}
use Rattle.dbus_explain.specs.Rules.{rule_text}
use Rattle.dbus_explain.specs.declared.explanation.Explanation.{Explanation}
use Rattle.dbus_explain.specs.declared.explanation.LinesPart.{LinesPart}
use Rattle.dbus_explain.specs.declared.message.Refused.{Refused}
use Rattle.dbus_explain.specs.declared.search.StatedText.{StatedText}

-- Texts of several lines.

-- these lines, each ended by a line feed, and none has another one
pub record AreLines (lines : List (List ℕ)) (text : List ℕ) : Type 0 where
  pub whole : All (λ line. line_feeds line ≡ 0) lines
  pub text_is : text ≡ flat_map (λ line. line ++ codes "\n") lines

-- The bytes around a place, in hexadecimal, and the one there between brackets.

abbrev pub byte_text : ℕ → List ℕ
byte_text b = codes " " ++ encode_lower (b ∷ [])

-- the first byte between brackets, and the others; at the end of the bytes, brackets alone
abbrev pub marked : List ℕ → List ℕ
marked [] = codes " []"
marked (b ∷ after) = codes " [" ++ (encode_lower (b ∷ []) ++ (codes "]" ++ flat_map byte_text after))

-- at most eight bytes before the place, the byte there, and at most seven after it
abbrev pub window : (bytes : List ℕ) → (at : ℕ) → List ℕ
window bytes at = flat_map byte_text (drop (at - 8) (take at bytes)) ++ marked (take 8 (drop at bytes))

-- the place of the fault, or the end of the bytes if it is past them
abbrev pub place_in : List ℕ → Fault → ℕ
place_in bytes fault = min fault.at (length bytes)

-- the message's number, where it begins, and the place of the fault, with what is told of it
abbrev pub place_line : Refused → (at : ℕ) → (name : List ℕ) → List ℕ
place_line refused at name =
    codes "  message " ++ (decimal refused.number ++ (codes " at " ++ (decimal refused.offset ++ (codes ", byte " ++ (decimal at ++ (codes ": " ++ name))))))

-- the bytes around the place
abbrev pub bytes_line : List ℕ → (at : ℕ) → List ℕ
bytes_line bytes at = codes " " ++ window bytes at

abbrev pub rule_line : List ℕ → List ℕ
rule_line rule = codes "  " ++ rule

-- the lines of a place, which has this name and is in this text, and of this head: a line of the
-- place, one of the head of the message if its type is whole, one of the bytes around the place, and
-- one of the rule that they break; and, if the input does not begin as a message does, of what it is
abbrev pub lines_of : (refused : Refused) → (at : ℕ) → (name : List ℕ) → Option StatedText → (head : Option (List ℕ)) → List (List ℕ)
lines_of refused at name text head =
    place_line refused at (name ++ text_part text) ∷ (head_lines head ++ (bytes_line refused.bytes.now at
    ∷ rule_line (rule_text refused.fault.reason ++ look_text refused) ∷ []))

-- it is these lines, of the fault's place and head
pub record IsExplained (refused : Refused) (text : List ℕ) : Type 0 where
  pub name : List ℕ
  pub stated : Option StatedText
  pub head : Option (List ℕ)
  pub named : IsNameOf refused.bytes.now refused.fault.reason (place_in refused.bytes.now refused.fault) name stated
  pub headed : IsHead refused.bytes.now (place_in refused.bytes.now refused.fault) refused.number head
  pub lines : AreLines (lines_of refused (place_in refused.bytes.now refused.fault) name stated head) text

-- The parts of these lines.

-- a part of a text comes behind another, and its place is told
pub record IsPart (text before part : List ℕ) (place : LinesPart) : Type 0 where
  pub after : List ℕ
  pub text_is : text ≡ before ++ (part ++ after)
  pub start_is : place.start ≡ counted (length before)
  pub end_is : place.end ≡ counted (length before + length part)

abbrev pub IsPartIf : (text before : List ℕ) → (part : Option (List ℕ)) → Option LinesPart → Type 0
IsPartIf text before None None = ⊤
IsPartIf text before (Some part) (Some place) = IsPart text before part place
IsPartIf text before part place = ⊥

-- what comes before the name, the head and the rule
abbrev pub before_name : (refused : Refused) → (at : ℕ) → List ℕ
before_name refused at = place_line refused at []

abbrev pub before_head : (refused : Refused) → (at : ℕ) → (name : List ℕ) → Option StatedText → List ℕ
before_head refused at name text = place_line refused at (name ++ text_part text) ++ codes "\n  "

abbrev pub before_rule : (refused : Refused) → (at : ℕ) → (name : List ℕ) → Option StatedText → (head : Option (List ℕ)) → List ℕ
before_rule refused at name text head =
    place_line refused at (name ++ text_part text) ++ (head_part head ++ (codes "\n" ++ (bytes_line refused.bytes.now at ++ codes "\n  ")))

-- the parts of an explanation have these places in its text, and it is of this length
pub record ArePartsOf {refused : Refused} {text : List ℕ} (is : IsExplained refused text) (parts : Explanation) : Type 0 where
  pub length_is : parts.length ≡ counted (length text)
  pub name : IsPart text (before_name refused (place_in refused.bytes.now refused.fault)) is.name parts.name
  pub head : IsPartIf text (before_head refused (place_in refused.bytes.now refused.fault) is.name is.stated) (head_shown is.head) parts.head
  pub rule : IsPart text (before_rule refused (place_in refused.bytes.now refused.fault) is.name is.stated is.head) (rule_text refused.fault.reason) parts.rule
  pub stated : parts.text ≡ is.stated

-- The lines that show a place in a line.

-- a blank for each character of a text
abbrev pub blanks : List ℕ → List ℕ
blanks text = replicate (length (chars text)) 32

-- the line, with its escapes, of what comes before the place and what is there; and a mark under the
-- character that is there, or under the end
abbrev pub marked_lines : (before there : List ℕ) → List ℕ
marked_lines before there = codes "  " ++ (escaped Line before ++ (escaped Line there ++ (codes "\n  " ++ (blanks (escaped Line before) ++ codes "^\n"))))

-- The lines that explain why a match rule is refused. Which text says what may be there is not
-- stated.

-- the rule as a text is shown, with hidden characters seen
abbrev pub quoted_line : (text : List ℕ) → List ℕ
quoted_line text = codes "  " ++ visible (quoted text)

-- a mark under the character behind a text, which is shown so
abbrev pub mark_line : (front : List ℕ) → List ℕ
mark_line front = codes "   " ++ (blanks (visible (escaped Shown front)) ++ codes "^")

-- a mark under the character of a text in which the place is, or under the end
pub record IsMarkAt (text : List ℕ) (at : ℕ) (line : List ℕ) : Type 0 where
  pub n : ℕ
  pub bound : n ≤ at
  pub begins : IsCharBoundary text n
  pub nearest : (i : ℕ) → n < i → i ≤ at → IsCharBoundary text i → ⊥
  pub line_is : line ≡ mark_line (take n text)

-- the rule, the mark, and a line of what may be there
pub record IsExplainedRule (text : List ℕ) (at : ℕ) (explained : List ℕ) : Type 0 where
  pub mark : List ℕ
  pub marked_at : IsMarkAt text at mark
  pub allowed : List ℕ
  pub lines : AreLines (quoted_line text ∷ mark ∷ rule_line allowed ∷ []) explained
