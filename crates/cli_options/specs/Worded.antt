-- The words that stand for one of a few things, as a byte order.
use Rattle.std.specs.Prelude.{◌≡◌, List, Option, Some, None, codes, option_map}
use Rattle.clap.specs.Words.{Row, Text, first_of}
use Rattle.dbus_value_model.specs.declared.fd_rule.FdRule.{FdRule}
use Rattle.dbus_value_model.specs.declared.fd_rule.FdRule.TheVariants.{Any, BelowCount}
use Rattle.dbus_value_model.specs.declared.order.Order.{Order}
use Rattle.dbus_value_model.specs.declared.order.Order.TheVariants.{Little, Big}
use Rattle.dbus_handshake_input.specs.declared.side.Side.{Side}
use Rattle.dbus_handshake_input.specs.declared.side.Side.TheVariants.{Client, Server}

-- the word that stands for a byte order
abbrev pub order_word : Order → Text
order_word Little = codes "l"
order_word Big = codes "B"

-- the word that stands for a side of a connection
abbrev pub side_word : Side → Text
side_word Client = codes "client"
side_word Server = codes "server"

-- the word that stands for a rule on the indexes of descriptors
abbrev pub fds_word : FdRule → Text
fds_word Any = codes "any"
fds_word BelowCount = codes "below-count"

module _ {T : Type 0} (word_of : T → Text) where
  -- the word stands for the thing, or for none
  abbrev pub IsWordOf : Text → Option T → Type 0
  IsWordOf word (Some thing) = word ≡ word_of thing
  IsWordOf word None = (thing : T) → word ≡ word_of thing → ⊥

  -- the option of this name is given the word of the thing; there is none if the option is not there
  abbrev pub HasWord : Text → List Row → Option T → Type 0
  HasWord name rows thing = first_of name rows ≡ option_map word_of thing
