-- Which rules are asked of a message. D-Bus Specification, "Match Rules" and "Eavesdropping".
use Rattle.std.specs.Prelude.{ℕ, Bool, false, not, ◌&&◌, ◌||◌, List, codes, is_some}
use Rattle.std.specs.List.{list_any}
use Rattle.std.specs.Str.{bytes_eq}
use Rattle.dbus_message_model.specs.Messages.{MessageTree}
use Rattle.dbus_message_model.specs.declared.field_code.TheConstants as field
use Rattle.dbus_match.specs.TakenFor.{text_at}
use Rattle.dbus_rule.specs.declared.key.Key.{Key}
use Rattle.dbus_rule.specs.declared.key.Key.TheVariants.{Eavesdrop}
use Rattle.dbus_rule.specs.Rules.{Pair}

-- the key and the value are `eavesdrop='true'`
abbrev pub is_eavesdrop : Key → List ℕ → Bool
is_eavesdrop Eavesdrop v = bytes_eq v (codes "true")
is_eavesdrop k v = false

-- a rule of these keys is for messages to others too
abbrev pub eavesdrops : List Pair → Bool
eavesdrops ps = list_any (λ p. is_eavesdrop p.key p.value) ps

-- the rule is asked of the message; as a bus asks, of one with a DESTINATION only if it eavesdrops
abbrev pub is_asked : (as_bus : Bool) → MessageTree → List Pair → Bool
is_asked as_bus m ps = not (as_bus && is_some (text_at field.DESTINATION m)) || eavesdrops ps
