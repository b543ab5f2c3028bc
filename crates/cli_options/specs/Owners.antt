-- The owners of names that the words `--owner NAME=UNIQUE` give.
-- D-Bus Specification, "Valid Names" ("Bus names").
use Rattle.std.specs.Prelude.{◌≡◌, ℕ, List, ◌∷◌, ◌++◌, Bool, false, ◌&&◌, not, Option, None, Some, string_bytes}
use Rattle.std.specs.List.{AllZip, list_any}
use Rattle.std.specs.declared.alloc.Global.{Global}
use Rattle.std.specs.Str.{bytes_eq}
use Rattle.clap.specs.Words.{Text}
use Rattle.dbus_texts.specs.Characters.{colon}
use Rattle.dbus_texts.specs.Kinds.{IsKind}
use Rattle.dbus_texts.specs.declared.text_kind.TextKind.TheVariants.{BusName}
use Rattle.dbus_match.specs.declared.owner.Owner.{Owner}
use Rattle.dbus_match.specs.Matching.{Ownership, ownership}
use Rattle.dbus_calls.specs.Answering.{is_ownable}
use Rattle.dbus_rule.specs.declared.rule.Rule.{Rule}
use Rattle.dbus_rule.specs.Rules.{sender_of}
use Rattle.dbus_rule.specs.RuleViews.{rule_pairs}
use Rattle.cli_options.specs.declared.selection.Selection.{Selection}

abbrev equals_sign : ℕ
equals_sign = 61

abbrev pub StartsWithColon : Text → Type 0
StartsWithColon w = (rest : Text) × (w ≡ colon ∷ rest)

abbrev pub IsWellKnown : Text → Type 0
IsWellKnown w = IsKind BusName w × (StartsWithColon w → ⊥)

abbrev pub IsUnique : Text → Type 0
IsUnique w = IsKind BusName w × StartsWithColon w

-- the word is a well-known bus name, `=` and the unique bus name of its owner
pub record IsOwnerWord (word : Text) (o : Ownership) : Type 0 where
  pub spelled : word ≡ o.name ++ equals_sign ∷ o.unique
  pub name : IsWellKnown o.name
  pub unique : IsUnique o.unique

-- the words give the owners, one each
abbrev pub AreOwnersOf : List Text → List (Owner Global) → Type 0
AreOwnersOf words owners = AllZip (λ word owner. IsOwnerWord word (ownership owner)) words owners

-- The senders that rules ask for by a well-known name of which nobody is known to be the owner.
-- D-Bus Specification, "Message Bus Names": a bus names each sender by its unique name, and itself
-- by its own.

abbrev pub some_owns : List (Owner Global) → List ℕ → Bool
some_owns owners name = list_any (λ o. bytes_eq (string_bytes o.name) name) owners

-- the name is well-known, not the bus's own, and none of these owns it
abbrev pub is_unowned : List (Owner Global) → List ℕ → Bool
is_unowned owners name = is_ownable name && not (some_owns owners name)

-- the sender that a rule asks for is such a name
abbrev pub needs_owner : List (Owner Global) → Option (List ℕ) → Bool
needs_owner owners None = false
needs_owner owners (Some name) = is_unowned owners name

abbrev pub some_needs_owner : List (Owner Global) → List (Rule Global) → Bool
some_needs_owner owners rules = list_any (λ rule. needs_owner owners (sender_of (rule_pairs rule))) rules

-- a selection that learns no owner has such a rule
abbrev pub selection_lacks_owner : Selection → Bool
selection_lacks_owner selection = not selection.learns && some_needs_owner selection.owners.items selection.rules.items

abbrev pub lacks_owner : Option Selection → Bool
lacks_owner None = false
lacks_owner (Some selection) = selection_lacks_owner selection
