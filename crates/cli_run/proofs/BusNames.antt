-- The names by which connections are known are bus names.
use Rattle.std.proofs.Common.{◌≡◌, ℕ, List, [], ◌∷◌, ◌++◌, Option, None, Some, refl, subst}
use Rattle.std.specs.Prelude.{option_and_then}
use Rattle.std.specs.FinSet.{empty}
use Rattle.std.specs.List.{AllByRecursion}
use Rattle.std.specs.Option.{IfSome}
use Rattle.std.proofs.lemmas.Bool.{and_parts}
use Rattle.dbus_texts.specs.ComputedKinds.{is_kind}
use Rattle.dbus_texts.specs.Kinds.{IsKind}
use Rattle.dbus_texts.specs.declared.text_kind.TextKind.TheVariants.{BusName}
use Rattle.dbus_texts.proofs.KindFacts.{kind_is}
use Rattle.dbus_message_model.specs.Messages.{MessageTree}
use Rattle.dbus_calls.specs.Answering.{is_ownable}
use Rattle.dbus_calls.specs.Events.{destination_of, sender_of}
use Rattle.dbus_call_lines.specs.Listing.{AreNames, Numbered}
use Rattle.dbus_names.specs.Filters.{is_well_known}
use Rattle.dbus_names.specs.NameStates.{NameState, known_after, known_after_all}
use Rattle.dbus_names.proofs.WantedNames.{knows_wanted}
use Rattle.cli_run.specs.CallListing.{named, named_at, nothing_known}
use Rattle.cli_run.specs.Inputs.{Placed}
use Rattle.cli_run.specs.Laws.{TellsBusNames}

-- what is known after these messages
abbrev known : List MessageTree → NameState
known ms = known_after_all is_well_known nothing_known ms

one_more : (state : NameState) (ms : List MessageTree) (m : MessageTree) → known_after_all is_well_known state (ms ++ m ∷ []) ≡ known_after is_well_known (known_after_all is_well_known state ms) m
one_more state [] m = refl
one_more state (n ∷ ms) m = one_more (known_after is_well_known state n) ms m

is_name : (ms : List MessageTree) (unique name : List ℕ) → (known ms).names unique ≡ Some name → IsKind BusName name
is_name ms unique name is = kind_is BusName name (and_parts (is_ownable name) (is_kind BusName name) (knows_wanted is_well_known empty ms unique name is)).1

if_known : (ms : List MessageTree) (unique : List ℕ) (name : Option (List ℕ)) → (known ms).names unique ≡ name → IfSome name (IsKind BusName)
if_known ms unique None is = tt
if_known ms unique (Some name) is = is_name ms unique name is

if_there : (ms : List MessageTree) (unique : Option (List ℕ)) → IfSome (option_and_then (known ms).names unique) (IsKind BusName)
if_there ms None = tt
if_there ms (Some unique) = if_known ms unique ((known ms).names unique) refl

-- those of a message, and of those after it
are_names : (ms : List MessageTree) (m : Placed) → AreNames (named_at m.place (known ms) m.item.message).names
are_names ms m = (if_there ms (sender_of m.item.message), if_there ms (destination_of m.item.message))

abbrev AreAll : List Numbered → Type 0
AreAll xs = AllByRecursion (λ x. AreNames x.names) xs

all_names : (ms : List MessageTree) (items : List Placed) → AreAll (named (known ms) items)
all_names ms [] = tt
all_names ms (m ∷ items) =
    let now = ms ++ m.item.message ∷ [] in
    subst (λ (os : NameState). AreAll (named_at m.place os m.item.message ∷ named os items)) (one_more nothing_known ms m.item.message) (are_names now m, all_names now items)

pub tells_bus_names : TellsBusNames
tells_bus_names items = all_names [] items
