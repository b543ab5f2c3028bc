-- The names that members of an object may have, and what shows that one may not have its name.
-- RFC 8259, section 4, of the messages of the D-Bus Specification, "Message Format" and "Header
-- Fields".
use Rattle.std.specs.Prelude.{◌≡◌, ℕ, List, [], ◌∷◌, ◌++◌, length, map, true, if◌then◌else◌, Option, Some, None, codes}
use Rattle.std.specs.List.{list_all}
use Rattle.json.specs.Json.{Json, Members}
use Rattle.json.specs.Strict.{AreDistinct, keys}
use Rattle.json.specs.Tree.{members_tokens}
use Rattle.dbus_show.specs.ShownMessages.{field_name}
use Rattle.dbus_json_reader.specs.JsonMessages.{is_among, named_values, other_names, plain_names}
use Rattle.dbus_json_reader.specs.declared.names.Names.{Names}
use Rattle.dbus_json_reader.specs.declared.names.Names.TheVariants as names
use Rattle.dbus_json_reader.specs.declared.reasons.JsonReason.{JsonReason}
use Rattle.dbus_json_reader.specs.declared.reasons.JsonReason.TheVariants as reason

-- those of the known header fields
abbrev pub known_names : List (List ℕ)
known_names = map field_name (1 ∷ 2 ∷ 3 ∷ 4 ∷ 5 ∷ 6 ∷ 7 ∷ 8 ∷ 9 ∷ [])

abbrev pub message_names : List (List ℕ)
message_names = plain_names ++ known_names

abbrev pub names_for : Names → List (List ℕ)
names_for names.Message = message_names
names_for names.Field = other_names
names_for names.Variant = codes "type" ∷ codes "value" ∷ []

-- each of the members has one of these names, and no two have one
pub record AreNamed (names : List (List ℕ)) (ms : Members) : Type 0 where
  pub named : list_all (is_among names) (keys ms) ≡ true
  pub distinct : AreDistinct (keys ms)

-- why a member may not have this name after members of these
abbrev pub name_reason : (names before : List (List ℕ)) → (name : List ℕ) → Option JsonReason
name_reason names before name =
    if is_among names name then (if is_among before name then Some reason.MemberTwice else None)
    else Some reason.MemberUnknown

-- The first of an object's members that may not have its name: the token is that name, behind the
-- brace and the members `front`, whose count has one of a brace too.
pub record IsNameFault (names : List (List ℕ)) (ms : Members) (why : JsonReason) (at : ℕ) : Type 0 where
  pub front : Members
  pub name : List ℕ
  pub value : Json
  pub rest : Members
  pub parts : named_values ms ≡ named_values front ++ (name, value) ∷ named_values rest
  pub kept : AreNamed names front
  pub broken : name_reason names (keys front) name ≡ Some why
  pub before : at ≡ length (members_tokens front)
