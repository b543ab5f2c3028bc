-- What a view is of: a message that bytes, all of them, spell.
-- D-Bus Specification, "Message Format".
use Rattle.std.specs.Prelude.{◌≡◌, ℕ, List, length, ◌⊎◌, ◌<◌, ◌+◌, [], ◌∷◌, map, Option, None, IfSome, MatchOption}
use Rattle.dbus_value_model.specs.declared.limits.Limits.{Limits}
use Rattle.dbus_value_model.specs.declared.order.Order.{Order}
use Rattle.dbus_message_model.specs.Messages.{MessageTree, FieldTree, field_struct}
use Rattle.dbus_header.specs.MessageOutcomes.{IsWhole}
use Rattle.dbus_value_model.specs.declared.fault.Fault.{Fault}
use Rattle.dbus_value_model.specs.declared.fault.Reason.TheVariants.{Trailing}
use Rattle.dbus_value_model.specs.Items.{fault}
use Rattle.dbus_header.specs.NoMessage.{IsFaultAtEnd}
use Rattle.dbus_value_model.specs.Bytes.{gap_to}
use Rattle.dbus_value_model.specs.Values.{VariantValue, NoValues, MoreValues, value_trees}
use Rattle.dbus_values.specs.Seen.{AreInside}
use Rattle.dbus_values.specs.States.{AreLeft, ElementsState, ElementsAreLeft, IsAfterElement}
use Rattle.dbus_view.specs.declared.fields.FieldView.{FieldView}

-- a view: the bytes that it is of, and the limits that their message keeps
pub record ViewState : Type 0 where
  pub limits : Limits
  pub bytes : List ℕ

-- all of the bytes spell the message in the order, and it keeps the limits
abbrev pub Views : ViewState → Order → MessageTree → Type 0
Views v order m = IsWhole v.limits v.bytes order m (length v.bytes)

-- the view is of some message
abbrev pub ViewsOne : ViewState → Type 0
ViewsOne v = (order : Order) × (m : MessageTree) × Views v order m

-- the view is of the one message that these bytes are within the limits
abbrev pub IsViewOf : Limits → List ℕ → ViewState → Type 0
IsViewOf limits bytes v = (v.limits ≡ limits) × (v.bytes ≡ bytes) × ViewsOne v

-- Why bytes are not one message.
-- D-Bus Specification, "Message Protocol".

-- they are refused with the fault, or end too soon; or they begin with a message after which others
-- stand, the first of them at the message's end
abbrev pub IsViewFault : Limits → List ℕ → Fault → Type 0
IsViewFault limits bytes f =
    IsFaultAtEnd limits bytes f
    ⊎ ((order : Order) × (m : MessageTree) × (n : ℕ) × IsWhole limits bytes order m n × (n < length bytes) × (f ≡ fault n Trailing))

-- Header fields of a message that are still to be seen, and how each is seen.
-- D-Bus Specification, "Header Fields".

-- these fields stand there, the elements of the header's array
abbrev pub FieldsAreLeft : ElementsState → List FieldTree → Type 0
FieldsAreLeft s fs = (rest : List ℕ) × ElementsAreLeft s (value_trees (map field_struct fs)) rest

-- the field is seen so: its code, and its value alone is left
pub record IsFieldSeen (field : FieldView) (f : FieldTree) : Type 0 where
  pub code : field.code ≡ f.code
  pub after : List ℕ
  pub value : AreLeft field.value (MoreValues f.value NoValues) after

-- where the variant of a field begins that itself begins at an offset: after its padding to 8 and
-- its code
abbrev pub variant_start : (at : ℕ) → ℕ
variant_start at = at + gap_to 8 at + 1

-- the first of some fields is seen so, and the others are left
abbrev pub IsFirstField : ElementsState → List FieldTree → FieldView → Type 0
IsFirstField left fs field = (f : FieldTree) × (others : List FieldTree) × (fs ≡ f ∷ others) × IsFieldSeen field f × FieldsAreLeft left others

-- A call of `next`: what is left before it, what it answers, and what is left after it. The first
-- field is seen, its value where its variant holds it, and the others are left in the same bytes;
-- or there is none, and nothing moves.
pub record PassesField (before : ElementsState) (result : Option FieldView) (left : ElementsState) : Type 0 where
  pub first : (fs : List FieldTree) → FieldsAreLeft before fs → MatchOption result ((fs ≡ []) × FieldsAreLeft left fs) (λ field. IsFirstField left fs field)
  pub value : (f : FieldTree) (others : List FieldTree) → FieldsAreLeft before (f ∷ others) → IfSome result (λ field. AreInside before.order before.bytes (variant_start before.at) (VariantValue f.value) field.value)
  pub after : (f : FieldTree) (others : List FieldTree) → FieldsAreLeft before (f ∷ others) → IsAfterElement before (field_struct f) left
  pub stays : result ≡ None → left ≡ before
