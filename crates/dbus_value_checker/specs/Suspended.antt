-- A reading that is suspended: what is wanted from here on, and what it answers to the bytes that
-- come. D-Bus Specification, "Marshaling (Wire Format)".
use Rattle.std.specs.Prelude.{ℕ, zero, suc, ◌+◌, List, [], ◌∷◌, Option, nat_lt, nat_eq, if◌then◌else◌}
use Rattle.dbus_texts.specs.Types.{NumberCode, TypeTree, NumberType, TextType, VariantType, ArrayType, StructType, EntryType, TypeTrees, NoTypes, MoreTypes}
use Rattle.dbus_types.specs.Alignments.{width, length_width, alignment_of}
use Rattle.dbus_texts.specs.ComputedKinds.{type_spelled}
use Rattle.dbus_texts.specs.declared.text_kind.TextKind.TheVariants as kinds
use Rattle.dbus_value_model.specs.WantedTexts.{WantedText, kind_of, Of}
use Rattle.dbus_value_model.specs.declared.limits.Bounds.{Bounds}
use Rattle.dbus_value_model.specs.declared.order.Order.{Order}
use Rattle.dbus_value_model.specs.Values.{ValueTree}
use Rattle.dbus_value_model.specs.declared.fault.Reason.{Reason}
use Rattle.dbus_value_model.specs.declared.fault.Reason.TheVariants as reasons
use Rattle.dbus_value_model.specs.Items.{fault}
use Rattle.dbus_value_model.specs.ValueItems.{number_row, text_row, array_row}
use Rattle.dbus_value_model.specs.Reading.{Reader, Outcome, Done, Faulty, Partial, after, padding, number, text, nul, fields, value}

-- what is read from here on; the values are forgotten
abbrev pub On : Type 0
On = ℕ → List ℕ → Outcome (Unit {0})

-- a reader, whose value is forgotten, and what is read after it
abbrev pub onward : {A : Type 0} → Reader A → On → On
onward run next o s = after (run o s) (λ x. next)

-- no more is wanted
abbrev pub done : On
done o s = Done tt o s

-- ---- containers

-- one that is open: the types of the parts that are still wanted, or an array with at most so many
-- elements to come
pub data Work : Type 0 where
  Parts : (depth_left end : ℕ) → TypeTrees → Work
  Elements : (turns depth_left end : ℕ) → TypeTree → Work

abbrev pub elements : ℕ → ℕ → Reader ValueTree → On → On
elements zero end part next o s = if nat_eq o end then next o s else Partial
elements (suc turns) end part next o s =
    if nat_lt o end then after (part o s) (λ v. elements turns end part next) else if nat_eq o end then next o s else Partial

abbrev pub work : Bounds → Order → Work → On → On
work bounds order (Parts depth_left end ts) next = onward (fields (value bounds order depth_left end) ts) next
work bounds order (Elements turns depth_left end t) next = elements turns end (value bounds order depth_left end t) next

-- the innermost first
abbrev pub works : Bounds → Order → On → List Work → On
works bounds order last [] = last
works bounds order last (w ∷ ws) = work bounds order w (works bounds order last ws)

-- ---- items

-- a text after which no more of it is read, whose length has so many bytes; or the signature of a
-- variant's value, in which so many containers may be opened
pub data TextItem : Type 0 where
  AText : WantedText → (width : ℕ) → TextItem
  AHeld : (inner : ℕ) → TextItem

abbrev pub item_kind : TextItem → WantedText
item_kind (AText k width) = k
item_kind (AHeld inner) = Of kinds.Single

-- how many bytes its length has
abbrev pub item_width : TextItem → ℕ
item_width (AText k width) = width
item_width (AHeld inner) = 1

-- what is read after the text t and the zero that ends it
abbrev pub item_on : Bounds → Order → ℕ → TextItem → On → List ℕ → On
item_on bounds order end (AText k width) next t = next
item_on bounds order end (AHeld inner) next t = onward (value bounds order inner end (type_spelled t)) next

-- an item that begins with a number; inner is the room within the container that it opens
pub data Head : Type 0 where
  ANumber : NumberCode → Head
  ALength : TextItem → Head
  AnArray : (inner : ℕ) → TypeTree → Head

abbrev pub head_width : Head → ℕ
head_width (ANumber k) = width k
head_width (ALength i) = item_width i
head_width (AnArray inner t) = 4

abbrev pub head_row : Bounds → ℕ → Head → ℕ → ℕ → Option Reason
head_row bounds end (ANumber k) = number_row bounds.fds k
head_row bounds end (ALength i) = text_row end
head_row bounds end (AnArray inner t) = array_row bounds t end

-- a text of n bytes, and the zero after it
abbrev pub ended_text : WantedText → ℕ → Reader (List ℕ)
ended_text k n o s = after (text k n o s) (λ t q v. after (nul q v) (λ z. Done t))

-- the same after its length
abbrev pub counted_text : Order → (end width : ℕ) → (ℕ → ℕ → Option Reason) → WantedText → Reader (List ℕ)
counted_text order end width row k o s = after (number order width end row o s) (ended_text k)

-- one whose length has one byte: a signature
abbrev pub short_text : Order → ℕ → WantedText → Reader (List ℕ)
short_text order end = counted_text order end 1 (text_row end)

-- what stands after the number n
abbrev pub tail : Bounds → Order → ℕ → Head → On → ℕ → On
tail bounds order end (ANumber k) next n = next
tail bounds order end (ALength i) next n = λ p u. after (text (item_kind i) n p u) (λ t. onward nul (item_on bounds order end i next t))
tail bounds order end (AnArray inner t) next n = λ p u. after (padding (alignment_of t) end p u) (λ x q v. elements n (q + n) (value bounds order inner (q + n) t) next q v)

abbrev pub head : Bounds → Order → ℕ → Head → On → On
head bounds order end h next o s = after (number order (head_width h) end (head_row bounds end h) o s) (tail bounds order end h next)

-- what stands after a padding: such an item; nothing, and the containers go on; or a container too
-- many
pub data Own : Type 0 where
  AHead : Head → Own
  Opened : Own
  Closed : Own

abbrev pub own : Bounds → Order → ℕ → Own → On → On
own bounds order end (AHead h) next = head bounds order end h next
own bounds order end Opened next = next
own bounds order end Closed next = λ o s. Faulty (fault o reasons.TooDeep)

-- a value's
abbrev pub own_of : TypeTree → ℕ → Own
own_of (NumberType k) depth_left = AHead (ANumber k)
own_of (TextType k) depth_left = AHead (ALength (AText (kind_of k) (length_width k)))
own_of VariantType zero = Closed
own_of VariantType (suc inner) = AHead (ALength (AHeld inner))
own_of (ArrayType t) zero = Closed
own_of (ArrayType t) (suc inner) = AHead (AnArray inner t)
own_of (StructType ts) zero = Closed
own_of (StructType ts) (suc inner) = Opened
own_of (EntryType k v) depth_left = Opened

-- the containers that it opens at once
abbrev pub opened_by : TypeTree → ℕ → ℕ → List Work
opened_by (NumberType k) depth_left end = []
opened_by (TextType k) depth_left end = []
opened_by VariantType depth_left end = []
opened_by (ArrayType t) depth_left end = []
opened_by (StructType ts) zero end = []
opened_by (StructType ts) (suc inner) end = Parts inner end ts ∷ []
opened_by (EntryType k v) depth_left end = Parts depth_left end (MoreTypes k (MoreTypes v NoTypes)) ∷ []
