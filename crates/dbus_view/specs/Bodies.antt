-- The values of a body, and where each stands.
-- D-Bus Specification, "Message Format", "Marshaling (Wire Format)".
use Rattle.std.specs.Prelude.{◌≡◌, ℕ, zero, suc, ◌+◌, ◌≤◌, List, length, take, drop, Option, Some}
use Rattle.dbus_texts.specs.Types.{STRING, OBJECT_PATH, SIGNATURE, sig}
use Rattle.dbus_types.specs.Alignments.{length_width}
use Rattle.dbus_value_model.specs.Bytes.{gap_to}
use Rattle.dbus_value_model.specs.declared.order.Order.{Order}
use Rattle.dbus_value_model.specs.Spelling.{spelling, spellings}
use Rattle.dbus_value_model.specs.Values.{ValueTree, ValueTrees, NoValues, MoreValues, TextValue, type_of}
use Rattle.dbus_types.specs.SignatureCodes.{first_code}
use Rattle.dbus_message_model.specs.KnownFields.{body_value}
use Rattle.dbus_message_model.specs.Messages.{MessageTree, body_start, body_signature}
use Rattle.dbus_values.specs.Seen.{IsSeen}
use Rattle.dbus_values.specs.States.{ValuesState}
use Rattle.dbus_view.specs.Views.{ViewState}
use Rattle.dbus_view.specs.declared.arg.Arg.{Arg}
use Rattle.dbus_view.specs.declared.arg_place.ArgPlace.{ArgPlace}
use Rattle.dbus_view.specs.declared.arg_view.ArgView.{ArgView}
use Rattle.dbus_view.specs.declared.arg_view.ArgView.TheVariants as view
use Rattle.dbus_walk.specs.Standing.{Stands}

-- the value is no text, and its type begins with the code
abbrev pub IsOther : ℕ → ValueTree → Type 0
IsOther c (TextValue k t) = ⊥
IsOther c v = first_code (type_of v) ≡ c

-- what is seen of a value: its text, or of a value that is none the first code of its type
abbrev pub IsArg : ArgView → ValueTree → Type 0
IsArg (view.Str s) v = v ≡ TextValue STRING s.now
IsArg (view.Path s) v = v ≡ TextValue OBJECT_PATH s.now
IsArg (view.Sig s) v = v ≡ TextValue SIGNATURE s.now
IsArg (view.Other c) v = IsOther c v

-- the same of a value that is there
abbrev pub IsArgThere : Option ValueTree → ArgView → Type 0
IsArgThere v a = (x : ValueTree) × (v ≡ Some x) × IsArg a x

-- the first so many of some values
abbrev pub first_values : ℕ → ValueTrees → ValueTrees
first_values zero xs = NoValues
first_values (suc n) NoValues = NoValues
first_values (suc n) (MoreValues x xs) = MoreValues x (first_values n xs)

-- where value n of some begins, which begin at an offset: where the spelling of those before it
-- ends
abbrev pub value_start : Order → (at n : ℕ) → ValueTrees → ℕ
value_start order at n xs = at + length (spellings order at (first_values n xs))

-- the text of a value that begins at an offset stands at a place: after the value's padding and its
-- length, in so many bytes
pub record IsTextAt (bytes : List ℕ) (width from : ℕ) (t : List ℕ) (p : ArgPlace) : Type 0 where
  pub begins : p.start ≡ from + gap_to width from + width
  pub spans : p.length ≡ length t
  pub text : t ≡ take p.length (drop p.start bytes)
  pub inside : p.start + p.length ≤ length bytes

-- of a text where it stands, and of another value nothing
abbrev pub IsTextPlace : List ℕ → (from : ℕ) → ValueTree → ArgPlace → Type 0
IsTextPlace bytes from (TextValue k t) p = IsTextAt bytes (length_width k) from t p
IsTextPlace bytes from v p = (p.start ≡ 0) × (p.length ≡ 0)

-- what is told of value n of a message's body, which is there: the first code of its type, and
-- where it stands if it is a text
abbrev pub IsPlaceThere : Order → MessageTree → (n : ℕ) → List ℕ → ArgPlace → Type 0
IsPlaceThere order m n bytes p =
    (x : ValueTree) × (body_value n m.body ≡ Some x) × (first_code (type_of x) ≡ p.code)
    × IsTextPlace bytes (value_start order (body_start order m.fields) n m.body) x p

-- the values of a message's body, none of them seen yet: they begin after the header, have the
-- types of the body's signature, and as many containers may be open in each as the limits allow
abbrev pub all_values : ViewState → Order → MessageTree → ValuesState
all_values v order m = record { order = order; bytes = v.bytes; at = body_start order m.fields; types = body_signature m.fields; depth_left = v.limits.depth }

-- it is what was found of a value that stands at an offset: how it is seen, the first code of its
-- type, and the offset after it
pub record IsFound (order : Order) (bytes : List ℕ) (from : ℕ) (x : ValueTree) (a : Arg) : Type 0 where
  pub depth_left : ℕ
  pub rest : List ℕ
  pub stands : Stands order depth_left (sig (type_of x)) from bytes x rest
  pub seen : IsSeen a.seen x
  pub code : first_code (type_of x) ≡ a.code
  pub after : a.after ≡ from + length (spelling order from x)

-- value n of some that are left is there, and it is what was found of it
abbrev pub IsNumbered : ValuesState → (n : ℕ) → ValueTrees → Arg → Type 0
IsNumbered s n xs a = (x : ValueTree) × (body_value n xs ≡ Some x) × IsFound s.order s.bytes (value_start s.order s.at n xs) x a
