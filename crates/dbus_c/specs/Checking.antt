-- What is told of bytes by numbers: whether they begin with a message, and else why not.
-- D-Bus Specification, "Message Protocol".
use Rattle.std.specs.Prelude.{◌≡◌, ℕ, List, ◌<◌, length, Option, Some, None, Bool, if◌then◌else◌}
use Rattle.dbus_value_model.specs.declared.limits.Limits.{Limits}
use Rattle.dbus_value_model.specs.declared.order.Order.{Order}
use Rattle.dbus_value_model.specs.declared.fault.Fault.{Fault}
use Rattle.dbus_message_model.specs.Messages.{MessageTree, order_byte}
use Rattle.dbus_header.specs.MessageOutcomes.{IsWhole, IsRefused, IsPartial}
use Rattle.dbus_header.specs.StatedLengths.{StatesLength}
use Rattle.dbus_check.specs.declared.check.Check.{Check}
use Rattle.dbus_check.specs.declared.check.Check.TheVariants as check
use Rattle.dbus_c_handle.specs.Checkers.{Handed, IsFresh, Restarted, checker_of}
use Rattle.dbus_c_handle.specs.declared.kept.Kept.{Kept}
use Rattle.dbus_c.specs.Reasons.{reason_number, field_named}
use Rattle.dbus_c.specs.declared.answers.TheConstants.{WHOLE, PARTIAL, REFUSED, NO_MEMORY, NO_CHECKER}
use Rattle.dbus_c.specs.declared.checking.Checked.{Checked}
use Rattle.dbus_c.specs.declared.checkers.Taken.{Taken}

-- what is told of a message of this order and length
abbrev pub whole_told : Order → ℕ → Checked
whole_told order n = record { length = n; offset = 0; order = order_byte order; reason = 0; field = 0; reserved = 0 }

-- where more bytes are wanted
abbrev pub nothing_told : Checked
nothing_told = record { length = 0; offset = 0; order = 0; reason = 0; field = 0; reserved = 0 }

-- of a fault
abbrev pub fault_told : Fault → Checked
fault_told f = record { length = 0; offset = f.at; order = 0; reason = reason_number f.reason; field = field_named f.reason; reserved = 0 }

-- an answer and what is told beside it hold of the bytes under the limits
pub data Tells (limits : Limits) (b : List ℕ) (answer : ℕ) (told : Checked) : Type 0 where
  whole : (order : Order) (m : MessageTree) (n : ℕ) → IsWhole limits b order m n → answer ≡ WHOLE → told ≡ whole_told order n → Tells limits b answer told
  partial : IsPartial limits b → answer ≡ PARTIAL → told ≡ nothing_told → Tells limits b answer told
  refused : (f : Fault) → IsRefused limits b f → answer ≡ REFUSED → told ≡ fault_told f → Tells limits b answer told

-- each outcome of the bytes under the limits has one answer, and one thing is told beside it
pub record IsExact (limits : Limits) (b : List ℕ) (answer : ℕ) (told : Checked) : Type 0 where
  pub whole : (order : Order) (m : MessageTree) (n : ℕ) → IsWhole limits b order m n → (answer ≡ WHOLE) × (told ≡ whole_told order n)
  pub partial : IsPartial limits b → (answer ≡ PARTIAL) × (told ≡ nothing_told)
  pub refused : (f : Fault) → IsRefused limits b f → (answer ≡ REFUSED) × (told ≡ fault_told f)

-- an answer and what is told beside it are a check's: they hold of the bytes, and no others do
pub record IsChecked (limits : Limits) (b : List ℕ) (answer : ℕ) (told : Checked) : Type 0 where
  pub tells : Tells limits b answer told
  pub exact : IsExact limits b answer told

-- How many bytes are wanted of a message, by its first sixteen.
-- D-Bus Specification, "Message Format".

-- a number that is not 0 is the length that the bytes state, and 0 says that they state none
pub record Wants (limits : Limits) (b : List ℕ) (number : ℕ) : Type 0 where
  pub stated : 0 < number → StatesLength limits b number
  pub none : number ≡ 0 → (n : ℕ) → StatesLength limits b n → ⊥

-- What is told by numbers of a checker that is handed one piece after another.
-- D-Bus Specification, "Message Protocol".

-- a checker is made, under the limits; or memory ran out, and nothing is kept
pub data IsMade (limits : Limits) (answer : ℕ) (new : Option Kept) : Type 0 where
  made : answer ≡ WHOLE → IsFresh limits (checker_of new) → IsMade limits answer new
  no_memory : answer ≡ NO_MEMORY → new ≡ None → IsMade limits answer new

-- the number of a checker's answer
abbrev pub answer_of : Check → ℕ
answer_of check.Partial = PARTIAL
answer_of (check.Done n) = WHOLE
answer_of (check.Refused f) = REFUSED

-- what is told of a piece of m bytes: how many of them were taken, and of a fault its place and
-- reason
abbrev pub taken_told : Check → ℕ → Taken
taken_told check.Partial m = record { count = m; offset = 0; reason = 0; field = 0 }
taken_told (check.Done n) m = record { count = n; offset = 0; reason = 0; field = 0 }
taken_told (check.Refused f) m = record { count = m; offset = f.at; reason = reason_number f.reason; field = field_named f.reason }

-- what a checker answers to a piece of m bytes is told; or there is none, and nothing is told
abbrev pub IsTold : Option Check → ℕ → ℕ → Taken → Taken → Type 0
IsTold None m answer old new = (answer ≡ NO_CHECKER) × (new ≡ old)
IsTold (Some check) m answer old new = (answer ≡ answer_of check) × (new ≡ taken_told check m)

-- a piece is handed to the checker, and what it answers is told
pub record TellsPiece (before after : Option Kept) (piece : List ℕ) (answer : ℕ) (old new : Taken) : Type 0 where
  pub check : Option Check
  pub handed : Handed (checker_of before) before after piece check
  pub is_told : IsTold check (length piece) answer old new

-- the checker begins again, under its limits; or there is none
pub record TellsRestart (before after : Option Kept) (answer : ℕ) : Type 0 where
  pub is_checker : Bool
  pub restarted : Restarted (checker_of before) before after is_checker
  pub is_told : answer ≡ (if is_checker then WHOLE else NO_CHECKER)
