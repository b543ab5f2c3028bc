-- A reader that gives the lengths of messages, by the definitions of any reader.
use Rattle.std.specs.Prelude.{◌≡◌, ℕ, List, Option, Result}
use Rattle.std.specs.declared.alloc.Global.{Global}
use Rattle.dbus_check.specs.Checks.{Stands}
use Rattle.dbus_header.specs.MessageOutcomes.{IsPartial}
use Rattle.dbus_value_model.specs.declared.limits.Limits.{Limits}
use Rattle.dbus_stream.specs.declared.lengths.Lengths.{Lengths}
use Rattle.dbus_stream.specs.Taking.{Taking}
use Rattle.dbus_stream.specs.contracts.buffer.LargeBuffer.TheImpl.{ghosts}
use Rattle.dbus_stream.specs.declared.buffer.Large.{Large}
use Rattle.dbus_stream.specs.declared.read_fault.ReadFault.{ReadFault}
use Rattle.dbus_stream.specs.declared.reader.Reader.{Reader}
use Rattle.dbus_stream.specs.Next as next
use Rattle.dbus_stream.specs.Reading as reading

-- What is known of a taker that gives the lengths of messages, and of the reader over it.

-- its checker was handed the bytes, of which more are wanted; of those that are at fault it says
-- nothing
abbrev pub lengths : Taking Lengths ℕ
lengths = record {
  limits = λ t. t.limits;
  holds = λ t w. Stands t.checker w × IsPartial t.limits w;
  keeps = λ t w. Unit {0};
  grows = ⊥;
  gives = λ t w size given. given ≡ size;
  lent = λ t. 0;
  rests = λ t. Unit {0};
}

abbrev pub CheckReader : Type 0 → Type 0
CheckReader R = Reader R Lengths Large Global ghosts

module _ {R : Type 0} where
  abbrev pub limits_of : CheckReader R → Limits
  limits_of r = reading.limits_of lengths r

  abbrev pub Keeps : CheckReader R → List ℕ → Type 0
  Keeps r w = reading.Keeps lengths r w

  abbrev pub Reads : (R → Option (List ℕ)) → (R → ℕ) → List ℕ → CheckReader R → CheckReader R → Type 0
  Reads left calls w old new = next.Reads lengths left calls w old new

  abbrev pub GivesLength : List ℕ → ℕ → CheckReader R → CheckReader R → Type 0
  GivesLength w size old new = next.Gives lengths w size old new

  abbrev pub CheckAnswers : List ℕ → CheckReader R → CheckReader R → Result (Option ℕ) ReadFault → Type 0
  CheckAnswers w old new answer = next.NextAnswers lengths w old new answer
