-- How a reader passes over a refused message, by the size that its first sixteen bytes state. w has
-- the message's bytes as far as they came: those that were dropped before, what was kept and then
-- what was read. D-Bus Specification, "Message Format".
use Rattle.std.specs.Prelude.{◌≡◌, ◌⊎◌, ℕ, ◌+◌, ◌≤◌, List, [], ◌++◌, true, false, length, drop, Option, None, Some, Result, Ok, Err}
use Rattle.dbus_value_model.specs.declared.fault.Fault.{Fault}
use Rattle.dbus_value_model.specs.declared.limits.Limits.{Limits}
use Rattle.dbus_stream.specs.Dropping.{HasDropped}
use Rattle.dbus_stream.specs.Gathering.{gathering}
use Rattle.dbus_stream.specs.Lasting.{is_truncated}
use Rattle.dbus_stream.specs.Next as next
use Rattle.dbus_stream.specs.RawReading as raw
use Rattle.dbus_stream.specs.StatedSizes.{StatesNone, StatesSize, WantsMore}
use Rattle.dbus_stream.specs.Taking.{Taking}
use Rattle.dbus_stream.specs.Reading.{part_of, done_of, reads_of, most_reads_of, is_ended, stopped_of}
use Rattle.dbus_stream.specs.declared.buffer.Buffer.{Ghosts}
use Rattle.dbus_stream.specs.declared.passed.Passed.{Passed}
use Rattle.dbus_stream.specs.declared.passed.Passed.TheVariants.{Over, CutOff, Not}
use Rattle.dbus_stream.specs.declared.raw_reader.RawReader.{RawReader}
use Rattle.dbus_stream.specs.declared.reader.Reader.{Reader}
use Rattle.dbus_stream.specs.declared.read_fault.ReadFault.{ReadFault}
use Rattle.dbus_stream.specs.declared.read_fault.ReadFault.TheVariants.{Format, Device, TooManyReads}
use Rattle.dbus_stream.specs.declared.refused.Refused.{Refused}

-- it met this fault, of bytes that are no message, and not of an input that ends within one
abbrev pub IsRefusal : Option ReadFault → Fault → Type 0
IsRefusal stopped fault = (stopped ≡ Some (Format fault)) × (is_truncated fault.reason ≡ false)

module _ {R T B A : Type 0} {b : Ghosts B} (limits : Limits) (gone w : List ℕ) where
  -- the message is passed over, and what follows it is left
  pub record Skips (old new : Reader R T B A b) (after : Refused) : Type 0 where
    pub size : ℕ
    pub states : StatesSize limits w size
    pub there : size ≤ length w
    pub left : part_of new ≡ drop size w
    pub done : done_of new + length gone ≡ done_of old + old.held + size
    pub stopped : stopped_of new ≡ None
    pub nothing : after.dropped ≡ 0

  -- all of w is passed over
  pub record SkipsAll (old new : Reader R T B A b) (after : Refused) : Type 0 where
    pub left : part_of new ≡ []
    pub done : done_of new + length gone ≡ done_of old + old.held + length w
    pub stopped : stopped_of new ≡ stopped_of old
    pub dropped : HasDropped after w

  abbrev pub SkipAnswers : Reader R T B A b → Reader R T B A b → Refused → Result Passed ReadFault → Type 0
  SkipAnswers old new after (Ok Over) = Skips old new after
  SkipAnswers old new after (Ok CutOff) = WantsMore limits w × SkipsAll old new after × (is_ended new ≡ true)
  SkipAnswers old new after (Ok Not) = StatesNone limits w × SkipsAll old new after
  SkipAnswers old new after (Err Device) = WantsMore limits w × SkipsAll old new after
  SkipAnswers old new after (Err TooManyReads) = WantsMore limits w × SkipsAll old new after × (reads_of new ≡ most_reads_of new) × (is_ended new ≡ false)
  SkipAnswers old new after _ = ⊥

module _ {R T B A : Type 0} {b : Ghosts B} where
  -- what a call read that passes over a message of which these bytes came before: a read only if
  -- more are wanted
  abbrev pub ReadsToSkip : {G : Type 0} → Taking T G → Limits → List ℕ → (R → Option (List ℕ)) → (R → ℕ) → Reader R T B A b → Reader R T B A b → Type 0
  ReadsToSkip k limits front left calls old new = next.ReadsWhile k (λ before. WantsMore limits (front ++ before)) left calls old new

module _ {R A : Type 0} where
  -- these bytes of the refused message were dropped by earlier calls, which did not come to its end
  abbrev pub WasDropped : RawReader R A → List ℕ → Type 0
  WasDropped r gone = HasDropped r.refused gone

  -- what a call read that passes over a message
  abbrev pub ReadsOn : List ℕ → (R → Option (List ℕ)) → (R → ℕ) → RawReader R A → RawReader R A → Type 0
  ReadsOn gone left calls old new = next.ReadsWhile gathering (λ before. WantsMore (raw.limits_of old) (gone ++ (raw.kept old ++ before))) left calls old.reader new.reader

  module _ (gone w : List ℕ) where
    -- the message is passed over: as many bytes as it states. It stands before those that follow
    pub record PassesOver (old new : RawReader R A) : Type 0 where
      pub size : ℕ
      pub states : StatesSize (raw.limits_of old) w size
      pub there : size ≤ length w
      pub kept : raw.kept new ≡ drop size w
      pub done : raw.done_of new + length gone ≡ raw.done_of old + size
      pub lent : raw.lent_of new ≡ []
      pub stopped : raw.stopped_of new ≡ None

    -- all that is there of it is dropped, and the fault stays
    pub record DropsAll (old new : RawReader R A) : Type 0 where
      pub kept : raw.kept new ≡ []
      pub done : raw.done_of new + length gone ≡ raw.done_of old + length w
      pub lent : raw.lent_of new ≡ []
      pub stopped : raw.stopped_of new ≡ raw.stopped_of old
      pub dropped : WasDropped new w

    abbrev pub PassAnswers : RawReader R A → RawReader R A → Result Passed ReadFault → Type 0
    PassAnswers old new (Ok Over) = PassesOver old new
    PassAnswers old new (Ok CutOff) = WantsMore (raw.limits_of old) w × DropsAll old new × (raw.is_ended new ≡ true)
    PassAnswers old new (Ok Not) = StatesNone (raw.limits_of old) w × DropsAll old new
    PassAnswers old new (Err Device) = WantsMore (raw.limits_of old) w × DropsAll old new
    PassAnswers old new (Err TooManyReads) = WantsMore (raw.limits_of old) w × DropsAll old new × (raw.reads_of new ≡ raw.most_reads_of new) × (raw.is_ended new ≡ false)
    PassAnswers old new _ = ⊥

  -- none was refused, or what is there of it states no size, whatever follows
  abbrev pub NonePasses : RawReader R A → Type 0
  NonePasses r = (fault : Fault) (gone : List ℕ) → IsRefusal (raw.stopped_of r) fault → WasDropped r gone → StatesNone (raw.limits_of r) (gone ++ raw.kept r)

  -- A call that passes over the message that was refused, of which such bytes were dropped before;
  -- or there is none that it could pass over, and nothing is done.
  abbrev pub Passing : (R → Option (List ℕ)) → (R → ℕ) → RawReader R A → RawReader R A → Result Passed ReadFault → Type 0
  Passing left calls old new result =
      ((fault : Fault) × IsRefusal (raw.stopped_of old) fault
      × ((gone : List ℕ) → WasDropped old gone → (r : ReadsOn gone left calls old new) × PassAnswers gone (gone ++ (raw.kept old ++ r.bytes)) old new result))
      ⊎ (NonePasses old × (result ≡ Ok Not) × (new ≡ old))
