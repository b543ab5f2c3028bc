-- An end as contracts see it, and what a call of it answered, without where its bytes lie in memory.
-- D-Bus Specification, "Authentication Protocol".
use Rattle.std.specs.Prelude.{ℕ, ◌≡◌, List}
use Rattle.dbus_auth.specs.Ends.{EndState, EndOutcome}
use Rattle.dbus_auth.specs.declared.bounds.Counted.{Counted}
use Rattle.dbus_auth.specs.declared.end.End.{End}
use Rattle.dbus_auth.specs.declared.end.Reply.{Reply}
use Rattle.dbus_auth.specs.declared.end_step.EndStep.{EndStep}
use Rattle.dbus_auth.specs.declared.end_step.Status.{Status}

-- by how its machine is seen
abbrev pub end_state : {M A S : Type 0} → (M → S) → End M A → EndState S
end_state shown e = record { machine = shown e.machine; started = e.started; kept = e.kept.items; status = e.status; left = e.left }

-- how many bytes were taken, the bytes that are to be sent, and where the end stands
pub record EndAnswer : Type 0 where
  pub taken : ℕ
  pub send : List ℕ
  pub status : Status

abbrev pub end_answer : {A : Type 0} → EndStep A → EndAnswer
end_answer s = record { taken = s.taken; send = s.send.items; status = s.status }

-- the call did this, and left this end
abbrev pub DidStep : {A M : Type 0} → EndStep A → EndState M → EndOutcome (EndState M) → Type 0
DidStep s left outcome = (s.taken ≡ outcome.taken) × (s.send.items ≡ outcome.send) × (s.status ≡ outcome.after.status) × (left ≡ outcome.after)

-- a machine answers so
abbrev pub IsReply : {A : Type 0} → Reply A → List ℕ → Counted → Status → Type 0
IsReply r send counts status = (r.send.items ≡ send) × (r.counts ≡ counts) × (r.status ≡ status)
