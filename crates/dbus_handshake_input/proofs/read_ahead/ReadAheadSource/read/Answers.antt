use Rattle.std.proofs.Common.{◌≡◌, ◌≤◌, ◌⊎◌, ℕ, List, length, take, Result, Ok, Err, MatchResult, inl, inr, sym, ap, ◌∙◌, arith}
use Rattle.std.proofs.lemmas.List.{length-take-le}
use Rattle.dbus_device.specs.declared.device_fault.DeviceFault.{DeviceFault}
use borrow.Author.Tests.{eqb-true}
use Rattle.dbus_handshake_input.proofs.AheadSteps.{no_part, read_nothing, read_through, kept_given, packets_through}
use Rattle.dbus_handshake_input.proofs.read_ahead.ReadAheadSource.read.Goals as goal
use Rattle.dbus_handshake_input.proofs.read_ahead.ReadAheadSource.read.Goals.{else-self-via-then-self+else-not-is_empty, else-self-via-else-self}

-- nothing is read into no room
into_none : {kept : ℕ} (r : Result ℕ DeviceFault) (buffer : List ℕ) → length buffer ≡ 0 → MatchResult r (λ n. n ≤ length buffer) (λ e. Unit {0}) → (kept ≡ 0) ⊎ MatchResult r (λ n. n ≡ 0) (λ e. Unit {0})
into_none (Ok n) buffer none bound = inr (omega (arith, none, bound))
into_none (Err e) buffer none bound = inr tt

pub returns-clause-bytes : goal.returns-clause-bytes
returns-clause-bytes g c =
    let now = c.args.self.now in
    elim c.else-self.branch [
      | else-self-via-then-self+else-not-is_empty w ↦
          read_nothing _ (g.R.Source.left now.source) (g.R.Source.left c.read.new.self) c.read.result c.read.new.buffer
          (c.read.auto.buffer ∙ eqb-true _ _ (sym w.is_empty.ensures ∙ w.if-not-is_empty.false)) c.read.ensures.bytes
      | else-self-via-else-self w ↦
          read_through _ (g.R.Source.left now.source) (g.R.Source.left c.read.new.self) c.read.result c.read.new.buffer (no_part now.bytes now.start now.end w.if-self.false)
          c.read.ensures.bytes
    ]

pub returns-then-not-is_empty-clause-of_packet : goal.returns-then-not-is_empty-clause-of_packet
returns-then-not-is_empty-clause-of_packet g c =
    let given = c.give-count.ensures in
    kept_given g.R.Source.packets g.R.Source.packet c.args.self.now c.give-count.new.self (take c.give-count.result c.give-count.new.buffer) c.give-count.result given.rests.source given.bytes
    (length-take-le c.give-count.result c.give-count.new.buffer given.bound)

pub returns-clause-of_packet : goal.returns-clause-of_packet
returns-clause-of_packet g c =
    let now = c.args.self.now in
    let read = c.read.ensures in
    elim c.else-self.branch [
      | else-self-via-then-self+else-not-is_empty w ↦
          packets_through _ _ _ _ _ c.read.result (into_none c.read.result c.read.new.buffer (c.read.auto.buffer ∙ eqb-true _ _ (sym w.is_empty.ensures ∙ w.if-not-is_empty.false)) read.bound)
          read.leaves_packet read.of_packet
      | else-self-via-else-self w ↦
          packets_through _ _ _ _ _ c.read.result (inl (ap length (no_part now.bytes now.start now.end w.if-self.false))) read.leaves_packet read.of_packet
    ]
