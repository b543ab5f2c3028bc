-- From what reading a message gives to the three outcomes.
use Rattle.std.proofs.Common.{◌≡◌, ℕ, List}
use Rattle.dbus_value_model.specs.declared.limits.Limits.{Limits}
use Rattle.dbus_value_model.specs.declared.order.Order.{Order}
use Rattle.dbus_value_model.specs.declared.fault.Fault.{Fault}
use Rattle.dbus_value_model.specs.ByteNumbers.{IsBytes}
use Rattle.dbus_value_model.specs.Reading.{Done, Faulty, Partial}
use Rattle.dbus_header.specs.HeaderReading.{message_read}
use Rattle.dbus_header.specs.MessageOutcomes.{IsWhole, IsRefused, IsPartial}
use Rattle.dbus_message_model.specs.Messages.{MessageTree}
use Rattle.dbus_header.proofs.OutcomeLaws.{reads_messages, reads_message_faults, whole_reads}

module _ (limits : Limits) (b : List ℕ) (bytes : IsBytes b) where
  pub whole_read : (order : Order) (m : MessageTree) (n : ℕ) (rest : List ℕ) → message_read limits 0 b ≡ Done (order, m) n rest → IsWhole limits b order m n
  unfolding IsWhole
  whole_read order m n rest e =
      let w = (reads_messages limits b order m n rest bytes).0 e in
      (w.0, (rest, w.1), w.2)

  pub refused_read : (f : Fault) → message_read limits 0 b ≡ Faulty f → IsRefused limits b f
  unfolding IsRefused
  refused_read f = (reads_message_faults limits b f bytes).0

  pub partial_read : message_read limits 0 b ≡ Partial → IsPartial limits b
  unfolding IsWhole IsRefused IsPartial
  partial_read e = (
    λ order m n w. let d = (whole_reads limits b order m n w).1 in cc,
    λ f h. let d : message_read limits 0 b ≡ Faulty f = (reads_message_faults limits b f bytes).1 h in cc,
  )
