-- From what reading a message on answers to the three outcomes of the definitions.
use Rattle.std.proofs.Common.{◌≡◌, ℕ, ◌+◌, ◌≤◌, List, [], ◌++◌, length, take, drop, sym, ap, ◌∙◌, arith, refl, append_assoc}
use Rattle.std.proofs.lemmas.List.{append-nil, take-append-drop, length-append, length-drop}
use Rattle.dbus_value_model.specs.declared.limits.Limits.{Limits}
use Rattle.dbus_value_model.specs.declared.order.Order.{Order}
use Rattle.dbus_value_model.specs.declared.fault.Fault.{Fault}
use Rattle.dbus_value_model.specs.ByteNumbers.{IsBytes}
use Rattle.dbus_value_model.specs.Reading.{Outcome, Done, Faulty, Partial, after}
use Rattle.dbus_header.specs.HeaderReading.{message_read}
use Rattle.dbus_header.specs.MessageOutcomes.{IsWhole, IsRefused, IsPartial}
use Rattle.dbus_message_model.specs.Messages.{MessageTree, message_bytes}
use Rattle.dbus_header.proofs.OutcomeLaws.{reads_messages}
use Rattle.dbus_header.proofs.Decoded.{refused_read, partial_read}
use Rattle.dbus_value_checker.specs.Suspended.{done}
use Rattle.dbus_check.specs.Heading.{message_on}

read_of : {A : Type 0} (r : Outcome A) (q : ℕ) (t : List ℕ) → after r (λ x. done) ≡ Done tt q t → (x : A) × (r ≡ Done x q t)
read_of (Done x p u) q t e = let a : p ≡ q = cc in let b : u ≡ t = cc in (x, rw (a, b) refl)
read_of (Faulty f) q t e = absurd cc
read_of Partial q t e = absurd cc

fault_of : {A : Type 0} (r : Outcome A) (f : Fault) → after r (λ x. done) ≡ Faulty f → r ≡ Faulty f
fault_of (Done x p u) f e = absurd cc
fault_of (Faulty g) f e = let a : g ≡ f = cc in ap (λ (h : Fault). Faulty h) a
fault_of Partial f e = absurd cc

partial_of : {A : Type 0} (r : Outcome A) → after r (λ x. done) ≡ Partial → r ≡ Partial
partial_of (Done x p u) e = absurd cc
partial_of (Faulty f) e = absurd cc
partial_of Partial e = refl

-- w is what was handed before, and then comes a piece
module _ (limits : Limits) (w piece : List ℕ) (bytes : IsBytes (w ++ piece)) where
  pub done_is : (n place : ℕ) → n ≤ length piece → ((c : List ℕ) → message_on limits 0 ((w ++ take n piece) ++ c) ≡ Done tt place c)
      → (order : Order) × (m : MessageTree) × IsWhole limits (w ++ piece) order m (length w + n)
  unfolding IsWhole
  done_is n place le h =
      let b = w ++ piece in
      let rest = drop n piece in
      let split : (w ++ take n piece) ++ rest ≡ b = append_assoc w (take n piece) rest ∙ ap (λ (t : List ℕ). w ++ t) (take-append-drop n piece) in
      let read = read_of (message_read limits 0 b) place rest (sym (ap (message_on limits 0) split) ∙ h rest) in
      let order = read.0.0 in
      let m = read.0.1 in
      let told = (reads_messages limits b order m place rest bytes).0 read.1 in
      let long = ap length told.1 in
      let a = length-append w piece in
      let d = length-drop n piece in
      let e = length-append (message_bytes order m) rest in
      let size = told.2 in
      (order, m, (told.0, (rest, told.1), omega arith))

  pub refused_is : (f : Fault) → ((c : List ℕ) → message_on limits 0 ((w ++ piece) ++ c) ≡ Faulty f) → IsRefused limits (w ++ piece) f
  refused_is f h =
      let b = w ++ piece in
      refused_read limits b bytes f (fault_of (message_read limits 0 b) f (sym (ap (message_on limits 0) (append-nil b)) ∙ h []))

  pub partial_is : message_on limits 0 (w ++ piece) ≡ Partial → IsPartial limits (w ++ piece)
  partial_is h = partial_read limits (w ++ piece) bytes (partial_of (message_read limits 0 (w ++ piece)) h)
