-- A cutter as the taker of a reader, and where the reader stands after each answer.
use Rattle.std.proofs.Common.{◌≡◌, ℕ, List, None, Some, Ok, Err, Option, Result, length, refl, sym, ap, ◌∙◌, subst, arith}
use Rattle.std.specs.Prelude.{◌<◌, IfSome}
use Rattle.dbus_value_model.specs.declared.order.Order.{Order}
use Rattle.dbus_value_model.specs.declared.fault.Fault.{Fault}
use Rattle.dbus_message_model.specs.declared.message.Message.{Message}
use Rattle.dbus_message_model.specs.MessageViews.{message_tree}
use Rattle.dbus_header.specs.MessageOutcomes.{IsPartial}
use Rattle.dbus_stream.specs.Cutting.{CutterState, TakeAnswers, Takes as CutterTakes}
use Rattle.dbus_stream.specs.CutterTaking.{cutting}
use Rattle.dbus_stream.specs.MessageReaders.{kept, stopped_of}
use Rattle.dbus_stream.specs.Next.{NextAnswers, KeptAnswers}
use Rattle.dbus_stream.specs.Reading as reading
use Rattle.dbus_stream.specs.declared.buffer.Buffer.{Ghosts}
use Rattle.dbus_stream.specs.declared.message_reader.MessageReader.{MessageReader}
use Rattle.dbus_stream.specs.declared.read_fault.ReadFault.{ReadFault}
use Rattle.dbus_stream.specs.declared.read_fault.ReadFault.TheVariants.{Memory, Format, Device, TooManyReads}
use Rattle.dbus_stream.specs.declared.reader.Reader.{Reader}
use Rattle.dbus_stream.specs.declared.stream_fault.StreamFault.{StreamFault}
use Rattle.dbus_stream.specs.declared.stream_fault.StreamFault.TheVariants as refusals
use Rattle.dbus_stream.specs.Taking.{Takes}

-- what a cutter makes of a piece, as a taker
pub cuts : {A : Type 0} (old : CutterState) (piece : List ℕ) (new : CutterState) (n : ℕ) (given : Option (Order × Message A)) → TakeAnswers old piece new (Ok (n, given))
    → IfSome given (λ message. 0 < n) → Takes (cutting A) old old.held piece new (Ok n) given
cuts {A} old piece new n (Some given) t some = subst (λ s. Takes (cutting A) old old.held piece s (Ok n) (Some given)) (sym t.1) (record {
  order = given.0;
  message = message_tree given.1;
  whole = t.0;
  some = some;
  gives = t.0;
  holds = (refl, refl);
  lends = λ some. absurd (omega (arith, some));
})
cuts {A} old piece new n None t some = subst (λ s. Takes {G = Order × Message A} (cutting A) old old.held piece s (Ok n) None) (sym t.2) (t.0, t.1, record { holds = (refl, refl); rests = tt })

-- what a cutter that refuses a piece is then
pub refuses : {A : Type 0} (old : CutterState) (piece : List ℕ) (new : CutterState) (fault : StreamFault) (given : Option (Order × Message A)) → TakeAnswers {A = A} old piece new (Err fault)
    → old.fault ≡ None → IsPartial old.limits old.held → Takes (cutting A) old old.held piece new (Err fault) given
refuses {A} old piece new refusals.Memory given t open_ unshown = subst (λ s. Takes (cutting A) old old.held piece s (Err refusals.Memory) given) (sym t) (tt, record { holds = (refl, open_); rests = tt })
refuses {A} old piece new (refusals.Format fault) given t open_ unshown = subst (λ s. Takes (cutting A) old old.held piece s (Err (refusals.Format fault)) given) (sym t.1) (t.0, unshown, refl)

-- its limits stay, whether or not it met a fault before
pub limits_stay : {A : Type 0} (old : CutterState) (piece : List ℕ) (new : CutterState) (n : ℕ) (given : Option (Order × Message A)) (fault : Option Fault) → old.fault ≡ fault
    → CutterTakes old piece new (Ok (n, given)) → new.limits ≡ old.limits
limits_stay old piece new n given (Some f) met t = ap (λ (s : CutterState). s.limits) (t.stays f met).1
limits_stay old piece new n (Some given) None open_ t = ap (λ (s : CutterState). s.limits) (t.answers open_).1
limits_stay old piece new n None None open_ t = ap (λ (s : CutterState). s.limits) (t.answers open_).2

-- what a reader keeps, as the reader below does
pub keeps : {R A : Type 0} (r : MessageReader R A) → stopped_of r ≡ None → reading.Keeps (cutting A) r.reader (kept r)
keeps r open_ = record { held = r.reader.taker.held; holds = (refl, r.unfaulted open_); size = r.held_counted open_; bytes = refl }

-- its cutter met no fault, and holds as many bytes as are counted
pub record IsStanding {R B C : Type 0} {b : Ghosts B} (r : Reader R CutterState B C b) : Type 0 where
  pub unfaulted : r.taker.fault ≡ None
  pub held : r.held ≡ length r.taker.held

stopped_not : {R B C : Type 0} {b : Ghosts B} (r : Reader R CutterState B C b) (f : ReadFault) → reading.stopped_of r ≡ Some f → reading.stopped_of r ≡ None → IsStanding r
stopped_not r f stopped open_ = let never : Some f ≡ None = sym stopped ∙ open_ in absurd cc

module _ {R A B : Type 0} {b : Ghosts B} where
  standing : (r : Reader R CutterState B A b) (w : List ℕ) → reading.Keeps (cutting A) r w → IsStanding r
  standing r w k = record { unfaulted = k.holds.1; held = k.size ∙ ap length (sym k.holds.0) }

  pub stands_next : (w : List ℕ) (old new : Reader R CutterState B A b) (res : Result (Option (Order × Message A)) ReadFault) → NextAnswers (cutting A) w old new res
      → reading.stopped_of new ≡ None → IsStanding new
  stands_next w old new (Ok (Some given)) a open_ = standing new _ a.1.kept
  stands_next w old new (Ok None) a open_ = standing new w a.2.kept
  stands_next w old new (Err Memory) a open_ = standing new w a.1.kept
  stands_next w old new (Err (Format fault)) a open_ = stopped_not new (Format fault) a.1 open_
  stands_next w old new (Err Device) a open_ = standing new w a.0.kept
  stands_next w old new (Err TooManyReads) a open_ = standing new w a.0.kept

  pub stands_kept : (w : List ℕ) (old new : Reader R CutterState B A b) (res : Result (Option (Order × Message A)) ReadFault) → KeptAnswers (cutting A) w old new res
      → reading.stopped_of new ≡ None → IsStanding new
  stands_kept w old new (Ok (Some given)) a open_ = standing new _ a.1.kept
  stands_kept w old new (Ok None) a open_ = standing new w a.0.kept
  stands_kept w old new (Err Memory) a open_ = standing new w a.1.kept
  stands_kept w old new (Err (Format fault)) a open_ = stopped_not new (Format fault) a.1 open_
  stands_kept w old new (Err Device) a open_ = absurd a
  stands_kept w old new (Err TooManyReads) a open_ = absurd a
