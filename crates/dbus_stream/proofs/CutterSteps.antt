-- The steps of a cutter: what its checker answers, and what comes of it.
use Rattle.std.proofs.Common.{◌≡◌, ℕ, ◌+◌, ◌<◌, ◌≤◌, List, [], ◌++◌, length, take, None, Some, Ok, Err, refl, sym, ap, subst, ◌∙◌, arith}
use Rattle.std.proofs.Math.Seq.{take-append-add}
use Rattle.std.specs.Prelude.{IfOk, IfSome}
use Rattle.std.proofs.lemmas.List.{length-append, length-take-le, take-append-le}
use Rattle.dbus_value_model.specs.declared.order.Order.{Order}
use Rattle.dbus_value_model.specs.declared.limits.Limits.{Limits}
use Rattle.dbus_message_model.specs.Messages.{MessageTree}
use Rattle.dbus_message_model.specs.MessageViews.{message_tree}
use Rattle.dbus_header.specs.MessageOutcomes.{IsWhole, IsPartial}
use Rattle.dbus_header.proofs.OutcomeLaws.{one_outcome, whole_inside}
use Rattle.dbus_validate.proofs.Headed.{alone, followed}
use Rattle.dbus_check.specs.declared.check.Check.{Check}
use Rattle.dbus_check.specs.declared.check.Check.TheVariants as checks
use Rattle.dbus_check.specs.Checks.{Takes, taken}
use Rattle.dbus_stream.specs.declared.stream_fault.StreamFault.TheVariants.{Memory, Format}
use Rattle.dbus_stream.specs.Gathering.{IsOneMessage}
use Rattle.dbus_stream.specs.Cutting.{CutterState, TakeAnswer, TakeAnswers}

module _ (limits : Limits) (held piece : List ℕ) (n : ℕ) (order : Order) (m : MessageTree) where
  -- a message ends within the piece
  ends_inside : IsWhole limits (held ++ piece) order m (length held + n) → n ≤ length piece
  ends_inside w =
      let inside = (whole_inside limits (held ++ piece) order m (length held + n) w).1 in
      let all = length-append held piece in
      omega (arith, inside, all)

  -- and takes some of it
  pub ends_later : IsPartial limits held → IsWhole limits (held ++ piece) order m (length held + n) → 0 < n
  ends_later partial w =
      let past : length held + n ≤ length held → ⊥ = λ fits.
      let front = subst (λ l. IsWhole limits l order m (length held + n)) (take-append-le (length held + n) held piece fits) (alone limits (held ++ piece) order m (length held + n) w) in
      (one_outcome limits held).1 order m (length held + n) (followed limits held order m (length held + n) (length held + n) front) partial in
      omega arith

  -- the bytes up to the end of the message are that message
  pub one_message : n ≤ length piece → IsWhole limits (held ++ piece) order m (length held + n) → IsOneMessage limits (held ++ take n piece)
  one_message fits w =
      let size : length held + n ≡ length (held ++ take n piece) = sym (length-append held (take n piece) ∙ ap (λ k. length held + k) (length-take-le n piece fits)) in
      let own = subst (λ l. IsWhole limits l order m (length held + n)) (take-append-add held piece n) (alone limits (held ++ piece) order m (length held + n) w) in
      (order, m, subst (λ k. IsWhole limits (held ++ take n piece) order m k) size own)

  -- and the piece goes on with what follows it
  pub begins_with : n ≤ length piece → IsWhole limits (held ++ take n piece) order m (length held + length (take n piece)) → IsWhole limits (held ++ piece) order m (length held + n)
  begins_with fits w =
      let own = subst (λ l. IsWhole limits l order m (length held + length (take n piece))) (sym (take-append-add held piece n)) w in
      subst (λ k. IsWhole limits (held ++ piece) order m (length held + k)) (length-take-le n piece fits) (followed limits (held ++ piece) order m (length held + n) (length held + length (take n piece)) own)

-- a checker that is handed a prefix of a message takes all of it
pub takes_front : (limits : Limits) (held : List ℕ) (result : Check) → IsPartial limits held → Takes limits [] held result → taken held result ≡ held
takes_front limits held checks.Partial partial t = refl
takes_front limits held (checks.Done n) partial t = absurd ((one_outcome limits held).1 t.1 t.2 _ t.3 partial)
takes_front limits held (checks.Refused f) partial t = refl

module _ {A : Type 0} (old : CutterState) (piece : List ℕ) (new : CutterState) where
  pub answer_fits : (answer : TakeAnswer A) → TakeAnswers old piece new answer → IfOk answer (λ r. r.0 ≤ length piece)
  answer_fits (Ok (n, Some given)) t = ends_inside old.limits old.held piece n given.0 (message_tree given.1) t.0
  answer_fits (Ok (n, None)) t = let e = t.1 in omega (arith, e)
  answer_fits (Err Memory) t = tt
  answer_fits (Err (Format fault)) t = tt

  pub answer_moves : (answer : TakeAnswer A) → IsPartial old.limits old.held → TakeAnswers old piece new answer → IfOk answer (λ r. 0 < length piece → 0 < r.0)
  answer_moves (Ok (n, Some given)) partial t = λ some. ends_later old.limits old.held piece n given.0 (message_tree given.1) partial t.0
  answer_moves (Ok (n, None)) partial t = λ some. let e = t.1 in omega (arith, e, some)
  answer_moves (Err Memory) partial t = tt
  answer_moves (Err (Format fault)) partial t = tt

  pub answer_ends : (answer : TakeAnswer A) → IsPartial old.limits old.held → TakeAnswers old piece new answer → IfOk answer (λ r. IfSome r.1 (λ given. 0 < r.0))
  answer_ends (Ok (n, Some given)) partial t = ends_later old.limits old.held piece n given.0 (message_tree given.1) partial t.0
  answer_ends (Ok (n, None)) partial t = tt
  answer_ends (Err Memory) partial t = tt
  answer_ends (Err (Format fault)) partial t = tt
