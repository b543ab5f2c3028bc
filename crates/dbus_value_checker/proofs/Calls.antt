-- Calls one after another.
use Rattle.std.proofs.Common.{◌≡◌, ℕ, ◌+◌, ◌≤◌, List, ◌++◌, length, take, drop, Ok, Err, sym, ap, subst, ◌∙◌, arith, suc, ◌<◌}
use Rattle.std.proofs.Math.Path.{fun_ext}
use Rattle.std.proofs.lemmas.List.{length-drop, take-append-drop}
use Rattle.dbus_value_model.specs.Reading.{Outcome}
use Rattle.dbus_value_model.specs.declared.stop.Stop.{Stop}
use Rattle.dbus_value_model.specs.declared.stop.Stop.TheVariants as stops
use Rattle.dbus_value_checker.specs.declared.values.ValueChecker.{ValueChecker}
use Rattle.dbus_value_checker.specs.declared.values.Doing.{Doing}
use Rattle.dbus_value_checker.specs.declared.values.Doing.TheVariants as doing
use Rattle.dbus_value_checker.specs.Suspended.{On}
use Rattle.dbus_texts.specs.Types.{sig}
use Rattle.dbus_value_checker.proofs.Slices.{slice_room}
use Rattle.dbus_value_checker.proofs.FrameLaws.{inner_of}
use Rattle.dbus_types.proofs.TypeCodes.{begins}
use Rattle.dbus_value_checker.specs.Denotations.{Answer, denotes, Denotes, Wants, after_piece}
use Rattle.dbus_value_checker.specs.Moves.{Moves, Opens, IsLive, offset_of}
use Rattle.dbus_value_checker.proofs.Suspension.{take-both, split-at}

-- the same answers
pub denotes_same : (x : ValueChecker) (last : On) (f g : List ℕ → Outcome (Unit {0})) → ((c : List ℕ) → f c ≡ g c) → Denotes x (record { last = last; to = f }) → Denotes x (record { last = last; to = g })
denotes_same x last f g e h = subst (λ (t : List ℕ → Outcome (Unit {0})). Denotes x (record { last = last; to = t })) (fun_ext e) h

-- a call after n bytes that were taken
module _ (x y : ValueChecker) (s : List ℕ) (n : ℕ) (answer : Answer) (rest : List ℕ) (rest_is : rest ≡ drop n s) where
  pub after_ok : n ≤ length s → (m : ℕ) → Moves x rest (Ok m) y (after_piece answer (take n s)) → Moves x s (Ok (n + m)) y answer
  after_ok there m h =
      let le = h.0 in
      let d = length-drop n s in
      let l = ap length rest_is in
      (omega arith, denotes_same y answer.last (λ c. answer.to (take n s ++ (take m rest ++ c))) (λ c. answer.to (take (n + m) s ++ c)) (λ c. ap (λ (t : List ℕ). answer.to (take n s ++ (take m t ++ c))) rest_is ∙ ap answer.to (sym (take-both n m s c there))) h.1)

  pub after_err : (e : Stop) → Moves x rest (Err e) y (after_piece answer (take n s)) → Moves x s (Err e) y answer
  after_err stops.Partial h = (h.0, ap answer.to (sym (take-append-drop n s)) ∙ ap (λ (t : List ℕ). answer.to (take n s ++ t)) (sym rest_is) ∙ h.1)
  after_err (stops.Refused f) h = λ c. ap answer.to (split-at n s c) ∙ ap (λ (t : List ℕ). answer.to (take n s ++ (t ++ c))) (sym rest_is) ∙ h c

-- a container that was not opened
pub opens_err : (x y : ValueChecker) (s : List ℕ) (e : Stop) (answer : Answer) → Opens (Err e) y answer → Moves x s (Err e) y answer
opens_err x y s stops.Partial answer h = absurd h
opens_err x y s (stops.Refused f) answer h = λ c. h (s ++ c)

-- nor was one after n bytes
pub opens_after : (x y : ValueChecker) (s : List ℕ) (n : ℕ) (e : Stop) (answer : Answer) → Opens (Err e) y (after_piece answer (take n s)) → Moves x s (Err e) y answer
opens_after x y s n stops.Partial answer h = absurd h
opens_after x y s n (stops.Refused f) answer h = λ c. ap answer.to (split-at n s c) ∙ h (drop n s ++ c)

-- a type has a code
pub wants_code : (x : ValueChecker) (pos stop : ℕ) (answer : Answer) → Wants x pos stop answer → pos < length x.text.items
wants_code x pos stop answer w =
    let i = inner_of x (suc x.offset) w.ws w.frames in
    let r = slice_room x.text.items pos stop (sig w.type) w.pos_is w.text in
    let n = ap length (begins w.type) in
    let a = i.high in
    let b = w.stop_is in
    omega arith

-- once nothing is wanted any more, the last is read from here on
pub over_last : (x : ValueChecker) (answer : Answer) → Denotes x answer → (IsLive x.doing → ⊥) → (c : List ℕ) → answer.last (offset_of x) c ≡ answer.to c
over_last x answer h over c = over_at x x.doing answer h over c
  where
    over_at : (x : ValueChecker) (d : Doing) (answer : Answer) → denotes d x answer → (IsLive d → ⊥) → (c : List ℕ) → answer.last (offset_of x) c ≡ answer.to c
    over_at x (doing.Wanted pos stop) answer h over c = absurd (over tt)
    over_at x (doing.Text kind left) answer h over c = absurd (over tt)
    over_at x (doing.Numbers w) answer h over c = absurd (over tt)
    over_at x doing.Nul answer h over c = absurd (over tt)
    over_at x doing.Over answer h over c = h.2 c
