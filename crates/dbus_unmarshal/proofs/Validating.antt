-- What a run of the checker over a value's bytes says of them, and what a builder needs of it.
use Rattle.std.proofs.Common.{◌≡◌, ℕ, ◌+◌, ◌↔◌, List, [], ◌++◌, length, take, drop, Bool, true, false, not, IsTrue, Ok, refl, sym, ap, subst, ◌∙◌, arith, inl, inr}
use Rattle.std.proofs.lemmas.List.{append-nil, drop_at, drop-drop, take-append-drop}
use Rattle.dbus_texts.specs.Types.{TypeTree, NoTypes, MoreTypes, IsSingleType, IsShaped, AreShaped, sig, sigs}
use Rattle.dbus_texts.proofs.KindFacts.{shaped_of}
use Rattle.dbus_value_model.specs.declared.limits.Bounds.{Bounds}
use Rattle.dbus_value_model.specs.declared.order.Order.{Order}
use Rattle.dbus_value_model.specs.declared.fault.Fault.{Fault}
use Rattle.dbus_value_model.specs.ByteNumbers.{IsBytes}
use Rattle.dbus_value_model.specs.Values.{ValueTree, NoValues, MoreValues}
use Rattle.dbus_value_model.specs.Spelling.{spelling, Spelled}
use Rattle.dbus_value_model.specs.Reading.{Outcome, Done, Faulty, Partial, after, value}
use Rattle.dbus_value_model.specs.ValueItems as items
use Rattle.dbus_value_model.specs.RoundTrip.{IsValuePartial}
use Rattle.dbus_value_laws.proofs.Agreement.{after_done, after_faulty}
use Rattle.dbus_value_laws.proofs.ValueItemLaws.{reads_spelled, reads_faults}
use Rattle.dbus_value_laws.proofs.ValueSteps.{single_shaped}
use Rattle.dbus_value_checker.specs.Suspended.{done}
use Rattle.dbus_value_checker.specs.Denotations.{Answer, after_piece}
use Rattle.dbus_value_checker.specs.Moves.{Runs, IsLive, offset_of, values_on}
use Rattle.dbus_value_checker.specs.declared.values.ValueChecker.{ValueChecker}
use Rattle.dbus_value_checker.proofs.Calls.{over_last}
use Rattle.dbus_walk.specs.Standing.{Stands}
use Rattle.dbus_unmarshal.specs.Builds.{IsSpelledThere, Validates}

-- what is answered where it is
abbrev pub asked : Bounds → Order → (depth_left end : ℕ) → TypeTree → (at : ℕ) → Answer
asked bounds order depth_left end t at = values_on bounds order depth_left end (MoreTypes t NoTypes) done at

-- its value is what is read, and no more
one_only : (r : Outcome ValueTree) → after (after r (λ v o s. Done (MoreValues v NoValues) o s)) (λ x. done) ≡ after r (λ v. done)
one_only (Done v o s) = refl
one_only (Faulty f) = refl
one_only Partial = refl

module _ (bounds : Bounds) (order : Order) (depth_left end : ℕ) (t : TypeTree) (at : ℕ) (bytes : List ℕ) (single : IsSingleType t) (are : IsBytes (drop at bytes)) where
  abbrev answer : Answer
  answer = asked bounds order depth_left end t at

  abbrev s : List ℕ
  s = drop at bytes

  abbrev read : Outcome ValueTree
  read = value bounds order depth_left end t at s

  one_value : answer.to s ≡ after read (λ v. done)
  one_value = one_only read

  spelled_as : (v : ValueTree) (q : ℕ) (r : List ℕ) → (read ≡ Done v q r) ↔ Spelled bounds order depth_left end t at s v q r
  spelled_as v q r = reads_spelled bounds order depth_left end true t at s v q r (single_shaped t single) are

  faults_as : (f : Fault) → (read ≡ Faulty f) ↔ (items.value bounds order depth_left end t).Refused at s f
  faults_as f = reads_faults bounds order depth_left end true t at s f (single_shaped t single) are

  left_after : (v : ValueTree) (q : ℕ) (r : List ℕ) → Spelled bounds order depth_left end t at s v q r → r ≡ drop q bytes
  left_after v q r w =
      let n = length (spelling order at v) in
      sym (ap (drop n) w.bytes ∙ drop_at (spelling order at v) r n refl) ∙ drop-drop n at bytes ∙ ap (λ (k : ℕ). drop k bytes) (sym w.place)

  whole : (o : ℕ) (u : List ℕ) → answer.to s ≡ Done tt o u → IsSpelledThere bounds order depth_left end t at bytes
  whole o u e =
      let w = after_done read (λ v. done) tt o u (sym one_value ∙ e) in
      let is = (spelled_as w.0 w.1 w.2).0 w.3 in
      (w.0, w.1, subst (λ (r : List ℕ). Spelled bounds order depth_left end t at s w.0 w.1 r) (left_after w.0 w.1 w.2 is) is)

  waits : answer.to s ≡ Partial → IsValuePartial bounds order depth_left end t at s
  waits e = record {
    not_spelled = λ v q r w. let d : Done tt q r ≡ Partial = sym (ap (λ (o : Outcome ValueTree). after o (λ v. done)) ((spelled_as v q r).1 w)) ∙ sym one_value ∙ e in absurd cc;
    not_refused = λ f w. let d : Faulty f ≡ Partial = sym (ap (λ (o : Outcome ValueTree). after o (λ v. done)) ((faults_as f).1 w)) ∙ sym one_value ∙ e in absurd cc;
  }

  pub refused : (f : Fault) → ((c : List ℕ) → answer.to (s ++ c) ≡ Faulty f) → (items.value bounds order depth_left end t).Refused at s f
  refused f h =
      elim (after_faulty read (λ v. done) f (sym one_value ∙ ap answer.to (sym (append-nil s)) ∙ h [])) [
        | inl e ↦ (faults_as f).0 e
        | inr w ↦ let e : Done tt w.1 w.2 ≡ Faulty f = w.4 in absurd cc
      ]

  pub validated : (new : ValueChecker) (n : ℕ) (live : Bool) → Runs s (Ok n) new answer → (IsTrue live ↔ IsLive new.doing) → Validates bounds order depth_left end t at bytes (Ok (not live))
  validated new n true runs is = waits (runs.2 (is.0 refl))
  validated new n false runs is =
      whole (offset_of new) (drop n s) (ap answer.to (sym (take-append-drop n s)) ∙ sym (over_last new (after_piece answer (take n s)) runs.1 (λ h. let e : false ≡ true = is.1 h in absurd cc) (drop n s)))

-- ---- the value that is built

pub whole_there : (given bounds : Bounds) (order : Order) (depth_left end : ℕ) (t : TypeTree) (at : ℕ) (bytes : List ℕ) (told : Bool) → given ≡ bounds → told ≡ true → Validates given order depth_left end t at bytes (Ok told) → IsSpelledThere bounds order depth_left end t at bytes
whole_there given bounds order depth_left end t at bytes told same whole h =
    subst (λ (b : Bounds). IsSpelledThere b order depth_left end t at bytes) same (subst (λ (b : Bool). Validates given order depth_left end t at bytes (Ok b)) whole h)

module _ (bounds : Bounds) (order : Order) (depth_left end : ℕ) (t : TypeTree) (at : ℕ) (bytes types : List ℕ) (single : IsSingleType t) (text : types ≡ sig t) where
  stands : (v : ValueTree) (q : ℕ) (r : List ℕ) → Spelled bounds order depth_left end t at (drop at bytes) v q r → Stands order depth_left types at bytes v r
  stands v q r w = record {
    text = ap sig w.has_type ∙ sym text;
    shaped = subst (IsShaped true) (sym w.has_type) (single_shaped t single);
    formed = w.formed;
    array = bounds.array;
    small = let a = bounds.array_in in omega arith;
    within = w.within;
    spelled = w.bytes;
  }

  pub stand_there : IsSpelledThere bounds order depth_left end t at bytes → (v : ValueTree) × (rest : List ℕ) × Stands order depth_left types at bytes v rest
  stand_there w = (w.0, drop w.1 bytes, stands w.0 w.1 (drop w.1 bytes) w.2)

  pub got : (x : ValueTree) (n : ℕ) → IsSpelledThere bounds order depth_left end t at bytes → ((v : ValueTree) (rest : List ℕ) → Stands order depth_left types at bytes v rest → (x ≡ v) × (n ≡ at + length (spelling order at v)))
      → Spelled bounds order depth_left end t at (drop at bytes) x n (drop n bytes)
  got x n w built =
      let b = built w.0 (drop w.1 bytes) (stands w.0 w.1 (drop w.1 bytes) w.2) in
      let place : n ≡ w.1 = b.1 ∙ sym w.2.place in
      rw (b.0, place) w.2
