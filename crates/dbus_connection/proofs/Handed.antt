-- A call of an end that is handed the first of some bytes does what one does that is handed all of
-- them, or it waits for the others.
use Rattle.std.proofs.Common.{◌≡◌, ◌∙◌, ◌⊎◌, ℕ, suc, ◌+◌, ◌-◌, ◌==◌, Bool, true, false, cond, List, [], ◌∷◌, ◌++◌, length, take, drop, Option, Some, None, refl, sym, ap, subst, inl, inr, arith, append_assoc, length-append}
use Rattle.std.proofs.lemmas.List.{drop_at, take-append-le}
use Rattle.dbus_auth_lines.specs.Cut.{Cut, Ends, Bad, More, cut}
use Rattle.dbus_auth_lines.proofs.Cuts.{StaysSettled, IsAbove, cut_follows}
use Rattle.dbus_auth.specs.Ends.{EndOutcome, EndState, Turn, after_turn, answers, answers_if, closes, cuts, first, left_after, takes, takes_at, talks}
use Rattle.dbus_auth.specs.declared.bounds.Bounds.{Bounds}
use Rattle.dbus_auth.specs.declared.end_step.Status.{Status}
use Rattle.dbus_auth.specs.declared.end_step.Status.TheVariants as status
use Rattle.dbus_auth.proofs.Stages.{answers_as}

-- the end is closed
abbrev pub IsShut : {M : Type 0} → EndOutcome (EndState M) → Type 0
IsShut o = o.after.status ≡ status.Closed

-- something comes of the call
abbrev pub IsTold : {M : Type 0} → EndOutcome (EndState M) → Type 0
IsTold o = o.after.status ≡ status.Talking → o.send ≡ [] → ⊥

-- so many bytes were taken before
abbrev pub behind : {M : Type 0} → ℕ → EndOutcome (EndState M) → EndOutcome (EndState M)
behind taken o = record { after = o.after; taken = taken + o.taken; send = o.send }

-- one does what the other does, or both close
abbrev pub IsLike : {M : Type 0} → ℕ → EndOutcome (EndState M) → EndOutcome (EndState M) → Type 0
IsLike taken whole o = (whole ≡ behind taken o) ⊎ (IsShut whole × IsShut o)

module _ {M : Type 0} (turn : M → List ℕ → Turn M) where
  -- a call that is handed all of the bytes, and one that is handed the first of them
  pub data Settles (e : EndState M) (bytes : List ℕ) (whole o : EndOutcome (EndState M)) : Type 0 where
    settled : IsTold o → whole ≡ o → Settles e bytes whole o
    waits : o.send ≡ [] → o.after.status ≡ status.Talking
        → (e.started ≡ true → o.after.started ≡ true)
        → IsLike o.taken whole (takes turn o.after (drop o.taken bytes)) → Settles e bytes whole o

  shut_told : (e : EndState M) → IsTold (closes e)
  shut_told e is nil = absurd (let x : status.Closed ≡ status.Talking = is in cc)

  -- a line is answered
  module _ (says : (m : M) (line : List ℕ) → (turn m line).status ≡ status.Talking → (turn m line).send ≡ [] → ⊥) where
    line_told : (e : EndState M) (taken : ℕ) (m : M) (line : List ℕ)
        → IsTold (answers turn e taken (turn m line))
    line_told e taken m line =
        answers_as turn IsTold e taken (turn m line) (shut_told e) (λ left. says m line)

    module _ (e : EndState M) (skipped : ℕ) (p r bytes : List ℕ) (talking : e.status ≡ status.Talking) (at : (t : ℕ) → drop (skipped + t) bytes ≡ drop t (p ++ r)) where
      abbrev keeping : EndState M
      keeping = record e { started = true; kept = e.kept ++ p }

      next : takes turn keeping r ≡ cuts turn keeping 0 r (cut ((e.kept ++ p) ++ r))
      unfolding takes
      next = ap (takes_at turn keeping r) talking

      more : (c : Cut) → IsAbove c (length (e.kept ++ p))
          → IsLike (skipped + length p) (cuts turn e skipped (p ++ r) c) (cuts turn keeping 0 r c)
      more More above =
          let long : skipped + length (p ++ r) ≡ (skipped + length p) + (0 + length r) = omega (arith, length-append p r) in
          inl (ap (λ (k : List ℕ). record { after = record e { started = true; kept = k }; taken = skipped + length (p ++ r); send = [] }) (sym (append_assoc e.kept p r))
          ∙ ap (λ (n : ℕ). record { after = record e { started = true; kept = (e.kept ++ p) ++ r }; taken = n; send = [] }) long)
      more (Bad f) above = inr (refl, refl)
      more (Ends n) above =
          subst (λ (k : List ℕ). IsLike (skipped + length p) (answers turn e (skipped + (n - length e.kept)) (turn e.machine (take (n - 2) (e.kept ++ (p ++ r))))) (answers turn keeping (0 + (n - length (e.kept ++ p))) (turn e.machine (take (n - 2) k))))
          (sym (append_assoc e.kept p r)) (by_left (left_after e.left t.counts))
        where
          t : Turn M
          t = turn e.machine (take (n - 2) (e.kept ++ (p ++ r)))

          counted : skipped + (n - length e.kept) ≡ (skipped + length p) + (0 + (n - length (e.kept ++ p)))
          counted = omega (arith, length-append e.kept p, above)

          by_left : (left : Option (Option Bounds))
              → IsLike (skipped + length p) (answers_if turn e (skipped + (n - length e.kept)) t left) (answers_if turn keeping (0 + (n - length (e.kept ++ p))) t left)
          by_left (Some left) =
              inl (ap (λ (k : ℕ). record { after = record (after_turn t) { left = left }; taken = k; send = t.send }) counted)
          by_left None = inr (refl, refl)

      by_cut : (c whole : Cut) → cut (e.kept ++ (p ++ r)) ≡ whole
          → StaysSettled c whole (length (e.kept ++ p))
          → Settles e bytes (cuts turn e skipped (p ++ r) whole) (cuts turn e skipped p c)
      by_cut More whole is stays =
          let rest : drop (skipped + length p) bytes ≡ r = at (length p) ∙ drop_at p r (length p) refl in
          let call : takes turn keeping (drop (skipped + length p) bytes) ≡ cuts turn keeping 0 r whole = ap (takes turn keeping) rest ∙ next ∙ ap (cuts turn keeping 0 r) (ap cut (append_assoc e.kept p r) ∙ is) in
          waits refl talking (λ s. refl) (subst (IsLike (skipped + length p) (cuts turn e skipped (p ++ r) whole)) (sym call) (more whole stays))
      by_cut (Bad f) whole is stays =
          settled (shut_told e) (ap (cuts turn e skipped (p ++ r)) stays)
      by_cut (Ends n) whole is stays =
          let same : take (n - 2) (e.kept ++ (p ++ r)) ≡ take (n - 2) (e.kept ++ p) =
          ap (take (n - 2)) (sym (append_assoc e.kept p r)) ∙ take-append-le (n - 2) (e.kept ++ p) r (omega (arith, stays.1)) in
          settled (line_told e (skipped + (n - length e.kept)) e.machine (take (n - 2) (e.kept ++ p)))
          (ap (cuts turn e skipped (p ++ r)) stays.0 ∙ ap (λ (line : List ℕ). answers turn e (skipped + (n - length e.kept)) (turn e.machine line)) same)

      piece : Settles e bytes (cuts turn e skipped (p ++ r) (cut (e.kept ++ (p ++ r)))) (cuts turn e skipped p (cut (e.kept ++ p)))
      piece =
          by_cut (cut (e.kept ++ p)) (cut (e.kept ++ (p ++ r))) refl
          (subst (λ (k : List ℕ). StaysSettled (cut (e.kept ++ p)) (cut k) (length (e.kept ++ p))) (append_assoc e.kept p r) (cut_follows (e.kept ++ p) r))

    -- the first byte
    begins : (e : EndState M) (p r : List ℕ) → e.status ≡ status.Talking → e.started ≡ false
        → Settles e (p ++ r) (first turn e (p ++ r)) (first turn e p)
    unfolding takes
    begins e [] r talking z = waits refl talking (λ s. s) (inl again)
      where
        call : takes turn e r ≡ first turn e r
        call = ap (takes_at turn e r) talking ∙ ap (talks turn e r) z

        none : (o : EndOutcome (EndState M)) → o ≡ behind 0 o
        none o =
            let n : o.taken ≡ 0 + o.taken = omega arith in ap (λ (k : ℕ). record { after = o.after; taken = k; send = o.send }) n

        again : first turn e r ≡ behind 0 (takes turn e r)
        again = sym call ∙ none (takes turn e r)
    begins e (b ∷ p) r talking z = by_zero (b == 0)
      where
        by_zero : (t : Bool)
            → Settles e (b ∷ (p ++ r)) (cond t (cuts turn e 1 (p ++ r) (cut (e.kept ++ (p ++ r)))) (closes e)) (cond t (cuts turn e 1 p (cut (e.kept ++ p))) (closes e))
        by_zero true =
            piece e 1 p r (b ∷ (p ++ r)) talking (λ t. let n : 1 + t ≡ suc t = omega arith in ap (λ (k : ℕ). drop k (b ∷ (p ++ r))) n)
        by_zero false = settled (shut_told e) refl

    by_start : (e : EndState M) (p r : List ℕ) (z : Bool) → e.status ≡ status.Talking
        → e.started ≡ z → Settles e (p ++ r) (talks turn e (p ++ r) z) (talks turn e p z)
    by_start e p r true talking z =
        piece e 0 p r (p ++ r) talking (λ t. let n : 0 + t ≡ t = omega arith in ap (λ (k : ℕ). drop k (p ++ r)) n)
    by_start e p r false talking z = begins e p r talking z

    by_status : (e : EndState M) (p r : List ℕ) (st : Status) → e.status ≡ st
        → Settles e (p ++ r) (takes_at turn e (p ++ r) st) (takes_at turn e p st)
    by_status e p r status.Talking is = by_start e p r e.started is refl
    by_status e p r status.Begun is = settled (λ t nil. absurd (let x : status.Begun ≡ status.Talking = sym is ∙ t in cc)) refl
    by_status e p r status.Closed is = settled (λ t nil. absurd (let x : status.Closed ≡ status.Talking = sym is ∙ t in cc)) refl

    pub settles : (e : EndState M) (p r : List ℕ)
        → Settles e (p ++ r) (takes turn e (p ++ r)) (takes turn e p)
    unfolding takes
    settles e p r = by_status e p r e.status refl
