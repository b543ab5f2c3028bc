-- The span of times is from the least to the greatest of them.
use Rattle.std.proofs.Common.{◌≡◌, ◌≤◌, ◌⊎◌, ℕ, ◌+◌, ◌-◌, ◌^◌, inl, inr, List, [], ◌∷◌, ◌++◌, length, min, max, Option, None, Some, refl, sym, ap, ◌∙◌, subst, arith, append_assoc, append-nil, length-append, ◌<◌}
use Rattle.std.specs.List.{All, Contains}
use Rattle.std.proofs.Math.Nat.{le-max_left, le-max_right, max-eq_left, max-eq_right, min-eq_left, min-eq_right, min-le_left, min-le_right}
use Rattle.std.proofs.lemmas.Bool.{cases_lt}
use Rattle.std.proofs.lemmas.List.Elements.{All-nil, All-push, All-weaker, Contains-append_left, Contains-push}
use Rattle.dbus_count.specs.Counting.{sum_of}
use Rattle.dbus_count.specs.Spans.{EachSpan, IsSpan, with_time, with_times}
use Rattle.dbus_count.specs.declared.span.Span.{Span}

-- one more, where it stops at the greatest number of 64 bits
more : (n m messages : ℕ) → m ≡ n + 1 → messages ≡ min n (2 ^ 64 - 1) → sum_of messages 1 ≡ min m (2 ^ 64 - 1)
more n m messages one is = grind arith

step : (done : List ℕ) (time : ℕ) (span : Option Span) → IsSpan done span → IsSpan (done ++ time ∷ []) (Some (with_time time span))
step done time None none = subst (λ (l : List ℕ). IsSpan (l ++ time ∷ []) (Some (with_time time None))) (sym none) (record {
  messages = refl;
  first_is = Contains-push [] time;
  first = All-push (λ t. time ≤ t) [] time (All-nil (λ t. time ≤ t)) (omega arith);
  last_is = Contains-push [] time;
  last = All-push (λ t. t ≤ time) [] time (All-nil (λ t. t ≤ time)) (omega arith);
})
step done time (Some span) is =
    let all = done ++ time ∷ [] in
    let low : Contains all (min span.first time) = elim (cases_lt span.first time) [
      | inl before ↦ subst (λ x. Contains all x) (sym (min-eq_left (omega (arith, before)))) (Contains-append_left done (time ∷ []) span.first is.first_is)
      | inr after ↦ subst (λ x. Contains all x) (sym (min-eq_right after)) (Contains-push done time)
    ] in
    let high : Contains all (max span.last time) = elim (cases_lt span.last time) [
      | inl before ↦ subst (λ x. Contains all x) (sym (max-eq_right (omega (arith, before)))) (Contains-push done time)
      | inr after ↦ subst (λ x. Contains all x) (sym (max-eq_left after)) (Contains-append_left done (time ∷ []) span.last is.last_is)
    ] in
    record {
      messages = more (length done) (length all) span.messages (length-append done (time ∷ [])) is.messages;
      first_is = low;
      first = All-push (λ t. min span.first time ≤ t) done time (All-weaker (λ t. span.first ≤ t) (λ t. min span.first time ≤ t) (λ t e. omega (arith, e, min-le_left span.first time)) done is.first) (min-le_right span.first time);
      last_is = high;
      last = All-push (λ t. t ≤ max span.last time) done time (All-weaker (λ t. t ≤ span.last) (λ t. t ≤ max span.last time) (λ t e. omega (arith, e, le-max_left span.last time)) done is.last) (le-max_right span.last time);
    }

over : (done times : List ℕ) (span : Option Span) → IsSpan done span → IsSpan (done ++ times) (with_times times span)
over done [] span is = subst (λ (l : List ℕ). IsSpan l span) (sym (append-nil done)) is
over done (time ∷ times) span is = subst (λ (l : List ℕ). IsSpan l (with_times times (Some (with_time time span)))) (append_assoc done (time ∷ []) times) (over (done ++ time ∷ []) times (Some (with_time time span)) (step done time span is))

pub each_span : EachSpan
each_span times = over [] times None refl
