-- The sums of calls and one more.
use Rattle.std.proofs.Common.{◌≡◌, ℕ, ◌+◌, ◌-◌, ◌^◌, min, max, List, [], ◌∷◌, ◌++◌, length, Bool, true, false, if◌then◌else◌, Option, None, Some, is_some, refl, ap, ◌∙◌, sym, arith, append-nil}
use Rattle.std.specs.List.{filter, fold, sum_by}
use Rattle.std.specs.Option.{unwrap_or}
use Rattle.std.specs.Str.{bytes_eq}
use Rattle.std.proofs.lemmas.List.{length-append}
use Rattle.std.proofs.lemmas.List.Elements.{filter-append}
use Rattle.std.proofs.lemmas.List.Sums.{fold-append, sum_by-append}
use Rattle.dbus_call_lines.specs.Keeping.{EndedCall}
use Rattle.dbus_call_lines.specs.Outcomes.{is_error, is_unanswered}
use Rattle.dbus_call_members.specs.Summing.{how_many, is_reply, no_calls, one_if, summary, summary_if, sums, took, upto, with_call, with_one}
use Rattle.dbus_call_members.specs.declared.member_sum.MemberSum.{MemberSum}

upto_more : (n m : ℕ) → upto (n + m) ≡ upto (upto n + m)
upto_more n m = omega arith

length_push : (xs : List EndedCall) (c : EndedCall) → upto (length (xs ++ c ∷ [])) ≡ upto (upto (length xs) + 1)
length_push xs c = ap upto (length-append xs (c ∷ [])) ∙ upto_more (length xs) 1

sum_push : (f : EndedCall → ℕ) (xs : List EndedCall) (c : EndedCall) → upto (sum_by f (xs ++ c ∷ [])) ≡ upto (upto (sum_by f xs) + f c)
sum_push f xs c =
    let one : sum_by f (c ∷ []) ≡ f c = omega arith in
    ap upto (sum_by-append f xs (c ∷ [])) ∙ (ap (λ k. upto (sum_by f xs + k)) one ∙ upto_more (sum_by f xs) (f c))

longest_push : (f : EndedCall → ℕ) (xs : List EndedCall) (c : EndedCall) → fold (λ n c. max n (f c)) 0 (xs ++ c ∷ []) ≡ max (fold (λ n c. max n (f c)) 0 xs) (f c)
longest_push f xs c = fold-append (λ n c. max n (f c)) 0 xs (c ∷ [])

pub summary_push : (xs : List EndedCall) (c : EndedCall) → summary (xs ++ c ∷ []) ≡ with_call (summary xs) c.place.time c.outcome
summary_push xs c = λ i. record {
  calls = length_push xs c i;
  replies = sum_push (λ c. one_if (is_reply c.outcome)) xs c i;
  errors = sum_push (λ c. one_if (is_error c.outcome)) xs c i;
  unanswered = sum_push (λ c. one_if (is_unanswered c.outcome)) xs c i;
  timed = sum_push (λ c. one_if (is_some (took c))) xs c i;
  total = sum_push (λ c. unwrap_or (took c) 0) xs c i;
  longest = longest_push (λ c. unwrap_or (took c) 0) xs c i;
}

some_push : (xs : List EndedCall) (c : EndedCall) → summary_if (xs ++ c ∷ []) ≡ Some (with_call (unwrap_or (summary_if xs) no_calls) c.place.time c.outcome)
some_push [] c = ap (λ s. Some s) (summary_push [] c)
some_push (x ∷ xs) c = ap (λ s. Some s) (summary_push (x ∷ xs) c)

either_push : (b : Bool) (xs : List EndedCall) (c : EndedCall) → summary_if (xs ++ (if b then c ∷ [] else [])) ≡ (if b then Some (with_call (unwrap_or (summary_if xs) no_calls) c.place.time c.outcome) else summary_if xs)
either_push true xs c = some_push xs c
either_push false xs c = ap summary_if (append-nil xs)

one_filtered : (is : EndedCall → Bool) (c : EndedCall) (b : Bool) → is c ≡ b → filter is (c ∷ []) ≡ (if b then c ∷ [] else [])
one_filtered is c b same = ap (λ b. if b then c ∷ [] else []) same

pub sums_push : (calls : List EndedCall) (c : EndedCall) (name : List ℕ) → sums (calls ++ c ∷ []) name ≡ with_one c.text c.place.time c.outcome (sums calls) name
sums_push calls c name =
    let is : EndedCall → Bool = λ d. bytes_eq d.text name in
    ap summary_if (filter-append is calls (c ∷ [])) ∙ (ap (λ l. summary_if (filter is calls ++ l)) (one_filtered is c (is c) refl) ∙ either_push (is c) (filter is calls) c)
