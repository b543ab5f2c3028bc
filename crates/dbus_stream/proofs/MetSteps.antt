-- The steps of meeting a message behind as many bytes as a refused one states.
use Rattle.std.proofs.Common.{◌≡◌, ℕ, ◌+◌, ◌-◌, ◌<◌, ◌≤◌, ◌⊎◌, List, ◌++◌, Bool, true, false, length, take, drop, min, refl, sym, ap, ◌∙◌, subst, arith, append_assoc, length-append, length-drop, take-append-drop, inl, inr}
use Rattle.std.proofs.Math.Nat.{le-max_left, le-max_right, min-le_left, min-le_right}
use Rattle.std.proofs.Math.Path.{transport}
use Rattle.std.proofs.Math.Seq.{take-append-add}
use Rattle.std.proofs.lemmas.Bool.{cases_lt}
use Rattle.std.proofs.lemmas.List.{drop-append-le, length-take, take-append-le}
use Rattle.dbus_value_model.specs.declared.limits.Limits.{Limits}
use Rattle.dbus_value_model.specs.declared.order.Order.{Order}
use Rattle.dbus_message_model.specs.Messages.{MessageTree, message_bytes}
use Rattle.dbus_header.specs.MessageOutcomes.{IsWhole}
use Rattle.dbus_header.specs.NoMessage.{BeginsWithNone}
use Rattle.dbus_header.specs.StatedLengths.{StatesLength}
use Rattle.dbus_header.proofs.OutcomeLaws.{valid_whole, whole_bytes, whole_for_good, whole_inside, whole_valid}
use Rattle.dbus_header.proofs.StatedLengths.{one_stated, whole_states}
use Rattle.dbus_resync.specs.Search.{BeginsAt, Looks as LooksAt}
use Rattle.dbus_resync.specs.declared.found.Found.TheVariants.{At, Spent}
use Rattle.dbus_resync.specs.declared.found.Searched.{Searched}
use Rattle.dbus_resync.proofs.DamagedLaws.{begins_inside}
use Rattle.dbus_resync.proofs.Steps.{looks_once}
use Rattle.dbus_stream.specs.GoingOn.{ahead_of, IsMet, IsSettled, LeadsOn, LooksBehind, Resumes}
use Rattle.dbus_stream.specs.LookingAhead.{Meets}
use Rattle.dbus_stream.specs.StatedSizes.{StatesSize}
use Rattle.dbus_stream.specs.declared.seeking.Behind.{Behind}
use Rattle.dbus_stream.proofs.SizeSteps.{size_front, size_more, size_once, size_some}

-- a message is one of the bytes that it has, whatever follows
whole_front : (limits : Limits) (b c : List ℕ) (order : Order) (m : MessageTree) (n : ℕ) → n ≤ length b → IsWhole limits (b ++ c) order m n → IsWhole limits b order m n
whole_front limits b c order m n inside w =
    let bytes = whole_bytes limits (b ++ c) order m n w in
    let front : message_bytes order m ≡ take n b = sym bytes.0 ∙ take-append-le n b c inside in
    let all : message_bytes order m ++ drop n b ≡ b = ap (λ (l : List ℕ). l ++ drop n b) front ∙ take-append-drop n b in
    transport (λ i. IsWhole limits (all i) order m (sym bytes.1 i)) (valid_whole limits order m (drop n b) (whole_valid limits (b ++ c) order m n w))

-- the first bytes of more are those of fewer, and others
taken_more : (window : ℕ) (w more : List ℕ) → (c : List ℕ) × (take window (w ++ more) ≡ take window w ++ c)
taken_more window w more =
    let t = take window w in
    let rest = drop window w ++ more in
    let few : length t ≤ window = omega (arith, length-take window w, min-le_left window (length w)) in
    let joined : w ++ more ≡ t ++ rest = ap (λ (l : List ℕ). l ++ more) (sym (take-append-drop window w)) ∙ append_assoc t (drop window w) more in
    let wide : length t + (window - length t) ≡ window = omega (arith, few) in
    (take (window - length t) rest, ap (take window) joined ∙ (ap (λ (n : ℕ). take n (t ++ rest)) (sym wide) ∙ take-append-add t rest (window - length t)))

module _ (limits : Limits) where
  begins_more : (b c : List ℕ) (size : ℕ) → BeginsAt limits b size → BeginsAt limits (b ++ c) size
  begins_more b c size at =
      let inside = begins_inside limits b size at in
      (at.0, at.1, at.2, subst (λ (l : List ℕ). IsWhole limits l at.0 at.1 at.2) (sym (drop-append-le size b c (omega (arith, inside)))) (whole_for_good limits (drop size b) c at.0 at.1 at.2 at.3))

  abbrev met_more : (b c : List ℕ) → IsMet true limits b → IsMet true limits (b ++ c)
  met_more b c x = (x.0, size_more limits b c x.0 x.1.there x.1, begins_more b c x.0 x.2)

  -- as many bytes are looked at, whatever follows
  looks_more : (b c : List ℕ) (size : ℕ) → StatesSize limits b size → (at : BeginsAt limits b size) (n : ℕ) → LooksBehind limits b n → LooksBehind limits (b ++ c) n
  looks_more b c size states at n (inl l) =
      let inside = begins_inside limits b size at in
      let same : l.0 ≡ size = size_once limits b size l.0 states l.1 in
      let stated = whole_states limits (drop size b) at.0 at.1 at.2 at.3 in
      let there = (whole_inside limits (drop size b) at.0 at.1 at.2 at.3).1 in
      let is : n ≡ at.2 = looks_once limits (drop size b) n at.2 (subst (λ (k : ℕ). LooksAt limits (drop k b) n) same l.3) (inl (stated.0, there)) in
      let states_n : StatesLength limits (drop size b) n = subst (StatesLength limits (drop size b)) (sym is) stated.0 in
      inl (
        size,
        size_more limits b c size states.there states,
        omega (arith, inside, length-append b c),
        subst (λ (k : List ℕ). LooksAt limits k n) (sym (drop-append-le size b c (omega (arith, inside)))) (inl ((one_stated limits (drop size b) c n n states_n).0, omega (arith, is, there, length-append (drop size b) c))),
      )
  looks_more b c size states at n (inr past) =
      let inside = begins_inside limits b size at in
      let short = past.0 size states in
      absurd (omega (arith, inside, short))

  resumes_more : (window effort : ℕ) (b c : List ℕ) (s : Searched) (x : IsMet true limits b) → Resumes limits window effort b s → Resumes limits window effort (b ++ c) s
  resumes_more window effort b c s x r = (
    r.0,
    looks_more b c x.0 x.1 x.2 r.0 r.1,
    elim r.2 [
      | inl spent ↦ inl spent
      | inr enough ↦ inr (
        enough.0,
        elim enough.1 [
          | inl led ↦ inl (
            led.0,
            subst (LeadsOn limits window (b ++ c)) (sym (size_once limits b x.0 led.0 x.1 led.1.states)) (record { states = size_more limits b c x.0 x.1.there x.1; to = inl (begins_more b c x.0 x.2) }),
            led.2,
          )
          | inr none ↦ absurd (none.0 x.0 (record { states = x.1; to = inl x.2 }))
        ],
      )
    ],
  )

  -- what is found is the same whatever follows
  pub settled_more : (window effort : ℕ) (w more : List ℕ) (s : Searched) → IsSettled true limits window w → Resumes limits window effort (take window w) s → Resumes limits window effort (take window (w ++ more)) s
  settled_more window effort w more s (inl wide) r = subst (λ (l : List ℕ). Resumes limits window effort l s) (sym (take-append-le window w more (omega (arith, wide, le-max_left window 16)))) r
  settled_more window effort w more s (inr met) r =
      let t = taken_more window w more in
      subst (λ (l : List ℕ). Resumes limits window effort l s) (sym t.1) (resumes_more window effort (take window w) t.0 s met r)

  pub stays_settled : (window : ℕ) (w more : List ℕ) → IsSettled true limits window w → IsSettled true limits window (w ++ more)
  stays_settled window w more (inl wide) = inl (omega (arith, wide, length-append w more))
  stays_settled window w more (inr met) = let t = taken_more window w more in inr (subst (IsMet true limits) (sym t.1) (met_more (take window w) t.0 met))

  -- sixteen bytes are there
  pub settled_sixteen : (window : ℕ) (w : List ℕ) → IsSettled true limits window w → 16 ≤ length w
  settled_sixteen window w (inl wide) = omega (arith, wide, le-max_right window 16)
  settled_sixteen window w (inr met) = let sixteen = met.1.there in omega (arith, sixteen, length-take window w, min-le_right window (length w))

  -- it is met among the first bytes, if they have all of it
  met_front : (b c : List ℕ) (size n : ℕ) → StatesSize limits (b ++ c) size → (order : Order) (m : MessageTree) → IsWhole limits (drop size (b ++ c)) order m n → size + n ≤ length b → IsMet true limits b
  met_front b c size n states order m w inside =
      let sixteen = size_some limits (b ++ c) size states in
      let rest = drop-append-le size b c (omega (arith, inside)) in (
        size,
        size_front limits b c size (omega (arith, sixteen, inside)) states,
        (order, m, n, whole_front limits (drop size b) c order m n (omega (arith, inside, length-drop size b)) (subst (λ (l : List ℕ). IsWhole limits l order m n) rest w)),
      )

  pub met_before : (window before : ℕ) (w : List ℕ) (size n : ℕ) → StatesSize limits (take window w) size → LooksAt limits (drop size (take window w)) n → size + n ≤ before → IsMet true limits (take window w) → IsMet true limits (take window (take before w))
  met_before window before w size n states looks few x =
      let first = take before w in
      let t = taken_more window first (drop before w) in
      let all : take window w ≡ take window first ++ t.0 = ap (take window) (sym (take-append-drop before w)) ∙ t.1 in
      let same : x.0 ≡ size = size_once limits (take window w) size x.0 states x.1 in
      let at : BeginsAt limits (take window w) size = subst (BeginsAt limits (take window w)) same x.2 in
      let stated = whole_states limits (drop size (take window w)) at.0 at.1 at.2 at.3 in
      let there = (whole_inside limits (drop size (take window w)) at.0 at.1 at.2 at.3).1 in
      let is : n ≡ at.2 = looks_once limits (drop size (take window w)) n at.2 looks (inl (stated.0, there)) in
      let inside = begins_inside limits (take window w) size at in
      let long : size + at.2 ≤ length (take window first) = omega (
        arith,
        few,
        is,
        inside,
        there,
        length-drop size (take window w),
        length-take window w,
        length-take before w,
        length-take window first,
      ) in
      met_front (take window first) t.0 size at.2 (subst (λ (l : List ℕ). StatesSize limits l size) all states) at.0 at.1 (subst (λ (l : List ℕ). IsWhole limits (drop size l) at.0 at.1 at.2) all at.3) long

  -- if it is looked for
  pub met_if : (by_size : Bool) (b : List ℕ) → IsMet by_size limits b → (by_size ≡ true) × IsMet true limits b
  met_if true b x = (refl, x)
  met_if false b x = absurd x

  -- it is not met if no size is stated, or no message begins there
  pub unstated_unmet : (by_size : Bool) (b : List ℕ) → ((size : ℕ) → StatesSize limits b size → length b < size) → IsMet by_size limits b → ⊥
  unstated_unmet by_size b past met =
      let x : IsMet true limits b = (met_if by_size b met).1 in
      let short = past x.0 x.1 in
      let inside = begins_inside limits b x.0 x.2 in
      omega (arith, short, inside)

  pub none_unmet : (by_size : Bool) (b : List ℕ) (end : ℕ) → StatesSize limits b end → (by_size ≡ true → BeginsWithNone limits (drop end b)) → IsMet by_size limits b → ⊥
  none_unmet by_size b end states none met =
      let is = met_if by_size b met in
      let x : IsMet true limits b = is.1 in
      let begins : BeginsAt limits b end = subst (BeginsAt limits b) (size_once limits b end x.0 states x.1) x.2 in
      none is.0 begins.0 begins.1 begins.2 begins.3

  unmet : (window : ℕ) (w : List ℕ) → length w < ahead_of window → (IsMet true limits (take window w) → ⊥) → IsSettled true limits window w ⊎ (IsSettled true limits window w → ⊥)
  unmet window w short none = inr (λ settled. elim settled [ inl wide ↦ omega (arith, short, wide) | inr met ↦ none met ])

  -- where messages begin again is settled, or not
  pub settled_or : (window effort : ℕ) (w : List ℕ) (s : Searched) (n : ℕ) → Resumes limits window effort (take window w) s → s.found ≡ At n → IsSettled true limits window w ⊎ (IsSettled true limits window w → ⊥)
  settled_or window effort w s n r is = elim (cases_lt (length w) (ahead_of window)) [
    | inr wide ↦ inl (inl wide)
    | inl short ↦ elim r.2 [
      | inl spent ↦ absurd (let none : Spent ≡ At n = sym (ap (λ (t : Searched). t.found) spent.1) ∙ is in cc)
      | inr enough ↦ elim enough.1 [
        | inl led ↦ elim led.1.to [
          | inl begins ↦ inl (inr (led.0, led.1.states, begins))
          | inr (inl ends) ↦ unmet window w short (λ x. let end = ends.0 in let same = size_once limits (take window w) led.0 x.0 led.1.states x.1 in let inside = begins_inside limits (take window w) x.0 x.2 in omega (arith, same, inside, end))
          | inr (inr wants) ↦ (let sixteen = led.1.states.there in let all = wants.1 in absurd (omega (arith, short, all, sixteen, length-take window w)))
        ]
        | inr none ↦ unmet window w short (λ x. none.0 x.0 (record { states = x.1; to = inl x.2 }))
      ]
    ]
  ]

-- nothing is met among no bytes
pub nothing_met : (behind : Behind) (w : List ℕ) → Meets behind (take 0 w) → ⊥
nothing_met behind w met =
    let x : IsMet true behind.limits (take behind.window (take 0 w)) = (met_if behind.limits behind.by_size (take behind.window (take 0 w)) met).1 in
    let sixteen = x.1.there in
    omega (arith, sixteen, length-take behind.window (take 0 w), length-take 0 w, min-le_right behind.window (length (take 0 w)), min-le_left 0 (length w))
