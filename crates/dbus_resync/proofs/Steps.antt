-- The offsets of bytes, one after the other.
use Rattle.std.proofs.Common.{◌≡◌, ℕ, ◌+◌, ◌-◌, ◌<◌, ◌≤◌, Bool, false, Option, None, Some, is_some, List, [], ◌∷◌, ◌++◌, length, take, drop, get_or, refl, sym, ◌∙◌, subst, arith, inl, inr, below_more}
use Rattle.std.proofs.lemmas.Bool.{false≢true}
use Rattle.std.proofs.lemmas.List.{get_or_append_left, get_or_push, length_push, take_rest}
use Rattle.std.proofs.lemmas.List.Sums.{sum_by-append}
use Rattle.dbus_value_model.specs.declared.limits.Limits.{Limits}
use Rattle.dbus_header.specs.NoMessage.{BeginsWithNone}
use Rattle.dbus_header.specs.StatedLengths.{StatesLength}
use Rattle.dbus_header.proofs.OutcomeLaws.{whole_inside}
use Rattle.dbus_header.proofs.StatedLengths.{one_stated, whole_states}
use Rattle.dbus_resync.specs.Search.{Looks, LooksBefore, NoneBefore}

-- bytes state one length
one_length : (limits : Limits) (b : List ℕ) (n k : ℕ) → StatesLength limits b n → StatesLength limits b k → k ≡ n
one_length limits b n k s t = (one_stated limits b [] n k s).1 (one_stated limits b [] k k t).0

-- ---- how much is looked at

pub looks_longer : (limits : Limits) (b : List ℕ) (n : ℕ) → StatesLength limits b n → length b < n → Looks limits b 0
looks_longer limits b n s h = inr (refl, λ k t. let same = one_length limits b n k s t in omega (arith, same, h))

pub looks_short : (limits : Limits) (b : List ℕ) → length b < 16 → Looks limits b 0
unfolding StatesLength
looks_short limits b h = inr (refl, λ k t. let is = t.3 in omega (arith, is, h))

-- one number of bytes is looked at
pub looks_once : (limits : Limits) (b : List ℕ) (n k : ℕ) → Looks limits b n → Looks limits b k → n ≡ k
looks_once limits b n k h j = elim h [
  | inl s ↦ elim j [
    | inl t ↦ sym (one_length limits b n k s.0 t.0)
    | inr none ↦ (let more = none.1 n s.0 in absurd (omega (arith, more, s.1)))
  ]
  | inr none ↦ elim j [
    | inl t ↦ (let more = none.1 k t.0 in absurd (omega (arith, more, t.1)))
    | inr also ↦ omega (arith, none.0, also.0)
  ]
]

-- none of no bytes
pub looks_nothing : (limits : Limits) (b : List ℕ) (n : ℕ) → length b ≤ 0 → Looks limits b n → n ≡ 0
looks_nothing limits b n none h = looks_once limits b n 0 h (looks_short limits b (omega (arith, none)))

-- if nothing is looked at, no message is there
pub none_there : (limits : Limits) (b : List ℕ) → Looks limits b 0 → BeginsWithNone limits b
none_there limits b looks order m n w =
    let states = whole_states limits b order m n w in
    let inside = (whole_inside limits b order m n w).1 in
    elim looks [
      | inl s ↦ (let same = one_length limits b 0 n s.0 states.0 in absurd (omega (arith, same, states.1)))
      | inr none ↦ (let more = none.1 n states.0 in absurd (omega (arith, more, inside)))
    ]

-- the bytes from an offset on, as the code has them
pub looks_from : (limits : Limits) (bytes : List ℕ) (offset n : ℕ) → Looks limits (take (length bytes - offset) (drop offset bytes)) n → Looks limits (drop offset bytes) n
looks_from limits bytes offset n h = subst (λ (b : List ℕ). Looks limits b n) (take_rest bytes offset) h

pub none_from : (limits : Limits) (bytes : List ℕ) (offset : ℕ) → BeginsWithNone limits (take (length bytes - offset) (drop offset bytes)) → BeginsWithNone limits (drop offset bytes)
none_from limits bytes offset h = subst (λ (b : List ℕ). BeginsWithNone limits b) (take_rest bytes offset) h

pub is_none : {X : Type 0} (o : Option X) (b : Bool) → b ≡ is_some o → b ≡ false → o ≡ None
is_none None b e f = refl
is_none (Some x) b e f = absurd (false≢true (sym f ∙ e))

-- ---- one more offset

pub looks_none : (limits : Limits) (bytes : List ℕ) → LooksBefore limits bytes 0 0
looks_none limits bytes = ([], record { each = λ k h. absurd (omega (arith, h)) }, refl, refl)

pub looks_more : (limits : Limits) (bytes : List ℕ) (offset total n : ℕ) → LooksBefore limits bytes offset total → Looks limits (drop offset bytes) n → LooksBefore limits bytes (offset + 1) (total + n)
looks_more limits bytes offset total n before one =
    let looked = before.0 in
    let long : length looked ≡ offset = before.2 in
    let P : ℕ → Type 0 = λ k. Looks limits (drop k bytes) (get_or (looked ++ n ∷ []) k 0) in
    let below : (k : ℕ) → k < length looked → P k = λ k h. subst (λ x. Looks limits (drop k bytes) x) (sym (get_or_append_left looked (n ∷ []) 0 k h)) (before.1.each k h) in
    let at : Looks limits (drop (length looked) bytes) n = subst (λ k. Looks limits (drop k bytes) n) (sym long) one in
    let here : P (length looked) = subst (λ x. Looks limits (drop (length looked) bytes) x) (sym (get_or_push looked n 0 (length looked) refl)) at in
    let push : length (looked ++ n ∷ []) ≡ length looked + 1 = length_push looked n in (
      looked ++ n ∷ [],
      record { each = λ k h. below_more P (length looked) below here k (omega (arith, h, push)) },
      omega (arith, push, long),
      grind (arith, before.3, sum_by-append (λ x. x) looked (n ∷ [])),
    )

pub none_more : (limits : Limits) (bytes : List ℕ) (offset : ℕ) → NoneBefore limits bytes offset → BeginsWithNone limits (drop offset bytes) → NoneBefore limits bytes (offset + 1)
none_more limits bytes offset before one = below_more (λ k. BeginsWithNone limits (drop k bytes)) offset before one
