-- Laws of cuts: bytes are cut in one way, whatever they come in, and each list of bytes is cut.
use Rattle.std.proofs.Common.{◌≡◌, ℕ, zero, suc, ◌<◌, ◌≤◌, List, [], ◌∷◌, ◌++◌, length, drop, refl, sym, ap, ◌∙◌, subst, arith, append-nil, length-drop, inl, inr, ◌+◌, ◌-◌, take}
use Rattle.std.proofs.lemmas.List.{drop-append-le, drop-drop, take-take, drop_at, length-take-le}
use Rattle.std.specs.List.{slice_range}
use Rattle.std.proofs.lemmas.List.Folds.{drop_split}
use Rattle.std.proofs.lemmas.Slice.{between_is}
use Rattle.dbus_value_model.specs.declared.fault.Fault.{Fault}
use Rattle.dbus_value_model.specs.ByteNumbers.{IsBytes}
use Rattle.dbus_value_model.specs.declared.limits.Limits.{Limits}
use Rattle.dbus_header.specs.MessageOutcomes.{IsWhole, IsRefused, IsPartial}
use Rattle.dbus_header.proofs.OutcomeLaws.{whole_for_good, one_whole, whole_inside, not_both, one_outcome, one_fault, nothing_partial, some_outcome}
use Rattle.dbus_stream.specs.Cut.{CutMessage, BeginWith, CutOutcome, Ended, Unfinished, Refused, IsOutcome, IsCut}
use Rattle.dbus_stream.specs.CutEnds.{HasCut}

-- one more message
pub BeginWith-last : (limits : Limits) (bytes : List ℕ) (items : List CutMessage) (mid : List ℕ) (item : CutMessage) → BeginWith limits bytes items mid
    → IsWhole limits mid item.order item.message item.size → BeginWith limits bytes (items ++ item ∷ []) (drop item.size mid)
BeginWith-last limits bytes [] mid item f w = (subst (λ l. IsWhole limits l item.order item.message item.size) (sym f) w, ap (drop item.size) f)
BeginWith-last limits bytes (first ∷ items) mid item f w = (f.0, BeginWith-last limits (drop first.size bytes) items mid item f.1 w)

-- more bytes after
pub BeginWith-more : (limits : Limits) (bytes : List ℕ) (items : List CutMessage) (rest more : List ℕ) → BeginWith limits bytes items rest → BeginWith limits (bytes ++ more) items (rest ++ more)
BeginWith-more limits bytes [] rest more f = ap (λ l. l ++ more) f
BeginWith-more limits bytes (item ∷ items) rest more f =
    let fits : item.size ≤ length bytes = (whole_inside limits bytes item.order item.message item.size f.0).1 in
    let joined : drop item.size (bytes ++ more) ≡ drop item.size bytes ++ more = drop-append-le item.size bytes more fits in (
      whole_for_good limits bytes more item.order item.message item.size f.0,
      subst (λ l. BeginWith limits l items (rest ++ more)) (sym joined) (BeginWith-more limits (drop item.size bytes) items rest more f.1),
    )

-- a rest after which no message comes begins with none
no_message : (limits : Limits) (rest : List ℕ) (item : CutMessage) (outcome : CutOutcome) → IsOutcome limits rest outcome → IsWhole limits rest item.order item.message item.size → ⊥
no_message limits rest item Ended o w = (one_outcome limits rest).1 item.order item.message item.size w (subst (λ l. IsPartial limits l) (sym o) (nothing_partial limits))
no_message limits rest item Unfinished o w = (one_outcome limits rest).1 item.order item.message item.size w o.1
no_message limits rest item (Refused fault) o w = not_both limits rest item.order item.message item.size fault w o

same_item : (a b : CutMessage) → a.order ≡ b.order → a.message ≡ b.message → a.size ≡ b.size → a ≡ b
same_item a b p q r = λ i. record { order = p i; message = q i; size = r i }

-- messages that were cut off are the first of all
pub BeginWith-first : (limits : Limits) (bytes : List ℕ) (items all : List CutMessage) (mid rest : List ℕ) (outcome : CutOutcome) → BeginWith limits bytes items mid → BeginWith limits bytes all rest
    → IsOutcome limits rest outcome → (more : List CutMessage) × (all ≡ items ++ more) × BeginWith limits mid more rest
BeginWith-first limits bytes [] all mid rest outcome f g o = (all, refl, subst (λ l. BeginWith limits l all rest) f g)
BeginWith-first limits bytes (item ∷ items) [] mid rest outcome f g o =
    absurd (no_message limits rest item outcome o (subst (λ l. IsWhole limits l item.order item.message item.size) g f.0))
BeginWith-first limits bytes (item ∷ items) (first ∷ all) mid rest outcome f g o =
    let one = one_whole limits bytes item.order first.order item.message first.message item.size first.size f.0 g.0 in
    let same : first ≡ item = same_item first item (sym one.0) (sym one.1) (sym one.2) in
    let there : BeginWith limits (drop item.size bytes) all rest = subst (λ (x : CutMessage). BeginWith limits (drop x.size bytes) all rest) same g.1 in
    let more = BeginWith-first limits (drop item.size bytes) items all mid rest outcome f.1 there o in
    (more.0, ap (λ (x : CutMessage). x ∷ all) same ∙ ap (λ l. item ∷ l) more.1, more.2)

refused_some : (limits : Limits) (rest : List ℕ) (fault : Fault) → IsRefused limits rest fault → rest ≡ [] → ⊥
refused_some limits rest fault r e = (one_outcome limits rest).2 fault r (subst (λ l. IsPartial limits l) (sym e) (nothing_partial limits))

-- the outcome of a rest is one
outcome_one : (limits : Limits) (rest : List ℕ) (a b : CutOutcome) → IsOutcome limits rest a → IsOutcome limits rest b → a ≡ b
outcome_one limits rest Ended Ended p q = refl
outcome_one limits rest Ended Unfinished p q = absurd (q.0 p)
outcome_one limits rest Ended (Refused f) p q = absurd (refused_some limits rest f q p)
outcome_one limits rest Unfinished Ended p q = absurd (p.0 q)
outcome_one limits rest Unfinished Unfinished p q = refl
outcome_one limits rest Unfinished (Refused f) p q = absurd ((one_outcome limits rest).2 f q p.1)
outcome_one limits rest (Refused f) Ended p q = absurd (refused_some limits rest f p q)
outcome_one limits rest (Refused f) Unfinished p q = absurd ((one_outcome limits rest).2 f p q.1)
outcome_one limits rest (Refused f) (Refused g) p q = ap Refused (one_fault limits rest f g p q)

-- bytes are cut in one way
pub IsCut-one : (limits : Limits) (bytes : List ℕ) (xs ys : List CutMessage) (r s : List ℕ) (a b : CutOutcome) → IsCut limits bytes xs r a → IsCut limits bytes ys s b → (xs ≡ ys) × (r ≡ s) × (a ≡ b)
IsCut-one limits bytes xs ys r s a b c d =
    let first = BeginWith-first limits bytes xs ys r s b c.messages d.messages d.outcome_is in
    go first.0 first.1 first.2
  where
    go : (more : List CutMessage) → ys ≡ xs ++ more → BeginWith limits r more s → (xs ≡ ys) × (r ≡ s) × (a ≡ b)
    go [] e f = (sym (e ∙ append-nil xs), f, outcome_one limits r a b c.outcome_is (subst (λ l. IsOutcome limits l b) (sym f) d.outcome_is))
    go (item ∷ more) e f = absurd (no_message limits r item a c.outcome_is f.0)

-- the messages of a prefix are the first of all
pub IsCut-front : (limits : Limits) (a b : List ℕ) (xs ys : List CutMessage) (r s : List ℕ) (p q : CutOutcome) → IsCut limits a xs r p → IsCut limits (a ++ b) ys s q → (more : List CutMessage) × (ys ≡ xs ++ more)
IsCut-front limits a b xs ys r s p q c d =
    let first = BeginWith-first limits (a ++ b) xs ys (r ++ b) s q (BeginWith-more limits a xs r b c.messages) d.messages d.outcome_is in
    (first.0, first.1)

IsBytes-drop : (n : ℕ) (bytes : List ℕ) → IsBytes bytes → IsBytes (drop n bytes)
IsBytes-drop zero bytes b = b
IsBytes-drop (suc n) [] b = b
IsBytes-drop (suc n) (x ∷ xs) b = IsBytes-drop n xs b.1

cut_here : (limits : Limits) (bytes : List ℕ) (outcome : CutOutcome) → IsOutcome limits bytes outcome → HasCut limits bytes
cut_here limits bytes outcome o = ([], bytes, outcome, record { messages = refl; outcome_is = o })

cut_unfinished : (limits : Limits) (bytes : List ℕ) → IsPartial limits bytes → HasCut limits bytes
cut_unfinished limits [] p = cut_here limits [] Ended refl
cut_unfinished limits (x ∷ xs) p = cut_here limits (x ∷ xs) Unfinished ((λ e. cc), p)

cut_after : (limits : Limits) (bytes : List ℕ) (item : CutMessage) → IsWhole limits bytes item.order item.message item.size → HasCut limits (drop item.size bytes) → HasCut limits bytes
cut_after limits bytes item w h = (item ∷ h.0, h.1, h.2, record { messages = (w, h.3.messages); outcome_is = h.3.outcome_is })

cut_within : (limits : Limits) (n : ℕ) (bytes : List ℕ) → length bytes ≤ n → IsBytes bytes → HasCut limits bytes
cut_within limits zero bytes few b = cut_empty bytes (omega arith)
  where
    cut_empty : (bytes : List ℕ) → length bytes ≡ 0 → HasCut limits bytes
    cut_empty [] e = cut_here limits [] Ended refl
    cut_empty (x ∷ xs) e = absurd (omega arith)
cut_within limits (suc n) bytes few b = elim (some_outcome limits bytes b) [
  | inl w ↦
      let some : 0 < w.2 = (whole_inside limits bytes w.0 w.1 w.2 w.3).0 in
      let fits : w.2 ≤ length bytes = (whole_inside limits bytes w.0 w.1 w.2 w.3).1 in
      let fewer : length (drop w.2 bytes) ≤ n = omega (arith, length-drop w.2 bytes, some, fits, few) in
      cut_after limits bytes (record { order = w.0; message = w.1; size = w.2 }) w.3 (cut_within limits n (drop w.2 bytes) fewer (IsBytes-drop w.2 bytes b))
  | inr other ↦ elim other [
    | inl r ↦ cut_here limits bytes (Refused r.0) r.1
    | inr p ↦ cut_unfinished limits bytes p
  ]
]

-- each list of bytes has a cut
pub IsCut-exists : (limits : Limits) (bytes : List ℕ) → IsBytes bytes → HasCut limits bytes
IsCut-exists limits bytes b = cut_within limits (length bytes) bytes (omega arith) b

-- Lists of bytes that are kept in parts.

-- what is left of a part, where some of it was taken
pub left_of : (buffer : List ℕ) (start end taken : ℕ) → drop taken (slice_range buffer start end) ≡ slice_range buffer (start + taken) end
left_of buffer start end taken = ap (drop taken) (between_is buffer start end) ∙ (drop-drop taken start (take end buffer) ∙ sym (between_is buffer (start + taken) end))

-- two parts, one after the other
joined : (buffer : List ℕ) (start mid end : ℕ) → start ≤ mid → mid ≤ end → slice_range buffer start mid ++ slice_range buffer mid end ≡ slice_range buffer start end
joined buffer start mid end before after =
    let front = take end buffer in
    ap (λ l. l ++ slice_range buffer mid end) (between_is buffer start mid ∙ (ap (drop start) (sym (take-take mid end buffer after)) ∙ sym (between_is front start mid)))
    ∙ (ap (λ l. slice_range front start mid ++ l) (between_is buffer mid end) ∙ (sym (drop_split front start mid before) ∙ sym (between_is buffer start end)))

-- a part that ends where it begins
pub no_part : (buffer : List ℕ) (start end : ℕ) → start ≡ end → slice_range buffer start end ≡ []
no_part buffer start end same =
    let none : end - start ≡ 0 = omega (arith, same) in
    ap (λ k. take k (drop start buffer)) none

-- what is left after a message that ends in the part after the bytes held
pub left_after : (held buffer : List ℕ) (start end taken : ℕ) → slice_range buffer (start + taken) end ≡ drop (length held + taken) (held ++ slice_range buffer start end)
left_after held buffer start end taken =
    sym (left_of buffer start end taken) ∙ (ap (drop taken) (sym (drop_at held (slice_range buffer start end) (length held) refl)) ∙ drop-drop taken (length held) (held ++ slice_range buffer start end))

-- the first bytes of a part
pub front_of : (buffer : List ℕ) (start end n : ℕ) → start + n ≤ end → slice_range buffer start (start + n) ≡ take n (slice_range buffer start end)
front_of buffer start end n within =
    let front : (start + n) - start ≡ n = omega arith in
    ap (λ k. take k (drop start buffer)) front ∙ sym (take-take n (end - start) (drop start buffer) (omega (arith, within)))

-- a part has as many bytes as lie between its ends
pub part_size : (buffer : List ℕ) (start end : ℕ) → start ≤ end → end ≤ length buffer → length (slice_range buffer start end) ≡ end - start
part_size buffer start end ordered inside =
    let left = length-drop start buffer in
    length-take-le (end - start) (drop start buffer) (omega (arith, left, ordered, inside))

module _ (held buffer : List ℕ) (start end : ℕ) where
  -- what is left of a buffer, and a part before it, where nothing is held then
  pub kept_again : (lent : ℕ) → lent ≤ start → start ≤ end → (0 < lent → held ≡ [])
      → held ++ slice_range buffer (start - lent) end ≡ slice_range buffer (start - lent) start ++ (held ++ slice_range buffer start end)
  kept_again zero before ordered alone =
      let same : start - 0 ≡ start = omega arith in
      ap (λ k. held ++ slice_range buffer k end) same ∙ sym (ap (λ l. l ++ (held ++ slice_range buffer start end)) (no_part buffer (start - 0) start same))
  kept_again (suc n) before ordered alone =
      let none = alone (omega arith) in
      let first = start - suc n in
      ap (λ l. l ++ slice_range buffer first end) none
      ∙ (sym (joined buffer first start end (omega arith) ordered) ∙ ap (λ l. slice_range buffer first start ++ (l ++ slice_range buffer start end)) (sym none))
