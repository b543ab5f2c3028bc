-- The length that the first sixteen bytes state.
use Rattle.std.proofs.Common.{◌≡◌, ℕ, zero, suc, ◌+◌, ◌<◌, ◌≤◌, ◌⊎◌, List, [], ◌∷◌, ◌++◌, length, take, drop, Bool, true, false, cond, eqb, Option, Some, None, refl, sym, ap, subst, ◌∙◌, arith, inl, inr}
use Rattle.std.proofs.lemmas.Bool.{cases_lt, lt-ltb, le-ltb}
use Rattle.std.proofs.lemmas.List.{length-drop}
use Rattle.dbus_value_model.specs.declared.limits.Limits.{Limits}
use Rattle.dbus_value_model.specs.declared.order.Order.{Order}
use Rattle.dbus_value_model.specs.declared.fault.Fault.{Fault}
use Rattle.dbus_value_model.specs.declared.fault.Reason.{Reason}
use Rattle.dbus_value_model.specs.declared.fault.Reason.TheVariants as reasons
use Rattle.dbus_value_model.specs.ByteNumbers.{IsBytes}
use Rattle.dbus_value_model.specs.Items.{fault, no_row}
use Rattle.dbus_value_model.specs.declared.order.Order.TheVariants.{Little, Big}
use Rattle.dbus_value_model.specs.Reading.{Reader, Outcome, Done, Faulty, Partial, after, validated, pure, number, number_of, ◌>>=◌}
use Rattle.dbus_value_laws.proofs.Agreement.{read_passes}
use Rattle.dbus_value_laws.proofs.ValueItemLaws.{agreed_value}
use Rattle.dbus_header.specs.MessageItems.{not_zero_row, version_row, fields_row, fixed_items}
use Rattle.dbus_header.specs.HeaderReading.{byte_order, opening, fixed_header, message_read}
use Rattle.dbus_header.specs.MessageOutcomes.{IsWhole, IsRefused, IsPartial}
use Rattle.dbus_header.specs.StatedLengths.{length_by, StatesLength, StatedHolds, WholeStates, OneStated, SomeStated}
use Rattle.dbus_header.specs.declared.fixed_header.FixedHeader.{FixedHeader}
use Rattle.dbus_header.proofs.Decoded.{refused_read, partial_read}
use Rattle.dbus_header.proofs.MessageParts.{Agrees-fixed}
use Rattle.dbus_header.proofs.OutcomeLaws.{whole_inside}
use Rattle.dbus_header.proofs.Whole.{after_fixed, header_of, header_length, fixed_passed}

-- ---- how many bytes a reader takes

-- w bytes, and it wants more only if fewer are there
abbrev Took : {A : Type 0} → ℕ → ℕ → List ℕ → Outcome A → Type 0
Took w o s (Done x q r) = (q ≡ o + w) × (length s ≡ w + length r)
Took w o s (Faulty f) = Unit {0}
Took w o s Partial = length s < w

abbrev Takes : {A : Type 0} → ℕ → Reader A → Type 0
Takes w read = (o : ℕ) (s : List ℕ) → Took w o s (read o s)

takes_then : {A B : Type 0} (v w : ℕ) (first : Reader A) (next : A → Reader B) → Takes v first → ((x : A) → Takes w (next x)) → Takes (v + w) (first >>= next)
takes_then {A} {B} v w first next one two o s = by_first (first o s) (one o s)
  where
    by_next : (p : ℕ) (t : List ℕ) → p ≡ o + v → length s ≡ v + length t → (read : Outcome B) → Took w p t read → Took (v + w) o s read
    by_next p t at long (Done y q r) h = (omega (arith, h.0), omega (arith, h.1))
    by_next p t at long (Faulty f) h = tt
    by_next p t at long Partial h = omega arith

    by_first : (read : Outcome A) → Took v o s read → Took (v + w) o s (after read next)
    by_first (Done x p t) h = by_next p t h.0 h.1 (next x p t) (two x p t)
    by_first (Faulty f) h = tt
    by_first Partial h = omega arith

takes_none : {A : Type 0} (x : A) → Takes 0 (pure x)
takes_none x o s = (omega arith, omega arith)

takes_order : Takes 1 byte_order
unfolding byte_order
takes_order o [] = omega arith
takes_order o (b ∷ s) = by_byte (eqb b 108) (eqb b 66)
  where
    by_byte : (little big : Bool) → Took 1 o (b ∷ s) (cond little (Done Little (o + 1) s) (cond big (Done Big (o + 1) s) (Faulty (fault o reasons.ByteOrder))))
    by_byte true big = (refl, omega arith)
    by_byte false true = (refl, omega arith)
    by_byte false false = tt

takes_number : (order : Order) (w end : ℕ) (row : ℕ → ℕ → Option Reason) → Takes w (number order w end row)
unfolding number
takes_number order w end row o s = elim (cases_lt end (o + w)) [
  | inl lt ↦ rw (lt-ltb _ _ lt) tt
  | inr fits ↦ elim (cases_lt (length s) w) [
    | inl few ↦ rw (le-ltb _ _ fits, lt-ltb _ _ few) few
    | inr long ↦ rw (le-ltb _ _ fits, le-ltb _ _ long) (by_row long (number_of order (take w s)) (row (o + w) (number_of order (take w s))))
  ]
]
  where
    by_row : w ≤ length s → (n : ℕ) (found : Option Reason) → Took w o s (validated found n o (o + w) (drop w s))
    by_row long n None = (refl, omega (arith, length-drop w s))
    by_row long n (Some why) = tt

takes_open : (depth_left : ℕ) → Takes 0 (opening depth_left)
takes_open zero o s = tt
takes_open (suc depth_left) o s = (omega arith, omega arith)

takes_sixteen : (limits : Limits) → Takes 16 (fixed_header limits)
unfolding fixed_header
takes_sixteen limits =
    takes_then 1 15 byte_order _ takes_order (λ order.
    takes_then 1 14 (number order 1 16 (not_zero_row reasons.Kind)) _ (takes_number order 1 16 (not_zero_row reasons.Kind)) (λ kind.
    takes_then 1 13 (number order 1 16 no_row) _ (takes_number order 1 16 no_row) (λ flags.
    takes_then 1 12 (number order 1 16 version_row) _ (takes_number order 1 16 version_row) (λ version.
    takes_then 4 8 (number order 4 16 no_row) _ (takes_number order 4 16 no_row) (λ body.
    takes_then 4 4 (number order 4 16 (not_zero_row reasons.ZeroSerial)) _ (takes_number order 4 16 (not_zero_row reasons.ZeroSerial)) (λ serial.
    takes_then 0 4 (opening limits.depth) _ (takes_open limits.depth) (λ depth_left.
    takes_then 4 0 (number order 4 16 (fields_row limits body)) _ (takes_number order 4 16 (fields_row limits body)) (λ n.
    takes_none {A = FixedHeader} (record { order = order; kind = kind; flags = flags; body = body; serial = serial; fields = n })))))))))

-- ---- what the fixed header says of the length

module _ (limits : Limits) (b : List ℕ) (bytes : IsBytes b) where
  pub header_states : (h : FixedHeader) (q : ℕ) (rest : List ℕ) → fixed_header limits 0 b ≡ Done h q rest → StatesLength limits b (length_by h)
  unfolding StatesLength
  header_states h q rest e =
      let at = (subst (Took 16 0 b) e (takes_sixteen limits 0 b)).0 in
      (h, rest, subst (λ (p : ℕ). (fixed_items limits).Passed 0 b h p rest) at (read_passes (fixed_items limits) (fixed_header limits) (Agrees-fixed limits) 0 b bytes h q rest e), refl)

  pub header_refused : (f : Fault) → fixed_header limits 0 b ≡ Faulty f → IsRefused limits b f
  unfolding message_read
  header_refused f e = refused_read limits b bytes f (rw e refl)

  pub header_partial : fixed_header limits 0 b ≡ Partial → IsPartial limits b
  unfolding message_read
  header_partial e = partial_read limits b bytes (rw e refl)

pub header_faulty : (limits : Limits) (b : List ℕ) (f : Fault) → fixed_header limits 0 b ≡ Faulty f → (n : ℕ) → StatesLength limits b n → ⊥
unfolding StatesLength
header_faulty limits b f e n s = let done = (Agrees-fixed limits).passes 0 b s.0 16 s.1 s.2 in cc

pub header_short : (limits : Limits) (b : List ℕ) → fixed_header limits 0 b ≡ Partial → length b < 16
header_short limits b e = subst (Took 16 0 b) e (takes_sixteen limits 0 b)

-- ---- the laws

pub whole_states : WholeStates
unfolding IsWhole StatesLength
whole_states limits b order m n w =
    let long = header_length order m in
    let passed = fixed_passed limits order m w.1.0 w.0 in
    let tail = after_fixed order m w.1.0 in
    ((header_of order m, tail, subst (λ (s : List ℕ). (fixed_items limits).Passed 0 s (header_of order m) 16 tail) (sym w.1.1) passed, omega (arith, w.2)), omega (arith, w.2))

stated_more : (limits : Limits) (b c : List ℕ) (n : ℕ) → StatesLength limits b n → StatesLength limits (b ++ c) n
unfolding StatesLength
stated_more limits b c n s = (s.0, s.1 ++ c, (Agrees-fixed limits).passes_more c 0 b s.0 16 s.1 s.2, s.3)

stated_once : (limits : Limits) (b : List ℕ) (n k : ℕ) → StatesLength limits b n → StatesLength limits b k → k ≡ n
unfolding StatesLength
stated_once limits b n k s t = t.3 ∙ ap length_by (agreed_value (fixed_items limits) (fixed_header limits) (Agrees-fixed limits) 0 b t.0 16 t.1 s.0 16 s.1 t.2 s.2).0 ∙ sym s.3

pub one_stated : OneStated
one_stated limits b c n k s = let more = stated_more limits b c n s in (more, stated_once limits (b ++ c) n k more)

pub stated_holds : StatedHolds
stated_holds limits b c order m n k s w =
    let same = (one_stated limits b c n k s).1 (whole_states limits (b ++ c) order m k w).0 in
    let there = (whole_inside limits (b ++ c) order m k w).1 in
    (same, omega (arith, same, there))

some_read : (limits : Limits) (b : List ℕ) → IsBytes b → 16 ≤ length b → (read : Outcome FixedHeader) → fixed_header limits 0 b ≡ read → ((n : ℕ) × StatesLength limits b n) ⊎ ((f : Fault) × IsRefused limits b f)
some_read limits b bytes there (Done h q rest) e = inl (length_by h, header_states limits b bytes h q rest e)
some_read limits b bytes there (Faulty f) e = inr (f, header_refused limits b bytes f e)
some_read limits b bytes there Partial e = let few = header_short limits b e in absurd (omega (arith, there, few))

pub some_stated : SomeStated
some_stated limits b bytes there = some_read limits b bytes there (fixed_header limits 0 b) refl
