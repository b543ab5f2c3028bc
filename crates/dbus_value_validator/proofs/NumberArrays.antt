-- Arrays of numbers that may all stand: they end where their bytes are those of whole numbers.
use Rattle.std.proofs.Common.{◌≡◌, ℕ, zero, suc, ◌+◌, ◌-◌, ◌*◌, ◌/◌, ◌%◌, ◌<◌, ◌≤◌, List, [], ◌∷◌, length, take, drop, refl, Some, None, Bool, true, false, cond, eqb, inl, inr, sym, ap, ◌∙◌, arith, ◌++◌, subst}
use Rattle.std.proofs.Math.Nat.{add-mod_right, add-mod-mod, mul-add-mod_self_left, mod_self, mod-eq_of_lt}
use Rattle.std.proofs.lemmas.Bool.{lt-ltb, eq-eqb, ne_eqb, cases_lt}
use Rattle.std.specs.List.{AllByRecursion}
use Rattle.std.specs.Int.{IsInRange}
use Rattle.std.proofs.lemmas.List.{drop-drop, drop-take}
use Rattle.std.proofs.Math.Seq.{take-add}
use Rattle.dbus_texts.specs.Types.{TypeTree, NumberCode, NumberType, BOOLEAN}
use Rattle.dbus_types.specs.Alignments.{width}
use Rattle.dbus_value_model.specs.declared.limits.Bounds.{Bounds}
use Rattle.dbus_value_model.specs.declared.order.Order.{Order}
use Rattle.dbus_value_model.specs.Bytes.{gap_to}
use Rattle.dbus_value_model.specs.Values.{ValueTree, NumberValue}
use Rattle.dbus_value_model.specs.ValueItems.{number_row}
use Rattle.dbus_value_model.specs.Reading.{Reader, Done, up_to, contents, value, number_of}
use Rattle.dbus_value_model.proofs.FreeNumbers.{FreeType}
use Rattle.dbus_value_laws.proofs.ReadSteps.{padding_is}
use Rattle.dbus_value_laws.proofs.ValueSteps.{value_number, no_turn}
use Rattle.dbus_texts.proofs.WordBlocks.{plain_append}
use Rattle.dbus_value_validator.specs.Endings.{Answers, EndsAt, IsNotRead}
use Rattle.dbus_value_validator.proofs.ReadParts.{not_first, answers_made}
use Rattle.dbus_value_validator.proofs.ItemSteps.{is_number, free_ends, number_short, is_boolean}

-- a number of w bytes ends at a boundary of its own
pub stays_aligned : (w o : ℕ) → gap_to w o ≡ 0 → gap_to w (o + w) ≡ 0
unfolding gap_to
stays_aligned w o h = rw (add-mod_right o w) h

-- padding ends at one
pub comes_aligned : (w o : ℕ) → 0 < w → gap_to w (o + gap_to w o) ≡ 0
unfolding gap_to
comes_aligned w o some =
    let next : o + (w - o % w) ≡ w * (o / w) + w = omega arith in
    let ends : (o + (w - o % w) % w) % w ≡ 0 = add-mod-mod o (w - o % w) w ∙ ap (λ (n : ℕ). n % w) next ∙ mul-add-mod_self_left w (o / w) w ∙ mod_self w in
    let all : w - 0 ≡ w = omega arith in
    rw (ends, all) (mod_self w)

module _ (part : Reader ValueTree) (bytes : List ℕ) (first end w : ℕ) (some : 0 < w)
    (here : (p : ℕ) → first ≤ p → gap_to w p ≡ 0 → p + w ≤ end → EndsAt bytes (p + w) (part p (drop p bytes)))
    (past : (p : ℕ) → gap_to w p ≡ 0 → p ≤ end → end < p + w → IsNotRead (part p (drop p bytes))) where
  -- they end where their bytes are those of whole numbers
  abbrev Wholly : (turns p : ℕ) (before : List ValueTree) (even : Bool) → Type 0
  Wholly turns p before even = eqb ((end - p) % w) 0 ≡ even → Answers bytes (cond even (Some end) None) (up_to turns end (λ before. part) before p (drop p bytes))

  ends_here : (turns p : ℕ) (before : List ValueTree) (even : Bool) → p ≡ end → Wholly turns p before even
  ends_here turns p before even e is =
      let none : (end - p) % w ≡ 0 = omega arith in
      let yes : even ≡ true = sym is ∙ eq-eqb _ 0 none in
      rw yes ([], no_turn (λ before. part) end before turns p (drop p bytes) e ∙ ap (λ (q : ℕ). Done [] q (drop q bytes)) e)

  run : (turns p : ℕ) (before : List ValueTree) (even : Bool) → first ≤ p → p ≤ end → end ≤ p + turns → gap_to w p ≡ 0 → Wholly turns p before even
  run zero p before even from le few aligned is = ends_here zero p before even (omega arith) is
  run (suc turns) p before even from le few aligned is =
      elim (cases_lt p end) [
        | inr none ↦ ends_here (suc turns) p before even (omega arith) is
        | inl more ↦
            elim (cases_lt end (p + w)) [
              | inl short ↦
                  let odd : even ≡ false = sym is ∙ ne_eqb _ 0 (λ e. absurd (omega (arith, e, mod-eq_of_lt {n = end - p} {m = w} (omega arith)))) in
                  rw (odd, lt-ltb p end more) (not_first (part p (drop p bytes)) _ (past p aligned le short))
              | inr fits ↦
                  let one = here p from aligned fits in
                  let same : (end - p) % w ≡ (end - (p + w)) % w = ap (λ (n : ℕ). n % w) (sooner p fits) ∙ add-mod_right (end - (p + w)) w in
                  let rest = run turns (p + w) (one.0 ∷ before) even (omega (arith, from)) fits (omega arith) (stays_aligned w p aligned) (rw (← same) is) in
                  rw (lt-ltb p end more, one.1) (answers_made bytes (cond even (Some end) None) (up_to turns end (λ before. part) (one.0 ∷ before) (p + w) (drop (p + w) bytes)) (λ vs. one.0 ∷ vs) rest)
            ]
      ]
    where
      sooner : (p : ℕ) → p + w ≤ end → end - p ≡ end - (p + w) + w
      sooner p h = omega arith

-- a number that its rows let stand ends after its bytes
number_ends : (bounds : Bounds) (order : Order) (depth_left end : ℕ) (k : NumberCode) (w p : ℕ) (bytes : List ℕ) → width k ≡ w → number_row bounds.fds k (p + w) (number_of order (take w (drop p bytes))) ≡ None → gap_to w p ≡ 0 → p + w ≤ end → end ≤ length bytes
    → EndsAt bytes (p + w) (value bounds order depth_left end (NumberType k) p (drop p bytes))
number_ends bounds order depth_left end k w p bytes wide free aligned fits inside =
    let n = number_of order (take w (drop p bytes)) in
    let run = value_number bounds order depth_left end k p (drop p bytes) ∙ is_number bounds.fds order end k w p (drop p bytes) wide in
    (NumberValue k n, free_ends order end w (number_row bounds.fds k) k p bytes _ run p (padding_is w end p 0 (drop p bytes) aligned (omega arith)) n fits inside refl free)

-- the elements of an array of n bytes, which are numbers that may all stand, end with them where
-- these are those of whole numbers, and else are not read
pub number_elements : (bounds : Bounds) (order : Order) (depth_left : ℕ) (k : NumberCode) (w n first : ℕ) (bytes : List ℕ) (even : Bool) → 0 < w → width k ≡ w
    → ((p : ℕ) → first ≤ p → gap_to w p ≡ 0 → p + w ≤ first + n → number_row bounds.fds k (p + w) (number_of order (take w (drop p bytes))) ≡ None)
    → eqb (n % w) 0 ≡ even → gap_to w first ≡ 0 → first + n ≤ length bytes
    → Answers bytes (cond even (Some (first + n)) None) (contents n (λ end before. value bounds order depth_left end (NumberType k)) first (drop first bytes))
number_elements bounds order depth_left k w n first bytes even some wide free is aligned inside =
    let end = first + n in
    let size : end - first ≡ n = omega arith in
    run (value bounds order depth_left end (NumberType k)) bytes first end w some
    (λ p from h fits. number_ends bounds order depth_left end k w p bytes wide (free p from h fits) h fits inside)
    (λ p h le short.
    number_short order end w (number_row bounds.fds k) k p bytes _ (value_number bounds order depth_left end k p (drop p bytes) ∙ is_number bounds.fds order end k w p (drop p bytes) wide) p (padding_is w end p 0 (drop p bytes) h (omega arith)) short)
    n first [] even (omega arith) (omega arith) (omega arith) aligned (rw size is)

-- of a type of which every number may stand
pub free_elements : (bounds : Bounds) (order : Order) (depth_left : ℕ) (t : TypeTree) (w n at first : ℕ) (bytes : List ℕ) (even : Bool) → 0 < w → FreeType t w → eqb (n % w) 0 ≡ even → first ≡ at + gap_to w at → first + n ≤ length bytes
    → Answers bytes (cond even (Some (first + n)) None) (contents n (λ end before. value bounds order depth_left end t) first (drop first bytes))
free_elements bounds order depth_left t w n at first bytes even some free is begins inside =
    rw free.is (number_elements bounds order depth_left free.code w n first bytes even some free.wide (λ p from h fits. free.free bounds.fds (p + w) (number_of order (take w (drop p bytes)))) is (ap (gap_to w) begins ∙ comes_aligned w at some) inside)

-- ---- booleans

pub words_begin : (at first w : ℕ) → w ≡ 4 → first ≡ at + gap_to w at → gap_to 4 first ≡ 0
words_begin at first w wide begins = ap (gap_to 4) (begins ∙ ap (λ (b : ℕ). at + gap_to b at) wide) ∙ comes_aligned 4 at (omega arith)

-- one word more that is 0 or 1
pub words_more : (order : Order) (bytes : List ℕ) (at place : ℕ) → gap_to 4 place ≡ 0 → ((p : ℕ) → at ≤ p → gap_to 4 p ≡ 0 → p + 4 ≤ place → number_of order (take 4 (drop p bytes)) ≤ 1)
    → number_of order (take 4 (drop place bytes)) ≤ 1 → (p : ℕ) → at ≤ p → gap_to 4 p ≡ 0 → p + 4 ≤ place + 4 → number_of order (take 4 (drop p bytes)) ≤ 1
unfolding gap_to
words_more order bytes at place aligned few last p from h le =
    elim (cases_lt p place) [
      | inl less ↦ few p from h (omega (arith, aligned, h, less))
      | inr most ↦ let same : p ≡ place = omega (arith, most, le) in rw same last
    ]

-- from a boundary up to another
wholly : (first n : ℕ) → gap_to 4 first ≡ 0 → gap_to 4 (first + n) ≡ 0 → n % 4 ≡ 0
unfolding gap_to
wholly first n begins ends = omega (arith, begins, ends)

pub boolean_elements : (bounds : Bounds) (order : Order) (depth_left : ℕ) (n first : ℕ) (bytes : List ℕ) → gap_to 4 first ≡ 0 → gap_to 4 (first + n) ≡ 0 → first + n ≤ length bytes
    → ((p : ℕ) → first ≤ p → gap_to 4 p ≡ 0 → p + 4 ≤ first + n → number_of order (take 4 (drop p bytes)) ≤ 1)
    → EndsAt bytes (first + n) (contents n (λ end before. value bounds order depth_left end (NumberType BOOLEAN)) first (drop first bytes))
boolean_elements bounds order depth_left n first bytes begins ends inside few =
    number_elements bounds order depth_left BOOLEAN 4 n first bytes true (omega arith) refl (λ p from h fits. is_boolean bounds.fds (p + 4) (number_of order (take 4 (drop p bytes))) (few p from h fits))
    (eq-eqb _ 0 (wholly first n begins ends)) begins inside

-- one of them
pub boolean_ends : (bounds : Bounds) (order : Order) (depth_left end p : ℕ) (bytes : List ℕ) → gap_to 4 p ≡ 0 → p + 4 ≤ end → end ≤ length bytes → number_of order (take 4 (drop p bytes)) ≤ 1 → EndsAt bytes (p + 4) (value bounds order depth_left end (NumberType BOOLEAN) p (drop p bytes))
boolean_ends bounds order depth_left end p bytes aligned fits inside few = number_ends bounds order depth_left end BOOLEAN 4 p bytes refl (is_boolean bounds.fds (p + 4) (number_of order (take 4 (drop p bytes))) few) aligned fits inside

-- Bytes from 1 to 127, block by block.

abbrev pub ArePlain : List ℕ → Type 0
ArePlain w = AllByRecursion (IsInRange 1 127) w

module _ (bytes : List ℕ) (start at : ℕ) (begun : start ≤ at) (before : ArePlain (take (at - start) (drop start bytes))) where
  -- n bytes more
  pub plain_more : (n : ℕ) → ArePlain (take n (drop at bytes)) → ArePlain (take (at + n - start) (drop start bytes))
  plain_more n more =
      let far : start + (at - start) ≡ at = omega arith in
      let long : at - start + n ≡ at + n - start = omega arith in
      let rest : drop (at - start) (drop start bytes) ≡ drop at bytes = drop-drop (at - start) start bytes ∙ ap (λ (i : ℕ). drop i bytes) far in
      let split : take (at - start + n) (drop start bytes) ≡ take (at - start) (drop start bytes) ++ take n (drop at bytes) = take-add (at - start) n (drop start bytes) ∙ ap (λ (l : List ℕ). take (at - start) (drop start bytes) ++ take n l) rest in
      subst (λ (i : ℕ). ArePlain (take i (drop start bytes))) long (subst ArePlain (sym split) (plain_append _ _ before more))

  -- the last block, which ends with the bytes
  pub plain_last : (end last : ℕ) → at ≤ end → end - at ≤ 16 → end ≡ last + 16 → ArePlain (drop (at - last) (take 16 (drop last bytes))) → ArePlain (take (end - start) (drop start bytes))
  plain_last end last le few is block =
      let far : last + (at - last) ≡ at = omega arith in
      let long : at - last + (end - at) ≡ 16 = omega arith in
      let all : at + (end - at) - start ≡ end - start = omega arith in
      let same : drop (at - last) (take 16 (drop last bytes)) ≡ take (end - at) (drop at bytes) = ap (λ (i : ℕ). drop (at - last) (take i (drop last bytes))) (sym long) ∙ drop-take (at - last) (end - at) (drop last bytes) ∙ ap (take (end - at)) (drop-drop (at - last) last bytes ∙ ap (λ (i : ℕ). drop i bytes) far) in
      subst (λ (i : ℕ). ArePlain (take i (drop start bytes))) all (plain_more (end - at) (subst ArePlain same block))
