-- A suspended reading, one item and one byte further.
use Rattle.std.proofs.Common.{◌≡◌, ℕ, zero, suc, ◌+◌, ◌-◌, ◌<◌, ◌≤◌, List, [], ◌∷◌, ◌++◌, length, take, drop, Bool, true, false, cond, eqb, ltb, Option, refl, sym, ap, ◌∙◌, arith, Result, Ok, Err, append_assoc}
use Rattle.std.proofs.lemmas.Bool.{lt-ltb, le-ltb, eq-eqb}
use Rattle.std.proofs.lemmas.List.{take_at, drop_at, take_all, length-append, length-drop, take-append-drop}
use Rattle.std.proofs.Math.Seq.{take-append-add}
use Rattle.dbus_texts.specs.Types.{TypeTree, NumberType, TextType, VariantType, ArrayType, StructType, EntryType, TypeTrees, MoreTypes}
use Rattle.dbus_types.specs.Alignments.{alignment_of}
use Rattle.dbus_value_model.specs.WantedTexts.{WantedText}
use Rattle.dbus_value_model.specs.ComputedTexts.{is_kind, break_at}
use Rattle.dbus_value_model.specs.declared.limits.Bounds.{Bounds}
use Rattle.dbus_value_model.specs.declared.order.Order.{Order}
use Rattle.dbus_value_model.specs.Bytes.{gap_to}
use Rattle.dbus_value_model.specs.Values.{ValueTree}
use Rattle.dbus_value_model.specs.declared.fault.Reason.{Reason}
use Rattle.dbus_value_model.specs.declared.fault.Reason.TheVariants as reasons
use Rattle.dbus_value_model.specs.Items.{fault, text_reason}
use Rattle.dbus_value_model.specs.ValueItems.{array_row}
use Rattle.dbus_value_model.specs.Reading.{Reader, Outcome, Done, Faulty, Partial, after, zeros, padding, validated, number_of, number, text, up_to, items, value, pure}
use Rattle.dbus_value_laws.proofs.ReadSteps.{same_after, no_padding}
use Rattle.dbus_value_laws.proofs.KindLaws.{break_more, computed_whole}
use Rattle.dbus_value_model.specs.declared.stop.Stop.{Stop}
use Rattle.dbus_value_model.specs.declared.stop.Stop.TheVariants as stops
use Rattle.dbus_value_checker.specs.Suspended.{AnArray, On, onward, Work, Parts, Elements, elements, work, works, head, own, own_of, opened_by, done}
use Rattle.dbus_value_checker.specs.Fronts.{Halts, Fronts}

pub after_after : {A B C : Type 0} (r : Outcome A) (f : A → Reader B) (g : B → Reader C) → after (after r f) g ≡ after r (λ x o s. after (f x o s) g)
after_after (Done x p t) f g = refl
after_after (Faulty e) f g = refl
after_after Partial f g = refl

-- ---- containers

-- the contents of an array, with what follows them
at_stop : (w : Bool) (next : On) (o : ℕ) (s : List ℕ) → (let none : List ValueTree = [] in after (cond w (Done none o s) Partial) (λ vs. next)) ≡ cond w (next o s) Partial
at_stop true next o s = refl
at_stop false next o s = refl

at_turn : (w : Bool) (turns end : ℕ) (part : Reader ValueTree) (before : List ValueTree) (next : On) (o : ℕ) (s : List ℕ) (r : Outcome ValueTree)
    → ((v : ValueTree) (p : ℕ) (t : List ℕ) → after (up_to turns end (λ before. part) (v ∷ before) p t) (λ vs. next) ≡ elements turns end part next p t)
    → (let none : List ValueTree = [] in after (cond w (after r (λ v p t. after (up_to turns end (λ before. part) (v ∷ before) p t) (λ vs p t. Done (v ∷ vs) p t))) (cond (eqb o end) (Done none o s) Partial)) (λ vs. next))
    ≡ cond w (after r (λ v. elements turns end part next)) (cond (eqb o end) (next o s) Partial)
at_turn true turns end part before next o s (Done v p t) ih = after_after (up_to turns end (λ before. part) (v ∷ before) p t) (λ vs p t. Done (v ∷ vs) p t) (λ vs. next) ∙ ih v p t
at_turn true turns end part before next o s (Faulty f) ih = refl
at_turn true turns end part before next o s Partial ih = refl
at_turn false turns end part before next o s r ih = at_stop (eqb o end) next o s

pub elements_up_to : (turns end : ℕ) (part : Reader ValueTree) (before : List ValueTree) (next : On) (o : ℕ) (s : List ℕ) → after (up_to turns end (λ before. part) before o s) (λ vs. next) ≡ elements turns end part next o s
elements_up_to zero end part before next o s = at_stop (eqb o end) next o s
elements_up_to (suc turns) end part before next o s =
    at_turn (ltb o end) turns end part before next o s (part o s) (λ v p t. elements_up_to turns end part (v ∷ before) next p t)

-- of the same limits and byte order
pub works_as : (a b : Bounds) (n m : Order) → a ≡ b → n ≡ m → (last : On) (ws : List Work) (q : ℕ) (c : List ℕ) (r : Outcome (Unit {0})) → works b m last ws q c ≡ r → works a n last ws q c ≡ r
works_as a b n m e d last ws q c r h = rw (e, d) h

pub parts_more : (bounds : Bounds) (order : Order) (depth_left end : ℕ) (t : TypeTree) (ts : TypeTrees) (next : On) (o : ℕ) (s : List ℕ) → work bounds order (Parts depth_left end (MoreTypes t ts)) next o s ≡ onward (value bounds order depth_left end t) (work bounds order (Parts depth_left end ts) next) o s
parts_more bounds order depth_left end t ts next o s = simp after_after

pub elements_none : (bounds : Bounds) (order : Order) (turns depth_left end : ℕ) (t : TypeTree) (next : On) (o : ℕ) (s : List ℕ) → o ≡ end → work bounds order (Elements turns depth_left end t) next o s ≡ next o s
elements_none bounds order zero depth_left end t next o s h = rw (eq-eqb _ _ h) refl
elements_none bounds order (suc turns) depth_left end t next o s h = let le : end ≤ o = omega arith in rw (le-ltb _ _ le, eq-eqb _ _ h) refl

pub elements_more : (bounds : Bounds) (order : Order) (turns depth_left end : ℕ) (t : TypeTree) (next : On) (o : ℕ) (s : List ℕ) → o < end → work bounds order (Elements (suc turns) depth_left end t) next o s ≡ onward (value bounds order depth_left end t) (work bounds order (Elements turns depth_left end t) next) o s
elements_more bounds order turns depth_left end t next o s h = rw (lt-ltb _ _ h) refl

-- ---- padding

pub padding_zeros : {A : Type 0} (a end o : ℕ) (s : List ℕ) (next : Unit {0} → Reader A) → o + gap_to a o ≤ end → after (padding a end o s) next ≡ after (zeros (gap_to a o) o s) next
unfolding padding
padding_zeros a end o s next h = rw (le-ltb _ _ h, padding) refl

-- ---- a value begins

-- an array's elements after its length and its padding
module _ (bounds : Bounds) (order : Order) (end : ℕ) (next : On) where
  array_begins : (inner : ℕ) (t : TypeTree) (o : ℕ) (s : List ℕ) → onward (items bounds order (suc inner) (value bounds order inner) end (ArrayType t)) next o s ≡ after (padding 4 end o s) (λ x. head bounds order end (AnArray inner t) next)
  array_begins inner t o s =
      simp after_after (same_after (padding 4 end o s) _ _ (λ x p u. same_after (number order 4 end (array_row bounds t end) p u) _ _ (λ n q v. same_after (padding (alignment_of t) end q v) _ _ (λ x q v.
      elements_up_to n (q + n) (value bounds order inner (q + n) t) [] next q v))))

  pub variant_begins : (depth_left o : ℕ) (s : List ℕ) → onward (value bounds order depth_left end VariantType) next o s ≡ own bounds order end (own_of VariantType depth_left) next o s
  unfolding value
  variant_begins zero o s = refl
  variant_begins (suc inner) o s = simp after_after

  -- The law of a value: it begins with its padding, and goes on with its own item and the containers
  -- that it opens.
  begins : (depth_left : ℕ) (t : TypeTree) (o : ℕ) (s : List ℕ) → o ≤ end → onward (value bounds order depth_left end t) next o s ≡ after (padding (alignment_of t) end o s) (λ x. own bounds order end (own_of t depth_left) (works bounds order next (opened_by t depth_left end)))
  unfolding value
  begins zero (NumberType k) o s h = simp after_after
  begins (suc inner) (NumberType k) o s h = simp after_after
  begins zero (TextType k) o s h = simp after_after
  begins (suc inner) (TextType k) o s h = simp after_after
  begins depth_left VariantType o s h =
      variant_begins depth_left o s ∙ ap (λ (r : Outcome (Unit {0})). after r (λ x. own bounds order end (own_of VariantType depth_left) next)) (sym (no_padding end o s h))
  begins zero (ArrayType t) o s h = simp after_after
  begins (suc inner) (ArrayType t) o s h = array_begins inner t o s
  begins zero (StructType ts) o s h = simp after_after
  begins (suc inner) (StructType ts) o s h = simp after_after
  begins zero (EntryType k v) o s h = simp after_after (same_after (padding 8 end o s) _ _ (λ x p u. sym (simp after_after)))
  begins (suc inner) (EntryType k v) o s h = simp after_after (same_after (padding 8 end o s) _ _ (λ x p u. sym (simp after_after)))

pub value_begins : (bounds : Bounds) (order : Order) (depth_left end : ℕ) (t : TypeTree) (o : ℕ) (s : List ℕ) (next : On) → o ≤ end → onward (value bounds order depth_left end t) next o s ≡ after (padding (alignment_of t) end o s) (λ x. own bounds order end (own_of t depth_left) (works bounds order next (opened_by t depth_left end)))
value_begins bounds order depth_left end t o s next h = begins bounds order end next depth_left t o s h

-- ---- a number

module _ (order : Order) (w end : ℕ) (row : ℕ → ℕ → Option Reason) where
  pub number_waits : (p : ℕ) (got : List ℕ) → length got < w → p + w ≤ end → number order w end row p got ≡ Partial
  unfolding number
  number_waits p got short fits = rw (le-ltb _ _ fits, lt-ltb _ _ short, number) refl

  pub number_over : (p : ℕ) (s : List ℕ) → end < p + w → number order w end row p s ≡ Faulty (fault p reasons.Overrun)
  unfolding number
  number_over p s over = rw (lt-ltb _ _ over, number) refl

  pub number_read : (p : ℕ) (got c : List ℕ) → length got ≡ w → p + w ≤ end → number order w end row p (got ++ c) ≡ validated (row (p + w) (number_of order got)) (number_of order got) p (p + w) c
  unfolding number
  number_read p got c whole fits =
      let long : w ≤ length (got ++ c) = omega (arith, length-append got c) in
      let at : take w (got ++ c) ≡ got = take_at got c w whole in
      let left : drop w (got ++ c) ≡ c = drop_at got c w whole in
      rw (le-ltb _ _ fits, le-ltb _ _ long, at, left, number) refl

-- ---- a text

take-front : (xs ys : List ℕ) (n : ℕ) → length xs ≤ n → take n (xs ++ ys) ≡ xs ++ take (n - length xs) ys
take-front xs ys n h =
    let e : length xs + (n - length xs) ≡ n = omega arith in
    ap (λ (m : ℕ). take m (xs ++ ys)) (sym e) ∙ take-append-add xs ys (n - length xs)

module _ (k : WantedText) (n p : ℕ) where
  pub text_waits : (given : List ℕ) → length given < n → break_at k given ≡ length given → text k n p given ≡ Partial
  unfolding text
  text_waits given short whole =
      let all : take n given ≡ given = take_all n given (omega arith) in
      let le : length given ≤ break_at k given = omega arith in
      rw (all, le-ltb _ _ le, lt-ltb _ _ short, text) refl

  -- a text that is broken stays broken
  pub text_breaks : (given c : List ℕ) → length given ≤ n → break_at k given < length given → text k n p (given ++ c) ≡ Faulty (fault (p + break_at k given) (text_reason k))
  unfolding text
  text_breaks given c fits broken =
      let front : take n (given ++ c) ≡ given ++ take (n - length given) c = take-front given c n fits in
      let same : break_at k (given ++ take (n - length given) c) ≡ break_at k given = break_more k given (take (n - length given) c) broken in
      let long : break_at k given < length (given ++ take (n - length given) c) = omega (arith, length-append given (take (n - length given) c)) in
      rw (front, same, lt-ltb _ _ long, text) refl

  text_at : (given c : List ℕ) → length given ≡ n → break_at k given ≡ length given → (w : Bool) → is_kind k given ≡ w → text k n p (given ++ c) ≡ cond w (Done given (p + n) c) (Faulty (fault (p + break_at k given) (text_reason k)))
  unfolding text
  text_at given c len whole w is =
      let at : take n (given ++ c) ≡ given = take_at given c n len in
      let left : drop n (given ++ c) ≡ c = drop_at given c n len in
      let le : length given ≤ break_at k given = omega arith in
      let long : n ≤ length (given ++ c) = omega (arith, length-append given c) in
      rw (at, left, le-ltb _ _ le, le-ltb _ _ long, is, text) refl

  pub text_ends : (given c : List ℕ) → length given ≡ n → is_kind k given ≡ true → text k n p (given ++ c) ≡ Done given (p + n) c
  text_ends given c len is = text_at given c len (computed_whole k given is) true is

  pub text_not : (given c : List ℕ) → length given ≡ n → break_at k given ≡ length given → is_kind k given ≡ false → text k n p (given ++ c) ≡ Faulty (fault (p + break_at k given) (text_reason k))
  text_not given c len whole is = text_at given c len whole false is

-- Fronts, one after another.

pub take-both : (i j : ℕ) (s c : List ℕ) → i ≤ length s → take (i + j) s ++ c ≡ take i s ++ (take j (drop i s) ++ c)
take-both zero j s c h = let e : 0 + j ≡ j = omega arith in ap (λ (k : ℕ). take k s ++ c) e
take-both (suc i) j [] c h = absurd (omega arith)
take-both (suc i) j (b ∷ s) c h = let e : suc i + j ≡ suc (i + j) = omega arith in ap (λ (k : ℕ). take k (b ∷ s) ++ c) e ∙ ap (λ (l : List ℕ). b ∷ l) (take-both i j s c (omega arith))

pub split-at : (i : ℕ) (s c : List ℕ) → s ++ c ≡ take i s ++ (drop i s ++ c)
split-at i s c = ap (λ (t : List ℕ). t ++ c) (sym (take-append-drop i s)) ∙ append_assoc (take i s) (drop i s) c

-- readers that answer alike there
pub halts_same : {A : Type 0} (o : ℕ) (s : List ℕ) (e : Stop) (run other : Reader A) → ((s : List ℕ) → run o s ≡ other o s) → Halts o s e run → Halts o s e other
halts_same o s stops.Partial run other same h = sym (same s) ∙ h
halts_same o s (stops.Refused f) run other same h = λ c. sym (same (s ++ c)) ∙ h c

pub fronts_same : {X A : Type 0} (v : X → A × ℕ) (o : ℕ) (s : List ℕ) (r : Result X Stop) (run other : Reader A) → ((s : List ℕ) → run o s ≡ other o s) → Fronts v o s r run → Fronts v o s r other
fronts_same v o s (Ok x) run other same h = (h.0, λ c. sym (same (take (v x).1 s ++ c)) ∙ h.1 c)
fronts_same v o s (Err e) run other same h = halts_same o s e run other same h

-- the first stops
pub first_err : {A B : Type 0} (o : ℕ) (s : List ℕ) (run : Reader A) (next : A → Reader B) (e : Stop) → Halts o s e run → Halts o s e (λ o s. after (run o s) next)
first_err o s run next stops.Partial h = ap (λ (r : Outcome _). after r next) h
first_err o s run next (stops.Refused f) h = λ c. ap (λ (r : Outcome _). after r next) (h c)

module _ {X A B : Type 0} (v : X → A × ℕ) (o : ℕ) (s : List ℕ) (run : Reader A) (next : A → Reader B) (x : X) (first : Fronts v o s (Ok x) run) (rest : List ℕ) (rest_is : rest ≡ drop (v x).1 s) where
  -- the first is passed, and the second stops
  pub then_err : (e : Stop) → Halts (o + (v x).1) rest e (next (v x).0) → Halts o s e (λ o s. after (run o s) next)
  then_err stops.Partial h = ap (λ (t : List ℕ). after (run o t) next) (sym (take-append-drop (v x).1 s)) ∙ ap (λ (r : Outcome _). after r next) (first.1 (drop (v x).1 s)) ∙ ap (next (v x).0 (o + (v x).1)) (sym rest_is) ∙ h
  then_err (stops.Refused f) h = λ c.
      ap (λ (t : List ℕ). after (run o t) next) (split-at (v x).1 s c) ∙ ap (λ (r : Outcome _). after r next) (first.1 (drop (v x).1 s ++ c))
      ∙ ap (λ (t : List ℕ). next (v x).0 (o + (v x).1) (t ++ c)) (sym rest_is) ∙ h c

  -- both are passed
  pub then_ok : {Y Z : Type 0} (u : Y → B × ℕ) (w : Z → B × ℕ) (y : Y) → Fronts u (o + (v x).1) rest (Ok y) (next (v x).0) → (z : Z) → (w z).0 ≡ (u y).0 → (w z).1 ≡ (v x).1 + (u y).1 → Fronts w o s (Ok z) (λ o s. after (run o s) next)
  then_ok u w y h z value_is size_is =
      let n = (v x).1 in
      let m = (u y).1 in
      let l = ap length rest_is ∙ length-drop n s in
      let a = first.0 in
      let b = h.0 in
      let end : o + n + m ≡ o + (w z).1 = omega (arith, size_is) in (
        omega (arith, size_is, a, b, l),
        λ c. ap (λ (k : ℕ). after (run o (take k s ++ c)) next) size_is
            ∙ ap (λ (t : List ℕ). after (run o t) next) (take-both n m s c a) ∙ ap (λ (r : Outcome _). after r next) (first.1 (take m (drop n s) ++ c))
            ∙ ap (λ (t : List ℕ). next (v x).0 (o + n) (take m t ++ c)) (sym rest_is) ∙ h.1 c
            ∙ ap (λ (k : ℕ). Done (u y).0 k c) end ∙ ap (λ (b : _). Done b (o + (w z).1) c) (sym value_is),
      )

-- what was read is seen in another light
pub front_as : {X A Z B : Type 0} (v : X → A × ℕ) (w : Z → B × ℕ) (g : A → B) (o : ℕ) (s : List ℕ) (run : Reader A) (x : X) → Fronts v o s (Ok x) run → (z : Z) → (w z).0 ≡ g (v x).0 → (w z).1 ≡ (v x).1 → Fronts w o s (Ok z) (λ o s. after (run o s) (λ a. pure (g a)))
front_as v w g o s run x h z value_is size_is =
    let a = h.0 in
    (omega (arith, size_is, a), λ c. ap (λ (k : ℕ). after (run o (take k s ++ c)) (λ a. pure (g a))) size_is ∙ ap (λ (r : Outcome _). after r (λ a. pure (g a))) (h.1 c) ∙ ap (λ (k : ℕ). Done (g (v x).0) (o + k) c) (sym size_is) ∙ ap (λ (b : _). Done b (o + (w z).1) c) (sym value_is))

-- what was read is forgotten
pub forgotten : {X A : Type 0} (v : X → A × ℕ) (o : ℕ) (s : List ℕ) (run : Reader A) (r : Result X Stop) → Fronts v o s r run → Fronts (λ (x : X). (tt, (v x).1)) o s r (onward run done)
forgotten v o s run (Ok x) h = (h.0, λ c. ap (λ (r : Outcome _). after r (λ a. done)) (h.1 c))
forgotten v o s run (Err e) h = first_err o s run (λ a. done) e h
