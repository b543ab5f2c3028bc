-- A line has one outcome, and an input has one list of outcomes, but for why a line is refused.
use Rattle.std.proofs.Common.{◌≡◌, ◌⊎◌, ℕ, ◌+◌, ◌++◌, map, Bool, true, false, List, [], ◌∷◌, Some, Option, refl, sym, ap, ap₂, ◌∙◌, subst, inl, inr, arith, append-nil}
use Rattle.std.specs.Io.KnownBytes.{Consumes, IsAtEnd}
use Rattle.std.specs.Prelude.{◌||◌, None}
use Rattle.dbus_lines.specs.Lines.{AreLines}
use Rattle.dbus_lines.proofs.LineLaws.{each_input, lines_go_on, one_list}
use Rattle.dbus_message_model.specs.Messages.{message_bytes}
use Rattle.dbus_json.specs.JsonIntegers.{integers_of}
use Rattle.dbus_json_laws.proofs.KeptLines.{one_message_of}
use Rattle.cli_report.specs.Devices.{Taken, Writing}
use Rattle.cli_encode.specs.Outcomes.{Outcome, Written, Passed, Refused, AreOutcomes, EndsAtRefused, IsOutcome, IsRefused, all_bytes, all_text, any_refused, bytes_of, is_refused, next_serial, order_in, serial_after}
use Rattle.cli_encode.specs.Runs.{CameAll}
use Rattle.cli_encode.specs.declared.encoding.Encoding.{Encoding}
use Rattle.cli_encode.specs.declared.reason.LineReason.{LineReason}
use Rattle.cli_encode.specs.declared.reason.LineReason.TheVariants.{TooLong, Unspelled}

-- what becomes of a line, but for why and where it is refused
abbrev pub made : Outcome → Option (Option (List ℕ))
made (Written bytes) = Some (Some bytes)
made Passed = Some None
made (Refused why explained) = None

abbrev pub all_made : List Outcome → List (Option (Option (List ℕ)))
all_made os = map made os

module _ (encoding : Encoding) where
  refused_none : (serial : ℕ) (line : List ℕ) (x : List ℕ) (reason : LineReason) (at : ℕ) → IsOutcome encoding serial line (Written x) → IsRefused encoding serial line reason at → ⊥
  refused_none serial line x TooLong at p q = let short = p.0 in let long = q.0 in omega (arith, short, long)
  refused_none serial line x (Unspelled why) at p q = q.2 x p.2

  refused_blank : (serial : ℕ) (line : List ℕ) (reason : LineReason) (at : ℕ) → IsOutcome encoding serial line Passed → IsRefused encoding serial line reason at → ⊥
  refused_blank serial line TooLong at p q = let short = p.0 in let long = q.0 in omega (arith, short, long)
  refused_blank serial line (Unspelled why) at p q = q.1 p.1

  pub one_outcome : (serial : ℕ) (line : List ℕ) (a b : Outcome) → IsOutcome encoding serial line a → IsOutcome encoding serial line b → made a ≡ made b
  one_outcome serial line (Written x) (Written y) p q =
      let one = one_message_of (integers_of encoding.safe_integers) encoding.limits encoding.limits serial p.2.order q.2.order p.2.message q.2.message line p.2.spelled q.2.spelled in
      ap (λ (bytes : List ℕ). Some (Some bytes)) (p.2.encoded ∙ ap₂ (λ o m. message_bytes (order_in encoding.order o) m) one.0 one.1 ∙ sym q.2.encoded)
  one_outcome serial line (Written x) Passed p q = absurd (p.1 q.1)
  one_outcome serial line (Written x) (Refused why explained) p q = absurd (refused_none serial line x why.reason why.at p q.0)
  one_outcome serial line Passed (Written y) p q = absurd (q.1 p.1)
  one_outcome serial line Passed Passed p q = refl
  one_outcome serial line Passed (Refused why explained) p q = absurd (refused_blank serial line why.reason why.at p q.0)
  one_outcome serial line (Refused why explained) (Written y) p q = absurd (refused_none serial line y why.reason why.at q p.0)
  one_outcome serial line (Refused why explained) Passed p q = absurd (refused_blank serial line why.reason why.at q p.0)
  one_outcome serial line (Refused why explained) (Refused also other) p q = refl

-- ---- what depends on it alone

abbrev is_none : Option (Option (List ℕ)) → Bool
is_none None = true
is_none (Some bytes) = false

abbrev goes_after : Option (Option (List ℕ)) → ℕ → ℕ
goes_after (Some None) serial = serial
goes_after (Some (Some bytes)) serial = next_serial serial
goes_after None serial = next_serial serial

abbrev bytes_made : Option (Option (List ℕ)) → List ℕ
bytes_made (Some (Some bytes)) = bytes
bytes_made other = []

refused_by : (o : Outcome) → is_none (made o) ≡ is_refused o
refused_by (Written bytes) = refl
refused_by Passed = refl
refused_by (Refused why explained) = refl

serial_by : (o : Outcome) (serial : ℕ) → goes_after (made o) serial ≡ serial_after o serial
serial_by (Written bytes) serial = refl
serial_by Passed serial = refl
serial_by (Refused why explained) serial = refl

bytes_by : (o : Outcome) → bytes_made (made o) ≡ bytes_of o
bytes_by (Written bytes) = refl
bytes_by Passed = refl
bytes_by (Refused why explained) = refl

refused_one : (x y : Outcome) → made x ≡ made y → is_refused x ≡ is_refused y
refused_one x y e = sym (refused_by x) ∙ ap is_none e ∙ refused_by y

serial_one : (x y : Outcome) (serial : ℕ) → made x ≡ made y → serial_after x serial ≡ serial_after y serial
serial_one x y serial e = sym (serial_by x serial) ∙ ap (λ (o : Option (Option (List ℕ))). goes_after o serial) e ∙ serial_by y serial

bytes_one : (x y : Outcome) → made x ≡ made y → bytes_of x ≡ bytes_of y
bytes_one x y e = sym (bytes_by x) ∙ ap bytes_made e ∙ bytes_by y

made_head : (x y : Outcome) (a b : List Outcome) → all_made (x ∷ a) ≡ all_made (y ∷ b) → made x ≡ made y
made_head x y a b e = cc

made_tail : (x y : Outcome) (a b : List Outcome) → all_made (x ∷ a) ≡ all_made (y ∷ b) → all_made a ≡ all_made b
made_tail x y a b e = cc

-- the bytes that are written
pub same_bytes : (a b : List Outcome) → all_made a ≡ all_made b → all_bytes a ≡ all_bytes b
same_bytes [] [] e = refl
same_bytes [] (y ∷ b) e = absurd cc
same_bytes (x ∷ a) [] e = absurd cc
same_bytes (x ∷ a) (y ∷ b) e = ap₂ (λ (l : List ℕ) (m : List ℕ). l ++ m) (bytes_one x y (made_head x y a b e)) (same_bytes a b (made_tail x y a b e))

-- whether a line is refused
pub same_refused : (a b : List Outcome) → all_made a ≡ all_made b → any_refused a ≡ any_refused b
same_refused [] [] e = refl
same_refused [] (y ∷ b) e = absurd cc
same_refused (x ∷ a) [] e = absurd cc
same_refused (x ∷ a) (y ∷ b) e = ap₂ (λ (l : Bool) (m : Bool). l || m) (refused_one x y (made_head x y a b e)) (same_refused a b (made_tail x y a b e))

-- nothing is told of lines none of which is refused
pub none_told : (number : ℕ) (os : List Outcome) → any_refused os ≡ false → all_text number os ≡ []
none_told number [] e = refl
none_told number (Written bytes ∷ os) e = none_told (number + 1) os e
none_told number (Passed ∷ os) e = none_told (number + 1) os e
none_told number (Refused why explained ∷ os) e = absurd cc

-- ---- why no line follows

-- none is left, or a run that does not go on met a refused one
abbrev pub IsOver : (keeps_going : Bool) → List Outcome → (more : List (List ℕ)) → Type 0
IsOver keeps_going os more = (more ≡ []) ⊎ ((keeps_going ≡ false) × (any_refused os ≡ true))

pub or_false : (a b : Bool) → (a || b) ≡ false → (a ≡ false) × (b ≡ false)
or_false true b e = absurd cc
or_false false b e = (refl, e)

or_true : (a b : Bool) → a ≡ false → (a || b) ≡ true → b ≡ true
or_true true b f e = absurd cc
or_true false b f e = e

abbrev front : Outcome → List Outcome → List Outcome
front x [] = []
front x (y ∷ os) = x ∷ front y os

abbrev last : Outcome → List Outcome → Outcome
last x [] = x
last x (y ∷ os) = last y os

cut : (x : Outcome) (os : List Outcome) → x ∷ os ≡ front x os ++ last x os ∷ []
cut x [] = refl
cut x (y ∷ os) = ap (λ (l : List Outcome). x ∷ l) (cut y os)

-- what stands before another outcome is not refused
not_last : (o x : Outcome) (os : List Outcome) → EndsAtRefused false (o ∷ x ∷ os) → is_refused o ≡ false
not_last o x os ends = (or_false (is_refused o) (any_refused (front x os)) (ends refl (o ∷ front x os) (last x os) (ap (λ (l : List Outcome). o ∷ l) (cut x os)))).0

none_after : (o : Outcome) (os : List Outcome) → EndsAtRefused false (o ∷ os) → is_refused o ≡ true → os ≡ []
none_after o [] ends is = refl
none_after o (x ∷ os) ends is = absurd (let not = not_last o x os ends in let bad : true ≡ false = sym is ∙ not in cc)

ends_after : (o : Outcome) (os : List Outcome) → EndsAtRefused false (o ∷ os) → EndsAtRefused false os
ends_after o os ends = λ stops before l e. (or_false (is_refused o) (any_refused before) (ends refl (o ∷ before) l (ap (λ (r : List Outcome). o ∷ r) e))).1

head_is : (x y : List ℕ) (xs ys : List (List ℕ)) → x ∷ xs ≡ y ∷ ys → x ≡ y
head_is x y xs ys e = cc

tail_is : (x y : List ℕ) (xs ys : List (List ℕ)) → x ∷ xs ≡ y ∷ ys → xs ≡ ys
tail_is x y xs ys e = cc

-- ---- the outcomes of the first lines of one list

module _ (encoding : Encoding) where
  -- all of them
  all_same : (serial : ℕ) (lines : List (List ℕ)) (a b : List Outcome) → AreOutcomes encoding serial lines a → AreOutcomes encoding serial lines b → all_made a ≡ all_made b
  all_same serial [] [] [] p q = refl
  all_same serial [] [] (y ∷ b) p q = absurd q
  all_same serial [] (x ∷ a) b p q = absurd p
  all_same serial (l ∷ lines) [] b p q = absurd p
  all_same serial (l ∷ lines) (x ∷ a) [] p q = absurd q
  all_same serial (l ∷ lines) (x ∷ a) (y ∷ b) p q =
      let one = one_outcome encoding serial l x y p.0 q.0 in
      ap₂ (λ (o : Option (Option (List ℕ))) (os : List (Option (Option (List ℕ)))). o ∷ os) one (all_same (serial_after x serial) lines a b p.1 (subst (λ (n : ℕ). AreOutcomes encoding n lines b) (sym (serial_one x y serial one)) q.1))

  abbrev Stops : List Outcome → List (List ℕ) → Type 0
  Stops os more = ((more ≡ []) ⊎ (any_refused os ≡ true)) × EndsAtRefused false os

  nothing_left : (more rest : List (List ℕ)) (line : List ℕ) → Stops [] more → more ≡ line ∷ rest → ⊥
  nothing_left more rest line s e = elim s.0 [
    | inl none ↦ (let bad : [] ≡ line ∷ rest = sym none ∙ e in cc)
    | inr bad ↦ cc
  ]

  stops_after : (o : Outcome) (os : List Outcome) (more : List (List ℕ)) → is_refused o ≡ false → Stops (o ∷ os) more → Stops os more
  stops_after o os more not s = (
    elim s.0 [ inl none ↦ inl none | inr some ↦ inr (or_true (is_refused o) (any_refused os) not some) ],
    ends_after o os s.1,
  )

  up_to_refused : (x y : Outcome) (a b : List Outcome) (more rest : List (List ℕ)) (refused : Bool) → is_refused x ≡ refused → made x ≡ made y → Stops (x ∷ a) more → Stops (y ∷ b) rest → (is_refused x ≡ false → all_made a ≡ all_made b) → all_made a ≡ all_made b
  up_to_refused x y a b more rest true is one s t same = ap all_made (none_after x a s.1 is ∙ sym (none_after y b t.1 (sym (refused_one x y one) ∙ is)))
  up_to_refused x y a b more rest false is one s t same = same is

  -- up to the first that is refused
  first_same : (serial : ℕ) (k l more rest : List (List ℕ)) (a b : List Outcome) → k ++ more ≡ l ++ rest → AreOutcomes encoding serial k a → AreOutcomes encoding serial l b → Stops a more → Stops b rest → all_made a ≡ all_made b
  first_same serial [] [] more rest [] [] e p q s t = refl
  first_same serial [] [] more rest [] (y ∷ b) e p q s t = absurd q
  first_same serial [] l more rest (x ∷ a) b e p q s t = absurd p
  first_same serial [] (line ∷ l) more rest [] b e p q s t = absurd (nothing_left more (l ++ rest) line s e)
  first_same serial (line ∷ k) l more rest [] b e p q s t = absurd p
  first_same serial (line ∷ k) [] more rest (x ∷ a) [] e p q s t = absurd (nothing_left rest (k ++ more) line t (sym e))
  first_same serial (line ∷ k) [] more rest (x ∷ a) (y ∷ b) e p q s t = absurd q
  first_same serial (line ∷ k) (line2 ∷ l) more rest (x ∷ a) [] e p q s t = absurd q
  first_same serial (line ∷ k) (line2 ∷ l) more rest (x ∷ a) (y ∷ b) e p q s t =
      let one : made x ≡ made y = one_outcome encoding serial line x y p.0 (subst (λ (w : List ℕ). IsOutcome encoding serial w y) (sym (head_is line line2 _ _ e)) q.0) in
      let more_same : is_refused x ≡ false → all_made a ≡ all_made b = λ not. first_same (serial_after x serial) k l more rest a b (tail_is line line2 _ _ e) p.1 (subst (λ (n : ℕ). AreOutcomes encoding n l b) (sym (serial_one x y serial one)) q.1)
      (stops_after x a more not s) (stops_after y b rest (sym (refused_one x y one) ∙ not) t) in
      ap₂ (λ (o : Option (Option (List ℕ))) (os : List (Option (Option (List ℕ)))). o ∷ os) one (up_to_refused x y a b more rest (is_refused x) refl one s t more_same)

  pub same_outcomes : (keeps_going : Bool) (k l more rest : List (List ℕ)) (a b : List Outcome) → k ++ more ≡ l ++ rest → AreOutcomes encoding 1 k a → AreOutcomes encoding 1 l b
      → IsOver keeps_going a more → EndsAtRefused keeps_going a → IsOver keeps_going b rest → EndsAtRefused keeps_going b → all_made a ≡ all_made b
  same_outcomes true k l more rest a b e p q over ends over_too ends_too =
      let none = all_taken a more over in
      let none_too = all_taken b rest over_too in
      let same : k ≡ l = sym (append-nil k) ∙ ap (λ (m : List (List ℕ)). k ++ m) (sym none) ∙ e ∙ ap (λ (m : List (List ℕ)). l ++ m) none_too ∙ append-nil l in
      all_same 1 l a b (subst (λ (x : List (List ℕ)). AreOutcomes encoding 1 x a) same p) q
    where
      all_taken : (os : List Outcome) (m : List (List ℕ)) → IsOver true os m → m ≡ []
      all_taken os m (inl none) = none
      all_taken os m (inr stopped) = absurd (let bad : true ≡ false = stopped.0 in cc)
  same_outcomes false k l more rest a b e p q over ends over_too ends_too =
      first_same 1 k l more rest a b e p q (stops a more over, ends) (stops b rest over_too, ends_too)
    where
      stops : (os : List Outcome) (m : List (List ℕ)) → IsOver false os m → (m ≡ []) ⊎ (any_refused os ≡ true)
      stops os m (inl none) = inl none
      stops os m (inr stopped) = inr stopped.1

-- ---- what a run took of its input

pub left_over : (a b : Option (List ℕ)) (input bytes : List ℕ) → a ≡ Some input → Consumes a b bytes → (more : List ℕ) × (b ≡ Some more) × (input ≡ bytes ++ more)
left_over None b input bytes e c = absurd cc
left_over (Some x) None input bytes e c = absurd c
left_over (Some x) (Some y) input bytes e c = let same : x ≡ input = cc in (y, refl, sym same ∙ c)

module _ {W E : Type 0} (t : Taken) (w : Writing W) (e : Writing E) (encoding : Encoding) (most : ℕ) (refused : Bool) (h : CameAll t w e encoding most refused) (input : List ℕ) (known : t.left0 ≡ Some input) where
  -- the lines of the input are those that came, and more, which are none if the run did not end at a
  -- refused one
  pub record IsOfInput : Type 0 where
    pub more : List (List ℕ)
    pub cut : AreLines true input (h.came.lines ++ more) []
    pub over : IsOver encoding.keeps_going h.outcomes more

  pub of_input : IsOfInput
  of_input =
      let after = left_over t.left0 t.left1 input h.came.bytes known h.came.consumed in
      let rest = each_input (h.came.left ++ after.0) in
      let none : IsAtEnd t.left1 → after.0 ≡ [] = λ end. subst IsAtEnd after.1 end in
      let all = lines_go_on h.came.ended true h.came.bytes h.came.left after.0 [] h.came.lines rest.0 (λ ended. (none (h.came.at_end ended), refl)) h.came.cut rest.1 in
      record {
        more = rest.0;
        cut = subst (λ (b : List ℕ). AreLines true b (h.came.lines ++ rest.0) []) (sym after.2) all;
        over = elim h.over [
          | inl end ↦ inl (one_list (h.came.left ++ after.0) rest.0 [] rest.1 (ap₂ (λ (a : List ℕ) (b : List ℕ). a ++ b) end.0 (none (h.came.at_end end.1))))
          | inr stopped ↦ inr (stopped.0, sym h.refused_is ∙ stopped.1)
        ];
      }
