-- What an answer about a part says of the whole, and what was read whole, taken apart.
use Rattle.std.proofs.Common.{◌≡◌, ℕ, zero, suc, ◌+◌, ◌≤◌, List, [], ◌∷◌, length, take, drop, Bool, true, false, cond, ltb, Option, Some, None, refl, sym, ap, subst, ◌∙◌, arith}
use Rattle.std.proofs.lemmas.Bool.{ltb-false}
use Rattle.std.proofs.lemmas.List.{drop-drop, length-take}
use Rattle.dbus_texts.specs.declared.text_kind.TextKind.{TextKind}
use Rattle.dbus_value_model.specs.declared.fault.Fault.{Fault}
use Rattle.dbus_value_model.specs.declared.fault.Reason.{Reason}
use Rattle.dbus_value_model.specs.declared.order.Order.{Order}
use Rattle.dbus_value_model.specs.Items.{no_row}
use Rattle.dbus_value_model.specs.WantedTexts.{WantedText, Of, IsWanted}
use Rattle.dbus_value_model.specs.ComputedTexts.{is_kind, break_at}
use Rattle.dbus_value_model.specs.Reading.{Reader, Outcome, Done, Faulty, Partial, after, pure, number, number_of, validated, text, nul}
use Rattle.dbus_value_model.specs.declared.stop.Stop.TheVariants as stops
use Rattle.dbus_value_laws.proofs.Agreement.{after_done}
use Rattle.dbus_value_laws.proofs.KindLaws.{wanted_is}
use Rattle.dbus_value_laws.proofs.ReadSteps.{number_stops, number_fails, text_there}
use Rattle.dbus_value_validator.specs.Endings.{Answers, IsNotRead, EndedText}

-- ---- outcomes

pub not_faulty : {A : Type 0} (read : Outcome A) (f : Fault) → read ≡ Faulty f → IsNotRead read
not_faulty read f e = λ x q rest h. let d : Faulty f ≡ Done x q rest = sym e ∙ h in absurd cc

pub not_partial : {A : Type 0} (read : Outcome A) → read ≡ Partial → IsNotRead read
not_partial {A} read e = λ x q rest h. let d : Partial ≡ Done x q rest = sym e ∙ h in absurd cc

pub not_same : {A : Type 0} (read other : Outcome A) → read ≡ other → IsNotRead other → IsNotRead read
not_same read other e unread = λ x q rest h. unread x q rest (sym e ∙ h)

pub same_done : {A : Type 0} (x y : A) (p q : ℕ) (s t : List ℕ) → Done x p s ≡ Done y q t → (x ≡ y) × (p ≡ q) × (s ≡ t)
same_done x y p q s t e = (cc, cc, cc)

pub not_first : {A B : Type 0} (read : Outcome A) (next : A → Reader B) → IsNotRead read → IsNotRead (after read next)
not_first read next unread = λ y q rest h. let w = after_done read next y q rest h in unread w.0 w.1 w.2 w.3

-- whatever is read first
pub not_then : {A B : Type 0} (read : Outcome A) (next : A → Reader B) → ((x : A) (p : ℕ) (u : List ℕ) → read ≡ Done x p u → IsNotRead (next x p u)) → IsNotRead (after read next)
not_then read next unread = λ y q rest h. let w = after_done read next y q rest h in unread w.0 w.1 w.2 w.3 y q rest w.4

-- the same with its end in other words
pub done_at : {A : Type 0} (read : Outcome A) (x : A) (p : ℕ) (u : List ℕ) (q : ℕ) (r : List ℕ) → read ≡ Done x p u → p ≡ q → u ≡ r → read ≡ Done x q r
done_at read x p u q r e a b = cc

module _ {A : Type 0} (bytes : List ℕ) (r : Option ℕ) (read : Outcome A) where
  pub answers_same : (other : Outcome A) → read ≡ other → Answers bytes r other → Answers bytes r read
  answers_same other e answer = subst (Answers bytes r) (sym e) answer

-- what is made of a value changes nothing
pub answers_made : {A B : Type 0} (bytes : List ℕ) (r : Option ℕ) (read : Outcome A) (make : A → B) → Answers bytes r read → Answers bytes r (after read (λ x. pure (make x)))
answers_made bytes None read make unread = not_first read _ unread
answers_made bytes (Some q) read make ends = (make ends.0, rw ends.1 refl)

pub answers_unmade : {A B : Type 0} (bytes : List ℕ) (r : Option ℕ) (read : Outcome A) (make : A → B) → Answers bytes r (after read (λ x. pure (make x))) → Answers bytes r read
answers_unmade bytes None read make unread = λ x q rest e. unread (make x) q rest (rw e refl)
answers_unmade bytes (Some q) read make ends =
    let w = after_done read (λ x. pure (make x)) ends.0 q (drop q bytes) ends.1 in
    let s = same_done (make w.0) ends.0 w.1 q w.2 (drop q bytes) w.4 in
    (w.0, done_at read w.0 w.1 w.2 q (drop q bytes) w.3 s.1 s.2)

pub made_first : {A B C : Type 0} (read : Outcome A) (make : A → B) (next : B → Reader C) → after (after read (λ x. pure (make x))) next ≡ after read (λ x. next (make x))
made_first (Done x q rest) make next = refl
made_first (Faulty f) make next = refl
made_first Partial make next = refl

-- ---- numbers

row_passed : (over short : Bool) (why : Option Reason) (f : Fault) (m n o p q : ℕ) (s rest : List ℕ) → cond over (Faulty f) (cond short Partial (validated why m o p s)) ≡ Done n q rest
    → (over ≡ false) × (short ≡ false) × (why ≡ None) × (m ≡ n) × (p ≡ q) × (s ≡ rest)
row_passed true short why f m n o p q s rest e = absurd cc
row_passed false true why f m n o p q s rest e = absurd cc
row_passed false false None f m n o p q s rest e = (refl, refl, refl, cc, cc, cc)
row_passed false false (Some y) f m n o p q s rest e = absurd cc

-- it is the number of its bytes, and its row says nothing against it
pub record ReadNumber (order : Order) (w end : ℕ) (row : ℕ → ℕ → Option Reason) (at : ℕ) (bytes : List ℕ) (n q : ℕ) (rest : List ℕ) : Type 0 where
  pub fits : at + w ≤ end
  pub there : w ≤ length (drop at bytes)
  pub is : n ≡ number_of order (take w (drop at bytes))
  pub ends : q ≡ at + w
  pub left : rest ≡ drop (at + w) bytes
  pub passes : row (at + w) n ≡ None

module _ (order : Order) (w end : ℕ) (row : ℕ → ℕ → Option Reason) (at : ℕ) (bytes : List ℕ) (n q : ℕ) (rest : List ℕ) where
  pub number_read : number order w end row at (drop at bytes) ≡ Done n q rest → ReadNumber order w end row at bytes n q rest
  unfolding number
  number_read e =
      let w = row_passed (ltb end (at + w)) (ltb (length (drop at bytes)) w) _ _ _ n at _ q _ rest e in
      record {
        fits = ltb-false _ _ w.0;
        there = ltb-false _ _ w.1;
        is = sym w.3;
        ends = sym w.4;
        left = sym w.5 ∙ drop-drop _ at bytes;
        passes = ap (row _) (sym w.3) ∙ w.2;
      }

module _ (order : Order) (w end : ℕ) (row : ℕ → ℕ → Option Reason) (o : ℕ) (s : List ℕ) where
  -- where no number is read, none is whatever the row says
  pub row_unread : IsNotRead (number order w end no_row o s) → IsNotRead (number order w end row o s)
  row_unread unread = by_outcome (number order w end no_row o s) refl
    where
      by_outcome : (r : Outcome ℕ) → number order w end no_row o s ≡ r → IsNotRead (number order w end row o s)
      by_outcome (Done n q t) e = absurd (unread n q t e)
      by_outcome (Faulty f) e = not_faulty _ f (number_stops order w end row o s (stops.Refused f) e)
      by_outcome Partial e = not_partial _ (number_stops order w end row o s stops.Partial e)

  -- the row says something against it
  pub row_against : (n q : ℕ) (t : List ℕ) → number order w end no_row o s ≡ Done n q t → (row q n ≡ None → ⊥) → IsNotRead (number order w end row o s)
  row_against n q t plain against = by_row (row q n) refl
    where
      by_row : (why : Option Reason) → row q n ≡ why → IsNotRead (number order w end row o s)
      by_row None e = absurd (against e)
      by_row (Some why) e = not_faulty _ _ (number_fails order w end row o s n q t plain why e)

-- ---- texts

text_passed : (broken short alike : Bool) (f g : Fault) (t u : List ℕ) (p q : ℕ) (s rest : List ℕ) → cond broken (Faulty f) (cond short Partial (cond alike (Done t p s) (Faulty g))) ≡ Done u q rest
    → (short ≡ false) × (alike ≡ true) × (t ≡ u) × (p ≡ q) × (s ≡ rest)
text_passed true short alike f g t u p q s rest e = absurd cc
text_passed false true alike f g t u p q s rest e = absurd cc
text_passed false false true f g t u p q s rest e = (refl, refl, cc, cc, cc)
text_passed false false false f g t u p q s rest e = absurd cc

-- it is of the kind, and has so many bytes
pub record ReadText (k : WantedText) (n at : ℕ) (bytes : List ℕ) (q : ℕ) (rest : List ℕ) : Type 0 where
  pub there : n ≤ length (drop at bytes)
  pub wanted : IsWanted k (take n (drop at bytes))
  pub ends : q ≡ at + n
  pub left : rest ≡ drop (at + n) bytes

pub text_read : (k : WantedText) (n at : ℕ) (bytes t : List ℕ) (q : ℕ) (rest : List ℕ) → text k n at (drop at bytes) ≡ Done t q rest → ReadText k n at bytes q rest
unfolding text
text_read k n at bytes t q rest e =
    let given = take n (drop at bytes) in
    let w = text_passed (ltb (break_at k given) (length given)) (ltb (length (drop at bytes)) n) (is_kind k given) _ _ given t _ q _ rest e in
    record {
      there = ltb-false _ _ w.0;
      wanted = wanted_is k given w.1;
      ends = sym w.3;
      left = sym w.4 ∙ drop-drop n at bytes;
    }

nul_parts : (o : ℕ) (s : List ℕ) (x : Unit {0}) (q : ℕ) (rest : List ℕ) → nul o s ≡ Done x q rest → (q ≡ o + 1) × (rest ≡ drop 1 s)
nul_parts o [] x q rest e = absurd cc
nul_parts o (zero ∷ s) x q rest e = let w = same_done tt x (o + 1) q s rest e in (sym w.1, sym w.2)
nul_parts o (suc b ∷ s) x q rest e = absurd cc

pub nul_read : (at : ℕ) (bytes : List ℕ) (x : Unit {0}) (q : ℕ) (rest : List ℕ) → nul at (drop at bytes) ≡ Done x q rest → (q ≡ at + 1) × (rest ≡ drop (at + 1) bytes)
nul_read at bytes x q rest e = let w = nul_parts at (drop at bytes) x q rest e in (w.0, w.1 ∙ drop-drop 1 at bytes)

-- no text as it is wanted with a zero after it, so nothing that begins with one
pub unlike : {B : Type 0} (k : WantedText) (n at : ℕ) (bytes : List ℕ) (next : List ℕ → Reader B)
    → (IsWanted k (take n (drop at bytes)) → n ≤ length (drop at bytes) → nul (at + n) (drop (at + n) bytes) ≡ Done tt (at + n + 1) (drop (at + n + 1) bytes) → ⊥)
    → IsNotRead (after (text k n at (drop at bytes)) (λ t p u. after (nul p u) (λ x. next t)))
unlike k n at bytes next unwanted =
    not_then (text k n at (drop at bytes)) _ (λ t p u e.
    let w = text_read k n at bytes t p u e in
    not_then (nul p u) _ (λ x q rest z.
    let zero : nul (at + n) (drop (at + n) bytes) ≡ Done x q rest = rw (w.ends, w.left) at z in
    let last = nul_read (at + n) bytes x q rest zero in
    absurd (unwanted w.wanted w.there (done_at _ x q rest (at + n + 1) (drop (at + n + 1) bytes) zero last.0 last.1))))

pub not_ended : {B : Type 0} (kind : TextKind) (n at : ℕ) (bytes : List ℕ) (next : List ℕ → Reader B) → (EndedText kind n at bytes → ⊥) → IsNotRead (after (text (Of kind) n at (drop at bytes)) (λ t p u. after (nul p u) (λ x. next t)))
not_ended kind n at bytes next unended =
    unlike (Of kind) n at bytes next (λ wanted long zero.
    let there = text_there (Of kind) n at bytes (take n (drop at bytes)) refl wanted (omega (arith, length-take n (drop at bytes), long)) in
    unended (record { is_text = there; is_ended = zero; is_kind = wanted }))

-- a text with the zero after it, whose length has one byte
pub short_unread : {B : Type 0} (kind : TextKind) (order : Order) (end at : ℕ) (row : ℕ → ℕ → Option Reason) (bytes : List ℕ) (next : ℕ → Reader B)
    → ((n : ℕ) → number order 1 end row at (drop at bytes) ≡ Done n (at + 1) (drop (at + 1) bytes) → EndedText kind n (at + 1) bytes → ⊥)
    → ((n : ℕ) → (EndedText kind n (at + 1) bytes → ⊥) → IsNotRead (next n (at + 1) (drop (at + 1) bytes)))
    → IsNotRead (after (number order 1 end row at (drop at bytes)) next)
short_unread kind order end at row bytes next unread unended =
    not_then (number order 1 end row at (drop at bytes)) next (λ n p u e.
    let r = number_read order 1 end row at bytes n p u e in
    let there = done_at _ n p u (at + 1) (drop (at + 1) bytes) e r.ends r.left in
    rw (r.ends, r.left) (unended n (unread n there)))
