use Rattle.std.proofs.Common.{◌≡◌, ◌↔◌, ℕ, ◌-◌, Bool, true, false, not, eqb, List, [], length, ◌∷◌, ◌++◌, take, drop, refl, sym, ap, ◌∙◌, subst, arith, length-drop, take-append-drop, IsTrue, IsUtf8}
use Rattle.std.specs.List.{AllByRecursion, list_any}
use Rattle.std.specs.Int.{IsInRange}
use Rattle.std.proofs.lemmas.Bool.{false≢true, eqb-true}
use Rattle.std.proofs.lemmas.List.{take_all}
use Rattle.dbus_texts.specs.declared.utf8.Utf8Place.TheVariants.{Free}
use Rattle.dbus_texts.specs.Kinds.{IsText}
use Rattle.dbus_texts.proofs.PlainRuns.{plain_run}
use Rattle.dbus_texts.proofs.Utf8Steps.{text_ends, text_some, no_zero, a_zero}
use Rattle.dbus_texts.proofs.ScanSteps.{quotient_start}
use Rattle.dbus_texts.proofs.KindFacts.{text_utf8, utf8_text}
use Rattle.dbus_texts.proofs.utf8.is_text.Goals as goal

-- a prefix of ASCII without a zero byte changes nothing
text_after : (u v : List ℕ) → AllByRecursion (IsInRange 1 127) u → IsText v ↔ IsText (u ++ v)
text_after u v h = let q = plain_run IsText [] u h (quotient_start IsText text_some) in (q.from v, q.to v)

abbrev frame_rest : ℕ → List ℕ → List ℕ
frame_rest n w = take (length w - n) (drop n w)

from_rest : (w : List ℕ) (n : ℕ) (r : Bool) → AllByRecursion (IsInRange 1 127) (take n w) → IsTrue r ↔ IsText (frame_rest n w) → IsTrue r ↔ IsText w
from_rest w n r h i =
    let e : frame_rest n w ≡ drop n w = take_all (length w - n) (drop n w) (omega (arith, length-drop n w)) in
    let j = text_after (take n w) (frame_rest n w) h in
    let whole : take n w ++ frame_rest n w ≡ w = ap (λ v. take n w ++ v) e ∙ take-append-drop n w in
    subst (λ v. IsTrue r ↔ IsText v) whole (λ t. j.0 (i.0 t), λ t. i.1 (j.1 t))

without_zero : (w : List ℕ) (r : Bool) → IsUtf8 w → r ≡ list_any (λ b. eqb b 0) w → IsTrue (not r) ↔ IsText w
without_zero w true u e = (λ n. absurd (false≢true n), λ t. absurd (a_zero w (sym e) (text_utf8 w t).1))
without_zero w false u e = (λ n. utf8_text w u (no_zero w (sym e)), λ t. refl)

none_left : (w : List ℕ) → length w ≡ 0 → IsText w
none_left [] e = text_ends Free refl
none_left (b ∷ w) e = absurd (omega (arith, e))

pub returns-then-is_empty : goal.returns-then-is_empty
returns-then-is_empty c =
    let w = c.args.text.now in
    let n = c.plain_prefix.result in
    let none : length (frame_rest n w) ≡ 0 = eqb-true _ _ (sym c.is_empty.ensures ∙ c.if-is_empty.true) in
    from_rest w n true c.plain_prefix.ensures.plain (λ e. none_left (frame_rest n w) none, λ t. refl)

pub returns-in-Ok : goal.returns-in-Ok
returns-in-Ok c =
    let w = c.args.text.now in
    let n = c.plain_prefix.result in
    from_rest w n (not c.contains.result) c.plain_prefix.ensures.plain (without_zero (frame_rest n w) c.contains.result c.in-Ok.ensures.cases.1 c.contains.ensures.value)

pub returns-in-Err : goal.returns-in-Err
returns-in-Err c =
    let w = c.args.text.now in
    let n = c.plain_prefix.result in
    from_rest w n false c.plain_prefix.ensures.plain (λ e. absurd (false≢true e), λ t. absurd (c.in-Err.ensures.cases.0 (text_utf8 (frame_rest n w) t).0))
