-- A line has no more cells than it may have, and none of its characters is hidden.
use Rattle.std.proofs.Common.{◌≡◌, ℕ, zero, suc, ◌-◌, ◌<◌, ◌≤◌, List, [], ◌∷◌, ◌++◌, Bool, true, false, cond, inl, inr, refl, sym, ap, subst, ◌∙◌, arith}
use Rattle.std.proofs.Math.Utf8.{scalar, scalars}
use Rattle.std.specs.Char.{encode_utf8}
use Rattle.std.specs.Char.Escape.{escape_unicode}
use Rattle.std.specs.List.{AllByRecursion, flat_map}
use Rattle.std.specs.Str.{IsUtf8, chars}
use Rattle.std.proofs.lemmas.Bool.{and_parts, cases_lt}
use Rattle.std.proofs.lemmas.Bool.Decides.{nat_tests}
use Rattle.std.proofs.lemmas.Str.{chars-encodes, encodes-append, encodes-chars, scalars-chars}
use Rattle.dbus_show.specs.Escapes.{is_hidden, visible}
use Rattle.dbus_show.proofs.EscapedText.{unicode_ascii}
use Rattle.dbus_show.proofs.VisibleTexts.{all_ascii, are_scalars, both_scalars, shown, visible_chars, visible_utf8}
use Rattle.dbus_list.specs.Cuts.{cells, cut, front, width}
use Rattle.dbus_list.specs.Lines.{ArePlain, ControlNothing, Fits, HideNothing}
use Rattle.dbus_list.proofs.Controls.{IsPlain, plain_both, plain_chars, plain_text, plain_unicode}
use Rattle.dbus_list.proofs.CutTexts.{cut_all, cut_wide, front_ends, front_takes, width_both, width_cons}

-- ---- the first characters of a text

width_front : (most : ℕ) (cs : List ℕ) → width (front most cs) ≤ most
width_front most [] = omega arith
width_front most (c ∷ cs) = elim (cases_lt most (cells c)) [
  | inl over ↦ subst (λ (f : List ℕ). width f ≤ most) (sym (front_ends most c cs over)) (omega arith)
  | inr fits ↦ subst (λ (f : List ℕ). width f ≤ most) (sym (front_takes most c cs fits))
      (let rest = width_front (most - cells c) cs in let all = width_cons c (front (most - cells c) cs) in omega (arith, fits, rest, all))
]

-- what holds of each character of a text holds of the first ones
front_all : (P : ℕ → Type 0) (most : ℕ) (cs : List ℕ) → AllByRecursion P cs → AllByRecursion P (front most cs)
front_all P most [] h = tt
front_all P most (c ∷ cs) h = elim (cases_lt most (cells c)) [
  | inl over ↦ subst (AllByRecursion P) (sym (front_ends most c cs over)) tt
  | inr fits ↦ subst (AllByRecursion P) (sym (front_takes most c cs fits)) (h.0, front_all P (most - cells c) cs h.1)
]

all_scalar : (cs : List ℕ) → scalars cs ≡ true → AllByRecursion (λ c. scalar c ≡ true) cs
all_scalar [] h = tt
all_scalar (c ∷ cs) h = let p = and_parts (scalar c) (scalars cs) h in (p.0, all_scalar cs p.1)

-- a cut text has the characters of its front, and `~`
cut_chars : (most : ℕ) (text : List ℕ) → IsUtf8 text → suc most < width (chars text) → chars (cut (suc most) text) ≡ front most (chars text) ++ 126 ∷ []
unfolding encode_utf8
cut_chars most text utf8 wide =
    let some = front most (chars text) in
    let whole = are_scalars some (front_all (λ c. scalar c ≡ true) most (chars text) (all_scalar (chars text) (scalars-chars text utf8))) in
    ap chars (cut_wide most text wide ∙ sym (encodes-append some (126 ∷ []))) ∙ chars-encodes (some ++ 126 ∷ []) (both_scalars some (126 ∷ []) whole refl)

-- ---- its cells

pub fits_cells : (n : ℕ) (text : List ℕ) → 0 < n → IsUtf8 text → width (chars (cut n text)) ≤ n
fits_cells zero text some utf8 = absurd (omega (arith, some))
fits_cells (suc most) text some utf8 = elim (cases_lt (suc most) (width (chars text))) [
  | inl wide ↦
      let few = width_front most (chars text) in
      let last : width (126 ∷ []) ≡ 1 = refl in
      let all = ap width (cut_chars most text utf8 wide) ∙ width_both (front most (chars text)) (126 ∷ []) in omega (arith, few, last, all)
  | inr fits ↦ subst (λ (t : List ℕ). width (chars t) ≤ suc most) (sym (cut_all (suc most) text fits)) fits
]

-- ---- its characters

abbrev IsSeen : ℕ → Type 0
IsSeen c = is_hidden c ≡ false

ascii_seen : (c : ℕ) → c < 128 → IsSeen c
ascii_seen c low = grind (arith, nat_tests)

all_both : (P : ℕ → Type 0) (a b : List ℕ) → AllByRecursion P a → AllByRecursion P b → AllByRecursion P (a ++ b)
all_both P [] b p q = q
all_both P (c ∷ a) b p q = (p.0, all_both P a b p.1 q)

shown_seen : (b : Bool) (c : ℕ) → is_hidden c ≡ b → AllByRecursion IsSeen (cond b (escape_unicode c) (c ∷ []))
shown_seen true c is = all_ascii IsSeen ascii_seen (escape_unicode c) (unicode_ascii c)
shown_seen false c is = (is, tt)

all_seen : (cs : List ℕ) → AllByRecursion IsSeen (flat_map shown cs)
all_seen [] = tt
all_seen (c ∷ cs) = all_both IsSeen (shown c) (flat_map shown cs) (shown_seen (is_hidden c) c refl) (all_seen cs)

module _ (text : List ℕ) (utf8 : IsUtf8 text) where
  visible_seen : AllByRecursion IsSeen (chars (visible text))
  visible_seen = subst (AllByRecursion IsSeen) (sym (visible_chars text utf8)) (all_seen (chars text))

-- what holds of each character of a text, and of `~`, holds of those that fit
module _ (P : ℕ → Type 0) (last : P 126) where
  cut_holds : (n : ℕ) (text : List ℕ) → IsUtf8 text → AllByRecursion P (chars text) → AllByRecursion P (chars (cut n text))
  cut_holds zero text utf8 h = h
  cut_holds (suc most) text utf8 h = elim (cases_lt (suc most) (width (chars text))) [
    | inl wide ↦ subst (AllByRecursion P) (sym (cut_chars most text utf8 wide)) (all_both P (front most (chars text)) (126 ∷ []) (front_all P most (chars text) h) (last, tt))
    | inr fits ↦ subst (λ (t : List ℕ). AllByRecursion P (chars t)) (sym (cut_all (suc most) text fits)) h
  ]

shown_plain : (b : Bool) (c : ℕ) → IsPlain c → ArePlain (cond b (escape_unicode c) (c ∷ []))
shown_plain true c h = plain_unicode c
shown_plain false c h = (h, tt)

visible_plain : (cs : List ℕ) → ArePlain cs → ArePlain (flat_map shown cs)
visible_plain [] h = tt
visible_plain (c ∷ cs) h = plain_both (shown c) (flat_map shown cs) (shown_plain (is_hidden c) c h.0) (visible_plain cs h.1)

pub fits : Fits
fits n text some utf8 = fits_cells n (visible text) some (visible_utf8 text utf8)

pub hide_nothing : HideNothing
hide_nothing n text utf8 = cut_holds IsSeen refl n (visible text) (visible_utf8 text utf8) (visible_seen text utf8)

pub control_nothing : ControlNothing
control_nothing limits order m n place answered text is within listed utf8 =
    let bytes = plain_text limits order m is n place answered text within listed in
    let characters = plain_chars (chars text) (subst ArePlain (sym (encodes-chars text utf8)) bytes) in
    cut_holds IsPlain refl n (visible text) (visible_utf8 text utf8) (subst ArePlain (sym (visible_chars text utf8)) (visible_plain (chars text) characters))
