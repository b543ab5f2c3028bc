-- The fronts of a text, and what a value that meets a text is trimmed to.
use Rattle.std.proofs.Common.{◌≡◌, ◌⊎◌, ⊎_elim, inl, inr, ℕ, ◌-◌, ◌<◌, List, [], ◌∷◌, ◌++◌, length, get_or, take, Option, Some, None, refl, sym, ap, ◌∙◌, subst, append_assoc, append-nil, length-append, arith}
use Rattle.std.specs.Prelude.{◌==◌, IfSome}
use Rattle.std.proofs.lemmas.Bool.{cases_Bool, cond-true, cond-false, eqb-true}
use Rattle.std.proofs.lemmas.List.{take_at}
use Rattle.dbus_texts.specs.Characters.{slash}
use Rattle.dbus_match.specs.Matching.{BeginsWith, EndsInSlash, IsInNamespace, PathsMeet}
use Rattle.dbus_match.proofs.Decided.{within_reads}
use Rattle.dbus_rule_set.specs.Places.{Covers, IsAmong, IsFront, trimmed}
use Rattle.dbus_rule_set.specs.TextNumbers.{text_hash}

-- a front is nothing, the text, or what stands before the separator at some place
pub fronts_met : (s : ℕ) (w hs : List ℕ) → IsAmong (text_hash []) hs → IsAmong (text_hash w) hs → ((k : ℕ) → k < length w → get_or w k 0 ≡ s → IsAmong (text_hash (take k w)) hs) → (u : List ℕ) → IsFront s u w → IsAmong (text_hash u) hs
fronts_met s w hs none whole before u front =
    ⊎_elim
    (λ e. subst (λ (x : List ℕ). IsAmong (text_hash x) hs) (sym e) none)
    (λ f. ⊎_elim
    (λ e. subst (λ (x : List ℕ). IsAmong (text_hash x) hs) (sym e) whole)
    (λ b.
    let reads = within_reads s u w b in
    let is : take (length u) w ≡ u = ap (take (length u)) reads.0.1 ∙ take_at u reads.0.0 (length u) refl in
    subst (λ (x : List ℕ). IsAmong (text_hash x) hs) is (before (length u) reads.1 reads.2))
    f)
    front

-- ---- without a last `/`

pub trimmed_slash : (u : List ℕ) → trimmed (u ++ slash ∷ []) ≡ u
trimmed_slash [] = refl
trimmed_slash (b ∷ []) = refl
trimmed_slash (b ∷ c ∷ u) = ap (λ x. b ∷ x) (trimmed_slash (c ∷ u))

pub trimmed_is : (v : List ℕ) → (v ≡ trimmed v ++ slash ∷ []) ⊎ (trimmed v ≡ v)
trimmed_is [] = inr refl
trimmed_is (b ∷ []) =
    ⊎_elim
    (λ t. inl (ap (λ x. x ∷ []) (eqb-true b slash t) ∙ ap (λ x. x ++ slash ∷ []) (sym (cond-true (b == slash) [] (b ∷ []) t))))
    (λ f. inr (cond-false (b == slash) [] (b ∷ []) f))
    (cases_Bool (b == slash))
trimmed_is (b ∷ c ∷ w) = ⊎_elim (λ e. inl (ap (λ x. b ∷ x) e)) (λ e. inr (ap (λ x. b ∷ x) e)) (trimmed_is (c ∷ w))

pub take_front : (w front : List ℕ) → w ≡ front ++ slash ∷ [] → take (length w - 1) w ≡ trimmed w
take_front w front is =
    let long = length-append front (slash ∷ []) in
    let one : length front ≡ length w - 1 = omega (arith, ap length is, long) in
    ap (take (length w - 1)) is ∙ take_at front (slash ∷ []) (length w - 1) one ∙ sym (trimmed_slash front) ∙ ap trimmed (sym is)

-- trimmed, a text is a front of itself
front_itself : (v w : List ℕ) → v ≡ w → IsFront slash (trimmed v) w
front_itself v w is =
    ⊎_elim
    (λ e. inr (inr ([], sym is ∙ e ∙ sym (append-nil (trimmed v ++ slash ∷ [])))))
    (λ e. inr (inl (e ∙ is)))
    (trimmed_is v)

-- so is one that the text begins with, if `/` follows or ends it
front_before : (v w : List ℕ) → BeginsWith w (v ++ slash ∷ []) → IsFront slash (trimmed v) w
front_before v w b =
    ⊎_elim
    (λ e. inr (inr (slash ∷ b.0, b.1 ∙ append_assoc v (slash ∷ []) b.0 ∙ ap (λ x. x ++ slash ∷ b.0) e)))
    (λ e. inr (inr (subst (λ (x : List ℕ). BeginsWith w (x ++ slash ∷ [])) (sym e) b)))
    (trimmed_is v)

pub namespace_front : (v w : List ℕ) → IsInNamespace v w → IsFront slash (trimmed v) w
namespace_front v w is = ⊎_elim (λ e. inl (ap trimmed e)) (λ i. ⊎_elim (λ e. front_itself v w e) (λ b. front_before v w b) i) is

pub path_front : (v w : List ℕ) → (EndsInSlash w → ⊥) → PathsMeet v w → IsFront slash (trimmed v) w
path_front v w no_slash meets =
    ⊎_elim
    (λ e. front_itself v w e)
    (λ b. ⊎_elim
    (λ d.
    let is : v ≡ d.0.0 ++ slash ∷ [] = d.0.1 in
    let front : trimmed v ≡ d.0.0 = ap trimmed is ∙ trimmed_slash d.0.0 in
    inr (inr (subst (λ (x : List ℕ). BeginsWith w (x ++ slash ∷ [])) (sym front) (subst (λ (x : List ℕ). BeginsWith w x) is d.1))))
    (λ d. absurd (no_slash d.0))
    b)
    meets

-- ---- of a text that may be there

pub covers_along : (text : Option (List ℕ)) (Q R : List ℕ → List ℕ → Type 0) (f : List ℕ → List ℕ) (hs : List ℕ) → ((v w : List ℕ) → Q v w → R (f v) w) → Covers text R (λ v. v) hs → Covers text Q f hs
covers_along None Q R f hs step all v q = absurd q
covers_along (Some w) Q R f hs step all v q = all (f v) (step v w q)

pub some_along : {X : Type 0} {P Q : X → Type 0} (r : Option X) → ((x : X) → P x → Q x) → IfSome r P → IfSome r Q
some_along None f p = p
some_along (Some x) f p = f x p
