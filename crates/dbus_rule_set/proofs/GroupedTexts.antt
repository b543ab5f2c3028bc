-- A set of texts with one more, and with one less.
use Rattle.std.proofs.Common.{◌≡◌, Result, Ok, Err, OnErr, ℕ, Bool, true, false, not, cond, ◌&&◌, ◌||◌, List, [], ◌∷◌, length, refl, sym, ◌∙◌, ap, subst, arith, string_bytes}
use Rattle.std.specs.Prelude.{String}
use Rattle.std.specs.BTreeSet.{BTreeSet, Updates, UpdatesBy, contains_text}
use Rattle.std.specs.Cmp.Lexicographic.{slice_cmp}
use Rattle.std.specs.BTreeMap.{is_at}
use Rattle.std.specs.List.{list_any}
use Rattle.std.specs.Ordering.{nat_cmp}
use Rattle.std.specs.Bool.{Decides}
use Rattle.std.specs.Ordering.{is_eq}
use Rattle.std.specs.Str.{bytes_eq}
use Rattle.std.specs.String.{string_cmp}
use Rattle.std.specs.declared.alloc.Global.{Global}
use Rattle.std.proofs.lemmas.Bool.{false≢true}
use Rattle.std.proofs.lemmas.Cmp.{eq_by_cmp_equiv, nat_list_cmp_total}
use Rattle.std.proofs.lemmas.Map.Text.{btree_set_updates_text, is_eq-slice_cmp}
use Rattle.std.proofs.lemmas.Slice.Eq.{bytes_eq-Decides}

pub flip : (v w : List ℕ) → bytes_eq v w ≡ bytes_eq w v
flip v w = sym (is_eq-slice_cmp v w) ∙ (eq_by_cmp_equiv nat_list_cmp_total).symm v w ∙ is_eq-slice_cmp w v

either : (b c : Bool) → cond b true c ≡ (b || c)
either true c = refl
either false c = refl

neither : (b c : Bool) → cond b false c ≡ (not b && c)
neither true c = refl
neither false c = refl

pub added : (w : List ℕ) (text : String Global) (s n : BTreeSet (String Global)) → string_bytes text ≡ w → Updates string_cmp s n text true → (t : List ℕ) → contains_text n t ≡ (bytes_eq w t || contains_text s t)
added w text s n is up t = btree_set_updates_text (string_bytes text) s n true up t ∙ either (bytes_eq (string_bytes text) t) (contains_text s t) ∙ ap (λ v. bytes_eq v t || contains_text s t) is

pub taken : (w : List ℕ) (s n : BTreeSet (String Global)) → UpdatesBy string_cmp (λ k. slice_cmp nat_cmp w (string_bytes k)) s n false → (t : List ℕ) → contains_text n t ≡ (not (bytes_eq w t) && contains_text s t)
taken w s n up t = btree_set_updates_text w s n false up t ∙ neither (bytes_eq w t) (contains_text s t)

-- what holds whatever the answer is
pub on_any : {T E : Type 0} {P : Type 0} (r : Result T E) → P → OnErr r P
on_any (Ok x) p = tt
on_any (Err e) p = p

-- one of the texts is this
abbrev pub any_is : List ℕ → List (String Global) → Bool
any_is w texts = list_any (is_at (λ k. slice_cmp nat_cmp w (string_bytes k))) texts

-- ---- what is left

-- one text is gone, and then those that are left are
less_one : (a r s h : Bool) → (not (r && s) && (not (a && s) && h)) ≡ (not ((a || r) && s) && h)
less_one true true true h = refl
less_one true false true h = refl
less_one false r true h = refl
less_one true true false h = refl
less_one true false false h = refl
less_one false true false h = refl
less_one false false false h = refl

pub one_gone : (n w : List ℕ) (x : String Global) (rest : List (String Global)) (s h g : Bool) → w ≡ string_bytes x → g ≡ (not (bytes_eq w n && s) && h)
    → (not (any_is n rest && s) && g) ≡ (not (any_is n (x ∷ rest) && s) && h)
one_gone n w x rest s h g same is =
    let at : bytes_eq w n ≡ is_eq (slice_cmp nat_cmp n (string_bytes x)) = ap (λ v. bytes_eq v n) same ∙ (flip (string_bytes x) n ∙ sym (is_eq-slice_cmp n (string_bytes x))) in
    ap (λ b. not (any_is n rest && s) && b) is ∙ (ap (λ b. not (any_is n rest && s) && (not (b && s) && h)) at ∙ less_one (is_eq (slice_cmp nat_cmp n (string_bytes x))) (any_is n rest) s h)

module _ (F : List ℕ → List ℕ → Bool) (name n u : List ℕ) where
  -- the owners of the name are gone
  pub all_gone : (o : Bool) → o ≡ F name u → (not (o && bytes_eq name n) && F n u) ≡ (not (bytes_eq name n) && F n u)
  all_gone o is =
      let step : (b : Bool) → Decides b (name ≡ n) → (not (o && b) && F n u) ≡ (not b && F n u) =
      elim [
        | true ↦ λ d. ap (λ b. not (b && true) && F n u) (is ∙ ap (λ w. F w u) (d.0 refl)) ∙ neither_both (F n u)
        | false ↦ λ d. ap (λ b. not b && F n u) (and_false o)
      ] in
      step (bytes_eq name n) (bytes_eq-Decides name n)
    where
      neither_both : (b : Bool) → (not (b && true) && b) ≡ false
      neither_both true = refl
      neither_both false = refl

      and_false : (b : Bool) → (b && false) ≡ false
      and_false true = refl
      and_false false = refl

  -- the name has one owner in place of those that it had
  pub one_anew : (q o : Bool) → o ≡ (not q && F name u) → (not (o && bytes_eq name n) && (q && bytes_eq name n || F n u)) ≡ cond (bytes_eq name n) q (F n u)
  one_anew q o is =
      let step : (b : Bool) → Decides b (name ≡ n) → (not (o && b) && (q && b || F n u)) ≡ cond b q (F n u) =
      elim [
        | true ↦ λ d. ap (λ b. not (b && true) && (q && true || F n u)) (is ∙ ap (λ w. not q && F w u) (d.0 refl)) ∙ here q (F n u)
        | false ↦ λ d. there o q (F n u)
      ] in
      step (bytes_eq name n) (bytes_eq-Decides name n)
    where
      here : (q f : Bool) → (not ((not q && f) && true) && (q && true || f)) ≡ q
      here true f = refl
      here false true = refl
      here false false = refl

      there : (o q f : Bool) → (not (o && false) && (q && false || f)) ≡ f
      there true true f = refl
      there true false f = refl
      there false true f = refl
      there false false f = refl

  -- one that it had none of
  pub one_new : (q : Bool) → F name u ≡ false → (q && bytes_eq name n || F n u) ≡ cond (bytes_eq name n) q (F n u)
  one_new q none = one_anew q false (sym (ap (λ b. not q && b) none ∙ nothing (not q)))
    where
      nothing : (b : Bool) → (b && false) ≡ false
      nothing true = refl
      nothing false = refl

-- ---- one text alone

abbrev at : List ℕ → String Global → Bool
at w k = is_eq (slice_cmp nat_cmp w (string_bytes k))

or_none : (b : Bool) → (b || false) ≡ b
or_none true = refl
or_none false = refl

alone_in : (ks : List (String Global)) (w : List ℕ) → length ks ≡ 1 → list_any (at w) ks ≡ true → (t : List ℕ) → list_any (at t) ks ≡ bytes_eq w t
alone_in [] w one is t = absurd (false≢true is)
alone_in (k ∷ []) w one is t =
    let same : w ≡ string_bytes k = (bytes_eq-Decides w (string_bytes k)).0 (sym (is_eq-slice_cmp w (string_bytes k)) ∙ (sym (or_none (at w k)) ∙ is)) in
    or_none (at t k) ∙ (is_eq-slice_cmp t (string_bytes k) ∙ (flip t (string_bytes k) ∙ ap (λ v. bytes_eq v t) (sym same)))
alone_in (k ∷ j ∷ ks) w one is t = absurd (omega (arith, one))

pub alone : (s : BTreeSet (String Global)) (w : List ℕ) → length s.keys ≡ 1 → contains_text s w ≡ true → (t : List ℕ) → contains_text s t ≡ bytes_eq w t
alone s w one is t = alone_in s.keys w one is t
