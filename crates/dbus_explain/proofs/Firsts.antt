-- Values of several types that are passed one after another.
use Rattle.std.proofs.Common.{◌≡◌, ℕ, zero, suc, ◌-◌, ◌≤◌, List, ◌++◌, length, drop, take, refl, sym, ap, subst, ◌∙◌, arith, append_assoc}
use Rattle.dbus_texts.specs.Types.{TypeTree, TypeTrees, NoTypes, MoreTypes, AreShaped, sig, sigs}
use Rattle.dbus_types.proofs.TypeCodes.{no_text_of}
use Rattle.dbus_value_laws.proofs.Composition.{all_more}
use Rattle.dbus_value_laws.proofs.ValueSteps.{shaped_inside}
use Rattle.dbus_value_model.specs.Bounds.{bounds_of}
use Rattle.dbus_value_model.specs.Outcomes.{SpelledAll}
use Rattle.dbus_value_model.specs.Specification.{specification}
use Rattle.dbus_value_model.specs.Spelling.{spellings}
use Rattle.dbus_value_model.specs.Values.{ValueTrees, NoValues, MoreValues, types_of}
use Rattle.dbus_value_model.specs.declared.limits.TheConstants.{DEPTH_LIMIT}
use Rattle.dbus_walk.specs.Standing.{AllStand}
use Rattle.dbus_explain.specs.Before.{AreFirstOf}
use Rattle.dbus_explain.specs.Places.{IsAmong, IsInFirst, PassEach, Passes, order_of}
use Rattle.dbus_explain.proofs.OneField.{passes_one}
use Rattle.std.proofs.lemmas.List.{length-append}
use Rattle.std.proofs.Math.Seq.{take-append_seam}

-- no types have no text
pub no_types : (us : TypeTrees) → length (sigs us) ≡ 0 → us ≡ NoTypes
no_types NoTypes none = refl
no_types (MoreTypes u us) none = absurd (no_text_of u (sig u) refl (omega (arith, none, length-append (sig u) (sigs us))))

module _ (bytes : List ℕ) (at : ℕ) where
  -- one value more
  pub each_more : (n : ℕ) (ts : TypeTrees) (p : ℕ) (us vs : TypeTrees) (u : TypeTree) (q r : ℕ) → PassEach bytes at n ts p us q → us ≡ MoreTypes u vs → Passes bytes at u q r → PassEach bytes at (suc n) ts p vs r
  each_more zero ts p us vs u q r h is more =
      let here = subst (λ (k : ℕ). Passes bytes at u k r) h.1 more in
      subst (λ (l : TypeTrees). PassEach bytes at 1 l p vs r) (sym (sym h.0 ∙ is)) (r, here, (refl, refl))
  each_more (suc n) NoTypes p us vs u q r h is more = absurd h
  each_more (suc n) (MoreTypes t ts) p us vs u q r h is more = (h.0, h.1, each_more n ts h.0 us vs u q r h.2 is more)

  -- the place is in the first of the others
  pub among_each : (n : ℕ) (ts : TypeTrees) (p : ℕ) (us vs : TypeTrees) (u : TypeTree) (q : ℕ) → PassEach bytes at n ts p us q → us ≡ MoreTypes u vs → IsInFirst bytes at us q → IsAmong bytes at ts p n u q
  among_each zero ts p us vs u q h is in_it =
      let there = subst (λ (l : TypeTrees). IsInFirst bytes at l q) is in_it in
      subst (λ (l : TypeTrees). IsAmong bytes at l p 0 u q) (sym (sym h.0 ∙ is)) (refl, h.1, subst (λ (k : ℕ). IsInFirst bytes at (MoreTypes u vs) k) h.1 there)
  among_each (suc n) NoTypes p us vs u q h is in_it = absurd h
  among_each (suc n) (MoreTypes t ts) p us vs u q h is in_it = (h.0, h.1, among_each n ts h.0 us vs u q h.2 is in_it)

  -- it is in none, if there are no others
  pub among_no : (n : ℕ) (ts : TypeTrees) → AreShaped ts → (p q : ℕ) → PassEach bytes at n ts p NoTypes q → (m : ℕ) (t : TypeTree) (r : ℕ) → IsAmong bytes at ts p m t r → ⊥
  among_no zero ts shaped p q h m t r k = subst (λ (l : TypeTrees). IsAmong bytes at l p m t r) (sym h.0) k
  among_no (suc n) NoTypes shaped p q h m t r k = h
  among_no (suc n) (MoreTypes u ts) shaped p q h zero t r k = k.2 h.0 h.1
  among_no (suc n) (MoreTypes u ts) shaped p q h (suc m) t r k =
      let same = passes_one bytes at u (shaped_inside u shaped.0) p k.0 h.0 k.1 h.1 in
      among_no n ts shaped.1 h.0 q h.2 m t r (subst (λ (i : ℕ). IsAmong bytes at ts i m t r) same k.2)

  -- the values that are passed
  pub record Firsts (ts : TypeTrees) (p : ℕ) (us : TypeTrees) (q : ℕ) : Type 0 where
    pub values : ValueTrees
    pub first : AreFirstOf bytes at values ts p q
    pub spelled : SpelledAll (bounds_of specification) (order_of bytes) DEPTH_LIMIT p (drop p bytes) values q (drop q bytes)
    pub text : sigs ts ≡ sigs (types_of values) ++ sigs us
    pub shaped : AreShaped (types_of values)

  pub firsts : (n : ℕ) (ts : TypeTrees) → AreShaped ts → (p : ℕ) (us : TypeTrees) (q : ℕ) → PassEach bytes at n ts p us q → IsInFirst bytes at us q → Firsts ts p us q
  unfolding spellings
  firsts zero ts shaped p us q h in_it = record {
    values = NoValues;
    first = (h.1, subst (λ (k : ℕ). IsInFirst bytes at ts k) h.1 (subst (λ (l : TypeTrees). IsInFirst bytes at l q) h.0 in_it));
    spelled = record { formed = tt; within = tt; indexes = tt; bytes = ap (λ (k : ℕ). drop k bytes) (sym h.1); place = omega (arith, h.1) };
    text = ap sigs (sym h.0);
    shaped = tt;
  }
  firsts (suc n) NoTypes shaped p us q h in_it = absurd h
  firsts (suc n) (MoreTypes t ts) shaped p us q h in_it =
      let rest = firsts n ts shaped.1 h.0 us q h.2 in_it in
      let v = h.1.0 in
      let one = h.1.1 in
      let is = one.has_type in
      record {
        values = MoreValues v rest.values;
        first = (h.0, one, rest.first);
        spelled = all_more (bounds_of specification) (order_of bytes) DEPTH_LIMIT at t p (drop p bytes) v h.0 (drop h.0 bytes) rest.values q (drop q bytes) one rest.spelled;
        text = ap (λ (l : List ℕ). sig t ++ l) rest.text ∙ sym (append_assoc (sig t) (sigs (types_of rest.values)) (sigs us)) ∙ ap (λ (u : TypeTree). (sig u ++ sigs (types_of rest.values)) ++ sigs us) (sym is);
        shaped = subst (λ (u : TypeTree). AreShaped (MoreTypes u (types_of rest.values))) (sym is) (shaped.0, rest.shaped);
      }

  -- the text of their types
  pub firsts_text : (ts : TypeTrees) (p : ℕ) (us : TypeTrees) (q : ℕ) (f : Firsts ts p us q) (types left : List ℕ) (n : ℕ) → sigs ts ≡ types → sigs us ≡ left → n ≡ length types - length left → sigs (types_of f.values) ≡ take n types
  firsts_text ts p us q f types left n whole others is =
      let x = sigs (types_of f.values) in
      let apart : types ≡ x ++ left = sym whole ∙ f.text ∙ ap (λ (l : List ℕ). x ++ l) others in
      let long : n ≡ length x = omega (arith, is, ap (λ (l : List ℕ). length l) apart, length-append x left) in
      sym (ap (λ (l : List ℕ). take n l) apart ∙ ap (λ (k : ℕ). take k (x ++ left)) long ∙ take-append_seam x left)

  -- they stand in the bytes
  pub firsts_stand : (ts : TypeTrees) (p : ℕ) (us : TypeTrees) (q : ℕ) (types : List ℕ) → (f : Firsts ts p us q) → sigs (types_of f.values) ≡ types → p ≤ length bytes
      → AllStand (order_of bytes) DEPTH_LIMIT types p bytes f.values (drop q bytes)
  firsts_stand ts p us q types f text inside = record {
    text = text;
    shaped = f.shaped;
    formed = f.spelled.formed;
    array = (bounds_of specification).array;
    small = omega arith;
    within = f.spelled.within;
    spelled = f.spelled.bytes;
    inside = inside;
  }
