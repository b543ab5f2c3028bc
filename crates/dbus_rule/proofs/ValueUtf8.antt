-- A value that is read from UTF-8 is UTF-8.
use Rattle.std.proofs.Common.{◌≡◌, ℕ, suc, ◌+◌, ◌<◌, ◌≤◌, Bool, true, false, ◌&&◌, eqb, ltb, List, [], ◌∷◌, ◌++◌, length, get_or, refl, sym, ap, ◌∙◌, subst, append_assoc, append-nil, arith}
use Rattle.std.specs.List.{AllByRecursion}
use Rattle.std.specs.Str.{IsUtf8}
use Rattle.std.proofs.lemmas.Bool.{cond_both, and_parts, ltb-true, ltb-false}
use Rattle.std.proofs.lemmas.Str.{IsUtf8-append, IsUtf8-nil, encode_ascii, inside_one, length-encode, len_utf8_bounds}
use lib.Utf8.{encode, encodes, scalar, scalars}
use Rattle.dbus_rule.specs.declared.value_cut.Mode.TheVariants.{Outside, Escape, Inside}
use Rattle.dbus_rule.specs.Values.{Reading, closed, quote_first, scan}
use Rattle.dbus_rule.proofs.Values.{at_plain, no_escape, after_escape, in_quote, reading_value}

low_or_high : (P : Type 0) (c : ℕ) → (c < 128 → P) → (128 ≤ c → P) → P
low_or_high P c f g = go (ltb c 128) refl
  where
    go : (t : Bool) → ltb c 128 ≡ t → P
    go true e = f (ltb-true c 128 e)
    go false e = g (ltb-false c 128 e)

abbrev pub AreHigh : List ℕ → Type 0
AreHigh w = AllByRecursion (λ b. 128 ≤ b) w

all_index : (w : List ℕ) → ((k : ℕ) → k < length w → 128 ≤ get_or w k 0) → AreHigh w
all_index [] f = tt
all_index (b ∷ w) f = (f 0 (omega arith), all_index w (λ k l. f (suc k) (omega (arith, l))))

high : (c : ℕ) → 128 ≤ c → AreHigh (encode c)
high c h = all_index (encode c) (λ k l. low_or_high (128 ≤ get_or (encode c) k 0) (get_or (encode c) k 0) (λ s. let e = inside_one c [] (encode c) k (sym (append-nil (encode c))) l s in absurd (omega (arith, e, h, s))) (λ g. g))

scan_high : (w r : List ℕ) (n : ℕ) (v : List ℕ) → AreHigh w → scan Outside n v (w ++ r) ≡ scan Outside (n + length w) (v ++ w) r
scan_high [] r n v h = let e : n ≡ n + 0 = omega arith in ap (λ x. scan Outside x v r) e ∙ ap (λ x. scan Outside (n + 0) x r) (sym (append-nil v))
scan_high (b ∷ w) r n v h =
    let e : n + 1 + length w ≡ n + length (b ∷ w) = omega arith in
    let l = h.0 in
    at_plain n v (b ∷ (w ++ r)) b (w ++ r) refl (λ q. omega (arith, q, l)) (λ q. omega (arith, q, l)) (no_escape b (w ++ r) (λ q. omega (arith, q, l))) ∙ scan_high w r (n + 1) (v ++ b ∷ []) h.1 ∙ ap (λ x. scan Outside x ((v ++ b ∷ []) ++ w) r) e ∙ ap (λ x. scan Outside (n + length (b ∷ w)) x r) (append_assoc v (b ∷ []) w)

inside_high : (w r : List ℕ) (q n : ℕ) (v : List ℕ) → AreHigh w → scan (Inside q) n v (w ++ r) ≡ scan (Inside q) (n + length w) (v ++ w) r
inside_high [] r q n v h = let e : n ≡ n + 0 = omega arith in ap (λ x. scan (Inside q) x v r) e ∙ ap (λ x. scan (Inside q) (n + 0) x r) (sym (append-nil v))
inside_high (b ∷ w) r q n v h =
    let e : n + 1 + length w ≡ n + length (b ∷ w) = omega arith in
    let l = h.0 in
    in_quote q n v (b ∷ (w ++ r)) b (w ++ r) refl (λ z. omega (arith, z, l)) ∙ inside_high w r q (n + 1) (v ++ b ∷ []) h.1 ∙ ap (λ x. scan (Inside q) x ((v ++ b ∷ []) ++ w) r) e ∙ ap (λ x. scan (Inside q) (n + length (b ∷ w)) x r) (append_assoc v (b ∷ []) w)

escape_high : (w r : List ℕ) (n : ℕ) (v : List ℕ) → 1 ≤ length w → AreHigh w → scan Escape n v (w ++ r) ≡ scan Outside (n + length w) (v ++ w) r
escape_high [] r n v l h = absurd (omega (arith, l))
escape_high (b ∷ w) r n v l h =
    let e : n + 1 + length w ≡ n + length (b ∷ w) = omega arith in
    after_escape n v (b ∷ (w ++ r)) b (w ++ r) refl ∙ scan_high w r (n + 1) (v ++ b ∷ []) h.1 ∙ ap (λ x. scan Outside x ((v ++ b ∷ []) ++ w) r) e ∙ ap (λ x. scan Outside (n + length (b ∷ w)) x r) (append_assoc v (b ∷ []) w)

some_bytes : (c : ℕ) → 1 ≤ length (encode c)
some_bytes c = let e = length-encode c in let b = (len_utf8_bounds c).0 in omega (arith, e, b)

one_char : (c : ℕ) → scalar c ≡ true → IsUtf8 (encode c)
one_char c e = (c ∷ [], (ap (λ t. t && true) e, append-nil (encode c)))

push_char : (v : List ℕ) (c : ℕ) → scalar c ≡ true → IsUtf8 v → IsUtf8 (v ++ encode c)
push_char v c e u = IsUtf8-append v (encode c) u (one_char c e)

push_low : (v : List ℕ) (c : ℕ) → c < 128 → scalar c ≡ true → IsUtf8 v → IsUtf8 (v ++ c ∷ [])
push_low v c l e u = subst (λ z. IsUtf8 (v ++ z)) (encode_ascii c l) (push_char v c e u)

abbrev pub GivesUtf8 : Reading → Type 0
GivesUtf8 x = IsUtf8 (reading_value x)

mutual
  from_outside : (cs : List ℕ) (n : ℕ) (v : List ℕ) → scalars cs ≡ true → IsUtf8 v → GivesUtf8 (scan Outside n v (encodes cs))
  from_outside [] n v s u = u
  from_outside (c ∷ cs) n v s u =
      let p = and_parts (scalar c) (scalars cs) s in
      low_or_high (GivesUtf8 (scan Outside n v (encode c ++ encodes cs))) c
      (λ l. subst (λ z. GivesUtf8 (scan Outside n v (z ++ encodes cs))) (sym (encode_ascii c l))
      (cond_both (eqb c 44) _ _ GivesUtf8 (λ e. u)
      (λ e. cond_both (eqb c 39) _ _ GivesUtf8 (λ e. from_inside cs n (n + 1) v p.1 u)
      (λ e. cond_both (eqb c 92 && quote_first (encodes cs)) _ _ GivesUtf8 (λ e. from_escape cs (n + 1) v p.1 u)
      (λ e. from_outside cs (n + 1) (v ++ c ∷ []) p.1 (push_low v c l p.0 u))))))
      (λ h. subst GivesUtf8 (sym (scan_high (encode c) (encodes cs) n v (high c h))) (from_outside cs (n + length (encode c)) (v ++ encode c) p.1 (push_char v c p.0 u)))

  from_escape : (cs : List ℕ) (n : ℕ) (v : List ℕ) → scalars cs ≡ true → IsUtf8 v → GivesUtf8 (scan Escape n v (encodes cs))
  from_escape [] n v s u = u
  from_escape (c ∷ cs) n v s u =
      let p = and_parts (scalar c) (scalars cs) s in
      low_or_high (GivesUtf8 (scan Escape n v (encode c ++ encodes cs))) c
      (λ l. subst (λ z. GivesUtf8 (scan Escape n v (z ++ encodes cs))) (sym (encode_ascii c l)) (from_outside cs (n + 1) (v ++ c ∷ []) p.1 (push_low v c l p.0 u)))
      (λ h. subst GivesUtf8 (sym (escape_high (encode c) (encodes cs) n v (some_bytes c) (high c h))) (from_outside cs (n + length (encode c)) (v ++ encode c) p.1 (push_char v c p.0 u)))

  from_inside : (cs : List ℕ) (q n : ℕ) (v : List ℕ) → scalars cs ≡ true → IsUtf8 v → GivesUtf8 (scan (Inside q) n v (encodes cs))
  from_inside [] q n v s u = IsUtf8-nil
  from_inside (c ∷ cs) q n v s u =
      let p = and_parts (scalar c) (scalars cs) s in
      low_or_high (GivesUtf8 (scan (Inside q) n v (encode c ++ encodes cs))) c
      (λ l. subst (λ z. GivesUtf8 (scan (Inside q) n v (z ++ encodes cs))) (sym (encode_ascii c l))
      (cond_both (eqb c 39) _ _ GivesUtf8 (λ e. from_outside cs (n + 1) v p.1 u)
      (λ e. from_inside cs q (n + 1) (v ++ c ∷ []) p.1 (push_low v c l p.0 u))))
      (λ h. subst GivesUtf8 (sym (inside_high (encode c) (encodes cs) q n v (high c h))) (from_inside cs q (n + length (encode c)) (v ++ encode c) p.1 (push_char v c p.0 u)))

pub value_utf8 : (w v : List ℕ) (n m : ℕ) (r : List ℕ) → IsUtf8 w → scan Outside n [] w ≡ closed v m r → IsUtf8 v
value_utf8 w v n m r u e =
    let h = from_outside u.0 n [] u.1.0 IsUtf8-nil in
    subst (λ x. GivesUtf8 x) e (subst (λ z. GivesUtf8 (scan Outside n [] z)) u.1.1 h)
