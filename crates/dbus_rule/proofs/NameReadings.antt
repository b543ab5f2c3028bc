-- What the cut of a name says of the text.
use Rattle.std.proofs.Common.{◌≡◌, ℕ, zero, suc, ◌+◌, ◌-◌, ◌<◌, ◌≤◌, List, [], ◌∷◌, ◌++◌, length, drop, take, replicate, refl, sym, ap, ◌∙◌, subst, append_assoc, arith, length-append, length-drop, Some, None, eqb}
use Rattle.std.proofs.Math.Seq.{take-append_seam, drop-append_seam}
use Rattle.std.proofs.lemmas.List.{take-append-drop, length-take-le}
use Rattle.std.proofs.lemmas.Bool.{cond_both, eqb-true, eqb-false}
use Rattle.std.specs.List.{AllByRecursion}
use Rattle.dbus_rule.specs.declared.key.Key.{Key}
use Rattle.dbus_rule.specs.declared.fault.RuleReason.{RuleReason}
use Rattle.dbus_rule.specs.declared.fault.RuleReason.TheVariants.{KeyName, KeyTwice, PathAndNamespace}
use Rattle.dbus_rule.specs.Keys.{key_text, IsKey, IsNamed}
use Rattle.dbus_rule.specs.Values.{Ends, pieces_text}
use Rattle.dbus_rule.specs.Rules.{Pair, Item, item_text}
use Rattle.dbus_rule.specs.Faults.{NoSpaceFirst, IsNameByte, IsNoEquals, HasName, IsNamedFault, IsPairFault}
use Rattle.dbus_rule.specs.PairReadings.{NameCut, equals_at, none_at, name_cut, IsClash, IsKeyAt}
use Rattle.dbus_rule.proofs.Keys.{key_names, key_first}
use Rattle.dbus_rule.proofs.Values.{Stops, cut_same}

pub record IsCutAt (n : ℕ) (w : List ℕ) (m : ℕ) : Type 0 where
  pub front : List ℕ
  pub more : List ℕ
  pub front_is : AllByRecursion IsNameByte front
  pub spelled : w ≡ front ++ 61 ∷ more
  pub place : m ≡ n + length front

pub record IsNoneAt (n : ℕ) (w : List ℕ) (m : ℕ) : Type 0 where
  pub front : List ℕ
  pub more : List ℕ
  pub front_is : AllByRecursion IsNameByte front
  pub ends : Ends more
  pub spelled : w ≡ front ++ more
  pub place : m ≡ n + length front

abbrev pub IsNameCut : ℕ → List ℕ → NameCut → Type 0
IsNameCut n w (equals_at m) = IsCutAt n w m
IsNameCut n w (none_at m) = IsNoneAt n w m

cut_more : (n b : ℕ) (c : List ℕ) (x : NameCut) → IsNameByte b → IsNameCut (n + 1) c x → IsNameCut n (b ∷ c) x
cut_more n b c (equals_at m) e h = let k = h.place in record { front = b ∷ h.front; more = h.more; front_is = (e, h.front_is); spelled = ap (λ z. b ∷ z) h.spelled; place = omega (arith, k) }
cut_more n b c (none_at m) e h = let k = h.place in record { front = b ∷ h.front; more = h.more; front_is = (e, h.front_is); ends = h.ends; spelled = ap (λ z. b ∷ z) h.spelled; place = omega (arith, k) }

name_cut_is : (n : ℕ) (w : List ℕ) → IsNameCut n w (name_cut n w)
name_cut_is n [] = record { front = []; more = []; front_is = tt; ends = tt; spelled = refl; place = omega arith }
name_cut_is n (b ∷ c) =
    cond_both (eqb b 61) _ _ (IsNameCut n (b ∷ c))
    (λ e. record { front = []; more = c; front_is = tt; spelled = ap (λ z. z ∷ c) (eqb-true b 61 e); place = omega arith })
    (λ e1. cond_both (eqb b 44) _ _ (IsNameCut n (b ∷ c))
    (λ e. record { front = []; more = b ∷ c; front_is = tt; ends = eqb-true b 44 e; spelled = refl; place = omega arith })
    (λ e2. cut_more n b c (name_cut (n + 1) c) (eqb-false b 44 e2, eqb-false b 61 e1) (name_cut_is (n + 1) c)))

pub cut_at : (n : ℕ) (w : List ℕ) (m : ℕ) → equals_at m ≡ name_cut n w → IsCutAt n w m
cut_at n w m e = subst (λ x. IsNameCut n w x) (sym e) (name_cut_is n w)

not_spaces : (w : List ℕ) (k : ℕ) → NoSpaceFirst w → 0 < length w → w ≡ replicate k 32 → ⊥
not_spaces [] k f l e = absurd (omega (arith, l))
not_spaces (b ∷ w) zero f l e = cc
not_spaces (b ∷ w) (suc k) f l e = let q : b ≡ 32 = cc in f q

pub left_over : (n : ℕ) (w : List ℕ) → n < length w → 0 < length (drop n w)
left_over n w l = let k = length-drop n w in omega (arith, k, l)

-- no `=` in what is left
pub no_equals_fault : (n : ℕ) (w : List ℕ) (m : ℕ) → NoSpaceFirst w → 0 < length w → none_at m ≡ name_cut n w → IsNoEquals w n m
no_equals_fault n w m f l e =
    let h : IsNoneAt n w m = subst (λ x. IsNameCut n w x) (sym e) (name_cut_is n w) in
    record { front = h.front; more = h.more; front_is = h.front_is; ends = h.ends; some = λ k q. not_spaces w k f l q; spelled = h.spelled; place = h.place }

-- what stands after a part of what is left
pub drop_past : (n : ℕ) (w x y : List ℕ) → n ≤ length w → drop n w ≡ x ++ y → drop (n + length x) w ≡ y
drop_past n w x y l e =
    let t = take n w in
    let k : length t ≡ n = length-take-le n w l in
    let f : w ≡ (t ++ x) ++ y = sym (take-append-drop n w) ∙ ap (λ z. t ++ z) e ∙ sym (append_assoc t x y) in
    let m : length (t ++ x) ≡ n + length x = length-append t x ∙ ap (λ z. z + length x) k in
    subst (λ i. drop i w ≡ y) m (ap (λ z. drop (length (t ++ x)) z) f ∙ drop-append_seam (t ++ x) y)

pub cut_front : (n : ℕ) (w : List ℕ) (m : ℕ) (h : IsCutAt n w m) → take (m - n) w ≡ h.front
cut_front n w m h =
    let k = h.place in
    let e : length h.front ≡ m - n = omega (arith, k) in
    subst (λ i. take i w ≡ h.front) e (ap (λ z. take (length h.front) z) h.spelled ∙ take-append_seam h.front (61 ∷ h.more))

pub cut_rest : (n : ℕ) (w : List ℕ) (m : ℕ) → n ≤ length w → (h : IsCutAt n (drop n w) m) → drop (m + 1) w ≡ h.more
cut_rest n w m l h =
    let k = h.place in
    let a = length-append h.front (61 ∷ []) in
    let e : n + length (h.front ++ 61 ∷ []) ≡ m + 1 = omega (arith, k, a) in
    subst (λ i. drop i w ≡ h.more) e (drop_past n w (h.front ++ 61 ∷ []) h.more l (h.spelled ∙ sym (append_assoc h.front (61 ∷ []) h.more)))

front_first : (x r : List ℕ) → NoSpaceFirst (x ++ r) → NoSpaceFirst x
front_first [] r h = tt
front_first (b ∷ x) r h = h

pub cut_has : (n : ℕ) (w : List ℕ) (m : ℕ) → NoSpaceFirst w → (h : IsCutAt n w m) → HasName w 0 h.front h.more
cut_has n w m f h = record { name_is = h.front_is; first = front_first h.front (61 ∷ h.more) (subst (λ z. NoSpaceFirst z) h.spelled f); spelled = h.spelled }

-- a name that is no key's
pub unknown_fault : (seen : List Pair) (n : ℕ) (w : List ℕ) (m : ℕ) → NoSpaceFirst w → equals_at m ≡ name_cut n w → IsNamed (take (m - n) w) None → IsNamedFault seen w n KeyName n
unknown_fault seen n w m f e u =
    let h = cut_at n w m e in
    record { spaces = 0; name = h.front; more = h.more; has = cut_has n w m f h; fault = (λ k i q. u k i (cut_front n w m h ∙ q), omega arith) }

named_fault : (seen : List Pair) (n : ℕ) (w : List ℕ) (m : ℕ) (key : Key) (reason : RuleReason) → NoSpaceFirst w → (h : IsCutAt n w m) → IsKey key → h.front ≡ key_text key → IsClash seen key (Some reason) → IsPairFault seen w n reason n
named_fault seen n w m key KeyTwice f h i q c =
    let z : n + 0 ≡ n = omega arith in
    record { spaces = 0; name = h.front; more = h.more; has = cut_has n w m f h; fault = record { key = key; key_is = i; named = q; fault = (c, sym z) } }
named_fault seen n w m key PathAndNamespace f h i q c =
    let z : n + 0 ≡ n = omega arith in
    record { spaces = 0; name = h.front; more = h.more; has = cut_has n w m f h; fault = record { key = key; key_is = i; named = q; fault = (c.0, c.1, sym z) } }
named_fault seen n w m key r f h i q c = absurd c

-- a key that may not stand
pub clash_fault : (seen : List Pair) (n : ℕ) (w : List ℕ) (m : ℕ) (key : Key) (reason : RuleReason) → NoSpaceFirst w → equals_at m ≡ name_cut n w → IsNamed (take (m - n) w) (Some key) → IsClash seen key (Some reason) → IsPairFault seen w n reason n
clash_fault seen n w m key reason f e u c =
    let h = cut_at n w m e in
    named_fault seen n w m key reason f h u.0 (sym (cut_front n w m h) ∙ u.1) c

pub key_at : (seen : List Pair) (n : ℕ) (w : List ℕ) (m : ℕ) (key : Key) → n ≤ length w → equals_at m ≡ name_cut n (drop n w) → IsNamed (take (m - n) (drop n w)) (Some key) → IsClash seen key None → IsKeyAt seen w n key (m + 1)
key_at seen n w m key l e u c =
    let h = cut_at n (drop n w) m e in
    let q : h.front ≡ key_text key = sym (cut_front n (drop n w) m h) ∙ u.1 in
    let k = h.place in
    let s = ap length q in
    record {
      key_is = u.0;
      new = c;
      spelled = h.spelled ∙ ap (λ z. z ++ 61 ∷ h.more) q ∙ ap (λ z. key_text key ++ 61 ∷ z) (sym (cut_rest n w m l h));
      place = omega (arith, k, s);
    }

-- A pair's name is cut from its text in one way.

ends_mark : (r : List ℕ) → Ends r → Stops IsNameByte r
ends_mark [] h = tt
ends_mark (b ∷ c) h = λ n. n.0 h

space_name : IsNameByte 32
space_name = (λ e. omega (arith, e), λ e. omega (arith, e))

pub spaces_names : (n : ℕ) (x : List ℕ) → AllByRecursion IsNameByte x → AllByRecursion IsNameByte (replicate n 32 ++ x)
spaces_names zero x h = h
spaces_names (suc n) x h = (space_name, spaces_names n x h)

no_space_front : (x m : List ℕ) → NoSpaceFirst x → NoSpaceFirst (x ++ 61 ∷ m)
no_space_front [] m h = λ e. omega (arith, e)
no_space_front (b ∷ x) m h = h

named_same : (s t : ℕ) (x y m n : List ℕ) → AllByRecursion IsNameByte x → AllByRecursion IsNameByte y → NoSpaceFirst x → NoSpaceFirst y → replicate s 32 ++ (x ++ 61 ∷ m) ≡ replicate t 32 ++ (y ++ 61 ∷ n) → (s ≡ t) × (x ≡ y) × (m ≡ n)
named_same zero zero x y m n h k a b e = let z = cut_same IsNameByte x y (61 ∷ m) (61 ∷ n) h k (λ b. b.1 refl) (λ b. b.1 refl) e in let q = z.1 in (refl, z.0, cc)
named_same zero (suc t) x y m n h k a b e = let f = subst (λ z. NoSpaceFirst z) e (no_space_front x m a) in absurd (f refl)
named_same (suc s) zero x y m n h k a b e = let f = subst (λ z. NoSpaceFirst z) (sym e) (no_space_front y n b) in absurd (f refl)
named_same (suc s) (suc t) x y m n h k a b e =
    let q : replicate s 32 ++ (x ++ 61 ∷ m) ≡ replicate t 32 ++ (y ++ 61 ∷ n) = cc in
    let z = named_same s t x y m n h k a b q in
    (ap suc z.0, z.1, z.2)

pub has_same : (c : List ℕ) (s t : ℕ) (x y m n : List ℕ) → HasName c s x m → HasName c t y n → (s ≡ t) × (x ≡ y) × (m ≡ n)
has_same c s t x y m n h k = named_same s t x y m n h.name_is k.name_is h.first k.first (sym h.spelled ∙ k.spelled)

pub item_spelled : (i : Item) (r : List ℕ) → item_text i ++ r ≡ replicate i.spaces 32 ++ (key_text i.key ++ 61 ∷ (pieces_text i.pieces ++ r))
item_spelled i r = append_assoc (replicate i.spaces 32) (key_text i.key ++ 61 ∷ pieces_text i.pieces) r ∙ ap (λ x. replicate i.spaces 32 ++ x) (append_assoc (key_text i.key) (61 ∷ pieces_text i.pieces) r)

pub item_has : (i : Item) (r : List ℕ) → IsKey i.key → HasName (item_text i ++ r) i.spaces (key_text i.key) (pieces_text i.pieces ++ r)
item_has i r h = record { name_is = key_names i.key h; first = key_first i.key; spelled = item_spelled i r }

-- where no `=` comes before the comma or the end, there is one place and no name
pub no_equals_same : (c : List ℕ) (n a b : ℕ) → IsNoEquals c n a → IsNoEquals c n b → a ≡ b
no_equals_same c n a b h k =
    let z = cut_same IsNameByte h.front k.front h.more k.more h.front_is k.front_is (ends_mark h.more h.ends) (ends_mark k.more k.ends) (sym h.spelled ∙ k.spelled) in
    h.place ∙ ap (λ x. n + length x) z.0 ∙ sym k.place

pub no_equals_no_name : (c : List ℕ) (n a s : ℕ) (x m : List ℕ) → IsNoEquals c n a → HasName c s x m → ⊥
no_equals_no_name c n a s x m h k =
    let y = replicate s 32 ++ x in
    let e : c ≡ y ++ 61 ∷ m = k.spelled ∙ sym (append_assoc (replicate s 32) x (61 ∷ m)) in
    let z = cut_same IsNameByte h.front y h.more (61 ∷ m) h.front_is (spaces_names s x k.name_is) (ends_mark h.more h.ends) (λ b. b.1 refl) (sym h.spelled ∙ e) in
    let f : 61 ≡ 44 = subst (λ u. Ends u) z.1 h.ends in
    omega (arith, f)

-- spaces alone have no name
pub spaces_no_name : (n s : ℕ) (x m : List ℕ) → HasName (replicate n 32) s x m → ⊥
spaces_no_name n s x m k = spaces_no n s (x ++ 61 ∷ m) (no_space_front x m k.first) (not_empty x m) k.spelled
  where
    not_empty : (x m : List ℕ) → x ++ 61 ∷ m ≡ [] → ⊥
    not_empty [] m e = cc
    not_empty (b ∷ x) m e = cc

    spaces_no : (n s : ℕ) (z : List ℕ) → NoSpaceFirst z → (z ≡ [] → ⊥) → replicate n 32 ≡ replicate s 32 ++ z → ⊥
    spaces_no zero zero z f g e = g (sym e)
    spaces_no zero (suc s) z f g e = cc
    spaces_no (suc n) zero z f g e = (subst (λ y. NoSpaceFirst y) (sym e) f) refl
    spaces_no (suc n) (suc s) z f g e = let q : replicate n 32 ≡ replicate s 32 ++ z = cc in spaces_no n s z f g q
