-- Two lists of pairs in canonical order with the same members are one.
use Rattle.std.proofs.Common.{◌≡◌, ◌<◌, List, [], ◌∷◌, ◌⊎◌, ⊎_elim, inl, inr, refl, sym, ap, ◌∙◌, subst, arith, ◌++◌, ℕ, suc, ◌+◌, ◌≤◌, Bool, true, false, cond, ltb, zero, length, drop, get_or, None, Some, if◌then◌else◌, string_bytes, ◌&&◌, nat_eq}
use Rattle.std.specs.Prelude.{◌↔◌, Result, Ok, Err, OnOk, is_ok}
use Rattle.std.specs.List.{prefix_len, insert, AllByRecursion, AllZip}
use Rattle.std.proofs.lemmas.Bool.{cond-true, cond-false, ltb-true, ltb-false}
use Rattle.std.proofs.lemmas.Bool.Decides.{Decides-and}
use Rattle.std.proofs.lemmas.Grind.{common_steps}
use Rattle.std.specs.Bool.{Decides}
use Rattle.std.specs.Cmp.Lexicographic.{pointwise, pointwise_decides, bytes_decides}
use Rattle.std.specs.Cmp.Derive.Mapped.{pointwise-map}
use Rattle.dbus_rule.specs.Keys.{rank, IsValueOf}
use Rattle.dbus_rule.specs.Rules.{Pair, IsAbove, IsAscending, IsIn, condition_pair, condition_pairs, insert_pair, HasKey, AreApart, SpellsRule, is_sender, sender_of, IsRule}
use Rattle.dbus_rule.specs.declared.condition.Condition.{Condition}
use Rattle.dbus_rule.specs.declared.key.Key.{Key}
use Rattle.dbus_rule.specs.declared.key.Key.TheVariants.{Path, PathNamespace, MessageType}
use Rattle.dbus_rule.specs.Faults.{Excluded, IsNew, AreGood}
use Rattle.dbus_rule.specs.declared.rule.Rule.{Rule}
use Rattle.dbus_rule.specs.contracts.key.KeyPartialEq.TheImpl as key_eq
use Rattle.dbus_rule.specs.RuleViews.{AreSameRule}

pub above_in : (p q : Pair) (ps : List Pair) → IsAbove p ps → IsIn q ps → rank p.key < rank q.key
above_in p q [] a h = absurd h
above_in p q (x ∷ ps) a h = ⊎_elim (λ e. subst (λ y. rank p.key < rank y.key) (sym e) a.0) (λ k. above_in p q ps a.1 k) h

not_below_itself : (p q : Pair) → p ≡ q → rank p.key < rank q.key → ⊥
not_below_itself p q e l = let k = ap (λ y. rank y.key) e in omega (arith, k, l)

both_below : (p q : Pair) → rank p.key < rank q.key → rank q.key < rank p.key → ⊥
both_below p q l m = omega (arith, l, m)

heads : (p q : Pair) (ps qs : List Pair) → IsAbove p ps → IsAbove q qs → (p ≡ q) ⊎ IsIn p qs → (q ≡ p) ⊎ IsIn q ps → p ≡ q
heads p q ps qs a b h k = ⊎_elim (λ e. e) (λ i. ⊎_elim (λ e. sym e) (λ j. absurd (both_below p q (above_in p q ps a j) (above_in q p qs b i))) k) h

tail_in : (p q x : Pair) (ps qs : List Pair) → p ≡ q → IsAbove p ps → IsIn x ps → (x ≡ q) ⊎ IsIn x qs → IsIn x qs
tail_in p q x ps qs e a i h = ⊎_elim (λ k. absurd (not_below_itself p x (e ∙ sym k) (above_in p x ps a i))) (λ k. k) h

pub same_sorted : (ps qs : List Pair) → IsAscending ps → IsAscending qs → ((x : Pair) → IsIn x ps → IsIn x qs) → ((x : Pair) → IsIn x qs → IsIn x ps) → ps ≡ qs
same_sorted [] [] a b f g = refl
same_sorted [] (q ∷ qs) a b f g = absurd (g q (inl refl))
same_sorted (p ∷ ps) [] a b f g = absurd (f p (inl refl))
same_sorted (p ∷ ps) (q ∷ qs) a b f g =
    let e : p ≡ q = heads p q ps qs a.0 b.0 (f p (inl refl)) (g q (inl refl)) in
    let t : ps ≡ qs = same_sorted ps qs a.1 b.1 (λ x i. tail_in p q x ps qs e a.0 i (f x (inr i))) (λ x i. tail_in q p x qs ps (sym e) b.0 i (g x (inr i))) in
    ap (λ y. y ∷ ps) e ∙ ap (λ y. q ∷ y) t

-- A pair put in its place in canonical order.

-- each of the prefix is below p
abbrev pub AreBelow : List Pair → Pair → Type 0
AreBelow [] p = Unit {0}
AreBelow (q ∷ qs) p = (rank q.key < rank p.key) × AreBelow qs p

above_mid : (q p : Pair) (front back : List Pair) → rank q.key < rank p.key → IsAbove q (front ++ back) → IsAbove q (front ++ p ∷ back)
above_mid q p [] back l a = (l, a)
above_mid q p (x ∷ front) back l a = (a.0, above_mid q p front back l a.1)

pub insert_ascends : (front back : List Pair) (p : Pair) → AreBelow front p → IsAbove p back → IsAscending (front ++ back) → IsAscending (front ++ p ∷ back)
insert_ascends [] back p b a h = (a, h)
insert_ascends (q ∷ front) back p b a h = (above_mid q p front back b.0 h.0, insert_ascends front back p b.1 a h.1)

pub insert_has : (front back : List Pair) (p x : Pair) → IsIn x (front ++ p ∷ back) ↔ ((x ≡ p) ⊎ IsIn x (front ++ back))
insert_has [] back p x = (λ h. h, λ h. h)
insert_has (q ∷ front) back p x =
    let r = insert_has front back p x in (
      λ h. ⊎_elim (λ e. inr (inl e)) (λ i. ⊎_elim (λ e. inl e) (λ j. inr (inr j)) (r.0 i)) h,
      λ h. ⊎_elim (λ e. inr (r.1 (inl e))) (λ k. ⊎_elim (λ e. inl e) (λ j. inr (r.1 (inr j))) k) h,
    )

-- A pair put in its place in canonical order.

-- conditions: the insertion at the first that is not below
inserted_head : {A : Type 0} (x c : Condition A) (cs : List (Condition A)) (m : ℕ) (t : Bool) → condition_pairs (insert cs m x) ≡ insert_pair (condition_pair x) (condition_pairs cs) → condition_pairs (insert (c ∷ cs) (cond t (1 + m) 0) x) ≡ cond t (condition_pair c ∷ insert_pair (condition_pair x) (condition_pairs cs)) (condition_pair x ∷ condition_pair c ∷ condition_pairs cs)
inserted_head x c cs m true h =
    let e : suc m ≡ 1 + m = omega arith in
    subst (λ n. condition_pairs (insert (c ∷ cs) n x) ≡ condition_pair c ∷ insert_pair (condition_pair x) (condition_pairs cs)) e (ap (λ ps. condition_pair c ∷ ps) h)
inserted_head x c cs m false h = refl

pub inserted : {A : Type 0} (x : Condition A) (cs : List (Condition A)) → condition_pairs (insert cs (prefix_len (λ c. ltb (rank c.key) (rank x.key)) cs) x) ≡ insert_pair (condition_pair x) (condition_pairs cs)
inserted x [] = refl
inserted x (c ∷ cs) = inserted_head x c cs (prefix_len (λ d. ltb (rank d.key) (rank x.key)) cs) (ltb (rank c.key) (rank x.key)) (inserted x cs)

-- pairs: what stands before and after
pub record IsPlaced (p : Pair) (ps : List Pair) : Type 0 where
  pub front : List Pair
  pub back : List Pair
  pub split : ps ≡ front ++ back
  pub placed : insert_pair p ps ≡ front ++ p ∷ back
  pub below : AreBelow front p
  pub above : IsAbove p back

above_all : (p q : Pair) (qs : List Pair) → rank p.key < rank q.key → IsAbove q qs → IsAbove p qs
above_all p q [] l a = tt
above_all p q (r ∷ qs) l a = (let k = a.0 in omega (arith, k, l), above_all p q qs l a.1)

place_head : (p q : Pair) (qs : List Pair) → IsAbove q qs → (rank q.key ≡ rank p.key → ⊥) → IsPlaced p qs → (t : Bool) → ltb (rank q.key) (rank p.key) ≡ t → IsPlaced p (q ∷ qs)
place_head p q qs a d r true e =
    record {
      front = q ∷ r.front;
      back = r.back;
      split = ap (λ ps. q ∷ ps) r.split;
      placed = cond-true (ltb (rank q.key) (rank p.key)) (q ∷ insert_pair p qs) (p ∷ q ∷ qs) e ∙ ap (λ ps. q ∷ ps) r.placed;
      below = (ltb-true (rank q.key) (rank p.key) e, r.below);
      above = r.above;
    }
place_head p q qs a d r false e =
    let l : rank p.key < rank q.key = above_of (rank p.key) (rank q.key) (ltb-false (rank q.key) (rank p.key) e) d in
    record { front = []; back = q ∷ qs; split = refl; placed = cond-false (ltb (rank q.key) (rank p.key)) (q ∷ insert_pair p qs) (p ∷ q ∷ qs) e; below = tt; above = (l, above_all p q qs l a) }
  where
    above_of : (m n : ℕ) → m ≤ n → (n ≡ m → ⊥) → m < n
    above_of m n l d = omega (arith, l, d)

pub placed : (p : Pair) (ps : List Pair) → IsAscending ps → ((q : Pair) → IsIn q ps → rank q.key ≡ rank p.key → ⊥) → IsPlaced p ps
placed p [] a d = record { front = []; back = []; split = refl; placed = refl; below = tt; above = tt }
placed p (q ∷ qs) a d = place_head p q qs a.0 (d q (inl refl)) (placed p qs a.1 (λ r i. d r (inr i))) (ltb (rank q.key) (rank p.key)) refl

pub inserted_ok : {A T E : Type 0} (r : Result T E) (x : Condition A) (xs zs ys : List (Condition A)) (n : ℕ) → zs ≡ xs → n ≡ prefix_len (λ c. ltb (rank c.key) (rank x.key)) zs → ys ≡ (if is_ok r then insert xs n x else xs) → OnOk r (condition_pairs ys ≡ insert_pair (condition_pair x) (condition_pairs xs))
inserted_ok (Ok t) x xs zs ys n z p e = ap condition_pairs e ∙ ap (λ m. condition_pairs (insert xs m x)) (p ∙ ap (λ w. prefix_len (λ c. ltb (rank c.key) (rank x.key)) w) z) ∙ inserted x xs
inserted_ok (Err t) x xs zs ys n z p e = tt

-- Members of a list of pairs, and its keys.

pub all_in : (P : Pair → Type 0) (ps : List Pair) → ((p : Pair) → IsIn p ps → P p) → AllByRecursion P ps
all_in P [] f = tt
all_in P (p ∷ ps) f = (f p (inl refl), all_in P ps (λ q i. f q (inr i)))

pub in_all : (P : Pair → Type 0) (ps : List Pair) (p : Pair) → AllByRecursion P ps → IsIn p ps → P p
in_all P [] p h i = absurd i
in_all P (q ∷ qs) p h i = ⊎_elim (λ e. subst P (sym e) h.0) (λ j. in_all P qs p h.1 j) i

-- a pair of the list with the key
pub record AtKey (k : Key) (ps : List Pair) : Type 0 where
  pub pair : Pair
  pub is_in : IsIn pair ps
  pub key : k ≡ pair.key

pub at_key : (k : Key) (ps : List Pair) → HasKey k ps → AtKey k ps
at_key k [] h = absurd h
at_key k (q ∷ qs) h = ⊎_elim (λ e. record { pair = q; is_in = inl refl; key = e }) (λ j. let a = at_key k qs j in record { pair = a.pair; is_in = inr a.is_in; key = a.key }) h

pub has_key : (k : Key) (p : Pair) (ps : List Pair) → IsIn p ps → k ≡ p.key → HasKey k ps
has_key k p [] i e = absurd i
has_key k p (q ∷ qs) i e = ⊎_elim (λ d. inl (e ∙ ap (λ y. y.key) d)) (λ j. inr (has_key k p qs j e)) i

-- the same members have the same keys
pub keys_along : (ps qs : List Pair) → ((p : Pair) → IsIn p ps → IsIn p qs) → (k : Key) → HasKey k ps → HasKey k qs
keys_along ps qs f k h = let a = at_key k ps h in has_key k a.pair qs (f a.pair a.is_in) a.key

pub spells_good : (w : List _) (r : List Pair) (h : SpellsRule w r) → AreGood h.pairs
spells_good w r h =
    record {
      apart = h.apart;
      values = all_in (λ p. IsValueOf p.key p.value) h.pairs (λ p i. (in_all _ r p h.rule.pairs ((h.same p).0 i)).value);
      one_path = λ a b. h.rule.one_path (keys_along h.pairs r (λ p i. (h.same p).0 i) Path a) (keys_along h.pairs r (λ p i. (h.same p).0 i) PathNamespace b);
    }

pub in_front : (p : Pair) (xs ys : List Pair) → IsIn p xs → IsIn p (xs ++ ys)
in_front p [] ys h = absurd h
in_front p (x ∷ xs) ys h = ⊎_elim (λ e. inl e) (λ i. inr (in_front p xs ys i)) h

pub in_middle : (p : Pair) (xs ys : List Pair) → IsIn p (xs ++ p ∷ ys)
in_middle p [] ys = inl refl
in_middle p (x ∷ xs) ys = inr (in_middle p xs ys)

apart_middle : (p : Pair) (xs ys : List Pair) → AreApart (xs ++ p ∷ ys) → HasKey p.key xs → ⊥
apart_middle p [] ys a h = h
apart_middle p (x ∷ xs) ys a h = ⊎_elim (λ e. a.0 (has_key x.key p (xs ++ p ∷ ys) (in_middle p xs ys) (sym e))) (λ i. apart_middle p xs ys a.1 i) h

excluded_along : (k : Key) (xs ps : List Pair) → ((p : Pair) → IsIn p xs → IsIn p ps) → HasKey k ps → (HasKey Path ps → HasKey PathNamespace ps → ⊥) → Excluded k xs → ⊥
excluded_along Path xs ps f h one e = one h (keys_along xs ps f PathNamespace e)
excluded_along PathNamespace xs ps f h one e = one (keys_along xs ps f Path e) h
excluded_along k xs ps f h one e = e

-- among pairs that may stand together each key is new after those before it
pub good_new : (xs : List Pair) (p : Pair) (ys : List Pair) → AreGood (xs ++ p ∷ ys) → IsNew xs p.key
good_new xs p ys h =
    (λ k. apart_middle p xs ys h.apart k, λ e. excluded_along p.key xs (xs ++ p ∷ ys) (λ q i. in_front q xs (p ∷ ys) i) (has_key p.key p (xs ++ p ∷ ys) (in_middle p xs ys) refl) h.one_path e)

pub good_value : (xs : List Pair) (p : Pair) (ys : List Pair) → AreGood (xs ++ p ∷ ys) → IsValueOf p.key p.value
good_value xs p ys h = in_all (λ q. IsValueOf q.key q.value) (xs ++ p ∷ ys) p h.values (in_middle p xs ys)

-- what is new after pairs is new after their members in another order
pub excluded_members : (k : Key) (ps qs : List Pair) → ((p : Pair) → IsIn p ps → IsIn p qs) → Excluded k ps → Excluded k qs
excluded_members Path ps qs f h = keys_along ps qs f PathNamespace h
excluded_members PathNamespace ps qs f h = keys_along ps qs f Path h
excluded_members k ps qs f h = h

pub new_members : (k : Key) (ps qs : List Pair) → ((p : Pair) → IsIn p qs → IsIn p ps) → IsNew ps k → IsNew qs k
new_members k ps qs f h = (λ i. h.0 (keys_along qs ps f k i), λ e. h.1 (excluded_members k qs ps f e))

-- Lists of conditions, as lists of pairs.

pub has_at : {A : Type 0} (cs : List (Condition A)) (i : ℕ) (c : Condition A) (k : Key) → i < length cs → c ≡ get_or cs i c → c.key ≡ k → HasKey k (condition_pairs cs)
has_at [] i c k l e f = absurd (omega (arith, l))
has_at (d ∷ cs) zero c k l e f = inl (sym f ∙ ap (λ x. x.key) e)
has_at (d ∷ cs) (suc i) c k l e f = inr (has_at cs i c k (omega (arith, l)) e f)

-- its key and its value are a pair of the list
pub value_at : {A : Type 0} (cs : List (Condition A)) (i : ℕ) (c : Condition A) (k : Key) (v : List ℕ) → i < length cs → c ≡ get_or cs i c → c.key ≡ k → v ≡ string_bytes c.value → IsIn (record { key = k; value = v }) (condition_pairs cs)
value_at [] i c k v l e f h = absurd (omega (arith, l))
value_at (d ∷ cs) zero c k v l e f h = inl (λ j. record { key = (sym f ∙ ap (λ x. x.key) e) j; value = (h ∙ ap (λ x. string_bytes x.value) e) j })
value_at (d ∷ cs) (suc i) c k v l e f h = inr (value_at cs i c k v (omega (arith, l)) e f h)

-- the sender of the conditions from a place on: the one there, or one after it
pub sender_step : {A : Type 0} (cs : List (Condition A)) (i : ℕ) (c : Condition A) → i < length cs → c ≡ get_or cs i c
    → sender_of (condition_pairs (drop i cs)) ≡ (if is_sender c.key then Some (string_bytes c.value) else sender_of (condition_pairs (drop (i + 1) cs)))
sender_step [] i c l e = absurd (omega (arith, l))
sender_step (d ∷ cs) zero c l e = ap (λ x. if is_sender x.key then Some (string_bytes x.value) else sender_of (condition_pairs cs)) (sym e)
sender_step (d ∷ cs) (suc i) c l e =
    let next : suc (i + 1) ≡ suc i + 1 = omega arith in
    sender_step cs i c (omega (arith, l)) e ∙ ap (λ (j : ℕ). if is_sender c.key then Some (string_bytes c.value) else sender_of (condition_pairs (drop j (d ∷ cs)))) next

-- from the end on there is none
pub sender_end : {A : Type 0} (cs : List (Condition A)) (i : ℕ) → length cs ≤ i → sender_of (condition_pairs (drop i cs)) ≡ None
sender_end [] zero l = refl
sender_end [] (suc i) l = refl
sender_end (d ∷ cs) zero l = absurd (omega (arith, l))
sender_end (d ∷ cs) (suc i) l = sender_end cs i (omega (arith, l))

-- Copies of conditions.

-- copies of conditions are the same pairs
pub conditions_copied : {A : Type 0} (cs ds : List (Condition A))
    → AllZip (λ c d. condition_pair d ≡ condition_pair c) cs ds
    → condition_pairs ds ≡ condition_pairs cs
conditions_copied [] [] h = refl
conditions_copied [] (d ∷ ds) h = absurd h
conditions_copied (c ∷ cs) [] h = absurd h
conditions_copied (c ∷ cs) (d ∷ ds) h = λ i. h.0 i ∷ conditions_copied cs ds h.1 i

-- and so a rule where those are one
pub copy_is_rule : {A : Type 0} (cs ds : List (Condition A))
    → AllZip (λ c d. condition_pair d ≡ condition_pair c) cs ds
    → ∥ IsRule (condition_pairs cs) ∥₁ → ∥ IsRule (condition_pairs ds) ∥₁
copy_is_rule cs ds h r = subst (λ ps. ∥ IsRule ps ∥₁) (sym (conditions_copied cs ds h)) r

-- Rules are equal exactly if they have the same keys with the same values.

keys_equal : (a b : Key) → Decides (key_eq.ghosts.eq a b) (a ≡ b)
keys_equal MessageType b = grind (arith, common_steps)
keys_equal a b = grind (arith, common_steps)

-- what `==` computes of two conditions, from their pairs
abbrev pub same_pair : Pair → Pair → Bool
same_pair p q = key_eq.ghosts.eq p.key q.key && pointwise nat_eq p.value q.value

pairs_equal : (p q : Pair) → Decides (same_pair p q) (p ≡ q)
pairs_equal p q =
    let both = Decides-and (key_eq.ghosts.eq p.key q.key) (pointwise nat_eq p.value q.value) (keys_equal p.key q.key) (bytes_decides p.value q.value) in
    (λ t. λ i. record { key = (both.0 t).0 i; value = (both.0 t).1 i }, λ h. both.1 (ap (λ r. r.key) h, ap (λ r. r.value) h))

pub rules_equal : {A : Type 0} (r s : Rule A)
    → Decides (pointwise (λ c d. same_pair (condition_pair c) (condition_pair d)) r.conditions.items s.conditions.items) (AreSameRule r s)
rules_equal r s =
    let cs = r.conditions.items in
    let ds = s.conditions.items in
    let P : Bool → Type 0 = λ t. Decides t (condition_pairs cs ≡ condition_pairs ds) in
    subst P (pointwise-map condition_pair same_pair cs ds) (pointwise_decides pairs_equal (condition_pairs cs) (condition_pairs ds))
