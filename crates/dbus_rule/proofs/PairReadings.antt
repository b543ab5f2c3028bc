-- The faults of a pair whose key is read.
use Rattle.std.proofs.Common.{◌≡◌, ℕ, ◌+◌, ◌<◌, ◌≤◌, List, [], ◌∷◌, ◌++◌, length, drop, take, get_or, refl, sym, ap, ◌∙◌, subst, append_assoc, arith, length-append, length-drop, ◌⊎◌, ⊎_elim, inl, inr, append-nil}
use Rattle.std.proofs.lemmas.List.{take-append-drop, length-take-le}
use Rattle.std.proofs.lemmas.Str.{IsUtf8-drop, IsCharBoundary-after_ascii}
use Rattle.std.specs.Str.{IsUtf8}
use Rattle.std.specs.Prelude.{◌↔◌}
use Rattle.std.specs.List.{AllByRecursion}
use Rattle.dbus_rule.specs.declared.key.Key.{Key}
use Rattle.dbus_rule.specs.declared.fault.RuleFault.{RuleFault}
use Rattle.dbus_rule.specs.declared.fault.RuleFault.TheVariants.{Memory, Bad}
use Rattle.dbus_rule.specs.declared.fault.RuleReason.TheVariants.{OpenQuote, BadValue, Nul, NoEquals, KeyName, KeyTwice, PathAndNamespace}
use Rattle.dbus_rule.specs.Keys.{key_text, IsValueOf, IsKey, rank}
use Rattle.dbus_rule.specs.Values.{pieces_text, IsOpen, IsClosed, pieces_value, ArePieces, Ends}
use Rattle.dbus_rule.specs.Rules.{Pair, Item, item_text, IsIn, HasKey, IsPair, IsAscending, AreApart, insert_pair}
use Rattle.dbus_rule.specs.Faults.{HasName, IsNew, IsBad, IsFaultOfKey, IsKeyed, IsFaultOfName, IsNamedFault, IsPairFault, Excluded, AreGood}
use Rattle.dbus_rule.specs.PairReadings.{IsOpenFault, IsFaultAt, IsKeyAt}
use Rattle.dbus_rule.proofs.Keys.{key_names, key_first, key_same, rank_same}
use Rattle.dbus_rule.specs.declared.fault.RuleReason.{RuleReason}
use Rattle.dbus_rule.proofs.Values.{pieces_same, open_same, open_not_closed, all_front, all_back, all_join}
use Rattle.dbus_rule.proofs.NameReadings.{has_same, item_has, no_equals_same, no_equals_no_name}
use Rattle.dbus_rule.specs.declared.key.Key.TheVariants.{Path, PathNamespace}
use Rattle.dbus_rule.proofs.SortedConditions.{insert_ascends, insert_has, in_all, has_key, new_members, placed}

key_has : (seen : List Pair) (w : List ℕ) (n : ℕ) (k : Key) (m : ℕ) → IsKeyAt seen w n k m → HasName (drop n w) 0 (key_text k) (drop m w)
key_has seen w n k m h = record { name_is = key_names k h.key_is; first = key_first k; spelled = h.spelled }

value_place : (n l m : ℕ) → m ≡ n + l + 1 → m ≡ n + 0 + l + 1
value_place n l m e = omega (arith, e)

pub open_fault : (seen : List Pair) (w : List ℕ) (n : ℕ) (k : Key) (m : ℕ) (e : RuleFault) → IsKeyAt seen w n k m → IsOpenFault w m e → IsFaultAt seen w n e
open_fault seen w n k m Memory h f = tt
open_fault seen w n k m (Bad at OpenQuote) h f =
    record {
      spaces = 0;
      name = key_text k;
      more = drop m w;
      has = key_has seen w n k m h;
      fault = record { key = k; key_is = h.key_is; named = refl; fault = (h.new, subst (λ z. IsOpen z (drop m w) at) (value_place n (length (key_text k)) m h.place) f) };
    }
open_fault seen w n k m (Bad at r) h f = absurd f

pub bad_fault : (seen : List Pair) (w : List ℕ) (n : ℕ) (k : Key) (m : ℕ) (v : List ℕ) (end : ℕ) → IsKeyAt seen w n k m → IsClosed m [] (drop m w) v end (drop end w) → (IsValueOf k v → ⊥) → IsFaultAt seen w n (Bad m BadValue)
bad_fault seen w n k m v end h c f =
    record {
      spaces = 0;
      name = key_text k;
      more = drop m w;
      has = key_has seen w n k m h;
      fault =
          record {
            key = k;
            key_is = h.key_is;
            named = refl;
            fault = (h.new, record { pieces = c.pieces; more = drop end w; are = c.are; ends = c.ends; spelled = c.spelled; bad = λ g. f (subst (λ z. IsValueOf k z) (sym c.value) g) }, value_place n (length (key_text k)) m h.place);
          };
    }

at_mid : (v : List ℕ) (s : ℕ) (r : List ℕ) → get_or (v ++ s ∷ r) (length v) 0 ≡ s
at_mid [] s r = refl
at_mid (a ∷ v) s r = at_mid v s r

after_equals : (w x y : List ℕ) (m : ℕ) → IsUtf8 w → w ≡ x ++ 61 ∷ y → m ≡ length x + 1 → IsUtf8 (drop m w)
after_equals w x y m u e p =
    let l = ap length e in
    let k = length-append x (61 ∷ y) in
    let b : get_or w (length x) 0 ≡ 61 = ap (λ z. get_or z (length x) 0) e ∙ at_mid x 61 y in
    let h = IsCharBoundary-after_ascii w (length x) u (omega (arith, l, k)) (omega (arith, b)) in
    subst (λ i. IsUtf8 (drop i w)) (sym p) (IsUtf8-drop w (length x + 1) u h)

-- a value's text is whole characters
pub value_whole : (seen : List Pair) (w : List ℕ) (n : ℕ) (k : Key) (m : ℕ) → n < length w → IsUtf8 w → IsKeyAt seen w n k m → IsUtf8 (drop m w)
value_whole seen w n k m l u h =
    let t = take n w in
    let a : length t ≡ n = length-take-le n w (omega (arith, l)) in
    let b = length-append t (key_text k) in
    let p = h.place in
    after_equals w (t ++ key_text k) (drop m w) m u (sym (take-append-drop n w) ∙ ap (λ z. t ++ z) h.spelled ∙ sym (append_assoc t (key_text k) (61 ∷ drop m w))) (omega (arith, a, b, p))

-- a value ends within the text
pub value_ends : (seen : List Pair) (w : List ℕ) (n : ℕ) (k : Key) (m : ℕ) (v : List ℕ) (end : ℕ) → n < length w → IsKeyAt seen w n k m → IsClosed m [] (drop m w) v end (drop end w) → end ≤ length w
value_ends seen w n k m v end l h c =
    let a = ap length h.spelled in
    let b = length-append (key_text k) (61 ∷ drop m w) in
    let d = ap length c.spelled in
    let e = length-append (pieces_text c.pieces) (drop end w) in
    let x = length-drop n w in
    let y = length-drop m w in
    let z = length-drop end w in
    let p = h.place in
    let q = c.place in
    omega (arith, l, a, b, d, e, x, y, z, p, q)

-- The text of a pair has at most one fault, and none where it spells a pair that may stand.

open_place : (v : ℕ) (c : List ℕ) (a b : ℕ) → IsOpen v c a → IsOpen v c b → a ≡ b
open_place v c a b h k = h.place ∙ ap (λ x. v + x) (open_same h.pieces k.pieces h.run k.run h.are k.are h.run_is k.run_is (sym h.spelled ∙ k.spelled)) ∙ sym k.place

open_bad : (v : ℕ) (k : Key) (c : List ℕ) (a : ℕ) → IsOpen v c a → IsBad k c → ⊥
open_bad v k c a h b = open_not_closed h.pieces b.pieces h.run b.more h.are b.are h.run_is b.ends (sym h.spelled ∙ b.spelled)

key_fault_same : (seen : List Pair) (key : Key) (p v : ℕ) (c : List ℕ) (r s : RuleReason) (a b : ℕ) → IsFaultOfKey seen key p v c r a → IsFaultOfKey seen key p v c s b → (r ≡ s) × (a ≡ b)
key_fault_same seen key p v c KeyTwice KeyTwice a b h k = (refl, h.1 ∙ sym k.1)
key_fault_same seen key p v c KeyTwice PathAndNamespace a b h k = absurd (k.0 h.0)
key_fault_same seen key p v c KeyTwice OpenQuote a b h k = absurd (k.0.0 h.0)
key_fault_same seen key p v c KeyTwice BadValue a b h k = absurd (k.0.0 h.0)
key_fault_same seen key p v c PathAndNamespace KeyTwice a b h k = absurd (h.0 k.0)
key_fault_same seen key p v c PathAndNamespace PathAndNamespace a b h k = (refl, h.2 ∙ sym k.2)
key_fault_same seen key p v c PathAndNamespace OpenQuote a b h k = absurd (k.0.1 h.1)
key_fault_same seen key p v c PathAndNamespace BadValue a b h k = absurd (k.0.1 h.1)
key_fault_same seen key p v c OpenQuote KeyTwice a b h k = absurd (h.0.0 k.0)
key_fault_same seen key p v c OpenQuote PathAndNamespace a b h k = absurd (h.0.1 k.1)
key_fault_same seen key p v c OpenQuote OpenQuote a b h k = (refl, open_place v c a b h.1 k.1)
key_fault_same seen key p v c OpenQuote BadValue a b h k = absurd (open_bad v key c a h.1 k.1)
key_fault_same seen key p v c BadValue KeyTwice a b h k = absurd (h.0.0 k.0)
key_fault_same seen key p v c BadValue PathAndNamespace a b h k = absurd (h.0.1 k.1)
key_fault_same seen key p v c BadValue OpenQuote a b h k = absurd (open_bad v key c b k.1 h.1)
key_fault_same seen key p v c BadValue BadValue a b h k = (refl, h.2 ∙ sym k.2)
key_fault_same seen key p v c Nul s a b h k = absurd h
key_fault_same seen key p v c NoEquals s a b h k = absurd h
key_fault_same seen key p v c KeyName s a b h k = absurd h
key_fault_same seen key p v c r s a b h k = absurd k

keyed_same : (seen : List Pair) (name : List ℕ) (p : ℕ) (c : List ℕ) (r s : RuleReason) (a b : ℕ) → IsKeyed seen name p c r a → IsKeyed seen name p c s b → (r ≡ s) × (a ≡ b)
keyed_same seen name p c r s a b h k =
    let e = key_same k.key h.key k.key_is h.key_is (sym k.named ∙ h.named) in
    key_fault_same seen h.key p (p + length name + 1) c r s a b h.fault (subst (λ y. IsFaultOfKey seen y p (p + length name + 1) c s b) e k.fault)

name_fault_same : (seen : List Pair) (name : List ℕ) (p : ℕ) (c : List ℕ) (r s : RuleReason) (a b : ℕ) → IsFaultOfName seen name p c r a → IsFaultOfName seen name p c s b → (r ≡ s) × (a ≡ b)
name_fault_same seen name p c KeyName KeyName a b h k = (refl, h.1 ∙ sym k.1)
name_fault_same seen name p c KeyName s a b h k = absurd (h.0 k.key k.key_is k.named)
name_fault_same seen name p c r KeyName a b h k = absurd (k.0 h.key h.key_is h.named)
name_fault_same seen name p c r s a b h k = keyed_same seen name p c r s a b h k

named_fault_same : (seen : List Pair) (c : List ℕ) (n : ℕ) (r s : RuleReason) (a b : ℕ) → IsNamedFault seen c n r a → IsNamedFault seen c n s b → (r ≡ s) × (a ≡ b)
named_fault_same seen c n r s a b h k =
    let e = has_same c k.spaces h.spaces k.name h.name k.more h.more k.has h.has in
    name_fault_same seen h.name (n + h.spaces) h.more r s a b h.fault (subst (λ y. IsFaultOfName seen h.name (n + y) h.more s b) e.0 (subst (λ y. IsFaultOfName seen y (n + k.spaces) h.more s b) e.1 (subst (λ y. IsFaultOfName seen k.name (n + k.spaces) y s b) e.2 k.fault)))

pub pair_fault_same : (seen : List Pair) (c : List ℕ) (n : ℕ) (r s : RuleReason) (a b : ℕ) → IsPairFault seen c n r a → IsPairFault seen c n s b → (r ≡ s) × (a ≡ b)
pair_fault_same seen c n Nul s a b h k = absurd h
pair_fault_same seen c n r Nul a b h k = absurd k
pair_fault_same seen c n NoEquals NoEquals a b h k = (refl, no_equals_same c n a b h k)
pair_fault_same seen c n NoEquals s a b h k = absurd (no_equals_no_name c n a k.spaces k.name k.more h k.has)
pair_fault_same seen c n r NoEquals a b h k = absurd (no_equals_no_name c n b h.spaces h.name h.more k h.has)
pair_fault_same seen c n r s a b h k = named_fault_same seen c n r s a b h k

-- a pair that may stand
pub record Stands (seen : List Pair) (i : Item) (r : List ℕ) : Type 0 where
  pub key_is : IsKey i.key
  pub are : ArePieces i.pieces r
  pub ends : Ends r
  pub new : IsNew seen i.key
  pub value : IsValueOf i.key (pieces_value i.pieces)

stands_key : (seen : List Pair) (i : Item) (r : List ℕ) (p v : ℕ) (reason : RuleReason) (at : ℕ) → Stands seen i r → IsFaultOfKey seen i.key p v (pieces_text i.pieces ++ r) reason at → ⊥
stands_key seen i r p v KeyTwice at h f = h.new.0 f.0
stands_key seen i r p v PathAndNamespace at h f = h.new.1 f.1
stands_key seen i r p v OpenQuote at h f = let o = f.1 in open_not_closed o.pieces i.pieces o.run r o.are h.are o.run_is h.ends (sym o.spelled)
stands_key seen i r p v BadValue at h f = let b = f.1 in b.bad (subst (λ y. IsValueOf i.key y) (pieces_same i.pieces b.pieces r b.more h.are b.are h.ends b.ends b.spelled).0 h.value)
stands_key seen i r p v reason at h f = f

stands_keyed : (seen : List Pair) (i : Item) (r : List ℕ) (p : ℕ) (reason : RuleReason) (at : ℕ) → Stands seen i r → IsKeyed seen (key_text i.key) p (pieces_text i.pieces ++ r) reason at → ⊥
stands_keyed seen i r p reason at h f =
    let e = key_same f.key i.key f.key_is h.key_is (sym f.named) in
    let v = p + length (key_text i.key) + 1 in
    stands_key seen i r p v reason at h (subst (λ y. IsFaultOfKey seen y p v (pieces_text i.pieces ++ r) reason at) e f.fault)

stands_name : (seen : List Pair) (i : Item) (r : List ℕ) (p : ℕ) (reason : RuleReason) (at : ℕ) → Stands seen i r → IsFaultOfName seen (key_text i.key) p (pieces_text i.pieces ++ r) reason at → ⊥
stands_name seen i r p KeyName at h f = f.0 i.key h.key_is refl
stands_name seen i r p reason at h f = stands_keyed seen i r p reason at h f

stands_named : (seen : List Pair) (i : Item) (r : List ℕ) (n : ℕ) (reason : RuleReason) (at : ℕ) → Stands seen i r → IsNamedFault seen (item_text i ++ r) n reason at → ⊥
stands_named seen i r n reason at h f =
    let e = has_same (item_text i ++ r) f.spaces i.spaces f.name (key_text i.key) f.more (pieces_text i.pieces ++ r) f.has (item_has i r h.key_is) in
    stands_name seen i r (n + f.spaces) reason at h (subst (λ y. IsFaultOfName seen y (n + f.spaces) (pieces_text i.pieces ++ r) reason at) e.1 (subst (λ y. IsFaultOfName seen f.name (n + f.spaces) y reason at) e.2 f.fault))

pub stands_no_fault : (seen : List Pair) (i : Item) (r : List ℕ) (n : ℕ) (reason : RuleReason) (at : ℕ) → Stands seen i r → IsPairFault seen (item_text i ++ r) n reason at → ⊥
stands_no_fault seen i r n Nul at h f = f
stands_no_fault seen i r n NoEquals at h f = no_equals_no_name (item_text i ++ r) n at i.spaces (key_text i.key) (pieces_text i.pieces ++ r) f (item_has i r h.key_is)
stands_no_fault seen i r n reason at h f = stands_named seen i r n reason at h f

-- A pair added to those of a rule.

-- what is known of the pairs
pub record AreAdded (qs ps rs : List Pair) (p : Pair) : Type 0 where
  pub good : AreGood (qs ++ p ∷ [])
  pub ordered : IsAscending rs
  pub pairs : AllByRecursion IsPair rs
  pub same : (x : Pair) → IsIn x (qs ++ p ∷ []) ↔ IsIn x rs

key_in_more : (k : Key) (p : Pair) (xs : List Pair) → HasKey k (xs ++ p ∷ []) → HasKey k xs ⊎ (k ≡ p.key)
key_in_more k p [] h = ⊎_elim (λ e. inr e) (λ i. absurd i) h
key_in_more k p (x ∷ xs) h = ⊎_elim (λ e. inl (inl e)) (λ i. ⊎_elim (λ j. inl (inr j)) (λ e. inr e) (key_in_more k p xs i)) h

apart_more : (p : Pair) (qs : List Pair) → AreApart qs → (HasKey p.key qs → ⊥) → AreApart (qs ++ p ∷ [])
apart_more p [] a f = (λ h. h, tt)
apart_more p (q ∷ qs) a f = (λ h. ⊎_elim (λ i. a.0 i) (λ e. f (inl (sym e))) (key_in_more q.key p qs h), apart_more p qs a.1 (λ h. f (inr h)))

one_path_more : (p : Pair) (qs : List Pair) → (HasKey Path qs → HasKey PathNamespace qs → ⊥) → (Excluded p.key qs → ⊥) → HasKey Path (qs ++ p ∷ []) → HasKey PathNamespace (qs ++ p ∷ []) → ⊥
one_path_more p qs one f a b =
    ⊎_elim
    (λ i. ⊎_elim (λ j. one i j) (λ e. f (subst (λ k. Excluded k qs) e i)) (key_in_more PathNamespace p qs b))
    (λ d. ⊎_elim (λ j. f (subst (λ k. Excluded k qs) d j)) (λ e. apart_paths (d ∙ sym e)) (key_in_more PathNamespace p qs b))
    (key_in_more Path p qs a)
  where
    apart_paths : Path ≡ PathNamespace → ⊥
    apart_paths e = cc

pub good_more : (p : Pair) (qs : List Pair) → AreGood qs → IsNew qs p.key → IsValueOf p.key p.value → AreGood (qs ++ p ∷ [])
good_more p qs h n v = record { apart = apart_more p qs h.apart n.0; values = all_join (λ q. IsValueOf q.key q.value) qs (p ∷ []) h.values (v, tt); one_path = one_path_more p qs h.one_path n.1 }

in_more : (x p : Pair) (qs : List Pair) → IsIn x (qs ++ p ∷ []) ↔ ((x ≡ p) ⊎ IsIn x qs)
in_more x p qs = let r = insert_has qs [] p x in (λ h. ⊎_elim (λ e. inl e) (λ i. inr (subst (λ y. IsIn x y) (append-nil qs) i)) (r.0 h), λ h. r.1 (⊎_elim (λ e. inl e) (λ i. inr (subst (λ y. IsIn x y) (sym (append-nil qs)) i)) h))

pub added : (qs ps : List Pair) (p : Pair) → AreGood qs → IsAscending ps → AllByRecursion IsPair ps → ((x : Pair) → IsIn x qs ↔ IsIn x ps) → IsPair p → IsNew ps p.key → AreAdded qs ps (insert_pair p ps) p
added qs ps p g o a s k n =
    let differ : (q : Pair) → IsIn q ps → rank q.key ≡ rank p.key → ⊥ = λ q i e. n.0 (has_key p.key q ps i (rank_same p.key q.key k.key (in_all IsPair ps q a i).key (sym e))) in
    let r = placed p ps o differ in
    let o' = subst (λ z. IsAscending z) r.split o in
    let a' = subst (λ z. AllByRecursion IsPair z) r.split a in
    record {
      good = good_more p qs g (new_members p.key ps qs (λ x i. (s x).0 i) n) k.value;
      ordered = subst (λ z. IsAscending z) (sym r.placed) (insert_ascends r.front r.back p r.below r.above o');
      pairs = subst (λ z. AllByRecursion IsPair z) (sym r.placed) (all_join IsPair r.front (p ∷ r.back) (all_front IsPair r.front r.back a') (k, all_back IsPair r.front r.back a'));
      same = λ x. (
        λ i. subst (λ z. IsIn x z) (sym r.placed) ((insert_has r.front r.back p x).1 (⊎_elim (λ e. inl e) (λ j. inr (subst (λ z. IsIn x z) r.split ((s x).0 j))) ((in_more x p qs).0 i))),
        λ i. (in_more x p qs).1 (⊎_elim (λ e. inl e) (λ j. inr ((s x).1 (subst (λ z. IsIn x z) (sym r.split) j))) ((insert_has r.front r.back p x).0 (subst (λ z. IsIn x z) r.placed i))),
      );
    }
