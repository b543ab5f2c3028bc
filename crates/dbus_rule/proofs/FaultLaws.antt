-- A text has at most one fault, and none where it spells a rule.
use Rattle.std.proofs.Common.{◌≡◌, ◌≢◌, ℕ, List, [], ◌∷◌, ◌++◌, ◌⊎◌, ⊎_elim, inl, inr, length, refl, sym, ap, ◌∙◌, subst, append_assoc, append-nil, replicate, arith, length-append, zero, suc, ◌+◌}
use Rattle.std.specs.List.{AllByRecursion}
use Rattle.dbus_rule.specs.declared.fault.RuleReason.{RuleReason}
use Rattle.dbus_rule.specs.declared.fault.RuleReason.TheVariants.{Nul, NoEquals, KeyName, KeyTwice, PathAndNamespace, OpenQuote, BadValue}
use Rattle.dbus_rule.specs.Keys.{IsKey}
use Rattle.dbus_rule.specs.Values.{ArePieces}
use Rattle.dbus_rule.specs.Rules.{Pair, Item, item_text, pair_of, pairs_of, each_with_comma, AreItems, Last, spaces_alone, one_more, last_text, last_pairs, IsLast, SpellsRule, IsIn}
use Rattle.dbus_rule.specs.Faults.{IsNul, AreGood, IsPairFault, HasPairFault, IsNoEquals, IsFaultOfKey, IsFaultOfName, IsNamedFault}
use Rattle.dbus_rule.specs.Laws.{OneFault, NotBoth}
use Rattle.dbus_rule.proofs.Unique.{item_same, pieces_before, last_no_items}
use Rattle.dbus_rule.proofs.SortedConditions.{spells_good, good_new, good_value, keys_along, excluded_members, new_members}
use Rattle.dbus_rule.proofs.NameReadings.{spaces_no_name, spaces_names}
use Rattle.dbus_rule.proofs.Values.{all_back, cut_same}
use Rattle.dbus_rule.proofs.PairReadings.{pair_fault_same, stands_no_fault}
use Rattle.dbus_rule.specs.declared.key.Key.{Key}

-- js begins with the pairs of is, and goes on
pub record GoesOn (is : List Item) (x : List ℕ) (js : List Item) (y : List ℕ) : Type 0 where
  pub next : Item
  pub back : List Item
  pub key_is : IsKey next.key
  pub are : ArePieces next.pieces []
  pub text : x ≡ item_text next ++ 44 ∷ (each_with_comma back ++ y)
  pub pairs : pairs_of js ≡ pairs_of is ++ pair_of next ∷ pairs_of back

pub record AreSame (is : List Item) (x : List ℕ) (js : List Item) (y : List ℕ) : Type 0 where
  pub pairs : pairs_of js ≡ pairs_of is
  pub rest : x ≡ y

-- two lists of items that begin one text: the same pairs, or one goes on
abbrev pub AreCompared : List Item → List ℕ → List Item → List ℕ → Type 0
AreCompared is x js y = AreSame is x js y ⊎ (GoesOn is x js y ⊎ GoesOn js y is x)

goes_more : (i j : Item) (is js : List Item) (x y : List ℕ) → pair_of i ≡ pair_of j → GoesOn is x js y → GoesOn (i ∷ is) x (j ∷ js) y
goes_more i j is js x y e g = record { next = g.next; back = g.back; key_is = g.key_is; are = g.are; text = g.text; pairs = ap (λ p. p ∷ pairs_of js) (sym e) ∙ ap (λ ps. pair_of i ∷ ps) g.pairs }

same_more : (i j : Item) (is js : List Item) (x y : List ℕ) → pair_of i ≡ pair_of j → AreSame is x js y → AreSame (i ∷ is) x (j ∷ js) y
same_more i j is js x y e g = record { pairs = ap (λ p. p ∷ pairs_of js) (sym e) ∙ ap (λ ps. pair_of i ∷ ps) g.pairs; rest = g.rest }

pub compare_items : (is js : List Item) (x y : List ℕ) → AreItems is → AreItems js → each_with_comma is ++ x ≡ each_with_comma js ++ y → AreCompared is x js y
compare_items [] [] x y h k e = inl (record { pairs = refl; rest = e })
compare_items [] (j ∷ js) x y h k e = inr (inl (record { next = j; back = js; key_is = k.0.0; are = k.0.1; text = e ∙ append_assoc (item_text j) (44 ∷ each_with_comma js) y; pairs = refl }))
compare_items (i ∷ is) [] x y h k e = inr (inr (record { next = i; back = is; key_is = h.0.0; are = h.0.1; text = sym e ∙ append_assoc (item_text i) (44 ∷ each_with_comma is) x; pairs = refl }))
compare_items (i ∷ is) (j ∷ js) x y h k e =
    let u = each_with_comma is ++ x in
    let v = each_with_comma js ++ y in
    let s = item_same i j (44 ∷ u) (44 ∷ v) h.0.0 k.0.0 h.0.1 k.0.1 refl refl (sym (append_assoc (item_text i) (44 ∷ each_with_comma is) x) ∙ e ∙ append_assoc (item_text j) (44 ∷ each_with_comma js) y) in
    let t : u ≡ v = let q = s.1 in cc in
    ⊎_elim
    (λ a. inl (same_more i j is js x y s.0 a))
    (λ b. inr (⊎_elim (λ g. inl (goes_more i j is js x y s.0 g)) (λ g. inr (goes_more j i js is y x (sym s.0) g)) b))
    (compare_items is js x y h.1 k.1 t)

same_place : (a b x y : List ℕ) → a ++ x ≡ b ++ y → x ≡ y → length a ≡ length b
same_place a b x y e f = let k = ap length e in let l = ap length f in let m = length-append a x in let n = length-append b y in omega (arith, k, l, m, n)

-- a fault where good pairs go on
fault_not_on : (is js : List Item) (x y : List ℕ) (n : ℕ) (reason : RuleReason) (at : ℕ) → GoesOn is x js y → (ps : List Pair) → AreGood (pairs_of js ++ ps) → IsPairFault (pairs_of is) x n reason at → ⊥
fault_not_on is js x y n reason at g ps h f =
    let r = 44 ∷ (each_with_comma g.back ++ y) in
    let e : pairs_of js ++ ps ≡ pairs_of is ++ pair_of g.next ∷ (pairs_of g.back ++ ps) = ap (λ z. z ++ ps) g.pairs ∙ append_assoc (pairs_of is) (pair_of g.next ∷ pairs_of g.back) ps in
    let k = subst (λ z. AreGood z) e h in
    stands_no_fault (pairs_of is) g.next r n reason at
    (record {
      key_is = g.key_is;
      are = pieces_before g.next.pieces r refl g.are;
      ends = refl;
      new = good_new (pairs_of is) (pair_of g.next) (pairs_of g.back ++ ps) k;
      value = good_value (pairs_of is) (pair_of g.next) (pairs_of g.back ++ ps) k;
    })
    (subst (λ z. IsPairFault (pairs_of is) z n reason at) g.text f)

good_nil : (ps : List Pair) → AreGood ps → AreGood (ps ++ [])
good_nil ps h = subst (λ z. AreGood z) (sym (append-nil ps)) h

pair_faults_same : (w : List ℕ) (r s : RuleReason) (m n : ℕ) → HasPairFault w r m → HasPairFault w s n → (r ≡ s) × (m ≡ n)
pair_faults_same w r s m n h k =
    let e : each_with_comma h.items ++ h.more ≡ each_with_comma k.items ++ k.more = sym h.spelled ∙ k.spelled in
    ⊎_elim
    (λ a. let l = same_place (each_with_comma k.items) (each_with_comma h.items) k.more h.more (sym e) (sym a.rest) in
    pair_fault_same (pairs_of h.items) h.more (length (each_with_comma h.items)) r s m n h.fault
    (subst (λ z. IsPairFault (pairs_of h.items) h.more z s n) l (subst (λ z. IsPairFault z h.more (length (each_with_comma k.items)) s n) a.pairs (subst (λ z. IsPairFault (pairs_of k.items) z (length (each_with_comma k.items)) s n) (sym a.rest) k.fault))))
    (λ b. absurd (⊎_elim
    (λ g. fault_not_on h.items k.items h.more k.more (length (each_with_comma h.items)) r m g [] (good_nil (pairs_of k.items) k.good) h.fault)
    (λ g. fault_not_on k.items h.items k.more h.more (length (each_with_comma k.items)) s n g [] (good_nil (pairs_of h.items) h.good) k.fault)
    b))
    (compare_items h.items k.items h.more k.more h.are k.are e)

nul_none : (w : List ℕ) (n : ℕ) → IsNul w n → AllByRecursion (λ b. b ≢ 0) w → ⊥
nul_none w n h k = (all_back (λ b. b ≢ 0) h.front (0 ∷ h.more) (subst (λ z. AllByRecursion (λ b. b ≢ 0) z) h.spelled k)).0 refl

pub one_fault : OneFault
one_fault w Nul Nul m n h k = (refl, h.place ∙ ap length (cut_same (λ b. b ≢ 0) h.front k.front (0 ∷ h.more) (0 ∷ k.more) h.before k.before (λ f. f refl) (λ f. f refl) (sym h.spelled ∙ k.spelled)).0 ∙ sym k.place)
one_fault w Nul s m n h k = absurd (nul_none w m h k.no_nul)
one_fault w r Nul m n h k = absurd (nul_none w n k h.no_nul)
one_fault w r s m n h k = pair_faults_same w r s m n h k

spaces_no_fault : (seen : List Pair) (k n : ℕ) (reason : RuleReason) (at : ℕ) → IsPairFault seen (replicate k 32) n reason at → ⊥
spaces_no_fault seen k n Nul at f = f
spaces_no_fault seen k n NoEquals at f = f.some k refl
spaces_no_fault seen k n reason at f = spaces_no_name k f.spaces f.name f.more f.has

last_no_fault : (seen : List Pair) (l : Last) (n : ℕ) (reason : RuleReason) (at : ℕ) → IsLast l → AreGood (seen ++ last_pairs l) → IsPairFault seen (last_text l) n reason at → ⊥
last_no_fault seen (spaces_alone k) n reason at h g f = spaces_no_fault seen k n reason at f
last_no_fault seen (one_more i) n reason at h g f =
    stands_no_fault seen i [] n reason at
    (record { key_is = h.0; are = h.1; ends = tt; new = good_new seen (pair_of i) [] g; value = good_value seen (pair_of i) [] g })
    (subst (λ z. IsPairFault seen z n reason at) (sym (append-nil (item_text i))) f)

rule_no_pair_fault : (w : List ℕ) (r : List Pair) (reason : RuleReason) (at : ℕ) → SpellsRule w r → HasPairFault w reason at → ⊥
rule_no_pair_fault w r reason at h k =
    let v = h.given in
    let n = length (each_with_comma k.items) in
    let good : AreGood (pairs_of v.items ++ last_pairs v.last) = subst (λ z. AreGood z) v.pairs (spells_good w r h) in
    ⊎_elim
    (λ a. last_no_fault (pairs_of v.items) v.last n reason at v.last_is good (subst (λ z. IsPairFault z (last_text v.last) n reason at) a.pairs (subst (λ z. IsPairFault (pairs_of k.items) z n reason at) (sym a.rest) k.fault)))
    (λ b. ⊎_elim
    (λ g. last_no_items v.last g.next (each_with_comma g.back ++ k.more) v.last_is g.key_is g.are g.text)
    (λ g. fault_not_on k.items v.items k.more (last_text v.last) n reason at g (last_pairs v.last) good k.fault)
    b)
    (compare_items v.items k.items (last_text v.last) k.more v.are k.are (sym v.spelled ∙ k.spelled))

pub not_both : NotBoth
not_both w r Nul at h k = nul_none w at k h.no_nul
not_both w r reason at h k = rule_no_pair_fault w r reason at h k

-- Faults of a pair, seen from another place and after the same pairs in another order.

-- the pairs seen in another order
key_fault_members : (s t : List Pair) → ((p : Pair) → IsIn p s → IsIn p t) → ((p : Pair) → IsIn p t → IsIn p s) → (k : Key) (p v : ℕ) (c : List ℕ) (r : RuleReason) (a : ℕ) → IsFaultOfKey s k p v c r a → IsFaultOfKey t k p v c r a
key_fault_members s t f g k p v c KeyTwice a h = (keys_along s t f k h.0, h.1)
key_fault_members s t f g k p v c PathAndNamespace a h = (λ i. h.0 (keys_along t s g k i), excluded_members k s t f h.1, h.2)
key_fault_members s t f g k p v c OpenQuote a h = (new_members k s t g h.0, h.1)
key_fault_members s t f g k p v c BadValue a h = (new_members k s t g h.0, h.1, h.2)
key_fault_members s t f g k p v c r a h = absurd h

name_fault_members : (s t : List Pair) → ((p : Pair) → IsIn p s → IsIn p t) → ((p : Pair) → IsIn p t → IsIn p s) → (name : List ℕ) (p : ℕ) (c : List ℕ) (r : RuleReason) (a : ℕ) → IsFaultOfName s name p c r a → IsFaultOfName t name p c r a
name_fault_members s t f g name p c KeyName a h = h
name_fault_members s t f g name p c r a h = record { key = h.key; key_is = h.key_is; named = h.named; fault = key_fault_members s t f g h.key p (p + length name + 1) c r a h.fault }

named_fault_members : (s t : List Pair) → ((p : Pair) → IsIn p s → IsIn p t) → ((p : Pair) → IsIn p t → IsIn p s) → (c : List ℕ) (n : ℕ) (r : RuleReason) (a : ℕ) → IsNamedFault s c n r a → IsNamedFault t c n r a
named_fault_members s t f g c n r a h = record { spaces = h.spaces; name = h.name; more = h.more; has = h.has; fault = name_fault_members s t f g h.name (n + h.spaces) h.more r a h.fault }

pub pair_fault_members : (s t : List Pair) → ((p : Pair) → IsIn p s → IsIn p t) → ((p : Pair) → IsIn p t → IsIn p s) → (c : List ℕ) (n : ℕ) (r : RuleReason) (a : ℕ) → IsPairFault s c n r a → IsPairFault t c n r a
pair_fault_members s t f g c n Nul a h = h
pair_fault_members s t f g c n NoEquals a h = h
pair_fault_members s t f g c n r a h = named_fault_members s t f g c n r a h

-- spaces before the pair
pub length_spaces : (s : ℕ) (x : List ℕ) → length (replicate s 32 ++ x) ≡ s + length x
length_spaces zero x = omega arith
length_spaces (suc s) x = let e = length_spaces s x in omega (arith, e)

spaces_join : (s t : ℕ) (x : List ℕ) → replicate s 32 ++ (replicate t 32 ++ x) ≡ replicate (s + t) 32 ++ x
spaces_join zero t x = let e : t ≡ 0 + t = omega arith in ap (λ n. replicate n 32 ++ x) e
spaces_join (suc s) t x = let e : suc (s + t) ≡ suc s + t = omega arith in ap (λ z. 32 ∷ z) (spaces_join s t x) ∙ ap (λ n. replicate n 32 ++ x) e

spaces_cut : (s k : ℕ) (d : List ℕ) → replicate s 32 ++ d ≡ replicate k 32 → (j : ℕ) × (d ≡ replicate j 32)
spaces_cut zero k d e = (k, e)
spaces_cut (suc s) zero d e = absurd (cc)
spaces_cut (suc s) (suc k) d e = let q : replicate s 32 ++ d ≡ replicate k 32 = cc in spaces_cut s k d q

no_equals_shift : (s : ℕ) (d : List ℕ) (n a : ℕ) → IsNoEquals d (n + s) a → IsNoEquals (replicate s 32 ++ d) n a
no_equals_shift s d n a h =
    let p = h.place in
    let l = length_spaces s h.front in
    record {
      front = replicate s 32 ++ h.front;
      more = h.more;
      front_is = spaces_names s h.front h.front_is;
      ends = h.ends;
      some = λ k e. let j = spaces_cut s k d e in h.some j.0 j.1;
      spelled = ap (λ z. replicate s 32 ++ z) h.spelled ∙ sym (append_assoc (replicate s 32) h.front h.more);
      place = omega (arith, p, l);
    }

named_shift : (seen : List Pair) (s : ℕ) (d : List ℕ) (n : ℕ) (r : RuleReason) (a : ℕ) → IsNamedFault seen d (n + s) r a → IsNamedFault seen (replicate s 32 ++ d) n r a
named_shift seen s d n r a h =
    let e : n + s + h.spaces ≡ n + (s + h.spaces) = omega arith in
    record {
      spaces = s + h.spaces;
      name = h.name;
      more = h.more;
      has = record { name_is = h.has.name_is; first = h.has.first; spelled = ap (λ z. replicate s 32 ++ z) h.has.spelled ∙ spaces_join s h.spaces (h.name ++ 61 ∷ h.more) };
      fault = subst (λ p. IsFaultOfName seen h.name p h.more r a) e h.fault;
    }

pub pair_fault_shift : (seen : List Pair) (s : ℕ) (d : List ℕ) (n : ℕ) (r : RuleReason) (a : ℕ) → IsPairFault seen d (n + s) r a → IsPairFault seen (replicate s 32 ++ d) n r a
pair_fault_shift seen s d n Nul a h = h
pair_fault_shift seen s d n NoEquals a h = no_equals_shift s d n a h
pair_fault_shift seen s d n r a h = named_shift seen s d n r a h
