-- A text spells at most one rule.
use Rattle.std.proofs.Common.{◌≡◌, ℕ, List, [], ◌∷◌, ◌++◌, refl, sym, ap, ◌∙◌, subst, append_assoc, append-nil, replicate, arith}
use Rattle.dbus_rule.specs.declared.key.Key.{Key}
use Rattle.dbus_rule.specs.Keys.{key_text, IsKey}
use Rattle.dbus_rule.specs.Values.{Piece, quoted, escaped, plain, pieces_text, pieces_value, NoQuoteFirst, IsPiece, ArePieces, Ends}
use Rattle.dbus_rule.specs.Rules.{Pair, Item, item_text, pair_of, pairs_of, each_with_comma, AreItems, Last, spaces_alone, one_more, last_text, last_pairs, IsLast, GivesPairs, SpellsRule, IsIn}
use Rattle.dbus_rule.proofs.Values.{pieces_same}
use Rattle.dbus_rule.specs.Faults.{HasName}
use Rattle.dbus_rule.proofs.Keys.{key_same}
use Rattle.dbus_rule.proofs.NameReadings.{has_same, item_has, spaces_no_name}
use Rattle.dbus_rule.proofs.SortedConditions.{same_sorted}

-- pieces stand also before an end
after_comma : (x r : List ℕ) → Ends r → NoQuoteFirst (x ++ []) → NoQuoteFirst (x ++ r)
after_comma [] [] e h = tt
after_comma [] (b ∷ c) e h = λ q. omega (arith, e, q)
after_comma (a ∷ x) r e h = h

before_end : (p : Piece) (x r : List ℕ) → Ends r → IsPiece p (x ++ []) → IsPiece p (x ++ r)
before_end (quoted w) x r e h = h
before_end escaped x r e h = tt
before_end (plain b) x r e h = (h.0, h.1, λ q. after_comma x r e (h.2 q))

pub pieces_before : (ps : List Piece) (r : List ℕ) → Ends r → ArePieces ps [] → ArePieces ps r
pieces_before [] r e h = tt
pieces_before (p ∷ ps) r e h = (before_end p (pieces_text ps) r e h.0, pieces_before ps r e h.1)

pub item_same : (i j : Item) (r s : List ℕ) → IsKey i.key → IsKey j.key → ArePieces i.pieces [] → ArePieces j.pieces [] → Ends r → Ends s → item_text i ++ r ≡ item_text j ++ s → (pair_of i ≡ pair_of j) × (r ≡ s)
item_same i j r s hk kk hp kp e f q =
    let has = subst (λ w. HasName w j.spaces (key_text j.key) (pieces_text j.pieces ++ s)) (sym q) (item_has j s kk) in
    let c = has_same (item_text i ++ r) i.spaces j.spaces (key_text i.key) (key_text j.key) (pieces_text i.pieces ++ r) (pieces_text j.pieces ++ s) (item_has i r hk) has in
    let k = key_same i.key j.key hk kk c.1 in
    let v = pieces_same i.pieces j.pieces r s (pieces_before i.pieces r e hp) (pieces_before j.pieces s f kp) e f c.2 in
    (same_pair i.key j.key (pieces_value i.pieces) (pieces_value j.pieces) k v.0, v.1)
  where
    same_pair : (k l : Key) (u v : List ℕ) → k ≡ l → u ≡ v → ◌≡◌ {A = Pair} (record { key = k; value = u }) (record { key = l; value = v })
    same_pair k l u v d g = ap (λ t. record { key = t; value = u }) d ∙ ap (λ t. record { key = l; value = t }) g

-- spaces alone are no item
spaces_no_item : (n : ℕ) (i : Item) (r : List ℕ) → IsKey i.key → replicate n 32 ≡ item_text i ++ r → ⊥
spaces_no_item n i r h e = spaces_no_name n i.spaces (key_text i.key) (pieces_text i.pieces ++ r) (subst (λ w. HasName w i.spaces (key_text i.key) (pieces_text i.pieces ++ r)) (sym e) (item_has i r h))

-- the whole
last_same : (l m : Last) → IsLast l → IsLast m → last_text l ≡ last_text m → last_pairs l ≡ last_pairs m
last_same (spaces_alone a) (spaces_alone b) h k e = refl
last_same (spaces_alone a) (one_more j) h k e = absurd (spaces_no_item a j [] k.0 (e ∙ sym (append-nil (item_text j))))
last_same (one_more i) (spaces_alone b) h k e = absurd (spaces_no_item b i [] h.0 (sym e ∙ sym (append-nil (item_text i))))
last_same (one_more i) (one_more j) h k e =
    let s = item_same i j [] [] h.0 k.0 h.1 k.1 tt tt (append-nil (item_text i) ∙ e ∙ sym (append-nil (item_text j))) in
    ap (λ p. p ∷ []) s.0

pub last_no_items : (l : Last) (j : Item) (x : List ℕ) → IsLast l → IsKey j.key → ArePieces j.pieces [] → last_text l ≡ item_text j ++ 44 ∷ x → ⊥
last_no_items (spaces_alone a) j x h k p e = spaces_no_item a j (44 ∷ x) k e
last_no_items (one_more i) j x h k p e = let s = item_same i j [] (44 ∷ x) h.0 k h.1 p tt refl (append-nil (item_text i) ∙ e) in let q = s.1 in cc

items_same : (is js : List Item) (l m : Last) → AreItems is → AreItems js → IsLast l → IsLast m → each_with_comma is ++ last_text l ≡ each_with_comma js ++ last_text m → pairs_of is ++ last_pairs l ≡ pairs_of js ++ last_pairs m
items_same [] [] l m h k a b e = last_same l m a b e
items_same [] (j ∷ js) l m h k a b e = absurd (last_no_items l j (each_with_comma js ++ last_text m) a k.0.0 k.0.1 (e ∙ append_assoc (item_text j) (44 ∷ each_with_comma js) (last_text m)))
items_same (i ∷ is) [] l m h k a b e = absurd (last_no_items m i (each_with_comma is ++ last_text l) b h.0.0 h.0.1 (sym e ∙ append_assoc (item_text i) (44 ∷ each_with_comma is) (last_text l)))
items_same (i ∷ is) (j ∷ js) l m h k a b e =
    let x = each_with_comma is ++ last_text l in
    let y = each_with_comma js ++ last_text m in
    let s = item_same i j (44 ∷ x) (44 ∷ y) h.0.0 k.0.0 h.0.1 k.0.1 refl refl (sym (append_assoc (item_text i) (44 ∷ each_with_comma is) (last_text l)) ∙ e ∙ append_assoc (item_text j) (44 ∷ each_with_comma js) (last_text m)) in
    let t : x ≡ y = let q = s.1 in cc in
    let r = items_same is js l m h.1 k.1 a b t in
    ap (λ p. p ∷ (pairs_of is ++ last_pairs l)) s.0 ∙ ap (λ p. pair_of j ∷ p) r

pub pairs_same : (w : List ℕ) (ps qs : List Pair) → GivesPairs w ps → GivesPairs w qs → ps ≡ qs
pairs_same w ps qs h k = h.pairs ∙ items_same h.items k.items h.last k.last h.are k.are h.last_is k.last_is (sym h.spelled ∙ k.spelled) ∙ sym k.pairs

pub one_rule : (w : List ℕ) (r s : List Pair) → SpellsRule w r → SpellsRule w s → r ≡ s
one_rule w r s h k =
    let e = pairs_same w h.pairs k.pairs h.given k.given in
    same_sorted r s h.rule.ordered k.rule.ordered
    (λ x i. (k.same x).0 (subst (λ y. IsIn x y) e ((h.same x).1 i)))
    (λ x i. (h.same x).0 (subst (λ y. IsIn x y) (sym e) ((k.same x).1 i)))
