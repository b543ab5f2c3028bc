-- A rule's text, read pair by pair.
use Rattle.std.proofs.Common.{◌≡◌, ◌≢◌, ℕ, suc, ◌+◌, ◌<◌, ◌≤◌, eqb, List, [], ◌∷◌, ◌++◌, length, drop, take, ◌-◌, replicate, refl, sym, ap, ◌∙◌, subst, append_assoc, append-nil, arith, length-append, length-drop, inl, inr}
use Rattle.std.specs.Prelude.{◌==◌, ◌↔◌, Result, Ok, Err}
use Rattle.std.specs.List.{AllByRecursion, prefix_len}
use Rattle.std.proofs.Math.Seq.{drop-length, take-length}
use Rattle.std.proofs.lemmas.Bool.{cond_both, eqb-true, eqb-false}
use Rattle.std.proofs.lemmas.List.{length-replicate}
use Rattle.dbus_rule.specs.declared.key.Key.TheVariants.{Path, PathNamespace}
use Rattle.dbus_rule.specs.declared.fault.RuleReason.{RuleReason}
use Rattle.dbus_rule.specs.declared.fault.RuleReason.TheVariants.{Nul}
use Rattle.dbus_rule.specs.declared.fault.RuleFault.{RuleFault}
use Rattle.dbus_rule.specs.declared.fault.RuleFault.TheVariants.{Memory, Bad}
use Rattle.dbus_rule.specs.Keys.{key_text, IsKey}
use Rattle.dbus_rule.specs.Values.{Piece, quoted, escaped, plain, piece_text, piece_value, pieces_text, pieces_value, NoQuoteFirst, IsPiece, ArePieces, Ends}
use Rattle.dbus_rule.specs.Rules.{Pair, IsIn, IsPair, IsRule, IsAscending, Item, item_text, pair_of, pairs_of, each_with_comma, AreItems, spaces_alone, one_more, SpellsRule, insert_pair}
use Rattle.dbus_rule.specs.Faults.{AreGood, NoSpaceFirst, IsPairFault, HasPairFault, IsFault}
use Rattle.dbus_rule.specs.PairReadings.{IsPairAt, IsFaultAt}
use Rattle.dbus_rule.specs.RuleViews.{IsRuleFault, rule_pairs, IsRuleReading, IsThisFault, IsThisRule}
use Rattle.dbus_rule.proofs.PairReadings.{AreAdded, added}
use Rattle.dbus_rule.proofs.FaultLaws.{length_spaces, pair_fault_members, pair_fault_shift, one_fault, not_both}
use Rattle.dbus_rule.proofs.SortedConditions.{keys_along}
use Rattle.dbus_rule.proofs.NameReadings.{item_spelled, drop_past}
use Rattle.dbus_rule.proofs.Values.{all_drop, all_front, all_back, all_join}
use Rattle.dbus_rule.specs.declared.rule.Rule.{Rule}
use Rattle.dbus_rule.proofs.Unique.{one_rule}

-- the spaces at the start
pub record IsSpaced (w : List ℕ) (n : ℕ) : Type 0 where
  pub spelled : w ≡ replicate n 32 ++ drop n w
  pub first : NoSpaceFirst (drop n w)

spaced_more : (b : ℕ) (c : List ℕ) (n : ℕ) → b ≡ 32 → IsSpaced c n → IsSpaced (b ∷ c) (1 + n)
spaced_more b c n e h =
    let s : suc n ≡ 1 + n = omega arith in
    subst (λ k. IsSpaced (b ∷ c) k) s (record { spelled = ap (λ z. z ∷ c) e ∙ ap (λ z. 32 ∷ z) h.spelled; first = h.first })

pub spaced : (w : List ℕ) → IsSpaced w (prefix_len (λ b. b == 32) w)
spaced [] = record { spelled = refl; first = tt }
spaced (b ∷ c) =
    cond_both (eqb b 32) _ _ (IsSpaced (b ∷ c))
    (λ e. spaced_more b c (prefix_len (λ d. d == 32) c) (eqb-true b 32 e) (spaced c))
    (λ e. record { spelled = refl; first = eqb-false b 32 e })

pub spaces_at : (w t : List ℕ) (at s : ℕ) → t ≡ w → at ≤ length w → s ≡ prefix_len (λ b. b == 32) (take (length t - at) (drop at t)) → (drop at w ≡ replicate s 32 ++ drop (at + s) w) × NoSpaceFirst (drop (at + s) w)
spaces_at w t at s e l q =
    let whole : take (length t - at) (drop at t) ≡ drop at t = ap (λ k. take k (drop at t)) (sym (length-drop at t)) ∙ take-length (drop at t) in
    let c = q ∙ ap (prefix_len (λ b. b == 32)) whole ∙ ap (λ z. prefix_len (λ b. b == 32) (drop at z)) e in
    let h = subst (λ k. IsSpaced (drop at w) k) (sym c) (spaced (drop at w)) in
    let d = subst (λ k. drop (at + k) w ≡ drop s (drop at w)) (length-replicate s 32) (drop_past at w (replicate s 32) (drop s (drop at w)) l h.spelled) in
    (h.spelled ∙ ap (λ z. replicate s 32 ++ z) (sym d), subst (λ z. NoSpaceFirst z) (sym d) h.first)

-- the text up to at gives the pairs ps, each with a comma after it
pub record IsReadUpTo (w : List ℕ) (at : ℕ) (ps : List Pair) : Type 0 where
  pub items : List Item
  pub are : AreItems items
  pub good : AreGood (pairs_of items)
  pub spelled : w ≡ each_with_comma items ++ drop at w
  pub place : at ≡ length (each_with_comma items)
  pub ordered : IsAscending ps
  pub pairs : AllByRecursion IsPair ps
  pub same : (p : Pair) → IsIn p (pairs_of items) ↔ IsIn p ps

pub read_none : (w : List ℕ) → IsReadUpTo w 0 []
read_none w =
    record {
      items = [];
      are = tt;
      good = record { apart = tt; values = tt; one_path = λ a b. a };
      spelled = refl;
      place = refl;
      ordered = tt;
      pairs = tt;
      same = λ p. (λ i. i, λ i. i);
    }

-- no U+0000 in a part
piece_all : (P : ℕ → Type 0) (p : Piece) → AllByRecursion P (piece_text p) → AllByRecursion P (piece_value p)
piece_all P (quoted w) h = all_front P w (39 ∷ []) h.1
piece_all P escaped h = h.1
piece_all P (plain b) h = h

pieces_all : (P : ℕ → Type 0) (ps : List Piece) → AllByRecursion P (pieces_text ps) → AllByRecursion P (pieces_value ps)
pieces_all P [] h = tt
pieces_all P (p ∷ ps) h = all_join P (piece_value p) (pieces_value ps) (piece_all P p (all_front P (piece_text p) (pieces_text ps) h)) (pieces_all P ps (all_back P (piece_text p) (pieces_text ps) h))

-- pieces that stand before a text stand alone
quote_alone : (x r : List ℕ) → NoQuoteFirst (x ++ r) → NoQuoteFirst (x ++ [])
quote_alone [] r h = tt
quote_alone (b ∷ x) r h = h

piece_alone : (p : Piece) (x r : List ℕ) → IsPiece p (x ++ r) → IsPiece p (x ++ [])
piece_alone (quoted w) x r h = h
piece_alone escaped x r h = tt
piece_alone (plain b) x r h = (h.0, h.1, λ q. quote_alone x r (h.2 q))

pieces_alone : (ps : List Piece) (r : List ℕ) → ArePieces ps r → ArePieces ps []
pieces_alone [] r h = tt
pieces_alone (p ∷ ps) r h = (piece_alone p (pieces_text ps) r h.0, pieces_alone ps r h.1)

-- the item that is read from the place at on
pub record IsItemAt (w : List ℕ) (at : ℕ) (i : Item) (p : Pair) (end : ℕ) : Type 0 where
  pub key_is : IsKey i.key
  pub are : ArePieces i.pieces []
  pub ends : Ends (drop end w)
  pub spelled : drop at w ≡ item_text i ++ drop end w
  pub place : end ≡ at + length (item_text i)
  pub pair : pair_of i ≡ p

abbrev pub item_read : (w : List ℕ) (ps : List Pair) (s m : ℕ) (p : Pair) (end : ℕ) → IsPairAt ps w m p end → Item
item_read w ps s m p end h = record { spaces = s; key = p.key; pieces = h.value.pieces }

item_length : (i : Item) → length (item_text i) ≡ i.spaces + (length (key_text i.key) + 1 + length (pieces_text i.pieces))
item_length i = let a = length_spaces i.spaces (key_text i.key ++ 61 ∷ pieces_text i.pieces) in let b = length-append (key_text i.key) (61 ∷ pieces_text i.pieces) in omega (arith, a, b)

pub item_at : (w : List ℕ) (ps : List Pair) (at s m : ℕ) (p : Pair) (end : ℕ) → drop at w ≡ replicate s 32 ++ drop m w → m ≡ at + s → (h : IsPairAt ps w m p end) → IsItemAt w at (item_read w ps s m p end h) p end
item_at w ps at s m p end e q h =
    let i = item_read w ps s m p end h in
    let r = drop end w in
    let a = h.key.place in
    let b = h.value.place in
    let c = item_length i in
    record {
      key_is = h.key.key_is;
      are = pieces_alone h.value.pieces r h.value.are;
      ends = h.value.ends;
      spelled = e ∙ ap (λ z. replicate s 32 ++ z) h.key.spelled ∙ ap (λ z. replicate s 32 ++ (key_text p.key ++ 61 ∷ z)) h.value.spelled ∙ sym (item_spelled i r);
      place = omega (arith, q, a, b, c);
      pair = ap (λ v. record { key = p.key; value = v }) (sym h.value.value);
    }

is_pair : (w : List ℕ) (ps : List Pair) (m : ℕ) (p : Pair) (end : ℕ) → AllByRecursion (λ b. b ≢ 0) w → IsPairAt ps w m p end → IsPair p
is_pair w ps m p end n h =
    let d = all_drop (λ b. b ≢ 0) h.from w n in
    let t = all_front (λ b. b ≢ 0) (pieces_text h.value.pieces) (drop end w) (subst (λ z. AllByRecursion (λ b. b ≢ 0) z) h.value.spelled d) in
    record { key = h.key.key_is; value = h.taken; no_nul = subst (λ z. AllByRecursion (λ b. b ≢ 0) z) (sym h.value.value) (pieces_all (λ b. b ≢ 0) h.value.pieces t) }

pub pairs_added : (w : List ℕ) (at : ℕ) (ps : List Pair) (m : ℕ) (p : Pair) (end : ℕ) → AllByRecursion (λ b. b ≢ 0) w → (h : IsReadUpTo w at ps) → IsPairAt ps w m p end → AreAdded (pairs_of h.items) ps (insert_pair p ps) p
pairs_added w at ps m p end n h k = added (pairs_of h.items) ps p h.good h.ordered h.pairs h.same (is_pair w ps m p end n k) k.key.new

-- the comma after a pair
comma_of : (w : List ℕ) (n : ℕ) (r : List ℕ) → n < length w → drop n w ≡ r → Ends r → drop n w ≡ 44 ∷ drop (n + 1) w
comma_of w n [] l e h = let k = ap length e in let d = length-drop n w in absurd (omega (arith, l, k, d))
comma_of w n (b ∷ c) l e h = e ∙ ap (λ z. z ∷ c) h ∙ ap (λ z. 44 ∷ z) (sym (drop_past n w (b ∷ []) c (omega (arith, l)) e))

after_more : (is : List Item) (i : Item) → each_with_comma (is ++ i ∷ []) ≡ each_with_comma is ++ (item_text i ++ 44 ∷ [])
after_more [] i = refl
after_more (j ∷ is) i = ap (λ z. item_text j ++ 44 ∷ z) (after_more is i) ∙ sym (append_assoc (item_text j) (44 ∷ each_with_comma is) (item_text i ++ 44 ∷ []))

pairs_more : (is : List Item) (i : Item) → pairs_of (is ++ i ∷ []) ≡ pairs_of is ++ pair_of i ∷ []
pairs_more [] i = refl
pairs_more (j ∷ is) i = ap (λ z. pair_of j ∷ z) (pairs_more is i)

items_more : (is : List Item) (i : Item) → AreItems is → IsKey i.key → ArePieces i.pieces [] → AreItems (is ++ i ∷ [])
items_more [] i h k p = ((k, p), tt)
items_more (j ∷ is) i h k p = (h.0, items_more is i h.1 k p)

more_spelled : (w : List ℕ) (b t : List ℕ) (at end : ℕ) → w ≡ b ++ drop at w → drop at w ≡ t ++ drop end w → drop end w ≡ 44 ∷ drop (end + 1) w → w ≡ (b ++ (t ++ 44 ∷ [])) ++ drop (end + 1) w
more_spelled w b t at end e f g =
    let d = drop (end + 1) w in
    e ∙ ap (λ z. b ++ z) f ∙ ap (λ z. b ++ (t ++ z)) g ∙ ap (λ z. b ++ z) (sym (append_assoc t (44 ∷ []) d)) ∙ sym (append_assoc b (t ++ 44 ∷ []) d)

read_more_items : (w : List ℕ) (at : ℕ) (ps : List Pair) (i : Item) (p : Pair) (end : ℕ) (rs : List Pair) → end < length w → (h : IsReadUpTo w at ps) → IsItemAt w at i p end → AreAdded (pairs_of h.items) ps rs p → IsReadUpTo w (end + 1) rs
read_more_items w at ps i p end rs l h k a =
    let q : pairs_of (h.items ++ i ∷ []) ≡ pairs_of h.items ++ p ∷ [] = pairs_more h.items i ∙ ap (λ z. pairs_of h.items ++ z ∷ []) k.pair in
    let b = after_more h.items i in
    let x = h.place in
    let y = k.place in
    let u = ap length b in
    let v = length-append (each_with_comma h.items) (item_text i ++ 44 ∷ []) in
    let t = length-append (item_text i) (44 ∷ []) in
    record {
      items = h.items ++ i ∷ [];
      are = items_more h.items i h.are k.key_is k.are;
      good = subst (λ z. AreGood z) (sym q) a.good;
      spelled = more_spelled w (each_with_comma h.items) (item_text i) at end h.spelled k.spelled (comma_of w end (drop end w) l refl k.ends) ∙ ap (λ z. z ++ drop (end + 1) w) (sym b);
      place = omega (arith, x, y, u, v, t);
      ordered = a.ordered;
      pairs = a.pairs;
      same = λ z. (λ j. (a.same z).0 (subst (λ s. IsIn z s) q j), λ j. subst (λ s. IsIn z s) (sym q) ((a.same z).1 j));
    }

pub read_more : (w : List ℕ) (at s m : ℕ) (ps rs : List Pair) (p : Pair) (end : ℕ) → rs ≡ insert_pair p ps → AllByRecursion (λ b. b ≢ 0) w → drop at w ≡ replicate s 32 ++ drop m w → m ≡ at + s → end < length w → IsReadUpTo w at ps → IsPairAt ps w m p end → IsReadUpTo w (end + 1) rs
read_more w at s m ps rs p end x n e q l h k =
    subst (λ z. IsReadUpTo w (end + 1) z) (sym x) (read_more_items w at ps (item_read w ps s m p end k) p end (insert_pair p ps) l h (item_at w ps at s m p end e q k) (pairs_added w at ps m p end n h k))

-- the rule, where its text ends after a pair
rule_of : (qs ps rs : List Pair) (p : Pair) → AreAdded qs ps rs p → IsRule rs
rule_of qs ps rs p a = record { ordered = a.ordered; pairs = a.pairs; one_path = λ x y. a.good.one_path (keys_along rs (qs ++ p ∷ []) (λ z i. (a.same z).1 i) Path x) (keys_along rs (qs ++ p ∷ []) (λ z i. (a.same z).1 i) PathNamespace y) }

read_last_items : (w : List ℕ) (at : ℕ) (ps : List Pair) (i : Item) (p : Pair) (end : ℕ) (rs : List Pair) → AllByRecursion (λ b. b ≢ 0) w → drop end w ≡ [] → (h : IsReadUpTo w at ps) → IsItemAt w at i p end → AreAdded (pairs_of h.items) ps rs p → SpellsRule w rs
read_last_items w at ps i p end rs n e h k a =
    record {
      no_nul = n;
      rule = rule_of (pairs_of h.items) ps rs p a;
      pairs = pairs_of h.items ++ p ∷ [];
      given =
          record {
            items = h.items;
            last = one_more i;
            are = h.are;
            last_is = (k.key_is, k.are);
            spelled = h.spelled ∙ ap (λ z. each_with_comma h.items ++ z) (k.spelled ∙ ap (λ z. item_text i ++ z) e ∙ append-nil (item_text i));
            pairs = ap (λ z. pairs_of h.items ++ z ∷ []) (sym k.pair);
          };
      apart = a.good.apart;
      same = a.same;
    }

at_end : (w : List ℕ) (n : ℕ) → n ≡ length w → drop n w ≡ []
at_end w n e = ap (λ k. drop k w) e ∙ drop-length w

pub read_last : (w : List ℕ) (at s m : ℕ) (ps rs : List Pair) (p : Pair) (end : ℕ) → rs ≡ insert_pair p ps → AllByRecursion (λ b. b ≢ 0) w → drop at w ≡ replicate s 32 ++ drop m w → m ≡ at + s → end ≡ length w → IsReadUpTo w at ps → IsPairAt ps w m p end → SpellsRule w rs
read_last w at s m ps rs p end x n e q l h k =
    subst (λ z. SpellsRule w z) (sym x) (read_last_items w at ps (item_read w ps s m p end k) p end (insert_pair p ps) n (at_end w end l) h (item_at w ps at s m p end e q k) (pairs_added w at ps m p end n h k))

-- the rule, where its text ends with spaces alone
pub read_end : (w : List ℕ) (at s m : ℕ) (ps : List Pair) → AllByRecursion (λ b. b ≢ 0) w → drop at w ≡ replicate s 32 ++ drop m w → m ≡ length w → IsReadUpTo w at ps → SpellsRule w ps
read_end w at s m ps n e l h =
    record {
      no_nul = n;
      rule = record { ordered = h.ordered; pairs = h.pairs; one_path = λ x y. h.good.one_path (keys_along ps (pairs_of h.items) (λ z i. (h.same z).1 i) Path x) (keys_along ps (pairs_of h.items) (λ z i. (h.same z).1 i) PathNamespace y) };
      pairs = pairs_of h.items;
      given =
          record {
            items = h.items;
            last = spaces_alone s;
            are = h.are;
            last_is = tt;
            spelled = h.spelled ∙ ap (λ z. each_with_comma h.items ++ z) (e ∙ ap (λ z. replicate s 32 ++ z) (at_end w m l) ∙ append-nil (replicate s 32));
            pairs = sym (append-nil (pairs_of h.items));
          };
      apart = h.good.apart;
      same = h.same;
    }

-- the fault of a pair is the text's
fault_of : (w : List ℕ) (seen : List Pair) (c : List ℕ) (n : ℕ) (r : RuleReason) (a : ℕ) → IsPairFault seen c n r a → HasPairFault w r a → IsFault w r a
fault_of w seen c n Nul a h k = absurd h
fault_of w seen c n r a h k = k

has_fault : (w : List ℕ) (at s m : ℕ) (ps : List Pair) (r : RuleReason) (a : ℕ) → AllByRecursion (λ b. b ≢ 0) w → drop at w ≡ replicate s 32 ++ drop m w → m ≡ at + s → IsReadUpTo w at ps → IsPairFault ps (drop m w) m r a → HasPairFault w r a
has_fault w at s m ps r a n e q h f =
    let x = subst (λ z. IsPairFault ps (drop m w) z r a) q f in
    let y = subst (λ z. IsPairFault ps z at r a) (sym e) (pair_fault_shift ps s (drop m w) at r a x) in
    let z = pair_fault_members ps (pairs_of h.items) (λ p i. (h.same p).1 i) (λ p i. (h.same p).0 i) (drop at w) at r a y in
    record { no_nul = n; items = h.items; more = drop at w; are = h.are; good = h.good; spelled = h.spelled; fault = subst (λ k. IsPairFault (pairs_of h.items) (drop at w) k r a) h.place z }

pub read_fault : (w : List ℕ) (at s m : ℕ) (ps : List Pair) (e : RuleFault) → AllByRecursion (λ b. b ≢ 0) w → drop at w ≡ replicate s 32 ++ drop m w → m ≡ at + s → IsReadUpTo w at ps → IsFaultAt ps w m e → IsRuleFault w e
read_fault w at s m ps Memory n d q h f = tt
read_fault w at s m ps (Bad a r) n d q h f = fault_of w ps (drop m w) m r a f (has_fault w at s m ps r a n d q h f)

-- A reading is the text's one rule or its one fault.

pub this_rule : {A : Type 0} (w : List ℕ) (x : Result (Rule A) RuleFault) → IsRuleReading w x → (ps : List Pair) → SpellsRule w ps → IsThisRule ps x
this_rule w (Ok r) h ps s = one_rule w (rule_pairs r) ps h s
this_rule w (Err Memory) h ps s = refl
this_rule w (Err (Bad at reason)) h ps s = absurd (not_both w ps reason at s h)

pub this_fault : {A : Type 0} (w : List ℕ) (x : Result (Rule A) RuleFault) → IsRuleReading w x → (reason : RuleReason) (at : ℕ) → IsFault w reason at → IsThisFault reason at x
this_fault w (Ok r) h reason at f = not_both w (rule_pairs r) reason at h f
this_fault w (Err Memory) h reason at f = inl refl
this_fault w (Err (Bad n r)) h reason at f = let e = one_fault w r reason n at h f in inr (ap (λ m. Bad m r) e.1 ∙ ap (λ s. Bad at s) e.0)
