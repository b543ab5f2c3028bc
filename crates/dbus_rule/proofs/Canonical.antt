-- The canonical text of a rule spells the rule.
use Rattle.std.proofs.Common.{◌≡◌, ◌≢◌, ℕ, Bool, true, false, eqb, List, [], ◌∷◌, ◌++◌, ⊎_elim, refl, sym, ap, ◌∙◌, append_assoc, arith, ◌+◌, ◌<◌, ◌⊎◌, length, get_or, take, subst}
use Rattle.std.specs.List.{AllByRecursion}
use Rattle.std.proofs.lemmas.Bool.{cond_both, cond-true, cond-false, eqb-true, eqb-false}
use Rattle.std.proofs.lemmas.List.{length-take-le, take_more}
use Rattle.dbus_rule.specs.Keys.{key_text, IsKey, rank}
use Rattle.dbus_rule.proofs.Keys.{key_no_nul}
use Rattle.dbus_rule.proofs.Values.{all_join}
use Rattle.dbus_rule.specs.Values.{Piece, quoted, escaped, pieces_text, pieces_value, ArePieces}
use Rattle.dbus_rule.specs.Rules.{Pair, IsPair, IsRule, IsAbove, IsAscending, HasKey, AreApart, Item, item_text, pair_of, pairs_of, each_with_comma, spaces_alone, one_more, last_text, last_pairs, GivesPairs, SpellsRule, quote_escaped, pair_text, canonical, condition_pair, condition_pairs}
use Rattle.dbus_rule.specs.declared.condition.Condition.{Condition}

-- a value's pieces after the first apostrophe: a run that is closed, and the others
pub record Quoting (v : List ℕ) : Type 0 where
  pub run : List ℕ
  pub run_is : AllByRecursion (λ b. b ≢ 39) run
  pub others : List Piece
  pub are : ArePieces others []
  pub spelled : run ++ 39 ∷ pieces_text others ≡ quote_escaped v ++ 39 ∷ []
  pub value : run ++ pieces_value others ≡ v

quote_more : (b : ℕ) (c : List ℕ) (t : Bool) → eqb b 39 ≡ t → Quoting c → Quoting (b ∷ c)
quote_more b c true e h =
    let x = quote_escaped c in
    record {
      run = [];
      run_is = tt;
      others = escaped ∷ quoted h.run ∷ h.others;
      are = (tt, (h.run_is, h.are));
      spelled = ap (λ y. 39 ∷ 92 ∷ 39 ∷ 39 ∷ y) (append_assoc h.run (39 ∷ []) (pieces_text h.others) ∙ h.spelled) ∙ sym (ap (λ y. y ++ 39 ∷ []) (cond-true (eqb b 39) (39 ∷ 92 ∷ 39 ∷ 39 ∷ x) (b ∷ x) e));
      value = ap (λ y. 39 ∷ y) h.value ∙ ap (λ y. y ∷ c) (sym (eqb-true b 39 e));
    }
quote_more b c false e h =
    let x = quote_escaped c in
    record {
      run = b ∷ h.run;
      run_is = (eqb-false b 39 e, h.run_is);
      others = h.others;
      are = h.are;
      spelled = ap (λ y. b ∷ y) h.spelled ∙ sym (ap (λ y. y ++ 39 ∷ []) (cond-false (eqb b 39) (39 ∷ 92 ∷ 39 ∷ 39 ∷ x) (b ∷ x) e));
      value = ap (λ y. b ∷ y) h.value;
    }

pub quoting : (v : List ℕ) → Quoting v
quoting [] = record { run = []; run_is = tt; others = []; are = tt; spelled = refl; value = refl }
quoting (b ∷ c) = quote_more b c (eqb b 39) refl (quoting c)

-- the pair's item
abbrev pub item_of : Pair → Item
item_of p = record { spaces = 0; key = p.key; pieces = quoted (quoting p.value).run ∷ (quoting p.value).others }

item_is : (p : Pair) → IsKey p.key → IsKey (item_of p).key × ArePieces (item_of p).pieces []
item_is p h = (h, ((quoting p.value).run_is, (quoting p.value).are))

item_spells : (p : Pair) → item_text (item_of p) ≡ pair_text p
item_spells p =
    let q = quoting p.value in
    ap (λ y. key_text p.key ++ 61 ∷ 39 ∷ y) (append_assoc q.run (39 ∷ []) (pieces_text q.others) ∙ q.spelled)

item_gives : (p : Pair) → pair_of (item_of p) ≡ p
item_gives p = ap (λ v. record { key = p.key; value = v }) (quoting p.value).value

give_pairs : (ps : List Pair) → AllByRecursion IsPair ps → GivesPairs (canonical ps) ps
give_pairs [] h = record { items = []; last = spaces_alone 0; are = tt; last_is = tt; spelled = refl; pairs = refl }
give_pairs (p ∷ []) h = record { items = []; last = one_more (item_of p); are = tt; last_is = item_is p h.0.key; spelled = sym (item_spells p); pairs = ap (λ y. y ∷ []) (sym (item_gives p)) }
give_pairs (p ∷ q ∷ ps) h =
    let g = give_pairs (q ∷ ps) h.1 in
    record {
      items = item_of p ∷ g.items;
      last = g.last;
      are = (item_is p h.0.key, g.are);
      last_is = g.last_is;
      spelled = ap (λ y. pair_text p ++ 44 ∷ y) g.spelled ∙ ap (λ y. y ++ 44 ∷ (each_with_comma g.items ++ last_text g.last)) (sym (item_spells p)) ∙ sym (append_assoc (item_text (item_of p)) (44 ∷ each_with_comma g.items) (last_text g.last));
      pairs = ap (λ y. p ∷ y) g.pairs ∙ ap (λ y. y ∷ (pairs_of g.items ++ last_pairs g.last)) (sym (item_gives p));
    }

above_apart : (p : Pair) (ps : List Pair) → IsAbove p ps → HasKey p.key ps → ⊥
above_apart p [] a h = h
above_apart p (q ∷ ps) a h = ⊎_elim (λ e. let k = ap rank e in let l = a.0 in omega (arith, k, l)) (λ i. above_apart p ps a.1 i) h

ascending_apart : (ps : List Pair) → IsAscending ps → AreApart ps
ascending_apart [] h = tt
ascending_apart (p ∷ ps) h = (above_apart p ps h.0, ascending_apart ps h.1)

-- no U+0000
quote_no_nul : (v : List ℕ) → AllByRecursion (λ b. b ≢ 0) v → AllByRecursion (λ b. b ≢ 0) (quote_escaped v)
quote_no_nul [] h = tt
quote_no_nul (b ∷ c) h =
    let t = quote_no_nul c h.1 in
    cond_both (eqb b 39) _ _ (λ w. AllByRecursion (λ b. b ≢ 0) w)
    (λ e. ((λ q. omega (arith, q)), ((λ q. omega (arith, q)), ((λ q. omega (arith, q)), ((λ q. omega (arith, q)), t)))))
    (λ e. (h.0, t))

pair_no_nul : (p : Pair) → IsPair p → AllByRecursion (λ b. b ≢ 0) (pair_text p)
pair_no_nul p h = all_join (λ b. b ≢ 0) (key_text p.key) (61 ∷ 39 ∷ (quote_escaped p.value ++ 39 ∷ [])) (key_no_nul p.key h.key) ((λ q. omega (arith, q)), ((λ q. omega (arith, q)), all_join (λ b. b ≢ 0) (quote_escaped p.value) (39 ∷ []) (quote_no_nul p.value h.no_nul) ((λ q. omega (arith, q)), tt)))

canonical_no_nul : (ps : List Pair) → AllByRecursion IsPair ps → AllByRecursion (λ b. b ≢ 0) (canonical ps)
canonical_no_nul [] h = tt
canonical_no_nul (p ∷ []) h = pair_no_nul p h.0
canonical_no_nul (p ∷ q ∷ ps) h = all_join (λ b. b ≢ 0) (pair_text p) (44 ∷ canonical (q ∷ ps)) (pair_no_nul p h.0) ((λ e. omega (arith, e)), canonical_no_nul (q ∷ ps) h.1)

pub canonical_spells : (r : List Pair) → IsRule r → SpellsRule (canonical r) r
canonical_spells r h = record { no_nul = canonical_no_nul r h.pairs; rule = h; pairs = r; given = give_pairs r h.pairs; apart = ascending_apart r h.ordered; same = λ p. (λ i. i, λ i. i) }

-- The canonical text, pair by pair.

canonical_snoc : (ps : List Pair) (p : Pair) → 0 < length ps → canonical (ps ++ p ∷ []) ≡ canonical ps ++ 44 ∷ pair_text p
canonical_snoc [] p l = absurd (omega (arith, l))
canonical_snoc (q ∷ []) p l = refl
canonical_snoc (q ∷ r ∷ ps) p l = ap (λ z. pair_text q ++ 44 ∷ z) (canonical_snoc (r ∷ ps) p (omega arith)) ∙ sym (append_assoc (pair_text q) (44 ∷ canonical (r ∷ ps)) (44 ∷ pair_text p))

none_first : (ps : List Pair) (p : Pair) → length ps ≡ 0 → canonical (ps ++ p ∷ []) ≡ canonical ps ++ pair_text p
none_first [] p e = refl
none_first (q ∷ ps) p e = absurd (omega (arith, e))

take_next : {A : Type 0} (cs : List A) (i : ℕ) (c : A) → i < length cs → c ≡ get_or cs i c → take (i + 1) cs ≡ take i cs ++ c ∷ []
take_next cs i c l e = take_more cs i c l ∙ ap (λ x. take i cs ++ x ∷ []) (sym e)

pairs_join : {A : Type 0} (cs : List (Condition A)) (c : Condition A) → condition_pairs (cs ++ c ∷ []) ≡ condition_pairs cs ++ condition_pair c ∷ []
pairs_join [] c = refl
pairs_join (d ∷ cs) c = ap (λ z. condition_pair d ∷ z) (pairs_join cs c)

pairs_length : {A : Type 0} (cs : List (Condition A)) → length (condition_pairs cs) ≡ length cs
pairs_length [] = refl
pairs_length (c ∷ cs) = let e = pairs_length cs in omega (arith, e)

-- a comma after the text so far, or nothing before
abbrev pub IsJoint : ℕ → List ℕ → List ℕ → Type 0
IsJoint i t b = ((0 < i) × (b ≡ t ++ 44 ∷ [])) ⊎ ((i ≡ 0) × (b ≡ t))

pub text_more : {A : Type 0} (cs ds : List (Condition A)) (i : ℕ) (c : Condition A) (t b n : List ℕ) → ds ≡ cs → i < length ds → c ≡ get_or ds i c → t ≡ canonical (condition_pairs (take i cs)) → IsJoint i t b → n ≡ b ++ pair_text (condition_pair c) → n ≡ canonical (condition_pairs (take (i + 1) cs))
text_more cs ds i c t b n d l e h j k =
    let l' = subst (λ z. i < length z) d l in
    let e' = subst (λ z. c ≡ get_or z i c) d e in
    let front = condition_pairs (take i cs) in
    let p = condition_pair c in
    let m : length front ≡ i = pairs_length (take i cs) ∙ length-take-le i cs (omega (arith, l')) in
    let whole : condition_pairs (take (i + 1) cs) ≡ front ++ p ∷ [] = ap condition_pairs (take_next cs i c l' e') ∙ pairs_join (take i cs) c in
    k ∙ ⊎_elim
    (λ x. let q = x.0 in ap (λ z. z ++ pair_text p) (x.1 ∙ ap (λ z. z ++ 44 ∷ []) h) ∙ append_assoc (canonical front) (44 ∷ []) (pair_text p) ∙ sym (canonical_snoc front p (omega (arith, m, q))))
    (λ x. let q = x.0 in ap (λ z. z ++ pair_text p) (x.1 ∙ h) ∙ sym (none_first front p (m ∙ q)))
    j ∙ sym (ap canonical whole)
