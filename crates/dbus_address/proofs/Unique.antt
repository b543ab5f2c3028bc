-- A text spells one list of addresses at most.
use Rattle.std.proofs.Common.{◌≡◌, ℕ, true, false, List, [], ◌∷◌, ◌++◌, refl, sym, ap, ◌∙◌, subst, arith, map}
use Rattle.std.specs.List.{AllByRecursion}
use Rattle.std.proofs.lemmas.Bool.{false≢true}
use Rattle.dbus_address.specs.Bytes.{is_plain}
use Rattle.dbus_address.specs.Addresses.{Piece, plain, escaped, IsPiece, pieces_then, SpelledPair, SpelledAddress, IsName, IsSpelledPair, IsSpelledAddress, pair_then, more_pairs_then, pairs_then, address_then, more_addresses, Address, address_of, SpellsAddresses}
use Rattle.dbus_address.proofs.Rests.{ArePlain}

plain_differs : (b c : ℕ) → is_plain b ≡ true → is_plain c ≡ false → b ≡ c → ⊥
plain_differs b c h k e = false≢true (sym k ∙ ap is_plain (sym e) ∙ h)

pub name_same : (d : ℕ) (x y r s : List ℕ) → is_plain d ≡ false → ArePlain x → ArePlain y → x ++ d ∷ r ≡ y ++ d ∷ s → (x ≡ y) × (r ≡ s)
name_same d [] [] r s f h k e = (refl, cc)
name_same d [] (c ∷ y) r s f h k e = let q : c ≡ d = cc in absurd (plain_differs c d k.0 f q)
name_same d (b ∷ x) [] r s f h k e = let q : b ≡ d = cc in absurd (plain_differs b d h.0 f q)
name_same d (b ∷ x) (c ∷ y) r s f h k e =
    let q : b ≡ c = cc in
    let t : x ++ d ∷ r ≡ y ++ d ∷ s = cc in
    let z = name_same d x y r s f h.1 k.1 t in
    (ap (λ u. u ∷ x) q ∙ ap (λ u. c ∷ u) z.0, z.1)

pub plain_name : (x : List ℕ) → IsName x → ArePlain x
plain_name [] h = absurd h
plain_name (b ∷ x) h = h

-- what may stand after a value
abbrev pub Ends : List ℕ → Type 0
Ends [] = Unit {0}
Ends (b ∷ c) = (is_plain b ≡ false) × (b ≡ 37 → ⊥)

pub pieces_same : (v u : List Piece) (r s : List ℕ) → AllByRecursion IsPiece v → AllByRecursion IsPiece u → Ends r → Ends s → pieces_then v r ≡ pieces_then u s → (v ≡ u) × (r ≡ s)
pieces_same [] [] r s h k a b e = (refl, e)
pieces_same [] (plain c ∷ u) r s h k a b e = let x = subst Ends e a in absurd (false≢true (sym x.0 ∙ k.0))
pieces_same [] (escaped c l ∷ u) r s h k a b e = let x = subst Ends e a in absurd (x.1 refl)
pieces_same (plain c ∷ v) [] r s h k a b e = let x = subst Ends (sym e) b in absurd (false≢true (sym x.0 ∙ h.0))
pieces_same (escaped c l ∷ v) [] r s h k a b e = let x = subst Ends (sym e) b in absurd (x.1 refl)
pieces_same (plain c ∷ v) (plain d ∷ u) r s h k a b e =
    let q : c ≡ d = cc in
    let t : pieces_then v r ≡ pieces_then u s = cc in
    let z = pieces_same v u r s h.1 k.1 a b t in
    (ap (λ x. plain x ∷ v) q ∙ ap (λ x. plain d ∷ x) z.0, z.1)
pieces_same (plain c ∷ v) (escaped d l ∷ u) r s h k a b e = let q : c ≡ 37 = cc in absurd (plain_differs c 37 h.0 refl q)
pieces_same (escaped c l ∷ v) (plain d ∷ u) r s h k a b e = let q : d ≡ 37 = cc in absurd (plain_differs d 37 k.0 refl q)
pieces_same (escaped c l ∷ v) (escaped d m ∷ u) r s h k a b e =
    let q : c ≡ d = cc in
    let p : l ≡ m = cc in
    let t : pieces_then v r ≡ pieces_then u s = cc in
    let z = pieces_same v u r s h.1 k.1 a b t in
    (ap (λ x. escaped x l ∷ v) q ∙ ap (λ x. escaped d x ∷ v) p ∙ ap (λ x. escaped d m ∷ x) z.0, z.1)

-- what may stand after pairs
abbrev pub EndsPairs : List ℕ → Type 0
EndsPairs [] = Unit {0}
EndsPairs (b ∷ c) = b ≡ 59

ends_both : (r : List ℕ) → EndsPairs r → Ends r
ends_both [] h = tt
ends_both (b ∷ r) h = (ap is_plain h, λ e. omega (arith, e, h))

pub ends_value : (ps : List SpelledPair) (r : List ℕ) → EndsPairs r → Ends (more_pairs_then ps r)
ends_value [] r h = ends_both r h
ends_value (p ∷ ps) r h = (refl, λ e. omega (arith, e))

same_pair : (p q : SpelledPair) → p.key ≡ q.key → p.pieces ≡ q.pieces → p ≡ q
same_pair p q d g =
    let x : ◌≡◌ {A = SpelledPair} (record { key = p.key; pieces = p.pieces }) (record { key = q.key; pieces = p.pieces }) = ap (λ t. record { key = t; pieces = p.pieces }) d in
    let y : ◌≡◌ {A = SpelledPair} (record { key = q.key; pieces = p.pieces }) (record { key = q.key; pieces = q.pieces }) = ap (λ t. record { key = q.key; pieces = t }) g in
    x ∙ y

one_pair : (p q : SpelledPair) (x y : List ℕ) → IsSpelledPair p → IsSpelledPair q → Ends x → Ends y → pair_then p x ≡ pair_then q y → (p ≡ q) × (x ≡ y)
one_pair p q x y h k a b e =
    let n = name_same 61 p.key q.key (pieces_then p.pieces x) (pieces_then q.pieces y) refl (plain_name p.key h.0) (plain_name q.key k.0) e in
    let v = pieces_same p.pieces q.pieces x y h.1 k.1 a b n.1 in
    (same_pair p q n.0 v.0, v.1)

more_pairs_same : (ps qs : List SpelledPair) (r s : List ℕ) → AllByRecursion IsSpelledPair ps → AllByRecursion IsSpelledPair qs → EndsPairs r → EndsPairs s → more_pairs_then ps r ≡ more_pairs_then qs s → (ps ≡ qs) × (r ≡ s)
more_pairs_same [] [] r s h k a b e = (refl, e)
more_pairs_same [] (q ∷ qs) r s h k a b e = let x = subst EndsPairs e a in absurd (omega (arith, x))
more_pairs_same (p ∷ ps) [] r s h k a b e = let x = subst EndsPairs (sym e) b in absurd (omega (arith, x))
more_pairs_same (p ∷ ps) (q ∷ qs) r s h k a b e =
    let t : pair_then p (more_pairs_then ps r) ≡ pair_then q (more_pairs_then qs s) = cc in
    let o = one_pair p q (more_pairs_then ps r) (more_pairs_then qs s) h.0 k.0 (ends_value ps r a) (ends_value qs s b) t in
    let z = more_pairs_same ps qs r s h.1 k.1 a b o.1 in
    (ap (λ u. u ∷ ps) o.0 ∙ ap (λ u. q ∷ u) z.0, z.1)

no_pair : (k r x : List ℕ) → IsName k → EndsPairs r → r ≡ k ++ 61 ∷ x → ⊥
no_pair [] r x h a e = h
no_pair (b ∷ k) r x h a e = plain_differs b 59 h.0 refl (subst EndsPairs e a)

pairs_same : (ps qs : List SpelledPair) (r s : List ℕ) → AllByRecursion IsSpelledPair ps → AllByRecursion IsSpelledPair qs → EndsPairs r → EndsPairs s → pairs_then ps r ≡ pairs_then qs s → (ps ≡ qs) × (r ≡ s)
pairs_same [] [] r s h k a b e = (refl, e)
pairs_same [] (q ∷ qs) r s h k a b e = absurd (no_pair q.key r (pieces_then q.pieces (more_pairs_then qs s)) k.0.0 a e)
pairs_same (p ∷ ps) [] r s h k a b e = absurd (no_pair p.key s (pieces_then p.pieces (more_pairs_then ps r)) h.0.0 b (sym e))
pairs_same (p ∷ ps) (q ∷ qs) r s h k a b e =
    let o = one_pair p q (more_pairs_then ps r) (more_pairs_then qs s) h.0 k.0 (ends_value ps r a) (ends_value qs s b) e in
    let z = more_pairs_same ps qs r s h.1 k.1 a b o.1 in
    (ap (λ u. u ∷ ps) o.0 ∙ ap (λ u. q ∷ u) z.0, z.1)

pub ends_more : (m : List SpelledAddress) → EndsPairs (more_addresses m)
ends_more [] = tt
ends_more (a ∷ m) = refl

same_address : (a b : SpelledAddress) → a.transport ≡ b.transport → a.pairs ≡ b.pairs → a ≡ b
same_address a b d g =
    let x : ◌≡◌ {A = SpelledAddress} (record { transport = a.transport; pairs = a.pairs }) (record { transport = b.transport; pairs = a.pairs }) = ap (λ t. record { transport = t; pairs = a.pairs }) d in
    let y : ◌≡◌ {A = SpelledAddress} (record { transport = b.transport; pairs = a.pairs }) (record { transport = b.transport; pairs = b.pairs }) = ap (λ t. record { transport = b.transport; pairs = t }) g in
    x ∙ y

pub one_address : (a b : SpelledAddress) (r s : List ℕ) → IsSpelledAddress a → IsSpelledAddress b → EndsPairs r → EndsPairs s → address_then a r ≡ address_then b s → (a ≡ b) × (r ≡ s)
one_address a b r s h k x y e =
    let n = name_same 58 a.transport b.transport (pairs_then a.pairs r) (pairs_then b.pairs s) refl (plain_name a.transport h.0) (plain_name b.transport k.0) e in
    let v = pairs_same a.pairs b.pairs r s h.1 k.1 x y n.1 in
    (same_address a b n.0 v.0, v.1)

more_same : (m n : List SpelledAddress) → AllByRecursion IsSpelledAddress m → AllByRecursion IsSpelledAddress n → more_addresses m ≡ more_addresses n → m ≡ n
more_same [] [] h k e = refl
more_same [] (b ∷ n) h k e = absurd cc
more_same (a ∷ m) [] h k e = absurd cc
more_same (a ∷ m) (b ∷ n) h k e =
    let t : address_then a (more_addresses m) ≡ address_then b (more_addresses n) = cc in
    let o = one_address a b (more_addresses m) (more_addresses n) h.0 k.0 (ends_more m) (ends_more n) t in
    ap (λ u. u ∷ m) o.0 ∙ ap (λ u. b ∷ u) (more_same m n h.1 k.1 o.1)

pub one_reading : (w : List ℕ) (x y : List Address) → SpellsAddresses w x → SpellsAddresses w y → x ≡ y
one_reading w x y h k =
    let o = one_address h.first k.first (more_addresses h.more) (more_addresses k.more) h.first_is k.first_is (ends_more h.more) (ends_more k.more) (sym h.spelled ∙ k.spelled) in
    let z = more_same h.more k.more h.more_are k.more_are o.1 in
    let q : h.first ∷ h.more ≡ k.first ∷ k.more = ap (λ u. u ∷ h.more) o.0 ∙ ap (λ u. k.first ∷ u) z in
    h.meant ∙ ap (λ u. map address_of u) q ∙ sym k.meant
