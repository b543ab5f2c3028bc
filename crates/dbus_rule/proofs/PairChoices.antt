-- What stands where a pair is wanted is a pair that may stand there, or shows a fault.
use Rattle.std.proofs.Common.{◌≡◌, ℕ, ◌⊎◌, inl, inr, List, [], ◌∷◌, refl, ◌+◌, ◌-◌, ◌<◌, ◌≤◌, Bool, true, false, Option, Some, None, length, take, drop, sym, ap, subst, ◌∙◌, arith, length-append, length-drop}
use Rattle.std.proofs.lemmas.Bool.{cases_eq, cases_lt, false≢true}
use Rattle.std.specs.List.{AllByRecursion}
use Rattle.dbus_texts.specs.declared.text_kind.TextKind.{TextKind}
use Rattle.dbus_texts.specs.declared.text_kind.TextKind.TheVariants as kinds
use Rattle.dbus_texts.specs.ComputedKinds.{is_kind}
use Rattle.dbus_texts.specs.Kinds.{IsKind}
use Rattle.dbus_texts.proofs.KindFacts.{kind_is, is_kind_of}
use Rattle.dbus_rule.specs.declared.key.Key.{Key}
use Rattle.dbus_rule.specs.declared.key.Key.TheVariants.{MessageType, Sender, Interface, Member, Path, PathNamespace, Destination, Arg, ArgPath, Eavesdrop}
use Rattle.dbus_rule.specs.declared.fault.RuleFault.TheVariants.{Bad}
use Rattle.dbus_rule.specs.declared.fault.RuleReason.{RuleReason}
use Rattle.dbus_rule.specs.declared.fault.RuleReason.TheVariants.{NoEquals, KeyName, KeyTwice, PathAndNamespace, OpenQuote, BadValue}
use Rattle.dbus_rule.specs.declared.value_cut.Mode.TheVariants.{Outside}
use Rattle.dbus_rule.specs.Faults.{Excluded, NoSpaceFirst}
use Rattle.dbus_rule.specs.Keys.{IsNamed, key_text, IsKey, IsValueOf}
use Rattle.dbus_rule.specs.PairReadings.{NameCut, equals_at, none_at, name_cut, IsClash, IsFaultAt, IsKeyAt, IsPairAt}
use Rattle.dbus_rule.specs.Values.{IsClosed, Reading, closed, open_at, scan, pieces_text}
use Rattle.dbus_rule.specs.Rules.{Pair, HasKey, IsPair}
use Rattle.dbus_rule.proofs.Keys.{key_named, named, key_or, key_same}
use Rattle.dbus_rule.proofs.NameReadings.{left_over, no_equals_fault, unknown_fault, clash_fault, key_at, drop_past}
use Rattle.dbus_rule.proofs.PairReadings.{open_fault, bad_fault}
use Rattle.dbus_rule.proofs.Values.{is_closed, is_open}

-- What holds or does not: of two things, and that two texts are equal.

-- P holds, or it does not
abbrev pub Either : Type 0 → Type 0
Either P = P ⊎ (P → ⊥)

pub both : {P Q : Type 0} → Either P → Either Q → Either (P × Q)
both (inl p) (inl q) = inl (p, q)
both (inl p) (inr q) = inr (λ h. q h.1)
both (inr p) q = inr (λ h. p h.0)

pub one_of : {P Q : Type 0} → Either P → Either Q → Either (P ⊎ Q)
one_of (inl p) q = inl (inl p)
one_of (inr p) (inl q) = inl (inr q)
one_of (inr p) (inr q) = inr (λ h. elim h [ inl x ↦ p x | inr y ↦ q y ])

same_head : (a b : ℕ) (v w : List ℕ) → a ≡ b → Either (v ≡ w) → Either (a ∷ v ≡ b ∷ w)
same_head a b v w e (inl h) = inl (cc (e, h))
same_head a b v w e (inr h) = inr (λ g. h (cc g))

pub same : (v w : List ℕ) → Either (v ≡ w)
same [] [] = inl refl
same [] (b ∷ w) = inr (λ h. absurd cc)
same (a ∷ v) [] = inr (λ h. absurd cc)
same (a ∷ v) (b ∷ w) = elim (cases_eq a b) [
  | inl e ↦ same_head a b v w e (same v w)
  | inr n ↦ inr (λ h. n (cc h))
]

-- ---- which values a key takes

of_test : (P : Type 0) (b : Bool) → (b ≡ true → P) → (P → b ≡ true) → Either P
of_test P true f g = inl (f refl)
of_test P false f g = inr (λ h. false≢true (g h))

of_kind : (k : TextKind) (v : List ℕ) → Either (IsKind k v)
of_kind k v = of_test (IsKind k v) (is_kind k v) (kind_is k v) (is_kind_of k v)

takes : (k : Key) (v : List ℕ) → Either (IsValueOf k v)
takes MessageType v = one_of (same v (115 ∷ 105 ∷ 103 ∷ 110 ∷ 97 ∷ 108 ∷ [])) (one_of (same v (109 ∷ 101 ∷ 116 ∷ 104 ∷ 111 ∷ 100 ∷ 95 ∷ 99 ∷ 97 ∷ 108 ∷ 108 ∷ []))
    (one_of (same v (109 ∷ 101 ∷ 116 ∷ 104 ∷ 111 ∷ 100 ∷ 95 ∷ 114 ∷ 101 ∷ 116 ∷ 117 ∷ 114 ∷ 110 ∷ [])) (same v (101 ∷ 114 ∷ 114 ∷ 111 ∷ 114 ∷ []))))
takes Sender v = of_kind kinds.BusName v
takes Interface v = of_kind kinds.Interface v
takes Member v = of_kind kinds.Member v
takes Path v = of_kind kinds.Path v
takes PathNamespace v = of_kind kinds.Path v
takes Destination v = of_kind kinds.BusName v
takes Eavesdrop v = one_of (same v (116 ∷ 114 ∷ 117 ∷ 101 ∷ [])) (same v (102 ∷ 97 ∷ 108 ∷ 115 ∷ 101 ∷ []))
takes k v = inl tt

-- ---- which key a name is

below : (n : ℕ) → Either (n < 64)
below n = elim (cases_lt n 64) [ inl h ↦ inl h | inr h ↦ inr (λ l. absurd (omega (arith, h, l))) ]

a_key : (k : Key) → Either (IsKey k)
a_key (Arg n) = below n
a_key (ArgPath n) = below n
a_key k = inl tt

key_for : List ℕ → Option Key
key_for w = key_named w

key_for_text : (k : Key) → IsKey k → key_for (key_text k) ≡ Some k
unfolding key_for
key_for_text k h = named k h

found : (w : List ℕ) (o : Option Key) → key_for w ≡ o → (k : Key) → IsKey k → w ≡ key_text k → Some k ≡ o
found w o e k h f = sym (key_for_text k h) ∙ sym (ap key_for f) ∙ e

validated : (w : List ℕ) (k : Key) → key_for w ≡ Some k → Either (IsKey k) → Either (w ≡ key_text k) → (o : Option Key) × IsNamed w o
validated w k e (inl h) (inl f) = (Some k, (h, f))
validated w k e (inr n) f = (None, λ l i g. n (subst (λ x. IsKey x) (ap (key_or k) (found w (Some k) e l i g)) i))
validated w k e (inl h) (inr n) = (None, λ l i g. n (subst (λ x. w ≡ key_text x) (ap (key_or k) (found w (Some k) e l i g)) g))

named_by : (w : List ℕ) (o : Option Key) → key_for w ≡ o → (p : Option Key) × IsNamed w p
named_by w None e = (None, λ k h f. let d = found w None e k h f in absurd cc)
named_by w (Some k) e = validated w k e (a_key k) (same w (key_text k))

name_of : (w : List ℕ) → (o : Option Key) × IsNamed w o
name_of w = named_by w (key_for w) refl

-- ---- whether the key may stand there

same_key : (k l : Key) → IsKey k → IsKey l → Either (k ≡ l)
same_key k l h i = elim (same (key_text k) (key_text l)) [ inl e ↦ inl (key_same k l h i e) | inr n ↦ inr (λ e. n (ap key_text e)) ]

has_key : (k : Key) → IsKey k → (ps : List Pair) → AllByRecursion IsPair ps → Either (HasKey k ps)
has_key k h [] a = inr (λ x. x)
has_key k h (p ∷ ps) a = one_of (same_key k p.key h a.0.key) (has_key k h ps a.1)

excluded : (k : Key) (ps : List Pair) → AllByRecursion IsPair ps → Either (Excluded k ps)
excluded Path ps a = has_key PathNamespace tt ps a
excluded PathNamespace ps a = has_key Path tt ps a
excluded k ps a = inr (λ x. x)

clash : (k : Key) → IsKey k → (ps : List Pair) → AllByRecursion IsPair ps → (r : Option RuleReason) × IsClash ps k r
clash k h ps a = elim (has_key k h ps a) [
  | inl x ↦ (Some KeyTwice, x)
  | inr n ↦ elim (excluded k ps a) [ inl x ↦ (Some PathAndNamespace, (n, x)) | inr m ↦ (None, (n, m)) ]
]

-- ---- the pair

abbrev pub Choice : List Pair → List ℕ → ℕ → Type 0
Choice ps w m = ((p : Pair) × (end : ℕ) × IsPairAt ps w m p end) ⊎ ((reason : RuleReason) × (at : ℕ) × IsFaultAt ps w m (Bad at reason))

module _ (ps : List Pair) (w : List ℕ) (m : ℕ) (inside : m < length w) (first : NoSpaceFirst (drop m w)) (pairs : AllByRecursion IsPair ps) where
  value_inside : (k : Key) (v : ℕ) → IsKeyAt ps w m k v → v ≤ length w
  value_inside k v h =
      let whole = ap length h.spelled in
      let joined = length-append (key_text k) (61 ∷ drop v w) in
      omega (arith, inside, whole, joined, h.place, length-drop m w)

  closed_at : (k : Key) (v : ℕ) (b : List ℕ) (end : ℕ) → IsKeyAt ps w m k v → IsClosed v [] (drop v w) b end (drop end w) → Choice ps w m
  closed_at k v b end h c = elim (takes k b) [
    | inl t ↦ inl (record { key = k; value = b }, end, record { from = v; key = h; value = c; taken = t })
    | inr n ↦ inr (BadValue, v, bad_fault ps w m k v b end h c n)
  ]

  scanned : (k : Key) (v : ℕ) → IsKeyAt ps w m k v → (r : Reading) → scan Outside v [] (drop v w) ≡ r → Choice ps w m
  scanned k v h (open_at q) e = inr (OpenQuote, q, open_fault ps w m k v (Bad q OpenQuote) h (is_open v (drop v w) q e))
  scanned k v h (closed b end r) e =
      let c = is_closed v (drop v w) b end r e in
      let suffix = drop_past v w (pieces_text c.pieces) r (value_inside k v h) c.spelled in
      let rest : r ≡ drop end w = sym suffix ∙ ap (λ n. drop n w) (sym c.place) in
      closed_at k v b end h (subst (λ (x : List ℕ). IsClosed v [] (drop v w) b end x) rest c)

  clashed : (n : ℕ) (k : Key) → equals_at n ≡ name_cut m (drop m w) → IsNamed (take (n - m) (drop m w)) (Some k) → (r : Option RuleReason) → IsClash ps k r → Choice ps w m
  clashed n k e h (Some reason) x = inr (reason, m, clash_fault ps m (drop m w) n k reason first e h x)
  clashed n k e h None x = scanned k (n + 1) (key_at ps m w n k (omega (arith, inside)) e h x) (scan Outside (n + 1) [] (drop (n + 1) w)) refl

  name_at : (n : ℕ) → equals_at n ≡ name_cut m (drop m w) → (o : Option Key) → IsNamed (take (n - m) (drop m w)) o → Choice ps w m
  name_at n e None h = inr (KeyName, m, unknown_fault ps m (drop m w) n first e h)
  name_at n e (Some k) h = let c = clash k h.0 ps pairs in clashed n k e h c.0 c.1

  cut_by : (c : NameCut) → c ≡ name_cut m (drop m w) → Choice ps w m
  cut_by (none_at n) e = inr (NoEquals, n, no_equals_fault m (drop m w) n first (left_over m w inside) e)
  cut_by (equals_at n) e = let o = name_of (take (n - m) (drop m w)) in name_at n e o.0 o.1

  pub pair_or_fault : Choice ps w m
  pair_or_fault = cut_by (name_cut m (drop m w)) refl
