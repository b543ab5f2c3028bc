-- A rule may match a message exactly if each of its keys may hold of it.
use mathlib.Core.Logic.{∥∥₁_elim, ∥∥₁_map}
use Rattle.std.proofs.Common.{◌≡◌, ℕ, zero, suc, ◌<◌, Bool, true, false, if◌then◌else◌, nat_eq, List, [], ◌∷◌, Option, None, Some, ◌⊎◌, inl, inr, ⊎_elim, refl, sym, ap, ◌∙◌, subst, arith, length, get_or, codes, string_bytes, option_map, MatchOption}
use Rattle.std.specs.Prelude.{IfSome}
use Rattle.std.proofs.Props.{props}
use Rattle.std.proofs.lemmas.Bool.{eq-eqb}
use Rattle.std.proofs.lemmas.Bool.Decides.{nat_tests}
use Rattle.std.specs.Bool.{Decides}
use Rattle.std.specs.List.{AllByRecursion}
use Rattle.dbus_texts.specs.Types.{STRING}
use Rattle.dbus_texts.specs.Kinds.{IsKind}
use Rattle.dbus_texts.specs.ComputedKinds.{is_kind}
use Rattle.dbus_texts.proofs.KindFacts.{kind_is}
use Rattle.dbus_texts.specs.declared.text_kind.TextKind.TheVariants as kinds
use Rattle.dbus_value_model.specs.Values.{TextValue}
use Rattle.dbus_message_model.specs.Messages.{FieldTree, MessageTree}
use Rattle.dbus_message_model.specs.KnownFields.{field_value}
use Rattle.dbus_rule.specs.declared.key.Key.{Key}
use Rattle.dbus_rule.specs.declared.key.Key.TheVariants.{Sender, Interface, Member, Path, PathNamespace, Destination}
use Rattle.dbus_rule.specs.Keys.{IsValueOf, rank}
use Rattle.dbus_rule.specs.Rules.{IsAbove, IsAscending, IsPair, IsRule, Pair}
use Rattle.dbus_rule.specs.RuleViews.{rule_pairs}
use Rattle.dbus_rule.specs.declared.rule.Rule.{Rule}
use Rattle.dbus_match.specs.declared.owner.Owner.{Owner}
use Rattle.dbus_match.specs.Matching.{HoldsAt, IsInNamespace, IsOwned, IsThere, Matches, Ownership, ownerships, text_of}
use Rattle.dbus_match.specs.TakenFor.{AreOne, EachMayHold, IsSentBy, MatchingMay, MayBeFor, MayBeOf, MayBeSent, MayHold, MayMatch, MoreMay, Names, Shares, for_whom, taken_as, text_at, with_text, without}

-- ---- names of one connection

pub shared_at : {A : Type 0} (all : List Ownership) (os : List (Owner A)) (i : ℕ) (o : Owner A) (v w : List ℕ) → i < length os → o ≡ get_or os i o
    → (string_bytes o.name ≡ v) × Names all w (string_bytes o.unique) → Shares all (ownerships os) v w
shared_at all [] i o v w l e h = absurd (omega (arith, l))
shared_at all (p ∷ os) zero o v w l e h = inl (ap (λ x. string_bytes x.name) (sym e) ∙ h.0, subst (λ x. Names all w (string_bytes x.unique)) e h.1)
shared_at all (p ∷ os) (suc i) o v w l e h = inr (shared_at all os i o v w (omega (arith, l)) e h)

shared_owner : (os us : List Ownership) (v w : List ℕ) → Shares os us v w → (u : List ℕ) × IsOwned us v u × Names os w u
shared_owner os [] v w h = absurd h
shared_owner os (o ∷ us) v w (inl h) = (o.unique, inl (h.0, refl), h.1)
shared_owner os (o ∷ us) v w (inr h) = let r = shared_owner os us v w h in (r.0, inr r.1, r.2)

shared : (os us : List Ownership) (v w u : List ℕ) → IsOwned us v u → Names os w u → Shares os us v w
shared os [] v w u a b = absurd a
shared os (o ∷ us) v w u (inl a) b = inl (a.0, subst (λ x. Names os w x) (sym a.1) b)
shared os (o ∷ us) v w u (inr a) b = inr (shared os us v w u a b)

pub one_by : (os : List Ownership) (v w : List ℕ) → Names os w v ⊎ Shares os os v w → AreOne os v w
one_by os v w (inl h) = (v, inl refl, h)
one_by os v w (inr h) = let r = shared_owner os os v w h in (r.0, inr r.1, r.2)

pub one_found : (os : List Ownership) (v w : List ℕ) → AreOne os v w → Names os w v ⊎ Shares os os v w
one_found os v w h = ⊎_elim (λ e. inl (subst (λ x. Names os w x) (sym e) h.2)) (λ a. inr (shared os os v w h.0 a h.2)) h.1

-- ---- what stands in the fields

same_code : (a b : ℕ) → nat_eq a b ≡ true → a ≡ b
same_code a b is = grind (arith, nat_tests)

read_step : (b : Bool) (d : ℕ) (f : FieldTree) (w fs : List FieldTree) → field_value d w ≡ field_value d fs → (b ≡ true → nat_eq f.code d ≡ false)
    → field_value d (if b then w else f ∷ w) ≡ field_value d (f ∷ fs)
read_step true d f w fs e apart = e ∙ sym (ap (λ (x : Bool). if x then Some f.value else field_value d fs) (apart refl))
read_step false d f w fs e apart = ap (λ x. if nat_eq f.code d then Some f.value else x) e

read_without : (c d : ℕ) (fs : List FieldTree) → nat_eq c d ≡ false → field_value d (without c fs) ≡ field_value d fs
read_without c d [] n = refl
read_without c d (f ∷ fs) n = read_step (nat_eq f.code c) d f (without c fs) fs (read_without c d fs n) (λ p. subst (λ x. nat_eq x d ≡ false) (sym (same_code f.code c p)) n)

-- a text in another field
read_other : (c : ℕ) (o : Option (List ℕ)) (fs : List FieldTree) (d : ℕ) → nat_eq c d ≡ false → field_value d (with_text c o fs) ≡ field_value d fs
read_other c None fs d n = refl
read_other c (Some w) fs d n = ap (λ (x : Bool). if x then Some (TextValue STRING w) else field_value d (without c fs)) n ∙ read_without c d fs n

-- the field that a key asks for, if it asks for one
abbrev pub asked : Key → ℕ
asked Sender = 7
asked Interface = 2
asked Member = 3
asked Path = 1
asked PathNamespace = 1
asked Destination = 6
asked k = 0

abbrev pub of_fields : MessageTree → List FieldTree → MessageTree
of_fields m fs = record { kind = m.kind; flags = m.flags; serial = m.serial; fields = fs; body = m.body }

-- a key holds as well if the text in its field is the same
holds_as : (m : MessageTree) (fs : List FieldTree) (os : List Ownership) (k : Key) (v : List ℕ) → text_of (field_value (asked k) m.fields) ≡ text_of (field_value (asked k) fs)
    → HoldsAt k v m os → HoldsAt k v (of_fields m fs) os
holds_as m fs os Sender v e h = subst (λ x. IsThere x (λ w. Names os v w)) e h
holds_as m fs os Interface v e h = subst (λ x. IsThere x (λ w. v ≡ w)) e h
holds_as m fs os Member v e h = subst (λ x. IsThere x (λ w. v ≡ w)) e h
holds_as m fs os Path v e h = subst (λ x. IsThere x (λ w. v ≡ w)) e h
holds_as m fs os PathNamespace v e h = subst (λ x. IsThere x (λ w. IsInNamespace v w)) e h
holds_as m fs os Destination v e h = subst (λ x. IsThere x (λ w. v ≡ w)) e h
holds_as m fs os k v e h = h

there_map : (o : Option (List ℕ)) (P Q : List ℕ → Type 0) → ((w : List ℕ) → P w → Q w) → IsThere o P → IsThere o Q
there_map None P Q f h = h
there_map (Some w) P Q f h = f w h

pub text_seen : {R : Type 0} (now : R → List ℕ) (r : Option R) (o : Option (List ℕ)) → MatchOption r (o ≡ None) (λ s. o ≡ Some (now s)) → option_map now r ≡ o
text_seen now None o e = sym e
text_seen now (Some s) o e = sym e

some_is : is_kind kinds.BusName (codes ":1.0") ≡ true
unfolding is_kind
some_is = refl

-- the sender that is known, or the one that a rule asks for
abbrev pub sender_from : (known wanted : Option (List ℕ)) → List ℕ
sender_from (Some s) wanted = s
sender_from None (Some v) = v
sender_from None None = codes ":1.0"

is_sent_by : (known wanted : Option (List ℕ)) → IfSome wanted (λ v. IsKind kinds.BusName v) → IsSentBy known (sender_from known wanted)
is_sent_by (Some s) wanted h = refl
is_sent_by None (Some v) h = h
is_sent_by None None h = kind_is kinds.BusName (codes ":1.0") some_is

sent_is : (os : List Ownership) (o wanted : Option (List ℕ)) (v : List ℕ) → MayBeSent v o os → wanted ≡ Some v → Names os v (sender_from o wanted)
sent_is os (Some s) wanted v h e = h
sent_is os None (Some u) v h e = inl cc
sent_is os None None v h e = absurd cc

-- each key of this rank has this value
abbrev pub IsOnly : ℕ → Option (List ℕ) → List Pair → Type 0
IsOnly r o ps = AllByRecursion (λ q. rank q.key ≡ r → o ≡ Some q.value) ps

-- ---- what it may be taken for is matched: each key may hold

module _ (m : MessageTree) (known : Option (List ℕ)) (os : List Ownership) where
  of_there : (i : Option (List ℕ)) (v : List ℕ) → IfSome i (λ w. IsKind kinds.Interface w × MayBeOf w m) → IsThere (text_of (field_value 2 (with_text 2 i m.fields))) (λ w. v ≡ w) → MayBeOf v m
  of_there None v of h = inl h
  of_there (Some w) v of h = subst (λ x. MayBeOf x m) (sym h) of.1

  whole : (kind : ℕ) (o : Option (List ℕ)) (v : List ℕ) → IsThere o (λ w. v ≡ w) → IsThere (for_whom kind o) (λ w. AreOne os v w)
  whole kind None v h = absurd h
  whole kind (Some w) v h = (v, inl refl, inl (sym h))

  for_there : (d i : Option (List ℕ)) (v : List ℕ) → IfSome d (λ w. IsKind kinds.BusName w × MayBeFor os w m)
      → IsThere (text_of (field_value 6 (with_text 6 d (with_text 2 i m.fields)))) (λ w. v ≡ w) → MayBeFor os v m
  for_there None i v to h = whole m.kind (text_at 6 m) v (subst (λ x. IsThere (text_of x) (λ w. v ≡ w)) (read_other 2 i m.fields 6 refl) h)
  for_there (Some u) i v to h = subst (λ x. MayBeFor os x m) (sym h) to.1

  from_there : (o : Option (List ℕ)) (v s : List ℕ) → IsSentBy o s → Names os v s → MayBeSent v o os
  from_there None v s e h = tt
  from_there (Some t) v s e h = subst (λ x. Names os v x) e h

module _ (m : MessageTree) (known : Option (List ℕ)) (os : List Ownership) (i d : Option (List ℕ)) (s : List ℕ) where
  abbrev pub n : MessageTree
  n = taken_as i d s m

  interface_at : text_at 2 n ≡ text_of (field_value 2 (with_text 2 i m.fields))
  interface_at = ap text_of (read_other 7 (Some s) (with_text 6 d (with_text 2 i m.fields)) 2 refl ∙ read_other 6 d (with_text 2 i m.fields) 2 refl)

  destination_at : text_at 6 n ≡ text_of (field_value 6 (with_text 6 d (with_text 2 i m.fields)))
  destination_at = ap text_of (read_other 7 (Some s) (with_text 6 d (with_text 2 i m.fields)) 6 refl)

  stays : (c : ℕ) → nat_eq 7 c ≡ false → nat_eq 6 c ≡ false → nat_eq 2 c ≡ false → text_at c n ≡ text_at c m
  stays c a b e = ap text_of (read_other 7 (Some s) (with_text 6 d (with_text 2 i m.fields)) c a ∙ (read_other 6 d (with_text 2 i m.fields) c b ∙ read_other 2 i m.fields c e))

  may_hold : IfSome i (λ w. IsKind kinds.Interface w × MayBeOf w m) → IfSome d (λ w. IsKind kinds.BusName w × MayBeFor os w m) → IsSentBy known s
      → (k : Key) (v : List ℕ) → HoldsAt k v n os → MayHold k v m known os
  may_hold of to from Sender v h = from_there m known os known v s from h
  may_hold of to from Interface v h = of_there m known os i v of (subst (λ x. IsThere x (λ w. v ≡ w)) interface_at h)
  may_hold of to from Destination v h = for_there m known os d i v to (subst (λ x. IsThere x (λ w. v ≡ w)) destination_at h)
  may_hold of to from k v h = holds_as n m.fields os k v (stays (asked k) refl refl refl) h

  each_may : IfSome i (λ w. IsKind kinds.Interface w × MayBeOf w m) → IfSome d (λ w. IsKind kinds.BusName w × MayBeFor os w m) → IsSentBy known s
      → (ps : List Pair) → Matches ps n os → EachMayHold ps m known os
  each_may of to from [] h = tt
  each_may of to from (p ∷ ps) h = (may_hold of to from p.key p.value h.0, each_may of to from ps h.1)

  -- ---- and back: each key holds of what takes the texts that the rule asks for

  holds : (wanted : Option (List ℕ)) → s ≡ sender_from known wanted → (k : Key) (v : List ℕ) → MayHold k v m known os
      → (rank k ≡ 2 → i ≡ Some v) → (rank k ≡ 6 → d ≡ Some v) → (rank k ≡ 1 → wanted ≡ Some v) → HoldsAt k v n os
  holds wanted own Sender v h a b e = subst (λ x. Names os v x) (sym own) (sent_is os known wanted v h (e refl))
  holds wanted own Interface v h a b e = subst (λ x. IsThere x (λ w. v ≡ w)) (sym (interface_at ∙ ap (λ x. text_of (field_value 2 (with_text 2 x m.fields))) (a refl))) refl
  holds wanted own Destination v h a b e = subst (λ x. IsThere x (λ w. v ≡ w)) (sym (destination_at ∙ ap (λ x. text_of (field_value 6 (with_text 6 x (with_text 2 i m.fields)))) (b refl))) refl
  holds wanted own k v h a b e = holds_as m n.fields os k v (sym (stays (asked k) refl refl refl)) h

  matched : (wanted : Option (List ℕ)) → s ≡ sender_from known wanted → (ps : List Pair) → EachMayHold ps m known os → IsOnly 2 i ps → IsOnly 6 d ps → IsOnly 1 wanted ps → Matches ps n os
  matched wanted own [] h a b e = tt
  matched wanted own (p ∷ ps) h a b e = (holds wanted own p.key p.value h.0 a.0 b.0 e.0, matched wanted own ps h.1 a.1 b.1 e.1)

-- the value of the key of this rank
abbrev pub value_of : ℕ → List Pair → Option (List ℕ)
value_of r [] = None
value_of r (p ∷ ps) = if nat_eq (rank p.key) r then Some p.value else value_of r ps

module _ (r : ℕ) where
  passed : (b : Bool) (x y z : Option (List ℕ)) → (b ≡ true → ⊥) → y ≡ z → (if b then x else y) ≡ z
  passed true x y z never e = absurd (never refl)
  passed false x y z never e = e

  later : (p : Pair) (o : Option (List ℕ)) (qs : List Pair) → IsAbove p qs → IsOnly r o qs → IsOnly r (if nat_eq (rank p.key) r then Some p.value else o) qs
  later p o [] up h = tt
  later p o (q ∷ qs) up h = (
    λ e. passed (nat_eq (rank p.key) r) (Some p.value) o (Some q.value) (λ f. let a = same_code _ _ f in let l = up.0 in omega (arith, a, e, l)) (h.0 e),
    later p o qs up.1 h.1,
  )

  -- in a rule it is the only one
  only : (ps : List Pair) → IsAscending ps → IsOnly r (value_of r ps) ps
  only [] up = tt
  only (p ∷ ps) up = (λ e. ap (λ (b : Bool). if b then Some p.value else value_of r ps) (eq-eqb _ _ e), later p (value_of r ps) ps up.0 (only ps up.1))

module _ (m : MessageTree) (known : Option (List ℕ)) (os : List Ownership) where
  interface_said : (k : Key) (v : List ℕ) → rank k ≡ 2 → MayHold k v m known os → IsValueOf k v → IsKind kinds.Interface v × MayBeOf v m
  interface_said Interface v e h is = (is, h)
  interface_said k v e h is = absurd (omega (arith, e))

  destination_said : (k : Key) (v : List ℕ) → rank k ≡ 6 → MayHold k v m known os → IsValueOf k v → IsKind kinds.BusName v × MayBeFor os v m
  destination_said Destination v e h is = (is, h)
  destination_said k v e h is = absurd (omega (arith, e))

  sender_said : (k : Key) (v : List ℕ) → rank k ≡ 1 → MayHold k v m known os → IsValueOf k v → IsKind kinds.BusName v
  sender_said Sender v e h is = is
  sender_said k v e h is = absurd (omega (arith, e))

  -- what is said of the value of a key of this rank is said of that of the rule
  module _ (r : ℕ) (Q : List ℕ → Type 0) (said : (k : Key) (v : List ℕ) → rank k ≡ r → MayHold k v m known os → IsValueOf k v → Q v) where
    found_if : (b : Bool) (v : List ℕ) (o : Option (List ℕ)) → (b ≡ true → Q v) → IfSome o Q → IfSome (if b then Some v else o) Q
    found_if true v o q f = q refl
    found_if false v o q f = f

    found : (ps : List Pair) → EachMayHold ps m known os → AllByRecursion IsPair ps → IfSome (value_of r ps) Q
    found [] h a = tt
    found (p ∷ ps) h a = found_if (nat_eq (rank p.key) r) p.value (value_of r ps) (λ e. said p.key p.value (same_code _ _ e) h.0 a.0.value) (found ps h.1 a.1)

  one_taken : (ps : List Pair) → IsRule ps → EachMayHold ps m known os → MayMatch ps m known os
  one_taken ps r h =
      let i = value_of 2 ps in
      let d = value_of 6 ps in
      let wanted = value_of 1 ps in
      let s = sender_from known wanted in (
        taken_as i d s m,
        record {
          interface = i;
          destination = d;
          sender = s;
          same = refl;
          of = found 2 (λ v. IsKind kinds.Interface v × MayBeOf v m) interface_said ps h r.pairs;
          to = found 6 (λ v. IsKind kinds.BusName v × MayBeFor os v m) destination_said ps h r.pairs;
          from = is_sent_by known wanted (found 1 (λ v. IsKind kinds.BusName v) sender_said ps h r.pairs);
        },
        matched m known os i d s wanted refl ps h (only 2 ps r.ordered) (only 6 ps r.ordered) (only 1 ps r.ordered),
      )

  pub may_match : {A : Type 0} (rule : Rule A) (b : Bool) → Decides b (EachMayHold (rule_pairs rule) m known os) → Decides b (∥ MayMatch (rule_pairs rule) m known os ∥₁)
  may_match rule b each = (
    λ t. ∥∥₁_map rule.is_rule (λ r. one_taken (rule_pairs rule) r (each.0 t)),
    λ h. ∥∥₁_elim h (hlevel props) (λ t.
        let k = t.1 in
        each.1 (each_may m known os k.interface k.destination k.sender k.of k.to k.from (rule_pairs rule) (subst (λ x. Matches (rule_pairs rule) x os) k.same t.2))),
  )

-- ---- the laws

module _ (m : MessageTree) (known : Option (List ℕ)) (os : List Ownership) (own : IfSome (text_at 7 m) (λ s. IsSentBy known s)) where
  abbrev pub sent : List ℕ
  sent = sender_from known (text_at 7 m)

  named : (o at : Option (List ℕ)) (v : List ℕ) → IfSome at (λ s. IsSentBy o s) → IsThere at (λ w. Names os v w) → Names os v (sender_from o at)
  named o None v is h = absurd h
  named (Some s) (Some w) v is h = subst (λ x. Names os v x) is h
  named None (Some w) v is h = h

  kind_of : (o at : Option (List ℕ)) → IfSome at (λ s. IsSentBy o s) → IsSentBy o (sender_from o at)
  kind_of (Some s) at is = refl
  kind_of None at is = is_sent_by None at is

  still : (k : Key) (v : List ℕ) → HoldsAt k v m os → HoldsAt k v (taken_as None None sent m) os
  still Sender v h = named known (text_at 7 m) v own h
  still k v h = holds_as m (taken_as None None sent m).fields os k v (sym (ap text_of (read_other 7 (Some sent) m.fields (asked k) refl))) h

  still_matches : (ps : List Pair) → Matches ps m os → Matches ps (taken_as None None sent m) os
  still_matches [] h = tt
  still_matches (p ∷ ps) h = (still p.key p.value h.0, still_matches ps h.1)

pub matching_may : MatchingMay
matching_may ps m known os own h = (
  taken_as None None (sent m known os own) m,
  record {
    interface = None;
    destination = None;
    sender = sent m known os own;
    same = refl;
    of = tt;
    to = tt;
    from = kind_of m known os own known (text_at 7 m) own;
  },
  still_matches m known os own ps h,
)

module _ (os us : List Ownership) (more : (v u : List ℕ) → IsOwned os v u → IsOwned us v u) where
  more_names : (v u : List ℕ) → Names os v u → Names us v u
  more_names v u h = ⊎_elim inl (λ o. inr (more v u o)) h

  more_for : (m : MessageTree) (v : List ℕ) → MayBeFor os v m → MayBeFor us v m
  more_for m v h = there_map (for_whom m.kind (text_at 6 m)) (λ w. AreOne os v w) (λ w. AreOne us v w) (λ w t. (t.0, more_names v t.0 t.1, more_names w t.0 t.2)) h

  more_to : (o : Option (List ℕ)) (m : MessageTree) → IfSome o (λ v. IsKind kinds.BusName v × MayBeFor os v m) → IfSome o (λ v. IsKind kinds.BusName v × MayBeFor us v m)
  more_to None m h = tt
  more_to (Some v) m h = (h.0, more_for m v h.1)

  more_holds : (k : Key) (v : List ℕ) (n : MessageTree) → HoldsAt k v n os → HoldsAt k v n us
  more_holds Sender v n h = there_map (text_at 7 n) (λ w. Names os v w) (λ w. Names us v w) (λ w. more_names v w) h
  more_holds k v n h = h

  more_matches : (ps : List Pair) (n : MessageTree) → Matches ps n os → Matches ps n us
  more_matches [] n h = tt
  more_matches (p ∷ ps) n h = (more_holds p.key p.value n h.0, more_matches ps n h.1)

pub more_may : MoreMay
more_may ps m known os us more h =
    let t = h.1 in (
      h.0,
      record { interface = t.interface; destination = t.destination; sender = t.sender; same = t.same; of = t.of; to = more_to os us more t.destination m t.to; from = t.from },
      more_matches os us more ps h.0 h.2,
    )
