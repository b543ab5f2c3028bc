-- Of every rule and every message it is decided whether the rule matches.
use Rattle.std.proofs.Common.{◌≡◌, ℕ, ◌⊎◌, inl, inr, List, [], ◌∷◌, ◌++◌, Option, None, Some, refl, zero, suc, ◌+◌, ◌<◌, length, get_or, drop, sym, ap, ◌∙◌, subst, string_bytes, arith, append_assoc, length-append}
use Rattle.std.proofs.lemmas.Bool.{cases_eq}
use Rattle.std.specs.List.{AllByRecursion}
use Rattle.std.proofs.lemmas.List.{drop_more}
use Rattle.dbus_message_model.specs.Messages.{MessageTree}
use Rattle.dbus_message_model.specs.KnownFields.{field_value, body_value}
use Rattle.dbus_message_model.specs.MessageTypes.{type_name}
use Rattle.dbus_rule.specs.declared.key.Key.{Key}
use Rattle.dbus_rule.specs.declared.key.Key.TheVariants.{MessageType, Sender, Interface, Member, Path, PathNamespace, Destination, Arg, ArgPath, Arg0Namespace, Eavesdrop}
use Rattle.dbus_rule.specs.Rules.{Pair, condition_pair, condition_pairs}
use Rattle.dbus_rule.proofs.PairChoices.{Either, both, one_of, same}
use Rattle.dbus_rule.specs.declared.condition.Condition.{Condition}
use Rattle.dbus_match.specs.Matching.{Ownership, BeginsWith, EndsInSlash, PathsMeet, IsWithin, IsInNamespace, IsThere, HasField, IsOwned, HoldsAt, Matches, string_of, string_or_path_of, text_of, ownerships}
use Rattle.dbus_match.specs.declared.owner.Owner.{Owner}

-- ---- one text begins another, or ends in a slash

begins : (w v : List ℕ) → Either (BeginsWith w v)
begins w [] = inl (w, refl)
begins [] (b ∷ v) = inr (λ h. absurd (cc (h.1)))
begins (a ∷ w) (b ∷ v) = elim (cases_eq a b) [
  | inl e ↦ elim (begins w v) [
    | inl h ↦ inl (h.0, cc (e, h.1))
    | inr n ↦ inr (λ h. n (h.0, cc (h.1)))
  ]
  | inr n ↦ inr (λ h. n (cc (h.1)))
]

not_empty : (front : List ℕ) → [] ≡ front ++ 47 ∷ [] → ⊥
not_empty [] e = absurd cc
not_empty (c ∷ front) e = absurd cc

last_is : (a : ℕ) (front : List ℕ) → a ∷ [] ≡ front ++ 47 ∷ [] → a ≡ 47
last_is a [] e = cc
last_is a (c ∷ front) e = absurd (not_empty front (cc e))

ends_after : (a b : ℕ) (v front : List ℕ) → a ∷ b ∷ v ≡ front ++ 47 ∷ [] → EndsInSlash (b ∷ v)
ends_after a b v [] e = absurd cc
ends_after a b v (c ∷ front) e = (front, cc e)

ends : (v : List ℕ) → Either (EndsInSlash v)
ends [] = inr (λ h. not_empty h.0 h.1)
ends (a ∷ []) = elim (cases_eq a 47) [
  | inl e ↦ inl ([], cc e)
  | inr n ↦ inr (λ h. n (last_is a h.0 h.1))
]
ends (a ∷ b ∷ v) = elim (ends (b ∷ v)) [
  | inl h ↦ inl (a ∷ h.0, cc (h.1))
  | inr n ↦ inr (λ h. n (ends_after a b v h.0 h.1))
]

-- ---- what a key asks of a text

paths_meet : (v w : List ℕ) → Either (PathsMeet v w)
paths_meet v w = one_of (same v w) (one_of (both (ends v) (begins w v)) (both (ends w) (begins v w)))

within : (separator : ℕ) (v w : List ℕ) → Either (IsWithin separator v w)
within separator v w = one_of (same v w) (begins w (v ++ separator ∷ []))

in_namespace : (v w : List ℕ) → Either (IsInNamespace v w)
in_namespace v w = one_of (same v (47 ∷ [])) (within 47 v w)

owned : (os : List Ownership) (v w : List ℕ) → Either (IsOwned os v w)
owned [] v w = inr (λ h. h)
owned (o ∷ os) v w = one_of (both (same o.name v) (same o.unique w)) (owned os v w)

-- ---- what a key asks of a message

there : (o : Option (List ℕ)) (P : List ℕ → Type 0) → ((w : List ℕ) → Either (P w)) → Either (IsThere o P)
there None P each = inr (λ h. h)
there (Some w) P each = each w

is_some_text : (o : Option (List ℕ)) (v : List ℕ) → Either (o ≡ Some v)
is_some_text None v = inr (λ h. absurd cc)
is_some_text (Some w) v = elim (same w v) [
  | inl h ↦ inl (cc h)
  | inr n ↦ inr (λ h. n (cc h))
]

in_field : (code : ℕ) (m : MessageTree) (P : List ℕ → Type 0) → ((w : List ℕ) → Either (P w)) → Either (HasField code m P)
in_field code m P each = there (text_of (field_value code m.fields)) P each

holds : (k : Key) (v : List ℕ) (m : MessageTree) (os : List Ownership) → Either (HoldsAt k v m os)
holds MessageType v m os = is_some_text (type_name m.kind) v
holds Sender v m os = in_field 7 m (λ w. (v ≡ w) ⊎ IsOwned os v w) (λ w. one_of (same v w) (owned os v w))
holds Interface v m os = in_field 2 m (λ w. v ≡ w) (same v)
holds Member v m os = in_field 3 m (λ w. v ≡ w) (same v)
holds Path v m os = in_field 1 m (λ w. v ≡ w) (same v)
holds PathNamespace v m os = in_field 1 m (λ w. IsInNamespace v w) (in_namespace v)
holds Destination v m os = in_field 6 m (λ w. v ≡ w) (same v)
holds (Arg n) v m os = there (string_of (body_value n m.body)) (λ w. v ≡ w) (same v)
holds (ArgPath n) v m os = there (string_or_path_of (body_value n m.body)) (λ w. PathsMeet v w) (paths_meet v)
holds Arg0Namespace v m os = there (string_of (body_value 0 m.body)) (λ w. IsWithin 46 v w) (within 46 v)
holds Eavesdrop v m os = inl tt

pub decided : (ps : List Pair) (m : MessageTree) (os : List Ownership) → Either (Matches ps m os)
decided [] m os = inl tt
decided (p ∷ ps) m os = both (holds p.key p.value m os) (decided ps m os)

-- Owners and conditions, one by one.

pub owned_at : {A : Type 0} (os : List (Owner A)) (i : ℕ) (o : Owner A) (v w : List ℕ) → i < length os → o ≡ get_or os i o → (string_bytes o.name ≡ v) × (string_bytes o.unique ≡ w) → IsOwned (ownerships os) v w
owned_at [] i o v w l e h = absurd (omega (arith, l))
owned_at (p ∷ os) zero o v w l e h = inl (ap (λ x. string_bytes x.name) (sym e) ∙ h.0, ap (λ x. string_bytes x.unique) (sym e) ∙ h.1)
owned_at (p ∷ os) (suc i) o v w l e h = inr (owned_at os i o v w (omega (arith, l)) e h)

pub holds_at : {A : Type 0} (P : Pair → Type 0) (cs : List (Condition A)) (i : ℕ) (c : Condition A) → i < length cs → c ≡ get_or cs i c → AllByRecursion P (condition_pairs cs) → P (condition_pair c)
holds_at P [] i c l e h = absurd (omega (arith, l))
holds_at P (d ∷ cs) zero c l e h = subst (λ x. P (condition_pair x)) (sym e) h.0
holds_at P (d ∷ cs) (suc i) c l e h = holds_at P cs i c (omega (arith, l)) e h.1

pub one_holds : {A : Type 0} (P : Pair → Type 0) (cs : List (Condition A)) (i : ℕ) (c : Condition A) → i < length cs → c ≡ get_or cs i c → P (condition_pair c) → AllByRecursion P (condition_pairs (drop (i + 1) cs)) → AllByRecursion P (condition_pairs (drop i cs))
one_holds P cs i c l e h k =
    let d = drop_more cs i c l in
    subst (λ z. AllByRecursion P (condition_pairs z)) (sym d) (subst (λ x. P (condition_pair x)) e h, k)

-- A text that begins with a value and a separator.

-- BeginsWith w (v ++ s ∷ []) by the byte after v
pub within_from : (s : ℕ) (v w : List ℕ) → BeginsWith w v → length v < length w → get_or w (length v) 0 ≡ s → BeginsWith w (v ++ s ∷ [])
within_from s [] [] h l e = absurd (omega (arith, l))
within_from s [] (b ∷ w) h l e = (w, ap (λ x. x ∷ w) e)
within_from s (a ∷ v) [] h l e = absurd (omega (arith, l))
within_from s (a ∷ v) (b ∷ w) h l e =
    let q : b ≡ a = let x = h.1 in cc in
    let t : w ≡ v ++ h.0 = let x = h.1 in cc in
    let r = within_from s v w (h.0, t) (omega (arith, l)) (tail_read a v b w s e) in
    (r.0, ap (λ x. x ∷ w) q ∙ ap (λ x. a ∷ x) r.1)
  where
    tail_read : (a : ℕ) (v : List ℕ) (b : ℕ) (w : List ℕ) (s : ℕ) → get_or (b ∷ w) (length (a ∷ v)) 0 ≡ s → get_or w (length v) 0 ≡ s
    tail_read a v b w s e = e

pub within_reads : (s : ℕ) (v w : List ℕ) → BeginsWith w (v ++ s ∷ []) → BeginsWith w v × (length v < length w) × (get_or w (length v) 0 ≡ s)
within_reads s v w h =
    let e : w ≡ v ++ s ∷ h.0 = h.1 ∙ append_assoc v (s ∷ []) h.0 in
    let l = ap length e in
    let k = length-append v (s ∷ h.0) in
    ((s ∷ h.0, e), omega (arith, l, k), ap (λ x. get_or x (length v) 0) e ∙ at_mid v s h.0)
  where
    at_mid : (v : List ℕ) (s : ℕ) (r : List ℕ) → get_or (v ++ s ∷ r) (length v) 0 ≡ s
    at_mid [] s r = refl
    at_mid (a ∷ v) s r = at_mid v s r
