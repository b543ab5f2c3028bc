-- Rules in a set: of which messages what is asked holds by them.
use Rattle.std.proofs.Common.{◌≡◌, ℕ, ◌+◌, ◌<◌, ◌⊎◌, Bool, true, false, not, List, [], ◌∷◌, map, Option, None, Some, Ordering, Less, Equal, Greater, cond, length, get_or, drop, inl, inr, ⊎_elim, refl, sym, ap, ◌∙◌, subst}
use mathlib.Core.Bool.{beq}
use Rattle.std.specs.Prelude.{◌↔◌, IfSome}
use Rattle.std.specs.Bool.{Decides}
use Rattle.std.specs.Map.{values_of}
use Rattle.std.specs.Ordering.{is_eq, match_ordering}
use Rattle.std.specs.declared.alloc.Global.{Global}
use Rattle.std.proofs.lemmas.Bool.{false≢true}
use Rattle.std.proofs.lemmas.List.{drop_more}
use Rattle.dbus_message_model.specs.Messages.{MessageTree}
use Rattle.dbus_message_model.specs.declared.field_code.TheConstants as field
use Rattle.dbus_match.specs.Matching.{Ownership}
use Rattle.dbus_match.specs.TakenFor.{IsSentBy, text_at}
use Rattle.dbus_match.proofs.TakenFor.{matching_may}
use Rattle.dbus_rule.proofs.PairChoices.{Either}
use Rattle.dbus_rule.specs.RuleViews.{rule_pairs}
use Rattle.dbus_rule.specs.Rules.{Pair}
use Rattle.dbus_rule.specs.declared.rule.Rule.{Rule}
use Rattle.dbus_rule_set.specs.Handles.{handle_cmp}
use Rattle.dbus_rule_set.specs.Held.{HoldsOfAny, rule_at, with_rule}
use Rattle.dbus_rule_set.specs.Owners.{OwnerSet, owners_in}
use Rattle.dbus_rule_set.specs.declared.handle.RuleHandle.{RuleHandle}
use Rattle.cli_options.specs.Selections.{Holds, OrInverted, SomeHolds}
use Rattle.cli_options.specs.declared.selection.Question.{Question}
use Rattle.cli_options.specs.declared.selection.Question.TheVariants as questions

abbrev Entries : Type 0
Entries = List (RuleHandle × Rule Global)

module _ (as_bus : Bool) (q : Question) (m : MessageTree) (os : List Ownership) where
  abbrev Met : Entries → Type 0
  Met es = SomeHolds as_bus q (values_of es) m os

  -- ---- a set with one rule more

  met_of : (h : RuleHandle) (r : Rule Global) (es : Entries) → Met (with_rule h r es) → Holds as_bus q (rule_pairs r) m os ⊎ Met es
  met_of h r [] s = s
  met_of h r (e ∷ es) s =
      let split : (o : Ordering) → Met (match_ordering o ((h, r) ∷ e ∷ es) ((e.0, r) ∷ es) (e ∷ with_rule h r es)) → Holds as_bus q (rule_pairs r) m os ⊎ Met (e ∷ es) =
      elim [
        | Less ↦ λ s. s
        | Equal ↦ λ s. ⊎_elim (λ a. inl a) (λ b. inr (inr b)) s
        | Greater ↦ λ s. ⊎_elim (λ a. inr (inl a)) (λ b. ⊎_elim (λ c. inl c) (λ d. inr (inr d)) (met_of h r es b)) s
      ] in
      split (handle_cmp h e.0) s

  met_with : (h : RuleHandle) (r : Rule Global) (es : Entries) → rule_at h es ≡ None → Holds as_bus q (rule_pairs r) m os ⊎ Met es → Met (with_rule h r es)
  met_with h r [] new s = s
  met_with h r (e ∷ es) new s =
      let split : (o : Ordering) → cond (is_eq o) (Some e.1) (rule_at h es) ≡ None → Met (match_ordering o ((h, r) ∷ e ∷ es) ((e.0, r) ∷ es) (e ∷ with_rule h r es)) =
      elim [
        | Less ↦ λ q. s
        | Equal ↦ λ q. absurd cc
        | Greater ↦ λ q. ⊎_elim (λ a. inr (met_with h r es q (inl a))) (λ b. ⊎_elim (λ c. inl c) (λ d. inr (met_with h r es q (inr d))) b) s
      ] in
      split (handle_cmp h e.0) new

  -- the rules of a list match as those of a set, and those from a place on
  abbrev pub AreAdded : List (Rule Global) → (i : ℕ) → Entries → Type 0
  AreAdded rules i es = SomeHolds as_bus q rules m os ↔ (Met es ⊎ SomeHolds as_bus q (drop i rules) m os)

  pub one_added : (rules : List (Rule Global)) (i : ℕ) (r copy : Rule Global) (h : RuleHandle) (es : Entries) → i < length rules → r ≡ get_or rules i r → rule_pairs copy ≡ rule_pairs r → rule_at h es ≡ None
      → AreAdded rules i es → AreAdded rules (i + 1) (with_rule h copy es)
  one_added rules i r copy h es l e same new k =
      let rest = drop (i + 1) rules in
      let left : drop i rules ≡ r ∷ rest = drop_more rules i r l ∙ ap (λ x. x ∷ rest) (sym e) in (
        λ s. ⊎_elim (λ a. inl (met_with h copy es new (inr a)))
            (λ b. ⊎_elim (λ x. inl (met_with h copy es new (inl (subst (λ ps. Holds as_bus q ps m os) (sym same) x)))) (λ y. inr y) (subst (λ z. SomeHolds as_bus q z m os) left b))
            (k.0 s),
        λ t. k.1 (⊎_elim
            (λ a. ⊎_elim (λ x. inr (subst (λ z. SomeHolds as_bus q z m os) (sym left) (inl (subst (λ ps. Holds as_bus q ps m os) same x)))) (λ y. inl y) (met_of h copy es a))
            (λ b. inr (subst (λ z. SomeHolds as_bus q z m os) (sym left) (inr b)))
            t),
      )

-- ---- whether it holds of any

module _ (as_bus : Bool) (q : Question) (m : MessageTree) (os : OwnerSet) (P : RuleHandle × Rule Global → Type 0) (is : (e : RuleHandle × Rule Global) → P e ↔ Holds as_bus q (rule_pairs e.1) m (owners_in os)) where
  met : (es : Entries) → HoldsOfAny P es → Met as_bus q m (owners_in os) es
  met [] h = h
  met (e ∷ es) h = ⊎_elim (λ a. inl ((is e).0 a)) (λ b. inr (met es b)) h

  met_any : (es : Entries) → Met as_bus q m (owners_in os) es → HoldsOfAny P es
  met_any [] s = s
  met_any (e ∷ es) s = ⊎_elim (λ a. inl ((is e).1 a)) (λ b. inr (met_any es b)) s

  pub any_met : (es : Entries) (any : Bool) → Decides any (HoldsOfAny P es) → Decides any (Met as_bus q m (owners_in os) es)
  any_met es any d = (λ t. met es (d.0 t), λ s. d.1 (met_any es s))

-- ---- rules that are the same

pub same_some : (as_bus : Bool) (q : Question) (rules others : List (Rule Global)) (m : MessageTree) (os : List Ownership) → map rule_pairs rules ≡ map rule_pairs others → SomeHolds as_bus q rules m os → SomeHolds as_bus q others m os
same_some as_bus q [] [] m os e h = absurd h
same_some as_bus q [] (r ∷ others) m os e h = absurd h
same_some as_bus q (r ∷ rules) [] m os e h = absurd cc
same_some as_bus q (r ∷ rules) (s ∷ others) m os e h =
    let one : rule_pairs r ≡ rule_pairs s = cc in
    let more : map rule_pairs rules ≡ map rule_pairs others = cc in
    elim h [
      | inl met ↦ inl (subst (λ (l : List Pair). Holds as_bus q l m os) one met)
      | inr met ↦ inr (same_some as_bus q rules others m os more met)
    ]

-- ---- a rule that matches may match

own_sender : (o : Option (List ℕ)) → IfSome o (λ name. IsSentBy o name)
own_sender None = tt
own_sender (Some name) = refl

asked_holds : (as_bus : Bool) (q : Question) (m : MessageTree) (os : List Ownership) (ps : List Pair) → Holds as_bus questions.Matches ps m os → Holds as_bus q ps m os
asked_holds as_bus questions.Matches m os ps h = h
asked_holds as_bus questions.MayMatch m os ps h = (h.0, ∣ matching_may ps m (text_at field.SENDER m) os (own_sender (text_at field.SENDER m)) h.1 ∣₁)

pub some_asked : (as_bus : Bool) (q : Question) (m : MessageTree) (os : List Ownership) (rules : List (Rule Global)) → SomeHolds as_bus questions.Matches rules m os → SomeHolds as_bus q rules m os
some_asked as_bus q m os [] h = h
some_asked as_bus q m os (r ∷ rules) h = ⊎_elim (λ a. inl (asked_holds as_bus q m os (rule_pairs r) a)) (λ b. inr (some_asked as_bus q m os rules b)) h

-- whether a message is selected, by whether any of the same rules matches it
pub selected_by : (any inverted : Bool) (P Q : Type 0) → Either (OrInverted inverted P) → Decides any Q → ((P → ⊥) ↔ (Q → ⊥)) → Decides (not (beq any inverted)) (OrInverted inverted P)
selected_by false false P Q e d k = (λ t. absurd (false≢true t), λ p. absurd (k.1 (λ q. false≢true (d.1 q)) p))
selected_by false true P Q e d k = (λ t. k.1 (λ q. false≢true (d.1 q)), λ n. refl)
selected_by true false P Q (inl p) d k = (λ t. p, λ q. refl)
selected_by true false P Q (inr n) d k = absurd (k.0 n (d.0 refl))
selected_by true true P Q e d k = (λ t. absurd (false≢true t), λ n. absurd (k.0 n (d.0 refl)))
