-- A rule matches a message exactly if its sender sent it and its other keys hold.
use mathlib.Core.Logic.{∥∥₁_elim}
use Rattle.std.proofs.Common.{◌≡◌, ℕ, ◌<◌, Bool, ◌&&◌, if◌then◌else◌, List, [], ◌∷◌, Option, Some, ⊎_elim, refl, arith}
use Rattle.std.specs.Bool.{Decides}
use Rattle.std.proofs.lemmas.Bool.{and_parts, and_from}
use Rattle.dbus_message_model.specs.Messages.{MessageTree}
use Rattle.dbus_rule.specs.declared.key.Key.{Key}
use Rattle.dbus_rule.specs.declared.key.Key.TheVariants.{MessageType, Sender, Interface, Member, Path, PathNamespace, Destination, Arg, ArgPath, Arg0Namespace, Eavesdrop}
use Rattle.dbus_rule.specs.declared.rule.Rule.{Rule}
use Rattle.dbus_rule.specs.Keys.{rank}
use Rattle.dbus_rule.specs.Rules.{IsAbove, IsAscending, Pair, is_sender, sender_of}
use Rattle.dbus_rule.specs.RuleViews.{rule_pairs}
use Rattle.dbus_match.specs.Matching.{HoldsAt, IsSent, Matches, OtherHolds, OthersHold, Ownership}
use Rattle.dbus_match.proofs.Decided.{decided}

module _ (m : MessageTree) (os : List Ownership) where
  pub other_holds : (k : Key) (v : List ℕ) → HoldsAt k v m os → OtherHolds k v m
  other_holds MessageType v h = h
  other_holds Sender v h = tt
  other_holds Interface v h = h
  other_holds Member v h = h
  other_holds Path v h = h
  other_holds PathNamespace v h = h
  other_holds Destination v h = h
  other_holds (Arg n) v h = h
  other_holds (ArgPath n) v h = h
  other_holds Arg0Namespace v h = h
  other_holds Eavesdrop v h = h

  pub others_hold : (ps : List Pair) → Matches ps m os → OthersHold ps m
  others_hold [] h = tt
  others_hold (p ∷ ps) h = (other_holds p.key p.value h.0, others_hold ps h.1)

  sent_by : (k : Key) (v : List ℕ) (rest : Option (List ℕ)) → HoldsAt k v m os → IsSent rest m os → IsSent (if is_sender k then Some v else rest) m os
  sent_by MessageType v rest h s = s
  sent_by Sender v rest h s = h
  sent_by Interface v rest h s = s
  sent_by Member v rest h s = s
  sent_by Path v rest h s = s
  sent_by PathNamespace v rest h s = s
  sent_by Destination v rest h s = s
  sent_by (Arg n) v rest h s = s
  sent_by (ArgPath n) v rest h s = s
  sent_by Arg0Namespace v rest h s = s
  sent_by Eavesdrop v rest h s = s

  sent : (ps : List Pair) → Matches ps m os → IsSent (sender_of ps) m os
  sent [] h = tt
  sent (p ∷ ps) h = sent_by p.key p.value (sender_of ps) h.0 (sent ps h.1)

  -- one key holds: it is `sender`, or it holds as the others, and the sender is that of those after
  one_holds : (k : Key) (v : List ℕ) (rest : Option (List ℕ)) (P : Type 0) → (rank k ≡ 1 → P) → (IsSent rest m os → P) → IsSent (if is_sender k then Some v else rest) m os → OtherHolds k v m → HoldsAt k v m os × P
  one_holds MessageType v rest P here after s h = (h, after s)
  one_holds Sender v rest P here after s h = (s, here refl)
  one_holds Interface v rest P here after s h = (h, after s)
  one_holds Member v rest P here after s h = (h, after s)
  one_holds Path v rest P here after s h = (h, after s)
  one_holds PathNamespace v rest P here after s h = (h, after s)
  one_holds Destination v rest P here after s h = (h, after s)
  one_holds (Arg n) v rest P here after s h = (h, after s)
  one_holds (ArgPath n) v rest P here after s h = (h, after s)
  one_holds Arg0Namespace v rest P here after s h = (h, after s)
  one_holds Eavesdrop v rest P here after s h = (h, after s)

  -- no key after `sender` is it
  above : (k : Key) (v : List ℕ) → 1 < rank k → OtherHolds k v m → HoldsAt k v m os
  above MessageType v l h = h
  above Sender v l h = absurd (omega (arith, l))
  above Interface v l h = h
  above Member v l h = h
  above Path v l h = h
  above PathNamespace v l h = h
  above Destination v l h = h
  above (Arg n) v l h = h
  above (ArgPath n) v l h = h
  above Arg0Namespace v l h = h
  above Eavesdrop v l h = h

  after_sender : (p : Pair) (ps : List Pair) → rank p.key ≡ 1 → IsAbove p ps → OthersHold ps m → Matches ps m os
  after_sender p [] e up h = tt
  after_sender p (q ∷ qs) e up h =
      let l : rank p.key < rank q.key = up.0 in
      (above q.key q.value (omega (arith, e, l)) h.0, after_sender p qs e up.1 h.1)

  all_hold : (ps : List Pair) → IsAscending ps → IsSent (sender_of ps) m os → OthersHold ps m → Matches ps m os
  all_hold [] up s h = tt
  all_hold (p ∷ ps) up s h = one_holds p.key p.value (sender_of ps) (Matches ps m os) (λ e. after_sender p ps e up.0 h.1) (λ t. all_hold ps up.1 t h.1) s h.0

  no_proofs : (x y : ⊥) → x ≡ y
  no_proofs x y = absurd x

  both_hold : {A : Type 0} (rule : Rule A) → OthersHold (rule_pairs rule) m → IsSent (sender_of (rule_pairs rule)) m os → Matches (rule_pairs rule) m os
  both_hold rule h s = ⊎_elim (λ k. k) (λ n. absurd (∥∥₁_elim rule.is_rule no_proofs (λ r. n (all_hold (rule_pairs rule) r.ordered s h)))) (decided (rule_pairs rule) m os)

  -- whether a rule matches, by whether its other keys hold and its sender sent the message
  pub by_both : {A : Type 0} (rule : Rule A) (b c : Bool) → Decides b (OthersHold (rule_pairs rule) m) → Decides c (IsSent (sender_of (rule_pairs rule)) m os) → Decides (b && c) (Matches (rule_pairs rule) m os)
  by_both rule b c others is_sent = (
    λ t. let both = and_parts b c t in both_hold rule (others.0 both.0) (is_sent.0 both.1),
    λ h. and_from b c (others.1 (others_hold (rule_pairs rule) h)) (is_sent.1 (sent (rule_pairs rule) h)),
  )
