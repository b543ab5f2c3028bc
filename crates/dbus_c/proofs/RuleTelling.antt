-- What is told of match rules and a message.
use mir.Val.{bool_byte}
use Rattle.std.proofs.Common.{◌≡◌, ℕ, ◌<◌, Bool, true, false, inl, inr, Option, None, Some, option_map, MatchOption, List, length, refl, ap, sym, ◌∙◌, subst, arith}
use Rattle.std.specs.Bool.{Decides}
use Rattle.std.proofs.lemmas.Bool.{false≢true}
use Rattle.dbus_texts.specs.Kinds.{IsKind}
use Rattle.dbus_texts.specs.declared.text_kind.TextKind.TheVariants.{BusName}
use Rattle.dbus_value_model.specs.declared.limits.Limits.{Limits}
use Rattle.dbus_value_model.specs.declared.order.Order.{Order}
use Rattle.dbus_message_model.specs.Messages.{MessageTree}
use Rattle.dbus_header.proofs.OutcomeLaws.{one_whole}
use Rattle.dbus_view.specs.Views.{ViewState, Views}
use Rattle.dbus_rule_set.specs.declared.handle.RuleHandle.{RuleHandle}
use Rattle.dbus_c_handle.specs.Rules.{AnyMay, Finds}
use Rattle.dbus_c_handle.specs.declared.kept.Kept.{Kept}
use Rattle.dbus_c.specs.MayMatch.{IsKnown, IsNumberOf, TellsMay}
use Rattle.dbus_c.specs.Outcomes.{IsFirstView, IsTold, with_memory, with_room}
use Rattle.dbus_c.specs.Rules.{TellsAll, TellsMatching, written, no_room}

-- all were told, or there was no room: of a message either
pub all_told : (handles : List RuleHandle) (answer : ℕ) (old new : List RuleHandle) → TellsAll handles answer old new → IsTold answer × (with_memory answer ≡ answer)
all_told handles answer old new (written room whole is_new) = (ap with_room whole, ap with_memory whole ∙ sym whole)
all_told handles answer old new (no_room room short is_new) = (ap with_room short, ap with_memory short ∙ sym short)

module _ (own : Option Kept) (limits : Limits) (b : List ℕ) (old : List RuleHandle) (count : ℕ) where
  pub nothing_found : (answer : ℕ) → (IsTold answer → ⊥) → TellsMatching own limits b answer old old count count
  nothing_found answer none = record { found = λ told. absurd (none told); unchanged = λ told. (refl, refl) }

  pub found_told : (v : ViewState) → IsFirstView limits b v → (handles : List RuleHandle) → ((order : Order) (m : MessageTree) → Views v order m → Finds own m handles)
      → (answer : ℕ) (new : List RuleHandle) → TellsAll handles answer old new → TellsMatching own limits b answer old new count (length handles)
  found_told v is handles searched answer new told = record {
    found = λ here order m n whole.
        let same : is.message ≡ m = (one_whole limits b is.order order is.message m (length v.bytes) n is.whole whole).1 in
        (handles, subst (λ (x : MessageTree). Finds own x handles) same (searched is.order is.message is.views), told, refl);
    unchanged = λ other. absurd (other (all_told handles answer old new told).0);
  }

-- ---- whether a rule may match

-- what is known of a sender is what its text names
pub known_by : {R : Type 0} (now : R → List ℕ) (r : Option R) (text : List ℕ) → MatchOption r (IsKind BusName text → ⊥) (λ s. IsKind BusName text × (now s ≡ text))
    → (known : Option (List ℕ)) → IsKnown text known → option_map now r ≡ known
known_by now None text none None is = refl
known_by now None text none (Some name) is = absurd (none is.0)
known_by now (Some s) text some None is = absurd (is some.0)
known_by now (Some s) text some (Some name) is = ap Some (some.1 ∙ sym is.1)

number_of : (b : Bool) (P : Type 0) → Decides b P → IsNumberOf P (bool_byte b)
number_of true P is = inl (is.0 refl, refl)
number_of false P is = inr (λ p. false≢true (is.1 p), refl)

module _ (own : Option Kept) (limits : Limits) (b sender : List ℕ) (old : ℕ) where
  pub nothing_may : (answer : ℕ) → 0 < answer → TellsMay own limits b sender answer old old
  nothing_may answer some = record { may = λ is. absurd (omega (arith, some, is)); unchanged = λ other. refl }

  pub may_told : (v : ViewState) → IsFirstView limits b v → (known : Option (List ℕ)) → ((o : Option (List ℕ)) → IsKnown sender o → known ≡ o) → (is_so : Bool)
      → ((order : Order) (m : MessageTree) → Views v order m → Decides is_so (AnyMay own m known)) → (new : ℕ) → new ≡ bool_byte is_so
      → TellsMay own limits b sender 0 old new
  may_told v is known only is_so decided new counted = record {
    may = λ here order m n whole o is_o.
        let same : is.message ≡ m = (one_whole limits b is.order order is.message m (length v.bytes) n is.whole whole).1 in
        let Asked : MessageTree → Option (List ℕ) → Type 0 = λ x k. AnyMay own x k in
        let seen = number_of is_so (Asked is.message known) (decided is.order is.message is.views) in
        subst (λ (k : Option (List ℕ)). IsNumberOf (Asked m k) new) (only o is_o)
        (subst (λ (x : MessageTree). IsNumberOf (Asked x known) new) same (subst (λ (k : ℕ). IsNumberOf (Asked is.message known) k) (sym counted) seen));
    unchanged = λ other. absurd (other refl);
  }
