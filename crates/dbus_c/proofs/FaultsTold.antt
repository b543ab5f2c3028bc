-- What a call that explains a fault answers, and leaves in the caller's bytes.
use Rattle.std.proofs.Common.{nat_eq, ◌≡◌, ◌⊎◌, ⊎_elim, inl, inr, ℕ, List, [], ◌++◌, length, if◌then◌else◌, refl, ap, sym, subst, ◌∙◌}
use Rattle.std.proofs.lemmas.Bool.{cases_lt}
use Rattle.std.proofs.Math.Seq.{drop-nil, take-nil}
use Rattle.dbus_value_model.specs.Values.{NoValues}
use Rattle.dbus_value_model.specs.declared.order.Order.{Order}
use Rattle.dbus_flatten.specs.Flattening.{ArePartsFlat, flats, over}
use Rattle.dbus_flatten.specs.declared.flat_item.FlatItem.{FlatItem}
use Rattle.dbus_explain.specs.declared.message.Refused.{Refused}
use Rattle.dbus_c.specs.Explaining.{IsExplainedIn, checked_answer}
use Rattle.dbus_c.specs.Outcomes.{IsTold}
use Rattle.dbus_c.specs.declared.explaining.Explained.{Explained}

-- who is told whether there was room is told of a fault
pub told_checked : (answer : ℕ) → IsTold answer → checked_answer answer ≡ 2
told_checked answer e = ap (λ (k : ℕ). if nat_eq k 0 then 2 else if nat_eq answer 5 then 0 else answer) e

-- a fault that is explained is one that a check tells
module _ (refused : Refused) (old new : List ℕ) (told : Explained) (answer : ℕ) (is : IsExplainedIn refused old new told answer) where
  one_of : (answer ≡ 0) ⊎ (answer ≡ 4)
  one_of = ⊎_elim (λ h. inl (is.written.whole h)) (λ h. inr (is.written.cut h)) (cases_lt (length is.text) (length old))

  pub explained_checked : checked_answer answer ≡ 2
  explained_checked = ⊎_elim (λ (e : answer ≡ 0). ap checked_answer e) (λ (e : answer ≡ 4). ap checked_answer e) one_of

  pub explained_told : IsTold answer
  explained_told = ⊎_elim (λ (e : answer ≡ 0). subst IsTold (sym e) refl) (λ (e : answer ≡ 4). subst IsTold (sym e) refl) one_of

-- nothing has no item
pub no_items : (order : Order) (first : ℕ) (items : List FlatItem) → ArePartsFlat order [] 0 NoValues first items items (record { fields = 0; all = 0 })
unfolding flats
no_items order first items = record {
  fields = refl;
  all = record {
    counted = refl;
    written = λ small. sym (ap (λ (l : List FlatItem). over l items) (drop-nil first) ∙ ap (λ (l : List FlatItem). l ++ items) (take-nil (length items)));
  };
}
