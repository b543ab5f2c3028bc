-- What is told of bytes holds, and nothing else does.
use Rattle.std.proofs.Common.{◌≡◌, ℕ, ◌+◌, ◌<◌, List, [], length, refl, sym, subst, ap, ◌∙◌, arith}
use Rattle.dbus_value_model.specs.declared.fault.Fault.{Fault}
use Rattle.dbus_value_model.specs.declared.limits.Limits.{Limits}
use Rattle.dbus_value_model.specs.declared.order.Order.{Order}
use Rattle.dbus_message_model.specs.Messages.{MessageTree}
use Rattle.dbus_header.specs.MessageOutcomes.{IsWhole, IsRefused, IsPartial}
use Rattle.dbus_header.proofs.OutcomeLaws.{one_outcome, one_whole, one_fault, whole_inside}
use Rattle.dbus_check.specs.Checks.{CheckerState, Stands, Takes}
use Rattle.dbus_check.specs.declared.check.Check.{Check}
use Rattle.dbus_check.specs.declared.check.Check.TheVariants as check
use Rattle.dbus_c.specs.Checking.{whole, partial, refused, IsChecked, whole_told, nothing_told, fault_told}
use Rattle.dbus_c.specs.declared.checking.Checked.{Checked}

-- a new checker's answer to bytes is their outcome
pub outcome_of : (x : CheckerState) (limits : Limits) (b : List ℕ) (answer : Check) → Stands x [] → x.limits ≡ limits → ((w : List ℕ) → Stands x w → Takes x.limits w b answer) → Takes limits [] b answer
outcome_of x limits b answer stands is takes = subst (λ (l : Limits). Takes l [] b answer) is (takes [] stands)

-- of bytes that begin with a message
abbrev pub Begins : Limits → List ℕ → ℕ → Type 0
Begins limits b n = (order : Order) × (m : MessageTree) × IsWhole limits b order m n

pub begins : (limits : Limits) (b : List ℕ) (n : ℕ) → Takes limits [] b (check.Done n) → Begins limits b n
begins limits b n h = let same : 0 + n ≡ n = omega arith in (h.1, h.2, subst (λ (k : ℕ). IsWhole limits b h.1 h.2 k) same h.3)

module _ (limits : Limits) (b : List ℕ) where
  pub some_there : (n : ℕ) → Begins limits b n → 0 < length b
  some_there n h = let inside = whole_inside limits b h.0 h.1 n h.2 in omega (arith, inside.0, inside.1)

  module _ (n : ℕ) (told : Checked) (h : Begins limits b n) (is : (l : Limits) (order : Order) (m : MessageTree) → IsWhole l b order m n → told ≡ whole_told order n) where
    pub done_checked : IsChecked limits b 0 told
    done_checked = record {
      tells = whole h.0 h.1 n h.2 refl (is limits h.0 h.1 h.2);
      exact = record {
        whole = λ order m k w.
            let same : k ≡ n = (one_whole limits b order h.0 m h.1 k n w h.2).2 in
            (refl, is limits order m (subst (λ (i : ℕ). IsWhole limits b order m i) same w) ∙ ap (whole_told order) (sym same));
        partial = λ p. absurd ((one_outcome limits b).1 h.0 h.1 n h.2 p);
        refused = λ f r. absurd ((one_outcome limits b).0 h.0 h.1 n f h.2 r);
      };
    }

  module _ (told : Checked) (p : IsPartial limits b) (is : told ≡ nothing_told) where
    pub partial_checked : IsChecked limits b 1 told
    partial_checked = record {
      tells = partial p refl is;
      exact = record {
        whole = λ order m k w. absurd ((one_outcome limits b).1 order m k w p);
        partial = λ q. (refl, is);
        refused = λ f r. absurd ((one_outcome limits b).2 f r p);
      };
    }

  module _ (f : Fault) (told : Checked) (r : IsRefused limits b f) (is : told ≡ fault_told f) where
    pub refused_checked : IsChecked limits b 2 told
    refused_checked = record {
      tells = refused f r refl is;
      exact = record {
        whole = λ order m k w. absurd ((one_outcome limits b).0 order m k f w r);
        partial = λ p. absurd ((one_outcome limits b).2 f r p);
        refused = λ g s. (refl, is ∙ ap fault_told (one_fault limits b f g r s));
      };
    }
