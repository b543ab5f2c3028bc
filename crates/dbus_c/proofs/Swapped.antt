-- A message is written in the order that is asked for, and nothing else is.
use denote.Enum.Bare.{sameb}
use Rattle.std.proofs.Common.{◌≡◌, ℕ, ◌<◌, ◌≤◌, List, ◌++◌, length, drop, not, true, false, refl, ap, ◌∙◌, arith}
use Rattle.dbus_value_model.specs.declared.limits.Limits.{Limits}
use Rattle.dbus_value_model.specs.contracts.order.Order.{the_type}
use Rattle.dbus_value_model.specs.declared.order.Order.{Order}
use Rattle.dbus_value_model.specs.declared.order.Order.TheVariants.{Little, Big}
use Rattle.dbus_message_model.specs.Messages.{MessageTree, message_bytes}
use Rattle.dbus_header.specs.MessageOutcomes.{IsWhole}
use Rattle.dbus_header.proofs.OutcomeLaws.{one_whole}
use Rattle.dbus_header.specs.NoMessage.{BeginsWithNone}
use Rattle.dbus_swap.specs.Byteswapping.{other}
use Rattle.dbus_c.specs.Outcomes.{Swaps}

-- the code's test of two orders says whether they are one, and of two that are not each is the
-- other
pub one_order : (order asked : Order) → not (sameb the_type order asked) ≡ false → order ≡ asked
one_order Little Little test = refl
one_order Little Big test = absurd cc
one_order Big Little test = absurd cc
one_order Big Big test = refl

pub other_order : (order asked : Order) → not (sameb the_type order asked) ≡ true → other order ≡ asked
other_order Little Little test = absurd cc
other_order Little Big test = refl
other_order Big Little test = refl
other_order Big Big test = absurd cc

-- what is written of bytes that begin with a message, by the room that there is, and of others
module _ (limits : Limits) (b : List ℕ) (asked : Order) (old : List ℕ) where
  pub none_written : BeginsWithNone limits b → (answer : ℕ) → Swaps limits b asked answer old old
  none_written none answer = record { written = λ o u k v fits. absurd (none o u k v); no_room = λ o u k v few. absurd (none o u k v); unchanged = λ other. refl }

  module _ (order : Order) (m : MessageTree) (n : ℕ) (w : IsWhole limits b order m n) where
    same_length : (o : Order) (u : MessageTree) (k : ℕ) → IsWhole limits b o u k → n ≡ k
    same_length o u k v = (one_whole limits b order o m u n k w v).2

    pub short_written : length old < n → Swaps limits b asked 4 old old
    short_written few = record {
      written = λ o u k v fits. let same = same_length o u k v in absurd (omega (arith, few, fits, same));
      no_room = λ o u k v less. refl;
      unchanged = λ other. refl;
    }

    pub all_written : (new : List ℕ) → n ≤ length old → new ≡ message_bytes asked m ++ drop n old → Swaps limits b asked 0 old new
    all_written new room is = record {
      written = λ o u k v fits.
          let same = (one_whole limits b order o m u n k w v).1 in
          (refl, is ∙ ap (λ (t : MessageTree). message_bytes asked t ++ drop n old) same ∙ ap (λ (i : ℕ). message_bytes asked u ++ drop i old) (same_length o u k v));
      no_room = λ o u k v few. let same = same_length o u k v in absurd (omega (arith, few, room, same));
      unchanged = λ other. absurd (other refl);
    }
