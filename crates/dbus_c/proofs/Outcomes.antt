-- What is said of bytes that begin with a message, and of those that begin with none.
use Rattle.std.proofs.Common.{◌≡◌, ℕ, ◌<◌, ◌≤◌, List, sym, ◌∙◌, arith, ◌+◌, ◌-◌, length, take, drop, ap, subst, slice_index_or, Bool, if◌then◌else◌}
use Rattle.std.proofs.lemmas.Bool.{ne_eqb}
use Rattle.std.proofs.lemmas.List.{drop-take, length-take-le}
use Rattle.dbus_value_model.specs.declared.limits.Limits.{Limits}
use Rattle.dbus_value_model.specs.declared.order.Order.{Order}
use Rattle.dbus_message_model.specs.Messages.{MessageTree, body_bytes, order_byte}
use Rattle.dbus_header.specs.MessageOutcomes.{IsWhole}
use Rattle.dbus_header.proofs.OutcomeLaws.{whole_bytes}
use Rattle.dbus_header.specs.NoMessage.{BeginsWithNone}
use Rattle.dbus_message_model.proofs.BothOrders.{message_length}
use Rattle.dbus_validate.specs.declared.validating.Validated.{Validated}
use Rattle.dbus_validate.specs.Validating.{IsValidated}
use Rattle.dbus_validate.proofs.Headed.{followed}
use Rattle.dbus_validate.proofs.WholeParts.{inside}
use Rattle.dbus_view.specs.Views.{ViewState, IsViewOf}
use Rattle.dbus_c.specs.Checking.{Tells, whole, partial, refused}
use Rattle.dbus_c.specs.Outcomes.{IsFirstView, IsTold, with_memory, with_room}
use Rattle.dbus_c.specs.declared.checking.Checked.{Checked}

-- what a check tells of bytes that begin with no message
pub none_told : (limits : Limits) (b : List ℕ) → BeginsWithNone limits b → (answer : ℕ) (told : Checked) → Tells limits b answer told → (0 < answer) × (answer ≤ 2)
none_told limits b none answer told (whole order m n w is told_is) = absurd (none order m n w)
none_told limits b none answer told (partial p is told_is) = (omega (arith, is), omega (arith, is))
none_told limits b none answer told (refused f r is told_is) = (omega (arith, is), omega (arith, is))

-- the answer to such bytes is the same with room and memory enough
module _ (answer : ℕ) (most : answer ≤ 2) where
  pub with_room_same : with_room answer ≡ answer
  with_room_same = ap (λ (x : Bool). if x then 0 else answer) (ne_eqb answer 4 (λ e. omega (arith, most, e)))

  pub with_memory_same : with_memory answer ≡ answer
  with_memory_same = ap (λ (x : Bool). if x then 0 else answer) (ne_eqb answer 3 (λ e. omega (arith, most, e)))

  pub not_told : 0 < answer → IsTold answer → ⊥
  not_told some told = let zero_is : answer ≡ 0 = sym with_room_same ∙ told in omega (arith, some, zero_is)

-- The message that bytes begin with, taken by itself.

-- a view of the message that is validated is of the one that all of them begin with
pub front_viewed : (limits : Limits) (b : List ℕ) (j : Validated) (v : ViewState) → IsValidated limits b j → IsViewOf limits (take j.length b) v → IsFirstView limits b v
front_viewed limits b j v first is =
    let order = is.2.0 in
    let m = is.2.1 in
    let k = length v.bytes in
    let within : IsWhole limits v.bytes order m k = subst (λ (l : Limits). IsWhole l v.bytes order m k) is.0 is.2.2 in
    let here : IsWhole limits (take j.length b) order m k = subst (λ (t : List ℕ). IsWhole limits t order m k) is.1 within in
    let same : k ≡ j.length = ap length is.1 ∙ length-take-le j.length b (inside limits b j first) in
    record {
      order = order;
      message = m;
      views = is.2.2;
      whole = followed limits b order m j.length k here;
      front = is.1 ∙ ap (λ (i : ℕ). take i b) (sym same);
    }

-- the parts of the message that is validated are those of the one that all of the bytes begin with
module _ (limits : Limits) (b : List ℕ) (j : Validated) (is : IsValidated limits b j) where
  pub first_body_length : j.length ≡ j.body + length (body_bytes j.order is.message)
  first_body_length = omega (arith, (whole_bytes limits b j.order is.message j.length is.whole).1, message_length j.order is.message, is.body.0)

  pub first_body : drop j.body (take j.length b) ≡ body_bytes j.order is.message
  first_body =
      let apart : j.length ≡ j.body + (j.length - j.body) = omega (arith, first_body_length) in
      ap (λ (n : ℕ). drop j.body (take n b)) apart ∙ drop-take j.body (j.length - j.body) b ∙ sym is.body.1

-- The first byte of a message.

-- a message's first byte names its order
pub first_is : (limits : Limits) (b : List ℕ) (order : Order) (m : MessageTree) (n : ℕ) → IsWhole limits b order m n → slice_index_or b 0 0 ≡ order_byte order
first_is limits b order m n w = ap (λ (t : List ℕ). slice_index_or t 0 0) (whole_bytes limits b order m n w).2
