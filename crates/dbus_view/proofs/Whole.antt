-- The message that a view is of is the one that was validated.
use Rattle.std.proofs.Common.{◌≡◌, ℕ, ◌+◌, List, length, sym, subst, ◌∙◌}
use Rattle.dbus_value_model.specs.declared.limits.Limits.{Limits}
use Rattle.dbus_value_model.specs.declared.order.Order.{Order}
use Rattle.dbus_message_model.specs.Messages.{MessageTree, IsMessage, body_start, body_bytes}
use Rattle.dbus_message_model.proofs.BothOrders.{message_length}
use Rattle.dbus_header.specs.MessageOutcomes.{IsWhole}
use Rattle.dbus_header.proofs.OutcomeLaws.{one_whole}
use Rattle.dbus_validate.specs.declared.validating.Validated.{Validated}
use Rattle.dbus_validate.specs.Validating.{IsValidatedWhole}
use Rattle.dbus_view.specs.Views.{ViewState, Views, ViewsOne}

pub whole_message : (limits : Limits) (b : List ℕ) (order : Order) (m : MessageTree) (n : ℕ) → IsWhole limits b order m n → IsMessage limits order m
unfolding IsWhole
whole_message limits b order m n w = w.0

module _ (limits : Limits) (bytes : List ℕ) (j : Validated) (h : IsValidatedWhole limits bytes j) where
  abbrev pub message : MessageTree
  message = h.validated.message

  pub all_whole : IsWhole limits bytes j.order message (length bytes)
  all_whole = subst (λ (n : ℕ). IsWhole limits bytes j.order message n) h.all h.validated.whole

  pub valid : IsMessage limits j.order message
  valid = whole_message limits bytes j.order message j.length h.validated.whole

  abbrev pub state : ViewState
  state = record { limits = limits; bytes = bytes }

  module _ (v : ViewState) (is : state ≡ v) where
    pub views_one : ViewsOne v
    views_one = subst ViewsOne is (j.order, message, all_whole)

    pub same : (order : Order) (m : MessageTree) → Views v order m → (j.order ≡ order) × (message ≡ m)
    same order m w =
        let both = one_whole limits bytes j.order order message m (length bytes) (length bytes) all_whole (subst (λ (u : ViewState). Views u order m) (sym is) w) in
        (both.0, both.1)

    -- so what holds of the one that was validated holds of it
    pub as_viewed : (P : ViewState → Order → MessageTree → Type 0) → P state j.order message → (order : Order) (m : MessageTree) → Views v order m → P v order m
    as_viewed P holds order m w =
        let both = same order m w in
        subst (λ (u : MessageTree). P v order u) both.1 (subst (λ (o : Order). P v o message) both.0 (subst (λ (u : ViewState). P u j.order message) is holds))
