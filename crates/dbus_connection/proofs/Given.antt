-- What is seen of a message that bytes begin with.
use Rattle.std.proofs.Common.{◌≡◌, ◌∙◌, ℕ, List, length, take, sym, ap, subst}
use Rattle.dbus_value_model.specs.declared.limits.Limits.{Limits}
use Rattle.dbus_message_model.specs.Messages.{FieldTree, MessageTree, fd_count}
use Rattle.dbus_header.specs.MessageOutcomes.{IsWhole}
use Rattle.dbus_header.proofs.OutcomeLaws.{one_whole}
use Rattle.dbus_validate.specs.Seen.{AreNoted}
use Rattle.dbus_validate.specs.Validating.{IsValidated}
use Rattle.dbus_validate.specs.declared.validating.Validated.{Validated}
use Rattle.dbus_validate.proofs.Headed.{own_validated}
use Rattle.dbus_view.specs.Views.{IsViewOf, ViewState}
use Rattle.dbus_connection.specs.Reading.{HasOwn}

-- the descriptors that are counted by the places of its fields are its own
pub counted : (limits : Limits) (b : List ℕ) (j : Validated) (v : ViewState) (fds : ℕ) → IsValidated limits b j → IsViewOf limits (take j.length b) v
    → ((bytes : List ℕ) (fs : List FieldTree) → AreNoted fs bytes j.fields → fds ≡ fd_count fs) → HasOwn v fds
counted limits b j v fds is viewed counts order m views =
    let own = (own_validated limits b j is).validated in
    let front : IsWhole v.limits (take j.length b) order m (length v.bytes) = subst (λ (l : List ℕ). IsWhole v.limits l order m (length v.bytes)) viewed.1 views in
    let whole = subst (λ (l : Limits). IsWhole l (take j.length b) order m (length v.bytes)) viewed.0 front in
    let same = (one_whole limits (take j.length b) order j.order m own.message (length v.bytes) j.length whole own.whole).1 in
    counts _ _ own.fields ∙ ap (λ (t : MessageTree). fd_count t.fields) (sym same)
