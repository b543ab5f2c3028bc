-- What bytes are to a connection past its handshake: they begin with a message, or with one that is
-- passed over, or are refused, or more are wanted. D-Bus Specification, "Message Protocol" and
-- "Message Format".
use Rattle.std.specs.Prelude.{◌≡◌, ◌<◌, ◌≤◌, ◌⊎◌, ℕ, List, length, take}
use Rattle.dbus_header.specs.MessageItems.{fixed_items}
use Rattle.dbus_header.specs.MessageOutcomes.{IsPartial, IsRefused}
use Rattle.dbus_header.specs.StatedLengths.{StatesLength, length_by}
use Rattle.dbus_header.specs.declared.fixed_header.FixedHeader.{FixedHeader}
use Rattle.dbus_message_model.specs.Messages.{MessageTree, fd_count}
use Rattle.dbus_value_model.specs.declared.order.Order.{Order}
use Rattle.dbus_view.specs.Views.{IsViewOf, ViewState, Views}
use Rattle.dbus_connection.specs.Standing.{Told, Wants, Gives, Passes, Refuses}
use Rattle.dbus_connection.specs.declared.settings.Settings.{Settings}

-- they state no message that is longer than those that are given
abbrev pub Fits : Settings → List ℕ → Type 0
Fits settings bytes = (n : ℕ) → StatesLength settings.limits bytes n → n ≤ settings.longest

-- so many bytes are wanted at least: those that the message under way has by what it states, or 16,
-- which state that; fewer are at hand, or they are neither a message nor refused
pub record IsWanted (settings : Settings) (bytes : List ℕ) (n : ℕ) : Type 0 where
  pub stated : StatesLength settings.limits bytes n ⊎ ((n ≡ 16) × (length bytes < 16))
  pub wanted : (length bytes < n) ⊎ IsPartial settings.limits bytes
  pub fits : Fits settings bytes

-- they begin with this header of a message that is passed over, which has so many bytes
pub record IsPassed (settings : Settings) (bytes : List ℕ) (n : ℕ) (h : FixedHeader) : Type 0 where
  pub rest : List ℕ
  pub header : (fixed_items settings.limits).Passed 0 bytes h 16 rest
  pub stated : n ≡ length_by h
  pub long : settings.longest < n

-- so many file descriptors are the message's own. D-Bus Specification, "Header Fields" (UNIX_FDS)
abbrev pub HasOwn : ViewState → ℕ → Type 0
HasOwn view fds = (order : Order) (m : MessageTree) → Views view order m → fds ≡ fd_count m.fields

-- how many of the bytes are taken, and what came of them
abbrev pub IsRead : Settings → (bytes : List ℕ) → (taken : ℕ) → Told → Type 0
IsRead settings bytes taken (Gives view fds) =
    IsViewOf settings.limits (take taken bytes) view × (taken ≤ length bytes) × HasOwn view fds
    × (taken ≤ settings.longest)
IsRead settings bytes taken (Passes n header) = IsPassed settings bytes n header × (taken ≡ 0)
IsRead settings bytes taken (Refuses fault) =
    IsRefused settings.limits bytes fault × (taken ≡ 0) × Fits settings bytes
IsRead settings bytes taken (Wants n) = IsWanted settings bytes n × (taken ≡ 0)
IsRead settings bytes taken _ = ⊥
