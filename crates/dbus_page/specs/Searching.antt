-- What is told of a search for a message. D-Bus Specification, "Message Format".
use Rattle.std.specs.Prelude.{◌≡◌, ℕ, List}
use Rattle.dbus_resync.specs.Search.{Searches}
use Rattle.dbus_resync.specs.declared.found.Found.{Found}
use Rattle.dbus_resync.specs.declared.found.Found.TheVariants.{At, Nowhere, Spent}
use Rattle.dbus_resync.specs.declared.found.Searched.{Searched}
use Rattle.dbus_value_model.specs.Specification.{specification}
use Rattle.dbus_page.specs.declared.answers.TheConstants.{WHOLE, PARTIAL, REFUSED}
use Rattle.dbus_page.specs.declared.search.PageSearch.{PageSearch}

-- the answer for what is found, and its offset, which is 0 if no message is found
abbrev pub IsFound : (answer offset : ℕ) → Found → Type 0
IsFound answer offset (At at) = (answer ≡ WHOLE) × (offset ≡ at)
IsFound answer offset Nowhere = (answer ≡ REFUSED) × (offset ≡ 0)
IsFound answer offset Spent = (answer ≡ PARTIAL) × (offset ≡ 0)

-- A search of the bytes within the effort comes to this. It comes to one thing.
pub record Tells (bytes : List ℕ) (effort answer : ℕ) (told : PageSearch) : Type 0 where
  pub searched : Searched
  pub searches : Searches specification bytes effort searched
  pub looked : told.looked ≡ searched.looked
  pub found : IsFound answer told.offset searched.found
