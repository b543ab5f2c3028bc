-- What a page gives of a line beside its message: numbers, and texts one after another.
use Rattle.std.specs.Prelude.{ℕ, ◌≤◌, List, [], ◌∷◌, length, take, drop, Option, None, Some, nat_eq, IsUtf8, if◌then◌else◌}
use Rattle.dbus_call_lines.specs.Durations.{time_between}
use Rattle.dbus_list.specs.Pairs.{ToldCall}
use Rattle.dbus_list.specs.Told.{Told}
use Rattle.dbus_page.specs.Places.{time_if}
use Rattle.dbus_page.specs.declared.json_line.PagePlace.{PagePlace}
use Rattle.dbus_page.specs.declared.line.PageBeside.{PageBeside}

-- bytes begin with a text of this length, in UTF-8
abbrev pub HasText : (n : ℕ) → (bytes : List ℕ) → Type 0
HasText n bytes = (n ≤ length bytes) × IsUtf8 (take n bytes)

-- the texts are the call's member, the sender's name and the destination's name
abbrev pub member : PageBeside → (texts : List ℕ) → List ℕ
member b texts = take b.member texts

abbrev pub after_member : PageBeside → (texts : List ℕ) → List ℕ
after_member b texts = drop b.member texts

abbrev pub sender : PageBeside → (texts : List ℕ) → List ℕ
sender b texts = take b.sender (after_member b texts)

abbrev pub after_sender : PageBeside → (texts : List ℕ) → List ℕ
after_sender b texts = drop b.sender (after_member b texts)

abbrev pub destination : PageBeside → (texts : List ℕ) → List ℕ
destination b texts = take b.destination (after_sender b texts)

abbrev pub AreTexts : PageBeside → (texts : List ℕ) → Type 0
AreTexts b texts = HasText b.member texts × HasText b.sender (after_member b texts) × HasText b.destination (after_sender b texts)

-- no text is no name
abbrev pub if_any : List ℕ → Option (List ℕ)
if_any [] = None
if_any (c ∷ cs) = Some (c ∷ cs)

-- what a line tells then, of a message at this place: the call, if it has a number, and the names
abbrev pub call_given : PagePlace → PageBeside → (texts : List ℕ) → Option ToldCall
call_given place b texts =
    if nat_eq b.call 0 then None
    else Some (record { number = b.call; member = member b texts; took = time_between (time_if b.has_call_time b.call_time) (time_if place.has_time place.time) })

abbrev pub told_given : PagePlace → PageBeside → (texts : List ℕ) → Told
told_given place b texts = record { answered = call_given place b texts; sender = if_any (sender b texts); destination = if_any (destination b texts) }
