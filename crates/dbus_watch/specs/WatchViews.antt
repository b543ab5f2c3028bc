-- A watch as contracts see it. D-Bus Specification, "Authentication Protocol".
use Rattle.std.specs.Prelude.{◌≡◌, Result}
use Rattle.dbus_watch.specs.Watches.{WatchState, Passed}
use Rattle.dbus_watch.specs.declared.watch.Passage.{Passage}
use Rattle.dbus_watch.specs.declared.watch.WatchFault.{WatchFault}
use Rattle.dbus_watch.specs.declared.watch.Watch.{Watch}

abbrev pub watch_state : Watch → WatchState
watch_state w = record { server = w.server; unanswered = w.unanswered; asked = w.asked }

-- the call answered this, and left this watch
abbrev pub DidPass : Result Passage WatchFault → WatchState → Passed → Type 0
DidPass result left passed = (result ≡ passed.answer) × (left ≡ passed.after)
