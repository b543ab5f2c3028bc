-- A line that is looked at is told, with what becomes of it.
use Rattle.std.proofs.Common.{◌≡◌, ℕ, ◌+◌, Bool, List, length, sym, subst}
use Rattle.std.specs.Prelude.{◌↔◌, IsTrue, Result}
use Rattle.dbus_auth_lines.specs.Cut.{Beginning, WholeLine}
use Rattle.dbus_auth_lines.specs.Lines.{command_name, server_meaning}
use Rattle.dbus_auth_lines.specs.WordPlaces.{AreServerPlaces, SaysToClient}
use Rattle.dbus_auth_lines.specs.WrittenLines.{IsExactServerLine}
use Rattle.dbus_auth_lines.specs.declared.places.ServerWords.{ServerWords}
use Rattle.dbus_watch.specs.Watches.{WatchState}
use Rattle.dbus_watch.specs.declared.watch.Passage.{Passage}
use Rattle.dbus_watch.specs.declared.watch.WatchFault.{WatchFault}
use Rattle.dbus_c.specs.Handshakes.{server_told}
use Rattle.dbus_c.specs.Watching.{LooksAtServer, ServerPasses, passage_number, watch_in}
use Rattle.dbus_c.specs.declared.handshake_lines.HandshakeLine.{HandshakeLine}
use Rattle.dbus_c.specs.declared.watching.HandshakeWatch.{HandshakeWatch}

pub server_looks : (line : List ℕ) (b : Beginning) (words : ServerWords) (exact : Bool) (before after : WatchState) (result : Result Passage WatchFault)
    (answer : ℕ) (told : HandshakeLine) (old new : HandshakeWatch)
    → b ≡ WholeLine line → SaysToClient line words (server_meaning line) → AreServerPlaces line (length (command_name line)) words
    → IsTrue exact ↔ IsExactServerLine line → told ≡ server_told (length line + 2) exact words → before ≡ watch_in old
    → ServerPasses before line result after → watch_in new ≡ after → answer ≡ passage_number result → new.started ≡ old.started → LooksAtServer b answer told old new
server_looks line b words exact before after result answer told old new is says places decided is_told known passed left is_answer started =
    subst (λ (x : Beginning). LooksAtServer x answer told old new) (sym is) (record {
      result = result;
      passed = subst (λ (w : WatchState). ServerPasses w line result (watch_in new)) known (subst (λ (w : WatchState). ServerPasses before line result w) (sym left) passed);
      is_answer = is_answer;
      has = record { words = words; says = says; places = places; exact = exact; decided = decided; is_told = is_told };
      started = started;
    })
