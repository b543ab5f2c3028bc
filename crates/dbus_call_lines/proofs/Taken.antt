-- What a pass takes away is what a message ends.
use Rattle.std.proofs.Common.{◌≡◌, ℕ, List, Bool, true, false, Option, None, Some, ◌&&◌, if◌then◌else◌, refl, ap, ◌∙◌, subst, arith}
use Rattle.std.proofs.lemmas.Slice.Eq.{bytes_eq-Decides}
use Rattle.dbus_calls.specs.Answering.{may_answer}
use Rattle.dbus_calls.specs.Events.{Event, caller_of, destination_of, event_of}
use Rattle.dbus_calls.specs.Events.Event.{Calls, Replies, Leaves, Passes}
use Rattle.dbus_calls.specs.Pairing.{IsOpen, ended_by, run}
use Rattle.dbus_calls.specs.Waiting.{Waiting, answered, is_same, no_calls}
use Rattle.dbus_calls.proofs.Passes.{keeps_open}
use Rattle.dbus_call_lines.specs.Listing.{IsTaken, Numbered, TakesEnded, message_of}

same_key : (c : List ℕ) (s : ℕ) (caller : List ℕ) (serial : ℕ) → is_same c s caller serial ≡ true → (c ≡ caller) × (s ≡ serial)
same_key c s caller serial is = (grind (arith, bytes_eq-Decides c caller), grind (arith, bytes_eq-Decides c caller))

key_same : (c : List ℕ) (s : ℕ) (caller : List ℕ) (serial : ℕ) → c ≡ caller → s ≡ serial → is_same c s caller serial ≡ true
key_same c s caller serial p q = grind (arith, bytes_eq-Decides c caller)

both : (a b : Bool) → (a && b) ≡ true → (a ≡ true) × (b ≡ true)
both a b is = (grind arith, grind arith)

from_both : (a b : Bool) → a ≡ true → b ≡ true → (a && b) ≡ true
from_both a b p q = grind arith

abbrev to : Numbered → Option (List ℕ)
to c = destination_of c.message

-- the call that waits is answered
is_answered : (w : Option Numbered) (call : Numbered) (sender : Option (List ℕ)) → w ≡ Some call → may_answer (to call) sender ≡ true → answered to w sender ≡ Some call
is_answered w call sender is may = ap (λ o. answered to o sender) is ∙ ap (λ (b : Bool). if b then Some call else None) may

answered_at : (w : Option Numbered) (call : Numbered) (sender : Option (List ℕ)) → answered to w sender ≡ Some call → (w ≡ Some call) × (may_answer (to call) sender ≡ true)
answered_at None call sender is = grind arith
answered_at (Some other) call sender is = chosen (may_answer (to other) sender) refl is
  where
    chosen : (b : Bool) → may_answer (to other) sender ≡ b → (if b then Some other else None) ≡ Some call → (◌≡◌ {A = Option Numbered} (Some other) (Some call)) × (may_answer (to call) sender ≡ true)
    chosen true may same = let one : other ≡ call = cc in (same, subst (λ (z : Numbered). may_answer (to z) sender ≡ true) one may)
    chosen false may same = grind arith

module _ (before : List Numbered) (call : Numbered) where
  abbrev w : Waiting Numbered
  w = run message_of no_calls before

  abbrev own : List ℕ
  own = caller_of call.message

  abbrev number : ℕ
  number = call.message.serial

  waits : IsOpen message_of before call → (c : List ℕ) (s : ℕ) → c ≡ own → s ≡ number → w c s ≡ Some call
  waits is c s p q = (keeps_open message_of before c s call).1 (is, p, q)

  abbrev Ends : Event → Type 0
  Ends e = IsOpen message_of before call × (ended_by own number (to call) e ≡ true)

  taken : (e : Event) → Ends e → IsTaken w e call
  taken (Calls c s wants) h = let key = same_key c s own number h.1 in waits h.0 c s key.0 key.1
  taken (Replies c s sender) h =
      let parts = both (is_same c s own number) (may_answer (to call) sender) h.1 in
      let key = same_key c s own number parts.0 in
      is_answered (w c s) call sender (waits h.0 c s key.0 key.1) parts.1
  taken (Leaves name) h = (number, waits h.0 name number (grind (arith, bytes_eq-Decides name own)) refl)
  taken Passes h = grind arith

  ended : (e : Event) → IsTaken w e call → Ends e
  ended (Calls c s wants) h = let is = (keeps_open message_of before c s call).0 h in (is.0, key_same c s own number is.1 is.2)
  ended (Replies c s sender) h =
      let at = answered_at (w c s) call sender h in
      let is = (keeps_open message_of before c s call).0 at.0 in
      (is.0, from_both (is_same c s own number) (may_answer (to call) sender) (key_same c s own number is.1 is.2) at.1)
  ended (Leaves name) h = let is = (keeps_open message_of before name h.0 call).0 h.1 in (is.0, grind (arith, bytes_eq-Decides name own, is.1))
  ended Passes h = absurd h

pub takes_ended : TakesEnded
takes_ended before x call = (taken before call (event_of x.message), ended before call (event_of x.message))
