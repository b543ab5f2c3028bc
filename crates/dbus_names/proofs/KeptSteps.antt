-- What a table of names keeps of the open calls, from one message to the next.
use Rattle.std.proofs.Common.{◌≡◌, ℕ, List, Bool, true, false, Option, None, Some, Result, Ok, Err, OnErr, OnOk, option_map, if◌then◌else◌, refl, ap, ◌∙◌}
use Rattle.std.specs.Str.{bytes_eq}
use Rattle.dbus_calls.specs.Answering.{may_answer}
use Rattle.dbus_calls.specs.Events.{event_seen}
use Rattle.dbus_calls.specs.declared.event.CallSeen.{CallSeen}
use Rattle.dbus_calls.specs.declared.event.Event.{Event as EventSeen}
use Rattle.dbus_calls.specs.declared.event.Event.TheVariants as event
use Rattle.dbus_names.specs.NameCalls.{NameCall}
use Rattle.dbus_names.specs.NameStates.{calls_after}
use Rattle.dbus_calls.specs.Waiting.{Waiting, after_reply, answered, is_same, with_call, without_call, without_caller}

pub on_ok : {T E P Q : Type 0} (r : Result T E) → (P → Q) → OnOk r P → OnOk r Q
on_ok (Ok x) f p = f p
on_ok (Err e) f p = p

pub on_err : {T E P Q : Type 0} (r : Result T E) → (P → Q) → OnErr r P → OnErr r Q
on_err (Ok x) f p = p
on_err (Err e) f p = f p

pub any_err : {T E P : Type 0} (r : Result T E) → P → OnErr r P
any_err (Ok x) p = tt
any_err (Err e) p = p

pub both_ok : {T E : Type 0} (P Q : Type 0) (r : Result T E) → OnOk r P → OnOk r Q → OnOk r (P × Q)
both_ok P Q (Ok x) p q = (p, q)
both_ok P Q (Err e) p q = p

-- Of a waiting call something is seen.
module _ {T U : Type 0} (f : T → U) where
  abbrev pub seen : Waiting T → Waiting U
  seen w c s = option_map f (w c s)

  either_seen : (b : Bool) (x y : Option T) → option_map f (if b then x else y) ≡ (if b then option_map f x else option_map f y)
  either_seen true x y = refl
  either_seen false x y = refl

  pub with_seen : (c : List ℕ) (s : ℕ) (x : T) (w : Waiting T) (d : List ℕ) (t : ℕ) → option_map f (with_call c s x w d t) ≡ with_call c s (f x) (seen w) d t
  with_seen c s x w d t = either_seen (is_same c s d t) (Some x) (w d t)

  pub without_seen : (c : List ℕ) (s : ℕ) (w : Waiting T) (d : List ℕ) (t : ℕ) → option_map f (without_call c s w d t) ≡ without_call c s (seen w) d t
  without_seen c s w d t = either_seen (is_same c s d t) None (w d t)

  pub left_seen : (name : List ℕ) (w : Waiting T) (d : List ℕ) (t : ℕ) → option_map f (without_caller name w d t) ≡ without_caller name (seen w) d t
  left_seen name w d t = either_seen (bytes_eq name d) None (w d t)

  module _ (to : U → Option (List ℕ)) (sender : Option (List ℕ)) where
    pub answered_seen : (x : Option T) → option_map f (answered (λ t. to (f t)) x sender) ≡ answered to (option_map f x) sender
    answered_seen None = refl
    answered_seen (Some x) = either_seen (may_answer (to (f x)) sender) (Some x) None

    pub after_seen : (x : Option T) (c : List ℕ) (s : ℕ) (w : Waiting T) (d : List ℕ) (t : ℕ) → option_map f (after_reply (λ t. to (f t)) x c s sender w d t) ≡ after_reply to (option_map f x) c s sender (seen w) d t
    after_seen None c s w d t = refl
    after_seen (Some x) c s w d t =
        either_seen (may_answer (to (f x)) sender) (without_call c s w d t) (w d t)
        ∙ ap (λ l. if may_answer (to (f x)) sender then l else seen w d t) (without_seen c s w d t)

-- what is no call asks nothing
pub no_call : (w : Waiting NameCall) (e : EventSeen) (asked : Option NameCall) → ((x : CallSeen) → e ≡ event.Call x → ⊥) → (c : List ℕ) (s : ℕ) → calls_after w (event_seen e) None c s ≡ calls_after w (event_seen e) asked c s
no_call w (event.Call x) asked other c s = absurd (other x refl)
no_call w (event.Reply r) asked other c s = refl
no_call w (event.Departure name) asked other c s = refl
no_call w (event.Other change) asked other c s = refl
