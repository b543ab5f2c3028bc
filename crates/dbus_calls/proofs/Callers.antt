-- The calls of a caller.
use Rattle.std.proofs.Common.{◌≡◌, ℕ, nat_eq, List, Bool, true, false, Option, None, Some, Result, OnOk, ◌==◌, ◌||◌, ◌&&◌, if◌then◌else◌, refl, arith, ap, sym, ◌∙◌, subst}
use Rattle.std.specs.BTreeMap.{BTreeMap, get}
use Rattle.std.specs.List.{All}
use Rattle.std.specs.List.Sorted.{IsStrictlySortedBy}
use Rattle.std.specs.Map.{keys_of}
use Rattle.std.specs.Ordering.{nat_cmp}
use Rattle.dbus_message_model.specs.Messages.{MessageTree}
use Rattle.dbus_message_model.specs.declared.message_type.TheConstants as message
use Rattle.dbus_calls.specs.Kept.{call_at, call_in, entries_of}
use Rattle.dbus_calls.specs.declared.caller_calls.CallerCalls.{CallerCalls}
use Rattle.dbus_calls.specs.declared.caller_calls.CallerCalls.TheVariants.{One, Several}
use Rattle.dbus_calls.specs.Answering.{is_unique}
use Rattle.dbus_calls.specs.OwnerChanges.{Change, change_of}
use Rattle.dbus_calls.specs.OwnerChanges.Change.{Owned, Free, Lost}
use Rattle.dbus_calls.specs.Events.{Event, event_of, departed, caller_of, replied_to, reply_serial_of, wants_reply, sender_of}
use Rattle.dbus_calls.specs.Events.Event.{Calls, Replies, Leaves, Passes}

none_of : {T : Type 0} (x : Option (CallerCalls T)) (serial s : ℕ) → x ≡ None → call_in x s ≡ (if nat_eq serial s then None else call_in x s)
none_of x serial s none = grind arith

-- a caller that has no calls loses none
pub none_left : {T : Type 0} (x y : Option (CallerCalls T)) (same : Bool) (serial s : ℕ) → y ≡ x → (same ≡ true → x ≡ None) → call_in y s ≡ (if (same && nat_eq serial s) then None else call_in x s)
none_left x y false serial s is none = ap (λ z. call_in z s) is
none_left x y true serial s is none = ap (λ z. call_in z s) is ∙ none_of x serial s (none refl)

-- nothing changes if a caller that has no calls is let go
pub none_let_go : {T : Type 0} (b : Bool) (x : Option (CallerCalls T)) (s : ℕ) → (b ≡ true → call_in x s ≡ None) → call_in (if b then None else x) s ≡ call_in x s
none_let_go true x s none = sym (none refl)
none_let_go false x s none = refl

-- the serials of one call rise, and those of a map are where it has them
pub one_rises : {T : Type 0} (calls : CallerCalls T) (serial : ℕ) (call : T) → calls ≡ One serial call → IsStrictlySortedBy nat_cmp (keys_of (entries_of calls))
unfolding IsStrictlySortedBy
one_rises calls serial call is = subst (λ c. IsStrictlySortedBy nat_cmp (keys_of (entries_of c))) (sym is) (tt, tt)

pub several_found : {T U E : Type 0} (r : Result U E) (calls : CallerCalls T) (kept : BTreeMap ℕ T) → calls ≡ Several kept → OnOk r (All (λ e. get nat_cmp kept e.0 ≡ Some e.1) kept.entries)
    → OnOk r (All (λ e. call_at calls e.0 ≡ Some e.1) (entries_of calls))
several_found r calls kept is found = subst (λ c. OnOk r (All (λ e. call_at c e.0 ≡ Some e.1) (entries_of c))) (sym is) found

-- Of what a call is seen as, the caller and the serial are its own.
module _ (c : List ℕ) (s : ℕ) (w : Bool) where
  none_gone : (b : Bool) (name : List ℕ) → (if b then Leaves name else Passes) ≡ Calls c s w → ⊥
  none_gone true name is = cc
  none_gone false name is = cc

  none_departed : (change : Option Change) → departed change ≡ Calls c s w → ⊥
  none_departed None is = cc
  none_departed (Some (Owned o)) is = cc
  none_departed (Some (Free name)) is = none_gone (is_unique name) name is
  none_departed (Some (Lost o)) is = cc

  first_kind : (b d : Bool) (caller to : List ℕ) (serial to_serial : ℕ) (wants : Bool) (sender : Option (List ℕ)) (rest : Event) → (rest ≡ Calls c s w → ⊥)
      → (if b then Calls caller serial wants else if d then Replies to to_serial sender else rest) ≡ Calls c s w → (c ≡ caller) × (s ≡ serial)
  first_kind true d caller to serial to_serial wants sender rest never is = (cc, cc)
  first_kind false true caller to serial to_serial wants sender rest never is = cc
  first_kind false false caller to serial to_serial wants sender rest never is = absurd (never is)

  pub calls_of : (m : MessageTree) → event_of m ≡ Calls c s w → (c ≡ caller_of m) × (s ≡ m.serial)
  calls_of m is = first_kind (m.kind == message.METHOD_CALL) ((m.kind == message.METHOD_RETURN) || (m.kind == message.ERROR)) (caller_of m) (replied_to m) m.serial
      (reply_serial_of m) (wants_reply m) (sender_of m) (departed (change_of m)) (none_departed (change_of m)) is
