-- Which calls wait, as they are kept: of each caller, by their serials.
-- D-Bus Specification, "Message Types".
use Rattle.std.specs.Prelude.{ℕ, nat_eq, List, [], ◌∷◌, Bool, false, Option, None, Some}
use Rattle.std.specs.Ordering.{nat_cmp}
use Rattle.std.specs.BTreeMap.{get_by_text, is_at}
use Rattle.std.specs.Map.{lookup}
use Rattle.dbus_calls.specs.Waiting.{Waiting}
use Rattle.dbus_calls.specs.declared.caller_calls.CallerCalls.{CallerCalls}
use Rattle.dbus_calls.specs.declared.caller_calls.CallerCalls.TheVariants.{One, Several}
use Rattle.dbus_calls.specs.declared.open_calls.OpenCalls.{OpenCalls}

-- the calls of a caller with their serials, which rise
abbrev pub entries_of : {T : Type 0} → CallerCalls T → List (ℕ × T)
entries_of (One serial call) = (serial, call) ∷ []
entries_of (Several calls) = calls.entries

-- the call of this serial
abbrev pub call_at : {T : Type 0} → CallerCalls T → ℕ → Option T
call_at calls serial = lookup (is_at (nat_cmp serial)) (entries_of calls)

-- there is one, of this serial
abbrev pub is_one : {T : Type 0} → CallerCalls T → ℕ → Bool
is_one (One serial call) s = nat_eq serial s
is_one (Several calls) s = false

-- the call of this serial among those of a caller, if it has any
abbrev pub call_in : {T : Type 0} → Option (CallerCalls T) → ℕ → Option T
call_in None serial = None
call_in (Some calls) serial = call_at calls serial

unfoldable pub waiting : {T : Type 0} → OpenCalls T → Waiting T
waiting o caller serial = call_in (get_by_text o.callers caller) serial
