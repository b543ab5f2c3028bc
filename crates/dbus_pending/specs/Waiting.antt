-- The calls that wait, as contracts see them. D-Bus Specification, "Message Types" ("Method
-- Calls").
use Rattle.std.specs.Prelude.{◌≡◌, ◌≤◌, ◌<◌, ◌+◌, ℕ, nat_eq, Option, Some, if◌then◌else◌}
use Rattle.std.specs.BTreeMap.{btree_map_len, get}
use Rattle.std.specs.Ordering.{nat_cmp}
use Rattle.dbus_pending.specs.declared.pending.NotWaiting.{NotWaiting}
use Rattle.dbus_pending.specs.declared.pending.NotWaiting.TheVariants.{Full, Memory}
use Rattle.dbus_pending.specs.declared.pending.Pending.{Pending}

module _ {T : Type 0} where
  -- the call that waits with a serial
  abbrev pub waiting : Pending T → ℕ → Option T
  waiting p serial = get nat_cmp p.calls serial

  -- how many wait, how many may, and the serial that was given last, or 0
  abbrev pub count : Pending T → ℕ
  count p = btree_map_len p.calls

  abbrev pub allowed : Pending T → ℕ
  allowed p = p.most

  abbrev pub last : Pending T → ℕ
  last p = p.last

  -- the calls that wait are the same, and as many may wait
  pub record Stays (old new : Pending T) : Type 0 where
    pub calls : (s : ℕ) → waiting new s ≡ waiting old s
    pub counted : count new ≡ count old
    pub same : allowed new ≡ allowed old

  -- this call waits too, with this serial, which was given last
  pub record AsNext (old new : Pending T) (serial : ℕ) (call : T) : Type 0 where
    pub calls : (s : ℕ) → waiting new s ≡ (if nat_eq serial s then Some call else waiting old s)
    pub counted : count new ≡ count old + 1
    pub last : last new ≡ serial
    pub same : allowed new ≡ allowed old

  -- why a call does not wait: as many wait as may, or memory was refused
  abbrev pub Refuses : Pending T → (call : T) → NotWaiting T → Type 0
  Refuses p call (Full c) = (c ≡ call) × (allowed p ≤ count p)
  Refuses p call (Memory c) = (c ≡ call) × (count p < allowed p)
