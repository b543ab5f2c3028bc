-- The rules of one kind after another. No public clause speaks of it.
use Rattle.std.specs.Prelude.{◌≡◌, ℕ, ◌+◌, ◌<◌, ◌≤◌, ◌⊎◌, Bool, List}
use Rattle.std.specs.BTreeMap.Range.{range_contains}
use Rattle.std.specs.declared.ops.Bound.TheVariants.{Included, Excluded}
use Rattle.dbus_rule.specs.declared.rule.Rule.{Rule}
use Rattle.dbus_rule_set.specs.declared.handle.RuleHandle.{RuleHandle}
use Rattle.dbus_rule_set.specs.Handles.{handle_cmp}
use Rattle.dbus_rule_set.specs.Held.{Collects}

-- where the handles of a kind and a hash begin
abbrev pub place : ℕ → ℕ → RuleHandle
place k h = record { kind = k; hash = h; number = 0 }

-- from the place of the kind k and the hash h up to that of the kind l and the hash i
abbrev pub within : (k h l i : ℕ) → RuleHandle → Bool
within k h l i q = range_contains handle_cmp (Included (place k h)) (Excluded (place l i)) q

-- the first of these places is not past the second
abbrev pub IsUpTo : (k h l i : ℕ) → Type 0
IsUpTo k h l i = (k < l) ⊎ ((k ≡ l) × (h ≤ i))

-- the handle is of a kind below k, or of this kind and of a hash below h
abbrev pub IsUnder : ℕ → ℕ → RuleHandle → Type 0
IsUnder k h q = (q.kind < k) ⊎ ((q.kind ≡ k) × (q.hash < h))

-- the handle is of a kind and of a hash
abbrev pub IsAt : ℕ → ℕ → RuleHandle → Type 0
IsAt k h q = (q.kind ≡ k) × (q.hash ≡ h)

-- after those of the kinds below, those of the kind come to the end of a list
abbrev pub Searches : {A : Type 0} → (RuleHandle × Rule A → Type 0) → List (RuleHandle × Rule A) → ℕ → List RuleHandle → List RuleHandle → Type 0
Searches P es kind from to =
    (first : List RuleHandle) → Collects (λ e. IsUnder kind 0 e.0 × P e) es first from → Collects (λ e. IsUnder (kind + 1) 0 e.0 × P e) es first to
