-- The index: under which handle a rule stands, so that it is found by the texts of each message
-- that it matches. No public clause speaks of it. D-Bus Specification, "Match Rules".
use Rattle.std.specs.Prelude.{◌≡◌, ◌⊎◌, ℕ, ◌<◌, ◌≤◌, ◌==◌, Bool, true, false, ◌&&◌, ◌||◌, ltb, List, [], ◌∷◌, Option, Some, None, slice_index_or, if◌then◌else◌}
use Rattle.dbus_texts.specs.Characters.{slash}
use Rattle.dbus_rule.specs.declared.key.Key.{Key}
use Rattle.dbus_rule.specs.declared.key.Key.TheVariants.{PathNamespace, Arg, ArgPath}
use Rattle.dbus_rule.specs.declared.rule.Rule.{Rule}
use Rattle.dbus_rule.specs.Keys.{rank}
use Rattle.dbus_rule.specs.Rules.{Pair}
use Rattle.dbus_rule.specs.RuleViews.{rule_pairs}
use Rattle.dbus_match.specs.Matching.{IsThere, IsWithin}
use Rattle.dbus_rule_set.specs.declared.handle.RuleHandle.{RuleHandle}
use Rattle.dbus_rule_set.specs.declared.kinds.Kinds.{Kinds}
use Rattle.dbus_rule_set.specs.TextNumbers.{text_hash}

-- the text without a last `/`
abbrev pub trimmed : List ℕ → List ℕ
trimmed [] = []
trimmed (b ∷ []) = if b == slash then [] else b ∷ []
trimmed (b ∷ c ∷ w) = b ∷ trimmed (c ∷ w)

-- values of these keys stand without a last `/`, since paths below them may match
abbrev pub trims : Key → Bool
trims PathNamespace = true
trims (ArgPath n) = true
trims k = false

-- the hash under which a value of a key stands
abbrev pub place_hash : Key → List ℕ → ℕ
place_hash k v = text_hash (if trims k then trimmed v else v)

-- the number of the argument that a key names, of which there are 64
abbrev pub argument : Key → ℕ
argument (Arg n) = n
argument (ArgPath n) = n
argument k = 0

-- the handle stands under the pair
abbrev pub is_under : RuleHandle → Pair → Bool
is_under h p = ltb (argument p.key) 64 && ((h.kind == rank p.key) && (h.hash == place_hash p.key p.value))

-- it stands under one of the pairs, or with the rules that stand under none
abbrev pub is_placed : RuleHandle → List Pair → Bool
is_placed h [] = h.kind == 136
is_placed h (p ∷ ps) = is_under h p || is_placed h ps

-- an entry of a set that gave so many handles
abbrev pub IsKept : {A : Type 0} → ℕ → RuleHandle × Rule A → Type 0
IsKept given e = e.0.number < given

-- an entry stands where it has to
abbrev pub Stands : {A : Type 0} → RuleHandle × Rule A → Type 0
Stands e = (e.0.kind < 137) × (is_placed e.0 (rule_pairs e.1) ≡ true)

-- the same, under a kind that is used
abbrev pub IsIndexed : {A : Type 0} → Kinds → RuleHandle × Rule A → Type 0
IsIndexed kinds e = (slice_index_or kinds.used e.0.kind false ≡ true) × Stands e

-- a hash of some
abbrev pub IsAmong : ℕ → List ℕ → Type 0
IsAmong h [] = ⊥
IsAmong h (x ∷ xs) = (h ≡ x) ⊎ IsAmong h xs

-- of each value to which a text, if it is there, is as R says, the hash is among these
abbrev pub Covers : Option (List ℕ) → (R : List ℕ → List ℕ → Type 0) → (List ℕ → List ℕ) → List ℕ → Type 0
Covers text R standing hashes = (v : List ℕ) → IsThere text (λ w. R v w) → IsAmong (text_hash (standing v)) hashes

-- nothing, the text, or what stands before one of its separators
abbrev pub IsFront : ℕ → List ℕ → List ℕ → Type 0
IsFront separator u w = (u ≡ []) ⊎ IsWithin separator u w

-- the least of the hashes from a number on, or that there is none
abbrev pub IsNext : ℕ → Option ℕ → List ℕ → Type 0
IsNext from None hs = (h : ℕ) → IsAmong h hs → h < from
IsNext from (Some n) hs = (from ≤ n) × ((h : ℕ) → IsAmong h hs → (h < from) ⊎ (n ≤ h))
