-- Rules, the relation of a text and the rule that it spells, and canonical texts: 32 is the space,
-- 44 the comma, 61 is `=`. D-Bus Specification, "Match Rules". By this project's own choice each
-- key stands at most once, and spaces stand outside values only before a key and after the last
-- comma.
use Rattle.std.specs.Prelude.{◌≡◌, ◌≢◌, ℕ, ◌<◌, ◌⊎◌, ◌↔◌, List, [], ◌∷◌, ◌++◌, replicate, ◌==◌, if◌then◌else◌, Bool, true, false, Option, Some, None, map, ltb, string_bytes}
use Rattle.std.specs.List.{AllByRecursion}
use Rattle.dbus_rule.specs.declared.key.Key.{Key}
use Rattle.dbus_rule.specs.declared.key.Key.TheVariants.{Path, PathNamespace, Sender}
use Rattle.dbus_rule.specs.Keys.{key_text, IsKey, rank, IsValueOf}
use Rattle.dbus_rule.specs.Values.{Piece, pieces_text, pieces_value, ArePieces}
use Rattle.dbus_rule.specs.declared.condition.Condition.{Condition}

-- a key and its value
pub record Pair : Type 0 where
  pub key : Key
  pub value : List ℕ

-- in canonical order, and so each key at most once
abbrev pub IsAbove : Pair → List Pair → Type 0
IsAbove p [] = Unit {0}
IsAbove p (q ∷ qs) = (rank p.key < rank q.key) × IsAbove p qs

abbrev pub IsAscending : List Pair → Type 0
IsAscending [] = Unit {0}
IsAscending (p ∷ ps) = IsAbove p ps × IsAscending ps

-- the pair is one of the list
abbrev pub IsIn : Pair → List Pair → Type 0
IsIn p [] = ⊥
IsIn p (q ∷ qs) = (p ≡ q) ⊎ IsIn p qs

-- some pair of the list has the key
abbrev pub HasKey : Key → List Pair → Type 0
HasKey k [] = ⊥
HasKey k (q ∷ qs) = (k ≡ q.key) ⊎ HasKey k qs

-- the pair's key is one, and its value is one of the key's, without U+0000
pub record IsPair (p : Pair) : Type 0 where
  pub key : IsKey p.key
  pub value : IsValueOf p.key p.value
  pub no_nul : AllByRecursion (λ b. b ≢ 0) p.value

-- pairs in canonical order, path and path_namespace not both
pub record IsRule (r : List Pair) : Type 0 where
  pub ordered : IsAscending r
  pub pairs : AllByRecursion IsPair r
  pub one_path : HasKey Path r → HasKey PathNamespace r → ⊥

-- A pair as it is spelled: spaces, the key, `=`, the pieces of the value.
pub record Item : Type 0 where
  pub spaces : ℕ
  pub key : Key
  pub pieces : List Piece

abbrev pub item_text : Item → List ℕ
item_text i = replicate i.spaces 32 ++ (key_text i.key ++ 61 ∷ pieces_text i.pieces)

abbrev pub pair_of : Item → Pair
pair_of i = record { key = i.key; value = pieces_value i.pieces }

abbrev pub pairs_of : List Item → List Pair
pairs_of [] = []
pairs_of (i ∷ is) = pair_of i ∷ pairs_of is

-- items, each with a comma after it
abbrev pub each_with_comma : List Item → List ℕ
each_with_comma [] = []
each_with_comma (i ∷ is) = item_text i ++ 44 ∷ each_with_comma is

abbrev pub AreItems : List Item → Type 0
AreItems [] = Unit {0}
AreItems (i ∷ is) = (IsKey i.key × ArePieces i.pieces []) × AreItems is

-- what stands last: spaces alone (none too), or one more item
pub data Last : Type 0 where
  spaces_alone : ℕ → Last
  one_more : Item → Last

abbrev pub last_text : Last → List ℕ
last_text (spaces_alone n) = replicate n 32
last_text (one_more i) = item_text i

abbrev pub last_pairs : Last → List Pair
last_pairs (spaces_alone n) = []
last_pairs (one_more i) = pair_of i ∷ []

abbrev pub IsLast : Last → Type 0
IsLast (spaces_alone n) = Unit {0}
IsLast (one_more i) = IsKey i.key × ArePieces i.pieces []

-- the text w gives the pairs ps, in the text's own order
pub record GivesPairs (w : List ℕ) (ps : List Pair) : Type 0 where
  pub items : List Item
  pub last : Last
  pub are : AreItems items
  pub last_is : IsLast last
  pub spelled : w ≡ each_with_comma items ++ last_text last
  pub pairs : ps ≡ pairs_of items ++ last_pairs last

-- no key comes twice
abbrev pub AreApart : List Pair → Type 0
AreApart [] = Unit {0}
AreApart (p ∷ ps) = (HasKey p.key ps → ⊥) × AreApart ps

-- the text w, without U+0000, spells the rule r: it gives r's pairs in some order, each key once
pub record SpellsRule (w : List ℕ) (r : List Pair) : Type 0 where
  pub no_nul : AllByRecursion (λ b. b ≢ 0) w
  pub rule : IsRule r
  pub pairs : List Pair
  pub given : GivesPairs w pairs
  pub apart : AreApart pairs
  pub same : (p : Pair) → IsIn p pairs ↔ IsIn p r

-- the canonical text: each value in apostrophes, an apostrophe in it as `'\''`, and the pairs
-- joined by commas
abbrev pub quote_escaped : List ℕ → List ℕ
quote_escaped [] = []
quote_escaped (b ∷ c) = if b == 39 then 39 ∷ 92 ∷ 39 ∷ 39 ∷ quote_escaped c else b ∷ quote_escaped c

abbrev pub pair_text : Pair → List ℕ
pair_text p = key_text p.key ++ 61 ∷ 39 ∷ (quote_escaped p.value ++ 39 ∷ [])

abbrev pub canonical : List Pair → List ℕ
canonical [] = []
canonical (p ∷ []) = pair_text p
canonical (p ∷ q ∷ ps) = pair_text p ++ 44 ∷ canonical (q ∷ ps)

-- The sender that a rule asks for. D-Bus Specification, "Match Rules".

abbrev pub is_sender : Key → Bool
is_sender Sender = true
is_sender k = false

-- the sender that a rule asks for, if it asks for one
abbrev pub sender_of : List Pair → Option (List ℕ)
sender_of [] = None
sender_of (p ∷ ps) = if is_sender p.key then Some p.value else sender_of ps

-- The conditions that a rule keeps, as pairs of a key and a value, and a pair put in its place
-- among others. D-Bus Specification, "Match Rules"; the canonical order is this project's own.

abbrev pub condition_pair : {A : Type 0} → Condition A → Pair
condition_pair c = record { key = c.key; value = string_bytes c.value }

abbrev pub condition_pairs : {A : Type 0} → List (Condition A) → List Pair
condition_pairs cs = map condition_pair cs

-- the list with a pair put in its place in canonical order
abbrev pub insert_pair : Pair → List Pair → List Pair
insert_pair p [] = p ∷ []
insert_pair p (q ∷ qs) = if ltb (rank q.key) (rank p.key) then q ∷ insert_pair p qs else p ∷ q ∷ qs
