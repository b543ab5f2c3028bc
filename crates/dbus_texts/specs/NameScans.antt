-- What may follow at each place within a name, and the steps from place to place.
-- D-Bus Specification, "Valid Object Paths" and "Valid Names".
use Rattle.std.specs.Prelude.{◌≡◌, ℕ, Bool, true, false, ◌⊎◌, Option, Some, None, List, [], ◌∷◌, ◌++◌, IsTrue, ◌==◌, if◌then◌else◌, ◌+◌, ◌<◌, not, ◌&&◌, ◌||◌, length, get_or}
use Rattle.std.specs.List.{AllByRecursion}
use Rattle.dbus_texts.specs.Characters.{slash, dot, colon, hyphen, underscore}
use Rattle.dbus_texts.specs.declared.names.Letters.{Letters}
use Rattle.dbus_texts.specs.declared.names.Letters.TheVariants.{Word, Name, Unique, WellKnown}
use Rattle.dbus_texts.specs.declared.names.Tail.{Tail}
use Rattle.dbus_texts.specs.declared.names.Tail.TheVariants.{Alone, Needed, Free}
use Rattle.dbus_texts.specs.declared.names.Place.{Place}
use Rattle.dbus_texts.specs.declared.names.Place.TheVariants.{PathStart, Root, BusStart, First, More}
use Rattle.dbus_texts.specs.declared.names.NameScan.{NameScan}
use Rattle.dbus_texts.specs.Kinds.{is_word, is_word_start, is_dashed, is_dashed_start, IsElement, each_after, IsPath, IsBusName}

-- What may follow, by the place in a name.
abbrev pub begins : Letters → ℕ → Bool
begins Word b = is_word b
begins Name b = is_word_start b
begins Unique b = is_dashed b
begins WellKnown b = is_dashed_start b

abbrev pub goes_on : Letters → ℕ → Bool
goes_on Word b = is_word b
goes_on Name b = is_word b
goes_on Unique b = is_dashed b
goes_on WellKnown b = is_dashed b

abbrev pub separator : Letters → ℕ
separator Word = slash
separator Name = dot
separator Unique = dot
separator WellKnown = dot

-- how many elements may follow the one under way: none, one or more, any number
abbrev pub MayFollow : Tail → List (List ℕ) → Type 0
MayFollow Alone [] = Unit {0}
MayFollow Alone (e ∷ es) = ⊥
MayFollow Needed [] = ⊥
MayFollow Needed (e ∷ es) = Unit {0}
MayFollow Free es = Unit {0}

-- elements are to come
pub record Elements (l : Letters) (t : Tail) (c : List ℕ) : Type 0 where
  pub first : List ℕ
  pub others : List (List ℕ)
  pub first_is : IsElement (begins l) (goes_on l) first
  pub others_are : AllByRecursion (IsElement (begins l) (goes_on l)) others
  pub follow : MayFollow t others
  pub spelled : c ≡ first ++ each_after (separator l) others

-- the element under way goes on, and elements may follow
pub record GoesOn (l : Letters) (t : Tail) (c : List ℕ) : Type 0 where
  pub run : List ℕ
  pub others : List (List ℕ)
  pub run_is : AllByRecursion (λ b. IsTrue (goes_on l b)) run
  pub others_are : AllByRecursion (IsElement (begins l) (goes_on l)) others
  pub follow : MayFollow t others
  pub spelled : c ≡ run ++ each_after (separator l) others

abbrev pub name_rest_at : Place → Letters → Tail → List ℕ → Type 0
name_rest_at PathStart l t c = IsPath c
name_rest_at Root l t c = (c ≡ []) ⊎ Elements Word Free c
name_rest_at BusStart l t c = IsBusName c
name_rest_at First l t c = Elements l t c
name_rest_at More l t c = GoesOn l t c

abbrev pub name_rest : NameScan → List ℕ → Type 0
name_rest s c = name_rest_at s.place s.letters s.tail c

-- one byte further
abbrev pub name_state : Place → Letters → Tail → NameScan
name_state p l t = record { place = p; letters = l; tail = t }

abbrev pub past_separator : Tail → Letters → Option NameScan
past_separator Alone l = None
past_separator Needed l = Some (name_state First l Free)
past_separator Free l = Some (name_state First l Free)

abbrev pub name_next_at : Place → Letters → Tail → ℕ → Option NameScan
name_next_at PathStart l t b = if b == slash then Some (name_state Root Word Free) else None
name_next_at Root l t b = if is_word b then Some (name_state More Word Free) else None
name_next_at BusStart l t b = if b == colon then Some (name_state First Unique Needed) else (if is_dashed_start b then Some (name_state More WellKnown Needed) else None)
name_next_at First l t b = if begins l b then Some (name_state More l t) else None
name_next_at More l t b = if goes_on l b then Some (name_state More l t) else (if b == separator l then past_separator t l else None)

abbrev pub name_next : NameScan → ℕ → Option NameScan
name_next s b = name_next_at s.place s.letters s.tail b

-- whether the name may end here
abbrev pub may_end : Tail → Bool
may_end Alone = true
may_end Needed = false
may_end Free = true

abbrev pub name_end_at : Place → Letters → Tail → Bool
name_end_at PathStart l t = false
name_end_at Root l t = true
name_end_at BusStart l t = false
name_end_at First l t = false
name_end_at More l t = may_end t

abbrev pub name_end : NameScan → Bool
name_end s = name_end_at s.place s.letters s.tail

-- Which bytes may stand side by side in a name.
-- D-Bus Specification, "Valid Object Paths" and "Valid Names".

-- whether b may stand after a, if s stands between elements
abbrev pub may_follow : ℕ → Letters → ℕ → ℕ → Bool
may_follow s l a b = (goes_on l b || b == s) && (not (a == s) || begins l b)

-- each byte may stand after the one before it, if s stands between elements
abbrev pub AreLinked : ℕ → Letters → List ℕ → Type 0
AreLinked s l w = (i : ℕ) → i + 1 < length w → IsTrue (may_follow s l (get_or w i 0) (get_or w (i + 1) 0))

-- `-` if an element may have it, else `_`, which each may have
abbrev pub extra : Letters → ℕ
extra Word = underscore
extra Name = underscore
extra Unique = hyphen
extra WellKnown = hyphen

-- how many digits may begin an element
abbrev pub first_digits : Letters → ℕ
first_digits Word = 10
first_digits Name = 0
first_digits Unique = 10
first_digits WellKnown = 0
