-- Why a text spells no rule, and where: the first pair from the left that cannot stand. D-Bus
-- Specification, "Match Rules"; the order of the faults and their places are this project's own.
use Rattle.std.specs.Prelude.{◌≡◌, ◌≢◌, ℕ, ◌+◌, List, [], ◌∷◌, ◌++◌, length, replicate, codes}
use Rattle.std.specs.List.{AllByRecursion}
use Rattle.dbus_rule.specs.declared.key.Key.{Key}
use Rattle.dbus_rule.specs.declared.key.Key.TheVariants.{Path, PathNamespace}
use Rattle.dbus_rule.specs.declared.fault.RuleReason.{RuleReason}
use Rattle.dbus_rule.specs.declared.fault.RuleReason.TheVariants.{Nul, NoEquals, KeyName, KeyTwice, PathAndNamespace, OpenQuote, BadValue}
use Rattle.dbus_rule.specs.Keys.{key_text, IsKey, IsValueOf}
use Rattle.dbus_rule.specs.Values.{Piece, pieces_text, pieces_value, ArePieces, Ends, IsOpen}
use Rattle.dbus_rule.specs.Rules.{Pair, HasKey, Item, pairs_of, each_with_comma, AreItems, AreApart}
use Rattle.dbus_rule.specs.declared.fault.RuleReason.TheVariants as reason

-- the first U+0000
pub record IsNul (w : List ℕ) (at : ℕ) : Type 0 where
  pub front : List ℕ
  pub more : List ℕ
  pub before : AllByRecursion (λ b. b ≢ 0) front
  pub spelled : w ≡ front ++ 0 ∷ more
  pub place : at ≡ length front

-- path and path_namespace exclude each other
abbrev pub Excluded : Key → List Pair → Type 0
Excluded Path ps = HasKey PathNamespace ps
Excluded PathNamespace ps = HasKey Path ps
Excluded k ps = ⊥

-- the key may stand after the pairs seen
abbrev pub IsNew : List Pair → Key → Type 0
IsNew seen k = (HasKey k seen → ⊥) × (Excluded k seen → ⊥)

-- pairs that may stand together
pub record AreGood (ps : List Pair) : Type 0 where
  pub apart : AreApart ps
  pub values : AllByRecursion (λ p. IsValueOf p.key p.value) ps
  pub one_path : HasKey Path ps → HasKey PathNamespace ps → ⊥

abbrev pub NoSpaceFirst : List ℕ → Type 0
NoSpaceFirst [] = Unit {0}
NoSpaceFirst (b ∷ c) = b ≢ 32

-- neither a comma nor `=`
abbrev pub IsNameByte : ℕ → Type 0
IsNameByte b = (b ≢ 44) × (b ≢ 61)

-- no `=` before the comma or the text's end; the text is not spaces alone
pub record IsNoEquals (c : List ℕ) (n at : ℕ) : Type 0 where
  pub front : List ℕ
  pub more : List ℕ
  pub front_is : AllByRecursion IsNameByte front
  pub ends : Ends more
  pub some : (k : ℕ) → c ≡ replicate k 32 → ⊥
  pub spelled : c ≡ front ++ more
  pub place : at ≡ n + length front

-- spaces, a name and `=`, and what follows
pub record HasName (c : List ℕ) (spaces : ℕ) (name more : List ℕ) : Type 0 where
  pub name_is : AllByRecursion IsNameByte name
  pub first : NoSpaceFirst name
  pub spelled : c ≡ replicate spaces 32 ++ (name ++ 61 ∷ more)

-- a value that its key does not take
pub record IsBad (key : Key) (c : List ℕ) : Type 0 where
  pub pieces : List Piece
  pub more : List ℕ
  pub are : ArePieces pieces more
  pub ends : Ends more
  pub spelled : c ≡ pieces_text pieces ++ more
  pub bad : IsValueOf key (pieces_value pieces) → ⊥

-- the fault of a known key that begins at place p, before the value's text c that begins at place v
abbrev pub IsFaultOfKey : List Pair → Key → ℕ → ℕ → List ℕ → RuleReason → ℕ → Type 0
IsFaultOfKey seen key p v c KeyTwice at = HasKey key seen × (at ≡ p)
IsFaultOfKey seen key p v c PathAndNamespace at = (HasKey key seen → ⊥) × Excluded key seen × (at ≡ p)
IsFaultOfKey seen key p v c OpenQuote at = IsNew seen key × IsOpen v c at
IsFaultOfKey seen key p v c BadValue at = IsNew seen key × IsBad key c × (at ≡ v)
IsFaultOfKey seen key p v c reason at = ⊥

pub record IsKeyed (seen : List Pair) (name : List ℕ) (p : ℕ) (c : List ℕ) (reason : RuleReason) (at : ℕ) : Type 0 where
  pub key : Key
  pub key_is : IsKey key
  pub named : name ≡ key_text key
  pub fault : IsFaultOfKey seen key p (p + length name + 1) c reason at

-- the fault of a name that begins at place p, before `=` and the value's text c
abbrev pub IsFaultOfName : List Pair → List ℕ → ℕ → List ℕ → RuleReason → ℕ → Type 0
IsFaultOfName seen name p c KeyName at = ((k : Key) → IsKey k → name ≡ key_text k → ⊥) × (at ≡ p)
IsFaultOfName seen name p c reason at = IsKeyed seen name p c reason at

pub record IsNamedFault (seen : List Pair) (c : List ℕ) (n : ℕ) (reason : RuleReason) (at : ℕ) : Type 0 where
  pub spaces : ℕ
  pub name : List ℕ
  pub more : List ℕ
  pub has : HasName c spaces name more
  pub fault : IsFaultOfName seen name (n + spaces) more reason at

-- the fault of the pair that begins at place n with the text c, after the pairs seen
abbrev pub IsPairFault : List Pair → List ℕ → ℕ → RuleReason → ℕ → Type 0
IsPairFault seen c n Nul at = ⊥
IsPairFault seen c n NoEquals at = IsNoEquals c n at
IsPairFault seen c n reason at = IsNamedFault seen c n reason at

-- good pairs, a comma after each, and then the fault
pub record HasPairFault (w : List ℕ) (reason : RuleReason) (at : ℕ) : Type 0 where
  pub no_nul : AllByRecursion (λ b. b ≢ 0) w
  pub items : List Item
  pub more : List ℕ
  pub are : AreItems items
  pub good : AreGood (pairs_of items)
  pub spelled : w ≡ each_with_comma items ++ more
  pub fault : IsPairFault (pairs_of items) more (length (each_with_comma items)) reason at

-- a U+0000 comes before all other faults
abbrev pub IsFault : List ℕ → RuleReason → ℕ → Type 0
IsFault w Nul at = IsNul w at
IsFault w reason at = HasPairFault w reason at

-- The texts of the reasons why a text spells no rule.

abbrev pub rule_reason_text : RuleReason → List ℕ
rule_reason_text reason.Nul = codes "Nul"
rule_reason_text reason.NoEquals = codes "NoEquals"
rule_reason_text reason.KeyName = codes "KeyName"
rule_reason_text reason.KeyTwice = codes "KeyTwice"
rule_reason_text reason.PathAndNamespace = codes "PathAndNamespace"
rule_reason_text reason.OpenQuote = codes "OpenQuote"
rule_reason_text reason.BadValue = codes "BadValue"
