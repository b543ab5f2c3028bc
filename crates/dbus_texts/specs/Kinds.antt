-- Trusted by the headline.
-- The kinds of text, as sets of byte strings, and where a text breaks.
-- D-Bus Specification, "Basic types", "Valid Object Paths", "Valid Names" and "Valid Signatures".
use Rattle.std.specs.Prelude.{ℕ, ◌<◌, ◌≤◌, List, ◌++◌, length, take, ◌≡◌, ◌≢◌, encode_utf8_all, Bool, ◌||◌, ◌⊎◌, [], ◌∷◌, IsTrue, ◌==◌, false}
use Rattle.std.specs.List.{AllByRecursion}
use Rattle.std.specs.Char.{IsScalar, is_ascii_alphabetic, is_ascii_alphanumeric}
use Rattle.dbus_texts.specs.Characters.{underscore, hyphen, slash, dot, colon}
use Rattle.dbus_texts.specs.Types.{TypeTree, TypeTrees, sig, sigs, IsComplete, AreComplete}
use Rattle.dbus_texts.specs.declared.text_kind.TextKind.{TextKind}
use Rattle.dbus_texts.specs.declared.text_kind.TextKind.TheVariants.{Text, Path, Interface, Member, ErrorName, BusName, Signature, Single}

-- Prefixes of the texts of a set, and where a text breaks. The sets are those of the D-Bus
-- Specification, "Basic types", "Valid Object Paths", "Valid Names" and "Valid Signatures".

-- some text of the set begins with w
abbrev pub IsPrefixIn : (List ℕ → Type 0) → List ℕ → Type 0
IsPrefixIn L w = (more : List ℕ) × L (w ++ more)

-- n is the length of the longest prefix of w with which some text of the set begins
pub record IsBreakIn (L : List ℕ → Type 0) (w : List ℕ) (n : ℕ) : Type 0 where
  pub within : n ≤ length w
  pub front : IsPrefixIn L (take n w)
  pub longest : (m : ℕ) → n < m → m ≤ length w → IsPrefixIn L (take m w) → ⊥

-- Texts: UTF-8 without U+0000.
-- D-Bus Specification, "Basic types" ("String-like types", "STRING").

-- a character other than U+0000
abbrev pub IsTextChar : ℕ → Type 0
IsTextChar c = IsScalar c × (c ≢ 0)

-- the bytes of such characters
abbrev pub IsText : List ℕ → Type 0
IsText w = (cs : List ℕ) × AllByRecursion IsTextChar cs × (w ≡ encode_utf8_all cs)

-- Object paths, member names, interface names, error names and bus names, their limits on length
-- aside. D-Bus Specification, "Valid Object Paths" and "Valid Names".

-- `[A-Za-z0-9_]`, `[A-Za-z_]`, `[A-Za-z0-9_-]` and `[A-Za-z_-]`
abbrev pub is_word : ℕ → Bool
is_word b = is_ascii_alphanumeric b || b == underscore

abbrev pub is_word_start : ℕ → Bool
is_word_start b = is_ascii_alphabetic b || b == underscore

abbrev pub is_dashed : ℕ → Bool
is_dashed b = is_word b || b == hyphen

abbrev pub is_dashed_start : ℕ → Bool
is_dashed_start b = is_word_start b || b == hyphen

-- an element: a byte that may begin one, and then bytes that may go on
abbrev pub IsElement : (ℕ → Bool) → (ℕ → Bool) → List ℕ → Type 0
IsElement start more [] = ⊥
IsElement start more (b ∷ bs) = IsTrue (start b) × AllByRecursion (λ c. IsTrue (more c)) bs

-- elements, each after a separator
abbrev pub each_after : ℕ → List (List ℕ) → List ℕ
each_after separator [] = []
each_after separator (e ∷ es) = separator ∷ (e ++ each_after separator es)

-- `/`, or one or more times `/` and an element
abbrev pub IsPath : List ℕ → Type 0
IsPath w = (w ≡ slash ∷ []) ⊎ ((e : List ℕ) × (es : List (List ℕ)) × AllByRecursion (IsElement is_word is_word) (e ∷ es) × (w ≡ each_after slash (e ∷ es)))

-- two or more elements joined by `.`
abbrev pub IsJoined : (ℕ → Bool) → (ℕ → Bool) → List ℕ → Type 0
IsJoined start more w = (e : List ℕ) × (f : List ℕ) × (es : List (List ℕ)) × AllByRecursion (IsElement start more) (e ∷ f ∷ es) × (w ≡ e ++ each_after dot (f ∷ es))

abbrev pub IsMember : List ℕ → Type 0
IsMember w = IsElement is_word_start is_word w

abbrev pub IsInterface : List ℕ → Type 0
IsInterface w = IsJoined is_word_start is_word w

-- `:` and two or more elements that may begin with a digit; or two or more that may not
abbrev pub IsBusName : List ℕ → Type 0
IsBusName w = ((v : List ℕ) × IsJoined is_dashed is_dashed v × (w ≡ colon ∷ v)) ⊎ IsJoined is_dashed_start is_dashed w

-- The texts that are signatures.
-- D-Bus Specification, "Type System" ("Valid Signatures", "Summary of types").

-- the text of zero or more complete types
abbrev pub IsSignature : List ℕ → Type 0
IsSignature w = (ts : TypeTrees) × AreComplete ts 0 0 × (w ≡ sigs ts)

-- the text of exactly one
abbrev pub IsSingle : List ℕ → Type 0
IsSingle w = (t : TypeTree) × IsComplete t false 0 0 × (w ≡ sig t)

-- the text is of the kind, its length aside
abbrev pub IsOfKind : TextKind → List ℕ → Type 0
IsOfKind Text w = IsText w
IsOfKind Path w = IsPath w
IsOfKind Interface w = IsInterface w
IsOfKind Member w = IsMember w
IsOfKind ErrorName w = IsInterface w
IsOfKind BusName w = IsBusName w
IsOfKind Signature w = IsSignature w
IsOfKind Single w = IsSingle w

-- the text is no longer than the kind allows: 255 bytes, and any length for texts and object paths
abbrev pub IsWithinLimit : TextKind → List ℕ → Type 0
IsWithinLimit Text w = Unit {0}
IsWithinLimit Path w = Unit {0}
IsWithinLimit _ w = length w ≤ 255

-- the text is of the kind
abbrev pub IsKind : TextKind → List ℕ → Type 0
IsKind kind w = IsOfKind kind w × IsWithinLimit kind w

-- the length of the longest prefix of w with which some text of the kind begins, limits on length
-- lifted
abbrev pub IsBreak : TextKind → List ℕ → ℕ → Type 0
IsBreak kind w n = IsBreakIn (IsOfKind kind) w n
