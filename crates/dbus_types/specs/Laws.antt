-- Laws of types and the texts that spell them.
-- D-Bus Specification, "Type System" and "Valid Signatures".
use Rattle.std.specs.Prelude.{◌≡◌, ℕ, List, ◌++◌}
use Rattle.dbus_texts.specs.declared.text_kind.TextKind.TheVariants.{Signature, Single}
use Rattle.dbus_texts.specs.Types.{TypeTree, TypeTrees, sig, sigs, IsSingleType}
use Rattle.dbus_texts.specs.PlainTypes.{AreSignatureTypes}
use Rattle.dbus_texts.specs.Kinds.{IsKind}
use Rattle.dbus_texts.specs.ComputedKinds.{type_spelled, types_spelled}

-- a text of kind Single spells one type, and each such type has one such text
abbrev pub SinglesSpellTypes : Type 0
SinglesSpellTypes = ((t : List ℕ) → IsKind Single t → IsSingleType (type_spelled t) × (sig (type_spelled t) ≡ t)) × ((t : TypeTree) → IsSingleType t → IsKind Single (sig t) × (type_spelled (sig t) ≡ t))

-- the same of the types that a signature spells
abbrev pub SignaturesSpellTypes : Type 0
SignaturesSpellTypes = ((t : List ℕ) → IsKind Signature t → AreSignatureTypes (types_spelled t) × (sigs (types_spelled t) ≡ t)) × ((ts : TypeTrees) → AreSignatureTypes ts → IsKind Signature (sigs ts) × (types_spelled (sigs ts) ≡ ts))

-- no type's text begins with another's
abbrev pub NoTypeBeginsAnother : Type 0
NoTypeBeginsAnother = (t u : TypeTree) (r s : List ℕ) → sig t ++ r ≡ sig u ++ s → (t ≡ u) × (r ≡ s)
