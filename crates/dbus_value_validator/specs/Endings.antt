-- What is read of the bytes of a message, and where it ends; its value is forgotten.
-- D-Bus Specification, "Marshaling (Wire Format)".
use Rattle.std.specs.Prelude.{◌≡◌, ℕ, ◌+◌, List, Option, Some, None, take, drop, ◌<◌, ◌++◌, length, get_or}
use Rattle.dbus_texts.specs.Types.{TypeTree, TypeTrees, sig}
use Rattle.dbus_texts.specs.Kinds.{IsKind}
use Rattle.dbus_texts.specs.declared.text_kind.TextKind.{TextKind}
use Rattle.dbus_value_model.specs.declared.limits.Bounds.{Bounds}
use Rattle.dbus_value_model.specs.declared.order.Order.{Order}
use Rattle.dbus_value_model.specs.Outcomes.{IsDone}
use Rattle.dbus_value_model.specs.Spelling.{Spelled}
use Rattle.dbus_value_model.specs.Values.{ValueTree, ValueTrees}
use Rattle.dbus_value_model.specs.WantedTexts.{Of}
use Rattle.dbus_value_model.specs.Reading.{Outcome, Done, text, nul, value, fields, contents}
use Rattle.dbus_value_model.specs.ValueReaders.{variant_value, array_value, entry_value}
use Rattle.dbus_value_validator.specs.declared.untrusted_bytes.UntrustedBytes.{UntrustedBytes}

-- it is read whole, and ends at q: the bytes from there on are left
abbrev pub EndsAt : {A : Type 0} → List ℕ → ℕ → Outcome A → Type 0
EndsAt {A} bytes q read = (x : A) × (read ≡ Done x q (drop q bytes))

-- it is not read whole: a fault shows, or bytes are wanting
abbrev pub IsNotRead : {A : Type 0} → Outcome A → Type 0
IsNotRead {A} read = (x : A) (q : ℕ) (rest : List ℕ) → read ≡ Done x q rest → ⊥

-- what a call answers of it: where it ends, or that it is not read whole
abbrev pub Answers : {A : Type 0} → List ℕ → Option ℕ → Outcome A → Type 0
Answers bytes (Some q) read = EndsAt bytes q read
Answers bytes None read = IsNotRead read

-- a text of a kind has n bytes from start on, and a zero stands after it
pub record EndedText (kind : TextKind) (n start : ℕ) (bytes : List ℕ) : Type 0 where
  pub is_text : text (Of kind) n start (drop start bytes) ≡ Done (take n (drop start bytes)) (start + n) (drop (start + n) bytes)
  pub is_ended : nul (start + n) (drop (start + n) bytes) ≡ Done tt (start + n + 1) (drop (start + n + 1) bytes)
  pub is_kind : IsKind kind (take n (drop start bytes))

-- a value of the type is spelled from one offset up to another
abbrev pub IsSpelledTo : Bounds → Order → (depth_left end : ℕ) → TypeTree → (offset : ℕ) → List ℕ → (after : ℕ) → Type 0
IsSpelledTo bounds order depth_left end t offset bytes after = (v : ValueTree) × Spelled bounds order depth_left end t offset (drop offset bytes) v after (drop after bytes)

-- values of these types, one after another, are spelled from one offset up to another
abbrev pub AreSpelledTo : Bounds → Order → (depth_left end : ℕ) → TypeTrees → (offset : ℕ) → List ℕ → (after : ℕ) → Type 0
AreSpelledTo bounds order depth_left end ts offset bytes after = (vs : ValueTrees) × IsDone bounds order depth_left end ts offset (drop offset bytes) vs after (drop after bytes)

-- no value of the type is spelled there
abbrev pub IsNotSpelled : Bounds → Order → (depth_left end : ℕ) → TypeTree → (offset : ℕ) → List ℕ → Type 0
IsNotSpelled bounds order depth_left end t offset bytes = (after : ℕ) → IsSpelledTo bounds order depth_left end t offset bytes after → ⊥

-- no values of these types, one after another, are spelled there
abbrev pub AreNotSpelled : Bounds → Order → (depth_left end : ℕ) → TypeTrees → (offset : ℕ) → List ℕ → Type 0
AreNotSpelled bounds order depth_left end ts offset bytes = (after : ℕ) → AreSpelledTo bounds order depth_left end ts offset bytes after → ⊥

-- How long each type of a signature is, as far as it is noted.
-- D-Bus Specification, "Valid Signatures".

-- Of types that begin at a place of a signature each length that is noted is that of the type that
-- begins there, whatever follows it.
abbrev pub AreNoted : (types lengths : List ℕ) → (pos : ℕ) → Type 0
AreNoted types lengths pos = (at : ℕ) (t : TypeTree) (more : List ℕ) → pos + at < length lengths → drop at types ≡ sig t ++ more → get_or lengths (pos + at) 0 ≡ length (sig t)

-- What is read of the bytes of a source.
-- D-Bus Specification, "Marshaling (Wire Format)".

-- a value of the type from an offset on
abbrev pub value_in : UntrustedBytes → (depth_left end : ℕ) → TypeTree → (at : ℕ) → Outcome ValueTree
value_in source depth_left end t at = value source.bounds source.order depth_left end t at (drop at source.bytes.now)

-- values of these types, one after another
abbrev pub values_in : UntrustedBytes → (depth_left end : ℕ) → TypeTrees → (at : ℕ) → Outcome ValueTrees
values_in source depth_left end ts at = fields (value source.bounds source.order depth_left end) ts at (drop at source.bytes.now)

-- elements of the type in the next n bytes
abbrev pub elements_in : UntrustedBytes → (n depth_left : ℕ) → TypeTree → (at : ℕ) → Outcome (List ValueTree)
elements_in source n depth_left t at = contents n (λ end before. value source.bounds source.order depth_left end t) at (drop at source.bytes.now)

-- the containers
abbrev pub variant_in : UntrustedBytes → (depth_left end at : ℕ) → Outcome ValueTree
variant_in source depth_left end at = variant_value source.bounds source.order depth_left end at (drop at source.bytes.now)

abbrev pub array_in : UntrustedBytes → (depth_left end : ℕ) → TypeTree → (at : ℕ) → Outcome ValueTree
array_in source depth_left end t at = array_value source.bounds source.order depth_left end t at (drop at source.bytes.now)

abbrev pub entry_in : UntrustedBytes → (depth_left end : ℕ) → (k v : TypeTree) → (at : ℕ) → Outcome ValueTree
entry_in source depth_left end k v at = entry_value source.bounds source.order depth_left end k v at (drop at source.bytes.now)
