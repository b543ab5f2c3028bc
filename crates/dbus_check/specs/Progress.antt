-- What the fields of `Progress` stand for: what they answer to the bytes still to come.
-- D-Bus Specification, "Message Format".
use Rattle.std.specs.Prelude.{◌≡◌, ℕ, ◌<◌, List, false, slice_index_or, ◌+◌, ◌-◌, ◌≤◌, [], ◌∷◌, length, take, ◌++◌, ◌&&◌, Result, Ok, Err}
use Rattle.dbus_texts.specs.Kinds.{IsKind}
use Rattle.dbus_texts.specs.Types.{TypeTree}
use Rattle.dbus_texts.specs.declared.text_kind.TextKind.TheVariants as kinds
use Rattle.dbus_value_model.specs.ByteNumbers.{IsBytes}
use Rattle.dbus_value_model.specs.Bounds.{bounds_of}
use Rattle.dbus_value_model.specs.declared.fault.Fault.{Fault}
use Rattle.dbus_value_model.specs.WantedTexts.{Of}
use Rattle.dbus_value_model.specs.declared.stop.Stop.{Stop}
use Rattle.dbus_value_model.specs.declared.stop.Stop.TheVariants as stops
use Rattle.dbus_value_model.specs.Reading.{Outcome, Done, Faulty, Partial, after, padding, ends, value}
use Rattle.dbus_value_checker.specs.Suspended.{On, onward, done, ended_text}
use Rattle.dbus_value_checker.specs.Denotations as values
use Rattle.dbus_value_checker.specs.declared.values.ValueChecker.{ValueChecker}
use Rattle.dbus_header.specs.HeaderReading.{wanted_value}
use Rattle.dbus_message_model.specs.Messages.{is_known, want}
use Rattle.dbus_check.specs.declared.seen.Seen.{Seen}
use Rattle.dbus_check.specs.Heading.{has, Kept, kept_of, body_on, fields_on, message_on}
use Rattle.dbus_check.specs.declared.progress.Progress.{Progress}
use Rattle.dbus_check.specs.declared.progress.Stage.{Stage}
use Rattle.dbus_check.specs.declared.progress.Stage.TheVariants as stage

-- What the known fields that were seen stand for.
-- D-Bus Specification, "Header Fields".

-- these codes were seen, and perhaps others that are not known
abbrev pub Sees : Seen → List ℕ → Type 0
Sees seen codes = (c : ℕ) → c < 10 → slice_index_or seen.known c false ≡ has c codes

-- what is answered to the bytes still to come
abbrev pub To : Type 0
To = List ℕ → Outcome (Unit {0})

-- what is noted of the fields that were read is what is kept of them
pub record Keeps (x : Progress) (kept : Kept) : Type 0 where
  pub sees : Sees x.seen kept.codes
  pub text : x.signature.items ≡ kept.text
  pub signature : IsKind kinds.Signature kept.text
  pub count : x.fds ≡ kept.count
  pub no_text : has 8 kept.codes ≡ false → kept.text ≡ []
  pub no_count : has 9 kept.codes ≡ false → kept.count ≡ 0

-- from here on fields are wanted, or what stands after them
pub record WantsFields (x : Progress) (to : To) : Type 0 where
  pub kept : Kept
  pub turns : ℕ
  pub keeps : Keeps x kept
  pub low : x.offset ≤ x.end
  pub turns_is : x.end ≤ x.offset + turns
  pub near : x.end + 8 + x.body < 4294967296
  pub same : (c : List ℕ) → fields_on x.limits x.order x.kind x.body turns x.end kept x.offset c ≡ to c

-- the fields are over, and none is missing
pub record WantsPadding (x : Progress) (to : To) : Type 0 where
  pub kept : Kept
  pub keeps : Keeps x kept
  pub near : x.offset + 8 + x.body < 4294967296
  pub same : (c : List ℕ) → onward (padding 8 (x.offset + 8)) (body_on x.limits x.order x.body kept) x.offset c ≡ to c

-- Values or a text are under way, and last is read after them: they began at the offset start and
-- end at end or earlier, and these bytes of them were taken.
pub record Flows (x : ValueChecker) (end : ℕ) (last : On) (to : To) : Type 0 where
  pub run : On → On
  pub start : ℕ
  pub given : List ℕ
  pub bytes : IsBytes given
  pub within : (s : List ℕ) (q : ℕ) → IsBytes s → run done start s ≡ Done tt q [] → (start ≤ q) × (q ≤ end)
  pub same : (c : List ℕ) → run last start (given ++ c) ≡ to c
  pub value : (next : On) → values.Denotes x (record { last = next; to = λ c. run next start (given ++ c) })

-- a field's value is under way; after it come fields
pub record WantsMore (x : Progress) (to : To) : Type 0 where
  pub kept : Kept
  pub turns : ℕ
  pub keeps : Keeps x kept
  pub flows : Flows x.values x.end (fields_on x.limits x.order x.kind x.body turns x.end kept) to
  pub turns_is : x.end ≤ flows.start + turns
  pub near : x.end + 8 + x.body < 4294967296

-- The body's signature is under way, of so many bytes from the offset start on: those that were
-- taken are noted. After it and its zero come fields.
pub record WantsTypes (x : Progress) (to : To) : Type 0 where
  pub kept : Kept
  pub turns : ℕ
  pub size : ℕ
  pub start : ℕ
  pub sees : Sees x.seen (8 ∷ kept.codes)
  pub count : x.fds ≡ kept.count
  pub no_count : has 9 kept.codes ≡ false → kept.count ≡ 0
  pub few : size ≤ 255
  pub fits : start + size + 1 ≤ x.end
  pub turns_is : x.end ≤ start + turns
  pub near : x.end + 8 + x.body < 4294967296
  pub same : (c : List ℕ) → after (ended_text (Of kinds.Signature) size start (x.signature.items ++ c)) (λ t. fields_on x.limits x.order x.kind x.body turns x.end (record { codes = 8 ∷ kept.codes; text = t; count = kept.count })) ≡ to c
  pub value : (next : On) → values.Denotes x.values (record { last = next; to = λ c. onward (ended_text (Of kinds.Signature) size) next start (x.signature.items ++ c) })

-- the body is under way
pub record WantsBody (x : Progress) (to : To) : Type 0 where
  pub flows : Flows x.values x.end (onward (ends x.end) done) to

abbrev pub denotes : Stage → Progress → To → Type 0
denotes stage.Header x to = (c : List ℕ) → message_on x.limits 0 c ≡ to c
denotes stage.Fields x to = WantsFields x to
denotes stage.Value x to = WantsMore x to
denotes stage.Types x to = WantsTypes x to
denotes stage.Padding x to = WantsPadding x to
denotes stage.Body x to = WantsBody x to
denotes stage.Done x to = (c : List ℕ) → to c ≡ Done tt x.end c

-- the fields stand for this answer
abbrev pub Denotes : Progress → To → Type 0
Denotes x to = denotes x.stage x to

-- what is answered once the bytes w were taken
abbrev pub after_bytes : To → List ℕ → To
after_bytes to w = λ c. to (w ++ c)

-- a call that was handed the bytes s: it took so many; or they end within what is wanted, and
-- nothing changed; or a fault shows
abbrev pub Moves : Progress → List ℕ → Result ℕ Stop → Progress → To → Type 0
Moves old s (Ok n) new to = (n ≤ length s) × Denotes new (after_bytes to (take n s))
Moves old s (Err stops.Partial) new to = (new ≡ old) × (to s ≡ Partial)
Moves old s (Err (stops.Refused f)) new to = (c : List ℕ) → to (s ++ c) ≡ Faulty f

-- a call that needs no byte
abbrev pub Turns : Result (Unit {0}) Stop → Progress → To → Type 0
Turns (Ok x) new to = Denotes new to
Turns (Err stops.Partial) new to = ⊥
Turns (Err (stops.Refused f)) new to = (c : List ℕ) → to c ≡ Faulty f

-- a step that was handed the bytes s: the same, but where they end within what is wanted, some of
-- what is noted may have changed
abbrev pub Steps : List ℕ → Result ℕ Stop → Progress → To → Type 0
Steps s (Ok n) new to = (n ≤ length s) × Denotes new (after_bytes to (take n s))
Steps s (Err stops.Partial) new to = Denotes new to × (to s ≡ Partial)
Steps s (Err (stops.Refused f)) new to = (c : List ℕ) → to (s ++ c) ≡ Faulty f

-- something is wanted still
abbrev pub IsLive : Stage → Type 0
IsLive stage.Header = Unit {0}
IsLive stage.Fields = Unit {0}
IsLive stage.Value = Unit {0}
IsLive stage.Types = Unit {0}
IsLive stage.Padding = Unit {0}
IsLive stage.Body = Unit {0}
IsLive stage.Done = ⊥

-- how many stages are still to come, at the most, where no byte is taken
abbrev pub rank : Stage → ℕ
rank stage.Header = 5
rank stage.Value = 4
rank stage.Types = 4
rank stage.Fields = 3
rank stage.Padding = 2
rank stage.Body = 1
rank stage.Done = 0

-- A run over the bytes s: it took so many, and where something is wanted still, it is not whole in
-- the others; or a fault shows.
abbrev pub Runs : List ℕ → Result ℕ Fault → Progress → To → Type 0
Runs s (Ok n) new to = (n ≤ length s) × Denotes new (after_bytes to (take n s)) × (IsLive new.stage → to s ≡ Partial)
Runs s (Err f) new to = (c : List ℕ) → to (s ++ c) ≡ Faulty f

-- the value of a field of this code is wanted, n bytes further
pub record WantsValue (x : Progress) (code n : ℕ) (to : To) : Type 0 where
  pub kept : Kept
  pub turns : ℕ
  pub keeps : Keeps x kept
  pub once : is_known code && has code kept.codes ≡ false
  pub low : x.offset + n ≤ x.end
  pub turns_is : x.end ≤ x.offset + n + turns
  pub near : x.end + 8 + x.body < 4294967296
  pub same : (c : List ℕ) → after (wanted_value x.limits x.order x.end (want code) (x.offset + n) c) (λ v. fields_on x.limits x.order x.kind x.body turns x.end (kept_of kept code v)) ≡ to c

-- a field's value was passed, in so many bytes; or they end within it; or a fault shows
abbrev pub Passes : Progress → List ℕ → Result ℕ Stop → Progress → To → Type 0
Passes old s (Ok m) new to = (m ≤ length s) × WantsFields new (after_bytes to (take m s))
Passes old s (Err stops.Partial) new to = (new ≡ old) × (to s ≡ Partial)
Passes old s (Err (stops.Refused f)) new to = (c : List ℕ) → to (s ++ c) ≡ Faulty f

-- a field's code was read, and what stands before it; the state is as it was
abbrev pub Coded : Progress → List ℕ → Result (ℕ × ℕ) Stop → To → Type 0
Coded x s (Ok y) to = (y.1 ≤ length s) × WantsValue x y.0 y.1 (after_bytes to (take y.1 s))
Coded x s (Err stops.Partial) to = to s ≡ Partial
Coded x s (Err (stops.Refused f)) to = (c : List ℕ) → to (s ++ c) ≡ Faulty f

-- a value of a type is wanted, n bytes further, whose field has this code; so many containers may
-- be opened in it
pub record WantsHeld (x : Progress) (code n depth_left : ℕ) (t : TypeTree) (to : To) : Type 0 where
  pub kept : Kept
  pub turns : ℕ
  pub keeps : Keeps x kept
  pub low : x.offset + n ≤ x.end
  pub turns_is : x.end ≤ x.offset + n + turns
  pub near : x.end + 8 + x.body < 4294967296
  pub same : (c : List ℕ) → onward (value (bounds_of x.limits) x.order depth_left x.end t) (fields_on x.limits x.order x.kind x.body turns x.end (record { codes = code ∷ kept.codes; text = kept.text; count = kept.count })) (x.offset + n) c ≡ to c
