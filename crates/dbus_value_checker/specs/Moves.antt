-- What a call makes of `ValueChecker`.
use Rattle.std.specs.Prelude.{◌≡◌, ℕ, ◌+◌, ◌-◌, ◌≤◌, List, [], ◌∷◌, ◌++◌, ◌⊎◌, length, take, false, Result, Ok, Err}
use Rattle.dbus_texts.specs.Types.{TypeTrees}
use Rattle.dbus_value_model.specs.declared.limits.Bounds.{Bounds}
use Rattle.dbus_value_model.specs.declared.order.Order.{Order}
use Rattle.dbus_value_model.specs.declared.fault.Fault.{Fault}
use Rattle.dbus_value_model.specs.declared.stop.Stop.{Stop}
use Rattle.dbus_value_model.specs.declared.stop.Stop.TheVariants as stops
use Rattle.dbus_value_model.specs.Reading.{Faulty, Partial, value, fields}
use Rattle.dbus_value_checker.specs.declared.values.ValueChecker.{ValueChecker}
use Rattle.dbus_value_checker.specs.declared.values.OpenContainer.{OpenContainer}
use Rattle.dbus_value_checker.specs.declared.values.Doing.{Doing}
use Rattle.dbus_value_checker.specs.declared.values.Doing.TheVariants as doing
use Rattle.dbus_types.specs.SignatureCodes.{IsTypeEnd}
use Rattle.dbus_texts.specs.declared.text_kind.TextKind.{TextKind}
use Rattle.dbus_value_model.specs.WantedTexts.{Of}
use Rattle.dbus_value_checker.specs.Suspended.{On, onward, ended_text}
use Rattle.dbus_value_checker.specs.Denotations.{Answer, after_piece, Wants, Denotes}

-- a call that was handed the bytes s: it took so many; or they end within what is wanted, and
-- nothing changed; or a fault shows
abbrev pub Moves : ValueChecker → List ℕ → Result ℕ Stop → ValueChecker → Answer → Type 0
Moves old s (Ok n) new answer = (n ≤ length s) × Denotes new (after_piece answer (take n s))
Moves old s (Err stops.Partial) new answer = (new ≡ old) × (answer.to s ≡ Partial)
Moves old s (Err (stops.Refused f)) new answer = (c : List ℕ) → answer.to (s ++ c) ≡ Faulty f

-- a container was opened, or a fault shows
abbrev pub Opens : Result (Unit {0}) Stop → ValueChecker → Answer → Type 0
Opens (Ok x) new answer = Denotes new answer
Opens (Err stops.Partial) new answer = ⊥
Opens (Err (stops.Refused f)) new answer = (c : List ℕ) → answer.to c ≡ Faulty f

-- a frame was pushed
pub record Pushed (x y : ValueChecker) (f : OpenContainer) : Type 0 where
  pub bounds : y.bounds ≡ x.bounds
  pub order : y.order ≡ x.order
  pub end : y.end ≡ x.end
  pub offset : y.offset ≡ x.offset
  pub text : y.text.items ≡ x.text.items
  pub lengths : y.lengths.items ≡ x.lengths.items
  pub inner : y.inner ≡ f
  pub frames : y.frames.items ≡ x.frames.items ++ x.inner ∷ []

-- the innermost frame is put after those around it, unless it is over
abbrev pub Aside : OpenContainer → (old new : List OpenContainer) → Type 0
Aside f old new = (new ≡ old ++ f ∷ []) ⊎ ((f.array ≡ false) × (f.stop ≤ f.pos) × (new ≡ old))

-- once a frame is pushed for what stands within the brackets at pos, n bytes further, its first
-- part is wanted
abbrev pub Enters : ValueChecker → (pos stop n depth_left : ℕ) → Answer → Type 0
Enters x pos stop n depth_left answer =
    (y : ValueChecker) → Pushed (record x { offset = x.offset + n }) y
    (record { array = false; pos = pos + 1; stop = stop - 1; top = x.inner.top; end = x.inner.end; depth_left = depth_left })
    → (q : ℕ) → IsTypeEnd (take y.inner.stop y.text.items) y.inner.pos q
    → Wants (record y { inner = record y.inner { pos = q } }) y.inner.pos q answer

-- something is wanted still
abbrev pub IsLive : Doing → Type 0
IsLive (doing.Wanted pos stop) = Unit {0}
IsLive (doing.Text kind left) = Unit {0}
IsLive (doing.Numbers left) = Unit {0}
IsLive doing.Nul = Unit {0}
IsLive doing.Over = ⊥

-- values of these types, from an offset on, and then the last
abbrev pub values_on : Bounds → Order → (depth_left end : ℕ) → TypeTrees → On → ℕ → Answer
values_on bounds order depth_left end ts last offset = record {
  last = last;
  to =
      onward (fields (value bounds order depth_left end) ts) last offset;
}

-- a text of a kind, of so many bytes, and the zero after it, from an offset on, and then the last
abbrev pub text_on : TextKind → (size : ℕ) → On → ℕ → Answer
text_on kind size last offset = record { last = last; to = onward (ended_text (Of kind) size) last offset }

-- nothing is wanted, and then the last
abbrev pub nothing_on : On → ℕ → Answer
nothing_on last o = record { last = last; to = last o }

-- up to where the bytes are taken
abbrev pub offset_of : ValueChecker → ℕ
offset_of x = x.offset

-- how many bytes the wanted type has
abbrev pub wide : Doing → ℕ
wide (doing.Wanted pos stop) = stop - pos
wide (doing.Text kind left) = 0
wide (doing.Numbers left) = 0
wide doing.Nul = 0
wide doing.Over = 0

-- A run over the bytes s: it took so many, and where something is wanted still, it is not whole in
-- the others; or a fault shows.
abbrev pub Runs : List ℕ → Result ℕ Fault → ValueChecker → Answer → Type 0
Runs s (Ok n) new answer = (n ≤ length s) × Denotes new (after_piece answer (take n s)) × (IsLive new.doing → answer.to s ≡ Partial)
Runs s (Err f) new answer = (c : List ℕ) → answer.to (s ++ c) ≡ Faulty f
