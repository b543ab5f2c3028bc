-- Whether a source was read no further than was needed.
use Rattle.std.specs.Prelude.{◌≡◌, ◌⊎◌, ◌+◌, ◌*◌, ◌-◌, ◌<◌, ◌≤◌, ℕ, List, [], ◌∷◌, length, take, true, Option, None}
use Rattle.std.specs.Io.KnownBytes.{Consumes}
use Rattle.dbus_value_model.specs.declared.fault.Fault.{Fault}
use Rattle.dbus_value_model.specs.declared.limits.Limits.{Limits}
use Rattle.dbus_header.specs.MessageOutcomes.{IsPartial}
use Rattle.dbus_device.specs.Device.{RisesBy}
use Rattle.dbus_stream.specs.GoingOn.{ahead_of}
use Rattle.cli_options.specs.declared.settings.Settings.{Settings}
use Rattle.cli_report.specs.Devices.{Reading}
use Rattle.cli_run.specs.Inputs.{By, Part, PassedOver, PastWindow, Resumed, Whole, sizes_of}

-- no call was made of a source, or this holds of how many bytes had come before the last one
abbrev pub ReadsIf : {R : Type 0} → (left : R → Option (List ℕ)) → (calls : R → ℕ)
    → (Holds : (came : ℕ) → Type 0) → (old new : R) → Type 0
ReadsIf {R} left calls Holds old new = RisesBy 0 (calls old) (calls new)
    ⊎ ((before : List ℕ) × (between : R) × Consumes (left old) (left between) before
    × RisesBy 1 (calls between) (calls new) × Holds (length before))

-- or fewer than these had come
abbrev pub IsReadFor : {R : Type 0} → Reading R → (size : ℕ) → Type 0
IsReadFor r size = ReadsIf r.left r.calls (λ came. came < size) r.old r.new

-- the bytes of a refused message that had come show no fault: it begins at this offset, and these
-- are its first bytes
abbrev pub IsUnshown : Limits → (offset : ℕ) → (front : List ℕ) → (came : ℕ) → Type 0
IsUnshown limits offset front came =
    (came ≤ offset + length front) × IsPartial limits (take (came - offset) front)

-- behind its offset so many bytes are looked ahead at for where messages begin again
abbrev pub ahead_by : By → ℕ
ahead_by (Resumed window effort looked to_end) = ahead_of window
ahead_by (PastWindow window effort looked) = ahead_of window
ahead_by by = 0

-- More bytes than had come are wanted for the parts of an input, of which the first begins at this
-- offset: the parts have more; or those of a refused one that had come show no fault; or it is
-- looked ahead behind that, and fewer than twice as many had come.
abbrev pub WantMore : Limits → (offset : ℕ) → List Part → (came : ℕ) → Type 0
WantMore limits offset [] came = came < offset
WantMore limits offset (Whole item ∷ parts) came = WantMore limits (offset + item.size) parts came
WantMore limits offset (PassedOver front fault by size ∷ parts) came =
    IsUnshown limits offset front came
    ⊎ ((came < offset + 2 * ahead_by by) ⊎ WantMore limits (offset + size) parts came)

-- They are wanted to see what follows these parts: they are wanted for the parts; or what had come of
-- the rest shows no fault.
abbrev pub WantToSee : Limits → List Part → (rest : List ℕ) → (came : ℕ) → Type 0
WantToSee limits parts rest came = WantMore limits 0 parts came ⊎ IsUnshown limits (sizes_of parts) rest came

-- a read was made only if this holds of how many bytes had come. needed says whether so many bytes
-- were needed of the input
abbrev pub ReadsOnlyIf : (Wants : (came : ℕ) → Type 0) → (needed : (size : ℕ) → Type 0) → Type 0
ReadsOnlyIf Wants needed = needed 0 ⊎ ((came : ℕ) × Wants came × needed (came + 1))

-- no more is read once that shows; but a run that is to go on reads to pass over what is refused
abbrev pub ReadsToSee : Settings → Option Fault → List Part → (rest : List ℕ) → (needed : (size : ℕ) → Type 0) → Type 0
ReadsToSee settings fault parts rest needed = (settings.keeps_going ≡ true → fault ≡ None) → ReadsOnlyIf (WantToSee settings.limits parts rest) needed
