-- What becomes of a writer of an output by messages, and by what it tells. stands says in which
-- states its renderer may stand, makes which texts that makes of messages from a state to another,
-- follows which messages may come after a state, and silent whether it makes none.
use Rattle.std.specs.Prelude.{◌≡◌, ℕ, Bool, true, false, List, [], ◌∷◌, Option, Result, Ok, Err, OnOk}
use Rattle.std.specs.declared.alloc.AllocError.{AllocError}
use Rattle.dbus_device.specs.Device.{Wrote}
use Rattle.dbus_value_model.specs.declared.order.Order.{Order}
use Rattle.dbus_message_model.specs.Messages.{MessageTree}
use Rattle.cli_report.specs.Devices.{Writing}
use Rattle.cli_report.specs.Gathering.{Breaks, Leaves, Passes, gathered_bytes}
use Rattle.cli_report.specs.declared.gathering.Unwritten.{Unwritten}
use Rattle.cli_run.specs.Inputs.{Placed}
use Rattle.cli_run.specs.Told.{GotSecond, first_of, second_of}
use Rattle.cli_run.specs.declared.output_writer.OutputWriter.{OutputWriter}
use Rattle.cli_run.specs.declared.place.MessagePlace.{MessagePlace}
use Rattle.cli_run.specs.declared.visitor.RunStop.{RunStop}
use Rattle.cli_run.specs.declared.visitor.RunStop.TheVariants.{Cause as ByCause, Untold}

-- a message of so many bytes, and its place in the input
abbrev pub placed_at : MessagePlace → Order → MessageTree → (size : ℕ) → Placed
placed_at place order m size = record { place = place; item = record { order = order; message = m; size = size } }

module _ {C S : Type 0} (stands : C → S → Type 0) where
  -- what is made of a message was appended, or for want of memory not
  abbrev pub RendersOne : {D : Type 0} → (makes : S → List Placed → List ℕ → S → Type 0) → (gains : D → List ℕ → D → Type 0) → S → C → Placed → D → D → Result (Unit {0}) AllocError → Type 0
  RendersOne makes gains s new m d0 d1 result = (t : S) × (text : List ℕ) × makes s (m ∷ []) text t × OnOk result (stands new t × gains d0 text d1)

  -- what became of that text, which leads to this state. g0 and g1 are what is gathered before and
  -- after
  abbrev pub GathersOne : {W : Type 0} → Writing W → S → C → (text g0 g1 : List ℕ) → Result (Result (Unit {0}) AllocError) Unwritten → Type 0
  GathersOne w t new text g0 g1 (Ok (Ok x)) = stands new t × Passes w.held w.failures text g0 g1 w.old w.new
  GathersOne w t new text g0 g1 (Ok (Err short)) = Unit {0}
  GathersOne w t new text g0 g1 (Err e) = Breaks w.held w.failures text g0 w.old w.new

-- for want of memory nothing is made of it
abbrev pub GathersNone : {W : Type 0} → Writing W → (g0 g1 : List ℕ) → Result (Result (Unit {0}) AllocError) Unwritten → Type 0
GathersNone w g0 g1 (Ok (Err short)) = Passes w.held w.failures [] g0 g1 w.old w.new
GathersNone w g0 g1 made = Unit {0}

module _ {W : Type 0} (held : W → Option (List ℕ)) (failures : W → ℕ) where
  -- what was done with bytes for the first writer, if a run is given up: unless a write to it
  -- failed, all was written. g is what was gathered before
  abbrev pub LeavesFirst : (is_check : Bool) → RunStop → (bytes g : List ℕ) → W → W → Type 0
  LeavesFirst is_check (ByCause cause) bytes g w0 w1 = Leaves held failures cause bytes g [] w0 w1
  LeavesFirst true Untold bytes g w0 w1 = Breaks held failures bytes g w0 w1
  LeavesFirst false Untold bytes g w0 w1 = Passes held failures bytes g [] w0 w1

module _ {C S W E : Type 0} (stands : C → S → Type 0) (makes : S → List Placed → List ℕ → S → Type 0) (follows : S → List Placed → Type 0) (silent : C → Bool) (held : W → Option (List ℕ)) (failures : W → ℕ) (second_held : E → Option (List ℕ)) (second_failures : E → ℕ) where
  -- the text that is made of the messages was written or gathered, and the other text was told
  pub record WritesAll (old new : OutputWriter C W E) (items : List Placed) (told : List ℕ) : Type 0 where
    pub same_first : new.first.ghost_name ≡ old.first.ghost_name
    pub same_second : new.second.ghost_name ≡ old.second.ghost_name
    pub same_silent : silent new.renderer ≡ silent old.renderer
    -- without a message it stays
    pub still : items ≡ [] → new.renderer ≡ old.renderer
    pub renders : (s : S) → stands old.renderer s → follows s items → (t : S) × stands new.renderer t × (text : List ℕ) × makes s items text t
        × Passes held failures (first_of (silent old.renderer) text told) (gathered_bytes old.gathered) (gathered_bytes new.gathered) old.first.now new.first.now
    pub tells : Wrote second_held second_failures old.second.now (second_of (silent old.renderer) told) new.second.now

  -- the same, as far as this stop lets it come
  pub record LeavesWritten (old new : OutputWriter C W E) (items : List Placed) (told : List ℕ) (stop : RunStop) : Type 0 where
    pub same_first : new.first.ghost_name ≡ old.first.ghost_name
    pub same_second : new.second.ghost_name ≡ old.second.ghost_name
    pub renders : (s : S) → stands old.renderer s → follows s items → (t : S) × (text : List ℕ) × makes s items text t
        × LeavesFirst held failures (silent old.renderer) stop (first_of (silent old.renderer) text told) (gathered_bytes old.gathered) old.first.now new.first.now
    pub tells : GotSecond second_held second_failures (silent old.renderer) stop (second_of (silent old.renderer) told) old.second.now new.second.now
