-- What a draft that cuts has written.
use Rattle.std.specs.Prelude.{◌≡◌, ℕ, ◌+◌, ◌<◌, ◌≤◌, List, ◌++◌, take}
use Rattle.std.specs.Char.{encode_utf8, IsScalar}
use Rattle.std.specs.Str.{IsCharBoundary, IsUtf8, chars}
use Rattle.dbus_list.specs.Cuts.{cut, width}
use Rattle.dbus_list.specs.declared.cut_draft.CutDraft.{CutDraft}
use Rattle.dbus_list.specs.declared.cut_draft.Front.{Front}
use Rattle.dbus_list.specs.declared.cut_draft.Room.{Room}
use Rattle.dbus_list.specs.declared.cut_draft.Room.TheVariants as room

-- the front ends between two characters of the text, and has these cells, at most so many
pub record IsFront (text : List ℕ) (most : ℕ) (f : Front) : Type 0 where
  pub boundary : IsCharBoundary text f.bytes
  pub width_is : width (chars (take f.bytes text)) ≡ f.cells
  pub fits : f.cells ≤ most

module _ {D : Type 0} (gains : D → List ℕ → D → Type 0) where
  -- The draft below gained this of a text that is cut to so many cells, and there is this room for
  -- more.
  module _ (before : D) (most : ℕ) where
    abbrev pub Leaves : Room → (text : List ℕ) → (now : D) → Type 0
    Leaves room.Unbounded text now = (most ≡ 0) × gains before text now
    Leaves (room.Left n) text now = (width (chars text) + n + 1 ≡ most) × gains before text now
    Leaves (room.Held c) text now = (shown : List ℕ) × (text ≡ shown ++ encode_utf8 c) × IsUtf8 shown × IsScalar c × (width (chars text) ≡ most) × gains before shown now
    Leaves room.Full text now = (0 < most) × (most < width (chars text)) × gains before (cut most text) now

    -- the text so far
    pub record HasCut (text : List ℕ) (d : CutDraft D) : Type 0 where
      pub utf8 : IsUtf8 text
      pub leaves : Leaves d.room text d.draft.now

  -- it gains a text, whatever it has so far
  pub record Gains (a : CutDraft D) (text : List ℕ) (b : CutDraft D) : Type 0 where
    pub same : b.draft.ghost_name ≡ a.draft.ghost_name
    pub more : (before : D) (most : ℕ) (so_far : List ℕ) → HasCut before most so_far a → HasCut before most (so_far ++ text) b
