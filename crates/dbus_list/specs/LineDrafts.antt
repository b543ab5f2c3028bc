-- What a draft that cuts, and shows hidden characters, has gained.
use Rattle.std.specs.Prelude.{ℕ, List}
use Rattle.dbus_show.specs.Visible.{Sees}
use Rattle.dbus_show.specs.declared.visible.Visible.{Visible}
use Rattle.dbus_list.specs.Cutting.{Gains as Cuts}
use Rattle.dbus_list.specs.declared.cut_draft.CutDraft.{CutDraft}
use Rattle.dbus_list.specs.declared.line_draft.LineDraft.{LineDraft}

-- a draft that shows them, over the one that cuts
abbrev pub seen : {D : Type 0} → LineDraft D → Visible (CutDraft D)
seen d = record { draft = d.cut }

-- it gains what that gains
abbrev pub Gains : {D : Type 0} → (gains : D → List ℕ → D → Type 0) → LineDraft D → (text : List ℕ) → LineDraft D → Type 0
Gains gains a text b = Sees (Cuts gains) (seen a) text (seen b)
