-- Texts that such a draft gains one after the other.
use Rattle.std.proofs.Common.{ℕ, List, [], ◌++◌}
use Rattle.dbus_show.specs.VisibleLaws as visible
use Rattle.dbus_list.specs.Cutting.{Gains as Cuts}
use Rattle.dbus_list.specs.CuttingLaws as cutting
use Rattle.dbus_list.specs.LineDrafts.{Gains, seen}
use Rattle.dbus_list.specs.declared.line_draft.LineDraft.{LineDraft}

module _ {D : Type 0} (gains : D → List ℕ → D → Type 0) where
  pub nothing : (a : LineDraft D) → Gains gains a [] a
  nothing a = visible.nothing (Cuts gains) (cutting.nothing gains) (seen a)

  pub joins : (a b c : LineDraft D) (s t : List ℕ) → Gains gains a s b → Gains gains b t c → Gains gains a (s ++ t) c
  joins a b c s t p q = visible.joins (Cuts gains) (cutting.joins gains) (seen a) (seen b) (seen c) s t p q
