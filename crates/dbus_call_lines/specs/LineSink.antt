-- Calls that ended, as lines of a draft; and the laws that such a sink owes.
use Rattle.std.proofs.Common.{ℕ, List, [], ◌++◌, subst, sym}
use Rattle.std.proofs.lemmas.List.Concat.{flat_map-append}
use Rattle.dbus_call_lines.specs.CallLines.{end}
use Rattle.dbus_call_lines.specs.Keeping.{EndedCall, lines_text}
use Rattle.dbus_call_lines.specs.declared.lines.Lines.{Lines}

module _ {D : Type 0} (gains : D → List ℕ → D → Type 0) where
  -- the draft gains the lines of these calls
  abbrev pub WritesLines : Lines D → List EndedCall → Lines D → Type 0
  WritesLines a calls b = gains a.draft (lines_text calls) b.draft

  pub nothing : ((a : D) → gains a [] a) → (a : Lines D) → WritesLines a [] a
  nothing none a = none a.draft

  pub joins : ((a b c : D) (s t : List ℕ) → gains a s b → gains b t c → gains a (s ++ t) c) → (a b c : Lines D) (s t : List EndedCall) → WritesLines a s b → WritesLines b t c → WritesLines a (s ++ t) c
  joins both a b c s t p q = subst (λ (l : List ℕ). gains a.draft l c.draft) (sym (flat_map-append (λ c. c.text ++ end c.form c.place.time c.outcome) s t)) (both a.draft b.draft c.draft (lines_text s) (lines_text t) p q)
