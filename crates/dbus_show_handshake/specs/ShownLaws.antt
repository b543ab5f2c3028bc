-- Texts of lines that follow one another.
-- The proof of the law that a `LineVisitor` owes, of the one that shows lines.
use Rattle.std.proofs.Common.{ℕ, List, ◌++◌, subst, sym}
use Rattle.std.specs.List.{flat_map}
use Rattle.std.proofs.lemmas.List.Concat.{flat_map-append}
use Rattle.dbus_handshake_input.specs.Heard.{HeardLine}
use Rattle.dbus_show_handshake.specs.ShownHandshakes.{line_text}
use Rattle.dbus_show_handshake.specs.declared.lines.ShownLines.{ShownLines}

pub joins : {D : Type 0} (gains : D → List ℕ → D → Type 0) → ((a b c : D) (s t : List ℕ) → gains a s b → gains b t c → gains a (s ++ t) c)
    → (a b c : ShownLines D) (s t : List HeardLine) → gains a.0 (flat_map line_text s) b.0 → gains b.0 (flat_map line_text t) c.0
    → gains a.0 (flat_map line_text (s ++ t)) c.0
joins gains join a b c s t p q =
    subst (λ text. gains a.0 text c.0) (sym (flat_map-append line_text s t)) (join a.0 b.0 c.0 (flat_map line_text s) (flat_map line_text t) p q)
