-- Bytes from 1 to 127 between the characters of a text.
use Rattle.std.proofs.Common.{ℕ, List, [], ◌∷◌, ◌++◌, refl, sym, subst, append_assoc, append-nil}
use Rattle.std.specs.List.{AllByRecursion}
use Rattle.std.specs.Int.{IsInRange}
use Rattle.dbus_texts.specs.declared.utf8.Utf8Place.TheVariants.{Free}
use Rattle.dbus_texts.specs.Quotients.{Moves, IsQuotient}
use Rattle.dbus_texts.specs.Kinds.{IsText}
use Rattle.dbus_texts.specs.Utf8Scans.{text_rest, text_next}
use Rattle.dbus_texts.proofs.ScanSteps.{quotient_start, quotient_push, step_some}
use Rattle.dbus_texts.proofs.Utf8Steps.{lead_is, text_moves, text_ends, text_some}

-- such a byte changes nothing
pub plain_moves : (b : ℕ) → IsInRange 1 127 b → Moves IsText b IsText
plain_moves b h = step_some text_rest (text_rest Free) b (text_next Free b) Free (text_moves Free b) (sym (lead_is Free b h))

-- nor do many
pub plain_run : (L : List ℕ → Type 0) (w u : List ℕ) → AllByRecursion (IsInRange 1 127) u → IsQuotient L w IsText → IsQuotient L (w ++ u) IsText
plain_run L w [] h q = subst (λ v. IsQuotient L v IsText) (sym (append-nil w)) q
plain_run L w (b ∷ u) h q = subst (λ v. IsQuotient L v IsText) (append_assoc w (b ∷ []) u) (plain_run L (w ++ b ∷ []) u h.1 (quotient_push L w IsText b IsText q (plain_moves b h.0)))

pub plain_text : (w : List ℕ) → AllByRecursion (IsInRange 1 127) w → IsText w
plain_text w h = subst IsText (append-nil w) ((plain_run IsText [] w h (quotient_start IsText text_some)).from [] (text_ends Free refl))
