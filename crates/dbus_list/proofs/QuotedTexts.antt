-- A text between quotation marks, with its escapes, is text.
use Rattle.std.proofs.Common.{List, ℕ, [], ◌∷◌, ◌++◌, arith}
use Rattle.std.specs.Str.{IsUtf8}
use Rattle.std.proofs.lemmas.Str.{IsUtf8-append, IsUtf8-from_ascii}
use Rattle.std.proofs.lemmas.Str.Ascii.{IsAscii-cons, IsAscii-nil}
use Rattle.dbus_show.specs.Escapes.{escaped}
use Rattle.dbus_show.specs.ShownValues.{quoted}
use Rattle.dbus_show.specs.declared.escapes.Escapes.TheVariants.{Shown}
use Rattle.dbus_show.proofs.EscapedUtf8.{escaped_utf8}

mark : IsUtf8 (34 ∷ [])
mark = IsUtf8-from_ascii (34 ∷ []) (IsAscii-cons 34 [] (omega arith) IsAscii-nil)

pub quoted_utf8 : (text : List ℕ) → IsUtf8 text → IsUtf8 (quoted text)
quoted_utf8 text utf8 = IsUtf8-append (34 ∷ []) (escaped Shown text ++ 34 ∷ []) mark (IsUtf8-append (escaped Shown text) (34 ∷ []) (escaped_utf8 Shown text utf8) mark)
