-- A line stays one as its hidden characters are seen.
use Rattle.std.proofs.Common.{◌≡◌, ℕ, List, [], ◌∷◌, cond, refl, ap, ◌∙◌, arith, chars, encode_utf8, encode_utf8_all, IsUtf8}
use Rattle.std.specs.Char.Escape.{escape_unicode}
use Rattle.std.specs.List.{flat_map}
use Rattle.std.proofs.lemmas.Str.{encodes-chars}
use Rattle.dbus_show.specs.Escapes.{is_hidden, visible}
use Rattle.dbus_show.specs.ShownMessages.{line_feeds}
use Rattle.dbus_show.proofs.LineFeeds.{IsOneLine, feeds_append, line_append, line_either, line_literal, line_unicode}

line_seen : (cs : List ℕ) → line_feeds (encode_utf8_all cs) ≡ 0 → IsOneLine (flat_map (λ c. cond (is_hidden c) (escape_unicode c) (encode_utf8 c)) cs)
line_seen [] h = line_literal [] refl
line_seen (c ∷ cs) h =
    let two = feeds_append (encode_utf8 c) (encode_utf8_all cs) in
    let front : line_feeds (encode_utf8 c) ≡ 0 = omega (arith, h, two) in
    let back : line_feeds (encode_utf8_all cs) ≡ 0 = omega (arith, h, two) in
    let more : ℕ → List ℕ = λ c. cond (is_hidden c) (escape_unicode c) (encode_utf8 c) in
    line_append (more c) (flat_map more cs) (line_either (is_hidden c) (escape_unicode c) (encode_utf8 c) (line_unicode c) (record { none = front })) (line_seen cs back)

pub line_visible : (text : List ℕ) → IsUtf8 text → IsOneLine text → IsOneLine (visible text)
line_visible text u h = line_seen (chars text) (ap line_feeds (encodes-chars text u) ∙ h.none)
