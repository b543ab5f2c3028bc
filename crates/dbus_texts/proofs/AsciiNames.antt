-- The bytes of names and of texts.
use Rattle.std.proofs.Common.{◌≡◌, ◌≢◌, ℕ, true, Some, List, [], ◌∷◌, ◌⊎◌, refl, subst, arith}
use Rattle.std.specs.List.{AllByRecursion}
use Rattle.std.specs.Int.{IsInRange}
use Rattle.std.proofs.lemmas.Bool.Decides.{nat_tests}
use Rattle.dbus_texts.specs.declared.names.Letters.{Letters}
use Rattle.dbus_texts.specs.declared.names.Letters.TheVariants.{Word}
use Rattle.dbus_texts.specs.declared.names.Tail.{Tail}
use Rattle.dbus_texts.specs.declared.names.Place.{Place}
use Rattle.dbus_texts.specs.declared.names.Place.TheVariants.{PathStart, First, More}
use Rattle.dbus_texts.specs.declared.names.NameScan.{NameScan}
use Rattle.dbus_texts.specs.declared.utf8.Utf8Place.{Utf8Place}
use Rattle.dbus_texts.specs.declared.utf8.Utf8Place.TheVariants.{Free}
use Rattle.dbus_texts.specs.NameScans.{begins, goes_on, separator, name_next_at, name_next, name_end}
use Rattle.dbus_texts.specs.Utf8Scans.{text_next, text_end}
use Rattle.dbus_texts.specs.ComputedKinds.{accepts}
use Rattle.dbus_texts.proofs.Utf8Steps.{lead_is}
use Rattle.dbus_texts.proofs.Runs.{accepts_bytes}

-- each byte of a name is from 1 to 127
begins_plain : (l : Letters) (b : ℕ) → begins l b ≡ true → IsInRange 1 127 b
begins_plain Word b e = grind (arith, nat_tests)
begins_plain _ b e = grind (arith, nat_tests)

goes_on_plain : (l : Letters) (b : ℕ) → (goes_on l b ≡ true) ⊎ (b ≡ separator l) → IsInRange 1 127 b
goes_on_plain Word b e = grind (arith, nat_tests)
goes_on_plain _ b e = grind (arith, nat_tests)

name_byte_at : (p : Place) (l : Letters) (t : Tail) (b : ℕ) (q : NameScan) → name_next_at p l t b ≡ Some q → IsInRange 1 127 b
name_byte_at PathStart l t b q e = grind (arith, nat_tests)
name_byte_at First l t b q e = grind (arith, nat_tests, begins_plain l b)
name_byte_at More l t b q e = grind (arith, nat_tests, goes_on_plain l b)
name_byte_at _ l t b q e = grind (arith, nat_tests)

plain_text : (w : List ℕ) → AllByRecursion (IsInRange 1 127) w → accepts text_next text_end Free w ≡ true
plain_text [] h = refl
plain_text (b ∷ w) h = rw (lead_is Free b h.0, accepts) (plain_text w h.1)

-- a name or an object path is a text
pub name_text : (s : NameScan) (w : List ℕ) → accepts name_next name_end s w ≡ true → accepts text_next text_end Free w ≡ true
name_text s w h = plain_text w (accepts_bytes name_next name_end (IsInRange 1 127) (λ n b m e. name_byte_at n.place n.letters n.tail b m e) w s h)

-- no byte of a text is 0
text_byte : (p : Utf8Place) (q : Utf8Place) → text_next p 0 ≡ Some q → ⊥
text_byte Free q e = cc
text_byte _ q e = cc

pub text_bytes : (w : List ℕ) → accepts text_next text_end Free w ≡ true → AllByRecursion (λ b. b ≢ 0) w
text_bytes w h = accepts_bytes text_next text_end (λ b. b ≢ 0) (λ p b q e z. text_byte p q (subst (λ x. text_next p x ≡ Some q) z e)) w Free h
