-- The fields of parts that have bytes, and those that are kept, are plain or spelled at any offset.
use Rattle.std.proofs.Common.{◌≡◌, ℕ, ◌^◌, ◌<◌, List, [], ◌∷◌, ◌++◌, length, Bool, true, false, if◌then◌else◌, nat_eq, Option, Some, None, inl, inr, refl, arith}
use Rattle.std.specs.Borrow.{Bor}
use Rattle.std.specs.List.{flat_map}
use Rattle.std.proofs.lemmas.Bool.{eqb-true}
use Rattle.dbus_texts.specs.Types.{TextCode, STRING, OBJECT_PATH, SIGNATURE, TextType, sig}
use Rattle.dbus_types.specs.Alignments.{length_width}
use Rattle.dbus_value_model.specs.declared.limits.Bounds.{Bounds}
use Rattle.dbus_value_model.specs.declared.order.Order.{Order}
use Rattle.dbus_message_model.specs.Messages.{FieldTree, has_code}
use Rattle.dbus_c_build.specs.Drafts.{text_code, number_value, number_of, text_of, field_of, field_given, stays, in_place, added, known_codes, fields_after}
use Rattle.dbus_c_build.specs.Building.{HaveBytes, IsShort, most_of}
use Rattle.dbus_c_build.specs.declared.draft.Draft.{Draft}
use Rattle.dbus_c_build.proofs.Anywhere.{IsSpelled, AreSpelled}
use Rattle.dbus_c_build.proofs.SameFields.{AreClear, spelled_sound}

short_sig : (k : TextCode) → length (sig (TextType k)) < 256
short_sig STRING = omega arith
short_sig OBJECT_PATH = omega arith
short_sig SIGNATURE = omega arith

-- the length of a text that is not too long for its field has room
most_if : (code : ℕ) (one eight : Bool) → nat_eq code 1 ≡ one → nat_eq code 8 ≡ eight
    → (if eight then 255 else 134217728) < 256 ^ length_width (if one then OBJECT_PATH else if eight then SIGNATURE else STRING)
most_if code true true e f = absurd (omega (arith, eqb-true code 1 e, eqb-true code 8 f))
most_if code true false e f = omega arith
most_if code false true e f = omega arith
most_if code false false e f = omega arith

most_fits : (code : ℕ) → most_of code < 256 ^ length_width (text_code code)
most_fits code = most_if code (nat_eq code 1) (nat_eq code 8) refl refl

few_if : (five nine : Bool) (m n : ℕ) → m < 2 ^ 32 → n < 2 ^ 32 → (if five then m else if nine then n else 0) < 2 ^ 32
few_if true nine m n few less = few
few_if false true m n few less = less
few_if false false m n few less = omega arith

abbrev AreSmall : List ℕ → Type 0
AreSmall [] = Unit {0}
AreSmall (c ∷ cs) = (c < 256) × AreSmall cs

module _ (bounds : Bounds) (order : Order) (depth : ℕ) where
  clear_append : (xs ys : List FieldTree) → AreClear bounds order depth xs → AreClear bounds order depth ys → AreClear bounds order depth (xs ++ ys)
  clear_append [] ys h k = k
  clear_append (x ∷ xs) ys h k = (h.0, clear_append xs ys h.1 k)

  clear_number : (code n : ℕ) (is_zero : Bool) → code < 256 → n < 2 ^ 32 → AreClear bounds order depth (if is_zero then [] else number_value code n ∷ [])
  clear_number code n true small few = tt
  clear_number code n false small few = (inl (small, omega arith, (refl, omega (arith, few))), tt)

  clear_field : (code : ℕ) (q : Option (Bor (List ℕ))) (n : ℕ) → code < 256 → IsShort code q → n < 2 ^ 32 → AreClear bounds order depth (field_of code q n)
  clear_field code None n small short few = clear_number code n (nat_eq n 0) small few
  clear_field code (Some t) n small short few = (inl (small, short_sig (text_code code), omega (arith, most_fits code, short)), tt)

  module _ (kept : List FieldTree) (p : Draft) (h : HaveBytes kept p) where
    clear_given : (code : ℕ) → code < 256 → AreClear bounds order depth (field_given p code)
    clear_given code small =
        clear_field code (text_of code p) (number_of code p) small (h.short code) (few_if (nat_eq code 5) (nat_eq code 9) p.reply_serial p.unix_fds h.numbers.3 h.numbers.4)

    clear_one : (f : FieldTree) (same : Bool) → IsSpelled bounds order depth f → AreClear bounds order depth (if same then f ∷ [] else field_given p f.code)
    clear_one f true spelled = (inr spelled, tt)
    clear_one f false spelled = clear_given f.code (spelled_sound bounds order depth f spelled).code

    clear_kept : (fs : List FieldTree) → AreSpelled bounds order depth fs → AreClear bounds order depth (flat_map (in_place p kept) fs)
    clear_kept [] spelled = tt
    clear_kept (f ∷ fs) spelled = clear_append (in_place p kept f) _ (clear_one f (stays p kept f.code) spelled.0) (clear_kept fs spelled.1)

    clear_new : (code : ℕ) (there : Bool) → code < 256 → AreClear bounds order depth (if there then [] else field_given p code)
    clear_new code true small = tt
    clear_new code false small = clear_given code small

    clear_added : (codes : List ℕ) → AreSmall codes → AreClear bounds order depth (flat_map (added p kept) codes)
    clear_added [] small = tt
    clear_added (c ∷ cs) small = clear_append (added p kept c) _ (clear_new c (has_code c kept) small.0) (clear_added cs small.1)

    pub clear_fields : AreSpelled bounds order depth kept → AreClear bounds order depth (fields_after p kept)
    clear_fields spelled = clear_append _ _ (clear_kept kept spelled)
        (clear_added known_codes (omega arith, (omega arith, (omega arith, (omega arith, (omega arith, (omega arith, (omega arith, (omega arith, (omega arith, tt))))))))))
