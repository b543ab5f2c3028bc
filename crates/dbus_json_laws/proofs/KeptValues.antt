-- What `json` writes of a value is JSON that spells it.
-- RFC 8259, of the values of the D-Bus Specification, "Type System".
use Rattle.std.proofs.Common.{◌≡◌, ℕ, zero, suc, ◌+◌, ◌*◌, ◌^◌, ◌<◌, ◌≤◌, Bool, true, false, cond, List, [], ◌∷◌, Some, inl, inr, codes, from_bits, refl, sym, ap, ◌∙◌, subst, arith}
use Rattle.std.proofs.lemmas.Bool.{cases_Bool, cases_eq, ne_eqb, true≢false}
use Rattle.std.proofs.lemmas.List.{append-nil}
use Rattle.std.specs.Float.{binary64, float_is_finite}
use Rattle.std.specs.Int.{cast_signed, w16, w32, w64}
use Rattle.hex.specs.Hex.{encode_lower}
use Rattle.hex.proofs.HexLemmas.{decode_of-encode_lower}
use Rattle.json.specs.Json.{Json, Items, no_items, item, Members, no_members, member, value}
use Rattle.json.specs.Json as json
use Rattle.json.specs.Lex.{lex, fresh, punctuate, tokens}
use Rattle.json.specs.Print as print
use Rattle.json.specs.Tree.{json_tokens, depth, items_depth}
use Rattle.json.proofs.Printed.Decimals.{IsNumber-decimal}
use Rattle.json.proofs.Printed.Floats.{IsNumber-plain}
use Rattle.json.proofs.Printed.Trees.{value-json_tokens}
use Rattle.dbus_texts.specs.Types.{NumberCode, BYTE, BOOLEAN, INT16, UINT16, INT32, UINT32, INT64, UINT64, DOUBLE, UNIX_FD, TypeTree, NumberType, TextType, StructType, IsBasic, IsShaped, AreShaped, sig}
use Rattle.dbus_texts.specs.PlainTypes.{is_byte}
use Rattle.dbus_texts.proofs.TypeTexts.{shaped_of}
use Rattle.dbus_value_model.specs.declared.order.Order.TheVariants.{Big}
use Rattle.dbus_value_model.specs.Bytes.{num}
use Rattle.dbus_value_model.specs.Values as values
use Rattle.dbus_value_model.specs.Values.{ValueTree, ValueTrees, NumberValue, TextValue, VariantValue, ArrayValue, StructValue, EntryValue, NoValues, MoreValues, type_of, types_of, AllOf, IsWellFormed, AreWellFormed}
use Rattle.dbus_walk.proofs.ReadThere.{formed_utf8}
use Rattle.dbus_show.specs.ShownValues.{number_text, bytes_in}
use Rattle.dbus_json.specs.declared.integers.Integers.{Integers}
use Rattle.dbus_json.specs.JsonValues as written
use Rattle.dbus_json.specs.JsonIntegers.{may_be_number, wide_size}
use Rattle.dbus_json.specs.JsonValues.{plain, string, IsJson, AreJson, IsNumber, IsDouble, wide_text}
use Rattle.dbus_json_reader.specs.JsonNumbers.{SpellsNumber, SpellsWide}
use Rattle.dbus_json_reader.specs.JsonValues.{Spells, AllSpell}
use Rattle.dbus_json_reader.proofs.NumberTexts.{half_fits, num_bytes}
use Rattle.dbus_json_reader.proofs.SoundValues.{bytes_of, are_bytes, are_sound}
use Rattle.dbus_json_laws.specs.Kept.{IsValueKept}
use Rattle.dbus_json_laws.proofs.Lexed.{Inside, inside_literal, decimal_inside, signed_inside, float_inside, hex_inside, sig_inside, string_utf8, lex_string}
use Rattle.dbus_json_laws.proofs.Numbers.{AreAll}
use Rattle.dbus_json_laws.proofs.OneValue.{each_byte}
use Rattle.dbus_json_laws.proofs.Tokens.{Reads, AllRead, at_end, number_reads, true_reads, false_reads, signed_number, string_reads, plain_reads, member_reads, array_reads, object_reads}

-- JSON that spells the value, that the text reads as, and that nests no deeper than this
pub record Kept (integers : Integers) (most : ℕ) (v : ValueTree) (text : List ℕ) : Type 0 where
  pub j : Json
  pub spelled : Spells integers v j
  pub nests : depth j ≤ most
  pub reads : Reads text j

pub record AllKept (integers : Integers) (most : ℕ) (xs : ValueTrees) (texts : List (List ℕ)) : Type 0 where
  pub js : Items
  pub spelled : AllSpell integers xs js
  pub nests : items_depth js ≤ most
  pub reads : AllRead texts js

-- ---- numbers

record KeptNumber (integers : Integers) (k : NumberCode) (n : ℕ) (text : List ℕ) : Type 0 where
  j : Json
  spelled : SpellsNumber integers k n j
  flat : depth j ≡ 0
  reads : Reads text j

decimal_kept : (integers : Integers) (k : NumberCode) (n : ℕ) (text : List ℕ) → text ≡ number_text k n → AreAll Inside (number_text k n) → print.IsNumber (number_text k n) → SpellsNumber integers k n (json.number (number_text k n)) → KeptNumber integers k n text
decimal_kept integers k n text is inside number spelled = record { j = json.number (number_text k n); spelled = spelled; flat = refl; reads = subst (λ (s : List ℕ). Reads s (json.number (number_text k n))) (sym is) (number_reads (number_text k n) inside number) }

one : (n : ℕ) → n < 2 → (n ≡ 0 → ⊥) → n ≡ 1
one zero h other = absurd (other refl)
one (suc n) h other = omega (arith, h)

boolean_kept : (integers : Integers) (n : ℕ) (text : List ℕ) → n < 2 → text ≡ number_text BOOLEAN n → KeptNumber integers BOOLEAN n text
boolean_kept integers n text h is =
    elim (cases_eq n 0) [
      | inl e ↦ record { j = json.boolean false; spelled = (false, refl, e); flat = refl; reads = subst (λ (s : List ℕ). Reads s (json.boolean false)) (sym (is ∙ ap (number_text BOOLEAN) e)) false_reads }
      | inr e ↦ record { j = json.boolean true; spelled = (true, refl, one n h e); flat = refl; reads = subst (λ (s : List ℕ). Reads s (json.boolean true)) (sym (is ∙ ap (λ (b : Bool). cond b (codes "false") (codes "true")) (ne_eqb n 0 e))) true_reads }
    ]

double_kept : (integers : Integers) (n : ℕ) (text : List ℕ) → IsDouble n text → KeptNumber integers DOUBLE n text
double_kept integers n text is =
    elim (cases_Bool (float_is_finite (from_bits binary64 n))) [
      | inl finite ↦ (let whole = is.finite finite in record { j = json.number text; spelled = (whole.1, finite); flat = refl; reads = number_reads text (float_inside text whole.0) (IsNumber-plain text whole.0) })
      | inr other ↦ (
          let bytes = num Big 8 n in
          let small = num_bytes 8 n in
          record {
            j = json.string (encode_lower bytes);
            spelled = decode_of-encode_lower bytes (each_byte bytes small);
            flat = refl;
            reads = subst (λ (s : List ℕ). Reads s (json.string (encode_lower bytes))) (sym (is.other other)) (plain_reads (encode_lower bytes) (hex_inside bytes small));
          }
          )
    ]

-- an integer of 64 bits, as a number or as a string of it
wide_kept : (integers : Integers) (k : NumberCode) (n : ℕ) (text : List ℕ) (may : Bool) → may_be_number integers (wide_size k n) ≡ may → text ≡ wide_text integers k n
    → ((j : Json) → SpellsWide integers (wide_size k n) (number_text k n) j → SpellsNumber integers k n j) → AreAll Inside (number_text k n) → print.IsNumber (number_text k n) → KeptNumber integers k n text
wide_kept integers k n text true e is spelled inside number =
    decimal_kept integers k n text (is ∙ ap (λ (b : Bool). cond b (number_text k n) (plain (number_text k n))) e) inside number (spelled (json.number (number_text k n)) (inl (e, refl)))
wide_kept integers k n text false e is spelled inside number = record {
  j = json.string (number_text k n);
  spelled = spelled (json.string (number_text k n)) (inr refl);
  flat = refl;
  reads = subst (λ (s : List ℕ). Reads s (json.string (number_text k n))) (sym (is ∙ ap (λ (b : Bool). cond b (number_text k n) (plain (number_text k n))) e)) (plain_reads (number_text k n) inside);
}

number_kept : (integers : Integers) (k : NumberCode) (n : ℕ) (text : List ℕ) → values.IsNumber k n → IsNumber integers k n text → KeptNumber integers k n text
number_kept integers BYTE n text h is = decimal_kept integers BYTE n text is (decimal_inside n) (IsNumber-decimal n (omega (arith, h))) refl
number_kept integers BOOLEAN n text h is = boolean_kept integers n text h is
number_kept integers INT16 n text h is = decimal_kept integers INT16 n text is (signed_inside (cast_signed w16 n)) (signed_number (cast_signed w16 n) (half_fits (2 ^ 16) (2 ^ 15) n h (omega arith) (omega arith))) refl
number_kept integers UINT16 n text h is = decimal_kept integers UINT16 n text is (decimal_inside n) (IsNumber-decimal n (omega (arith, h))) refl
number_kept integers INT32 n text h is = decimal_kept integers INT32 n text is (signed_inside (cast_signed w32 n)) (signed_number (cast_signed w32 n) (half_fits (2 ^ 32) (2 ^ 31) n h (omega arith) (omega arith))) refl
number_kept integers UINT32 n text h is = decimal_kept integers UINT32 n text is (decimal_inside n) (IsNumber-decimal n (omega (arith, h))) refl
number_kept integers INT64 n text h is = wide_kept integers INT64 n text _ refl is (λ j w. w) (signed_inside (cast_signed w64 n)) (signed_number (cast_signed w64 n) (half_fits (2 ^ 64) (2 ^ 63) n h (omega arith) (omega arith)))
number_kept integers UINT64 n text h is = wide_kept integers UINT64 n text _ refl is (λ j w. w) (decimal_inside n) (IsNumber-decimal n h)
number_kept integers DOUBLE n text h is = double_kept integers n text is
number_kept integers UNIX_FD n text h is = decimal_kept integers UNIX_FD n text is (decimal_inside n) (IsNumber-decimal n (omega (arith, h))) refl

-- ---- types of parts

-- an entry stands only in an array
abbrev AllShaped : Bool → ValueTrees → Type 0
AllShaped inside NoValues = Unit {0}
AllShaped inside (MoreValues x xs) = IsShaped inside (type_of x) × AllShaped inside xs

elements : (t : TypeTree) (xs : ValueTrees) → IsShaped true t → AllOf t xs → AllShaped true xs
elements t NoValues h all = tt
elements t (MoreValues x xs) h all = (subst (IsShaped true) (sym all.0) h, elements t xs h all.1)

pub fields : (xs : ValueTrees) → AreShaped (types_of xs) → AllShaped false xs
fields NoValues h = tt
fields (MoreValues x xs) h = (h.0, fields xs h.1)

struct_fields : (inside : Bool) (xs : ValueTrees) → IsShaped inside (StructType (types_of xs)) → AllShaped false xs
struct_fields inside NoValues h = absurd h
struct_fields inside (MoreValues x xs) h = (h.0, fields xs h.1)

basic : (t : TypeTree) → IsBasic t → IsShaped false t
basic (NumberType k) h = tt
basic (TextType k) h = tt
basic _ h = absurd h

-- ---- values

-- how deep the JSON of a value of this depth may nest: an entry's array comes on top
abbrev pub most : Bool → ℕ → ℕ
most inside d = cond inside 1 0 + 2 * d

-- an array of BYTE
bytes_kept : (integers : Integers) (inside : Bool) (d : ℕ) (t : TypeTree) (xs : ValueTrees) (text : List ℕ) → is_byte t ≡ true → AllOf t xs → AreWellFormed d xs → text ≡ plain (encode_lower (bytes_in xs)) → (is_byte t ≡ false → ⊥) → Kept integers (most inside (suc d)) (ArrayValue t xs) text
bytes_kept integers inside d t xs text byte all h is never =
    let bytes = are_bytes xs (bytes_of t xs byte all) (are_sound d xs h) in
    record {
      j = json.string (encode_lower (bytes_in xs));
      spelled = (λ e. (encode_lower (bytes_in xs), refl, decode_of-encode_lower (bytes_in xs) (each_byte (bytes_in xs) bytes)), λ e. absurd (never e));
      nests = omega arith;
      reads = subst (λ (s : List ℕ). Reads s (json.string (encode_lower (bytes_in xs)))) (sym is) (plain_reads (encode_lower (bytes_in xs)) (hex_inside (bytes_in xs) bytes));
    }

mutual
  pub kept : (integers : Integers) (inside : Bool) (d : ℕ) (v : ValueTree) (text : List ℕ) → IsWellFormed d v → IsShaped inside (type_of v) → IsJson integers v text → Kept integers (most inside d) v text
  kept integers inside d (NumberValue k n) text h shaped is =
      let number = number_kept integers k n text h is in
      record { j = number.j; spelled = number.spelled; nests = omega (arith, number.flat); reads = number.reads }
  kept integers inside d (TextValue k t) text h shaped is =
      record {
        j = json.string t;
        spelled = refl;
        nests = omega arith;
        reads = subst (λ (s : List ℕ). Reads s (json.string t)) (sym is) (string_reads (string t) t (string_utf8 t (formed_utf8 d k t h)) (λ r. lex_string t r (formed_utf8 d k t h)));
      }
  kept integers inside zero (VariantValue x) text h shaped is = absurd h
  kept integers inside (suc d) (VariantValue x) text h shaped is =
      let held = kept integers false d x is.0 h.1 (shaped_of (type_of x) false 0 0 h.0.0) is.1 in
      let ms = member (codes "type") (json.string (sig (type_of x))) (member (codes "value") held.j no_members) in
      let type = member_reads (codes "type") (plain (sig (type_of x))) (json.string (sig (type_of x))) (inside_literal (codes "type") refl) (plain_reads (sig (type_of x)) (sig_inside (type_of x))) in
      let value = member_reads (codes "value") is.0 held.j (inside_literal (codes "value") refl) held.reads in
      record {
        j = json.object ms;
        spelled = (ms, held.j, refl, inl refl, held.spelled);
        nests = omega (arith, held.nests);
        reads = subst (λ (s : List ℕ). Reads s (json.object ms)) (sym is.2) (object_reads (written.member (codes "type") (plain (sig (type_of x))) ∷ written.member (codes "value") is.0 ∷ []) ms (type, (value, tt)));
      }
  kept integers inside zero (ArrayValue t xs) text h shaped is = absurd h
  kept integers inside (suc d) (ArrayValue t xs) text h shaped is =
      elim (cases_Bool (is_byte t)) [
        | inl byte ↦ bytes_kept integers inside d t xs text byte h.0 h.1 (is.0 byte) (λ e. true≢false (sym byte ∙ e))
        | inr other ↦ (
            let all = is.1 other in
            let parts = all_kept integers true d xs all.0 h.1 (elements t xs shaped h.0) all.1 in
            record {
              j = json.array parts.js;
              spelled = (λ e. absurd (true≢false (sym e ∙ other)), λ e. (parts.js, refl, parts.spelled));
              nests = omega (arith, parts.nests);
              reads = subst (λ (s : List ℕ). Reads s (json.array parts.js)) (sym all.2) (array_reads all.0 parts.js parts.reads);
            }
            )
      ]
  kept integers inside zero (StructValue xs) text h shaped is = absurd h
  kept integers inside (suc d) (StructValue xs) text h shaped is =
      let parts = all_kept integers false d xs is.0 h (struct_fields inside xs shaped) is.1 in
      record {
        j = json.array parts.js;
        spelled = (parts.js, refl, parts.spelled);
        nests = omega (arith, parts.nests);
        reads = subst (λ (s : List ℕ). Reads s (json.array parts.js)) (sym is.2) (array_reads is.0 parts.js parts.reads);
      }
  kept integers false d (EntryValue x y) text h shaped is = absurd shaped
  kept integers true d (EntryValue x y) text h shaped is =
      let key = kept integers false d x is.0 h.0 (basic (type_of x) shaped.0) is.2 in
      let held = kept integers false d y is.1 h.1 shaped.1 is.3 in
      let js = item key.j (item held.j no_items) in
      record {
        j = json.array js;
        spelled = (key.j, held.j, key.spelled, held.spelled, refl);
        nests = omega (arith, key.nests, held.nests);
        reads = subst (λ (s : List ℕ). Reads s (json.array js)) (sym is.4) (array_reads (is.0 ∷ is.1 ∷ []) js (key.reads, (held.reads, tt)));
      }

  pub all_kept : (integers : Integers) (inside : Bool) (d : ℕ) (xs : ValueTrees) (texts : List (List ℕ)) → AreWellFormed d xs → AllShaped inside xs → AreJson integers xs texts → AllKept integers (most inside d) xs texts
  all_kept integers inside d NoValues [] h shaped is = record { js = no_items; spelled = tt; nests = omega arith; reads = tt }
  all_kept integers inside d (MoreValues x xs) (t ∷ texts) h shaped is =
      let first = kept integers inside d x t h.0 shaped.0 is.0 in
      let others = all_kept integers inside d xs texts h.1 shaped.1 is.1 in
      record { js = item first.j others.js; spelled = (first.spelled, others.spelled); nests = omega (arith, first.nests, others.nests); reads = (first.reads, others.reads) }
  all_kept integers inside d NoValues (t ∷ texts) h shaped is = absurd is
  all_kept integers inside d (MoreValues x xs) [] h shaped is = absurd is

-- the tokens of a whole text
pub whole : (text : List ℕ) (j : Json) → Reads text j → tokens text ≡ json_tokens j
unfolding lex punctuate
whole text j reads = sym (ap tokens (append-nil text)) ∙ reads.parsed fresh [] refl at_end ∙ append-nil (json_tokens j)

-- the value of a whole text
pub whole_value : (text : List ℕ) (j : Json) (d : ℕ) → Reads text j → depth j ≤ d → value d (tokens text) ≡ Some (j, [])
whole_value text j d reads few = ap (value d) (whole text j reads ∙ sym (append-nil (json_tokens j))) ∙ value-json_tokens j d [] few

pub value_kept : IsValueKept
value_kept integers d v text single formed is =
    let found = kept integers false d v text formed (shaped_of (type_of v) false 0 0 single.0) is in
    (found.j, found.spelled, whole_value text found.j (2 * d) found.reads (omega (arith, found.nests)))
