-- The text of a message has no control character of ASCII.
use Rattle.std.proofs.Common.{◌≡◌, ℕ, zero, suc, ◌+◌, ◌-◌, ◌/◌, ◌%◌, ◌<◌, ◌≤◌, ℤ, pos, negsuc, nat_eq, nat_lt, nat_le, Bool, true, false, not, ◌&&◌, ◌==◌, ◌⊎◌, cond, List, [], ◌∷◌, ◌++◌, length, map, replicate, get_or, Option, None, Some, codes, decimal, chars, from_bits, refl, sym, subst, inl, inr, arith}
use Rattle.std.specs.Char.{digit_value, encode_utf8, is_ascii_control}
use Rattle.std.specs.Char.Escape.{escape_unicode, hex_digit_at}
use Rattle.std.specs.Float.{binary64, float_is_finite}
use Rattle.std.specs.Float.Numeral.{exponent_text, text_of}
use Rattle.std.specs.Fmt.{digits, digits_onto, digit_glyph, sign_text, signed_decimal}
use Rattle.std.specs.Int.{IsInRange, cast_signed, w16, w32, w64}
use Rattle.std.specs.List.{AllByRecursion, flat_map}
use Rattle.std.specs.Option.{unwrap_or}
use Rattle.std.specs.Str.{encode_utf8_all}
use Rattle.std.specs.Str.Parse.{AllDigits}
use Rattle.std.proofs.Math.Utf8.{encode}
use Rattle.std.proofs.lemmas.Bool.{cases_lt}
use Rattle.std.proofs.lemmas.Bool.Decides.{nat_tests}
use Rattle.std.proofs.lemmas.Str.{encode_ascii}
use Rattle.hex.specs.Hex.{encode_lower, encode_with, lower_digits}
use Rattle.ryu.specs.Plain.{IsPlainNumber}
use Rattle.dbus_texts.specs.Types.{NumberCode, BYTE, BOOLEAN, INT16, UINT16, INT32, UINT32, INT64, UINT64, DOUBLE, UNIX_FD, TypeTrees, sigs}
use Rattle.dbus_texts.specs.PlainTypes.{is_byte}
use Rattle.dbus_texts.proofs.TypeTexts.{sigs_hold}
use Rattle.dbus_value_model.specs.Values.{AreWellFormed, IsWellFormed, ValueTree, ValueTrees, NumberValue, TextValue, VariantValue, ArrayValue, StructValue, EntryValue, NoValues, MoreValues, types_of}
use Rattle.dbus_value_model.specs.declared.limits.Limits.{Limits}
use Rattle.dbus_value_model.specs.declared.order.Order.{Order}
use Rattle.dbus_message_model.specs.Messages.{IsMessage, MessageTree, message_bytes}
use Rattle.dbus_message_model.specs.declared.field_code.TheConstants as field
use Rattle.dbus_message_model.specs.declared.message_type.TheConstants as message
use Rattle.dbus_show.specs.Escapes.{escape, escaped, is_escaped, is_quote}
use Rattle.dbus_show.specs.ShownValues.{bytes_in, joined, number_text, quoted}
use Rattle.dbus_show.specs.declared.escapes.Escapes.TheVariants.{Shown}
use Rattle.dbus_value_text.specs.Forms.{led}
use Rattle.dbus_calls.specs.Events.{destination_of, reply_serial_of, sender_of, text_at, wants_reply}
use Rattle.dbus_call_lines.specs.CallLines.{took_text}
use Rattle.dbus_call_lines.specs.Durations.{milliseconds_text, sign, three_digits as took_digits}
use Rattle.dbus_call_lines.specs.declared.elapsed.Elapsed.{Elapsed}
use Rattle.dbus_call_lines.proofs.Printed.{bus_printed, destination_printed, error_printed, interface_is_printed, member_is_printed, sender_printed}
use Rattle.dbus_json.specs.Times.{digit_at}
use Rattle.dbus_json.specs.declared.place.LinePlace.{LinePlace}
use Rattle.dbus_list.specs.BriefValues.{AreBrief, IsBrief, IsBriefDouble, IsBriefNumber, bracketed, other_double}
use Rattle.dbus_list.specs.Columns.{clock, column, connection, ends, first_short, known_room, name_cells, name_column, right, short, with_known, three_digits, two_digits}
use Rattle.dbus_list.specs.Pairs.{ToldCall}
use Rattle.dbus_list.specs.Told.{Told}
use Rattle.dbus_list.specs.Lines.{ArePlain, IsCallWithin, IsListed, IsNameKnown, IsToldWithin, about, about_kind, answered_part, call_part, columns, error_part, interface_part, known_part, member_of, nobody, or_dash, time_part}

-- a byte that is no control character of ASCII
abbrev pub IsPlain : ℕ → Type 0
IsPlain b = is_ascii_control b ≡ false

pub plain_both : (a b : List ℕ) → ArePlain a → ArePlain b → ArePlain (a ++ b)
plain_both [] b p q = q
plain_both (c ∷ a) b p q = (p.0, plain_both a b p.1 q)

pub plain_if : (c : Bool) (a b : List ℕ) → (c ≡ true → ArePlain a) → (c ≡ false → ArePlain b) → ArePlain (cond c a b)
plain_if true a b p q = p refl
plain_if false a b p q = q refl

pub plain_flat : {A : Type 0} (f : A → List ℕ) → ((x : A) → ArePlain (f x)) → (xs : List A) → ArePlain (flat_map f xs)
plain_flat f each [] = tt
plain_flat f each (x ∷ xs) = plain_both (f x) (flat_map f xs) (each x) (plain_flat f each xs)

-- a text that is known
abbrev all_plain : List ℕ → Bool
all_plain [] = true
all_plain (b ∷ w) = not (is_ascii_control b) && all_plain w

plain_head : (control rest : Bool) → (not control && rest) ≡ true → (control ≡ false) × (rest ≡ true)
plain_head false true is = (refl, refl)
plain_head false false is = absurd (cc)
plain_head true rest is = absurd (cc)

pub plain_known : (w : List ℕ) → all_plain w ≡ true → ArePlain w
plain_known [] is = tt
plain_known (b ∷ w) is = let h = plain_head (is_ascii_control b) (all_plain w) is in (h.0, plain_known w h.1)

-- ---- bytes

above : (b : ℕ) → 32 ≤ b → b < 127 → IsPlain b
above b low high = grind (arith, nat_tests)

beyond : (b : ℕ) → 128 ≤ b → IsPlain b
beyond b high = grind (arith, nat_tests)

pub plain_range : (w : List ℕ) → AllByRecursion (IsInRange 32 126) w → ArePlain w
plain_range [] h = tt
plain_range (b ∷ w) h = (above b (omega (arith, h.0.0)) (omega (arith, h.0.1)), plain_range w h.1)

pub plain_spaces : (n : ℕ) → ArePlain (replicate n 32)
plain_spaces zero = tt
plain_spaces (suc n) = (refl, plain_spaces n)

-- ---- numbers

glyph : (d : ℕ) → d < 10 → IsPlain (digit_glyph false d)
glyph d low = grind (arith, nat_tests)

plain_digits : (k n : ℕ) (acc : List ℕ) → ArePlain acc → ArePlain (digits_onto k 10 false n acc)
plain_digits zero n acc h = h
plain_digits (suc k) n acc h =
    let more : ArePlain (digit_glyph false (n % 10) ∷ acc) = (glyph (n % 10) (omega arith), h) in
    plain_if (nat_eq (n / 10) 0) (digit_glyph false (n % 10) ∷ acc) (digits_onto k 10 false (n / 10) (digit_glyph false (n % 10) ∷ acc)) (λ _. more) (λ _. plain_digits k (n / 10) (digit_glyph false (n % 10) ∷ acc) more)

pub plain_decimal : (n : ℕ) → ArePlain (decimal n)
unfolding digits
plain_decimal n = plain_digits 64 n [] tt

plain_signed : (z : ℤ) → ArePlain (signed_decimal z)
plain_signed (pos n) = plain_decimal n
plain_signed (negsuc n) = (refl, plain_decimal (suc n))

plain_at : (s : List ℕ) → ArePlain s → (i : ℕ) → i < length s → IsPlain (get_or s i 0)
plain_at [] h i inside = absurd (omega (arith, inside))
plain_at (b ∷ s) h zero inside = h.0
plain_at (b ∷ s) h (suc i) inside = plain_at s h.1 i (omega (arith, inside))

digit_plain : (d : ℕ) → d < 16 → IsPlain (get_or lower_digits d 0)
digit_plain d low = plain_at lower_digits (plain_known lower_digits refl) d low

abbrev AreBytes : List ℕ → Type 0
AreBytes bytes = AllByRecursion (λ b. b < 256) bytes

pub plain_hex : (bytes : List ℕ) → AreBytes bytes → ArePlain (encode_lower bytes)
unfolding encode_with
plain_hex [] h = tt
plain_hex (b ∷ bytes) h = (digit_plain (b / 16) (omega (arith, h.0)), (digit_plain (b % 16) (omega arith), plain_hex bytes h.1))

plain_number : (k : NumberCode) (n : ℕ) → (k ≡ DOUBLE → ⊥) → ArePlain (number_text k n)
plain_number BYTE n other = plain_decimal n
plain_number BOOLEAN n other = plain_if (nat_eq n 0) (codes "false") (codes "true") (λ _. plain_known (codes "false") refl) (λ _. plain_known (codes "true") refl)
plain_number INT16 n other = plain_signed (cast_signed w16 n)
plain_number UINT16 n other = plain_decimal n
plain_number INT32 n other = plain_signed (cast_signed w32 n)
plain_number UINT32 n other = plain_decimal n
plain_number INT64 n other = plain_signed (cast_signed w64 n)
plain_number UINT64 n other = plain_decimal n
plain_number DOUBLE n other = absurd (other refl)
plain_number UNIX_FD n other = plain_decimal n

digit_low : (c : ℕ) → digit_value c < 10 → IsPlain c
digit_low c low = grind (arith, nat_tests)

plain_all_digits : (ds : List ℕ) → AllDigits 10 ds → ArePlain ds
plain_all_digits [] h = tt
plain_all_digits (c ∷ ds) h = (digit_low c h.0, plain_all_digits ds h.1)

plain_sign : (negative : Bool) → ArePlain (sign_text negative)
plain_sign true = (refl, tt)
plain_sign false = tt

plain_exponent : (negative : Bool) (ds : List ℕ) → AllDigits 10 ds → ArePlain (exponent_text negative ds)
plain_exponent negative [] h = tt
plain_exponent negative (d ∷ ds) h = (refl, plain_both (sign_text negative) (d ∷ ds) (plain_sign negative) (plain_all_digits (d ∷ ds) h))

plain_float : (text : List ℕ) → IsPlainNumber text → ArePlain text
plain_float text (negative, p, is, shaped) =
    let w = shaped.well_formed in
    let fraction = plain_if p.point (46 ∷ p.fraction) [] (λ _. (refl, plain_all_digits p.fraction w.fraction_digits)) (λ _. tt) in
    subst ArePlain (sym is)
    (plain_both (sign_text negative) (text_of p) (plain_sign negative)
    (plain_both p.whole _ (plain_all_digits p.whole w.whole_digits) (plain_both _ (exponent_text p.exponent_negative p.exponent) fraction (plain_exponent p.exponent_negative p.exponent w.exponent_digits))))

plain_other : (bits : ℕ) → ArePlain (other_double bits)
plain_other bits = plain_if (nat_eq bits 0x7ff0_0000_0000_0000) (codes "inf") _ (λ _. plain_known (codes "inf") refl)
    (λ _. plain_if (nat_eq bits 0xfff0_0000_0000_0000) (codes "-inf") (codes "nan") (λ _. plain_known (codes "-inf") refl) (λ _. plain_known (codes "nan") refl))

plain_double : (bits : ℕ) (text : List ℕ) (answer : Bool) → float_is_finite (from_bits binary64 bits) ≡ answer → IsBriefDouble bits text → ArePlain text
plain_double bits text true e is = plain_float text (is.finite e).0
plain_double bits text false e is = subst ArePlain (sym (is.other e)) (plain_other bits)

plain_coded : (k : NumberCode) (n : ℕ) (text : List ℕ) → IsBriefNumber k n text → ArePlain text
plain_coded DOUBLE n text is = plain_double n text _ refl is
plain_coded BYTE n text is = subst ArePlain (sym is) (plain_decimal n)
plain_coded BOOLEAN n text is = subst ArePlain (sym is) (plain_number BOOLEAN n (λ e. cc))
plain_coded INT16 n text is = subst ArePlain (sym is) (plain_number INT16 n (λ e. cc))
plain_coded UINT16 n text is = subst ArePlain (sym is) (plain_decimal n)
plain_coded INT32 n text is = subst ArePlain (sym is) (plain_number INT32 n (λ e. cc))
plain_coded UINT32 n text is = subst ArePlain (sym is) (plain_decimal n)
plain_coded INT64 n text is = subst ArePlain (sym is) (plain_number INT64 n (λ e. cc))
plain_coded UINT64 n text is = subst ArePlain (sym is) (plain_decimal n)
plain_coded UNIX_FD n text is = subst ArePlain (sym is) (plain_decimal n)

-- ---- texts

plain_encode : (c : ℕ) → IsPlain c → ArePlain (encode_utf8 c)
unfolding encode
plain_encode c h =
    let last : ArePlain ((128 + c % 64) ∷ []) = (beyond (128 + c % 64) (omega arith), tt) in
    let third : ArePlain ((128 + c / 64 % 64) ∷ (128 + c % 64) ∷ []) = (beyond (128 + c / 64 % 64) (omega arith), last) in
    plain_if (nat_lt c 128) (c ∷ []) _ (λ _. (h, tt)) (λ _. plain_if (nat_lt c 2048) ((192 + c / 64) ∷ (128 + c % 64) ∷ []) _ (λ _. (beyond (192 + c / 64) (omega arith), last))
    (λ _. plain_if (nat_lt c 65536) _ _ (λ _. (beyond (224 + c / 4096) (omega arith), third)) (λ _. (beyond (240 + c / 262144) (omega arith), (beyond (128 + c / 4096 % 64) (omega arith), third)))))

quote_plain : (c : ℕ) → is_quote c ≡ true → IsPlain c
quote_plain c is = grind (arith, nat_tests)

control_byte : (c : ℕ) → is_escaped Shown c ≡ true → c < 256
control_byte c is = grind (arith, nat_tests)

unescaped_plain : (c : ℕ) → is_escaped Shown c ≡ false → IsPlain c
unescaped_plain c is = grind (arith, nat_tests)

plain_escape : (c : ℕ) → is_escaped Shown c ≡ true → ArePlain (escape Shown c)
plain_escape c is = plain_if (is_quote c) (92 ∷ c ∷ []) (codes "\\x" ++ encode_lower (c ∷ [])) (λ q. (refl, (quote_plain c q, tt)))
    (λ _. plain_both (codes "\\x") (encode_lower (c ∷ [])) (plain_known (codes "\\x") refl) (plain_hex (c ∷ []) (control_byte c is, tt)))

plain_written : (c : ℕ) → ArePlain (cond (is_escaped Shown c) (escape Shown c) (encode_utf8 c))
plain_written c = plain_if (is_escaped Shown c) (escape Shown c) (encode_utf8 c) (plain_escape c) (λ no. plain_encode c (unescaped_plain c no))

pub plain_quoted : (text : List ℕ) → ArePlain (quoted text)
plain_quoted text = (refl, plain_both (escaped Shown text) (codes "\"" ++ []) (plain_flat _ plain_written (chars text)) (refl, tt))

-- ---- values

abbrev pub AllPlain : List (List ℕ) → Type 0
AllPlain texts = AllByRecursion ArePlain texts

plain_after : (separator : List ℕ) (texts : List (List ℕ)) → ArePlain separator → AllPlain texts → ArePlain (flat_map (λ t. separator ++ t) texts)
plain_after separator [] s h = tt
plain_after separator (t ∷ texts) s h = plain_both (separator ++ t) (flat_map (λ u. separator ++ u) texts) (plain_both separator t s h.0) (plain_after separator texts s h.1)

pub plain_joined : (texts : List (List ℕ)) → AllPlain texts → ArePlain (joined texts)
plain_joined [] h = tt
plain_joined (t ∷ texts) h = plain_both t (flat_map (λ u. codes ", " ++ u) texts) h.0 (plain_after (codes ", ") texts (plain_known (codes ", ") refl) h.1)

plain_bracketed : (before after : List ℕ) (texts : List (List ℕ)) → ArePlain before → ArePlain after → AllPlain texts → ArePlain (bracketed before after texts)
plain_bracketed before after texts p q h = plain_both before (joined texts ++ after) p (plain_both (joined texts) after (plain_joined texts h) q)

bytes_of : (depth : ℕ) (xs : ValueTrees) → AreWellFormed depth xs → AreBytes (bytes_in xs)
bytes_of depth NoValues h = tt
bytes_of depth (MoreValues (NumberValue BYTE n) xs) h = (h.0, bytes_of depth xs h.1)
bytes_of depth (MoreValues (NumberValue BOOLEAN n) xs) h = bytes_of depth xs h.1
bytes_of depth (MoreValues (NumberValue INT16 n) xs) h = bytes_of depth xs h.1
bytes_of depth (MoreValues (NumberValue UINT16 n) xs) h = bytes_of depth xs h.1
bytes_of depth (MoreValues (NumberValue INT32 n) xs) h = bytes_of depth xs h.1
bytes_of depth (MoreValues (NumberValue UINT32 n) xs) h = bytes_of depth xs h.1
bytes_of depth (MoreValues (NumberValue INT64 n) xs) h = bytes_of depth xs h.1
bytes_of depth (MoreValues (NumberValue UINT64 n) xs) h = bytes_of depth xs h.1
bytes_of depth (MoreValues (NumberValue DOUBLE n) xs) h = bytes_of depth xs h.1
bytes_of depth (MoreValues (NumberValue UNIX_FD n) xs) h = bytes_of depth xs h.1
bytes_of depth (MoreValues (TextValue k t) xs) h = bytes_of depth xs h.1
bytes_of depth (MoreValues (VariantValue x) xs) h = bytes_of depth xs h.1
bytes_of depth (MoreValues (ArrayValue t x) xs) h = bytes_of depth xs h.1
bytes_of depth (MoreValues (StructValue x) xs) h = bytes_of depth xs h.1
bytes_of depth (MoreValues (EntryValue x y) xs) h = bytes_of depth xs h.1

eq_or : (b : Bool) → (b ≡ true) ⊎ (b ≡ false)
eq_or true = inl refl
eq_or false = inr refl

mutual
  plain_brief : (depth : ℕ) (v : ValueTree) (text : List ℕ) → IsWellFormed depth v → IsBrief v text → ArePlain text
  plain_brief depth (NumberValue k n) text formed is = plain_coded k n text is
  plain_brief depth (TextValue k t) text formed is = subst ArePlain (sym is) (plain_quoted t)
  plain_brief zero (ArrayValue t xs) text formed is = absurd formed
  plain_brief (suc depth) (ArrayValue t xs) text formed is = elim (eq_or (is_byte t)) [
    | inl byte ↦ subst ArePlain (sym (is.0 byte)) (plain_both (codes "0x") (encode_lower (bytes_in xs)) (plain_known (codes "0x") refl) (plain_hex (bytes_in xs) (bytes_of depth xs formed.1)))
    | inr other ↦
        let items = is.1 other in
        subst ArePlain (sym items.2) (plain_bracketed (codes "[") (codes "]") items.0 (plain_known (codes "[") refl) (plain_known (codes "]") refl) (plain_briefs depth xs items.0 formed.1 items.1))
  ]
  plain_brief zero (StructValue xs) text formed is = absurd formed
  plain_brief (suc depth) (StructValue xs) text formed is =
      subst ArePlain (sym is.2) (plain_bracketed (codes "(") (codes ")") is.0 (plain_known (codes "(") refl) (plain_known (codes ")") refl) (plain_briefs depth xs is.0 formed is.1))
  plain_brief zero (EntryValue x y) text formed is =
      subst ArePlain (sym is.4) (plain_bracketed (codes "{") (codes "}") (is.0 ∷ is.1 ∷ []) (plain_known (codes "{") refl) (plain_known (codes "}") refl)
      (plain_brief zero x is.0 formed.0 is.2, (plain_brief zero y is.1 formed.1 is.3, tt)))
  plain_brief (suc depth) (EntryValue x y) text formed is =
      subst ArePlain (sym is.4) (plain_bracketed (codes "{") (codes "}") (is.0 ∷ is.1 ∷ []) (plain_known (codes "{") refl) (plain_known (codes "}") refl)
      (plain_brief (suc depth) x is.0 formed.0 is.2, (plain_brief (suc depth) y is.1 formed.1 is.3, tt)))
  plain_brief zero (VariantValue x) text formed is = absurd formed
  plain_brief (suc depth) (VariantValue x) text formed is =
      subst ArePlain (sym is.2) (plain_bracketed (codes "<") (codes ">") (is.0 ∷ []) (plain_known (codes "<") refl) (plain_known (codes ">") refl) (plain_brief depth x is.0 formed.1 is.1, tt))

  pub plain_briefs : (depth : ℕ) (xs : ValueTrees) (texts : List (List ℕ)) → AreWellFormed depth xs → AreBrief xs texts → AllPlain texts
  plain_briefs depth NoValues [] formed are = tt
  plain_briefs depth NoValues (t ∷ texts) formed are = absurd are
  plain_briefs depth (MoreValues x xs) [] formed are = absurd are
  plain_briefs depth (MoreValues x xs) (t ∷ texts) formed are = (plain_brief depth x t formed.0 are.0, plain_briefs depth xs texts formed.1 are.1)

-- ---- names and columns

AllPlain_if : (c : Bool) (a b : List (List ℕ)) → AllPlain a → AllPlain b → AllPlain (cond c a b)
AllPlain_if true a b p q = p
AllPlain_if false a b p q = q

plain_ends : (name : List ℕ) → ArePlain name → AllPlain (ends name)
plain_ends [] h = tt
plain_ends (b ∷ name) h = AllPlain_if (nat_eq b 46) (name ∷ ends name) (ends name) (h.1, plain_ends name h.1) (plain_ends name h.1)

plain_first : (most : ℕ) (none : List ℕ) (parts : List (List ℕ)) → ArePlain none → AllPlain parts → ArePlain (first_short most none parts)
plain_first most none [] p h = p
plain_first most none (part ∷ parts) p h = plain_if (nat_lt (length part) most) part (first_short most part parts) (λ _. h.0) (λ _. plain_first most part parts h.0 h.1)

plain_short : (most : ℕ) (name : List ℕ) → ArePlain name → ArePlain (short most name)
plain_short most name h = plain_if (nat_le (length name) most) name (codes "~" ++ first_short most name (ends name)) (λ _. h) (λ _. (refl, plain_first most name (ends name) h (plain_ends name h)))

plain_right : (n : ℕ) (text : List ℕ) → ArePlain text → ArePlain (right n text)
plain_right n text h = plain_both (replicate (n - length text) 32) text (plain_spaces (n - length text)) h

plain_with : (line : ℕ) (name known : List ℕ) → ArePlain name → ArePlain known → ArePlain (with_known line name known)
plain_with line name known h k =
    plain_if (nat_le (length known) (known_room line name)) (name ++ (codes "(" ++ (known ++ codes ")"))) (short (name_cells line) name)
    (λ _. plain_both name (codes "(" ++ (known ++ codes ")")) h (refl, plain_both known (codes ")") k (refl, tt))) (λ _. plain_short (name_cells line) name h)

plain_connection : (line : ℕ) (name : List ℕ) (known : Option (List ℕ)) → ArePlain name → IsNameKnown known → ArePlain (connection line name known)
plain_connection line name None h k = plain_short (name_cells line) name h
plain_connection line name (Some known) h k = plain_with line name (short (known_room line name) known) h (plain_short (known_room line name) known (plain_range known (bus_printed known k.0)))

plain_column : (line : ℕ) (name : List ℕ) (known : Option (List ℕ)) → ArePlain name → IsNameKnown known → ArePlain (column line name known)
plain_column line name known h k =
    let text = connection line name known in
    plain_both text (replicate (name_column line - length text) 32) (plain_connection line name known h k) (plain_spaces (name_column line - length text))

digit_drawn : (n power : ℕ) → IsPlain (digit_at n power)
digit_drawn n power = above (digit_at n power) (omega arith) (omega arith)

plain_two : (n : ℕ) → ArePlain (two_digits n)
plain_two n = (digit_drawn n 10, (digit_drawn n 1, tt))

plain_clock : (t : ℕ) → ArePlain (clock t)
plain_clock t =
    let ms = t / 1000000 % 1000 in
    let last = codes "." ++ three_digits ms in
    let seconds = codes ":" ++ (two_digits (t / 1000000000 % 60) ++ last) in
    let minutes = codes ":" ++ (two_digits (t / 60000000000 % 60) ++ seconds) in
    plain_both (two_digits (t / 3600000000000 % 24)) minutes (plain_two (t / 3600000000000 % 24)) (
      refl,
      plain_both (two_digits (t / 60000000000 % 60)) seconds (plain_two (t / 60000000000 % 60)) (
        refl,
        plain_both (two_digits (t / 1000000000 % 60)) last (plain_two (t / 1000000000 % 60)) (refl, (digit_drawn ms 100, plain_two ms)),
      ),
    )

plain_time : (time : Option ℕ) → ArePlain (time_part time)
plain_time None = tt
plain_time (Some t) = plain_both (clock t) (codes " ") (plain_clock t) (refl, tt)

plain_took : (took : Option Elapsed) → ArePlain (took_text took)
plain_took None = tt
plain_took (Some e) =
    let thousands = e.nanoseconds / 1000 in
    let digits : ArePlain (codes "." ++ took_digits thousands) = (refl, (digit_drawn thousands 100, (digit_drawn thousands 10, (digit_drawn thousands 1, tt)))) in
    let number = plain_both (decimal (e.nanoseconds / 1000000)) _ (plain_decimal (e.nanoseconds / 1000000)) digits in
    let signed = plain_both (sign e.backwards) _ (plain_if e.backwards (codes "-") [] (λ _. (refl, tt)) (λ _. tt)) number in
    (refl, plain_both (milliseconds_text e) (codes " ms") signed (plain_known (codes " ms") refl))

plain_known_call : (call : ToldCall) → ArePlain call.member → ArePlain (known_part call)
plain_known_call call h = (refl, plain_both (decimal call.number) _ (plain_decimal call.number) (refl, plain_both call.member (took_text call.took) h (plain_took call.took)))

plain_sigs : (ts : TypeTrees) → ArePlain (sigs ts)
plain_sigs = sigs_hold ArePlain tt (λ c low high. (above c (omega (arith, low)) (omega (arith, high)), tt)) plain_both

plain_or : (text : Option (List ℕ)) (other : List ℕ) → ArePlain (or_dash text) → ArePlain other → ArePlain (unwrap_or text other)
plain_or None other h k = k
plain_or (Some text) other h k = h

plain_interface : (line : ℕ) (interface : Option (List ℕ)) → ArePlain (or_dash interface) → ArePlain (interface_part line interface)
plain_interface line None h = tt
plain_interface line (Some interface) h = plain_both (short (name_cells line) interface) (codes ".") (plain_short (name_cells line) interface h) (refl, tt)

-- ---- a message

module _ (limits : Limits) (order : Order) (m : MessageTree) (is : IsMessage limits order m) (line : ℕ) where
  plain_member : ArePlain (member_of line m)
  plain_member =
      let types = sigs (types_of m.body) ++ codes ")" in
      let name = or_dash (text_at field.MEMBER m) in
      plain_both (interface_part line (text_at field.INTERFACE m)) (name ++ (codes "(" ++ types)) (plain_interface line (text_at field.INTERFACE m) (plain_range _ (interface_is_printed limits order m is)))
      (plain_both name (codes "(" ++ types) (plain_range name (member_is_printed limits order m is)) (refl, plain_both (sigs (types_of m.body)) (codes ")") (plain_sigs (types_of m.body)) (refl, tt)))

  plain_answered : (answered : Option ToldCall) → IsCallWithin limits answered → ArePlain (answered_part answered m)
  plain_answered None within = plain_both (codes "serial ") (decimal (reply_serial_of m)) (plain_known (codes "serial ") refl) (plain_decimal (reply_serial_of m))
  plain_answered (Some told) within = plain_known_call told (subst (λ (call : ToldCall). ArePlain call.member) (sym within.4) (plain_range _ (member_is_printed limits within.0 within.1.message within.3)))

  plain_error : (answered : Option ToldCall) → IsCallWithin limits answered → ArePlain (error_part line answered m)
  plain_error answered within = plain_both (short (name_cells line) (or_dash (text_at field.ERROR_NAME m))) _ (plain_short (name_cells line) _ (plain_range _ (error_printed limits order m is)))
      (plain_both (codes " to ") (answered_part answered m) (plain_known (codes " to ") refl) (plain_answered answered within))

  plain_call : ArePlain (call_part line m)
  plain_call = plain_if (wants_reply m) (member_of line m) (member_of line m ++ codes " no reply wanted") (λ _. plain_member)
      (λ _. plain_both (member_of line m) (codes " no reply wanted") plain_member (plain_known (codes " no reply wanted") refl))

  plain_about : (kind : ℕ) (answered : Option ToldCall) → IsCallWithin limits answered → ArePlain (about_kind kind line answered m)
  plain_about kind answered within =
      plain_if (kind == message.METHOD_CALL) (call_part line m) _ (λ _. plain_call)
      (λ _. plain_if (kind == message.METHOD_RETURN) (codes "reply to " ++ answered_part answered m) _ (λ _. plain_both (codes "reply to ") (answered_part answered m) (plain_known (codes "reply to ") refl) (plain_answered answered within))
      (λ _. plain_if (kind == message.ERROR) (codes "error " ++ error_part line answered m) _ (λ _. plain_both (codes "error ") (error_part line answered m) (plain_known (codes "error ") refl) (plain_error answered within))
      (λ _. plain_if (kind == message.SIGNAL) (codes "signal " ++ member_of line m) (codes "type " ++ (decimal kind ++ (codes " " ++ member_of line m)))
      (λ _. plain_both (codes "signal ") (member_of line m) (plain_known (codes "signal ") refl) plain_member)
      (λ _. plain_both (codes "type ") _ (plain_known (codes "type ") refl) (plain_both (decimal kind) (codes " " ++ member_of line m) (plain_decimal kind) (refl, plain_member))))))

  plain_nobody : (kind : ℕ) → ArePlain (nobody kind)
  plain_nobody kind = plain_if (kind == message.SIGNAL) (codes "*") (codes "-") (λ _. (refl, tt)) (λ _. (refl, tt))

  plain_columns : (place : LinePlace) (told : Told) → IsToldWithin limits told → ArePlain (columns line place told order m)
  plain_columns place told within =
      let bytes = decimal (length (message_bytes order m)) in
      let to = unwrap_or (destination_of m) (nobody m.kind) in
      let destination = column line to told.destination ++ codes " " in
      let from = or_dash (sender_of m) in
      let sender = column line from told.sender ++ (codes " > " ++ destination) in
      let size = right 5 bytes ++ (codes " " ++ sender) in
      let named = plain_column line to told.destination (plain_or (destination_of m) (nobody m.kind) (plain_range _ (destination_printed limits order m is)) (plain_nobody m.kind)) within.2 in
      plain_both (right 4 (decimal place.number)) (codes " " ++ (time_part place.time ++ size)) (plain_right 4 (decimal place.number) (plain_decimal place.number)) (
        refl,
        plain_both (time_part place.time) size (plain_time place.time)
            (plain_both (right 5 bytes) (codes " " ++ sender) (plain_right 5 bytes (plain_decimal (length (message_bytes order m)))) (
              refl,
              plain_both (column line from told.sender) (codes " > " ++ destination) (plain_column line from told.sender (plain_range _ (sender_printed limits order m is)) within.1)
                  (plain_both (codes " > ") destination (plain_known (codes " > ") refl) (plain_both (column line to told.destination) (codes " ") named (refl, tt))),
            )),
      )

  plain_led : (values : List (List ℕ)) → AllPlain values → ArePlain (led (codes " ") (codes ", ") values)
  plain_led [] h = tt
  plain_led (value ∷ values) h = (refl, plain_joined (value ∷ values) h)

  pub plain_text : (place : LinePlace) (told : Told) (text : List ℕ) → IsToldWithin limits told → IsListed line place told order m text → ArePlain text
  plain_text place told text within h = subst ArePlain (sym h.is)
      (plain_both (columns line place told order m) _ (plain_columns place told within) (plain_both (about line told.answered m) _ (plain_about m.kind told.answered within.0) (plain_led h.values (plain_briefs limits.depth m.body h.values is.formed_body h.brief))))

-- ---- characters

plain_drop : (a b : List ℕ) → ArePlain (a ++ b) → ArePlain b
plain_drop [] b h = h
plain_drop (c ∷ a) b h = plain_drop a b h.1

-- the characters of bytes that are plain
pub plain_chars : (cs : List ℕ) → ArePlain (encode_utf8_all cs) → ArePlain cs
plain_chars [] h = tt
plain_chars (c ∷ cs) h = elim (cases_lt c 128) [
  | inl low ↦ let all = subst (λ (t : List ℕ). ArePlain (t ++ encode_utf8_all cs)) (encode_ascii c low) h in (all.0, plain_chars cs all.1)
  | inr high ↦ (beyond c high, plain_chars cs (plain_drop (encode_utf8 c) (encode_utf8_all cs) h))
]

hex_plain : (place c : ℕ) → IsPlain (hex_digit_at place c)
hex_plain place c = grind (arith, nat_tests)

abbrev places_text : ℕ → List ℕ → List ℕ
places_text c places = 92 ∷ 117 ∷ 123 ∷ (map (λ p. hex_digit_at p c) places ++ 125 ∷ [])

plain_places : (c : ℕ) (places : List ℕ) → ArePlain (map (λ p. hex_digit_at p c) places ++ 125 ∷ [])
plain_places c [] = (refl, tt)
plain_places c (p ∷ places) = (hex_plain p c, plain_places c places)

spelled : (c : ℕ) (places : List ℕ) → ArePlain (places_text c places)
spelled c places = (refl, (refl, (refl, plain_places c places)))

pub plain_unicode : (c : ℕ) → ArePlain (escape_unicode c)
plain_unicode c =
    plain_if (nat_lt c 0x10) (places_text c (1 ∷ [])) _ (λ _. spelled c (1 ∷ []))
    (λ _. plain_if (nat_lt c 0x100) (places_text c (0x10 ∷ 1 ∷ [])) _ (λ _. spelled c (0x10 ∷ 1 ∷ []))
    (λ _. plain_if (nat_lt c 0x1000) (places_text c (0x100 ∷ 0x10 ∷ 1 ∷ [])) _ (λ _. spelled c (0x100 ∷ 0x10 ∷ 1 ∷ []))
    (λ _. plain_if (nat_lt c 0x1_0000) (places_text c (0x1000 ∷ 0x100 ∷ 0x10 ∷ 1 ∷ [])) _ (λ _. spelled c (0x1000 ∷ 0x100 ∷ 0x10 ∷ 1 ∷ []))
    (λ _. plain_if (nat_lt c 0x10_0000) (places_text c (0x1_0000 ∷ 0x1000 ∷ 0x100 ∷ 0x10 ∷ 1 ∷ [])) (places_text c (0x10_0000 ∷ 0x1_0000 ∷ 0x1000 ∷ 0x100 ∷ 0x10 ∷ 1 ∷ []))
    (λ _. spelled c (0x1_0000 ∷ 0x1000 ∷ 0x100 ∷ 0x10 ∷ 1 ∷ [])) (λ _. spelled c (0x10_0000 ∷ 0x1_0000 ∷ 0x1000 ∷ 0x100 ∷ 0x10 ∷ 1 ∷ []))))))
