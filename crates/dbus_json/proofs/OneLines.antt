-- The JSON of a message has no line feed but its last byte.
use Rattle.std.proofs.Common.{◌≡◌, ◌≢◌, ℕ, ◌<◌, ◌/◌, ◌⊎◌, inl, inr, Bool, true, false, List, [], ◌∷◌, ◌++◌, length, Option, Some, None, IfSome, option_map, map, codes, decimal, from_bits, refl, sym, subst, arith, ap, ◌∙◌, append-nil, append_assoc}
use Rattle.std.specs.Char.{digit_value}
use Rattle.std.specs.Float.{binary64, float_is_finite}
use Rattle.std.specs.Float.Numeral.{exponent_text, text_of}
use Rattle.std.specs.Fmt.{sign_text}
use Rattle.std.specs.List.{flat_map}
use Rattle.std.specs.Str.Parse.{AllDigits}
use Rattle.std.proofs.lemmas.List.Concat.{flat_map-append}
use Rattle.hex.specs.Hex.{encode_lower}
use Rattle.ryu.specs.Plain.{IsPlainNumber}
use Rattle.dbus_texts.specs.Types.{NumberCode, INT64, UINT64, DOUBLE, sig}
use Rattle.dbus_texts.specs.PlainTypes.{is_byte}
use Rattle.dbus_value_model.specs.declared.order.Order.TheVariants.{Big}
use Rattle.dbus_value_model.specs.Bytes.{num}
use Rattle.dbus_value_model.specs.Values.{ValueTree, ValueTrees, NumberValue, TextValue, VariantValue, ArrayValue, StructValue, EntryValue, NoValues, MoreValues, type_of}
use Rattle.dbus_message_model.specs.Messages.{FieldTree, order_byte, message_bytes, MessageTree}
use Rattle.dbus_message_model.specs.MessageTypes.{type_name}
use Rattle.dbus_show.specs.ShownMessages.{line_feeds, field_name}
use Rattle.dbus_show.specs.declared.escapes.Escapes.TheVariants.{Json}
use Rattle.dbus_show.specs.ShownValues.{number_text, bytes_in}
use Rattle.dbus_show.proofs.LineFeeds.{IsOneLine, AreLines, line_literal, line_append, line_cons, line_either, line_decimal, line_hex, line_number, line_quoted, line_sig, between}
use Rattle.dbus_show.proofs.FieldTexts.{name_line, line_or, type_name_line, order_line}
use Rattle.dbus_value_model.specs.declared.order.Order.{Order}
use Rattle.dbus_validate.specs.declared.validating.Validated.{Validated}
use Rattle.dbus_value_text.specs.Forms.{AreFieldTexts, led}
use Rattle.dbus_json.specs.declared.integers.Integers.{Integers}
use Rattle.dbus_json.specs.JsonIntegers.{may_be_number, wide_size}
use Rattle.dbus_json.specs.JsonValues.{plain, string, listed, array, member, object, IsDouble, IsNumber, IsJson, AreJson, wide_text}
use Rattle.dbus_json.specs.Times.{digit_at, powers, fraction_digits, seconds_text, time_members}
use Rattle.dbus_json.specs.declared.place.LinePlace.{LinePlace}
use Rattle.dbus_json.specs.JsonMessages.{type_text, IsKnown, IsOther, known_fields, other_fields, is_before_known, place_members, first_members, IsOneLineEach, start_text, front_members, head_members, fields_text}

-- ---- the parts of JSON

plain_line : (t : List ℕ) → IsOneLine t → IsOneLine (plain t)
plain_line t h = between (codes "\"") t (codes "\"") refl h refl

after_line : (ts : List (List ℕ)) → AreLines ts → IsOneLine (flat_map (λ t. codes "," ++ t) ts)
after_line [] h = line_literal [] refl
after_line (t ∷ ts) h = line_append (codes "," ++ t) (flat_map (λ t. codes "," ++ t) ts) (line_cons 44 t (λ e. omega arith) h.0) (after_line ts h.1)

listed_line : (ts : List (List ℕ)) → AreLines ts → IsOneLine (listed ts)
listed_line [] h = line_literal [] refl
listed_line (t ∷ ts) h = line_append t (flat_map (λ t. codes "," ++ t) ts) h.0 (after_line ts h.1)

array_line : (items : List (List ℕ)) → AreLines items → IsOneLine (array items)
array_line items h = between (codes "[") (listed items) (codes "]") refl (listed_line items h) refl

member_line : (name value : List ℕ) → IsOneLine name → IsOneLine value → IsOneLine (member name value)
member_line name value n h = line_append (plain name) (codes ":" ++ value) (plain_line name n) (line_cons 58 value (λ e. omega arith) h)

object_line : (members : List (List ℕ)) → AreLines members → IsOneLine (object members)
object_line members h = between (codes "{") (listed members) (codes "}") refl (listed_line members h) refl

lines_append : (ss ts : List (List ℕ)) → AreLines ss → AreLines ts → AreLines (ss ++ ts)
lines_append [] ts g h = h
lines_append (s ∷ ss) ts g h = (g.0, lines_append ss ts g.1 h)

-- ---- numbers

digit_other : (c : ℕ) → digit_value c < 10 → c ≢ 10
digit_other c h e = let feed : digit_value 10 < 10 = subst (λ (b : ℕ). digit_value b < 10) e h in omega arith

digits_line : (ds : List ℕ) → AllDigits 10 ds → IsOneLine ds
digits_line [] h = line_literal [] refl
digits_line (c ∷ ds) h = line_cons c ds (digit_other c h.0) (digits_line ds h.1)

sign_line : (negative : Bool) → IsOneLine (sign_text negative)
sign_line negative = line_either negative (codes "-") [] (line_literal (codes "-") refl) (line_literal [] refl)

exponent_line : (negative : Bool) (ds : List ℕ) → AllDigits 10 ds → IsOneLine (exponent_text negative ds)
exponent_line negative [] h = line_literal [] refl
exponent_line negative (d ∷ ds) h = line_cons 101 (sign_text negative ++ d ∷ ds) (λ e. omega arith) (line_append (sign_text negative) (d ∷ ds) (sign_line negative) (digits_line (d ∷ ds) h))

number_line : (text : List ℕ) → IsPlainNumber text → IsOneLine text
number_line text (negative, p, is, shaped) =
    let w = shaped.well_formed in
    let fraction = line_either p.point (46 ∷ p.fraction) [] (line_cons 46 p.fraction (λ e. omega arith) (digits_line p.fraction w.fraction_digits)) (line_literal [] refl) in
    subst IsOneLine (sym is)
    (line_append (sign_text negative) (text_of p) (sign_line negative) (line_append p.whole _ (digits_line p.whole w.whole_digits) (line_append _ (exponent_text p.exponent_negative p.exponent) fraction (exponent_line p.exponent_negative p.exponent w.exponent_digits))))

double_line : (bits : ℕ) (text : List ℕ) (answer : Bool) → float_is_finite (from_bits binary64 bits) ≡ answer → IsDouble bits text → IsOneLine text
double_line bits text true e is = number_line text (is.finite e).0
double_line bits text false e is = subst IsOneLine (sym (is.other e)) (plain_line (encode_lower (num Big 8 bits)) (line_hex (num Big 8 bits)))

wide_line : (integers : Integers) (k : NumberCode) (n : ℕ) → IsOneLine (wide_text integers k n)
wide_line integers k n = line_either (may_be_number integers (wide_size k n)) (number_text k n) (plain (number_text k n)) (line_number k n) (plain_line (number_text k n) (line_number k n))

coded_line : (integers : Integers) (k : NumberCode) (n : ℕ) (text : List ℕ) → IsNumber integers k n text → IsOneLine text
coded_line integers DOUBLE n text is = double_line n text _ refl is
coded_line integers INT64 n text is = subst IsOneLine (sym is) (wide_line integers INT64 n)
coded_line integers UINT64 n text is = subst IsOneLine (sym is) (wide_line integers UINT64 n)
coded_line integers k n text is = subst IsOneLine (sym is) (line_number k n)

-- ---- values

eq_or : (b : Bool) → (b ≡ true) ⊎ (b ≡ false)
eq_or true = inl refl
eq_or false = inr refl

string_line : (t : List ℕ) → IsOneLine (string t)
string_line t = line_quoted Json refl t

mutual
  json_line : (integers : Integers) (v : ValueTree) (text : List ℕ) → IsJson integers v text → IsOneLine text
  json_line integers (NumberValue k n) text is = coded_line integers k n text is
  json_line integers (TextValue k t) text is = subst IsOneLine (sym is) (string_line t)
  json_line integers (ArrayValue t xs) text is =
      elim (eq_or (is_byte t)) [
        | inl byte ↦ subst IsOneLine (sym (is.0 byte)) (plain_line (encode_lower (bytes_in xs)) (line_hex (bytes_in xs)))
        | inr other ↦ let items = is.1 other in subst IsOneLine (sym items.2) (array_line items.0 (jsons_line integers xs items.0 items.1))
      ]
  json_line integers (StructValue xs) text is = subst IsOneLine (sym is.2) (array_line is.0 (jsons_line integers xs is.0 is.1))
  json_line integers (EntryValue x y) text is = subst IsOneLine (sym is.4) (array_line (is.0 ∷ is.1 ∷ []) (json_line integers x is.0 is.2, (json_line integers y is.1 is.3, tt)))
  json_line integers (VariantValue x) text is =
      let type = member_line (codes "type") (plain (sig (type_of x))) (line_literal (codes "type") refl) (plain_line (sig (type_of x)) (line_sig (type_of x))) in
      let value = member_line (codes "value") is.0 (line_literal (codes "value") refl) (json_line integers x is.0 is.1) in
      subst IsOneLine (sym is.2) (object_line (member (codes "type") (plain (sig (type_of x))) ∷ member (codes "value") is.0 ∷ []) (type, (value, tt)))

  jsons_line : (integers : Integers) (xs : ValueTrees) (texts : List (List ℕ)) → AreJson integers xs texts → AreLines texts
  jsons_line integers NoValues [] are = tt
  jsons_line integers NoValues (t ∷ texts) are = absurd are
  jsons_line integers (MoreValues x xs) [] are = absurd are
  jsons_line integers (MoreValues x xs) (t ∷ texts) are = (json_line integers x t are.0, jsons_line integers xs texts are.1)

-- ---- fields and messages

count_line : (name : List ℕ) → line_feeds name ≡ 0 → (n : ℕ) → IsOneLine (member name (decimal n))
count_line name h n = member_line name (decimal n) (line_literal name h) (line_decimal n)

known_line : (integers : Integers) (ps : List (ℕ × FieldTree)) (texts : List (List ℕ)) → AreFieldTexts (λ _ code v text. IsKnown integers code v text) ps texts → AreLines texts
known_line integers [] [] are = tt
known_line integers [] (t ∷ texts) are = absurd are
known_line integers (p ∷ ps) [] are = absurd are
known_line integers (p ∷ ps) (t ∷ texts) are =
    let line = member_line (field_name p.1.code) are.0.value (name_line p.1.code) (json_line integers p.1.value are.0.value are.0.json) in
    (subst IsOneLine (sym are.0.is) line, known_line integers ps texts are.1)

place_line : (before_known : Bool) (place : ℕ) → AreLines (place_members before_known place)
place_line true place = (count_line (codes "place") refl place, tt)
place_line false place = tt

other_line : (integers : Integers) (before_known : Bool) (place code : ℕ) (v : ValueTree) (text : List ℕ) → IsOther integers before_known place code v text → IsOneLine text
other_line integers before_known place code v text is =
    let typed = member_line (codes "type") (plain (sig (type_of v))) (line_literal (codes "type") refl) (plain_line (sig (type_of v)) (line_sig (type_of v))) in
    let valued = member_line (codes "value") is.value (line_literal (codes "value") refl) (json_line integers v is.value is.json) in
    subst IsOneLine (sym is.is) (object_line (member (codes "code") (decimal code) ∷ member (codes "type") (plain (sig (type_of v))) ∷ member (codes "value") is.value ∷ place_members before_known place) (count_line (codes "code") refl code, (typed, (valued, place_line before_known place))))

others_line : (integers : Integers) (is_before : ℕ → Bool) (ps : List (ℕ × FieldTree)) (texts : List (List ℕ)) → AreFieldTexts (λ place code v text. IsOther integers (is_before place) place code v text) ps texts → AreLines texts
others_line integers is_before [] [] are = tt
others_line integers is_before [] (t ∷ texts) are = absurd are
others_line integers is_before (p ∷ ps) [] are = absurd are
others_line integers is_before (p ∷ ps) (t ∷ texts) are = (other_line integers (is_before p.0) p.0 p.1.code p.1.value t are.0, others_line integers is_before ps texts are.1)

plain_name : (name : Option (List ℕ)) → IfSome name IsOneLine → IfSome (option_map plain name) IsOneLine
plain_name (Some text) h = plain_line text h
plain_name None h = tt

type_line : (kind : ℕ) → IsOneLine (type_text kind)
type_line kind = line_or (option_map plain (type_name kind)) (decimal kind) (plain_name (type_name kind) (type_name_line kind)) (line_decimal kind)

places_line : (n : ℕ) (powers : List ℕ) → IsOneLine (map (digit_at n) powers)
places_line n [] = line_literal [] refl
places_line n (power ∷ powers) = line_cons (digit_at n power) (map (digit_at n) powers) (λ e. omega arith) (places_line n powers)

time_line : (time : Option ℕ) → AreLines (time_members time)
time_line None = tt
time_line (Some n) =
    let fraction = line_cons 46 (fraction_digits n) (λ e. omega arith) (places_line n powers) in
    let seconds = line_append (decimal (n / 1000000000)) (46 ∷ fraction_digits n) (line_decimal (n / 1000000000)) fraction in
    (member_line (codes "time") (plain (seconds_text n)) (line_literal (codes "time") refl) (plain_line (seconds_text n) seconds), tt)

-- those of the first members that stand after the time
abbrev pub last_members : Order → (size kind flags serial : ℕ) → List (List ℕ)
last_members order size kind flags serial = member (codes "length") (decimal size) ∷ head_members order kind flags serial

pub one_line_each : IsOneLineEach
one_line_each integers order m place text is =
    let size = length (message_bytes order m) in
    let front = first_members place order size m.kind m.flags m.serial in
    let back = member (codes "fields") (array is.others) ∷ member (codes "body") (array is.values) ∷ [] in
    let rest : AreLines (last_members order size m.kind m.flags m.serial) = (
      count_line (codes "length") refl size,
      (
        member_line (codes "order") (plain (order_byte order ∷ [])) (line_literal (codes "order") refl) (plain_line (order_byte order ∷ []) (order_line order)),
        (
          member_line (codes "type") (type_text m.kind) (line_literal (codes "type") refl) (type_line m.kind),
          (count_line (codes "flags") refl m.flags, (count_line (codes "serial") refl m.serial, tt)),
        ),
      ),
    ) in
    let timed = lines_append (time_members place.time) (last_members order size m.kind m.flags m.serial) (time_line place.time) rest in
    let first : AreLines front = (count_line (codes "number") refl place.number, (count_line (codes "offset") refl place.offset, timed)) in
    let known = known_line integers (known_fields m.fields) is.known is.knows in
    let others = member_line (codes "fields") (array is.others) (line_literal (codes "fields") refl) (array_line is.others (others_line integers (is_before_known m.fields) (other_fields m.fields) is.others is.other)) in
    let body = member_line (codes "body") (array is.values) (line_literal (codes "body") refl) (array_line is.values (jsons_line integers m.body is.values is.body)) in
    let last : AreLines back = (others, (body, tt)) in
    let line = object_line (front ++ (is.known ++ back)) (lines_append front (is.known ++ back) first (lines_append is.known back known last)) in
    (object (front ++ (is.known ++ back)), is.is, line.none)

-- A line by its parts, as they are written.

abbrev more : List (List ℕ) → List ℕ
more texts = flat_map (λ (y : List ℕ). codes "," ++ y) texts

listed_led : (texts : List (List ℕ)) → listed texts ≡ led [] (codes ",") texts
listed_led [] = refl
listed_led (t ∷ texts) = refl

led_more : (texts : List (List ℕ)) → led (codes ",") (codes ",") texts ≡ more texts
led_more [] = refl
led_more (t ∷ texts) = refl

parts_joined : (first known others values : List ℕ)
    → (codes "{" ++ first) ++ (known ++ (codes ",\"fields\":[" ++ (others ++ (codes "],\"body\":[" ++ (values ++ codes "]}\n")))))
    ≡ (codes "{" ++ ((first ++ (known ++ (codes ",\"fields\":[" ++ ((others ++ codes "]") ++ (codes ",\"body\":[" ++ (values ++ codes "]")))))) ++ codes "}")) ++ codes "\n"
parts_joined first known others values = simp append_assoc

fields_joined : (start known others values : List ℕ)
    → start ++ ((known ++ (codes ",\"fields\":[" ++ (others ++ codes "]"))) ++ (codes ",\"body\":[" ++ (values ++ codes "]}\n")))
    ≡ start ++ (known ++ (codes ",\"fields\":[" ++ (others ++ (codes "],\"body\":[" ++ (values ++ codes "]}\n")))))
fields_joined start known others values = simp append_assoc

pub line_is : (t : List ℕ) (ts known others values : List (List ℕ))
    → (codes "{" ++ listed (t ∷ ts)) ++ (fields_text known others ++ (codes ",\"body\":[" ++ (led [] (codes ",") values ++ codes "]}\n")))
    ≡ object ((t ∷ ts) ++ (known ++ (member (codes "fields") (array others) ∷ member (codes "body") (array values) ∷ []))) ++ codes "\n"
line_is t ts known others values =
    let y = λ (x : List ℕ). codes "," ++ x in
    let two = member (codes "fields") (array others) ∷ member (codes "body") (array values) ∷ [] in
    let last : more two ≡ codes ",\"fields\":[" ++ ((listed others ++ codes "]") ++ (codes ",\"body\":[" ++ (listed values ++ codes "]"))) = simp append-nil in
    let all : listed ((t ∷ ts) ++ (known ++ two)) ≡ listed (t ∷ ts) ++ (more known ++ (codes ",\"fields\":[" ++ ((listed others ++ codes "]") ++ (codes ",\"body\":[" ++ (listed values ++ codes "]"))))) =
    ap (λ (s : List ℕ). t ++ s) (flat_map-append y ts (known ++ two) ∙ ap (λ (s : List ℕ). more ts ++ s) (flat_map-append y known two ∙ ap (λ (s : List ℕ). more known ++ s) last))
    ∙ sym (append_assoc t (more ts) (more known ++ (codes ",\"fields\":[" ++ ((listed others ++ codes "]") ++ (codes ",\"body\":[" ++ (listed values ++ codes "]")))))) in
    fields_joined (codes "{" ++ listed (t ∷ ts)) (led (codes ",") (codes ",") known) (led [] (codes ",") others) (led [] (codes ",") values)
    ∙ ap (λ (s : List ℕ). (codes "{" ++ listed (t ∷ ts)) ++ (s ++ (codes ",\"fields\":[" ++ (led [] (codes ",") others ++ (codes "],\"body\":[" ++ (led [] (codes ",") values ++ codes "]}\n")))))) (led_more known)
    ∙ ap (λ (s : List ℕ). (codes "{" ++ listed (t ∷ ts)) ++ (more known ++ (codes ",\"fields\":[" ++ (s ++ (codes "],\"body\":[" ++ (led [] (codes ",") values ++ codes "]}\n")))))) (sym (listed_led others))
    ∙ ap (λ (s : List ℕ). (codes "{" ++ listed (t ∷ ts)) ++ (more known ++ (codes ",\"fields\":[" ++ (listed others ++ (codes "],\"body\":[" ++ (s ++ codes "]}\n")))))) (sym (listed_led values))
    ∙ parts_joined (listed (t ∷ ts)) (more known) (listed others) (listed values)
    ∙ ap (λ (s : List ℕ). (codes "{" ++ (s ++ codes "}")) ++ codes "\n") (sym all)

-- the flags and the serial stand behind the order and the type
pub head_is : (order : Order) (kind flags serial : ℕ) → listed (front_members order kind) ++ (codes ",\"flags\":" ++ (decimal flags ++ (codes ",\"serial\":" ++ (decimal serial ++ [])))) ≡ listed (head_members order kind flags serial)
head_is order kind flags serial =
    let more = codes ",\"flags\":" ++ (decimal flags ++ (codes ",\"serial\":" ++ (decimal serial ++ []))) in
    ap (λ (s : List ℕ). codes "\"order\":\"" ++ (order_byte order ∷ (codes "\",\"type\":" ++ s))) (append_assoc (type_text kind) [] more)

-- a header by its parts, as they are written
header_joined : (first known others : List ℕ)
    → codes "{" ++ (first ++ ((known ++ (codes ",\"fields\":[" ++ (others ++ codes "]"))) ++ codes "}"))
    ≡ codes "{" ++ ((first ++ (known ++ (codes ",\"fields\":[" ++ (others ++ codes "]")))) ++ codes "}")
header_joined first known others = simp append_assoc

pub header_is : (t : List ℕ) (ts known others : List (List ℕ))
    → codes "{" ++ (listed (t ∷ ts) ++ (fields_text known others ++ codes "}")) ≡ object ((t ∷ ts) ++ (known ++ (member (codes "fields") (array others) ∷ [])))
header_is t ts known others =
    let y = λ (x : List ℕ). codes "," ++ x in
    let one = member (codes "fields") (array others) ∷ [] in
    let last : more one ≡ codes ",\"fields\":[" ++ (listed others ++ codes "]") = simp append-nil in
    let all : listed ((t ∷ ts) ++ (known ++ one)) ≡ listed (t ∷ ts) ++ (more known ++ (codes ",\"fields\":[" ++ (listed others ++ codes "]"))) =
    ap (λ (s : List ℕ). t ++ s) (flat_map-append y ts (known ++ one) ∙ ap (λ (s : List ℕ). more ts ++ s) (flat_map-append y known one ∙ ap (λ (s : List ℕ). more known ++ s) last))
    ∙ sym (append_assoc t (more ts) (more known ++ (codes ",\"fields\":[" ++ (listed others ++ codes "]")))) in
    ap (λ (s : List ℕ). codes "{" ++ (listed (t ∷ ts) ++ ((s ++ (codes ",\"fields\":[" ++ (led [] (codes ",") others ++ codes "]"))) ++ codes "}"))) (led_more known)
    ∙ ap (λ (s : List ℕ). codes "{" ++ (listed (t ∷ ts) ++ ((more known ++ (codes ",\"fields\":[" ++ (s ++ codes "]"))) ++ codes "}"))) (sym (listed_led others))
    ∙ header_joined (listed (t ∷ ts)) (more known) (listed others)
    ∙ ap (λ (s : List ℕ). codes "{" ++ (s ++ codes "}")) (sym all)

-- what is written of the time and of what stands after it
pub before_rest : (time : Option ℕ) (rest : List (List ℕ)) → led (codes ",") (codes ",") (time_members time) ++ more rest ≡ more (time_members time ++ rest)
before_rest time rest =
    ap (λ (s : List ℕ). s ++ more rest) (led_more (time_members time))
    ∙ sym (flat_map-append (λ (x : List ℕ). codes "," ++ x) (time_members time) rest)

-- those of the first members that stand after the number
abbrev pub later_members : LinePlace → Order → (size kind flags serial : ℕ) → List (List ℕ)
later_members place order size kind flags serial =
    member (codes "offset") (decimal place.offset) ∷ (time_members place.time ++ last_members order size kind flags serial)

pub start_is : (j : Validated) (m : MessageTree) (place : LinePlace) → j.length ≡ length (message_bytes j.order m) → (m.kind ≡ j.kind) × (m.flags ≡ j.flags) × (m.serial ≡ j.serial)
    → start_text j place ≡ codes "{" ++ listed (first_members place j.order (length (message_bytes j.order m)) m.kind m.flags m.serial)
start_is j m place size same =
    let text = λ (n kind flags serial : ℕ). codes "{" ++ listed (first_members place j.order n kind flags serial) in
    ap (λ (n : ℕ). text n j.kind j.flags j.serial) size
    ∙ ap (λ (k : ℕ). text (length (message_bytes j.order m)) k j.flags j.serial) (sym same.0)
    ∙ ap (λ (k : ℕ). text (length (message_bytes j.order m)) m.kind k j.serial) (sym same.1)
    ∙ ap (λ (k : ℕ). text (length (message_bytes j.order m)) m.kind m.flags k) (sym same.2)

-- the text of a time by its parts, as they are written
pub time_joined : (text : List ℕ) → codes ",\"time\":\"" ++ (text ++ codes "\"") ≡ codes "," ++ (member (codes "time") (plain text) ++ [])
time_joined text = simp (append_assoc, append-nil)
