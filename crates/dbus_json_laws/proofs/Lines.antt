-- Messages that have one line of JSON are one message.
use Rattle.std.proofs.Common.{◌≡◌, ◌≢◌, ℕ, ◌+◌, ◌*◌, ◌/◌, ◌<◌, Bool, true, false, not, cond, eqb, List, [], ◌∷◌, ◌++◌, length, get_or, map, Option, Some, None, option_map, inl, inr, ◌⊎◌, codes, decimal, refl, sym, ap, ◌∙◌, subst, arith, append_assoc}
use Rattle.std.proofs.lemmas.Bool.{eqb-true, ne_eqb}
use Rattle.std.proofs.lemmas.Fmt.{decimal_injective}
use Rattle.std.proofs.lemmas.List.{append-nil, append_cancel_left}
use Rattle.std.proofs.lemmas.List.Concat.{flat_map-append}
use Rattle.std.specs.List.{enumerate_from}
use Rattle.std.specs.Option.{unwrap_or}
use Rattle.dbus_value_model.specs.declared.limits.Limits.{Limits}
use Rattle.dbus_value_model.specs.declared.order.Order.{Order}
use Rattle.dbus_value_model.specs.declared.order.Order.TheVariants.{Little, Big}
use Rattle.dbus_value_model.specs.Spelling.{contents_start}
use Rattle.dbus_value_model.specs.Values.{types_of}
use Rattle.dbus_message_model.specs.Messages.{MessageTree, IsMessage, order_byte, message_bytes, field_array, field_type, is_known, body_signature}
use Rattle.dbus_texts.proofs.TypeTexts.{sigs_same}
use Rattle.dbus_value_text.specs.Forms.{led}
use Rattle.dbus_json.specs.declared.integers.Integers.{Integers}
use Rattle.dbus_json.specs.declared.place.LinePlace.{LinePlace}
use Rattle.dbus_json.proofs.OneLines.{last_members, later_members, line_is}
use Rattle.dbus_json.specs.Times.{digit_at, powers, fraction_digits, seconds_text, time_members}
use Rattle.dbus_json.specs.JsonValues.{plain, member, array, object, listed, AreJson}
use Rattle.dbus_json.specs.JsonMessages.{type_text, first_members, known_fields, other_fields, is_before_known, AreKnown, AreOthers, fields_text}
use Rattle.dbus_json_laws.proofs.Numbers.{Bare, AreAll, all_append, weaker, cut, decimal_bare, bare_literal, bare_at, bare_of, plain_same, low}
use Rattle.dbus_json_reader.proofs.Messages.{same_message}
use Rattle.dbus_json_reader.proofs.NumberTexts.{same_head}
use Rattle.dbus_json_reader.proofs.SoundValues.{sound, are_sound, alike_types}
use Rattle.dbus_json_laws.proofs.Values.{Stop, more, after_item, comma_ends, same_listed}
use Rattle.dbus_json_laws.proofs.Mixing.{Placed, mixing_kept}
use Rattle.dbus_json_laws.proofs.Fields.{AllFit, all_fit, all_pass, passing, few_fields, same_known, same_objects}
use Rattle.dbus_json_laws.specs.Laws.{IsOneMessageALine}

-- ---- parts of a line

-- a number before a comma
number_apart : (m n : ℕ) (r q : List ℕ) → decimal m ++ 44 ∷ r ≡ decimal n ++ 44 ∷ q → (decimal m ≡ decimal n) × (r ≡ q)
number_apart m n r q e =
    let parts = cut Bare (decimal m) (decimal n) 44 44 r q (decimal_bare m) (decimal_bare n) (λ b. b.comma refl) (λ b. b.comma refl) e in
    (parts.0, (same_head 44 44 r q parts.1).1)

-- the digits of a time
digits_bare : (n : ℕ) (ps : List ℕ) → AreAll Bare (map (digit_at n) ps)
digits_bare n [] = tt
digits_bare n (p ∷ ps) = (low (digit_at n p) (omega arith) (omega arith), digits_bare n ps)

seconds_bare : (n : ℕ) → AreAll Bare (seconds_text n)
seconds_bare n = all_append Bare (decimal (n / 1000000000)) (46 ∷ fraction_digits n) (decimal_bare (n / 1000000000)) (bare_of 46 refl, digits_bare n powers)

-- what stands from the length on
abbrev from_length : List ℕ → List ℕ
from_length r = codes ",\"length\":" ++ r

-- a time, or none, before the length
time_apart : (a b : Option ℕ) (r q : List ℕ) → more (time_members a) ++ from_length r ≡ more (time_members b) ++ from_length q → r ≡ q
time_apart None None r q e = append_cancel_left (codes ",\"length\":") r q e
time_apart None (Some n) r q e = absurd (let third : 108 ≡ 116 = ap (λ (u : List ℕ). get_or u 2 0) e in omega (arith, third))
time_apart (Some m) None r q e = absurd (let third : 116 ≡ 108 = ap (λ (u : List ℕ). get_or u 2 0) e in omega (arith, third))
time_apart (Some m) (Some n) r q e =
    let left = timed m (from_length r) in
    let right = timed n (from_length q) in
    let text = append_cancel_left (codes ",\"time\":") _ _ (sym left ∙ e ∙ right) in
    append_cancel_left (codes ",\"length\":") r q (plain_same (seconds_text m) (seconds_text n) (from_length r) (from_length q) (seconds_bare m) (seconds_bare n) text).1
  where
    timed : (k : ℕ) (u : List ℕ) → more (time_members (Some k)) ++ u ≡ codes ",\"time\":" ++ (plain (seconds_text k) ++ u)
    timed k u = ap (λ (s : List ℕ). (codes "," ++ s) ++ u) (append-nil (member (codes "time") (plain (seconds_text k)))) ∙ append_assoc (codes ",\"time\":") (plain (seconds_text k)) u

pub order_same : (a b : Order) → order_byte a ≡ order_byte b → a ≡ b
order_same Little Little e = refl
order_same Little Big e = absurd (omega (arith, e))
order_same Big Little e = absurd (omega (arith, e))
order_same Big Big e = refl

-- ---- message types

-- what is no comma
abbrev NoComma : ℕ → Type 0
NoComma c = c ≢ 44

no_commas : (s : List ℕ) → AreAll Bare s → AreAll NoComma s
no_commas s h = weaker Bare NoComma (λ c b. b.comma) s h

plain_commas : (s : List ℕ) → AreAll Bare s → AreAll NoComma (plain s)
plain_commas s h = ((λ e. omega (arith, e)), all_append NoComma s (34 ∷ []) (no_commas s h) ((λ e. omega (arith, e)), tt))

-- which type a name between quotation marks is of, by two of its letters
abbrev kind_in : List ℕ → ℕ
kind_in t =
    let k = get_or t 1 0 * 256 + get_or t 8 0 in
    cond (eqb (get_or t 0 0) 34) (cond (eqb k 28003) 1 (cond (eqb k 28018) 2 (cond (eqb k 25856) 3 (cond (eqb k 29440) 4 0)))) 0

-- the text of a type
record Typed (kind : ℕ) (text : List ℕ) : Type 0 where
  told : (kind_in text ≡ kind) ⊎ (text ≡ decimal kind)
  commas : AreAll NoComma text

typed_name : (kind : ℕ) (name : List ℕ) → kind_in (plain name) ≡ kind → AreAll Bare name → Typed kind (plain name)
typed_name kind name is bare = record { told = inl is; commas = plain_commas name bare }

typed_if : (b : Bool) (kind k : ℕ) (name : List ℕ) (rest : Option (List ℕ)) → eqb kind k ≡ b → Typed k (plain name) → Typed kind (unwrap_or (option_map plain rest) (decimal kind)) → Typed kind (unwrap_or (option_map plain (cond b (Some name) rest)) (decimal kind))
typed_if true kind k name rest e named unnamed = subst (λ (c : ℕ). Typed c (plain name)) (sym (eqb-true kind k e)) named
typed_if false kind k name rest e named unnamed = unnamed

typed : (kind : ℕ) → Typed kind (type_text kind)
typed kind =
    typed_if (eqb kind 1) kind 1 (codes "method_call") _ refl (typed_name 1 (codes "method_call") refl (bare_literal (codes "method_call") refl))
    (typed_if (eqb kind 2) kind 2 (codes "method_return") _ refl (typed_name 2 (codes "method_return") refl (bare_literal (codes "method_return") refl))
    (typed_if (eqb kind 3) kind 3 (codes "error") _ refl (typed_name 3 (codes "error") refl (bare_literal (codes "error") refl))
    (typed_if (eqb kind 4) kind 4 (codes "signal") None refl (typed_name 4 (codes "signal") refl (bare_literal (codes "signal") refl))
    (record { told = inr refl; commas = no_commas (decimal kind) (decimal_bare kind) }))))

-- digits are no name
no_name : (n : ℕ) → kind_in (decimal n) ≡ 0
no_name n =
    let k = get_or (decimal n) 1 0 * 256 + get_or (decimal n) 8 0 in
    ap (λ (b : Bool). cond b (cond (eqb k 28003) 1 (cond (eqb k 28018) 2 (cond (eqb k 25856) 3 (cond (eqb k 29440) 4 0)))) 0) (ne_eqb (get_or (decimal n) 0 0) 34 (bare_at (decimal n) (decimal_bare n) 0).quote)

one_kind : (a b : ℕ) → 0 < a → 0 < b → a < 256 → b < 256 → type_text a ≡ type_text b → a ≡ b
one_kind a b some any fits small e =
    elim (typed a).told [
      | inl x ↦ elim (typed b).told [
        | inl y ↦ sym x ∙ ap kind_in e ∙ y
        | inr y ↦ absurd (let none : a ≡ 0 = sym x ∙ ap kind_in (e ∙ y) ∙ no_name b in omega (arith, none, some))
      ]
      | inr x ↦ elim (typed b).told [
        | inl y ↦ absurd (let none : b ≡ 0 = sym y ∙ ap kind_in (sym e ∙ x) ∙ no_name a in omega (arith, none, any))
        | inr y ↦ decimal_injective a b (omega (arith, fits)) (omega (arith, small)) (sym x ∙ e ∙ y)
      ]
    ]

-- ---- a line, by its parts

abbrev start_of : (number offset time size order kind flags serial r : List ℕ) → List ℕ
start_of number offset time size order kind flags serial r =
    codes "{\"number\":" ++ (number ++ (codes ",\"offset\":" ++ (offset ++ (time ++ (codes ",\"length\":" ++ (size ++ (codes ",\"order\":\"" ++ (order ++ (codes "\",\"type\":" ++ (kind ++ (codes ",\"flags\":" ++ (flags ++ (codes ",\"serial\":" ++ (serial ++ r))))))))))))))

start_cut : (number offset time size order kind flags serial r : List ℕ)
    → (codes "{" ++ (member (codes "number") number ++ ((codes "," ++ member (codes "offset") offset) ++ (time
    ++ ((codes "," ++ member (codes "length") size) ++ ((codes "," ++ member (codes "order") (plain order)) ++ ((codes "," ++ member (codes "type") kind)
    ++ ((codes "," ++ member (codes "flags") flags) ++ ((codes "," ++ member (codes "serial") serial) ++ []))))))))) ++ r
    ≡ start_of number offset time size order kind flags serial r
start_cut number offset time size order kind flags serial r =
    let v7 = (codes "," ++ member (codes "serial") serial) ++ [] in
    let v6 = (codes "," ++ member (codes "flags") flags) ++ v7 in
    let v5 = (codes "," ++ member (codes "type") kind) ++ v6 in
    let v4 = (codes "," ++ member (codes "order") (plain order)) ++ v5 in
    let v3 = (codes "," ++ member (codes "length") size) ++ v4 in
    let v2 = time ++ v3 in
    let v1 = (codes "," ++ member (codes "offset") offset) ++ v2 in
    let w7 = codes ",\"serial\":" ++ (serial ++ r) in
    let w6 = codes ",\"flags\":" ++ (flags ++ w7) in
    let w5 = codes ",\"type\":" ++ (kind ++ w6) in
    let w4 = codes ",\"order\":\"" ++ (order ++ 34 ∷ w5) in
    let w3 = codes ",\"length\":" ++ (size ++ w4) in
    let w2 = time ++ w3 in
    let w1 = codes ",\"offset\":" ++ (offset ++ w2) in
    let e7 : v7 ++ r ≡ w7 = ap (λ (s : List ℕ). codes ",\"serial\":" ++ s) (append_assoc serial [] r) in
    let e6 : v6 ++ r ≡ w6 = ap (λ (s : List ℕ). codes ",\"flags\":" ++ s) (append_assoc flags v7 r ∙ ap (λ (s : List ℕ). flags ++ s) e7) in
    let e5 : v5 ++ r ≡ w5 = ap (λ (s : List ℕ). codes ",\"type\":" ++ s) (append_assoc kind v6 r ∙ ap (λ (s : List ℕ). kind ++ s) e6) in
    let e4 : v4 ++ r ≡ w4 =
    ap (λ (s : List ℕ). codes ",\"order\":\"" ++ s) (append_assoc (order ++ 34 ∷ []) v5 r ∙ append_assoc order (34 ∷ []) (v5 ++ r) ∙ ap (λ (s : List ℕ). order ++ 34 ∷ s) e5) in
    let e3 : v3 ++ r ≡ w3 = ap (λ (s : List ℕ). codes ",\"length\":" ++ s) (append_assoc size v4 r ∙ ap (λ (s : List ℕ). size ++ s) e4) in
    let e2 : v2 ++ r ≡ w2 = append_assoc time v3 r ∙ ap (λ (s : List ℕ). time ++ s) e3 in
    let e1 : v1 ++ r ≡ w1 = ap (λ (s : List ℕ). codes ",\"offset\":" ++ s) (append_assoc offset v2 r ∙ ap (λ (s : List ℕ). offset ++ s) e2) in
    ap (λ (s : List ℕ). codes "{\"number\":" ++ s) (append_assoc number v1 r ∙ ap (λ (s : List ℕ). number ++ s) e1)

abbrev end_of : (known others values : List (List ℕ)) → List ℕ
end_of known others values = more known ++ (codes ",\"fields\":[" ++ (listed others ++ (codes "],\"body\":[" ++ (listed values ++ codes "]}\n"))))

abbrev line_of : Order → MessageTree → LinePlace → (known others values : List (List ℕ)) → List ℕ
line_of order m place known others values =
    start_of (decimal place.number) (decimal place.offset) (more (time_members place.time)) (decimal (length (message_bytes order m))) (order_byte order ∷ []) (type_text m.kind) (decimal m.flags) (decimal m.serial) (end_of known others values)

led_more : (texts : List (List ℕ)) → led (codes ",") (codes ",") texts ≡ more texts
led_more [] = refl
led_more (t ∷ texts) = refl

led_listed : (texts : List (List ℕ)) → led [] (codes ",") texts ≡ listed texts
led_listed [] = refl
led_listed (t ∷ texts) = refl

-- the header fields before what follows them
fields_cut : (known others : List (List ℕ)) (t : List ℕ) → fields_text known others ++ t ≡ led (codes ",") (codes ",") known ++ (codes ",\"fields\":[" ++ (led [] (codes ",") others ++ 93 ∷ t))
fields_cut known others t =
    let o = led [] (codes ",") others in
    append_assoc (led (codes ",") (codes ",") known) (codes ",\"fields\":[" ++ (o ++ codes "]")) t
    ∙ ap (λ (s : List ℕ). led (codes ",") (codes ",") known ++ (codes ",\"fields\":[" ++ s)) (append_assoc o (codes "]") t)

line_cut : (order : Order) (m : MessageTree) (place : LinePlace) (known others values : List (List ℕ))
    → object (first_members place order (length (message_bytes order m)) m.kind m.flags m.serial ++ (known ++ (member (codes "fields") (array others) ∷ member (codes "body") (array values) ∷ []))) ++ codes "\n"
    ≡ line_of order m place known others values
line_cut order m place known others values =
    let size = length (message_bytes order m) in
    let number = member (codes "number") (decimal place.number) in
    let last = last_members order size m.kind m.flags m.serial in
    let later = later_members place order size m.kind m.flags m.serial in
    let tail = end_of known others values in
    sym (line_is number later known others values)
    ∙ ap (λ (s : List ℕ). (codes "{" ++ listed (number ∷ later)) ++ s) (fields_cut known others (codes ",\"body\":[" ++ (led [] (codes ",") values ++ codes "]}\n")))
    ∙ ap (λ (s : List ℕ). (codes "{" ++ listed (number ∷ later)) ++ (s ++ (codes ",\"fields\":[" ++ (led [] (codes ",") others ++ (codes "],\"body\":[" ++ (led [] (codes ",") values ++ codes "]}\n")))))) (led_more known)
    ∙ ap (λ (s : List ℕ). (codes "{" ++ listed (number ∷ later)) ++ (more known ++ (codes ",\"fields\":[" ++ (s ++ (codes "],\"body\":[" ++ (led [] (codes ",") values ++ codes "]}\n")))))) (led_listed others)
    ∙ ap (λ (s : List ℕ). (codes "{" ++ listed (number ∷ later)) ++ (more known ++ (codes ",\"fields\":[" ++ (listed others ++ (codes "],\"body\":[" ++ (s ++ codes "]}\n")))))) (led_listed values)
    ∙ ap (λ (s : List ℕ). (codes "{" ++ (number ++ ((codes "," ++ member (codes "offset") (decimal place.offset)) ++ s))) ++ tail) (flat_map-append (λ (t : List ℕ). codes "," ++ t) (time_members place.time) last)
    ∙ start_cut (decimal place.number) (decimal place.offset) (more (time_members place.time)) (decimal size) (order_byte order ∷ []) (type_text m.kind) (decimal m.flags) (decimal m.serial) tail

-- ---- one message

comma_stop : (r : List ℕ) → Stop (44 ∷ r)
comma_stop r = record { first = 44; rest = r; is = refl; ends = comma_ends }

time_stop : (time : Option ℕ) (r : List ℕ) → Stop (more (time_members time) ++ from_length r)
time_stop None r = comma_stop (codes "\"length\":" ++ r)
time_stop (Some n) r = comma_stop (_)

-- bare texts before bytes that end them
bare_apart : (s t r q : List ℕ) → AreAll Bare s → AreAll Bare t → Stop r → Stop q → s ++ r ≡ t ++ q → (s ≡ t) × (r ≡ q)
bare_apart s t r q h k p o e =
    let parts = cut Bare s t p.first o.first p.rest o.rest h k p.ends.bare o.ends.bare (ap (λ (u : List ℕ). s ++ u) (sym p.is) ∙ e ∙ ap (λ (u : List ℕ). t ++ u) o.is) in
    (parts.0, p.is ∙ parts.1 ∙ sym o.is)

numbers_apart : (m n : ℕ) (r q : List ℕ) → Stop r → Stop q → decimal m ++ r ≡ decimal n ++ q → (decimal m ≡ decimal n) × (r ≡ q)
numbers_apart m n r q p o e = bare_apart (decimal m) (decimal n) r q (decimal_bare m) (decimal_bare n) p o e

types_apart : (a b : ℕ) (r q : List ℕ) → type_text a ++ 44 ∷ r ≡ type_text b ++ 44 ∷ q → (type_text a ≡ type_text b) × (r ≡ q)
types_apart a b r q e =
    let parts = cut NoComma (type_text a) (type_text b) 44 44 r q (typed a).commas (typed b).commas (λ n. n refl) (λ n. n refl) e in
    (parts.0, (same_head 44 44 r q parts.1).1)

-- the fields of a message, at their places
fields_fit : (limits : Limits) (order : Order) (m : MessageTree) → IsMessage limits order m → AllFit (enumerate_from 0 m.fields)
fields_fit limits order m valid =
    let few = few_fields order (contents_start field_type 12) m.fields in
    all_fit [] m.fields 0 (omega (arith, few, valid.within_fields.0, limits.array_in)) valid.fields (sound limits.depth (field_array m.fields) valid.formed_fields).1

-- the fields and the body
module _ (integers : Integers) (limits bounds : Limits) (order other : Order) (m w : MessageTree) (valid : IsMessage limits order m) (right : IsMessage bounds other w) where
  same_rest : (known others values known' others' values' : List (List ℕ)) → AreKnown integers m.fields known → AreKnown integers w.fields known' → AreOthers integers m.fields others → AreOthers integers w.fields others' → AreJson integers m.body values → AreJson integers w.body values'
      → end_of known others values ≡ end_of known' others' values' → (m.fields ≡ w.fields) × (m.body ≡ w.body)
  same_rest known others values known' others' values' a b c d f g e =
      let fit = fields_fit limits order m valid in
      let fits = fields_fit bounds other w right in
      let knowns = same_known integers (codes "fields") (codes ":[" ++ (listed others ++ (codes "],\"body\":[" ++ (listed values ++ codes "]}\n")))) (codes ":[" ++ (listed others' ++ (codes "],\"body\":[" ++ (listed values' ++ codes "]}\n"))))
      (bare_literal (codes "fields") refl) refl (known_fields m.fields) (known_fields w.fields) (all_pass (λ (p : Placed). is_known p.1.code) (enumerate_from 0 m.fields) fit) (all_pass (λ (p : Placed). is_known p.1.code) (enumerate_from 0 w.fields) fits) known known' a b e in
      let objects = same_objects integers (is_before_known m.fields) (is_before_known w.fields) (codes ",\"body\":[" ++ (listed values ++ codes "]}\n")) (codes ",\"body\":[" ++ (listed values' ++ codes "]}\n"))
      (other_fields m.fields) (other_fields w.fields) (passing (λ (p : Placed). not (is_known p.1.code)) _ (all_pass (λ (p : Placed). not (is_known p.1.code)) (enumerate_from 0 m.fields) fit)) (passing (λ (p : Placed). not (is_known p.1.code)) _ (all_pass (λ (p : Placed). not (is_known p.1.code)) (enumerate_from 0 w.fields) fits))
      others others' c d (append_cancel_left (codes ":[") _ _ knowns.1) in
      let fields : m.fields ≡ w.fields = mixing_kept m.fields w.fields knowns.0 objects.0 in
      let types = sigs_same (types_of m.body) (types_of w.body) (valid.signature ∙ ap body_signature fields ∙ sym right.signature) in
      let body = same_listed integers m.body w.body (are_sound limits.depth m.body valid.formed_body) (are_sound bounds.depth w.body right.formed_body) (alike_types m.body w.body types) values values' f g (codes "}\n") (codes "}\n")
      (append_cancel_left (codes ",\"body\":[") _ _ objects.1) in
      (fields, body.0)

pub one_message : IsOneMessageALine
one_message integers limits bounds order other m w place at text valid right is it =
    let whole : line_of order m place is.known is.others is.values ≡ line_of other w at it.known it.others it.values =
    sym (line_cut order m place is.known is.others is.values) ∙ sym is.is ∙ it.is ∙ line_cut other w at it.known it.others it.values in
    let number = numbers_apart place.number at.number _ _ (comma_stop _) (comma_stop _) (append_cancel_left (codes "{\"number\":") _ _ whole) in
    let offset = numbers_apart place.offset at.offset _ _ (time_stop place.time _) (time_stop at.time _) (append_cancel_left (codes ",\"offset\":") _ _ number.1) in
    let time = time_apart place.time at.time _ _ offset.1 in
    let size = numbers_apart (length (message_bytes order m)) (length (message_bytes other w)) _ _ (comma_stop _) (comma_stop _) time in
    let letter = same_head (order_byte order) (order_byte other) _ _ (append_cancel_left (codes ",\"order\":\"") _ _ size.1) in
    let kind = types_apart m.kind w.kind _ _ (append_cancel_left (codes "\",\"type\":") _ _ letter.1) in
    let flags = numbers_apart m.flags w.flags _ _ (comma_stop _) (comma_stop _) (append_cancel_left (codes "\"flags\":") _ _ kind.1) in
    let serial = numbers_apart m.serial w.serial _ _ (after_item is.known 44 _ comma_ends) (after_item it.known 44 _ comma_ends) (append_cancel_left (codes ",\"serial\":") _ _ flags.1) in
    let rest = same_rest integers limits bounds order other m w valid right is.known is.others is.values it.known it.others it.values is.knows it.knows is.other it.other is.body it.body serial.1 in (
      order_same order other letter.0,
      same_message m w (one_kind m.kind w.kind valid.kind right.kind valid.kind_fits right.kind_fits kind.0)
          (decimal_injective m.flags w.flags (omega (arith, valid.flags)) (omega (arith, right.flags)) flags.0)
          (decimal_injective m.serial w.serial (omega (arith, valid.serial_fits)) (omega (arith, right.serial_fits)) serial.0) rest.0 rest.1,
    )
