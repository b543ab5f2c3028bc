-- The line that `json` writes of a message is JSON that spells the message.
-- RFC 8259, of the messages of the D-Bus Specification, "Message Format".
use Rattle.std.proofs.Common.{◌≡◌, ℕ, zero, suc, ◌+◌, ◌-◌, ◌*◌, ◌/◌, ◌^◌, ◌<◌, ◌≤◌, Bool, true, false, cond, not, eqb, ◌||◌, List, [], ◌∷◌, ◌++◌, length, map, Option, Some, None, option_map, option_and_then, inl, inr, codes, decimal, refl, sym, ap, ap₂, ◌∙◌, subst, arith}
use Rattle.std.proofs.lemmas.List.{append_cancel_right}
use Rattle.std.proofs.lemmas.Option.{same_Some}
use Rattle.std.specs.List.{AllZip, AllByRecursion, enumerate_from}
use Rattle.std.specs.Option.{unwrap_or}
use Rattle.std.specs.Str.{bytes_eq}
use Rattle.json.specs.Find.{get}
use Rattle.json.specs.Json.{Json, if_last, Items, no_items, item, Members, no_members, member, value}
use Rattle.json.specs.Json as json
use Rattle.json.specs.Strict.{keys}
use Rattle.json.specs.Tree.{depth, members_depth}
use Rattle.json.specs.Value.{items_of}
use Rattle.json.proofs.Printed.Decimals.{IsNumber-decimal}
use Rattle.dbus_texts.specs.Types.{TypeTree}
use Rattle.dbus_value_model.specs.declared.limits.Limits.{Limits}
use Rattle.dbus_value_model.specs.declared.order.Order.{Order}
use Rattle.dbus_value_model.specs.declared.order.Order.TheVariants.{Little, Big}
use Rattle.dbus_value_model.specs.Spelling.{contents_start}
use Rattle.dbus_value_model.specs.Values.{ValueTrees, ArrayValue, IsWellFormed, types_of}
use Rattle.dbus_message_model.specs.Messages.{MessageTree, IsMessage, IsValidMessage, order_byte, message_bytes, field_type, is_known}
use Rattle.dbus_message_model.specs.MessageTypes.{type_name}
use Rattle.dbus_walk.proofs.Signed.{body_shaped}
use Rattle.dbus_json.specs.declared.integers.Integers.{Integers}
use Rattle.dbus_json.specs.declared.place.LinePlace.{LinePlace}
use Rattle.dbus_json.specs.Times.{digit_at, powers, fraction_digits, seconds_text, time_members}
use Rattle.dbus_json.specs.JsonValues.{plain}
use Rattle.dbus_json.specs.JsonValues as written
use Rattle.dbus_json.specs.JsonMessages.{type_text, first_members, head_members, known_fields, other_fields, is_before_known, IsJsonLine}
use Rattle.dbus_json_reader.specs.JsonMembers.{SpellsKind}
use Rattle.dbus_json_reader.specs.JsonMessages.{SpellsOrder, SpellsOr, SpellsMessage, IsReadMessage, IsKnown, AreOthers, AreBody, field_members, is_among, plain_names}
use Rattle.dbus_json_reader.specs.JsonValues.{AllSpell}
use Rattle.dbus_json_lines.specs.JsonLines.{IsLineOf, line_depth}
use Rattle.dbus_json_laws.specs.Kept.{IsLineKept, IsOneMessageOfALine}
use Rattle.dbus_json_laws.proofs.Fields.{few_fields}
use Rattle.dbus_json_laws.proofs.KeptFields.{Held, KeptKnown, KeptOthers, IsHeldKnown, fields_held, passing, known_kept, others_kept, count_reads}
use Rattle.dbus_json_laws.proofs.KeptValues.{AllKept, all_kept, fields, whole_value}
use Rattle.dbus_json_laws.proofs.Lexed.{Inside, inside_literal, decimal_inside, digit_inside}
use Rattle.dbus_json_laws.proofs.Mixing.{Placed}
use Rattle.dbus_json_laws.proofs.Named.{AreNew, Has, distinct_new, found, front_new, last_names, new_names}
use Rattle.dbus_json_laws.proofs.OneMessage.{one_message}
use Rattle.dbus_json_laws.proofs.Numbers.{AreAll, all_append}
use Rattle.dbus_json_laws.proofs.Tokens.{Reads, AllNamed, number_reads, plain_reads, member_reads, array_reads, object_reads}

-- ---- a time, which may be told

abbrev timed : Option ℕ → Members → Members
timed None ms = ms
timed (Some n) ms = member (codes "time") (json.string (seconds_text n)) ms

digits_inside : (n : ℕ) (ps : List ℕ) → AreAll Inside (map (digit_at n) ps)
digits_inside n [] = tt
digits_inside n (p ∷ ps) = (digit_inside (digit_at n p) (omega arith) (omega arith), digits_inside n ps)

seconds_inside : (n : ℕ) → AreAll Inside (seconds_text n)
seconds_inside n = all_append Inside (decimal (n / 1000000000)) (46 ∷ fraction_digits n) (decimal_inside (n / 1000000000)) (refl, digits_inside n powers)

time_reads : (time : Option ℕ) (texts more : List (List ℕ)) (ms : Members) → AllNamed (texts ++ more) ms → AllNamed ((time_members time ++ texts) ++ more) (timed time ms)
time_reads None texts more ms h = h
time_reads (Some n) texts more ms h =
    (member_reads (codes "time") (plain (seconds_text n)) (json.string (seconds_text n)) (inside_literal (codes "time") refl) (plain_reads (seconds_text n) (seconds_inside n)), h)

time_among : (time : Option ℕ) (ms : Members) (name : List ℕ) → bytes_eq name (codes "time") ≡ false → is_among (keys ms) name ≡ false → is_among (keys (timed time ms)) name ≡ false
time_among None ms name other h = h
time_among (Some n) ms name other h = ap₂ (λ (a b : Bool). a || b) other h

time_new : (time : Option ℕ) (ms : Members) → is_among (keys ms) (codes "time") ≡ false → AreNew (keys ms) → AreNew (keys (timed time ms))
time_new None ms other h = h
time_new (Some n) ms other h = (other, h)

time_has : (time : Option ℕ) (ms : Members) (name : List ℕ) (j : Json) → Has name j ms → Has name j (timed time ms)
time_has None ms name j h = h
time_has (Some n) ms name j h = inr h

time_fields : (time : Option ℕ) (ms : Members) → field_members (timed time ms) ≡ field_members ms
time_fields None ms = refl
time_fields (Some n) ms = refl

time_depth : (time : Option ℕ) (ms : Members) (most : ℕ) → members_depth ms ≤ most → members_depth (timed time ms) ≤ most
time_depth None ms most h = h
time_depth (Some n) ms most h = omega (arith, h)

-- ---- a message type

record KeptKind (kind : ℕ) (text : List ℕ) : Type 0 where
  j : Json
  spelled : SpellsKind kind j
  flat : depth j ≡ 0
  reads : Reads text j

kind_kept : (kind : ℕ) (name : Option (List ℕ)) → type_name kind ≡ name → kind < 256 → ((text : List ℕ) → type_name kind ≡ Some text → AreAll Inside text) → KeptKind kind (unwrap_or (option_map plain name) (decimal kind))
kind_kept kind None e few inside = record { j = json.number (decimal kind); spelled = inl refl; flat = refl; reads = number_reads (decimal kind) (decimal_inside kind) (IsNumber-decimal kind (omega (arith, few))) }
kind_kept kind (Some text) e few inside = record { j = json.string text; spelled = inr (text, e, refl); flat = refl; reads = plain_reads text (inside text e) }

name_inside : (b : Bool) (name : List ℕ) (rest : Option (List ℕ)) → AreAll Inside name → ((text : List ℕ) → rest ≡ Some text → AreAll Inside text) → (text : List ℕ) → cond b (Some name) rest ≡ Some text → AreAll Inside text
name_inside true name rest here later text e = subst (AreAll Inside) (same_Some _ _ e) here
name_inside false name rest here later text e = later text e

type_inside : (kind : ℕ) (text : List ℕ) → type_name kind ≡ Some text → AreAll Inside text
type_inside kind =
    name_inside (eqb kind 1) (codes "method_call") _ (inside_literal (codes "method_call") refl)
    (name_inside (eqb kind 2) (codes "method_return") _ (inside_literal (codes "method_return") refl)
    (name_inside (eqb kind 3) (codes "error") _ (inside_literal (codes "error") refl)
    (name_inside (eqb kind 4) (codes "signal") None (inside_literal (codes "signal") refl) (λ text e. absurd (cc)))))

-- ---- the object of a message

abbrev list_of : Items → List Json
list_of no_items = []
list_of (item j js) = j ∷ list_of js

listed_again : (js : Items) → items_of (list_of js) ≡ js
listed_again no_items = refl
listed_again (item j js) = ap (item j) (listed_again js)

order_inside : (order : Order) → AreAll Inside (order_byte order ∷ [])
order_inside Little = (refl, tt)
order_inside Big = (refl, tt)

some_room : (room : ℕ) (t : TypeTree) (xs : ValueTrees) → IsWellFormed room (ArrayValue t xs) → 0 < room
some_room zero t xs h = absurd h
some_room (suc room) t xs h = omega arith

all_known : (room : ℕ) (ps : List Placed) → AllByRecursion (IsHeldKnown room) ps → AllByRecursion (λ (p : Placed). is_known p.1.code ≡ true) ps
all_known room [] h = tt
all_known room (p ∷ ps) h = (h.0.1, all_known room ps h.1)

all_held : (room : ℕ) (ps : List Placed) → AllByRecursion (λ (p : Placed). Held room p × (not (is_known p.1.code) ≡ true)) ps → AllByRecursion (Held room) ps
all_held room [] h = tt
all_held room (p ∷ ps) h = (h.0.0, all_held room ps h.1)

module _ (integers : Integers) (limits : Limits) (order : Order) (m : MessageTree) (place : LinePlace) (line : List ℕ) (valid : IsMessage limits order m) (numbered : place.number < 2 ^ 64) (starts : place.offset < 2 ^ 64) (is : IsJsonLine integers order m place (line ++ codes "\n")) where
  abbrev room : ℕ
  room = limits.depth - 3

  few : length m.fields < 2 ^ 64
  few = let count = few_fields order (contents_start field_type 12) m.fields in omega (arith, count, valid.within_fields.0, limits.array_in)

  held : AllByRecursion (Held room) (enumerate_from 0 m.fields)
  held = fields_held limits.depth m.fields few valid.formed_fields

  held_known : AllByRecursion (IsHeldKnown room) (known_fields m.fields)
  held_known = passing (Held room) (λ (p : Placed). is_known p.1.code) (enumerate_from 0 m.fields) held

  others : KeptOthers integers (1 + 2 * room) (is_before_known m.fields) (other_fields m.fields) is.others
  others = others_kept integers room (is_before_known m.fields) (other_fields m.fields) is.others (all_held room (other_fields m.fields) (passing (Held room) (λ (p : Placed). not (is_known p.1.code)) (enumerate_from 0 m.fields) held)) is.other

  body : AllKept integers (2 * limits.depth) m.body is.values
  body = let b = all_kept integers false limits.depth m.body is.values valid.formed_body (fields m.body (body_shaped limits.depth m.fields (types_of m.body) valid.fields valid.formed_fields valid.signature)) is.body in record { js = b.js; spelled = b.spelled; nests = omega (arith, b.nests); reads = b.reads }

  abbrev last : Members
  last = member (codes "fields") (json.array (items_of others.js)) (member (codes "body") (json.array body.js) no_members)

  abbrev last_texts : List (List ℕ)
  last_texts = written.member (codes "fields") (written.array is.others) ∷ written.member (codes "body") (written.array is.values) ∷ []

  last_reads : AllNamed last_texts last
  last_reads = (
    member_reads (codes "fields") (written.array is.others) (json.array (items_of others.js)) (inside_literal (codes "fields") refl) (array_reads is.others (items_of others.js) others.reads),
    (member_reads (codes "body") (written.array is.values) (json.array body.js) (inside_literal (codes "body") refl) (array_reads is.values body.js body.reads), tt),
  )

  abbrev most : ℕ
  most = 1 + 2 * limits.depth

  last_depth : members_depth last ≤ most
  last_depth = let some = some_room limits.depth _ _ valid.formed_fields in omega (arith, others.nests, body.nests, some)

  known : KeptKnown integers most (known_fields m.fields) (is.known ++ last_texts) last
  known = known_kept integers room most (known_fields m.fields) is.known last_texts last held_known is.knows last_reads last_depth (omega arith) refl

  kind : KeptKind m.kind (type_text m.kind)
  kind = kind_kept m.kind (type_name m.kind) refl valid.kind_fits (type_inside m.kind)

  abbrev size : ℕ
  size = length (message_bytes order m)

  abbrev later : Members
  later =
      member (codes "length") (json.number (decimal size)) (member (codes "order") (json.string (order_byte order ∷ []))
      (member (codes "type") kind.j (member (codes "flags") (json.number (decimal m.flags)) (member (codes "serial") (json.number (decimal m.serial)) known.ms))))

  abbrev ms : Members
  ms = member (codes "number") (json.number (decimal place.number)) (member (codes "offset") (json.number (decimal place.offset)) (timed place.time later))

  abbrev later_texts : List (List ℕ)
  later_texts = written.member (codes "length") (decimal size) ∷ head_members order m.kind m.flags m.serial

  later_reads : AllNamed (later_texts ++ (is.known ++ last_texts)) later
  later_reads = (
    count_reads (codes "length") size (inside_literal (codes "length") refl) (omega (arith, valid.limit, limits.message_in)),
    (
      member_reads (codes "order") (plain (order_byte order ∷ [])) (json.string (order_byte order ∷ [])) (inside_literal (codes "order") refl) (plain_reads (order_byte order ∷ []) (order_inside order)),
      (
        member_reads (codes "type") (type_text m.kind) kind.j (inside_literal (codes "type") refl) kind.reads,
        (
          count_reads (codes "flags") m.flags (inside_literal (codes "flags") refl) (omega (arith, valid.flags)),
          (count_reads (codes "serial") m.serial (inside_literal (codes "serial") refl) (omega (arith, valid.serial_fits)), known.reads),
        ),
      ),
    ),
  )

  all_reads : AllNamed (first_members place order size m.kind m.flags m.serial ++ (is.known ++ last_texts)) ms
  all_reads = (
    count_reads (codes "number") place.number (inside_literal (codes "number") refl) numbered,
    (
      count_reads (codes "offset") place.offset (inside_literal (codes "offset") refl) starts,
      time_reads place.time later_texts (is.known ++ last_texts) later later_reads,
    ),
  )

  -- a name of a line is not again among those of header fields
  new : (name : List ℕ) → is_among plain_names name ≡ true → is_among last_names name ≡ false → is_among (keys known.ms) name ≡ false
  new name plain before = ap (λ (ks : List (List ℕ)). is_among ks name) known.names_are ∙ front_new (known_fields m.fields) name (all_known room (known_fields m.fields) held_known) plain before

  later_new : AreNew (keys later)
  later_new =
      (new (codes "length") refl refl, (new (codes "order") refl refl, (new (codes "type") refl refl, (new (codes "flags") refl refl, (new (codes "serial") refl refl, subst AreNew (sym known.names_are) (new_names [] m.fields 0 valid.fields))))))

  all_new : AreNew (keys ms)
  all_new =
      (time_among place.time later (codes "number") refl (new (codes "number") refl refl), (time_among place.time later (codes "offset") refl (new (codes "offset") refl refl), time_new place.time later (new (codes "time") refl refl) later_new))

  got : (name : List ℕ) (j : Json) → Has name j later → get name (json.object ms) ≡ Some j
  got name j h = found name j ms all_new (inr (inr (time_has place.time later name j h)))

  got_last : (name : List ℕ) (j : Json) → Has name j last → get name (json.object ms) ≡ Some j
  got_last name j h = got name j (inr (inr (inr (inr (inr (known.has name j h))))))

  spelled : (number : ℕ) → SpellsMessage integers number order m (json.object ms)
  spelled number =
      let fs = json.array (items_of others.js) in
      let vs = json.array body.js in
      record {
        ms = ms;
        is = refl;
        distinct = distinct_new (keys ms) all_new;
        ordered = subst (SpellsOrder order) (sym (got (codes "order") (json.string (order_byte order ∷ [])) (inr (inl (refl, refl))))) refl;
        type = kind.j;
        told = got (codes "type") kind.j (inr (inr (inl (refl, refl))));
        kind = kind.spelled;
        flags = subst (SpellsOr 0 m.flags) (sym (got (codes "flags") (json.number (decimal m.flags)) (inr (inr (inr (inl (refl, refl))))))) refl;
        serial = subst (SpellsOr number m.serial) (sym (got (codes "serial") (json.number (decimal m.serial)) (inr (inr (inr (inr (inl (refl, refl)))))))) refl;
        known = subst (λ (l : List (List ℕ × Json)). AllZip (IsKnown integers) (known_fields m.fields) l) (sym (time_fields place.time later)) known.spelled;
        others = subst (AreOthers integers m.fields) (sym (got_last (codes "fields") fs (inl (refl, refl)))) (others.js, refl, others.spelled);
        body = subst (AreBody integers m.body) (sym (got_last (codes "body") vs (inr (inl (refl, refl)))))
            (list_of body.js, ap json.array (sym (listed_again body.js)), subst (AllSpell integers m.body) (sym (listed_again body.js)) body.spelled);
      }

  nests : depth (json.object ms) ≤ 2 + 2 * limits.depth
  nests =
      let more : members_depth later ≤ most = omega (arith, known.nests, kind.flat) in
      let whole = time_depth place.time later most more in
      omega (arith, whole)

  abbrev texts : List (List ℕ)
  texts = first_members place order size m.kind m.flags m.serial ++ (is.known ++ last_texts)

  reads : Reads line (json.object ms)
  reads = subst (λ (s : List ℕ). Reads s (json.object ms)) (sym (append_cancel_right line (written.object texts) (codes "\n") is.is)) (object_reads texts ms all_reads)

  pub kept_line : (number : ℕ) → IsValidMessage limits m → IsLineOf integers limits number line order m
  kept_line number all = record {
    text = reads.utf8;
    json = json.object ms;
    read = ap (option_and_then (λ p. if_last p.0 p.1)) (whole_value line (json.object ms) line_depth reads (omega (arith, nests, limits.depth_in)));
    spelled = record { spelled = spelled number; valid = all };
  }

pub line_kept : IsLineKept
line_kept integers limits number order m place line valid numbered starts is = kept_line integers limits order m place line (valid order) numbered starts is number valid

pub one_message_of : IsOneMessageOfALine
one_message_of integers limits bounds number order other m w line h k =
    let same = same_Some h.json k.json (sym h.read ∙ k.read) in
    one_message integers limits bounds number order other m w k.json (subst (IsReadMessage integers limits number order m) same h.spelled) k.spelled
