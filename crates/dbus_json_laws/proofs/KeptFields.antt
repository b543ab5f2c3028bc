-- What `json` writes of a message's header fields and body is JSON that spells them.
-- RFC 8259, sections 4 and 5, of the D-Bus Specification, "Header Fields".
use Rattle.std.proofs.Common.{◌≡◌, ℕ, zero, suc, ◌+◌, ◌-◌, ◌*◌, ◌^◌, ◌<◌, ◌≤◌, Bool, true, false, cond, not, List, [], ◌∷◌, ◌++◌, length, map, filter, inl, inr, codes, decimal, refl, sym, ap, subst, arith}
use Rattle.std.proofs.lemmas.Bool.{cases_Bool}
use Rattle.std.specs.List.{AllZip, AllByRecursion, enumerate_from}
use Rattle.json.specs.Json.{Json, Members, no_members, member}
use Rattle.json.specs.Json as json
use Rattle.json.specs.Strict.{keys}
use Rattle.json.specs.Tree.{depth, items_depth, members_depth}
use Rattle.json.specs.Value.{items_of}
use Rattle.json.proofs.Printed.Decimals.{IsNumber-decimal}
use Rattle.dbus_texts.specs.Types.{IsSingleType, sig}
use Rattle.dbus_texts.proofs.TypeTexts.{shaped_of}
use Rattle.dbus_value_model.specs.Values.{ValueTree, value_trees, type_of, IsWellFormed, AreWellFormed}
use Rattle.dbus_message_model.specs.Messages.{FieldTree, is_known, field_struct, field_array}
use Rattle.dbus_show.specs.ShownMessages.{field_name}
use Rattle.dbus_value_text.specs.Forms.{AreFieldTexts}
use Rattle.dbus_json.specs.declared.integers.Integers.{Integers}
use Rattle.dbus_json.specs.JsonValues.{plain, IsJson}
use Rattle.dbus_json.specs.JsonValues as written
use Rattle.dbus_json.specs.JsonMessages as lines
use Rattle.dbus_json.specs.JsonMessages.{place_members}
use Rattle.dbus_json_reader.specs.JsonMessages.{IsKnown, IsOther, field_members}
use Rattle.dbus_json_laws.proofs.KeptValues.{Kept, kept}
use Rattle.dbus_json_laws.proofs.Lexed.{Inside, inside_literal, decimal_inside, sig_inside}
use Rattle.dbus_json_laws.proofs.Mixing.{Placed}
use Rattle.dbus_json_laws.proofs.Named.{Has, named, names, distinct_new}
use Rattle.dbus_json_laws.proofs.Numbers.{AreAll}
use Rattle.dbus_json_laws.proofs.Tokens.{Reads, AllRead, AllNamed, MemberReads, number_reads, plain_reads, member_reads, object_reads}

-- ---- the fields of a valid message

-- a field at its place, of a value of this depth
pub record Held (room : ℕ) (p : Placed) : Type 0 where
  pub place : p.0 < 2 ^ 64
  pub code : p.1.code < 256
  pub single : IsSingleType (type_of p.1.value)
  pub formed : IsWellFormed room p.1.value

structs_held : (room n : ℕ) (fs : List FieldTree) → n + length fs < 2 ^ 64 → AreWellFormed room (value_trees (map field_struct fs)) → AllByRecursion (Held (room - 2)) (enumerate_from n fs)
structs_held room n [] few formed = tt
structs_held zero n (f ∷ fs) few formed = absurd formed.0
structs_held (suc zero) n (f ∷ fs) few formed = absurd formed.0.1.0
structs_held (suc (suc room)) n (f ∷ fs) few formed =
    let less : room ≡ suc (suc room) - 2 = omega arith in (
      record { place = omega (arith, few); code = formed.0.0; single = formed.0.1.0.0; formed = subst (λ (k : ℕ). IsWellFormed k f.value) less formed.0.1.0.1 },
      structs_held (suc (suc room)) (n + 1) fs (omega (arith, few)) formed.1,
    )

pub fields_held : (room : ℕ) (fs : List FieldTree) → length fs < 2 ^ 64 → IsWellFormed room (field_array fs) → AllByRecursion (Held (room - 3)) (enumerate_from 0 fs)
fields_held zero fs few formed = absurd formed
fields_held (suc room) fs few formed =
    let less : room - 2 ≡ suc room - 3 = omega arith in subst (λ (k : ℕ). AllByRecursion (Held k) (enumerate_from 0 fs)) less (structs_held room 0 fs (omega (arith, few)) formed.1)

-- those that pass a test
pub passing : (P : Placed → Type 0) (test : Placed → Bool) (ps : List Placed) → AllByRecursion P ps → AllByRecursion (λ (p : Placed). P p × (test p ≡ true)) (filter test ps)
passing P test [] h = tt
passing P test (p ∷ ps) h =
    let Q = λ (p : Placed). P p × (test p ≡ true) in
    let more = passing P test ps h.1 in
    elim (cases_Bool (test p)) [
      | inl e ↦ subst (λ (b : Bool). AllByRecursion Q (cond b (p ∷ filter test ps) (filter test ps))) (sym e) ((h.0, e), more)
      | inr e ↦ subst (λ (b : Bool). AllByRecursion Q (cond b (p ∷ filter test ps) (filter test ps))) (sym e) more
    ]

held_value : (integers : Integers) (room : ℕ) (p : Placed) (text : List ℕ) → Held room p → IsJson integers p.1.value text → Kept integers (2 * room) p.1.value text
held_value integers room p text h is =
    let k = kept integers false room p.1.value text h.formed (shaped_of (type_of p.1.value) false 0 0 h.single.0) is in
    record { j = k.j; spelled = k.spelled; nests = omega (arith, k.nests); reads = k.reads }

-- ---- known fields

-- the members of these fields, before others
pub record KeptKnown (integers : Integers) (most : ℕ) (ps : List Placed) (texts : List (List ℕ)) (rest : Members) : Type 0 where
  pub ms : Members
  pub names_are : keys ms ≡ names ps ++ keys rest
  pub spelled : AllZip (IsKnown integers) ps (field_members ms)
  pub nests : members_depth ms ≤ most
  pub reads : AllNamed texts ms
  pub has : (name : List ℕ) (j : Json) → Has name j rest → Has name j ms

abbrev pub IsHeldKnown : ℕ → Placed → Type 0
IsHeldKnown room p = Held room p × (is_known p.1.code ≡ true)

pub known_kept : (integers : Integers) (room most : ℕ) (ps : List Placed) (texts others : List (List ℕ)) (rest : Members) → AllByRecursion (IsHeldKnown room) ps → AreFieldTexts (λ _ code v text. lines.IsKnown integers code v text) ps texts
    → AllNamed others rest → members_depth rest ≤ most → 2 * room ≤ most → field_members rest ≡ [] → KeptKnown integers most ps (texts ++ others) rest
known_kept integers room most [] [] others rest held are reads deep more none =
    record { ms = rest; names_are = refl; spelled = subst (λ (ms : List (List ℕ × Json)). AllZip (IsKnown integers) [] ms) (sym none) tt; nests = deep; reads = reads; has = λ name j h. h }
known_kept integers room most (p ∷ ps) (t ∷ texts) others rest held are reads deep more none =
    let k = held_value integers room p are.0.value held.0.0 are.0.json in
    let later = known_kept integers room most ps texts others rest held.1 are.1 reads deep more none in
    let name = named p.1.code held.0.1 in
    let zip : AllZip (IsKnown integers) (p ∷ ps) ((field_name p.1.code, k.j) ∷ field_members later.ms) = ((refl, k.spelled), later.spelled) in
    record {
      ms = member (field_name p.1.code) k.j later.ms;
      names_are = ap (λ (ks : List (List ℕ)). field_name p.1.code ∷ ks) later.names_are;
      spelled = subst (λ (b : Bool). AllZip (IsKnown integers) (p ∷ ps) (cond (not b) ((field_name p.1.code, k.j) ∷ field_members later.ms) (field_members later.ms))) (sym name.other) zip;
      nests = omega (arith, k.nests, later.nests, more);
      reads = (subst (λ (s : List ℕ). MemberReads s (field_name p.1.code) k.j) (sym are.0.is) (member_reads (field_name p.1.code) are.0.value k.j name.inside k.reads), later.reads);
      has = λ name j h. inr (later.has name j h);
    }
known_kept integers room most ps texts others rest held are reads deep more none = absurd are

-- ---- other fields

record KeptOther (integers : Integers) (most : ℕ) (before_known : Bool) (p : Placed) (text : List ℕ) : Type 0 where
  j : Json
  spelled : IsOther integers before_known p.0 p.1 j
  nests : depth j ≤ most
  reads : Reads text j

pub count_reads : (name : List ℕ) (n : ℕ) → AreAll Inside name → n < 2 ^ 64 → MemberReads (written.member name (decimal n)) name (json.number (decimal n))
count_reads name n inside few = member_reads name (decimal n) (json.number (decimal n)) inside (number_reads (decimal n) (decimal_inside n) (IsNumber-decimal n few))

abbrev other_members : (code : ℕ) (signature : List ℕ) (value : Json) → Members → Members
other_members code signature value rest = member (codes "code") (json.number (decimal code)) (member (codes "type") (json.string signature) (member (codes "value") value rest))

abbrev other_texts : (code : ℕ) (signature value : List ℕ) → List (List ℕ) → List (List ℕ)
other_texts code signature value rest = written.member (codes "code") (decimal code) ∷ written.member (codes "type") (plain signature) ∷ written.member (codes "value") value ∷ rest

other_reads : (code : ℕ) (v : ValueTree) (text : List ℕ) (j : Json) (texts : List (List ℕ)) (rest : Members) → code < 256 → Reads text j → AllNamed texts rest
    → AllNamed (other_texts code (sig (type_of v)) text texts) (other_members code (sig (type_of v)) j rest)
other_reads code v text j texts rest few reads h = (
  count_reads (codes "code") code (inside_literal (codes "code") refl) (omega (arith, few)),
  (
    member_reads (codes "type") (plain (sig (type_of v))) (json.string (sig (type_of v))) (inside_literal (codes "type") refl) (plain_reads (sig (type_of v)) (sig_inside (type_of v))),
    (member_reads (codes "value") text j (inside_literal (codes "value") refl) reads, h),
  ),
)

other_given : (integers : Integers) (room : ℕ) (before_known : Bool) (p : Placed) (text value : List ℕ) → Held room p → Kept integers (2 * room) p.1.value value → text ≡ written.object (other_texts p.1.code (sig (type_of p.1.value)) value (place_members before_known p.0))
    → KeptOther integers (1 + 2 * room) before_known p text
other_given integers room true p text value held k e =
    let place = member (codes "place") (json.number (decimal p.0)) no_members in
    let ms = other_members p.1.code (sig (type_of p.1.value)) k.j place in
    let placed = count_reads (codes "place") p.0 (inside_literal (codes "place") refl) held.place in
    record {
      j = json.object ms;
      spelled = record { ms = ms; is = refl; named = refl; distinct = distinct_new (keys ms) (refl, (refl, (refl, (refl, tt)))); code = refl; type = refl; value = k.j; held = refl; spelled = k.spelled; placed = refl };
      nests = omega (arith, k.nests);
      reads = subst (λ (s : List ℕ). Reads s (json.object ms)) (sym e) (object_reads (other_texts p.1.code (sig (type_of p.1.value)) value (place_members true p.0)) ms (other_reads p.1.code p.1.value value k.j (place_members true p.0) place held.code k.reads (placed, tt)));
    }
other_given integers room false p text value held k e =
    let ms = other_members p.1.code (sig (type_of p.1.value)) k.j no_members in
    record {
      j = json.object ms;
      spelled = record { ms = ms; is = refl; named = refl; distinct = distinct_new (keys ms) (refl, (refl, (refl, tt))); code = refl; type = refl; value = k.j; held = refl; spelled = k.spelled; placed = refl };
      nests = omega (arith, k.nests);
      reads = subst (λ (s : List ℕ). Reads s (json.object ms)) (sym e) (object_reads (other_texts p.1.code (sig (type_of p.1.value)) value []) ms (other_reads p.1.code p.1.value value k.j [] no_members held.code k.reads tt));
    }

other_kept : (integers : Integers) (room : ℕ) (before_known : Bool) (p : Placed) (text : List ℕ) → Held room p → lines.IsOther integers before_known p.0 p.1.code p.1.value text → KeptOther integers (1 + 2 * room) before_known p text
other_kept integers room before_known p text held is = other_given integers room before_known p text is.value held (held_value integers room p is.value held is.json) is.is

pub record KeptOthers (integers : Integers) (most : ℕ) (is_before : ℕ → Bool) (ps : List Placed) (texts : List (List ℕ)) : Type 0 where
  pub js : List Json
  pub spelled : AllZip (λ p j. IsOther integers (is_before p.0) p.0 p.1 j) ps js
  pub nests : items_depth (items_of js) ≤ most
  pub reads : AllRead texts (items_of js)

pub others_kept : (integers : Integers) (room : ℕ) (is_before : ℕ → Bool) (ps : List Placed) (texts : List (List ℕ)) → AllByRecursion (Held room) ps → AreFieldTexts (λ place code v text. lines.IsOther integers (is_before place) place code v text) ps texts → KeptOthers integers (1 + 2 * room) is_before ps texts
others_kept integers room is_before [] [] held are = record { js = []; spelled = tt; nests = omega arith; reads = tt }
others_kept integers room is_before (p ∷ ps) (t ∷ texts) held are =
    let one = other_kept integers room (is_before p.0) p t held.0 are.0 in
    let later = others_kept integers room is_before ps texts held.1 are.1 in
    record { js = one.j ∷ later.js; spelled = (one.spelled, later.spelled); nests = omega (arith, one.nests, later.nests); reads = (one.reads, later.reads) }
others_kept integers room is_before ps texts held are = absurd are
