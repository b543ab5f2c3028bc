-- Texts of JSON, through the lexer: numbers, strings, arrays and objects, and the tokens of each.
-- RFC 8259, sections 3 to 7.
use Rattle.std.proofs.Common.{◌≡◌, ℕ, suc, ◌<◌, ℤ, pos, negsuc, Bool, true, false, cond, List, [], ◌∷◌, ◌++◌, get_or, option_and_then, codes, IsUtf8, decimal, refl, sym, ap, ap₂, ◌∙◌, arith, append_assoc}
use Rattle.std.proofs.lemmas.Bool.{ne_eqb}
use Rattle.std.proofs.lemmas.Fmt.{first_decimal}
use Rattle.std.proofs.lemmas.Str.{IsUtf8-append, IsUtf8-nil}
use Rattle.std.specs.Fmt.{signed_decimal}
use Rattle.json.specs.Token as tokens
use Rattle.json.specs.Token.{Token}
use Rattle.json.specs.Word.{ends_word, word, after_whole, after_fraction, after_exponent, after_number}
use Rattle.json.specs.Lex.{lex, between, token, colon, Place, fresh, after_value, after_comma, after_key, begins_colon, may_begin, if_allowed, place_token, punctuate}
use Rattle.json.specs.Print.{IsNumber}
use Rattle.json.specs.Json.{Json, Items, no_items, item, Members, no_members, member}
use Rattle.json.specs.Json as json
use Rattle.json.specs.Tree.{json_tokens, items_tokens, members_tokens}
use Rattle.json.proofs.Printed.Numbers.{lex-number, in_word-ended}
use Rattle.json.proofs.Printed.Utf8.{are_ascii, IsUtf8-are_ascii}
use Rattle.json.proofs.Printed.Decimals.{IsNumber-decimal}
use Rattle.dbus_json.specs.JsonValues as written
use Rattle.dbus_json.specs.JsonValues.{listed}
use Rattle.dbus_json_laws.proofs.Numbers.{AreAll}
use Rattle.dbus_json_laws.proofs.Lexed.{Inside, inside_utf8, plain_utf8, lex_plain}
use Rattle.dbus_json_laws.proofs.Values.{more}
use Rattle.dbus_json_reader.proofs.NumberTexts.{Fits64}

-- ---- a text whose tokens are those of a JSON value

-- what may stand after a value
abbrev pub Ended : List ℕ → Type 0
Ended r = (ends_word r ≡ true) × (begins_colon (lex between r) ≡ false)

-- a text of UTF-8, which is read as these tokens where a value may begin
pub record IsReadAs (text : List ℕ) (ts : List Token) : Type 0 where
  pub utf8 : IsUtf8 text
  pub parsed : (p : Place) (r : List ℕ) → may_begin p ≡ true → Ended r → punctuate p (lex between (text ++ r)) ≡ ts ++ punctuate after_value (lex between r)

abbrev pub Reads : List ℕ → Json → Type 0
Reads text j = IsReadAs text (json_tokens j)

abbrev pub MemberReads : List ℕ → List ℕ → Json → Type 0
MemberReads text name j = IsReadAs text (tokens.key name ∷ json_tokens j)

allowed : (b : Bool) (t : Token) (k : Place → List Token) (next : Place) → b ≡ true → if_allowed b t k next ≡ t ∷ k next
allowed b t k next e = ap (λ (x : Bool). if_allowed x t k next) e

pub at_end : Ended []
unfolding lex
at_end = (refl, refl)

pub at_bracket : (r : List ℕ) → Ended (93 ∷ r)
unfolding lex
at_bracket r = (refl, refl)

pub at_brace : (r : List ℕ) → Ended (125 ∷ r)
unfolding lex
at_brace r = (refl, refl)

at_comma : (r : List ℕ) → Ended (44 ∷ r)
unfolding lex
at_comma r = (refl, refl)

after_more : (ts : List (List ℕ)) (r : List ℕ) → Ended r → Ended (more ts ++ r)
after_more [] r h = h
after_more (t ∷ ts) r h = at_comma ((t ++ more ts) ++ r)

-- ---- numbers, true and false

pub number_reads : (s : List ℕ) → AreAll Inside s → IsNumber s → Reads s (json.number s)
unfolding punctuate
number_reads s inside is = record {
  utf8 = inside_utf8 s inside;
  parsed = λ p r may e. ap (punctuate p) (lex-number s r is e.0) ∙ allowed (may_begin p) (tokens.number s) (λ n. punctuate n (lex between r)) after_value may;
}

lex_true : (r : List ℕ) → ends_word r ≡ true → lex between (codes "true" ++ r) ≡ token (tokens.boolean true) ∷ lex between r
unfolding lex word
lex_true r e = ap₂ (λ b ls. token (cond b (tokens.boolean true) tokens.bad) ∷ ls) e (in_word-ended r e)

lex_false : (r : List ℕ) → ends_word r ≡ true → lex between (codes "false" ++ r) ≡ token (tokens.boolean false) ∷ lex between r
unfolding lex word
lex_false r e = ap₂ (λ b ls. token (cond b (tokens.boolean false) tokens.bad) ∷ ls) e (in_word-ended r e)

pub true_reads : Reads (codes "true") (json.boolean true)
unfolding punctuate
true_reads = record {
  utf8 = IsUtf8-are_ascii (codes "true") refl;
  parsed = λ p r may e. ap (punctuate p) (lex_true r e.0) ∙ allowed (may_begin p) (tokens.boolean true) (λ n. punctuate n (lex between r)) after_value may;
}

pub false_reads : Reads (codes "false") (json.boolean false)
unfolding punctuate
false_reads = record {
  utf8 = IsUtf8-are_ascii (codes "false") refl;
  parsed = λ p r may e. ap (punctuate p) (lex_false r e.0) ∙ allowed (may_begin p) (tokens.boolean false) (λ n. punctuate n (lex between r)) after_value may;
}

-- a minus before a number that does not begin with a zero
negated : (s : List ℕ) → 48 < get_or s 0 0 → IsNumber s → IsNumber (45 ∷ s)
unfolding after_number
negated [] h is = absurd (omega (arith, h))
negated (x ∷ s) h is =
    sym (ap (λ (b : Bool). option_and_then after_exponent (option_and_then after_fraction (after_whole (cond b s (x ∷ s))))) (ne_eqb x 45 (λ e. omega (arith, h, e)))) ∙ is

pub signed_number : (z : ℤ) → Fits64 z → IsNumber (signed_decimal z)
signed_number (pos n) h = IsNumber-decimal n h
signed_number (negsuc n) h = negated (decimal (suc n)) (first_decimal (suc n) (omega arith) h) (IsNumber-decimal (suc n) h)

-- ---- strings and names

-- a text that is lexed as a string
pub string_reads : (s text : List ℕ) → IsUtf8 s → ((r : List ℕ) → lex between (s ++ r) ≡ token (tokens.string text) ∷ lex between r) → Reads s (json.string text)
unfolding punctuate
string_reads s text utf8 lexed = record {
  utf8 = utf8;
  parsed = λ p r may e.
      ap (punctuate p) (lexed r) ∙ ap (λ (b : Bool). place_token p (tokens.string text) b (λ n. punctuate n (lex between r))) e.1
      ∙ allowed (may_begin p) (tokens.string text) (λ n. punctuate n (lex between r)) after_value may;
}

pub plain_reads : (text : List ℕ) → AreAll Inside text → Reads (written.plain text) (json.string text)
plain_reads text h = string_reads (written.plain text) text (plain_utf8 text (inside_utf8 text h)) (λ r. lex_plain text r h)

lex_name : (name rest : List ℕ) → AreAll Inside name → lex between (written.plain name ++ 58 ∷ rest) ≡ token (tokens.string name) ∷ colon ∷ lex between rest
unfolding lex
lex_name name rest h = lex_plain name (58 ∷ rest) h

pub member_reads : (name value : List ℕ) (j : Json) → AreAll Inside name → Reads value j → MemberReads (written.member name value) name j
unfolding punctuate
member_reads name value j h reads = record {
  utf8 = IsUtf8-append (written.plain name) (58 ∷ value) (plain_utf8 name (inside_utf8 name h)) (IsUtf8-append (58 ∷ []) value (IsUtf8-are_ascii (58 ∷ []) refl) reads.utf8);
  parsed = λ p r may e.
      ap (λ (u : List ℕ). punctuate p (lex between u)) (append_assoc (written.plain name) (58 ∷ value) r)
      ∙ ap (punctuate p) (lex_name name (value ++ r) h)
      ∙ allowed (may_begin p) (tokens.key name) (λ n. punctuate n (colon ∷ lex between (value ++ r))) after_key may
      ∙ ap (λ (ts : List Token). tokens.key name ∷ ts) (reads.parsed fresh r refl e);
}

-- ---- texts in a row

abbrev AllUtf8 : List (List ℕ) → Type 0
AllUtf8 [] = Unit {0}
AllUtf8 (t ∷ ts) = IsUtf8 t × AllUtf8 ts

more_utf8 : (ts : List (List ℕ)) → AllUtf8 ts → IsUtf8 (more ts)
more_utf8 [] h = IsUtf8-nil
more_utf8 (t ∷ ts) h = IsUtf8-append (44 ∷ t) (more ts) (IsUtf8-append (44 ∷ []) t (IsUtf8-are_ascii (44 ∷ []) refl) h.0) (more_utf8 ts h.1)

listed_utf8 : (ts : List (List ℕ)) → AllUtf8 ts → IsUtf8 (listed ts)
listed_utf8 [] h = IsUtf8-nil
listed_utf8 (t ∷ ts) h = IsUtf8-append t (more ts) h.0 (more_utf8 ts h.1)

brackets_utf8 : (first last : ℕ) (ts : List (List ℕ)) → are_ascii (first ∷ []) ≡ true → are_ascii (last ∷ []) ≡ true → AllUtf8 ts → IsUtf8 (first ∷ (listed ts ++ last ∷ []))
brackets_utf8 first last ts a b h = IsUtf8-append (first ∷ []) (listed ts ++ last ∷ []) (IsUtf8-are_ascii (first ∷ []) a) (IsUtf8-append (listed ts) (last ∷ []) (listed_utf8 ts h) (IsUtf8-are_ascii (last ∷ []) b))

-- a text before others, and the tokens of all
one_more : (p : Place) → may_begin p ≡ true → (t : List ℕ) (us : List Token) → IsReadAs t us → (ts : List (List ℕ)) (r : List ℕ) → Ended r → (vs rest : List Token)
    → punctuate after_value (lex between (more ts ++ r)) ≡ vs ++ rest → punctuate p (lex between ((t ++ more ts) ++ r)) ≡ (us ++ vs) ++ rest
one_more p may t us h ts r ended vs rest e =
    ap (λ (u : List ℕ). punctuate p (lex between u)) (append_assoc t (more ts) r)
    ∙ h.parsed p (more ts ++ r) may (after_more ts r ended)
    ∙ ap (λ (ws : List Token). us ++ ws) e
    ∙ sym (append_assoc us vs rest)

-- ---- arrays

abbrev pub AllRead : List (List ℕ) → Items → Type 0
AllRead [] no_items = Unit {0}
AllRead (t ∷ ts) (item j js) = Reads t j × AllRead ts js
AllRead [] (item j js) = ⊥
AllRead (t ∷ ts) no_items = ⊥

items_utf8 : (ts : List (List ℕ)) (js : Items) → AllRead ts js → AllUtf8 ts
items_utf8 [] no_items h = tt
items_utf8 (t ∷ ts) (item j js) h = (h.0.utf8, items_utf8 ts js h.1)
items_utf8 ts js h = absurd h

more_items : (ts : List (List ℕ)) (js : Items) → AllRead ts js → (r : List ℕ) → punctuate after_value (lex between (more ts ++ 93 ∷ r)) ≡ items_tokens js ++ punctuate after_value (lex between r)
unfolding lex punctuate
more_items [] no_items h r = refl
more_items (t ∷ ts) (item j js) h r = one_more after_comma refl t (json_tokens j) h.0 ts (93 ∷ r) (at_bracket r) (items_tokens js) (punctuate after_value (lex between r)) (more_items ts js h.1 r)
more_items ts js h r = absurd h

all_items : (ts : List (List ℕ)) (js : Items) → AllRead ts js → (r : List ℕ) → punctuate fresh (lex between (listed ts ++ 93 ∷ r)) ≡ items_tokens js ++ punctuate after_value (lex between r)
unfolding lex punctuate
all_items [] no_items h r = refl
all_items (t ∷ ts) (item j js) h r = one_more fresh refl t (json_tokens j) h.0 ts (93 ∷ r) (at_bracket r) (items_tokens js) (punctuate after_value (lex between r)) (more_items ts js h.1 r)
all_items ts js h r = absurd h

open_array : (t : List ℕ) (p : Place) → may_begin p ≡ true → punctuate p (lex between (91 ∷ t)) ≡ tokens.begin_array ∷ punctuate fresh (lex between t)
unfolding lex punctuate
open_array t p may = allowed (may_begin p) tokens.begin_array (λ n. punctuate n (lex between t)) fresh may

pub array_reads : (ts : List (List ℕ)) (js : Items) → AllRead ts js → Reads (written.array ts) (json.array js)
array_reads ts js h = record {
  utf8 = brackets_utf8 91 93 ts refl refl (items_utf8 ts js h);
  parsed = λ p r may e.
      ap (λ (u : List ℕ). punctuate p (lex between (91 ∷ u))) (append_assoc (listed ts) (93 ∷ []) r)
      ∙ open_array (listed ts ++ 93 ∷ r) p may
      ∙ ap (λ (us : List Token). tokens.begin_array ∷ us) (all_items ts js h r);
}

-- ---- objects

abbrev pub AllNamed : List (List ℕ) → Members → Type 0
AllNamed [] no_members = Unit {0}
AllNamed (t ∷ ts) (member name j ms) = MemberReads t name j × AllNamed ts ms
AllNamed [] (member name j ms) = ⊥
AllNamed (t ∷ ts) no_members = ⊥

members_utf8 : (ts : List (List ℕ)) (ms : Members) → AllNamed ts ms → AllUtf8 ts
members_utf8 [] no_members h = tt
members_utf8 (t ∷ ts) (member name j ms) h = (h.0.utf8, members_utf8 ts ms h.1)
members_utf8 ts ms h = absurd h

more_members : (ts : List (List ℕ)) (ms : Members) → AllNamed ts ms → (r : List ℕ) → punctuate after_value (lex between (more ts ++ 125 ∷ r)) ≡ members_tokens ms ++ punctuate after_value (lex between r)
unfolding lex punctuate
more_members [] no_members h r = refl
more_members (t ∷ ts) (member name j ms) h r =
    one_more after_comma refl t (tokens.key name ∷ json_tokens j) h.0 ts (125 ∷ r) (at_brace r) (members_tokens ms) (punctuate after_value (lex between r)) (more_members ts ms h.1 r)
more_members ts ms h r = absurd h

all_members : (ts : List (List ℕ)) (ms : Members) → AllNamed ts ms → (r : List ℕ) → punctuate fresh (lex between (listed ts ++ 125 ∷ r)) ≡ members_tokens ms ++ punctuate after_value (lex between r)
unfolding lex punctuate
all_members [] no_members h r = refl
all_members (t ∷ ts) (member name j ms) h r =
    one_more fresh refl t (tokens.key name ∷ json_tokens j) h.0 ts (125 ∷ r) (at_brace r) (members_tokens ms) (punctuate after_value (lex between r)) (more_members ts ms h.1 r)
all_members ts ms h r = absurd h

open_object : (t : List ℕ) (p : Place) → may_begin p ≡ true → punctuate p (lex between (123 ∷ t)) ≡ tokens.begin_object ∷ punctuate fresh (lex between t)
unfolding lex punctuate
open_object t p may = allowed (may_begin p) tokens.begin_object (λ n. punctuate n (lex between t)) fresh may

pub object_reads : (ts : List (List ℕ)) (ms : Members) → AllNamed ts ms → Reads (written.object ts) (json.object ms)
object_reads ts ms h = record {
  utf8 = brackets_utf8 123 125 ts refl refl (members_utf8 ts ms h);
  parsed = λ p r may e.
      ap (λ (u : List ℕ). punctuate p (lex between (123 ∷ u))) (append_assoc (listed ts) (125 ∷ []) r)
      ∙ open_object (listed ts ++ 125 ∷ r) p may
      ∙ ap (λ (us : List Token). tokens.begin_object ∷ us) (all_members ts ms h r);
}
