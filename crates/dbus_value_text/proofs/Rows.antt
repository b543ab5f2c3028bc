-- Texts in a row, the first after a lead and each other after a separator: one text more.
use Rattle.std.proofs.Common.{◌≡◌, ℕ, List, [], ◌∷◌, ◌++◌, Bool, true, false, ◌&&◌, ◌||◌, cond, nat_lt, drop, filter, ◌≤◌, inl, inr, append_assoc, refl, sym, ap, subst, ◌∙◌, ◌+◌, ◌<◌, length, arith, lit<}
use Rattle.std.specs.List.{flat_map, list_all, list_any, enumerate_from}
use Rattle.std.proofs.Math.ListN.{drop_of_length-le}
use Rattle.std.proofs.lemmas.Bool.{cases_lt, le-ltb, lt-ltb}
use Rattle.std.proofs.lemmas.List.{append-nil, length-append, drop-append-le}
use Rattle.std.proofs.lemmas.List.Concat.{flat_map-append}
use Rattle.std.proofs.lemmas.List.Elements.{filter-append}
use Rattle.std.proofs.lemmas.List.Folds.{list_all-append, list_any-append}
use Rattle.std.specs.Str.{IsAscii}
use Rattle.std.proofs.lemmas.Str.{IsAscii-append}
use Rattle.std.proofs.lemmas.Str.Ascii.{IsAscii-nil, IsAscii-cons}
use Rattle.dbus_value_model.specs.Values.{ValueTree, value_trees, ValueTrees, NoValues, MoreValues, AllOf, IsWellFormed, AreWellFormed}
use Rattle.dbus_message_model.specs.Messages.{FieldTree}
use Rattle.dbus_show.proofs.FieldTexts.{then}
use Rattle.dbus_texts.specs.Types.{NumberCode, BYTE, DOUBLE, TextCode, STRING, TypeTree, NumberType, TextType, VariantType, ArrayType, StructType, EntryType, TypeTrees, NoTypes, MoreTypes, number_code, text_code, sig, sigs}
use Rattle.dbus_texts.specs.PlainTypes.{is_byte}
use Rattle.dbus_value_model.specs.declared.order.Order.{Order}
use Rattle.dbus_value_model.specs.Spelling.{spelling, spellings}
use Rattle.dbus_types.specs.SignatureCodes.{first_code}
use Rattle.dbus_value_model.proofs.Numbers.{byte_spelled}
use Rattle.dbus_show.specs.ShownValues.{bytes_in}
use Rattle.dbus_walk.proofs.NumberFacts.{number_of_type}
use Rattle.dbus_value_text.specs.declared.fields.FieldsTaken.{FieldsTaken}
use Rattle.dbus_value_text.specs.Gaining.{Joins}
use Rattle.dbus_value_text.specs.Forms.{AreTexts, led, AreFieldTexts, taken_fields}
use Rattle.dbus_value_text.specs.WritingLaws.{texts_push}

-- what stands before a text after these
abbrev pub next_lead : (lead separator : List ℕ) → List (List ℕ) → List ℕ
next_lead lead separator [] = lead
next_lead lead separator (text ∷ texts) = separator

led_push : (lead separator : List ℕ) (texts : List (List ℕ)) (text : List ℕ) → led lead separator (texts ++ text ∷ []) ≡ led lead separator texts ++ (next_lead lead separator texts ++ text)
led_push lead separator [] text = ap (λ (s : List ℕ). lead ++ s) (append-nil text)
led_push lead separator (t ∷ texts) text =
    let more = λ (y : List ℕ). separator ++ y in
    let rest = flat_map more texts in
    ap (λ (s : List ℕ). lead ++ (t ++ s)) (flat_map-append more texts (text ∷ []) ∙ ap (λ (s : List ℕ). rest ++ s) (append-nil (more text)))
    ∙ ap (λ (s : List ℕ). lead ++ s) (sym (append_assoc t rest (more text))) ∙ sym (append_assoc lead (t ++ rest) (more text))

next_push : (lead separator : List ℕ) (texts : List (List ℕ)) (text : List ℕ) → separator ≡ next_lead lead separator (texts ++ text ∷ [])
next_push lead separator [] text = refl
next_push lead separator (t ∷ texts) text = refl

-- of fields, each after its place
abbrev Placed : Type 0
Placed = ℕ × FieldTree

are_push : (Is : ℕ → ℕ → ValueTree → List ℕ → Type 0) (ps : List Placed) (p : Placed) (texts : List (List ℕ)) (text : List ℕ)
    → AreFieldTexts Is ps texts → Is p.0 p.1.code p.1.value text → AreFieldTexts Is (ps ++ p ∷ []) (texts ++ text ∷ [])
are_push Is [] p [] text h is = (is, tt)
are_push Is [] p (t ∷ texts) text h is = absurd h
are_push Is (e ∷ ps) p [] text h is = absurd h
are_push Is (e ∷ ps) p (t ∷ texts) text h is = (h.0, are_push Is ps p texts text h.1 is)

placed_push : (n : ℕ) (fs : List FieldTree) (f : FieldTree) → enumerate_from n (fs ++ f ∷ []) ≡ enumerate_from n fs ++ (length fs + n, f) ∷ []
placed_push n [] f = ap (λ (k : ℕ). (k, f) ∷ []) (omega arith)
placed_push n (e ∷ fs) f =
    ap (λ (ps : List Placed). (n, e) ∷ ps) (placed_push (n + 1) fs f ∙ ap (λ (k : ℕ). enumerate_from (n + 1) fs ++ (k, f) ∷ []) (omega arith))

taken_push : (is_taken : ℕ → Bool) (fs : List FieldTree) (f : FieldTree) (answer : Bool) → is_taken f.code ≡ answer
    → taken_fields is_taken (fs ++ f ∷ []) ≡ taken_fields is_taken fs ++ cond answer ((length fs, f) ∷ []) []
taken_push is_taken fs f answer is =
    ap (λ (ps : List Placed). filter (λ (p : Placed). is_taken p.1.code) ps) (placed_push 0 fs f ∙ ap (λ (k : ℕ). enumerate_from 0 fs ++ (k, f) ∷ []) (omega arith))
    ∙ filter-append (λ (p : Placed). is_taken p.1.code) (enumerate_from 0 fs) ((length fs, f) ∷ [])
    ∙ ap (λ (a : Bool). taken_fields is_taken fs ++ cond a ((length fs, f) ∷ []) []) is

and_true : (b : Bool) → (b && true) ≡ b
and_true true = refl
and_true false = refl

and_false : (b : Bool) → (b && false) ≡ false
and_false true = refl
and_false false = refl

-- whether all fields are taken
abbrev pub are_taken : (is_taken : ℕ → Bool) → List FieldTree → Bool
are_taken is_taken fs = list_all (λ (f : FieldTree). is_taken f.code) fs

all_push : (is_taken : ℕ → Bool) (fs : List FieldTree) (f : FieldTree) (answer : Bool) → is_taken f.code ≡ answer → are_taken is_taken (fs ++ f ∷ []) ≡ (are_taken is_taken fs && answer)
all_push is_taken fs f answer is =
    list_all-append (λ (e : FieldTree). is_taken e.code) fs (f ∷ []) ∙ ap (λ (b : Bool). are_taken is_taken fs && b) (and_true (is_taken f.code) ∙ is)

-- whether one of the fields from a place on is taken
abbrev pub is_taken_from : (is_taken : ℕ → Bool) → (place : ℕ) → List FieldTree → Bool
is_taken_from is_taken place fs = list_any (λ (f : FieldTree). is_taken f.code) (drop place fs)

none_from : (is_taken : ℕ → Bool) (place : ℕ) (fs : List FieldTree) → length fs ≤ place → is_taken_from is_taken place fs ≡ false
none_from is_taken place fs h = ap (list_any (λ (f : FieldTree). is_taken f.code)) (drop_of_length-le fs h)

or_false : (b : Bool) → (b || false) ≡ b
or_false true = refl
or_false false = refl

or_true : (b : Bool) → (b || true) ≡ true
or_true true = refl
or_true false = refl

from_push : (is_taken : ℕ → Bool) (place : ℕ) (fs : List FieldTree) (f : FieldTree) (answer : Bool) → is_taken f.code ≡ answer → place ≤ length fs
    → is_taken_from is_taken place (fs ++ f ∷ []) ≡ (is_taken_from is_taken place fs || answer)
from_push is_taken place fs f answer is h =
    ap (list_any (λ (e : FieldTree). is_taken e.code)) (drop-append-le place fs (f ∷ []) h)
    ∙ list_any-append (λ (e : FieldTree). is_taken e.code) (drop place fs) (f ∷ [])
    ∙ ap (λ (b : Bool). is_taken_from is_taken place fs || b) (or_false (is_taken f.code) ∙ is)

-- one more that is not taken
passed_from : (is_taken : ℕ → Bool) (place : ℕ) (fs : List FieldTree) (f : FieldTree) → is_taken f.code ≡ false → is_taken_from is_taken place (fs ++ f ∷ []) ≡ is_taken_from is_taken place fs
passed_from is_taken place fs f is =
    elim (cases_lt (length fs) place) [
      | inl lt ↦ none_from is_taken place (fs ++ f ∷ []) (omega (arith, lt, length-append fs (f ∷ []))) ∙ sym (none_from is_taken place fs (omega (arith, lt)))
      | inr le ↦ from_push is_taken place fs f false is le ∙ or_false (is_taken_from is_taken place fs)
    ]

-- one more that is taken
taken_from : (is_taken : ℕ → Bool) (place : ℕ) (fs : List FieldTree) (f : FieldTree) → is_taken f.code ≡ true → is_taken_from is_taken place (fs ++ f ∷ []) ≡ nat_lt place (length fs + 1)
taken_from is_taken place fs f is =
    elim (cases_lt (length fs) place) [
      | inl lt ↦ none_from is_taken place (fs ++ f ∷ []) (omega (arith, lt, length-append fs (f ∷ []))) ∙ sym (le-ltb place (length fs + 1) (omega (arith, lt)))
      | inr le ↦ from_push is_taken place fs f true is le ∙ or_true (is_taken_from is_taken place fs) ∙ sym (lt-ltb place (length fs + 1) (omega (arith, le)))
    ]

module _ {D : Type 0} (gains : D → List ℕ → D → Type 0) (lead separator : List ℕ) (before : D) where
  -- the draft has gained these texts, and this stands before the next one
  pub record Led (now : D) (next : List ℕ) (texts : List (List ℕ)) : Type 0 where
    pub gained : gains before (led lead separator texts) now
    pub leads : next ≡ next_lead lead separator texts

  none_led : gains before [] before → Led before lead []
  none_led nothing = record { gained = nothing; leads = refl }

  one_led : Joins gains → (now pushed after : D) (next : List ℕ) (texts : List (List ℕ)) (text : List ℕ) → Led now next texts → gains now next pushed → gains pushed text after → Led after separator (texts ++ text ∷ [])
  one_led joins now pushed after next texts text h apart gained = record {
    gained = subst (λ (t : List ℕ). gains before t after) (sym (led_push lead separator texts text)) (then gains joins h.gained (then gains joins (subst (λ (t : List ℕ). gains now t pushed) h.leads apart) gained));
    leads = next_push lead separator texts text;
  }

  -- ---- values

  module _ (Is : ValueTree → List ℕ → Type 0) where
    abbrev pub ValuesLed : (now : D) → (next : List ℕ) → List ValueTree → Type 0
    ValuesLed now next xs = (texts : List (List ℕ)) × AreTexts Is (value_trees xs) texts × Led now next texts

    pub no_values_led : gains before [] before → ValuesLed before lead []
    no_values_led nothing = ([], tt, none_led nothing)

    pub value_led : Joins gains → (now pushed after : D) (next : List ℕ) (xs : List ValueTree) (v : ValueTree) (text : List ℕ) → ValuesLed now next xs
        → gains now next pushed → Is v text → gains pushed text after → ValuesLed after separator (xs ++ v ∷ [])
    value_led joins now pushed after next xs v text h apart is gained =
        (h.0 ++ text ∷ [], texts_push Is xs v h.0 text h.1 is, one_led joins now pushed after next h.0 text h.2 apart gained)

  -- ---- fields

  module _ (is_taken : ℕ → Bool) (Is : ℕ → ℕ → ValueTree → List ℕ → Type 0) where
    -- the draft has the texts of those of these fields that are taken
    pub record FieldsLed (now : D) (next : List ℕ) (place : ℕ) (taken : FieldsTaken) (fs : List FieldTree) : Type 0 where
      pub texts : List (List ℕ)
      pub are : AreFieldTexts Is (taken_fields is_taken fs) texts
      pub led : Led now next texts
      pub counted : place ≡ length fs
      pub all : taken.all ≡ are_taken is_taken fs
      pub end : (n : ℕ) → is_taken_from is_taken n fs ≡ nat_lt n taken.end

    pub no_fields_led : gains before [] before → FieldsLed before lead 0 (record { all = true; end = 0 }) []
    no_fields_led nothing = record {
      texts = [];
      are = tt;
      led = none_led nothing;
      counted = refl;
      all = refl;
      end = λ n. none_from is_taken n [] (omega arith) ∙ sym (le-ltb n 0 (omega arith));
    }

    pub field_led : Joins gains → (now pushed after : D) (next : List ℕ) (place : ℕ) (taken : FieldsTaken) (fs : List FieldTree) (f : FieldTree) (text : List ℕ) → FieldsLed now next place taken fs
        → is_taken f.code ≡ true → gains now next pushed → Is place f.code f.value text → gains pushed text after
        → FieldsLed after separator (place + 1) (record { all = taken.all; end = place + 1 }) (fs ++ f ∷ [])
    field_led joins now pushed after next place taken fs f text h taken_it apart is gained = record {
      texts = h.texts ++ text ∷ [];
      are = subst (λ (ps : List Placed). AreFieldTexts Is ps (h.texts ++ text ∷ [])) (sym (taken_push is_taken fs f true taken_it))
          (are_push Is (taken_fields is_taken fs) (length fs, f) h.texts text h.are (subst (λ (k : ℕ). Is k f.code f.value text) h.counted is));
      led = one_led joins now pushed after next h.texts text h.led apart gained;
      counted = omega (arith, h.counted, length-append fs (f ∷ []));
      all = h.all ∙ sym (all_push is_taken fs f true taken_it ∙ and_true (are_taken is_taken fs));
      end = λ n. taken_from is_taken n fs f taken_it ∙ ap (λ (k : ℕ). nat_lt n (k + 1)) (sym h.counted);
    }

    pub field_passed : (now : D) (next : List ℕ) (place : ℕ) (taken : FieldsTaken) (fs : List FieldTree) (f : FieldTree) → FieldsLed now next place taken fs → is_taken f.code ≡ false
        → FieldsLed now next (place + 1) (record { all = false; end = taken.end }) (fs ++ f ∷ [])
    field_passed now next place taken fs f h passed = record {
      texts = h.texts;
      are = subst (λ (ps : List Placed). AreFieldTexts Is ps h.texts) (sym (taken_push is_taken fs f false passed ∙ append-nil (taken_fields is_taken fs))) h.are;
      led = h.led;
      counted = omega (arith, h.counted, length-append fs (f ∷ []));
      all = sym (all_push is_taken fs f false passed ∙ and_false (are_taken is_taken fs));
      end = λ n. passed_from is_taken n fs f passed ∙ h.end n;
    }

-- Types and texts as they are written, and the bytes of an array of BYTE.

-- ---- a type's text is ASCII

number_ascii : (k : NumberCode) → number_code k < 128
number_ascii BYTE = lit< tt
number_ascii k = lit< tt

text_ascii : (k : TextCode) → text_code k < 128
text_ascii STRING = lit< tt
text_ascii k = lit< tt

one_ascii : (c : ℕ) → c < 128 → IsAscii (c ∷ [])
one_ascii c h = IsAscii-cons c [] h IsAscii-nil

mutual
  sig_ascii : (t : TypeTree) → IsAscii (sig t)
  sig_ascii (NumberType k) = one_ascii (number_code k) (number_ascii k)
  sig_ascii (TextType k) = one_ascii (text_code k) (text_ascii k)
  sig_ascii VariantType = one_ascii 118 (lit< tt)
  sig_ascii (ArrayType t) = IsAscii-cons 97 (sig t) (lit< tt) (sig_ascii t)
  sig_ascii (StructType ts) = IsAscii-cons 40 (sigs ts ++ 41 ∷ []) (lit< tt) (IsAscii-append (sigs ts) (41 ∷ []) (sigs_ascii ts) (one_ascii 41 (lit< tt)))
  sig_ascii (EntryType k v) =
      IsAscii-cons 123 (sig k ++ (sig v ++ 125 ∷ [])) (lit< tt)
      (IsAscii-append (sig k) (sig v ++ 125 ∷ []) (sig_ascii k) (IsAscii-append (sig v) (125 ∷ []) (sig_ascii v) (one_ascii 125 (lit< tt))))

  sigs_ascii : (ts : TypeTrees) → IsAscii (sigs ts)
  sigs_ascii NoTypes = IsAscii-nil
  sigs_ascii (MoreTypes t ts) = IsAscii-append (sig t) (sigs ts) (sig_ascii t) (sigs_ascii ts)

pub types_ascii : (t : TypeTree) (types : List ℕ) → sig t ≡ types → IsAscii types
types_ascii t types e = subst IsAscii e (sig_ascii t)

-- ---- arrays of BYTE

pub byte_is : (t : TypeTree) → first_code t ≡ 121 → t ≡ NumberType BYTE
byte_is (NumberType BYTE) e = refl
byte_is (TextType STRING) e = absurd (omega arith)
byte_is t e = absurd (omega arith)

pub not_byte : (t : TypeTree) → (first_code t ≡ 121 → ⊥) → is_byte t ≡ false
not_byte (NumberType BYTE) h = absurd (h refl)
not_byte t h = refl

pub double_code : (k : NumberCode) → number_code k ≡ 100 → k ≡ DOUBLE
double_code DOUBLE e = refl
double_code k e = absurd (omega arith)

pub bytes_spelled : (order : Order) (depth_left o : ℕ) (xs : ValueTrees) → AllOf (NumberType BYTE) xs → AreWellFormed depth_left xs → spellings order o xs ≡ bytes_in xs
unfolding spellings
bytes_spelled order depth_left o NoValues all formed = refl
bytes_spelled order depth_left o (MoreValues v xs) all formed =
    let n = number_of_type v BYTE all.0 in
    let fits : n.0 < 256 = subst (λ (x : ValueTree). IsWellFormed depth_left x) n.1 formed.0 in
    let one : spelling order o v ≡ n.0 ∷ [] = ap (λ (x : ValueTree). spelling order o x) n.1 ∙ byte_spelled order o n.0 fits in
    let rest = bytes_spelled order depth_left (o + length (spelling order o v)) xs all.1 formed.1 in
    ap (λ (s : List ℕ). s ++ spellings order (o + length (spelling order o v)) xs) one
    ∙ ap (λ (s : List ℕ). n.0 ∷ s) rest
    ∙ sym (ap (λ (x : ValueTree). bytes_in (MoreValues x xs)) n.1)
