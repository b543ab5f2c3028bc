-- Header fields that stand in the bytes, shown.
use Rattle.std.proofs.Common.{◌≡◌, ℕ, ◌+◌, List, get_or, take, drop, decimal, refl, sym, ap, subst, ◌∙◌, arith, IsUtf8, [], ◌∷◌, ◌++◌, codes, true, append_assoc, length, append-nil, filter}
use Rattle.std.specs.List.{enumerate_from, flat_map}
use Rattle.std.proofs.Props.{props}
use Rattle.dbus_texts.specs.Types.{NumberCode, UINT32, number_code}
use Rattle.dbus_types.specs.Alignments.{width}
use Rattle.dbus_types.specs.SignatureCodes.{first_code}
use Rattle.dbus_types.proofs.TypeCodes.{code_is}
use Rattle.dbus_value_model.specs.Reading.{number_of}
use Rattle.dbus_value_model.specs.Values.{ValueTree, NumberValue, type_of, IsWellFormed}
use Rattle.dbus_walk.specs.Containers.{IsNumberAt, IsTextAt, IsLaidOut}
use Rattle.dbus_walk.specs.Standing.{StandsAt}
use Rattle.dbus_walk.specs.declared.spot.Layout.{Layout}
use Rattle.dbus_walk.specs.declared.spot.Layout.TheVariants as kind
use Rattle.dbus_walk.specs.declared.spot.MessageBytes.{MessageBytes}
use Rattle.dbus_walk.specs.declared.spot.Spot.{Spot}
use Rattle.dbus_walk.proofs.ReadThere.{formed_utf8}
use Rattle.dbus_show.specs.ShownValues.{value_text, value_texts}
use Rattle.dbus_show.specs.ShownMessages.{bare, body_line, field_text, message_text, start_text}
use Rattle.dbus_value_model.specs.declared.order.Order.{Order}
use Rattle.dbus_message_model.specs.Messages.{FieldTree, MessageTree, message_bytes, IsValidMessage}
use Rattle.dbus_value_text.specs.Forms.{AreFieldTexts, AreTexts, led}
use mathlib.Core.Logic.{∥∥₁_elim}
use Rattle.dbus_value_model.specs.Specification.{specification}
use Rattle.dbus_value_model.specs.declared.limits.Limits.{Limits}
use Rattle.dbus_header.specs.MessageOutcomes.{IsWhole}
use Rattle.dbus_header.specs.NoMessage.{BeginsWithNone}
use Rattle.dbus_header.proofs.OutcomeLaws.{one_whole, valid_whole}
use Rattle.dbus_show_view.specs.Plain.{named}
use Rattle.dbus_show_view.specs.PlainLaws.{texts_are}

-- ---- values alone

uint32_code : (k : NumberCode) → number_code k ≡ 117 → k ≡ UINT32
uint32_code UINT32 e = refl
uint32_code k e = absurd (omega arith)

other_number : (k : NumberCode) (n : ℕ) → (number_code k ≡ 117 → ⊥) → bare (NumberValue k n) ≡ value_text (NumberValue k n)
other_number UINT32 n other = absurd (other refl)
other_number k n other = refl

-- what is neither a number nor a text
pub laid_other : (source : MessageBytes) (spot : Spot) (v : ValueTree) (rest : List ℕ) (l : Layout) → IsLaidOut source spot v rest l → ((x y : ℕ) → l ≡ kind.Number x y → ⊥) → ((x y : ℕ) → l ≡ kind.LongText x y → ⊥) → ((x : ℕ) → l ≡ kind.ShortText x → ⊥) → bare v ≡ value_text v
laid_other source spot v rest (kind.Number start size) p number long short = absurd (number start size refl)
laid_other source spot v rest (kind.LongText start n) p number long short = absurd (long start n refl)
laid_other source spot v rest (kind.ShortText n) p number long short = absurd (short n refl)
laid_other source spot v rest (kind.Variant types at) p number long short = ap bare p.is ∙ sym (ap value_text p.is)
laid_other source spot v rest (kind.Array run) p number long short = ap bare p.is ∙ sym (ap value_text p.is)
laid_other source spot v rest (kind.Struct start) p number long short = ap bare p.is ∙ sym (ap value_text p.is)
laid_other source spot v rest (kind.Entry start) p number long short = ap bare p.is ∙ sym (ap value_text p.is)

module _ {source : MessageBytes} {spot : Spot} {v : ValueTree} {rest : List ℕ} (s : StandsAt source spot v rest) where
  -- a text that stands there
  pub text_utf8 : {size start n : ℕ} → IsTextAt source spot v size start n → IsUtf8 (take n (drop (start + size) source.bytes.now))
  text_utf8 p = subst IsUtf8 (sym p.read) (formed_utf8 spot.depth_left p.code p.text (subst (λ (u : ValueTree). IsWellFormed spot.depth_left u) p.is s.formed))

  pub text_bare : {size start n : ℕ} → (p : IsTextAt source spot v size start n) → take n (drop (start + size) source.bytes.now) ≡ bare v
  text_bare p = p.read ∙ sym (ap bare p.is)

  -- a number that stands there, and is no UINT32
  pub number_other : {start size : ℕ} → IsNumberAt source spot v start size → (get_or spot.types.now 0 0 ≡ 117 → ⊥) → bare v ≡ value_text v
  number_other p other =
      let coded : number_code p.code ≡ get_or spot.types.now 0 0 = ap (λ (u : ValueTree). first_code (type_of u)) (sym p.is) ∙ code_is (type_of v) spot.types.now s.text in
      ap bare p.is ∙ other_number p.code p.n (λ e. other (sym coded ∙ e)) ∙ sym (ap value_text p.is)

  -- a UINT32 that stands there
  module _ {start size : ℕ} (p : IsNumberAt source spot v start size) (code : get_or spot.types.now 0 0 ≡ 117) where
    number_is : p.code ≡ UINT32
    number_is = uint32_code p.code (ap (λ (u : ValueTree). first_code (type_of u)) (sym p.is) ∙ code_is (type_of v) spot.types.now s.text ∙ code)

    pub number_wide : size ≡ 4
    number_wide = sym p.wide ∙ ap width number_is

    pub number_bare : decimal (number_of source.order (take 4 (drop start source.bytes.now))) ≡ bare v
    number_bare =
        ap (λ (k : ℕ). decimal (number_of source.order (take k (drop start source.bytes.now)))) (sym number_wide) ∙ ap decimal p.read
        ∙ sym (ap bare p.is ∙ ap (λ (k : NumberCode). bare (NumberValue k p.n)) number_is)

-- The lines of a message by its texts, as they are written.

led_each : (lead : List ℕ) (texts : List (List ℕ)) → led lead lead texts ≡ flat_map (λ (text : List ℕ). lead ++ text) texts
led_each lead [] = refl
led_each lead (t ∷ texts) = sym (append_assoc lead t (flat_map (λ (text : List ℕ). lead ++ text) texts))

-- the fields
abbrev pub AreNamed : List (ℕ × FieldTree) → List (List ℕ) → Type 0
AreNamed ps texts = AreFieldTexts (λ _ code v text. text ≡ named code v) (filter (λ _. true) ps) texts

pub fields_are : (n : ℕ) (fs : List FieldTree) (texts : List (List ℕ)) → AreNamed (enumerate_from n fs) texts → led [] [] texts ≡ flat_map field_text fs
fields_are n [] [] h = refl
fields_are n [] (t ∷ texts) h = absurd h
fields_are n (f ∷ fs) [] h = absurd h
fields_are n (f ∷ fs) (t ∷ texts) h =
    ap (λ (s : List ℕ). s ++ flat_map (λ (text : List ℕ). text) texts) h.0 ∙ ap (λ (s : List ℕ). field_text f ++ s) (sym (led_each [] texts) ∙ fields_are (n + 1) fs texts h.1)

-- the values, each in a line that begins after a line feed: the line feed of the line before it
lines_are : (texts : List (List ℕ)) → flat_map (λ (text : List ℕ). codes "\n  " ++ text) texts ++ codes "\n" ≡ codes "\n" ++ flat_map body_line texts
lines_are [] = refl
lines_are (t ∷ texts) =
    let rest = flat_map (λ (text : List ℕ). codes "\n  " ++ text) texts in
    ap (λ (s : List ℕ). codes "\n  " ++ s) (append_assoc t rest (codes "\n") ∙ ap (λ (s : List ℕ). t ++ s) (lines_are texts) ∙ sym (append_assoc t (codes "\n") (flat_map body_line texts)))

pub whole_message : (order : Order) (m : MessageTree) (number : ℕ) (fields values : List (List ℕ))
    → AreNamed (enumerate_from 0 m.fields) fields → AreTexts (λ v text. text ≡ value_text v) m.body values
    → start_text order m.kind m.serial m.flags number ++ (led [] [] fields ++ (led (codes "\n  ") (codes "\n  ") values ++ codes "\n")) ≡ message_text order m number
whole_message order m number fields values fielded valued =
    let start = start_text order m.kind m.serial m.flags number in
    let named_fields = fields_are 0 m.fields fields fielded in
    let lines : led (codes "\n  ") (codes "\n  ") values ++ codes "\n" ≡ codes "\n" ++ flat_map body_line (value_texts m.body) =
    ap (λ (s : List ℕ). s ++ codes "\n") (led_each (codes "\n  ") values) ∙ lines_are values ∙ ap (λ (ts : List (List ℕ)). codes "\n" ++ flat_map body_line ts) (texts_are m.body values valued) in
    ap (λ (s : List ℕ). start ++ (s ++ (led (codes "\n  ") (codes "\n  ") values ++ codes "\n"))) named_fields
    ∙ ap (λ (s : List ℕ). start ++ (flat_map field_text m.fields ++ s)) lines
    ∙ sym (append_assoc start (flat_map field_text m.fields ++ codes "\n") (flat_map body_line (value_texts m.body)) ∙ ap (λ (s : List ℕ). start ++ s) (append_assoc (flat_map field_text m.fields) (codes "\n") (flat_map body_line (value_texts m.body))))

-- A message's own bytes begin with it alone.

no_proofs : (x y : ⊥) → x ≡ y
no_proofs x y = absurd x

module _ (limits : Limits) (widest : limits ≡ specification) (order : Order) (m : MessageTree) (b : List ℕ) (is : b ≡ message_bytes order m) where
  own_whole : IsValidMessage specification m → IsWhole limits b order m (length b)
  own_whole valid = rw (widest, is) (rw append-nil at (valid_whole specification order m [] valid))

  module _ (valid : ∥ IsValidMessage specification m ∥₁) where
    pub begins_with_one : BeginsWithNone limits b → ⊥
    begins_with_one none = ∥∥₁_elim valid no_proofs (λ ok. none order m (length b) (own_whole ok))

    pub same_text : (other : Order) (n : MessageTree) (size number : ℕ) → IsWhole limits b other n size → message_text other n number ≡ message_text order m number
    same_text other n size number whole = ∥∥₁_elim valid (hlevel props) (λ ok.
        let one = one_whole limits b other order n m size (length b) whole (own_whole ok) in
        ap (λ (o : Order). message_text o n number) one.0 ∙ ap (λ (u : MessageTree). message_text order u number) one.1)
