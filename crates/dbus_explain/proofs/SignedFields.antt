-- The SIGNATURE field of a message, as it is found in bytes that begin as those of the message do.
use Rattle.std.proofs.Common.{◌≡◌, ℕ, ◌+◌, ◌<◌, ◌≤◌, List, [], ◌∷◌, ◌++◌, length, take, drop, get_or, Bool, true, false, nat_eq, ◌||◌, ◌&&◌, if◌then◌else◌, refl, sym, ap, subst, ◌∙◌, arith, Option, None, Some}
use Rattle.std.proofs.lemmas.List.{get_or-take, length-append}
use Rattle.dbus_texts.specs.Types.{SIGNATURE, TextType, sig}
use Rattle.dbus_texts.specs.declared.text_kind.TextKind.{TextKind}
use Rattle.dbus_texts.specs.declared.text_kind.TextKind.TheVariants.{Signature}
use Rattle.dbus_value_laws.proofs.ReadSteps.{number_done, number_fails, number_passes, one_byte}
use Rattle.dbus_value_model.specs.Bytes.{gap_to}
use Rattle.dbus_value_model.specs.Reading.{number, Done, Faulty}
use Rattle.dbus_value_model.specs.Items.{fault, no_row}
use Rattle.dbus_value_model.specs.Spelling.{spelling, spellings}
use Rattle.dbus_value_model.specs.ValueItems.{text_row}
use Rattle.dbus_value_model.specs.Values.{type_of}
use Rattle.dbus_value_model.specs.declared.fault.Reason.{Reason}
use Rattle.dbus_value_model.specs.declared.order.Order.{Order}
use Rattle.dbus_value_model.specs.declared.order.Order.TheVariants.{Little}
use Rattle.dbus_value_model.proofs.Periods.{no_gap}
use Rattle.dbus_message_model.specs.Messages.{FieldTree, AreFields, Suits, body_signature, field_struct, has_code, is_known, text_in, want}
use Rattle.dbus_walk.specs.Fields.{FieldsLeft}
use Rattle.dbus_walk.specs.declared.spot.MessageBytes.{MessageBytes}
use Rattle.dbus_walk.proofs.FieldParts.{field_apart, first_field}
use Rattle.dbus_walk.proofs.Lists.{other_elements}
use Rattle.dbus_walk.proofs.Parts.{short_counts, short_stands}
use Rattle.dbus_walk.proofs.ReadThere.{text_there}
use Rattle.dbus_explain.specs.Places.{IsSignatureField, IsTyped}
use Rattle.dbus_explain.proofs.Entering.{signature_behind}
use Rattle.dbus_explain.proofs.FirstFields.{behind as same_part, rows, shorter}

-- ---- in a message

or_true : (a b : Bool) → b ≡ true → a || b ≡ true
or_true true b e = refl
or_true false b e = e

-- a known field is not there again
known_again : (c : ℕ) (gs : List FieldTree) (f : FieldTree) (others before : List FieldTree) → is_known c ≡ true → AreFields before (gs ++ f ∷ others) → has_code c before ≡ true → f.code ≡ c → ⊥
known_again c [] f others before known are there is =
    let again = subst (λ (k : ℕ). is_known k && has_code k before ≡ false) is are.0.not_again in
    let both : is_known c && has_code c before ≡ true = ap (λ (k : Bool). k && has_code c before) known ∙ there in
    absurd cc
known_again c (g ∷ gs) f others before known are there is = known_again c gs f others (g ∷ before) known are.1 (or_true (nat_eq g.code c) (has_code c before) there) is

-- the one field of the code 8 says the types of the body
says_types : (gs : List FieldTree) (f : FieldTree) (others before : List FieldTree) → AreFields before (gs ++ f ∷ others) → f.code ≡ 8
    → (type_of f.value ≡ TextType SIGNATURE) × (body_signature (gs ++ f ∷ others) ≡ text_in f.value)
says_types [] f others before are is =
    (subst (λ (c : ℕ). Suits (want c) f.value) is are.0.suits, ap (λ (c : ℕ). if nat_eq c 8 then text_in f.value else body_signature others) is)
says_types (g ∷ gs) f others before are is =
    let later = says_types gs f others (g ∷ before) are.1 is in
    (later.0, of (nat_eq g.code 8) refl later.1)
  where
    of : (b : Bool) → nat_eq g.code 8 ≡ b → body_signature (gs ++ f ∷ others) ≡ text_in f.value → body_signature (g ∷ (gs ++ f ∷ others)) ≡ text_in f.value
    of true e later = absurd (known_again 8 gs f others (g ∷ before) refl are.1 (ap (λ (b : Bool). b || has_code 8 before) e) is)
    of false e later = ap (λ (b : Bool). if b then text_in g.value else body_signature (gs ++ f ∷ others)) e ∙ later

-- the fields behind some stand behind them
left_behind : (source : MessageBytes) (depth_left at end : ℕ) (gs more : List FieldTree) (rest : List ℕ) → FieldsLeft source depth_left at end (gs ++ more) rest
    → FieldsLeft source depth_left (at + length (spellings source.order at (rows gs))) end more rest
unfolding spellings
left_behind source depth_left at end [] more rest l = let e : at ≡ at + 0 = omega arith in subst (λ (k : ℕ). FieldsLeft source depth_left k end more rest) e l
left_behind source depth_left at end (g ∷ gs) more rest l =
    let s = spelling source.order at (field_struct g) in
    let q = at + length s in
    let there = left_behind source depth_left q end gs more rest (record { some = l.some; stand = other_elements l.stand }) in
    let e : q + length (spellings source.order q (rows gs)) ≡ at + length (s ++ spellings source.order q (rows gs)) = omega (arith, length-append s (spellings source.order q (rows gs))) in
    subst (λ (k : ℕ). FieldsLeft source depth_left k end more rest) e there

-- ---- a text of types, by its length

-- the length of a text of types is one byte
typed_length : (bytes : List ℕ) (at : ℕ) (kind : TextKind) (p : ℕ) (w : List ℕ) (q : ℕ) → IsTyped bytes at kind p w q → p + 1 ≤ at → p < length bytes → length w ≡ get_or bytes p 0
typed_length bytes at kind p w q h fits inside =
    of (text_row at (p + 1) n) refl (number_done Little 1 at no_row p bytes fits n (omega (arith, inside)) (one_byte Little bytes p inside) refl)
  where
    n : ℕ
    n = get_or bytes p 0

    of : (row : Option Reason) → text_row at (p + 1) n ≡ row → number Little 1 at no_row p (drop p bytes) ≡ Done n (p + 1) (drop (p + 1) bytes) → length w ≡ n
    of None e alone =
        let read = number_passes Little 1 at (text_row at) p (drop p bytes) n (p + 1) (drop (p + 1) bytes) alone e in
        let same : Done (length w) (p + 1) (drop (p + 1) bytes) ≡ Done n (p + 1) (drop (p + 1) bytes) = sym (h.measured Little) ∙ read in
        cc
    of (Some why) e alone =
        let read = number_fails Little 1 at (text_row at) p (drop p bytes) n (p + 1) (drop (p + 1) bytes) alone why e in
        let same : Done (length w) (p + 1) (drop (p + 1) bytes) ≡ Faulty (fault p why) = sym (h.measured Little) ∙ read in
        absurd cc

-- ---- the same bytes

-- one byte of a front is the same
same_byte : (e i : ℕ) (xs ys : List ℕ) → take e xs ≡ take e ys → i < e → get_or xs i 0 ≡ get_or ys i 0
same_byte e i xs ys same less = sym (get_or-take e xs i 0 less) ∙ ap (λ (l : List ℕ). get_or l i 0) same ∙ get_or-take e ys i 0 less

-- The bytes begin as those of a message do, at least up to the end of its header fields: what the
-- SIGNATURE field says that is found in them is what the message's own says.
pub same_signature : (bytes b : List ℕ) (fe p : ℕ) (w : List ℕ) (order : Order) (depth_left : ℕ) (gs more : List FieldTree) (rest : List ℕ) → IsSignatureField bytes fe p w
    → take fe b ≡ take fe bytes → fe ≤ length bytes → AreFields [] (gs ++ more) → p ≡ 16 + length (spellings order 16 (rows gs))
    → FieldsLeft (record { bytes = record { ref_ptr = (0, 0); now = b }; order = order }) depth_left 16 fe (gs ++ more) rest → w ≡ body_signature (gs ++ more)
same_signature bytes b fe p w order depth_left gs more rest h same long are place l =
    let source : MessageBytes = record { bytes = record { ref_ptr = (0, 0); now = b }; order = order } in
    let left = subst (λ (k : ℕ). FieldsLeft source depth_left k fe more rest) (sym place) (left_behind source depth_left 16 fe gs more rest l) in
    let behind = signature_behind bytes fe p w h in
    let first = first_field more left (omega (arith, behind.0, behind.1)) in
    let f = first.f in
    let x = p + gap_to 8 p in
    let n = get_or b (x + 1) 0 in
    let apart = field_apart source depth_left p f first.after first.stands x refl n refl in
    let ends = h.typed.after in
    let stated = h.value.after in
    let within = h.within in
    let code : f.code ≡ 8 = sym apart.code ∙ same_byte fe x b bytes same (omega (arith, ends, stated, within)) ∙ h.code_is in
    let row = subst (λ (fs : List FieldTree). AreFields [] (gs ++ fs)) first.begins are in
    let says = says_types gs f first.others [] row code in
    let long_variant : length h.variant ≡ n =
    typed_length bytes fe Signature (x + 1) h.variant h.q h.typed (omega (arith, ends, stated, within)) (omega (arith, ends, stated, within, long))
    ∙ sym (same_byte fe (x + 1) b bytes same (omega (arith, ends, stated, within))) in
    let here : h.q ≡ x + 1 + 1 + n + 1 = omega (arith, ends, long_variant) in
    let stands = apart.value in
    let coded = ap (λ (l : List ℕ). get_or l 0 0) (sym stands.text ∙ ap sig says.0) in
    let text = short_stands stands coded in
    let counts = short_counts stands text in
    let none = no_gap (x + 1 + 1 + n + 1) in
    let size : length w ≡ length text.text =
    typed_length bytes fe Signature h.q w h.r h.value (omega (arith, stated, within)) (omega (arith, stated, within, long))
    ∙ sym (same_byte fe h.q b bytes same (omega (arith, stated, within))) ∙ ap (λ (k : ℕ). get_or b k 0) here ∙ counts.0 in
    let read : take (length w) (drop (h.q + 1) b) ≡ text.text = text_there stands 1 text (h.q + 1) (length w) (omega (arith, here, none)) size in
    let shared : take (length w) (drop (h.q + 1) b) ≡ take (length w) (drop (h.q + 1) bytes) =
    same_part (h.q + 1) (length w) b bytes (shorter (h.q + 1 + length w) fe b bytes (omega (arith, stated, within)) same) in
    h.value.text_is ∙ sym shared ∙ read ∙ ap text_in (sym text.is) ∙ sym says.1 ∙ ap (λ (fs : List FieldTree). body_signature (gs ++ fs)) (sym first.begins)
