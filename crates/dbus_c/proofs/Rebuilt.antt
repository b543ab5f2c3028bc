-- A message that is changed by its own draft comes back.
use Rattle.std.proofs.Common.{◌≡◌, ℕ, zero, suc, ◌<◌, List, [], ◌∷◌, ◌++◌, length, take, drop, Bool, true, false, ◌&&◌, nat_eq, if◌then◌else◌, Option, Some, None, refl, sym, ap, subst, ◌∙◌, arith}
use Rattle.std.specs.Borrow.{Bor}
use Rattle.std.specs.List.{flat_map}
use Rattle.std.specs.Option.{MatchOption}
use Rattle.std.proofs.lemmas.Bool.{eq-eqb, eqb-true, or_parts}
use Rattle.std.proofs.lemmas.Option.{MatchOption-at_none, MatchOption-at_some}
use Rattle.std.proofs.lemmas.List.{append-nil}
use Rattle.dbus_texts.specs.Types.{UINT32}
use Rattle.dbus_value_model.specs.declared.limits.Limits.{Limits}
use Rattle.dbus_value_model.specs.declared.order.Order.{Order}
use Rattle.dbus_value_model.specs.Values.{ValueTree, NumberValue, TextValue}
use Rattle.dbus_message_model.specs.KnownFields.{WantsText, IsTextOf, field_value}
use Rattle.dbus_message_model.specs.Messages.{FieldTree, MessageTree, IsMessage, AreFields, fd_count, has_code, is_known, message_bytes, number_in, text_in, want}
use Rattle.dbus_message_model.proofs.KnownValues.{has_text, suits_of}
use Rattle.dbus_header.proofs.OutcomeLaws.{one_whole, whole_bytes, whole_valid}
use Rattle.dbus_validate.specs.Validating.{IsValidated}
use Rattle.dbus_validate.specs.declared.validating.Validated.{Validated}
use Rattle.dbus_validate.proofs.SeenSteps.{AreKnown, unknown}
use Rattle.dbus_c_build.specs.Drafts.{HasParts, added, field_given, field_of, fields_after, in_place, known_codes, number_field, stays, text_code}
use Rattle.dbus_c_build.specs.declared.draft.Draft.{Draft}
use Rattle.dbus_c_build.proofs.OnlyMessage.{parts_spelled}
use Rattle.dbus_c_build.specs.Building.{spelled}
use Rattle.dbus_c.specs.Building.{Builds, ComesBack, FieldsOf, GivesText, IsOwnDraft, Rebuilds, StandFor, built, no_memory, no_message, no_room, rebuilt, refused, text_given}
use Rattle.dbus_c.specs.Parting.{number_of}
use Rattle.dbus_c.specs.declared.checking.Checked.{Checked}
use Rattle.dbus_c.specs.declared.drafts.DraftText.{DraftText}
use Rattle.dbus_c.specs.declared.drafts.WireDraft.{WireDraft}
use Rattle.dbus_c.proofs.Built.{stands_once, stood_for}

-- ---- fields by their codes

abbrev field : ℕ → ValueTree → FieldTree
field c v = record { code = c; value = v }

count_is : (fs : List FieldTree) → fd_count fs ≡ number_of (field_value 9 fs)
count_is [] = refl
count_is (f ∷ fs) = elim (nat_eq f.code 9) as (λ same. (if same then number_in f.value else fd_count fs) ≡ number_of (if same then Some f.value else field_value 9 fs)) [
  | true ↦ refl
  | false ↦ count_is fs
]

none_there : (c : ℕ) (fs : List FieldTree) → has_code c fs ≡ false → field_value c fs ≡ None
none_there c [] none = refl
none_there c (f ∷ fs) none =
    let parts = or_parts (nat_eq f.code c) (has_code c fs) none in
    ap (λ (b : Bool). if b then Some f.value else field_value c fs) parts.0 ∙ none_there c fs parts.1

-- ---- texts that are given

there_if : (t : DraftText) (none : Bool) → nat_eq t.is_there 0 ≡ none → 0 < t.is_there → (if none then None else Some t.text) ≡ Some t.text
there_if t true is some = absurd (omega (arith, eqb-true t.is_there 0 is, some))
there_if t false is some = refl

-- the field of a text is the field of which that is the text
text_field : (c : ℕ) (t : DraftText) (o : Option ValueTree) → GivesText o t → ((v : ValueTree) → o ≡ Some v → v ≡ TextValue (text_code c) (text_in v))
    → MatchOption o (field_of c (text_given t) 0 ≡ []) (λ v. field_of c (text_given t) 0 ≡ field c v ∷ [])
text_field c t None is text = ap (λ (n : ℕ). field_of c (if nat_eq n 0 then None else Some t.text) 0) is
text_field c t (Some v) is text =
    ap (λ (o : Option (Bor (List ℕ))). field_of c o 0) (there_if t (nat_eq t.is_there 0) refl is.0)
    ∙ ap (λ (s : List ℕ). field c (TextValue (text_code c) s) ∷ []) is.1 ∙ ap (λ (u : ValueTree). field c u ∷ []) (sym (text v refl))

serial_if : (n : ℕ) (is_zero : Bool) → nat_eq n 0 ≡ is_zero → 0 < n → (if is_zero then [] else field 5 (NumberValue UINT32 n) ∷ []) ≡ field 5 (NumberValue UINT32 n) ∷ []
serial_if n true is some = absurd (omega (arith, eqb-true n 0 is, some))
serial_if n false is some = refl

serial_given : (n : ℕ) (o : Option ValueTree) → n ≡ number_of o → ((v : ValueTree) → o ≡ Some v → (k : ℕ) × (v ≡ NumberValue UINT32 k) × (0 < k))
    → MatchOption o (number_field 5 n ≡ []) (λ v. number_field 5 n ≡ field 5 v ∷ [])
serial_given n None is serial = ap (number_field 5) is
serial_given n (Some v) is serial =
    let s = serial v refl in
    let same : n ≡ s.0 = is ∙ ap number_in s.1 in
    ap (number_field 5) same ∙ serial_if s.0 (nat_eq s.0 0) refl s.2 ∙ ap (λ (u : ValueTree). field 5 u ∷ []) (sym s.1)

-- ---- the draft of the message that the bytes begin with

module _ (limits : Limits) (b : List ℕ) (w : WireDraft) (has : IsOwnDraft limits b w) where
  abbrev m : MessageTree
  m = has.message

  abbrev fs : List FieldTree
  fs = m.fields

  abbrev p : Draft
  p = stood_for has.order w

  valid : IsMessage limits has.order m
  valid = whole_valid limits b has.order m has.count has.whole has.order

  -- of a known code the parts have the field that the message has
  record IsOwn (c : ℕ) : Type 0 where
    kept_there : (v : ValueTree) → field_value c fs ≡ Some v → in_place p fs (field c v) ≡ field c v ∷ []
    absent : field_value c fs ≡ None → field_given p c ≡ []

  wanted : (c : ℕ) → WantsText (want c) → (v : ValueTree) → field_value c fs ≡ Some v → IsTextOf (want c) (Some v) (text_in v)
  wanted c wants v is = (has_text (want c) v (text_in v) wants (suits_of c [] fs valid.fields v is) refl).text

  own_of : (c : ℕ) → stays p fs c ≡ false → MatchOption (field_value c fs) (field_given p c ≡ []) (λ v. field_given p c ≡ field c v ∷ []) → IsOwn c
  own_of c changed given = record {
    kept_there = λ v is. ap (λ (same : Bool). if same then field c v ∷ [] else field_given p c) changed ∙ MatchOption-at_some (field_given p c ≡ []) (λ v. field_given p c ≡ field c v ∷ []) v is given;
    absent = λ is. MatchOption-at_none (field_given p c ≡ []) (λ v. field_given p c ≡ field c v ∷ []) is given;
  }

  own : (c : ℕ) → is_known c ≡ true → IsOwn c
  own zero known = absurd cc
  own (suc zero) known = own_of 1 refl (text_field 1 w.path (field_value 1 fs) has.path (λ v is. let e = wanted 1 tt v is in cc))
  own (suc (suc zero)) known = own_of 2 refl (text_field 2 w.interface (field_value 2 fs) has.interface (λ v is. let e = wanted 2 tt v is in cc))
  own (suc (suc (suc zero))) known = own_of 3 refl (text_field 3 w.member (field_value 3 fs) has.member (λ v is. let e = wanted 3 tt v is in cc))
  own (suc (suc (suc (suc zero)))) known = own_of 4 refl (text_field 4 w.error_name (field_value 4 fs) has.error_name (λ v is. let e = wanted 4 tt v is in cc))
  own (suc (suc (suc (suc (suc zero))))) known = own_of 5 refl (serial_given w.reply_serial (field_value 5 fs) has.reply_serial (suits_of 5 [] fs valid.fields))
  own (suc (suc (suc (suc (suc (suc zero)))))) known = own_of 6 refl (text_field 6 w.destination (field_value 6 fs) has.destination (λ v is. let e = wanted 6 tt v is in cc))
  own (suc (suc (suc (suc (suc (suc (suc zero))))))) known = own_of 7 refl (text_field 7 w.sender (field_value 7 fs) has.sender (λ v is. let e = wanted 7 tt v is in cc))
  own (suc (suc (suc (suc (suc (suc (suc (suc zero)))))))) known = own_of 8 refl (text_field 8 w.signature (field_value 8 fs) has.signature (λ v is. let e = wanted 8 tt v is in cc))
  own (suc (suc (suc (suc (suc (suc (suc (suc (suc zero))))))))) known = record {
    kept_there = λ v is. ap (λ (same : Bool). if same then field 9 v ∷ [] else field_given p 9) (eq-eqb w.unix_fds (fd_count fs) (has.unix_fds ∙ sym (count_is fs)));
    absent = λ is. ap (number_field 9) (has.unix_fds ∙ ap number_of is);
  }
  own (suc (suc (suc (suc (suc (suc (suc (suc (suc (suc c)))))))))) known = let no = unknown (suc (suc (suc (suc (suc (suc (suc (suc (suc (suc c)))))))))) (omega arith) in absurd cc

  -- each field stays
  in_place_if : (f : FieldTree) (known : Bool) → is_known f.code ≡ known → (known ≡ true → field_value f.code fs ≡ Some f.value) → in_place p fs f ≡ f ∷ []
  in_place_if f false is there = ap (λ (known : Bool). if (if known then nat_eq f.code 9 && nat_eq p.unix_fds (fd_count fs) else true) then f ∷ [] else field_given p f.code) is
  in_place_if f true is there = (own f.code is).kept_there f.value (there refl)

  kept_same : (before gs : List FieldTree) → AreFields before gs → ((c : ℕ) → is_known c ≡ true → has_code c before ≡ false → field_value c fs ≡ field_value c gs) → flat_map (in_place p fs) gs ≡ gs
  kept_same before [] are there = refl
  kept_same before (f ∷ gs) are there =
      let first = λ (known : is_known f.code ≡ true).
      let none = ap (λ (k : Bool). k && has_code f.code before) (sym known) ∙ are.0.not_again in
      there f.code known none ∙ ap (λ (same : Bool). if same then Some f.value else field_value f.code gs) (eq-eqb f.code f.code refl) in
      let others : (c : ℕ) → is_known c ≡ true → has_code c (f ∷ before) ≡ false → field_value c fs ≡ field_value c gs = λ c known none.
      let parts = or_parts (nat_eq f.code c) (has_code c before) none in
      there c known parts.1 ∙ ap (λ (same : Bool). if same then Some f.value else field_value c gs) parts.0 in
      ap (λ (hs : List FieldTree). hs ++ flat_map (in_place p fs) gs) (in_place_if f (is_known f.code) refl first)
      ∙ ap (λ (hs : List FieldTree). f ∷ hs) (kept_same (f ∷ before) gs are.1 others)

  -- and none is added
  added_if : (c : ℕ) (there : Bool) → has_code c fs ≡ there → is_known c ≡ true → (if there then [] else field_given p c) ≡ []
  added_if c true is known = refl
  added_if c false is known = (own c known).absent (none_there c fs is)

  none_added : (codes : List ℕ) → AreKnown codes → flat_map (added p fs) codes ≡ []
  none_added [] known = refl
  none_added (c ∷ cs) known = ap (λ (hs : List FieldTree). hs ++ flat_map (added p fs) cs) (added_if c (has_code c fs) refl known.0) ∙ none_added cs known.1

  same_fields : fields_after p fs ≡ fs
  same_fields =
      ap (λ (hs : List FieldTree). hs ++ flat_map (added p fs) known_codes) (kept_same [] fs valid.fields (λ c known none. refl))
      ∙ ap (λ (hs : List FieldTree). fs ++ hs) (none_added known_codes (refl, (refl, (refl, (refl, (refl, (refl, (refl, (refl, (refl, tt)))))))))) ∙ append-nil fs

  own_parts : HasParts fs p m
  own_parts = record { numbers = (sym has.numbers.0, sym has.numbers.1, sym has.numbers.2); fields = sym same_fields; body = sym has.body }

  stood : StandFor (FieldsOf has.order m) w p
  stood = record {
    keeps = refl;
    order = has.order_is;
    numbers = (refl, refl, refl, refl, refl);
    path = refl;
    interface = refl;
    member = refl;
    error_name = refl;
    destination = refl;
    sender = refl;
    signature = refl;
    body = refl;
  }

  -- ---- what is built of them

  module _ (answer : ℕ) (told : Checked) (old new : List ℕ) where
    builds_same : Builds limits (FieldsOf has.order m) w answer told old new → ComesBack b has.count answer old new
    builds_same (built q n stand parts ok room whole is written) =
        let one : q ≡ p = stands_once (FieldsOf has.order m) w q p stand stood in
        let spelled_so : message_bytes q.order n ≡ message_bytes has.order m = parts_spelled fs q n parts ∙ ap (spelled fs) one ∙ sym (parts_spelled fs p m own_parts) in
        let back = whole_bytes limits b has.order m has.count has.whole in
        record {
          same = λ yes. written ∙ ap (λ (l : List ℕ). l ++ drop (length l) old) (spelled_so ∙ sym back.0) ∙ ap (λ (k : ℕ). take has.count b ++ drop k old) (ap length back.0 ∙ sym back.1);
          accepted = λ no. absurd (omega (arith, whole, no));
        }
    builds_same (no_room q n stand parts ok few answers is kept) = record { same = λ yes. absurd (omega (arith, answers, yes)); accepted = λ no. absurd (omega (arith, answers, no)) }
    builds_same (refused none answers why kept) = record { same = λ yes. absurd (omega (arith, answers, yes)); accepted = λ no. none p m stood own_parts valid }
    builds_same (no_memory answers is kept) = record { same = λ yes. absurd (omega (arith, answers, yes)); accepted = λ no. absurd (omega (arith, answers, no)) }

    pub comes_back : Rebuilds limits b w answer told old new → ComesBack b has.count answer old new
    comes_back (rebuilt order n k whole builds) =
        let one = one_whole limits b order has.order n m k has.count whole has.whole in
        let P : Order → MessageTree → Type 0 = λ o u. Builds limits (FieldsOf o u) w answer told old new in
        builds_same (subst (λ (u : MessageTree). P has.order u) one.1 (subst (λ (o : Order). P o n) one.0 builds))
    comes_back (no_message none tells same) = absurd (none has.order m has.count has.whole)

-- what is built of the message that is validated
pub changed : (limits given : Limits) (b : List ℕ) (w : WireDraft) (j : Validated) (first : IsValidated given b j) (answer : ℕ) (told : Checked) (old new : List ℕ) → given ≡ limits
    → Builds given (FieldsOf j.order first.message) w answer told old new → Rebuilds limits b w answer told old new
changed limits given b w j first answer told old new same builds =
    subst (λ (l : Limits). Rebuilds l b w answer told old new) same (rebuilt j.order first.message j.length first.whole builds)
