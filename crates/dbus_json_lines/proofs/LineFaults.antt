-- Where each way to refuse a line shows why.
use Rattle.std.proofs.Common.{◌≡◌, ℕ, zero, suc, ◌+◌, ◌≤◌, ◌<◌, ◌^◌, inl, inr, length-append, List, [], ◌∷◌, ◌++◌, length, get_or, true, false, None, Some, Err, Result, refl, sym, ap, ◌∙◌, subst, arith}
use Rattle.std.proofs.lemmas.Bool.{cases_lt, false≢true}
use Rattle.std.proofs.lemmas.List.{get_or_past}
use Rattle.std.proofs.lemmas.Option.{same_Some}
use Rattle.std.specs.Str.{IsUtf8}
use Rattle.json.specs.Json.{Json}
use Rattle.json.specs.Lex.{Lexeme, token, comma, colon, class, Mode, between, lex_byte}
use Rattle.dbus_texts.specs.Kinds.{IsBreakIn}
use Rattle.dbus_json_reader.specs.JsonFaults.{IsOneOf, counted}
use Rattle.dbus_json_reader.specs.JsonReasons.{is_of_json}
use Rattle.dbus_json_reader.specs.JsonRules.{IsMessageFault}
use Rattle.dbus_json_reader.specs.declared.reasons.JsonReason.{JsonReason}
use Rattle.dbus_json_reader.specs.declared.reasons.JsonReason.TheVariants as reason
use Rattle.dbus_json_reader.specs.declared.unread.Broken.{Broken}
use Rattle.dbus_json_reader.specs.declared.unread.Unread.{Unread}
use Rattle.dbus_json_reader.specs.declared.unread.Unread.TheVariants as unread
use Rattle.dbus_json_lines.specs.JsonLines.{json_of}
use Rattle.dbus_json_lines.specs.LineFaults.{IsPlaceOf, IsPlaced}
use Rattle.dbus_json_lines.specs.Places.{next_mode, start, starts_from, start_of}
use Rattle.dbus_json_lines.specs.declared.fault.LineFault.{LineFault}
use Rattle.dbus_json_lines.specs.declared.fault.NoMessage.{NoMessage}
use Rattle.dbus_json_lines.specs.declared.fault.NoMessage.TheVariants as fault

pub told : {T : Type 0} (why : NoMessage) (f : LineFault) → ◌≡◌ {A = Result T NoMessage} (Err why) (Err (fault.Refused f)) → why ≡ fault.Refused f
told why f e = cc

pub same_fault : (f g : LineFault) → fault.Refused f ≡ fault.Refused g → g ≡ f
same_fault f g e = cc

-- what a value of JSON shows is not why there is none
shown : (why other : JsonReason) → is_of_json why ≡ true → is_of_json other ≡ false → why ≡ other → ⊥
shown why other is is_not e = false≢true (sym is_not ∙ (ap is_of_json (sym e) ∙ is))

-- the two reasons differ
two : reason.NotUtf8 ≡ reason.NotJson → ⊥
two e = cc

-- a token begins in the text
placed : (at d : ℕ) (ls : List Lexeme) (rest : List ℕ) → at ≤ d → ((n : ℕ) → get_or rest n d ≤ d) → (n : ℕ) → get_or (start at ls ++ rest) n d ≤ d
placed at d [] rest low all n = all n
placed at d (comma ∷ ls) rest low all n = all n
placed at d (colon ∷ ls) rest low all n = all n
placed at d (token t ∷ ls) rest low all zero = low
placed at d (token t ∷ ls) rest low all (suc n) = all n

below : (m : Mode) (at d : ℕ) (xs : List ℕ) → at + length xs ≤ d → (n : ℕ) → get_or (starts_from m at xs) n d ≤ d
unfolding starts_from
below m at d [] h n = omega arith
below m at d (x ∷ xs) h n =
    placed at d (lex_byte m (class x) x xs (λ next. [])) (starts_from (next_mode m (class x)) (suc at) xs) (omega (arith, h)) (below (next_mode m (class x)) (suc at) d xs (omega (arith, h))) n

start_within : (text : List ℕ) (n : ℕ) → start_of text n ≤ length text
start_within text n = below between 0 (length text) text (omega arith) n

-- fewer tokens begin in a text than it has bytes
few_placed : (at : ℕ) (ls : List Lexeme) → length (start at ls) ≤ 1
few_placed at [] = omega arith
few_placed at (token t ∷ ls) = omega arith
few_placed at (comma ∷ ls) = omega arith
few_placed at (colon ∷ ls) = omega arith

few_starts : (m : Mode) (at : ℕ) (xs : List ℕ) → length (starts_from m at xs) ≤ length xs
unfolding starts_from
few_starts m at [] = omega arith
few_starts m at (x ∷ xs) =
    let here = start at (lex_byte m (class x) x xs (λ next. [])) in
    let more = starts_from (next_mode m (class x)) (suc at) xs in
    omega (arith, length-append here more, few_placed at (lex_byte m (class x) x xs (λ next. [])), few_starts (next_mode m (class x)) (suc at) xs)

start_counted : (line : List ℕ) (n : ℕ) → length line < 2 ^ 64 → start_of line (counted n) ≡ start_of line n
start_counted line n few =
    let starts = starts_from between 0 line in
    let short = few_starts between 0 line in
    elim (cases_lt n (2 ^ 64)) [
      | inl less ↦ ap (start_of line) (omega (arith, less))
      | inr more ↦ get_or_past starts (counted n) (length line) (omega (arith, more, short, few)) ∙ sym (get_or_past starts n (length line) (omega (arith, more, short, few)))
    ]

module _ (line : List ℕ) (f : LineFault) where
  pub of_bytes : (IsUtf8 line → ⊥) → f.reason ≡ reason.NotUtf8 → IsBreakIn IsUtf8 line f.at → IsPlaceOf line f
  of_bytes bad why at = record {
    within = at.within;
    not_utf8 = λ _. (why, at);
    only_not_utf8 = λ _. bad;
    not_json = λ is. absurd (bad is);
    only_not_json = λ e. absurd (two (sym why ∙ e));
    token = λ is. absurd (bad is);
  }

  pub of_text : IsUtf8 line → json_of line ≡ None → f.reason ≡ reason.NotJson → f.at ≤ length line → IsPlaceOf line f
  of_text is none why low = record {
    within = low;
    not_utf8 = λ bad. absurd (bad is);
    only_not_utf8 = λ e. absurd (two (sym e ∙ why));
    not_json = λ _ _. why;
    only_not_json = λ _. (is, none);
    token = λ _ json e. absurd (let wrong : None ≡ Some json = sym none ∙ e in cc);
  }

  pub of_token : {T : Type 0} (why : Unread) (out : NoMessage) (json : Json) → ((b : Broken) → why ≡ unread.Unspelled b → length line < 2 ^ 64) → IsUtf8 line → json_of line ≡ Some json
      → ((b : Broken) → ◌≡◌ {A = Result T Unread} (Err why) (Err (unread.Unspelled b)) → IsOneOf (IsMessageFault json) (unread.Unspelled b)) → IsPlaced line why out → out ≡ fault.Refused f → IsPlaceOf line f
  of_token unread.Memory out json few is reads shows placed e = absurd (let wrong : fault.Memory ≡ fault.Refused f = sym placed ∙ e in cc)
  of_token (unread.Unspelled broken) out json few is reads shows placed e =
      let same = same_fault _ f (sym placed ∙ e) in
      let told = shows broken refl in
      let why : broken.reason ≡ f.reason = ap (λ (g : LineFault). g.reason) (sym same) in
      record {
        within = subst (λ (n : ℕ). n ≤ length line) (sym (ap (λ (g : LineFault). g.at) same)) (start_within line broken.at);
        not_utf8 = λ bad. absurd (bad is);
        only_not_utf8 = λ r. absurd (shown broken.reason reason.NotUtf8 broken.of_json refl (why ∙ r));
        not_json = λ _ none. absurd (let wrong : None ≡ Some json = sym none ∙ reads in cc);
        only_not_json = λ r. absurd (shown broken.reason reason.NotJson broken.of_json refl (why ∙ r));
        token = λ _ other found.
            let one : json ≡ other = same_Some _ _ (sym reads ∙ found) in
            let at = ap (λ (g : LineFault). g.at) same ∙ ap (start_of line) told.2.1 ∙ start_counted line told.1 (few broken refl) in
            (told.1, at, subst (λ (j : Json). IsMessageFault j f.reason told.1) one (subst (λ (r : JsonReason). IsMessageFault json r told.1) (sym told.2.0 ∙ why) told.3));
      }

-- such a refusal is of JSON that is not read
pub unspelled : {T : Type 0} (line : List ℕ) (why : Unread) (out : NoMessage) (f : LineFault) → IsPlaced line why out → out ≡ fault.Refused f → (b : Broken) × ◌≡◌ {A = Result T Unread} (Err why) (Err (unread.Unspelled b))
unspelled line unread.Memory out f placed e = absurd (let wrong : fault.Memory ≡ fault.Refused f = sym placed ∙ e in cc)
unspelled line (unread.Unspelled broken) out f placed e = (broken, refl)
