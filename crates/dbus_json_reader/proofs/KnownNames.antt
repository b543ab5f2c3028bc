-- The codes and the names of the known header fields.
use Rattle.std.proofs.Common.{◌≡◌, ℕ, ◌+◌, ◌*◌, ◌<◌, ◌≤◌, Bool, true, false, ◌||◌, cond, eqb, List, [], ◌∷◌, map, get_or, refl, sym, ap, ◌∙◌, subst, arith}
use Rattle.std.proofs.lemmas.Bool.{and_parts, ne_eqb, eq-eqb, eqb-true, true≢false}
use Rattle.std.proofs.lemmas.List.Folds.{list_any-append}
use Rattle.std.specs.List.{list_all}
use Rattle.std.specs.Str.{bytes_eq}
use Rattle.json.specs.Json.{Json}
use Rattle.dbus_message_model.specs.Messages.{FieldTree, Suits, Want, Anything, OfType, Name, Serial, want, is_known, is_particular}
use Rattle.dbus_value_model.specs.Values.{ValueTree, type_of}
use Rattle.dbus_show.specs.ShownMessages.{field_name}
use Rattle.dbus_json.specs.declared.integers.Integers.{Integers}
use Rattle.dbus_json_reader.specs.JsonMessages.{is_among, plain_names}
use Rattle.dbus_json_reader.specs.JsonNames.{known_names, message_names}
use Rattle.dbus_json_reader.specs.JsonParts.{IsKnownField}
use Rattle.dbus_json_reader.proofs.MemberNames.{next_or, other_bytes}
use Rattle.dbus_json_reader.proofs.OneValue.{one_value}

pub unknown : (code : ℕ) → (code ≡ 1 → ⊥) → (code ≡ 2 → ⊥) → (code ≡ 3 → ⊥) → (code ≡ 4 → ⊥) → (code ≡ 5 → ⊥) → (code ≡ 6 → ⊥) → (code ≡ 7 → ⊥) → (code ≡ 8 → ⊥) → (code ≡ 9 → ⊥) → is_known code ≡ false
unknown code a b c d e f g h i = rw (ne_eqb code 1 a, ne_eqb code 2 b, ne_eqb code 3 c, ne_eqb code 4 d, ne_eqb code 5 e, ne_eqb code 6 f, ne_eqb code 7 g, ne_eqb code 8 h, ne_eqb code 9 i) refl

-- which code a name is of, by its first two letters
abbrev pub code_in : List ℕ → ℕ
code_in t =
    let k = get_or t 0 0 * 256 + get_or t 1 0 in
    cond (eqb k 28769) 1 (cond (eqb k 26990) 2 (cond (eqb k 28005) 3 (cond (eqb k 25970) 4 (cond (eqb k 29285) 5 (cond (eqb k 25701) 6 (cond (eqb k 29541) 7 (cond (eqb k 29545) 8 (cond (eqb k 30062) 9 0))))))))

-- it is one of the nine, and its name is of it
abbrev Named : ℕ → List ℕ → Type 0
Named code name = (1 ≤ code) × (code < 10) × (code_in name ≡ code) × (is_among known_names name ≡ true) × (is_among plain_names name ≡ false)

named_if : (b : Bool) (code k : ℕ) (name rest : List ℕ) → 1 ≤ k → k < 10 → eqb code k ≡ b → code_in name ≡ k → is_among known_names name ≡ true → is_among plain_names name ≡ false → ((code ≡ k → ⊥) → Named code rest) → Named code (cond b name rest)
named_if true code k name rest low high e is among plain other = let same = eqb-true code k e in (omega (arith, same, low), omega (arith, same, high), is ∙ sym same, among, plain)
named_if false code k name rest low high e is among plain other = other (λ same. true≢false (sym (eq-eqb code k same) ∙ e))

pub named : (code : ℕ) → is_known code ≡ true → Named code (field_name code)
named code known =
    named_if (eqb code 1) code 1 _ _ (omega arith) (omega arith) refl refl refl refl (λ a.
    named_if (eqb code 2) code 2 _ _ (omega arith) (omega arith) refl refl refl refl (λ b.
    named_if (eqb code 3) code 3 _ _ (omega arith) (omega arith) refl refl refl refl (λ c.
    named_if (eqb code 4) code 4 _ _ (omega arith) (omega arith) refl refl refl refl (λ d.
    named_if (eqb code 5) code 5 _ _ (omega arith) (omega arith) refl refl refl refl (λ e.
    named_if (eqb code 6) code 6 _ _ (omega arith) (omega arith) refl refl refl refl (λ f.
    named_if (eqb code 7) code 7 _ _ (omega arith) (omega arith) refl refl refl refl (λ g.
    named_if (eqb code 8) code 8 _ _ (omega arith) (omega arith) refl refl refl refl (λ h.
    named_if (eqb code 9) code 9 _ _ (omega arith) (omega arith) refl refl refl refl (λ i.
    absurd (true≢false (sym known ∙ unknown code a b c d e f g h i)))))))))))

pub known_codes : (code : ℕ) → is_known code ≡ true → (1 ≤ code) × (code < 10)
known_codes code known = let n = named code known in (n.0, n.1)

pub one_code : (c d : ℕ) → is_known c ≡ true → is_known d ≡ true → field_name c ≡ field_name d → c ≡ d
one_code c d known other e = sym (named c known).2 ∙ ap code_in e ∙ (named d other).2

-- the first codes are known
known_if : (b : Bool) (code k : ℕ) (w rest : Want) → eqb code k ≡ b → is_particular w ≡ true → ((code ≡ k → ⊥) → is_particular rest ≡ true) → is_particular (cond b w rest) ≡ true
known_if true code k w rest e is other = is
known_if false code k w rest e is other = other (λ same. true≢false (sym (eq-eqb code k same) ∙ e))

pub low_known : (code : ℕ) → 1 ≤ code → code < 10 → is_known code ≡ true
low_known code low high =
    known_if (eqb code 1) code 1 _ _ refl refl (λ a.
    known_if (eqb code 2) code 2 _ _ refl refl (λ b.
    known_if (eqb code 3) code 3 _ _ refl refl (λ c.
    known_if (eqb code 4) code 4 _ _ refl refl (λ d.
    known_if (eqb code 5) code 5 _ _ refl refl (λ e.
    known_if (eqb code 6) code 6 _ _ refl refl (λ f.
    known_if (eqb code 7) code 7 _ _ refl refl (λ g.
    known_if (eqb code 8) code 8 _ _ refl refl (λ h.
    known_if (eqb code 9) code 9 _ _ refl refl (λ i.
    absurd (omega (arith, low, high, a, b, c, d, e, f, g, h, i)))))))))))

-- ---- names

none_in : (name : List ℕ) (ks : List ℕ) → list_all is_known ks ≡ true → ((code : ℕ) → is_known code ≡ true → name ≡ field_name code → ⊥) → is_among (map field_name ks) name ≡ false
none_in name [] h none = refl
none_in name (k ∷ ks) h none =
    let both = and_parts (is_known k) (list_all is_known ks) h in
    next_or _ _ (other_bytes name (field_name k) (none k both.0)) ∙ none_in name ks both.1 none

pub no_field : (name : List ℕ) → ((code : ℕ) → is_known code ≡ true → name ≡ field_name code → ⊥) → is_among known_names name ≡ false
no_field name none = none_in name (1 ∷ 2 ∷ 3 ∷ 4 ∷ 5 ∷ 6 ∷ 7 ∷ 8 ∷ 9 ∷ []) refl none

pub some_field : (name : List ℕ) (code : ℕ) → is_known code ≡ true → name ≡ field_name code → is_among known_names name ≡ true
some_field name code known is = ap (is_among known_names) is ∙ (named code known).3

pub not_plain : (name : List ℕ) (code : ℕ) → is_known code ≡ true → name ≡ field_name code → is_among plain_names name ≡ false
not_plain name code known is = ap (is_among plain_names) is ∙ (named code known).4

pub or_first : (a b : Bool) → (a || b) ≡ true → b ≡ false → a ≡ true
or_first true b h none = refl
or_first false b h none = absurd (true≢false (sym h ∙ none))

-- a message may have a member of either kind
pub of_message : (name : List ℕ) → is_among message_names name ≡ (is_among plain_names name || is_among known_names name)
of_message name = list_any-append (bytes_eq name) plain_names known_names

-- ---- fields

pub same_field : (f g : FieldTree) → f.code ≡ g.code → f.value ≡ g.value → f ≡ g
same_field f g code value = ap (λ (c : ℕ). record { code = c; value = f.value }) code ∙ ap (λ (v : ValueTree). record { code = g.code; value = v }) value

same_type : (w : Want) (v u : ValueTree) → is_particular w ≡ true → Suits w v → Suits w u → type_of v ≡ type_of u
same_type Anything v u known h k = absurd (true≢false (sym known))
same_type (OfType t) v u known h k = h ∙ sym k
same_type (Name w) v u known h k = ap type_of h.1 ∙ sym (ap type_of k.1)
same_type Serial v u known h k = ap type_of h.1 ∙ sym (ap type_of k.1)

-- no member spells two known fields
pub one_known : (integers : Integers) (depth other : ℕ) (f g : FieldTree) (m : List ℕ × Json) → IsKnownField integers depth f m → IsKnownField integers other g m → f ≡ g
one_known integers depth other f g m a b =
    let code = one_code f.code g.code a.known b.known (sym a.named ∙ b.named) in
    let suits = subst (λ (c : ℕ). Suits (want c) f.value) code a.held.suits in
    let type = same_type (want g.code) f.value g.value b.known suits b.held.suits in
    same_field f g code (one_value integers depth other (type_of g.value) f.value g.value m.1 (record { spelled = a.held.spelled; typed = type; formed = a.held.formed }) (record { spelled = b.held.spelled; typed = refl; formed = b.held.formed }))
