-- Names of members and of header fields: those of a line differ, so each member is found by its name.
use Rattle.std.proofs.Common.{◌≡◌, ◌≢◌, ℕ, ◌+◌, Bool, true, false, cond, eqb, ◌||◌, List, [], ◌∷◌, ◌++◌, map, filter, Option, Some, None, inl, inr, ◌⊎◌, codes, refl, sym, ap, ap₂, ◌∙◌, subst}
use Rattle.std.proofs.lemmas.Bool.{cases_Bool, eq-eqb, or_parts, and_from, true≢false}
use Rattle.std.proofs.lemmas.Map.Made.{AllPairs-from_IsDistinct}
use Rattle.std.proofs.lemmas.Slice.Eq.{bytes_eq-Decides}
use Rattle.std.specs.List.{IsDistinct, AllByRecursion, enumerate_from}
use Rattle.std.specs.Str.{bytes_eq}
use Rattle.json.specs.Find.{get_member, later_or}
use Rattle.json.specs.Json.{Json, Members, no_members, member}
use Rattle.json.specs.Strict.{AreDistinct, keys}
use Rattle.dbus_message_model.specs.Messages.{FieldTree, is_known, has_code, AreFields}
use Rattle.dbus_show.specs.ShownMessages.{field_name}
use Rattle.dbus_json_reader.specs.JsonMessages.{is_among, plain_names}
use Rattle.dbus_json_reader.proofs.KnownNames.{one_code, unknown}
use Rattle.dbus_json_reader.proofs.MemberNames.{same_bytes, other_bytes, among_later}
use Rattle.dbus_json_laws.proofs.Mixing.{Placed}
use Rattle.dbus_json_laws.proofs.Numbers.{AreAll}
use Rattle.dbus_json_laws.proofs.Lexed.{Inside, inside_literal}

-- ---- members with names that differ

abbrev pub Has : List ℕ → Json → Members → Type 0
Has name j no_members = ⊥
Has name j (member k i ms) = ((k ≡ name) × (i ≡ j)) ⊎ Has name j ms

-- no name is again among those after it
abbrev pub AreNew : List (List ℕ) → Type 0
AreNew [] = Unit {0}
AreNew (k ∷ ks) = (is_among ks k ≡ false) × AreNew ks

none_same : (k : List ℕ) (ks : List (List ℕ)) → is_among ks k ≡ false → AllByRecursion (λ l. bytes_eq k l ≡ false) ks
none_same k [] h = tt
none_same k (l ∷ ks) h = let both = or_parts (bytes_eq k l) (is_among ks k) h in (both.0, none_same k ks both.1)

all_new : (ks : List (List ℕ)) → AreNew ks → IsDistinct bytes_eq ks
unfolding IsDistinct
all_new [] h = tt
all_new (k ∷ ks) h = (none_same k ks h.0, all_new ks h.1)

pub distinct_new : (ks : List (List ℕ)) → AreNew ks → AreDistinct ks
distinct_new ks h = AllPairs-from_IsDistinct bytes_eq-Decides ks (all_new ks h)

turned : (k name : List ℕ) → bytes_eq name k ≡ false → bytes_eq k name ≡ false
turned k name h = other_bytes k name (λ e. true≢false (sym (same_bytes name k (sym e)) ∙ h))

absent : (name : List ℕ) (ms : Members) → is_among (keys ms) name ≡ false → get_member name ms ≡ None
absent name no_members h = refl
absent name (member k j ms) h =
    let both = or_parts (bytes_eq name k) (is_among (keys ms) name) h in
    ap₂ (λ (o : Option Json) (b : Bool). later_or o (cond b (Some j) None)) (absent name ms both.1) (turned k name both.0)

pub found : (name : List ℕ) (j : Json) (ms : Members) → AreNew (keys ms) → Has name j ms → get_member name ms ≡ Some j
found name j no_members new has = absurd has
found name j (member k i ms) new (inl here) =
    ap₂ (λ (o : Option Json) (b : Bool). later_or o (cond b (Some i) None)) (absent name ms (subst (λ (n : List ℕ). is_among (keys ms) n ≡ false) here.0 new.0)) (same_bytes k name here.0) ∙ ap Some here.1
found name j (member k i ms) new (inr later) = ap (λ (o : Option Json). later_or o (cond (bytes_eq k name) (Some i) None)) (found name j ms new.1 later)

-- ---- names of header fields

-- the names behind those of the fields
abbrev pub last_names : List (List ℕ)
last_names = codes "fields" ∷ codes "body" ∷ []

pub record IsFieldName (name : List ℕ) : Type 0 where
  pub inside : AreAll Inside name
  pub other : is_among plain_names name ≡ false
  pub before : is_among last_names name ≡ false

named_if : (b : Bool) (code k : ℕ) (name rest : List ℕ) → eqb code k ≡ b → IsFieldName name → ((code ≡ k → ⊥) → IsFieldName rest) → IsFieldName (cond b name rest)
named_if true code k name rest e is other = is
named_if false code k name rest e is other = other (λ same. true≢false (sym (eq-eqb code k same) ∙ e))

pub named : (code : ℕ) → is_known code ≡ true → IsFieldName (field_name code)
named code known =
    named_if (eqb code 1) code 1 _ _ refl (record { inside = inside_literal (codes "path") refl; other = refl; before = refl }) (λ a.
    named_if (eqb code 2) code 2 _ _ refl (record { inside = inside_literal (codes "interface") refl; other = refl; before = refl }) (λ b.
    named_if (eqb code 3) code 3 _ _ refl (record { inside = inside_literal (codes "member") refl; other = refl; before = refl }) (λ c.
    named_if (eqb code 4) code 4 _ _ refl (record { inside = inside_literal (codes "error_name") refl; other = refl; before = refl }) (λ d.
    named_if (eqb code 5) code 5 _ _ refl (record { inside = inside_literal (codes "reply_serial") refl; other = refl; before = refl }) (λ e.
    named_if (eqb code 6) code 6 _ _ refl (record { inside = inside_literal (codes "destination") refl; other = refl; before = refl }) (λ f.
    named_if (eqb code 7) code 7 _ _ refl (record { inside = inside_literal (codes "sender") refl; other = refl; before = refl }) (λ g.
    named_if (eqb code 8) code 8 _ _ refl (record { inside = inside_literal (codes "signature") refl; other = refl; before = refl }) (λ h.
    named_if (eqb code 9) code 9 _ _ refl (record { inside = inside_literal (codes "unix_fds") refl; other = refl; before = refl }) (λ i.
    absurd (true≢false (sym known ∙ unknown code a b c d e f g h i)))))))))))

-- those of these fields that are known, with their places from here on
abbrev pub knowns : ℕ → List FieldTree → List Placed
knowns n fs = filter (λ (p : Placed). is_known p.1.code) (enumerate_from n fs)

abbrev pub names : List Placed → List (List ℕ)
names ps = map (λ (p : Placed). field_name p.1.code) ps

or_right : (a b : Bool) → b ≡ true → (a || b) ≡ true
or_right true b h = refl
or_right false b h = h

-- no later field has the name of a field before
later_new : (c : ℕ) → is_known c ≡ true → (before fs : List FieldTree) → AreFields before fs → has_code c before ≡ true → (n : ℕ) → is_among (names (knowns n fs) ++ last_names) (field_name c) ≡ false
later_new c known before [] are has n = (named c known).before
later_new c known before (f ∷ fs) are has n =
    let ps = knowns (n + 1) fs in
    let more = later_new c known (f ∷ before) fs are.1 (or_right (eqb f.code c) (has_code c before) has) (n + 1) in
    elim (cases_Bool (is_known f.code)) [
      | inl e ↦ (
          let other : field_name c ≢ field_name f.code = λ same. true≢false (sym (and_from _ _ e (ap (λ (k : ℕ). has_code k before) (sym (one_code c f.code known e same)) ∙ has)) ∙ are.0.not_again) in
          subst (λ (b : Bool). is_among (names (cond b ((n, f) ∷ ps) ps) ++ last_names) (field_name c) ≡ false) (sym e) (among_later (field_name c) (field_name f.code) (names ps ++ last_names) other ∙ more)
          )
      | inr e ↦ subst (λ (b : Bool). is_among (names (cond b ((n, f) ∷ ps) ps) ++ last_names) (field_name c) ≡ false) (sym e) more
    ]

pub new_names : (before fs : List FieldTree) (n : ℕ) → AreFields before fs → AreNew (names (knowns n fs) ++ last_names)
new_names before [] n are = (refl, (refl, tt))
new_names before (f ∷ fs) n are =
    let ps = knowns (n + 1) fs in
    let more = new_names (f ∷ before) fs (n + 1) are.1 in
    elim (cases_Bool (is_known f.code)) [
      | inl e ↦ (
          let first = later_new f.code e (f ∷ before) fs are.1 (ap (λ (b : Bool). b || has_code f.code before) (eq-eqb f.code f.code refl)) (n + 1) in
          let all : AreNew (field_name f.code ∷ (names ps ++ last_names)) = (first, more) in
          subst (λ (b : Bool). AreNew (names (cond b ((n, f) ∷ ps) ps) ++ last_names)) (sym e) all
          )
      | inr e ↦ subst (λ (b : Bool). AreNew (names (cond b ((n, f) ∷ ps) ps) ++ last_names)) (sym e) more
    ]

-- a name of a line that is no header field's is not among those of known fields
pub front_new : (ps : List Placed) (k : List ℕ) → AllByRecursion (λ (p : Placed). is_known p.1.code ≡ true) ps → is_among plain_names k ≡ true → is_among last_names k ≡ false → is_among (names ps ++ last_names) k ≡ false
front_new [] k known plain before = before
front_new (p ∷ ps) k known plain before =
    among_later k (field_name p.1.code) (names ps ++ last_names) (λ e. true≢false (sym plain ∙ ap (λ (n : List ℕ). is_among plain_names n) e ∙ (named p.1.code known.0).other))
    ∙ front_new ps k known.1 plain before
