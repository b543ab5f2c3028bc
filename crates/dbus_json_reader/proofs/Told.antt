-- The last member of a name, and the tokens before its value.
use Rattle.std.proofs.Common.{◌≡◌, ℕ, zero, suc, ◌+◌, ◌<◌, false, cond, List, [], ◌∷◌, ◌++◌, length, get_or, take, drop, Option, Some, None, refl, sym, ap, ◌∙◌, subst, arith}
use Rattle.std.proofs.lemmas.Bool.{or_parts, true≢false}
use Rattle.std.proofs.lemmas.Option.{same_Some}
use Rattle.std.specs.Str.{bytes_eq}
use Rattle.json.specs.Find.{get, get_member, later_or}
use Rattle.json.specs.Json.{Json, object, Members, no_members, member}
use Rattle.json.specs.Strict.{keys}
use Rattle.json.specs.Tree.{members_tokens}
use Rattle.json.specs.Value.{value_view, members_view}
use Rattle.json.specs.declared.value.Value.{Value}
use Rattle.dbus_json_reader.specs.JsonMessages.{is_among, named_values}
use Rattle.dbus_json_reader.specs.JsonRules.{IsToldAt}
use Rattle.dbus_json_reader.proofs.MemberNames.{names_of, other_bytes, parts_at, same_bytes}
use Rattle.dbus_json_reader.proofs.TokenCounts.{Key}

pub none_told : (name : List ℕ) (ms : Members) → is_among (keys ms) name ≡ false → get_member name ms ≡ None
none_told name no_members h = refl
none_told name (member k j ms) h =
    let both = or_parts (bytes_eq name k) _ h in
    let other = other_bytes k name (λ e. true≢false (sym (same_bytes name k (sym e)) ∙ both.0)) in
    ap (λ (o : Option Json). later_or o (cond (bytes_eq k name) (Some j) None)) (none_told name ms both.1) ∙ ap (λ b. cond b (Some j) None) other

last_told : {A : Type 0} (name : List ℕ) (l : List (Key × Value A)) (i : ℕ) (m : Key × Value A) → i < length l → m ≡ get_or l i m → name ≡ m.0.now → is_among (names_of (drop (suc i) l)) name ≡ false → get_member name (members_view l) ≡ Some (value_view m.1)
last_told name [] i m within is same none = absurd (omega (arith, within))
last_told {A} name (x ∷ xs) zero m within is same none =
    let here = same_bytes x.0.now name (sym (same ∙ ap (λ (y : Key × Value A). y.0.now) is)) in
    ap (λ (o : Option Json). later_or o (cond (bytes_eq x.0.now name) (Some (value_view x.1)) None)) (none_told name (members_view xs) none)
    ∙ ap (λ b. cond b (Some (value_view x.1)) None) here ∙ ap (λ (y : Key × Value A). Some (value_view y.1)) (sym is)
last_told name (x ∷ xs) (suc i) m within is same none =
    ap (λ (o : Option Json). later_or o (cond (bytes_eq x.0.now name) (Some (value_view x.1)) None)) (last_told name xs i m (omega (arith, within)) is same none)

-- the member at an index, after which none has its name
pub told_at : {A : Type 0} (name : List ℕ) (l : List (Key × Value A)) (i : ℕ) (m : Key × Value A) → i < length l → m ≡ get_or l i m → m.0.now ≡ name → is_among (names_of (drop (i + 1) l)) name ≡ false → (j : Json) → j ≡ object (members_view l)
    → (value : Json) → get name j ≡ Some value → IsToldAt name j value (suc (length (members_tokens (members_view (take i l)))))
told_at {A} name l i m within is same none j seen value told =
    let next : i + 1 ≡ suc i = omega arith in
    let last = last_told name l i m within is (sym same) (subst (λ (n : ℕ). is_among (names_of (drop n l)) name ≡ false) next none) in
    let found : value_view m.1 ≡ value = same_Some _ _ (sym last ∙ ap (get name) (sym seen) ∙ told) in
    subst (λ (v : Json). IsToldAt name j v (suc (length (members_tokens (members_view (take i l)))))) found (record {
      ms = members_view l;
      is = seen;
      front = members_view (take i l);
      rest = members_view (drop (i + 1) l);
      parts = parts_at l i m within is
          ∙ ap (λ (n : List ℕ). named_values (members_view (take i l)) ++ (n, value_view m.1) ∷ named_values (members_view (drop (i + 1) l))) same;
      last = none;
      before = refl;
    })

-- no value is told of what is no object
pub only_objects : (name : List ℕ) (j : Json) → ((ms : Members) → object ms ≡ j → ⊥) → get name j ≡ None
only_objects name (object ms) none = absurd (none ms refl)
only_objects name j none = refl
