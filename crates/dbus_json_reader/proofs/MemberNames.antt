-- Names of an object's members: which are among others, and whether they differ.
use Rattle.std.proofs.Common.{◌≡◌, ◌≢◌, ℕ, ◌+◌, ◌<◌, Bool, true, false, ◌||◌, cond, Some, None, List, [], ◌∷◌, ◌++◌, length, get_or, take, drop, inl, inr, refl, sym, ap, ◌∙◌, subst, arith, length-append}
use Rattle.std.proofs.Math.Seq.{get_or-append_seam}
use Rattle.std.proofs.lemmas.Bool.{and_from, and_parts, cases_Bool, true≢false}
use Rattle.std.proofs.lemmas.List.{drop_more, take_more, take-append-drop, get_or_append_left}
use Rattle.std.proofs.lemmas.List.Folds.{list_all-append, list_any_at, list_any_none}
use Rattle.std.proofs.lemmas.List.Quantifiers.{all_pairs_push}
use Rattle.std.proofs.lemmas.Slice.Eq.{bytes_eq-Decides}
use Rattle.std.specs.Borrow.{Bor}
use Rattle.std.specs.List.{list_all}
use Rattle.std.specs.Str.{bytes_eq}
use Rattle.json.specs.Json.{Json, Members, member}
use Rattle.json.specs.Strict.{AreDistinct, keys}
use Rattle.json.specs.Tree.{members_tokens}
use Rattle.json.specs.Value.{value_view, members_view}
use Rattle.json.specs.declared.value.Value.{Value}
use Rattle.dbus_json_reader.specs.JsonMessages.{is_among, named_values}
use Rattle.dbus_json_reader.specs.JsonNames.{AreNamed, IsNameFault, name_reason}
use Rattle.dbus_json_reader.specs.declared.reasons.JsonReason.{JsonReason}
use Rattle.dbus_json_reader.specs.declared.reasons.JsonReason.TheVariants.{MemberTwice, MemberUnknown}

-- ---- tests

pub next_or : (a b : Bool) → a ≡ false → (a || b) ≡ b
next_or true b e = absurd (true≢false e)
next_or false b e = refl

pub same_bytes : (s t : List ℕ) → s ≡ t → bytes_eq s t ≡ true
same_bytes s t e = (bytes_eq-Decides s t).1 e

pub other_bytes : (s t : List ℕ) → s ≢ t → bytes_eq s t ≡ false
other_bytes s t other = elim (cases_Bool (bytes_eq s t)) [ inl e ↦ absurd (other ((bytes_eq-Decides s t).0 e)) | inr e ↦ e ]

-- why none may have a name, or some may
no_reason : (a b : Bool) → cond a (cond b (Some MemberTwice) None) (Some MemberUnknown) ≡ None → (a ≡ true) × (b ≡ false)
no_reason true true e = absurd (cc)
no_reason true false e = (refl, refl)
no_reason false b e = absurd (cc)

some_reason : (a b : Bool) (why : JsonReason) → cond a (cond b (Some MemberTwice) None) (Some MemberUnknown) ≡ Some why → a ≡ true → b ≡ false → ⊥
some_reason true true why e is new = true≢false new
some_reason true false why e is new = let wrong : None ≡ Some why = e in cc
some_reason false b why e is new = true≢false (sym is)

-- ---- the members from an index on

module _ {A : Type 0} (ms : List (Bor (List ℕ) × Value A)) (i : ℕ) where
  pub members_at : (m : Bor (List ℕ) × Value A) → i < length ms → m ≡ get_or ms i m → members_view (drop i ms) ≡ member m.0.now (value_view m.1) (members_view (drop (i + 1) ms))
  members_at m within is =
      ap members_view (drop_more ms i m within) ∙ ap (λ (n : Bor (List ℕ) × Value A). member n.0.now (value_view n.1) (members_view (drop (i + 1) ms))) (sym is)

abbrev pub names_of : {A : Type 0} → List (Bor (List ℕ) × Value A) → List (List ℕ)
names_of ms = keys (members_view ms)

pub names_append : {A : Type 0} (ms ns : List (Bor (List ℕ) × Value A)) → names_of (ms ++ ns) ≡ names_of ms ++ names_of ns
names_append [] ns = refl
names_append (m ∷ ms) ns = ap (λ (ks : List (List ℕ)). m.0.now ∷ ks) (names_append ms ns)

named_append : {A : Type 0} (ms ns : List (Bor (List ℕ) × Value A)) → named_values (members_view (ms ++ ns)) ≡ named_values (members_view ms) ++ named_values (members_view ns)
named_append [] ns = refl
named_append (m ∷ ms) ns = ap (λ (l : List (List ℕ × Json)). (m.0.now, value_view m.1) ∷ l) (named_append ms ns)

-- ---- among names

pub among_here : (name k : List ℕ) (ks : List (List ℕ)) → name ≡ k → is_among (k ∷ ks) name ≡ true
among_here name k ks e = ap (λ (b : Bool). b || is_among ks name) (same_bytes name k e)

pub among_later : (name k : List ℕ) (ks : List (List ℕ)) → name ≢ k → is_among (k ∷ ks) name ≡ is_among ks name
among_later name k ks other = next_or _ _ (other_bytes name k other)

none_among : (name : List ℕ) (ks : List (List ℕ)) → is_among ks name ≡ false → (i : ℕ) (d : List ℕ) → i < length ks → get_or ks i d ≢ name
none_among name ks h i d within e = true≢false (sym (list_any_at (bytes_eq name) ks i d within (same_bytes name (get_or ks i d) (sym e))) ∙ h)

-- ---- names that differ

pub distinct_more : (name : List ℕ) (ks : List (List ℕ)) → AreDistinct ks → is_among ks name ≡ false → AreDistinct (ks ++ name ∷ [])
distinct_more name ks h none = all_pairs_push (λ (a b : List ℕ). a ≢ b) ks name h (none_among name ks none)

not_before : (name : List ℕ) (ks more : List (List ℕ)) → AreDistinct (ks ++ name ∷ more) → is_among ks name ≡ false
not_before name ks more distinct = list_any_none (bytes_eq name) ks (λ k d within.
    let long = length-append ks (name ∷ more) in
    let same = get_or_append_left ks (name ∷ more) d k within in
    other_bytes name (get_or ks k d) (λ e. distinct k (length ks) d within (omega (arith, long)) (same ∙ sym e ∙ sym (get_or-append_seam ks name more d))))

module _ {A : Type 0} (ms : List (Bor (List ℕ) × Value A)) (i : ℕ) (m : Bor (List ℕ) × Value A) (within : i < length ms) (is : m ≡ get_or ms i m) where
  front : names_of ms ≡ names_of (take i ms) ++ m.0.now ∷ names_of (drop (i + 1) ms)
  front =
      ap names_of (sym (take-append-drop i ms)) ∙ names_append (take i ms) (drop i ms) ∙ ap (λ (ns : Members). names_of (take i ms) ++ keys ns) (members_at ms i m within is)

  pub names_more : names_of (take (i + 1) ms) ≡ names_of (take i ms) ++ m.0.now ∷ []
  names_more =
      ap names_of (take_more ms i m within) ∙ names_append (take i ms) (get_or ms i m ∷ []) ∙ ap (λ (n : Bor (List ℕ) × Value A). names_of (take i ms) ++ n.0.now ∷ []) (sym is)

  pub values_more : named_values (members_view (take (i + 1) ms)) ≡ named_values (members_view (take i ms)) ++ (m.0.now, value_view m.1) ∷ []
  values_more =
      ap (λ (ns : List (Bor (List ℕ) × Value A)). named_values (members_view ns)) (take_more ms i m within) ∙ named_append (take i ms) (get_or ms i m ∷ [])
      ∙ ap (λ (n : Bor (List ℕ) × Value A). named_values (members_view (take i ms)) ++ (n.0.now, value_view n.1) ∷ []) (sym is)

  pub parts_at : named_values (members_view ms) ≡ named_values (members_view (take i ms)) ++ (m.0.now, value_view m.1) ∷ named_values (members_view (drop (i + 1) ms))
  parts_at =
      ap (λ (ns : List (Bor (List ℕ) × Value A)). named_values (members_view ns)) (sym (take-append-drop i ms)) ∙ named_append (take i ms) (drop i ms)
      ∙ ap (λ (ns : Members). named_values (members_view (take i ms)) ++ named_values ns) (members_at ms i m within is)

  module _ (names : List (List ℕ)) where
    pub named_here : list_all (is_among names) (names_of ms) ≡ true → is_among names m.0.now ≡ true
    named_here h =
        let all = sym (list_all-append (is_among names) (names_of (take i ms)) (m.0.now ∷ names_of (drop (i + 1) ms))) ∙ (ap (list_all (is_among names)) (sym front) ∙ h) in
        (and_parts _ _ (and_parts _ _ all).1).0

    -- a member that may have its name
    pub named_more : AreNamed names (members_view (take i ms)) → name_reason names (names_of (take i ms)) m.0.now ≡ None → AreNamed names (members_view (take (i + 1) ms))
    named_more h none =
        let both = no_reason (is_among names m.0.now) (is_among (names_of (take i ms)) m.0.now) none in
        record {
          named = ap (list_all (is_among names)) names_more ∙ list_all-append (is_among names) (names_of (take i ms)) (m.0.now ∷ []) ∙ and_from _ _ h.named (and_from _ _ both.0 refl);
          distinct = subst AreDistinct (sym names_more) (distinct_more m.0.now (names_of (take i ms)) h.distinct both.1);
        }

    -- one that may not
    module _ (why : JsonReason) (broken : name_reason names (names_of (take i ms)) m.0.now ≡ Some why) where
      pub not_named : AreNamed names (members_view ms) → ⊥
      not_named h =
          some_reason (is_among names m.0.now) (is_among (names_of (take i ms)) m.0.now) why broken (named_here h.named) (not_before m.0.now (names_of (take i ms)) (names_of (drop (i + 1) ms)) (subst AreDistinct front h.distinct))

      pub fault_at : AreNamed names (members_view (take i ms)) → IsNameFault names (members_view ms) why (length (members_tokens (members_view (take i ms))))
      fault_at h = record {
        front = members_view (take i ms);
        name = m.0.now;
        value = value_view m.1;
        rest = members_view (drop (i + 1) ms);
        parts = parts_at;
        kept = h;
        broken = broken;
        before = refl;
      }
