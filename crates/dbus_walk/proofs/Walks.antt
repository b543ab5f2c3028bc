-- Values one after another of which the first are walked: those that are left.
use Rattle.std.proofs.Common.{◌≡◌, ℕ, ◌+◌, ◌-◌, ◌<◌, ◌≤◌, List, [], ◌∷◌, ◌++◌, length, take, drop, get_or, Bool, true, false, refl, sym, ap, subst, ◌∙◌, arith, append_assoc, Result, Ok, Err, is_err, IfOk, ◌⊎◌, inl, inr}
use Rattle.std.proofs.lemmas.List.{length-append, length-drop, append-nil, take_rest}
use Rattle.dbus_texts.specs.Types.{sig, sigs}
use Rattle.dbus_texts.proofs.TypeTexts.{sig_positive}
use Rattle.dbus_types.specs.Alignments.{alignment_of}
use Rattle.dbus_value_model.specs.Bytes.{gap_to}
use Rattle.dbus_value_model.specs.declared.order.Order.{Order}
use Rattle.dbus_value_model.specs.Spelling.{spelling, spellings}
use Rattle.dbus_value_model.specs.Values.{ValueTree, ValueTrees, NoValues, MoreValues, StructValue, EntryValue, AreWellFormed, IsWellFormed, value_trees, type_of, types_of}
use Rattle.dbus_types.specs.SignatureCodes.{IsTypeEnd, AreLengths}
use Rattle.dbus_types.proofs.TypeLengths.{ends_by}
use Rattle.dbus_walk.specs.Standing.{Stands, AllStand, ElementsStand}
use Rattle.dbus_walk.specs.Containers.{IsOf, inside, is_none}
use Rattle.dbus_walk.specs.declared.container.Container.{Container}
use Rattle.dbus_walk.specs.declared.container.Container.TheVariants as kind
use Rattle.dbus_walk.proofs.Lists.{FirstElement, element_of, no_elements, first_value, other_values}

-- values before others
abbrev pub in_front : List ValueTree → ValueTrees → ValueTrees
in_front [] us = us
in_front (x ∷ xs) us = MoreValues x (in_front xs us)

front_more : (xs : List ValueTree) (v : ValueTree) (us : ValueTrees) → in_front xs (MoreValues v us) ≡ in_front (xs ++ v ∷ []) us
front_more [] v us = refl
front_more (x ∷ xs) v us = ap (λ (u : ValueTrees). MoreValues x u) (front_more xs v us)

front_all : (xs : List ValueTree) → in_front xs NoValues ≡ value_trees xs
front_all [] = refl
front_all (x ∷ xs) = ap (λ (u : ValueTrees). MoreValues x u) (front_all xs)

-- Of the values vs, which stand from `at` on, us are left, from `place` on, of which P holds; of
-- those before them Q holds.
pub record Left (order : Order) (at : ℕ) (vs : ValueTrees) (P : ℕ → ValueTrees → Type 0) (Q : List ValueTree → Type 0) (place : ℕ) : Type 0 where
  pub us : ValueTrees
  pub keeps : P place us
  pub done : List ValueTree
  pub joins : vs ≡ in_front done us
  pub ends : at + length (spellings order at vs) ≡ place + length (spellings order place us)
  pub walked : Q done

module _ (order : Order) (at : ℕ) (vs : ValueTrees) where
  pub all_left : (P : ℕ → ValueTrees → Type 0) (Q : List ValueTree → Type 0) → P at vs → Q [] → Left order at vs P Q at
  all_left P Q keeps walked = record { us = vs; keeps = keeps; done = []; joins = refl; ends = refl; walked = walked }

  -- the first of those that are left, walked
  pub less_left : (P P' : ℕ → ValueTrees → Type 0) (Q Q' : List ValueTree → Type 0) (place : ℕ) (l : Left order at vs P Q place) (v : ValueTree) (us : ValueTrees) → l.us ≡ MoreValues v us
      → (q : ℕ) → q ≡ place + length (spelling order place v) → P' (place + length (spelling order place v)) us → Q' (l.done ++ v ∷ []) → Left order at vs P' Q' q
  unfolding spellings
  less_left P P' Q Q' place l v us begins q after keeps walked =
      let s = spelling order place v in
      let long : length (spellings order place l.us) ≡ length s + length (spellings order (place + length s) us) =
      ap (λ (u : ValueTrees). length (spellings order place u)) begins ∙ length-append s (spellings order (place + length s) us) in
      let same : spellings order (place + length s) us ≡ spellings order q us = ap (λ (k : ℕ). spellings order k us) (sym after) in
      record {
        us = us;
        keeps = subst (λ (k : ℕ). P' k us) (sym after) keeps;
        done = l.done ++ v ∷ [];
        joins = l.joins ∙ ap (λ (u : ValueTrees). in_front l.done u) begins ∙ front_more l.done v us;
        ends = omega (arith, l.ends, long, after, ap length same);
        walked = walked;
      }

  -- none are left
  pub none_left : (P : ℕ → ValueTrees → Type 0) (Q : List ValueTree → Type 0) (place : ℕ) (l : Left order at vs P Q place) → l.us ≡ NoValues
      → (vs ≡ value_trees l.done) × (place ≡ at + length (spellings order at vs))
  unfolding spellings
  none_left P Q place l none =
      let long : length (spellings order place l.us) ≡ 0 = ap (λ (u : ValueTrees). length (spellings order place u)) none in
      (l.joins ∙ ap (λ (u : ValueTrees). in_front l.done u) none ∙ front_all l.done, omega (arith, l.ends, long))

-- ---- elements of an array

module _ {order : Order} {depth_left : ℕ} {types : List ℕ} {end : ℕ} {bytes rest : List ℕ} {at : ℕ} {vs : ValueTrees} {Q : List ValueTree → Type 0} {place : ℕ}
    (l : Left order at vs (λ q us. ElementsStand order depth_left types q end bytes us rest) Q place) where
  pub next_element : place < end → FirstElement order depth_left types place end bytes rest l.us
  next_element lt = element_of l.us l.keeps (λ e. omega (arith, lt, e))

  pub element_left : (Q' : List ValueTree → Type 0) (n : FirstElement order depth_left types place end bytes rest l.us) (q : ℕ) → q ≡ place + length (spelling order place n.v) → Q' (l.done ++ n.v ∷ [])
      → Left order at vs (λ p us. ElementsStand order depth_left types p end bytes us rest) Q' q
  element_left Q' n q after walked =
      less_left order at vs (λ p us. ElementsStand order depth_left types p end bytes us rest) (λ p us. ElementsStand order depth_left types p end bytes us rest) Q Q' place l n.v n.us n.begins q after n.others walked

  pub no_element : end ≤ place → (vs ≡ value_trees l.done) × (place ≡ at + length (spellings order at vs))
  no_element le = none_left order at vs (λ p us. ElementsStand order depth_left types p end bytes us rest) Q place l (no_elements l.us l.keeps le)

-- ---- elements that are passed over

-- values of which each may be gathered after those before it, so that all are
pub passed_over : (depth : ℕ) (Q : List ValueTree → Type 0) → ((done : List ValueTree) (v : ValueTree) → IsWellFormed depth v → Q done → Q (done ++ v ∷ []))
    → (done : List ValueTree) (us : ValueTrees) → AreWellFormed depth us → Q done → (xs : List ValueTree) × (in_front done us ≡ value_trees xs) × Q xs
passed_over depth Q step done NoValues formed q = (done, front_all done, q)
passed_over depth Q step done (MoreValues v us) formed q =
    let later = passed_over depth Q step (done ++ v ∷ []) us formed.1 (step done v formed.0 q) in
    (later.0, front_more done v us ∙ later.1, later.2)

-- ---- values of some types

module _ {order : Order} {depth_left : ℕ} {bytes rest : List ℕ} {at : ℕ} {vs : ValueTrees} {Q : List ValueTree → Type 0} {place : ℕ} (types : List ℕ) (pos : ℕ)
    (l : Left order at vs (λ q us. AllStand order depth_left (drop pos types) q bytes us rest) Q place) where
  pub record NextValue (next : ℕ) : Type 0 where
    pub v : ValueTree
    pub us : ValueTrees
    pub begins : l.us ≡ MoreValues v us
    pub some : pos < next
    pub inside : next ≤ length types
    pub stands : Stands order depth_left (take (next - pos) (drop pos types)) place bytes v (spellings order (place + length (spelling order place v)) us ++ rest)
    pub others : AllStand order depth_left (drop next types) (place + length (spelling order place v)) bytes us rest

  all_as : (us : ValueTrees) → l.us ≡ us → AllStand order depth_left (drop pos types) place bytes us rest
  all_as us e = subst (λ (u : ValueTrees). AllStand order depth_left (drop pos types) place bytes u rest) e l.keeps

  pub next_value : (next : ℕ) → pos < length types → IsTypeEnd types pos next → NextValue next
  next_value next lt is = of l.us refl
    where
      of : (us : ValueTrees) → l.us ≡ us → NextValue next
      of NoValues e = absurd (omega (arith, lt, ap length (all_as NoValues e).text, length-drop pos types))
      of (MoreValues v us) e =
          let keeps = all_as (MoreValues v us) e in
          let ends : next ≡ pos + length (sig (type_of v)) = is (type_of v) (sigs (types_of us)) (sym keeps.text) in
          let long = length-append (sig (type_of v)) (sigs (types_of us)) in
          record { v = v; us = us; begins = e; some = omega (arith, ends, sig_positive (type_of v)); inside = omega (arith, lt, ends, long, ap length keeps.text, length-drop pos types); stands = first_value types pos next is keeps; others = other_values types pos next is keeps }

  pub value_left : (Q' : List ValueTree → Type 0) (next : ℕ) (n : NextValue next) (q : ℕ) → q ≡ place + length (spelling order place n.v) → Q' (l.done ++ n.v ∷ [])
      → Left order at vs (λ p us. AllStand order depth_left (drop next types) p bytes us rest) Q' q
  value_left Q' next n q after walked =
      less_left order at vs (λ p us. AllStand order depth_left (drop pos types) p bytes us rest) (λ p us. AllStand order depth_left (drop next types) p bytes us rest) Q Q' place l n.v n.us n.begins q after n.others walked

  pub no_value : length types ≤ pos → (vs ≡ value_trees l.done) × (place ≡ at + length (spellings order at vs))
  no_value le = none_left order at vs (λ p us. AllStand order depth_left (drop pos types) p bytes us rest) Q place l (of l.us refl)
    where
      of : (us : ValueTrees) → l.us ≡ us → l.us ≡ NoValues
      of NoValues e = e
      of (MoreValues v us) e =
          absurd (omega (arith, le, ap length (all_as (MoreValues v us) e).text, length-append (sig (type_of v)) (sigs (types_of us)), sig_positive (type_of v), length-drop pos types))

-- ---- the first of some types, and those after it

-- it ends where its length says
pub first_ends : {types lengths : List ℕ} → AreLengths types lengths → {n : ℕ} → n ≡ get_or lengths 0 0 → IsTypeEnd types 0 n
first_ends {types} {lengths} noted is t more e = omega (arith, is, ends_by types lengths noted 0 t more e)

pub of_first : {order : Order} {depth_left : ℕ} (types : List ℕ) {place : ℕ} {bytes : List ℕ} {v : ValueTree} {rest : List ℕ} (next : ℕ) → Stands order depth_left (take (next - 0) types) place bytes v rest
    → Stands order depth_left (take next types) place bytes v rest
of_first {order} {depth_left} types {place} {bytes} {v} {rest} next s = let e : next - 0 ≡ next = omega arith in subst (λ (k : ℕ). Stands order depth_left (take k types) place bytes v rest) e s

pub of_others : {order : Order} {depth_left : ℕ} (types : List ℕ) {at : ℕ} {vs : ValueTrees} {Q : List ValueTree → Type 0} {place : ℕ} {bytes rest : List ℕ} (next : ℕ) → Left order at vs (λ q us. AllStand order depth_left (drop next types) q bytes us rest) Q place
    → Left order at vs (λ q us. AllStand order depth_left (take (length types - next) (drop next types)) q bytes us rest) Q place
of_others {order} {depth_left} types {at} {vs} {Q} {place} {bytes} {rest} next l = subst (λ (ts : List ℕ). Left order at vs (λ q us. AllStand order depth_left ts q bytes us rest) Q place) (sym (take_rest types next)) l

-- ---- what a visitor made of those that are walked

-- one value more
pub spellings_more : (order : Order) (at : ℕ) (xs : List ValueTree) (v : ValueTree)
    → spellings order at (value_trees (xs ++ v ∷ [])) ≡ spellings order at (value_trees xs) ++ spelling order (at + length (spellings order at (value_trees xs))) v
unfolding spellings
spellings_more order at [] v = let e : at ≡ at + 0 = omega arith in append-nil (spelling order at v) ∙ ap (λ (k : ℕ). spelling order k v) e
spellings_more order at (x ∷ xs) v =
    let s = spelling order at x in
    let q = at + length s in
    let more = spellings order q (value_trees xs) in
    let e : q + length more ≡ at + length (s ++ more) = omega (arith, length-append s more) in
    ap (λ (l : List ℕ). s ++ l) (spellings_more order q xs v) ∙ sym (append_assoc s more (spelling order (q + length more) v)) ∙ ap (λ (k : ℕ). (s ++ more) ++ spelling order k v) e

pub some_done : (xs : List ValueTree) (v : ValueTree) → is_none (xs ++ v ∷ []) ≡ false
some_done [] v = refl
some_done (x ∷ xs) v = refl

-- M holds of the values that are walked, which end at place; and whether there are none
pub record Taken (M : List ValueTree → Type 0) (order : Order) (at place : ℕ) (is_first : Bool) (done : List ValueTree) : Type 0 where
  pub taken : M done
  pub first : is_first ≡ is_none done
  pub ends : place ≡ at + length (spellings order at (value_trees done))

pub none_taken : (M : List ValueTree → Type 0) (order : Order) (at : ℕ) → M [] → Taken M order at at true []
unfolding spellings
none_taken M order at m = record { taken = m; first = refl; ends = omega arith }

pub more_taken : {M : List ValueTree → Type 0} {order : Order} {at place : ℕ} {is_first : Bool} (M' : List ValueTree → Type 0) (done : List ValueTree) (v : ValueTree) (q : ℕ) → Taken M order at place is_first done
    → q ≡ place + length (spelling order place v) → M' (done ++ v ∷ []) → Taken M' order at q false (done ++ v ∷ [])
more_taken {order = order} {at = at} {place = place} M' done v q t after m =
    let here = spellings order at (value_trees done) in
    let long : length (spellings order at (value_trees (done ++ v ∷ []))) ≡ length here + length (spelling order place v) =
    ap length (spellings_more order at done v) ∙ length-append here (spelling order (at + length here) v) ∙ ap (λ (k : ℕ). length here + length (spelling order k v)) (sym t.ends) in
    record { taken = m; first = sym (some_done done v); ends = omega (arith, after, t.ends, long) }

-- where none are walked
pub starts : (order : Order) (q : ℕ) → q ≡ q + length (spellings order q (value_trees []))
unfolding spellings
starts order q = omega arith

-- where the first part of a struct or a dict entry begins
pub first_part : (order : Order) (at : ℕ) (v : ValueTree) {what : Container} {q : ℕ} → (what ≡ kind.Struct) ⊎ (what ≡ kind.Entry) → IsOf what v → q ≡ inside order at v → q ≡ at + gap_to (alignment_of (type_of v)) at
first_part order at v (inl e) of is = struct_starts v (subst (λ (k : Container). IsOf k v) e of) is
  where
    struct_starts : (v : ValueTree) → IsOf kind.Struct v → {q : ℕ} → q ≡ inside order at v → q ≡ at + gap_to (alignment_of (type_of v)) at
    struct_starts (StructValue xs) of is = is
    struct_starts v of is = absurd of
first_part order at v (inr e) of is = entry_starts v (subst (λ (k : Container). IsOf k v) e of) is
  where
    entry_starts : (v : ValueTree) → IsOf kind.Entry v → {q : ℕ} → q ≡ inside order at v → q ≡ at + gap_to (alignment_of (type_of v)) at
    entry_starts (EntryValue x y) of is = is
    entry_starts v of is = absurd of

-- what is said of an outcome that is handed on
pub not_ok : {T E : Type 0} (r : Result T E) (Q : Type 0) → is_err r ≡ true → IfOk r (λ x. Q)
not_ok (Ok x) Q e = absurd cc
not_ok (Err e) Q h = tt

pub held_ok : {T E : Type 0} (r : Result T E) (P : Type 0) → is_err r ≡ false → IfOk r (λ x. P) → P
held_ok (Ok x) P e h = h
held_ok (Err e) P q h = absurd cc

pub ok_from : {T E : Type 0} (r : Result T E) (P Q : Type 0) → (P → Q) → IfOk r (λ x. P) → IfOk r (λ x. Q)
ok_from (Ok x) P Q f h = f h
ok_from (Err e) P Q f h = tt
