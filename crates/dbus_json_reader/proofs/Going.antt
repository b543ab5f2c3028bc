-- Values that are read one after another: what was read of the first ones, and what is left.
use Rattle.std.proofs.Common.{◌≡◌, ℕ, ◌+◌, ◌<◌, ◌≤◌, List, [], ◌∷◌, ◌++◌, length, get_or, drop, suc, arith, refl, sym, ap, ◌∙◌, subst}
use Rattle.std.proofs.lemmas.List.{drop_more, at_drop_all}
use Rattle.json.specs.Value.{value_view, items_view}
use Rattle.json.specs.declared.value.Value.{Value as JsonValue}
use Rattle.dbus_types.specs.SigTypes.{type_tree, type_trees_of}
use Rattle.dbus_types.specs.declared.sig_type.SigType.{SigType}
use Rattle.json.specs.Json.{Json, Items, no_items, item}
use Rattle.dbus_texts.specs.Types.{TypeTree, TypeTrees, NoTypes, MoreTypes}
use Rattle.dbus_value_model.specs.Values.{ValueTree, ValueTrees, NoValues, MoreValues, type_of, types_of}
use Rattle.dbus_value_model.specs.ValueViews.{value_tree, value_trees_of}
use Rattle.dbus_value_model.specs.declared.value.Value.{Value}
use Rattle.dbus_json.specs.declared.integers.Integers.{Integers}
use Rattle.dbus_json_reader.specs.JsonValues.{IsRead, AreElements, AreRead}

-- these values, and then those
abbrev pub trees_before : {A : Type 0} → List (Value A) → ValueTrees → ValueTrees
trees_before [] ws = ws
trees_before (v ∷ vs) ws = MoreValues (value_tree v) (trees_before vs ws)

trees_push : {A : Type 0} (vs : List (Value A)) (v : Value A) (ws : ValueTrees) → trees_before (vs ++ v ∷ []) ws ≡ trees_before vs (MoreValues (value_tree v) ws)
trees_push [] v ws = refl
trees_push (u ∷ vs) v ws = ap (MoreValues (value_tree u)) (trees_push vs v ws)

trees_end : {A : Type 0} (vs : List (Value A)) → trees_before vs NoValues ≡ value_trees_of vs
trees_end [] = refl
trees_end (v ∷ vs) = ap (MoreValues (value_tree v)) (trees_end vs)

-- Of all the items `js`, which spell values as `Whole` says, those before `rest` spell the values
-- `vs`: what `rest` spells completes them, and only what begins so is spelled.
pub record IsGoing {A : Type 0} (Whole Rest : ValueTrees → Items → Type 0) (js rest : Items) (vs : List (Value A)) : Type 0 where
  pub fits : (ws : ValueTrees) → Rest ws rest → Whole (trees_before vs ws) js
  pub only : (xs : ValueTrees) → Whole xs js → (ws : ValueTrees) × Rest ws rest

-- what one item and the next ones spell is what it spells, and what they do
pub record Splits (One : ValueTree → Json → Type 0) (Rest Next : ValueTrees → Items → Type 0) : Type 0 where
  pub join : (x : ValueTree) (xs : ValueTrees) (j : Json) (js : Items) → One x j → Next xs js → Rest (MoreValues x xs) (item j js)
  pub part : (ws : ValueTrees) (j : Json) (js : Items) → Rest ws (item j js) → (x : ValueTree) × (xs : ValueTrees) × One x j × Next xs js

pub begins : {A : Type 0} (Whole : ValueTrees → Items → Type 0) (js : Items) → IsGoing {A = A} Whole Whole js js []
begins Whole js = record { fits = λ ws h. h; only = λ xs h. (xs, h) }

module _ {A : Type 0} (Whole Rest Next : ValueTrees → Items → Type 0) (One : ValueTree → Json → Type 0) (split : Splits One Rest Next) (js rest : Items) (j : Json) (vs : List (Value A)) (going : IsGoing Whole Rest js (item j rest) vs) where
  pub goes_on : (v : Value A) (all : List (Value A)) → all ≡ vs ++ v ∷ [] → One (value_tree v) j → IsGoing Whole Next js rest all
  goes_on v all is one = record {
    fits = λ ws h. subst (λ (us : List (Value A)). Whole (trees_before us ws) js) (sym is) (subst (λ (us : ValueTrees). Whole us js) (sym (trees_push vs v ws)) (going.fits _ (split.join _ _ _ _ one h)));
    only = λ xs h. let ws = going.only xs h in let p = split.part ws.0 j rest ws.1 in (p.1, p.3);
  }

  pub stops : ((x : ValueTree) → One x j → ⊥) → (xs : ValueTrees) → Whole xs js → ⊥
  stops none xs h = let ws = going.only xs h in let p = split.part ws.0 j rest ws.1 in none p.0 p.2

pub ends : {A : Type 0} (Whole Rest : ValueTrees → Items → Type 0) (js : Items) (vs : List (Value A)) → IsGoing Whole Rest js no_items vs → Rest NoValues no_items → Whole (value_trees_of vs) js
ends Whole Rest js vs going none = subst (λ (us : ValueTrees). Whole us js) (trees_end vs) (going.fits NoValues none)

-- ---- elements of one type, and values of several

pub split_elements : (integers : Integers) (depth : ℕ) (t : TypeTree) → Splits (IsRead integers depth t) (AreElements integers depth t) (AreElements integers depth t)
split_elements integers depth t = record { join = join; part = part }
  where
    join : (x : ValueTree) (xs : ValueTrees) (j : Json) (js : Items) → IsRead integers depth t x j → AreElements integers depth t xs js → AreElements integers depth t (MoreValues x xs) (item j js)
    join x xs j js one more = record { spelled = (one.spelled, more.spelled); typed = (one.typed, more.typed); formed = (one.formed, more.formed) }

    part : (ws : ValueTrees) (j : Json) (js : Items) → AreElements integers depth t ws (item j js) → (x : ValueTree) × (xs : ValueTrees) × IsRead integers depth t x j × AreElements integers depth t xs js
    part NoValues j js h = absurd h.spelled
    part (MoreValues x xs) j js h = (x, xs, record { spelled = h.spelled.0; typed = h.typed.0; formed = h.formed.0 }, record { spelled = h.spelled.1; typed = h.typed.1; formed = h.formed.1 })

pub no_elements : (integers : Integers) (depth : ℕ) (t : TypeTree) → AreElements integers depth t NoValues no_items
no_elements integers depth t = record { spelled = tt; typed = tt; formed = tt }

same_types : (x y : TypeTree) (xs ys : TypeTrees) → x ≡ y → xs ≡ ys → MoreTypes x xs ≡ MoreTypes y ys
same_types x y xs ys e f = cc

pub split_values : (integers : Integers) (depth : ℕ) (t : TypeTree) (ts : TypeTrees) → Splits (IsRead integers depth t) (AreRead integers depth (MoreTypes t ts)) (AreRead integers depth ts)
split_values integers depth t ts = record { join = join; part = part }
  where
    join : (x : ValueTree) (xs : ValueTrees) (j : Json) (js : Items) → IsRead integers depth t x j → AreRead integers depth ts xs js → AreRead integers depth (MoreTypes t ts) (MoreValues x xs) (item j js)
    join x xs j js one more = record { spelled = (one.spelled, more.spelled); typed = same_types _ _ _ _ one.typed more.typed; formed = (one.formed, more.formed) }

    part : (ws : ValueTrees) (j : Json) (js : Items) → AreRead integers depth (MoreTypes t ts) ws (item j js) → (x : ValueTree) × (xs : ValueTrees) × IsRead integers depth t x j × AreRead integers depth ts xs js
    part NoValues j js h = absurd h.spelled
    part (MoreValues x xs) j js h =
        let types : MoreTypes (type_of x) (types_of xs) ≡ MoreTypes t ts = h.typed in
        (x, xs, record { spelled = h.spelled.0; typed = cc; formed = h.formed.0 }, record { spelled = h.spelled.1; typed = cc; formed = h.formed.1 })

pub no_values : (integers : Integers) (depth : ℕ) → AreRead integers depth NoTypes NoValues no_items
no_values integers depth = record { spelled = tt; typed = refl; formed = tt }

-- ---- at an index

pub begins_at : {A : Type 0} (Whole : ValueTrees → Items → Type 0) (js : Items) (vs : List (Value A)) → vs ≡ [] → IsGoing Whole Whole js js vs
begins_at Whole js vs none = subst (λ (us : List (Value _)). IsGoing Whole Whole js js us) (sym none) (begins Whole js)

items_at : {A : Type 0} (l : List (JsonValue A)) (i : ℕ) (x : JsonValue A) → i < length l → x ≡ get_or l i x → items_view (drop i l) ≡ item (value_view x) (items_view (drop (i + 1) l))
items_at {A} l i x within is = ap items_view (drop_more l i x within) ∙ ap (λ (y : JsonValue A). item (value_view y) (items_view (drop (i + 1) l))) (sym is)

types_at : {A : Type 0} (ts : List (SigType A)) (i : ℕ) (t : SigType A) → i < length ts → t ≡ get_or ts i t → type_trees_of (drop i ts) ≡ MoreTypes (type_tree t) (type_trees_of (drop (i + 1) ts))
types_at {A} ts i t within is = ap type_trees_of (drop_more ts i t within) ∙ ap (λ (u : SigType A). MoreTypes (type_tree u) (type_trees_of (drop (i + 1) ts))) (sym is)

module _ (integers : Integers) {A B : Type 0} (depth : ℕ) (t : TypeTree) (l : List (JsonValue B)) (i : ℕ) (vs : List (Value A)) (going : IsGoing (AreElements integers depth t) (AreElements integers depth t) (items_view l) (items_view (drop i l)) vs) where
  module _ (x : JsonValue B) (within : i < length l) (is : x ≡ get_or l i x) where
    here : IsGoing (AreElements integers depth t) (AreElements integers depth t) (items_view l) (item (value_view x) (items_view (drop (i + 1) l))) vs
    here = subst (λ (js : Items). IsGoing (AreElements integers depth t) (AreElements integers depth t) (items_view l) js vs) (items_at l i x within is) going

    pub next_element : (v : Value A) (all : List (Value A)) → all ≡ vs ++ v ∷ [] → IsRead integers depth t (value_tree v) (value_view x) →
        IsGoing (AreElements integers depth t) (AreElements integers depth t) (items_view l) (items_view (drop (i + 1) l)) all
    next_element v all pushed one = goes_on _ _ _ _ (split_elements integers depth t) _ _ _ _ here v all pushed one

    pub no_element : ((v : ValueTree) → IsRead integers depth t v (value_view x) → ⊥) → (xs : ValueTrees) → AreElements integers depth t xs (items_view l) → ⊥
    no_element none xs h = stops _ _ _ _ (split_elements integers depth t) _ _ _ _ here none xs h

  pub all_elements : length l ≤ i → AreElements integers depth t (value_trees_of vs) (items_view l)
  all_elements over =
      let done = subst (λ (js : Items). IsGoing (AreElements integers depth t) (AreElements integers depth t) (items_view l) js vs) (at_drop_all items_view l i over) going in
      ends _ _ _ _ done (no_elements integers depth t)

abbrev Left : (integers : Integers) {A : Type 0} → ℕ → List (SigType A) → ℕ → ValueTrees → Items → Type 0
Left integers depth ts i = AreRead integers depth (type_trees_of (drop i ts))

module _ (integers : Integers) {A B C : Type 0} (depth : ℕ) (ts : List (SigType C)) (l : List (JsonValue B)) (i : ℕ) (vs : List (Value A)) (going : IsGoing (AreRead integers depth (type_trees_of ts)) (Left integers depth ts i) (items_view l) (items_view (drop i l)) vs) (same : length l ≡ length ts) where
  module _ (x : JsonValue B) (t : SigType C) (within : i < length l) (is : x ≡ get_or l i x) (typed : t ≡ get_or ts i t) where
    at : IsGoing (AreRead integers depth (type_trees_of ts)) (AreRead integers depth (MoreTypes (type_tree t) (type_trees_of (drop (i + 1) ts)))) (items_view l) (item (value_view x) (items_view (drop (i + 1) l))) vs
    at =
        let types = subst (λ (us : TypeTrees). IsGoing (AreRead integers depth (type_trees_of ts)) (AreRead integers depth us) (items_view l) (items_view (drop i l)) vs) (types_at ts i t (omega (arith, within, same)) typed) going in
        subst (λ (js : Items). IsGoing (AreRead integers depth (type_trees_of ts)) (AreRead integers depth (MoreTypes (type_tree t) (type_trees_of (drop (i + 1) ts)))) (items_view l) js vs) (items_at l i x within is) types

    pub next_value : (v : Value A) (all : List (Value A)) → all ≡ vs ++ v ∷ [] → IsRead integers depth (type_tree t) (value_tree v) (value_view x) →
        IsGoing (AreRead integers depth (type_trees_of ts)) (Left integers depth ts (i + 1)) (items_view l) (items_view (drop (i + 1) l)) all
    next_value v all pushed one = goes_on _ _ _ _ (split_values integers depth (type_tree t) (type_trees_of (drop (i + 1) ts))) _ _ _ _ at v all pushed one

    pub no_value : ((v : ValueTree) → IsRead integers depth (type_tree t) v (value_view x) → ⊥) → (xs : ValueTrees) → AreRead integers depth (type_trees_of ts) xs (items_view l) → ⊥
    no_value none xs h = stops _ _ _ _ (split_values integers depth (type_tree t) (type_trees_of (drop (i + 1) ts))) _ _ _ _ at none xs h

  pub all_values : length l ≤ i → AreRead integers depth (type_trees_of ts) (value_trees_of vs) (items_view l)
  all_values over =
      let types = subst (λ (us : TypeTrees). IsGoing (AreRead integers depth (type_trees_of ts)) (AreRead integers depth us) (items_view l) (items_view (drop i l)) vs) (at_drop_all type_trees_of ts i (omega (arith, over, same))) going in
      let done = subst (λ (js : Items). IsGoing (AreRead integers depth (type_trees_of ts)) (AreRead integers depth NoTypes) (items_view l) js vs) (at_drop_all items_view l i over) types in
      ends _ _ _ _ done (no_values integers depth)

-- as many values as types
pub one_each : (integers : Integers) {B C : Type 0} (depth : ℕ) (ts : List (SigType C)) (xs : ValueTrees) (l : List (JsonValue B)) → AreRead integers depth (type_trees_of ts) xs (items_view l) → length l ≡ length ts
one_each integers depth [] xs [] h = refl
one_each integers depth [] NoValues (x ∷ l) h = absurd h.spelled
one_each integers depth [] (MoreValues v xs) (x ∷ l) h = absurd (let no : MoreTypes (type_of v) (types_of xs) ≡ NoTypes = h.typed in cc)
one_each integers depth (t ∷ ts) NoValues l h = absurd (let no : NoTypes ≡ MoreTypes (type_tree t) (type_trees_of ts) = h.typed in cc)
one_each integers depth (t ∷ ts) (MoreValues v xs) [] h = absurd h.spelled
one_each integers depth (t ∷ ts) (MoreValues v xs) (x ∷ l) h =
    let p = (split_values integers depth (type_tree t) (type_trees_of ts)).part (MoreValues v xs) (value_view x) (items_view l) h in
    ap suc (one_each integers depth ts p.1 l p.3)
