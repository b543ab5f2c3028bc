-- The items of values one after another, and of a container by its parts.
-- The proofs of the laws that a `Visitor` owes, of the one that flattens.
use Rattle.std.proofs.Common.{◌≡◌, ℕ, zero, suc, ◌+◌, ◌-◌, ◌<◌, ◌≤◌, ◌^◌, List, [], ◌∷◌, ◌++◌, length, get_or, set, Bool, true, false, cond, refl, sym, ap, subst, ◌∙◌, arith, append_assoc, append-nil}
use Rattle.std.specs.Prelude.{nat_lt}
use Rattle.std.proofs.lemmas.Bool.{cond-true, lt-ltb, le-ltb, ltb-true, ltb-false}
use Rattle.std.proofs.lemmas.List.{length-append, get_or-set_other, set-set, set_comm}
use Rattle.dbus_value_model.specs.declared.order.Order.{Order}
use Rattle.dbus_value_model.specs.Spelling.{spelling, spellings}
use Rattle.dbus_value_model.specs.Values.{ValueTree, ValueTrees, NumberValue, TextValue, VariantValue, ArrayValue, StructValue, EntryValue, value_trees}
use Rattle.dbus_walk.specs.declared.container.Container.{Container}
use Rattle.dbus_walk.specs.Containers.{IsOf, inside, parts}
use Rattle.dbus_flatten.specs.declared.flat_item.FlatItem.{FlatItem}
use Rattle.dbus_flatten.specs.declared.flattener.Flattener.{Flattener}
use Rattle.dbus_flatten.specs.Flattening.{item, with_item, flat, flats, in_word, Appends, Gains, Counts, Closes, Opens, IsListed, IsStroke, numbered, put, puts}

-- ---- words

pub word_is : (n : ℕ) → n < 2 ^ 64 - 1 → in_word n ≡ n
word_is n h = cond-true (nat_lt n (2 ^ 64 - 1)) n (2 ^ 64 - 1) (lt-ltb n (2 ^ 64 - 1) h)

pub word_full : (n : ℕ) → 2 ^ 64 - 1 ≤ n → in_word n ≡ 2 ^ 64 - 1
word_full n h = ap (λ (b : Bool). cond b n (2 ^ 64 - 1)) (le-ltb n (2 ^ 64 - 1) h)

word_more : (m n : ℕ) → in_word (in_word m + n) ≡ in_word (m + n)
word_more m n = of (nat_lt m (2 ^ 64 - 1)) refl
  where
    of : (b : Bool) → nat_lt m (2 ^ 64 - 1) ≡ b → in_word (in_word m + n) ≡ in_word (m + n)
    of true e = ap (λ (k : ℕ). in_word (k + n)) (word_is m (ltb-true m (2 ^ 64 - 1) e))
    of false e =
        let most = ltb-false m (2 ^ 64 - 1) e in
        let full = word_full m most in
        word_full (in_word m + n) (omega (arith, full)) ∙ sym (word_full (m + n) (omega (arith, most)))

-- a number that is small is told by its word
pub word_same : (m n : ℕ) → in_word m ≡ in_word n → n < 2 ^ 64 - 1 → m ≡ n
word_same m n e small = of (nat_lt m (2 ^ 64 - 1)) refl
  where
    of : (b : Bool) → nat_lt m (2 ^ 64 - 1) ≡ b → m ≡ n
    of true h = sym (word_is m (ltb-true m (2 ^ 64 - 1) h)) ∙ e ∙ word_is n small
    of false h = absurd (omega (arith, e, small, word_is n small, word_full m (ltb-false m (2 ^ 64 - 1) h)))

-- ---- items that are put

pub puts_both : (first n : ℕ) (out xs ys : List FlatItem) → puts first n out (xs ++ ys) ≡ puts first (n + length xs) (puts first n out xs) ys
puts_both first n out [] ys = let none : n ≡ n + 0 = omega arith in ap (λ (k : ℕ). puts first k out ys) none
puts_both first n out (x ∷ xs) ys =
    let more : suc n + length xs ≡ n + suc (length xs) = omega arith in
    puts_both first (suc n) (put first n out x) xs ys ∙ ap (λ (k : ℕ). puts first k (puts first (suc n) (put first n out x) xs) ys) more

-- an item that is put is the one at its place, if it has one
set_there : (out : List FlatItem) (at : ℕ) (i : FlatItem) → get_or (set out at i) at i ≡ i
set_there [] at i = refl
set_there (x ∷ xs) zero i = refl
set_there (x ∷ xs) (suc at) i = set_there xs at i

-- the item of a place with another number
abbrev recount : (first place n : ℕ) → FlatItem → List FlatItem → List FlatItem
recount first place n i out = put first place out (numbered (get_or out (place - first) i) n)

recount_put : (first p n : ℕ) (i : FlatItem) (out : List FlatItem) → recount first p n i (put first p out i) ≡ put first p out (numbered i n)
recount_put first p n i out = of (nat_lt p first)
  where
    of : (b : Bool) → cond b (cond b out (set out (p - first) i)) (set (cond b out (set out (p - first) i)) (p - first) (numbered (get_or (cond b out (set out (p - first) i)) (p - first) i) n)) ≡ cond b out (set out (p - first) (numbered i n))
    of true = refl
    of false = ap (λ (j : FlatItem). set (set out (p - first) i) (p - first) (numbered j n)) (set_there out (p - first) i) ∙ set-set out (p - first) i (numbered i n)

-- a place counts the same before and after items are put behind it
recount_set : (a b n : ℕ) (i x : FlatItem) (out : List FlatItem) → (a ≡ b → ⊥) → set (set out b x) a (numbered (get_or (set out b x) a i) n) ≡ set (set out a (numbered (get_or out a i) n)) b x
recount_set a b n i x out apart =
    ap (λ (j : FlatItem). set (set out b x) a (numbered j n)) (get_or-set_other out b a x i apart) ∙ set_comm out b a x (numbered (get_or out a i) n) (λ e. apart (sym e))

recount_later : (first p q n : ℕ) (i x : FlatItem) (out : List FlatItem) → p < q → recount first p n i (put first q out x) ≡ put first q (recount first p n i out) x
recount_later first p q n i x out before = of (nat_lt p first) (nat_lt q first) refl refl
  where
    of : (b d : Bool) → nat_lt p first ≡ b → nat_lt q first ≡ d
        → cond b (cond d out (set out (q - first) x)) (set (cond d out (set out (q - first) x)) (p - first) (numbered (get_or (cond d out (set out (q - first) x)) (p - first) i) n))
        ≡ cond d (cond b out (set out (p - first) (numbered (get_or out (p - first) i) n))) (set (cond b out (set out (p - first) (numbered (get_or out (p - first) i) n))) (q - first) x)
    of true d e f = refl
    of false true e f = refl
    of false false e f = let from = ltb-false p first e in recount_set (p - first) (q - first) n i x out (λ same. omega (arith, same, before, from))

recount_puts : (first p q n : ℕ) (i : FlatItem) (out xs : List FlatItem) → p < q → recount first p n i (puts first q out xs) ≡ puts first q (recount first p n i out) xs
recount_puts first p q n i out [] before = refl
recount_puts first p q n i out (x ∷ xs) before =
    recount_puts first p (suc q) n i (put first q out x) xs (omega (arith, before)) ∙ ap (λ (l : List FlatItem). puts first (suc q) l xs) (recount_later first p q n i x out before)

pub counted_puts : (first p n : ℕ) (i : FlatItem) (out xs : List FlatItem) → recount first p n i (puts first p out (i ∷ xs)) ≡ puts first p out (numbered i n ∷ xs)
counted_puts first p n i out xs = recount_puts first p (suc p) n i (put first p out i) xs (omega arith) ∙ ap (λ (l : List FlatItem). puts first (suc p) l xs) (recount_put first p n i out)

-- ---- items that are gathered

none_gained : (s : Flattener) → Appends s [] s
none_gained s = let none : s.count ≡ s.count + 0 = omega arith in record { same = refl; first = refl; counted = ap in_word none; written = λ small. refl }

pub then_gained : (a b c : Flattener) (xs ys : List FlatItem) → Appends a xs b → Appends b ys c → Appends a (xs ++ ys) c
then_gained a b c xs ys first second =
    let m = a.count + length xs in
    let long : m + length ys ≡ a.count + length (xs ++ ys) = omega (arith, length-append xs ys) in
    record {
      same = second.same ∙ first.same;
      first = second.first ∙ first.first;
      counted = second.counted ∙ sym (word_more b.count (length ys)) ∙ ap (λ (k : ℕ). in_word (k + length ys)) first.counted ∙ word_more m (length ys) ∙ ap in_word long;
      written = λ small.
          let here : b.count ≡ m = word_same b.count m first.counted (omega (arith, small, long)) in
          second.written (omega (arith, small, long, here)) ∙ ap (λ (k : ℕ). puts k b.count b.out.now ys) first.first ∙ ap (λ (k : ℕ). puts a.first k b.out.now ys) here
          ∙ ap (λ (l : List FlatItem). puts a.first m l ys) (first.written (omega (arith, small, long))) ∙ sym (puts_both a.first a.count a.out.now xs ys);
    }

-- an item and those within it, whose number it is given
pub whole_gained : (s opened filled after : Flattener) (held : ℕ) (i : FlatItem) (within : List FlatItem)
    → held ≡ s.count → Appends s (i ∷ []) opened → Appends opened within filled → Counts filled held after → Appends s (numbered i (length within) ∷ within) after
whole_gained s opened filled after held i within placed opens many counts =
    let both = then_gained s opened filled (i ∷ []) within opens many in
    record {
      same = counts.same ∙ both.same;
      first = counts.first ∙ both.first;
      counted = ap in_word counts.kept ∙ both.counted;
      written = λ small.
          let count : filled.count ≡ s.count + length (i ∷ within) = word_same filled.count (s.count + length (i ∷ within)) both.counted (omega (arith, small)) in
          let number : filled.count - (held + 1) ≡ length within = omega (arith, count, placed) in
          counts.written i ∙ ap (λ (k : ℕ). recount k held (filled.count - (held + 1)) i filled.out.now) both.first ∙ ap (λ (k : ℕ). recount s.first held k i filled.out.now) number
          ∙ ap (λ (k : ℕ). recount s.first k (length within) i filled.out.now) placed ∙ ap (recount s.first s.count (length within) i) (both.written small)
          ∙ counted_puts s.first s.count (length within) i s.out.now within;
    }

-- ---- values one after another

pub flats_more : (order : Order) (at : ℕ) (xs : List ValueTree) (v : ValueTree)
    → flats order at (value_trees (xs ++ v ∷ [])) ≡ flats order at (value_trees xs) ++ flat order (at + length (spellings order at (value_trees xs))) v
unfolding flats spellings
flats_more order at [] v = let e : at ≡ at + 0 = omega arith in append-nil (flat order at v) ∙ ap (λ (k : ℕ). flat order k v) e
flats_more order at (x ∷ xs) v =
    let s = spelling order at x in
    let q = at + length s in
    let more = spellings order q (value_trees xs) in
    let e : q + length more ≡ at + length (s ++ more) = omega (arith, length-append s more) in
    ap (λ (l : List FlatItem). flat order at x ++ l) (flats_more order q xs v) ∙ sym (append_assoc (flat order at x) (flats order q (value_trees xs)) (flat order (q + length more) v))
    ∙ ap (λ (k : ℕ). (flat order at x ++ flats order q (value_trees xs)) ++ flat order k v) e

pub none_flat : (s : Flattener) (m : ℕ) (order : Order) (at : ℕ) → Gains s m (flats order at (value_trees [])) m s
unfolding flats
none_flat s m order at = record { gained = none_gained s; stays = refl }

pub more_flat : (s before parted after : Flattener) (m gathered later : ℕ) (order : Order) (at place : ℕ) (done : List ValueTree) (v : ValueTree)
    → Gains s m (flats order at (value_trees done)) gathered before → parted ≡ before → place ≡ at + length (spellings order at (value_trees done))
    → Gains parted gathered (flat order place v) later after → Gains s m (flats order at (value_trees (done ++ v ∷ []))) later after
more_flat s before parted after m gathered later order at place done v first between here second =
    let next = subst (λ (f : Flattener). Appends f (flat order place v) after) between second.gained in
    let is : flats order at (value_trees done) ++ flat order place v ≡ flats order at (value_trees (done ++ v ∷ [])) =
    ap (λ (k : ℕ). flats order at (value_trees done) ++ flat order k v) here ∙ sym (flats_more order at done v) in
    record {
      gained = subst (λ (l : List FlatItem). Appends s l after) is (then_gained s before after (flats order at (value_trees done)) (flat order place v) first.gained next);
      stays = second.stays ∙ first.stays;
    }

-- ---- containers

-- a container's items are its own and those of its parts
pub flat_whole : (order : Order) (at : ℕ) (v : ValueTree) → IsListed v → flat order at v ≡ with_item order at v (flats order (inside order at v) (parts v))
unfolding flat flats
flat_whole order at (NumberValue k n) h = absurd h
flat_whole order at (TextValue k t) h = absurd h
flat_whole order at (VariantValue x) h = ap (with_item order at (VariantValue x)) (sym (append-nil (flat order (inside order at (VariantValue x)) x)))
flat_whole order at (ArrayValue t xs) h = ap (λ (b : Bool). with_item order at (ArrayValue t xs) (cond b [] (flats order (inside order at (ArrayValue t xs)) xs))) h
flat_whole order at (StructValue xs) h = refl
flat_whole order at (EntryValue x y) h =
    let key = inside order at (EntryValue x y) in
    ap (λ (l : List FlatItem). with_item order at (EntryValue x y) (flat order key x ++ l)) (sym (append-nil (flat order (key + length (spelling order key x)) y)))

-- an array that has its own item alone
pub flat_stroke : (order : Order) (at : ℕ) (v : ValueTree) → IsStroke v → flat order at v ≡ with_item order at v []
unfolding flat
flat_stroke order at (ArrayValue t xs) e = ap (λ (b : Bool). with_item order at (ArrayValue t xs) (cond b [] (flats order (inside order at (ArrayValue t xs)) xs))) e
flat_stroke order at v e = absurd e

-- a container's item told with the number of those within it
numbered_item : (order : Order) (at : ℕ) (v : ValueTree) → IsListed v → (n : ℕ) → numbered (item order at v 0) n ≡ item order at v n
numbered_item order at (NumberValue k m) h n = absurd h
numbered_item order at (TextValue k t) h n = absurd h
numbered_item order at (VariantValue x) h n = refl
numbered_item order at (ArrayValue t xs) h n = refl
numbered_item order at (StructValue xs) h n = refl
numbered_item order at (EntryValue x y) h n = refl

pub whole_flat : (s opened filled after : Flattener) (m none held later : ℕ) (what : Container) (order : Order) (at : ℕ) (v : ValueTree) (xs : List ValueTree)
    → IsOf what v → Opens s order at v none opened → parts v ≡ value_trees xs → Gains opened none (flats order (inside order at v) (value_trees xs)) held filled
    → Closes filled m held later after → Gains s m (flat order at v) later after
whole_flat s opened filled after m none held later what order at v xs is_of opens has many closes =
    let within = flats order (inside order at v) (value_trees xs) in
    let counts = subst (λ (p : ℕ). Counts filled p after) many.stays closes.counts in
    let all = whole_gained s opened filled after none (item order at v 0) within opens.placed opens.gained many.gained counts in
    let own = ap (λ (i : FlatItem). i ∷ within) (numbered_item order at v opens.listed (length within)) in
    let is = own ∙ ap (λ (vs : ValueTrees). with_item order at v (flats order (inside order at v) vs)) (sym has) ∙ sym (flat_whole order at v opens.listed) in
    record { gained = subst (λ (l : List FlatItem). Appends s l after) is all; stays = closes.stays }
