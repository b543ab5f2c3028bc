-- Values that are byteswapped one after another, and the parts of a container.
-- D-Bus Specification, "Marshaling (Wire Format)".
-- The proofs of the laws that a `Visitor` owes, of the one that byteswaps.
use Rattle.std.proofs.Common.{◌≡◌, ℕ, ◌+◌, ◌≤◌, List, [], ◌∷◌, ◌++◌, length, take, drop, refl, sym, ap, subst, ◌∙◌, arith, append_assoc}
use Rattle.std.proofs.lemmas.List.{length-append, length-take, take-append-drop}
use Rattle.dbus_value_model.specs.declared.order.Order.{Order}
use Rattle.dbus_value_model.specs.Spelling.{spelling, spellings}
use Rattle.dbus_value_model.specs.Values.{ValueTree, ValueTrees, value_trees}
use Rattle.dbus_message_model.proofs.BothOrders.{any_lengths}
use Rattle.dbus_walk.specs.declared.container.Container.{Container}
use Rattle.dbus_walk.specs.Containers.{IsOf, inside, parts, front}
use Rattle.dbus_walk.proofs.Fronts.{spelled_apart, front_ends, same_inside}
use Rattle.dbus_walk.proofs.Containers.{put_rest, put_more}
use Rattle.dbus_walk.proofs.Walks.{spellings_more}
use Rattle.dbus_swap.specs.declared.byteswapper.Byteswapper.{Byteswapper}
use Rattle.dbus_swap.specs.Byteswapping.{other, Replaces, Byteswaps, Stays}

-- bytes that are the same are in place
pub nothing_put : (at : ℕ) (own put before now : List ℕ) → own ≡ put → now ≡ before → Replaces at own put before now
nothing_put at own put before now same kept = λ rest h e. kept ∙ sym (take-append-drop at before) ∙ ap (λ (l : List ℕ). take at before ++ l) (e ∙ ap (λ (l : List ℕ). l ++ rest) same)

-- bytes in place of some, and then bytes in place of those after them
pub then_put : (at : ℕ) (own put own' put' before between now : List ℕ) (q : ℕ) → q ≡ at + length own → length own ≡ length put
    → Replaces at own put before between → Replaces q own' put' between now → Replaces at (own ++ own') (put ++ put') before now
then_put at own put own' put' before between now q place long first second = λ rest h e.
    let apart : drop at before ≡ own ++ (own' ++ rest) = e ∙ append_assoc own own' rest in
    let one = first (own' ++ rest) h apart in
    let here : q ≡ at + length put = omega (arith, place, long) in
    let left = put_rest at put (own' ++ rest) before between h one q here in
    let within : q ≤ length between = omega (arith, here, h, ap length one, length-append (take at before) (put ++ (own' ++ rest)), length-append put (own' ++ rest), length-take at before) in
    put_more at put (own' ++ rest) before between h one q here put' rest now (second rest within left)

-- Of values that stand one after another from `at` on, these are byteswapped, and the next one
-- begins at `place`.
pub record ByteswappedTo (order : Order) (at : ℕ) (before now : List ℕ) (place : ℕ) (done : List ValueTree) : Type 0 where
  pub here : place ≡ at + length (spellings order at (value_trees done))
  pub replaced : Replaces at (spellings order at (value_trees done)) (spellings (other order) at (value_trees done)) before now

pub one_more : (order : Order) (at place q : ℕ) (done : List ValueTree) (v : ValueTree) (before now next : List ℕ) → ByteswappedTo order at before now place done → q ≡ place + length (spelling order place v)
    → Replaces place (spelling order place v) (spelling (other order) place v) now next → ByteswappedTo order at before next q (done ++ v ∷ [])
one_more order at place q done v before now next first ends second =
    let own = spellings order at (value_trees done) in
    let put = spellings (other order) at (value_trees done) in
    let long : length own ≡ length put = any_lengths order (other order) at (value_trees done) in
    let is : (any : Order) → length (spellings any at (value_trees done)) ≡ length own → spellings any at (value_trees (done ++ v ∷ [])) ≡ spellings any at (value_trees done) ++ spelling any place v =
    λ any same. spellings_more any at done v ∙ ap (λ (k : ℕ). spellings any at (value_trees done) ++ spelling any k v) (omega (arith, first.here, same)) in
    record {
      here = omega (arith, first.here, ends, ap length (is order refl), length-append own (spelling order place v));
      replaced = subst (λ (l : List ℕ). Replaces at l (spellings (other order) at (value_trees (done ++ v ∷ []))) before next) (sym (is order refl))
          (subst (λ (l : List ℕ). Replaces at (own ++ spelling order place v) l before next) (sym (is (other order) (sym long)))
          (then_put at own put (spelling order place v) (spelling (other order) place v) before now next place first.here long first.replaced second));
    }

-- a container: what stands before its parts, and then these
pub whole_put : (order : Order) (at : ℕ) (v : ValueTree) (kind : Container) → IsOf kind v → (before between now : List ℕ)
    → Replaces at (front order at v) (front (other order) at v) before between
    → Replaces (inside order at v) (spellings order (inside order at v) (parts v)) (spellings (other order) (inside order at v) (parts v)) between now
    → Replaces at (spelling order at v) (spelling (other order) at v) before now
whole_put order at v kind is_of before between now first second =
    let q = inside order at v in
    let own = front order at v in
    let put = front (other order) at v in
    let own' = spellings order q (parts v) in
    let put' = spellings (other order) q (parts v) in
    let long : length own ≡ length put = omega (arith, front_ends order at v, front_ends (other order) at v, same_inside order (other order) at v) in
    let put_is : spelling (other order) at v ≡ put ++ put' =
    spelled_apart (other order) at v kind is_of ∙ ap (λ (k : ℕ). put ++ spellings (other order) k (parts v)) (sym (same_inside order (other order) at v)) in
    let both = then_put at own put own' put' before between now q (front_ends order at v) long first second in
    subst (λ (l : List ℕ). Replaces at l (spelling (other order) at v) before now) (sym (spelled_apart order at v kind is_of))
    (subst (λ (l : List ℕ). Replaces at (own ++ own') l before now) (sym put_is) both)

pub none_byteswapped : (s : Byteswapper) (order : Order) (at : ℕ) → Byteswaps at (spellings order at (value_trees [])) (spellings (other order) at (value_trees [])) s s
unfolding spellings
none_byteswapped s order at = record { same = refl; replaced = nothing_put at [] [] s.out.now s.out.now refl refl }

pub more_byteswapped : (s before parted after : Byteswapper) (order : Order) (at place : ℕ) (done : List ValueTree) (v : ValueTree)
    → Byteswaps at (spellings order at (value_trees done)) (spellings (other order) at (value_trees done)) s before → Stays before parted
    → place ≡ at + length (spellings order at (value_trees done))
    → Byteswaps place (spelling order place v) (spelling (other order) place v) parted after
    → Byteswaps at (spellings order at (value_trees (done ++ v ∷ []))) (spellings (other order) at (value_trees (done ++ v ∷ []))) s after
more_byteswapped s before parted after order at place done v first stays here second = record {
  same = second.same ∙ stays.same ∙ first.same;
  replaced = (one_more order at place _ done v s.out.now parted.out.now after.out.now
      (record { here = here; replaced = subst (λ (l : List ℕ). Replaces at (spellings order at (value_trees done)) (spellings (other order) at (value_trees done)) s.out.now l) (sym stays.kept) first.replaced }) refl second.replaced).replaced;
}

pub whole_byteswapped : (s opened filled after : Byteswapper) (kind : Container) (order : Order) (at : ℕ) (v : ValueTree) (xs : List ValueTree)
    → IsOf kind v → Byteswaps at (front order at v) (front (other order) at v) s opened → parts v ≡ value_trees xs
    → Byteswaps (inside order at v) (spellings order (inside order at v) (value_trees xs)) (spellings (other order) (inside order at v) (value_trees xs)) opened filled
    → Stays filled after → Byteswaps at (spelling order at v) (spelling (other order) at v) s after
whole_byteswapped s opened filled after kind order at v xs is_of opens has many closes =
    let q = inside order at v in
    let own = subst (λ (vs : ValueTrees). Replaces q (spellings order q vs) (spellings (other order) q vs) opened.out.now filled.out.now) (sym has) many.replaced in
    record {
      same = closes.same ∙ many.same ∙ opens.same;
      replaced = whole_put order at v kind is_of s.out.now opened.out.now after.out.now opens.replaced
          (subst (λ (l : List ℕ). Replaces q (spellings order q (parts v)) (spellings (other order) q (parts v)) opened.out.now l) (sym closes.kept) own);
    }
