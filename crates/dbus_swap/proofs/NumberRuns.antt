-- Numbers one after another, each byteswapped where it stands.
use Rattle.std.proofs.Common.{◌≡◌, ℕ, ◌+◌, ◌<◌, ◌≤◌, List, [], ◌++◌, length, take, drop, replicate, reverse, refl, sym, ap, subst, ◌∙◌, arith}
use Rattle.std.proofs.lemmas.List.{length-append}
use Rattle.dbus_texts.specs.Types.{NumberCode, NumberType}
use Rattle.dbus_types.specs.Alignments.{width}
use Rattle.dbus_value_model.specs.Bytes.{gap_to, pad, num}
use Rattle.dbus_value_model.specs.declared.order.Order.{Order}
use Rattle.dbus_value_model.specs.Spelling.{spelling, spellings}
use Rattle.dbus_value_model.specs.Values.{ValueTree, ValueTrees, NoValues, MoreValues, AllOf}
use Rattle.dbus_value_model.proofs.Numbers.{length-num}
use Rattle.dbus_value_validator.proofs.NumberArrays.{stays_aligned}
use Rattle.dbus_walk.proofs.NumberFacts.{number_of_type}
use Rattle.dbus_walk.proofs.Walks.{Left, all_left, less_left, none_left}
use Rattle.dbus_swap.specs.Byteswapping.{other, Replaces}
use Rattle.dbus_swap.specs.ByteswapLaws.{ByteswappedTo, nothing_put, one_more}
use Rattle.dbus_swap.proofs.Leaves.{one_byte, number_put}

-- numbers of one type, with no padding between them, up to an end
pub record NumbersLeft (order : Order) (k : NumberCode) (end place : ℕ) (us : ValueTrees) : Type 0 where
  pub all : AllOf (NumberType k) us
  pub aligned : gap_to (width k) place ≡ 0
  pub ends : end ≡ place + length (spellings order place us)

-- Of the numbers xs, which stand from `at` to `end`, those before `place` are byteswapped.
abbrev pub NumbersByteswapped : Order → NumberCode → (at end : ℕ) → ValueTrees → (before : List ℕ) → (place : ℕ) → (now : List ℕ) → Type 0
NumbersByteswapped order k at end xs before place now = Left order at xs (NumbersLeft order k end) (ByteswappedTo order at before now place) place

-- bytes are the same in both orders
pub bytes_same : (order : Order) (k : NumberCode) (at : ℕ) (xs : ValueTrees) → width k ≡ 1 → AllOf (NumberType k) xs → spellings order at xs ≡ spellings (other order) at xs
unfolding spelling spellings
bytes_same order k at NoValues wide all = refl
bytes_same order k at (MoreValues v xs) wide all =
    let n = number_of_type v k all.0 in
    rw (n.1, wide, one_byte order n.0, bytes_same order k (at + length (pad 1 at ++ num (other order) 1 n.0)) xs wide all.1) refl

module _ {order : Order} {k : NumberCode} {at end : ℕ} {xs : ValueTrees} where
  pub none_byteswapped : (before : List ℕ) → AllOf (NumberType k) xs → gap_to (width k) at ≡ 0 → end ≡ at + length (spellings order at xs) → NumbersByteswapped order k at end xs before at before
  unfolding spellings
  none_byteswapped before all aligned ends =
      all_left order at xs (NumbersLeft order k end) (ByteswappedTo order at before before at) (record { all = all; aligned = aligned; ends = ends })
      (record { here = omega arith; replaced = nothing_put at [] [] before before refl refl })

  module _ {before now : List ℕ} {place : ℕ} (l : NumbersByteswapped order k at end xs before place now) where
    record FirstNumber (v : ValueTree) (us : ValueTrees) : Type 0 where
      n : ℕ
      is : (any : Order) → spelling any place v ≡ num any (width k) n
      left : NumbersLeft order k end (place + width k) us
      ends : place + width k ≤ end

    first_number : (v : ValueTree) (us : ValueTrees) → l.us ≡ MoreValues v us → FirstNumber v us
    unfolding spelling spellings
    first_number v us e =
        let keeps = subst (NumbersLeft order k end place) e l.keeps in
        let n = number_of_type v k keeps.all.0 in
        let is : (any : Order) → spelling any place v ≡ num any (width k) n.0 = λ any. ap (spelling any place) n.1 ∙ ap (λ (g : ℕ). replicate g 0 ++ num any (width k) n.0) keeps.aligned in
        let s = spelling order place v in
        let long : length s ≡ width k = ap length (is order) ∙ length-num order (width k) n.0 in
        let ends : end ≡ place + width k + length (spellings order (place + width k) us) =
        omega (arith, keeps.ends, long, length-append s (spellings order (place + length s) us), ap (λ (m : ℕ). length (spellings order (place + m) us)) long) in
        record { n = n.0; is = is; left = record { all = keeps.all.1; aligned = stays_aligned (width k) place keeps.aligned; ends = ends }; ends = omega (arith, ends) }

    pub number_byteswapped : (next : List ℕ) → place < end → next ≡ take place now ++ (reverse (take (width k) (drop place now)) ++ drop (place + width k) now) → NumbersByteswapped order k at end xs before (place + width k) next
    unfolding spellings
    number_byteswapped next lt byteswapped = of l.us refl
      where
        of : (us : ValueTrees) → l.us ≡ us → NumbersByteswapped order k at end xs before (place + width k) next
        of NoValues e = absurd (omega (arith, lt, (subst (NumbersLeft order k end place) e l.keeps).ends))
        of (MoreValues v us) e =
            let w = width k in
            let P = NumbersLeft order k end in
            let p = first_number v us e in
            let long : place + w ≡ place + length (spelling order place v) = omega (arith, ap length (p.is order), length-num order w p.n) in
            let one : Replaces place (spelling order place v) (spelling (other order) place v) now next =
            λ rest h stands. number_put order w p.n place now next rest (stands ∙ ap (λ (s : List ℕ). s ++ rest) (p.is order)) byteswapped ∙ ap (λ (s : List ℕ). take place now ++ (s ++ rest)) (sym (p.is (other order))) in
            less_left order at xs P P (ByteswappedTo order at before now place) (ByteswappedTo order at before next (place + w)) place l v us e (place + w) long
            (rw (← long) p.left) (one_more order at place (place + w) l.done v before now next l.walked long one)

    -- if not one more fits, then none is left
    pub all_byteswapped : end < place + width k → Replaces at (spellings order at xs) (spellings (other order) at xs) before now
    all_byteswapped short = of l.us refl
      where
        of : (us : ValueTrees) → l.us ≡ us → Replaces at (spellings order at xs) (spellings (other order) at xs) before now
        of NoValues e =
            let is = (none_left order at xs (NumbersLeft order k end) (ByteswappedTo order at before now place) place l e).0 in
            subst (λ (us : ValueTrees). Replaces at (spellings order at us) (spellings (other order) at us) before now) (sym is) l.walked.replaced
        of (MoreValues v us) e = absurd (omega (arith, short, (first_number v us e).ends))
