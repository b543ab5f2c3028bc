-- Elements of an array that are numbers, and their bytes.
use Rattle.std.proofs.Common.{◌≡◌, ℕ, ◌+◌, ◌-◌, ◌%◌, ◌<◌, ◌≤◌, List, [], ◌∷◌, ◌++◌, length, take, drop, replicate, map, refl, sym, ap, subst, ◌∙◌, arith, append_assoc}
use Rattle.std.specs.List.{flat_map}
use Rattle.std.proofs.lemmas.List.{length-append, length-drop, length-replicate, take_at}
use Rattle.dbus_texts.specs.Types.{NumberCode, BYTE, TypeTree, NumberType, sig}
use Rattle.dbus_types.specs.Alignments.{width}
use Rattle.dbus_value_model.specs.Bytes.{gap_to, pad, num, low_first}
use Rattle.dbus_value_model.specs.declared.order.Order.{Order}
use Rattle.dbus_value_model.specs.declared.order.Order.TheVariants.{Little, Big}
use Rattle.dbus_value_model.specs.Spelling.{spelling, spellings}
use Rattle.dbus_value_model.specs.Values.{ValueTree, ValueTrees, NumberValue, NoValues, MoreValues, type_of, value_trees, AllOf, IsWellFormed, AreWellFormed}
use Rattle.dbus_value_model.specs.ValueViews.{byte_values}
use Rattle.dbus_value_model.proofs.Numbers.{length-num, byte_spelled}
use Rattle.dbus_walk.specs.Standing.{ElementsStand}
use Rattle.dbus_walk.specs.Containers.{number_width}
use Rattle.dbus_walk.proofs.Lists.{none_ends}
use Rattle.dbus_walk.proofs.NumberFacts.{number_of_type}
use Rattle.dbus_walk.proofs.Parts.{number_is, stands_after}
use Rattle.dbus_values.specs.States.{AreNumbersIn}

pub one_byte : (k : NumberCode) → width k ≡ 1 → k ≡ BYTE
one_byte BYTE e = refl
one_byte k e = absurd (omega arith)

-- padding reaches a boundary, and a number that begins at one ends at one
pub comes_aligned : (k : NumberCode) (o : ℕ) → gap_to (width k) (o + gap_to (width k) o) ≡ 0
unfolding gap_to
comes_aligned BYTE o = omega arith
comes_aligned k o = omega arith

pub stays_aligned : (k : NumberCode) (o : ℕ) → gap_to (width k) o ≡ 0 → gap_to (width k) (o + width k) ≡ 0
unfolding gap_to
stays_aligned BYTE o h = omega arith
stays_aligned k o h = omega arith

module _ (order : Order) (k : NumberCode) where
  -- a number has no padding at its boundary
  first_spelled : (place n : ℕ) (us : ValueTrees) → gap_to (width k) place ≡ 0
      → spellings order place (MoreValues (NumberValue k n) us) ≡ num order (width k) n ++ spellings order (place + width k) us
  unfolding spelling spellings
  first_spelled place n us aligned =
      let is : spelling order place (NumberValue k n) ≡ num order (width k) n = ap (λ (g : ℕ). replicate g 0 ++ num order (width k) n) aligned in
      ap (λ (l : List ℕ). l ++ spellings order (place + length l) us) is ∙ ap (λ (m : ℕ). num order (width k) n ++ spellings order (place + m) us) (length-num order (width k) n)

  listed : (place : ℕ) (xs : ValueTrees) → AllOf (NumberType k) xs → gap_to (width k) place ≡ 0
      → (ns : List ℕ) × (xs ≡ value_trees (map (NumberValue k) ns)) × (spellings order place xs ≡ flat_map (num order (width k)) ns)
  unfolding spellings
  listed place NoValues all aligned = ([], refl, refl)
  listed place (MoreValues v us) all aligned =
      let n = number_of_type v k all.0 in
      let rest = listed (place + width k) us all.1 (stays_aligned k place aligned) in (
        n.0 ∷ rest.0,
        ap (λ (x : ValueTree). MoreValues x us) n.1 ∙ ap (MoreValues (NumberValue k n.0)) rest.1,
        ap (λ (x : ValueTree). spellings order place (MoreValues x us)) n.1 ∙ first_spelled place n.0 us aligned ∙ ap (λ (l : List ℕ). num order (width k) n.0 ++ l) rest.2,
      )

  -- padding stands before the first number alone
  padded_first : (place : ℕ) (v : ValueTree) (us : ValueTrees) → type_of v ≡ NumberType k
      → spellings order place (MoreValues v us) ≡ pad (width k) place ++ spellings order (place + gap_to (width k) place) (MoreValues v us)
  unfolding spelling spellings
  padded_first place v us typed =
      let n = number_of_type v k typed in
      let w = width k in
      let start = place + gap_to w place in
      let own = num order w n.0 in
      let ends : place + length (pad w place ++ own) ≡ start + w = omega (arith, length-append (pad w place) own, length-replicate {A = ℕ} (gap_to w place) 0, length-num order w n.0) in
      let first : spellings order place (MoreValues (NumberValue k n.0) us) ≡ pad w place ++ spellings order start (MoreValues (NumberValue k n.0) us) =
      ap (λ (m : ℕ). (pad w place ++ own) ++ spellings order m us) ends ∙ append_assoc (pad w place) own (spellings order (start + w) us) ∙ ap (λ (l : List ℕ). pad w place ++ l) (sym (first_spelled start n.0 us (comes_aligned k place))) in
      subst (λ (x : ValueTree). spellings order place (MoreValues x us) ≡ pad w place ++ spellings order start (MoreValues x us)) (sym n.1) first

-- ---- an array of bytes

byte_elements : (order : Order) (depth_left place : ℕ) (xs : ValueTrees) → AllOf (NumberType BYTE) xs → AreWellFormed depth_left xs → xs ≡ byte_values (spellings order place xs)
unfolding spellings
byte_elements order depth_left place NoValues all formed = refl
byte_elements order depth_left place (MoreValues v us) all formed =
    let n = number_of_type v BYTE all.0 in
    let own : spelling order place v ≡ n.0 ∷ [] = ap (spelling order place) n.1 ∙ byte_spelled order place n.0 (subst (λ (x : ValueTree). IsWellFormed depth_left x) n.1 formed.0) in
    let rest = byte_elements order depth_left (place + 1) us all.1 formed.1 in
    ap (λ (x : ValueTree). MoreValues x us) n.1 ∙ ap (MoreValues (NumberValue BYTE n.0)) rest ∙ ap (λ (l : List ℕ). byte_values (l ++ spellings order (place + length l) us)) (sym own)

-- ---- where they stand

module _ {order : Order} {depth_left : ℕ} {types : List ℕ} {at end : ℕ} {bytes : List ℕ} {xs : ValueTrees} {rest : List ℕ} (e : ElementsStand order depth_left types at end bytes xs rest) where
  pub elements_within : (at ≤ end) × (end ≤ length bytes)
  elements_within = (omega (arith, e.ends), omega (arith, e.ends, e.inside, ap length e.spelled, length-append (spellings order at xs) rest, length-drop at bytes))

  slice_there : (start : ℕ) (front own : List ℕ) → spellings order at xs ≡ front ++ own → start ≡ at + length front → take (end - start) (drop start bytes) ≡ own
  slice_there start front own is place =
      let there = stands_after at start front (own ++ rest) bytes (e.spelled ∙ ap (λ (l : List ℕ). l ++ rest) is ∙ append_assoc front own rest) place in
      ap (take (end - start)) there ∙ take_at own rest (end - start) (omega (arith, e.ends, ap length is, length-append front own, place))

  pub bytes_there : e.type ≡ NumberType BYTE → xs ≡ byte_values (take (end - at) (drop at bytes))
  bytes_there is =
      byte_elements order depth_left at xs (subst (λ (t : TypeTree). AllOf t xs) is e.all) e.formed ∙ ap byte_values (sym (slice_there at [] (spellings order at xs) refl (omega arith)))

-- numbers of so many bytes
pub numbers_in : {order : Order} {depth_left : ℕ} {types : List ℕ} {at end : ℕ} {bytes : List ℕ} (xs : ValueTrees) {rest : List ℕ} (e : ElementsStand order depth_left types at end bytes xs rest) (w : ℕ) → 0 < w → w ≡ number_width e.type → (at ≡ end → ⊥)
    → (start : ℕ) → start ≡ at + gap_to w at → (start ≤ end) × AreNumbersIn order types xs (take (end - start) (drop start bytes))
numbers_in NoValues e w some wide left start place = absurd (left (sym (none_ends e)))
numbers_in {order} {at = at} {end = end} (MoreValues v us) e w some wide left start place =
    let number = number_is e.type w some wide in
    let k = number.0 in
    let all : AllOf (NumberType k) (MoreValues v us) = subst (λ (t : TypeTree). AllOf t (MoreValues v us)) number.1 e.all in
    let from = at + gap_to (width k) at in
    let front = pad (width k) at in
    let own = spellings order from (MoreValues v us) in
    let first = padded_first order k at v us all.0 in
    let begins : start ≡ at + length front = omega (arith, place, ap (λ (n : ℕ). gap_to n at) number.2, length-replicate {A = ℕ} (gap_to (width k) at) 0) in
    let numbers = listed order k from (MoreValues v us) all (comes_aligned k at) in (
      omega (arith, e.ends, ap length first, length-append front own, begins),
      record { code = k; numbers = numbers.0; typed = sym e.text ∙ ap sig number.1; are = numbers.1; spelled = slice_there e start front own first begins ∙ numbers.2 },
    )

pub none_in : {order : Order} {depth_left : ℕ} {types : List ℕ} {at end : ℕ} {bytes : List ℕ} {xs : ValueTrees} {rest : List ℕ} (e : ElementsStand order depth_left types at end bytes xs rest) (w : ℕ) → 0 < w → w ≡ number_width e.type → xs ≡ NoValues → AreNumbersIn order types xs []
none_in e w some wide none =
    let number = number_is e.type w some wide in
    record { code = number.0; numbers = []; typed = sym e.text ∙ ap sig number.1; are = none; spelled = refl }
