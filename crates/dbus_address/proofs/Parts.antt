-- What a text spells are its parts.
use Rattle.std.proofs.Common.{◌≡◌, ℕ, ◌+◌, ◌*◌, Bool, true, false, eqb, List, [], ◌∷◌, ◌++◌, refl, sym, ap, ◌∙◌, map, append-nil}
use Rattle.std.specs.Prelude.{Option, Some, None, if◌then◌else◌}
use Rattle.std.specs.List.{AllByRecursion}
use Rattle.std.proofs.lemmas.Bool.{cond-true, cond-false, eqb-true, false≢true}
use Rattle.dbus_address.specs.Bytes.{is_plain, is_hex, digit}
use Rattle.dbus_address.specs.Addresses.{Piece, plain, escaped, IsPiece, piece_byte, pieces_then, SpelledPair, SpelledAddress, IsName, IsSpelledPair, IsSpelledAddress, pair_then, more_pairs_then, pairs_then, address_then, more_addresses, Pair, Address, pair_of, address_of, SpellsAddresses}
use Rattle.dbus_address.specs.Parts.{before, after, onto_first, parts, parts_left, some_text, or_empty, number, unescaped, pair_in, pairs_left, address_in, addresses_in}
use Rattle.dbus_address.proofs.Rests.{ArePlain, not_plain}
use Rattle.dbus_address.proofs.Unique.{plain_name}

-- the parts are what comes before the mark, and the parts of what comes after it
pub parts_cut : (d : ℕ) (w : List ℕ) → parts d w ≡ before d w ∷ parts_left d (after d w)
parts_cut d [] = refl
parts_cut d (b ∷ c) = go (eqb b d) (parts_cut d c)
  where
    go : (t : Bool) → parts d c ≡ before d c ∷ parts_left d (after d c) → (if t then [] ∷ parts d c else onto_first b (parts d c)) ≡ (if t then [] else b ∷ before d c) ∷ parts_left d (if t then Some c else after d c)
    go true h = refl
    go false h = ap (onto_first b) h

-- a text without the mark, then a text
abbrev pub IsWithout : ℕ → List ℕ → Type 0
IsWithout d w = AllByRecursion (λ b. eqb b d ≡ false) w

-- and where it ends: at the mark, or the text's end
abbrev pub EndsAt : ℕ → List ℕ → Option (List ℕ) → Type 0
EndsAt d r o = (before d r ≡ []) × (after d r ≡ o)

pub cut_at : (d : ℕ) (x r : List ℕ) (o : Option (List ℕ)) → IsWithout d x → EndsAt d r o → (before d (x ++ r) ≡ x) × (after d (x ++ r) ≡ o)
cut_at d [] r o h e = e
cut_at d (b ∷ x) r o h e =
    let z = cut_at d x r o h.1 e in
    (cond-false (eqb b d) [] (b ∷ before d (x ++ r)) h.0 ∙ ap (λ y. b ∷ y) z.0, cond-false (eqb b d) (Some (x ++ r)) (after d (x ++ r)) h.0 ∙ z.1)

pub without_name : (d : ℕ) (x : List ℕ) → is_plain d ≡ false → ArePlain x → IsWithout d x
without_name d [] f h = tt
without_name d (b ∷ x) f h = (not_plain b d f h.0, without_name d x f h.1)

-- ---- what is cut off at a mark that a text does not have

abbrev pub Cut : ℕ → List ℕ → List ℕ → Option (List ℕ) → Type 0
Cut d r x o = (before d r ≡ x) × (after d r ≡ o)

record IsMark (d : ℕ) : Type 0 where
  plain : is_plain d ≡ false
  hex : is_hex d ≡ false
  percent : eqb 37 d ≡ false

not_hex : (b d : ℕ) → is_hex d ≡ false → is_hex b ≡ true → eqb b d ≡ false
not_hex b d f h = go (eqb b d) refl
  where
    go : (t : Bool) → eqb b d ≡ t → eqb b d ≡ false
    go true e = absurd (false≢true (sym f ∙ ap is_hex (sym (eqb-true b d e)) ∙ h))
    go false e = e

cut_byte : (d b : ℕ) (r x : List ℕ) (o : Option (List ℕ)) → eqb b d ≡ false → Cut d r x o → Cut d (b ∷ r) (b ∷ x) o
cut_byte d b r x o f h = (cond-false (eqb b d) [] (b ∷ before d r) f ∙ ap (λ y. b ∷ y) h.0, cond-false (eqb b d) (Some r) (after d r) f ∙ h.1)

cut_name : (d : ℕ) (y r x : List ℕ) (o : Option (List ℕ)) → is_plain d ≡ false → ArePlain y → Cut d r x o → Cut d (y ++ r) (y ++ x) o
cut_name d [] r x o f h k = k
cut_name d (b ∷ y) r x o f h k = cut_byte d b (y ++ r) (y ++ x) o (not_plain b d f h.0) (cut_name d y r x o f h.1 k)

cut_pieces : (d : ℕ) (v : List Piece) (r x : List ℕ) (o : Option (List ℕ)) → IsMark d → AllByRecursion IsPiece v → Cut d r x o → Cut d (pieces_then v r) (pieces_then v x) o
cut_pieces d [] r x o m h k = k
cut_pieces d (plain b ∷ v) r x o m h k = cut_byte d b (pieces_then v r) (pieces_then v x) o (not_plain b d m.plain h.0) (cut_pieces d v r x o m h.1 k)
cut_pieces d (escaped a l ∷ v) r x o m h k =
    cut_byte d 37 (a ∷ l ∷ pieces_then v r) (a ∷ l ∷ pieces_then v x) o m.percent (cut_byte d a (l ∷ pieces_then v r) (l ∷ pieces_then v x) o (not_hex a d m.hex h.0.0) (cut_byte d l (pieces_then v r) (pieces_then v x) o (not_hex l d m.hex h.0.1) (cut_pieces d v r x o m h.1 k)))

cut_pair : (d : ℕ) (p : SpelledPair) (r x : List ℕ) (o : Option (List ℕ)) → IsMark d → eqb 61 d ≡ false → IsSpelledPair p → Cut d r x o → Cut d (pair_then p r) (pair_then p x) o
cut_pair d p r x o m f h k =
    cut_name d p.key (61 ∷ pieces_then p.pieces r) (61 ∷ pieces_then p.pieces x) o m.plain (plain_name p.key h.0) (cut_byte d 61 (pieces_then p.pieces r) (pieces_then p.pieces x) o f (cut_pieces d p.pieces r x o m h.1 k))

semicolon : IsMark 59
semicolon = record { plain = refl; hex = refl; percent = refl }

comma : IsMark 44
comma = record { plain = refl; hex = refl; percent = refl }

cut_more_pairs : (ps : List SpelledPair) (r x : List ℕ) (o : Option (List ℕ)) → AllByRecursion IsSpelledPair ps → Cut 59 r x o → Cut 59 (more_pairs_then ps r) (more_pairs_then ps x) o
cut_more_pairs [] r x o h k = k
cut_more_pairs (p ∷ ps) r x o h k =
    cut_byte 59 44 (pair_then p (more_pairs_then ps r)) (pair_then p (more_pairs_then ps x)) o refl (cut_pair 59 p (more_pairs_then ps r) (more_pairs_then ps x) o semicolon refl h.0 (cut_more_pairs ps r x o h.1 k))

cut_pairs : (ps : List SpelledPair) (r x : List ℕ) (o : Option (List ℕ)) → AllByRecursion IsSpelledPair ps → Cut 59 r x o → Cut 59 (pairs_then ps r) (pairs_then ps x) o
cut_pairs [] r x o h k = k
cut_pairs (p ∷ ps) r x o h k = cut_pair 59 p (more_pairs_then ps r) (more_pairs_then ps x) o semicolon refl h.0 (cut_more_pairs ps r x o h.1 k)

cut_address : (a : SpelledAddress) (r x : List ℕ) (o : Option (List ℕ)) → IsSpelledAddress a → Cut 59 r x o → Cut 59 (address_then a r) (address_then a x) o
cut_address a r x o h k =
    cut_name 59 a.transport (58 ∷ pairs_then a.pairs r) (58 ∷ pairs_then a.pairs x) o refl (plain_name a.transport h.0) (cut_byte 59 58 (pairs_then a.pairs r) (pairs_then a.pairs x) o refl (cut_pairs a.pairs r x o h.1 k))

-- the parts of a text that is cut at the mark
cut_parts : (d : ℕ) (w x : List ℕ) (o : Option (List ℕ)) → Cut d w x o → parts d w ≡ x ∷ parts_left d o
cut_parts d w x o h = parts_cut d w ∙ ap (λ y. y ∷ parts_left d (after d w)) h.0 ∙ ap (λ y. x ∷ parts_left d y) h.1

-- ---- values

number_is : (b : ℕ) → is_hex b ≡ true → number b ≡ digit b
number_is b h = cond-true (is_hex b) (digit b) 0 h

pub value_is : (v : List Piece) → AllByRecursion IsPiece v → unescaped (pieces_then v []) ≡ map piece_byte v
value_is [] h = refl
value_is (plain b ∷ v) h = cond-false (eqb b 37) _ _ (not_plain b 37 refl h.0) ∙ ap (λ z. b ∷ z) (value_is v h.1)
value_is (escaped a l ∷ v) h =
    ap (λ z. (z * 16 + number l) ∷ unescaped (pieces_then v [])) (number_is a h.0.0) ∙ ap (λ z. (digit a * 16 + z) ∷ unescaped (pieces_then v [])) (number_is l h.0.1) ∙ ap (λ z. (digit a * 16 + digit l) ∷ z) (value_is v h.1)

-- ---- pairs

name_before : (d : ℕ) (y r : List ℕ) → is_plain d ≡ false → eqb d d ≡ true → IsName y → Cut d (y ++ d ∷ r) y (Some r)
name_before d y r f e h =
    let c = cut_name d y (d ∷ r) [] (Some r) f (plain_name y h) (cond-true (eqb d d) [] (d ∷ before d r) e, cond-true (eqb d d) (Some r) (after d r) e) in
    (c.0 ∙ append-nil y, c.1)

pair_is : (p : SpelledPair) → IsSpelledPair p → pair_in (pair_then p []) ≡ pair_of p
pair_is p h =
    let c = name_before 61 p.key (pieces_then p.pieces []) refl refl h.0 in
    let v = ap (λ z. unescaped (or_empty z)) c.1 ∙ value_is p.pieces h.1 in
    let x : ◌≡◌ {A = Pair} (pair_in (pair_then p [])) (record { key = p.key; value = unescaped (or_empty (after 61 (pair_then p []))) }) = ap (λ t. record { key = t; value = unescaped (or_empty (after 61 (pair_then p []))) }) c.0 in
    let y : ◌≡◌ {A = Pair} (record { key = p.key; value = unescaped (or_empty (after 61 (pair_then p []))) }) (pair_of p) = ap (λ t. record { key = p.key; value = t }) v in
    x ∙ y

more_pairs_are : (p : SpelledPair) (ps : List SpelledPair) → IsSpelledPair p → AllByRecursion IsSpelledPair ps → map pair_in (parts 44 (pair_then p (more_pairs_then ps []))) ≡ map pair_of (p ∷ ps)
more_pairs_are p [] h k =
    ap (map pair_in) (cut_parts 44 (pair_then p []) (pair_then p []) None (cut_pair 44 p [] [] None comma refl h (refl, refl))) ∙ ap (λ z. z ∷ []) (pair_is p h)
more_pairs_are p (q ∷ ps) h k =
    let r = pair_then q (more_pairs_then ps []) in
    ap (map pair_in) (cut_parts 44 (pair_then p (44 ∷ r)) (pair_then p []) (Some r) (cut_pair 44 p (44 ∷ r) [] (Some r) comma refl h (refl, refl))) ∙ ap (λ z. z ∷ map pair_in (parts 44 r)) (pair_is p h) ∙ ap (λ z. pair_of p ∷ z) (more_pairs_are q ps k.0 k.1)

some_name : (y r : List ℕ) → IsName y → some_text (Some (y ++ r)) ≡ Some (y ++ r)
some_name [] r h = absurd h
some_name (b ∷ y) r h = refl

pairs_are : (ps : List SpelledPair) → AllByRecursion IsSpelledPair ps → pairs_left (some_text (Some (pairs_then ps []))) ≡ map pair_of ps
pairs_are [] h = refl
pairs_are (p ∷ ps) h = ap pairs_left (some_name p.key (61 ∷ pieces_then p.pieces (more_pairs_then ps [])) h.0.0) ∙ more_pairs_are p ps h.0 h.1

-- ---- addresses

pub address_is : (a : SpelledAddress) → IsSpelledAddress a → address_in (address_then a []) ≡ address_of a
address_is a h =
    let c = name_before 58 a.transport (pairs_then a.pairs []) refl refl h.0 in
    let v = ap (λ z. pairs_left (some_text z)) c.1 ∙ pairs_are a.pairs h.1 in
    let x : ◌≡◌ {A = Address} (address_in (address_then a [])) (record { transport = a.transport; pairs = pairs_left (some_text (after 58 (address_then a []))) }) = ap (λ t. record { transport = t; pairs = pairs_left (some_text (after 58 (address_then a []))) }) c.0 in
    let y : ◌≡◌ {A = Address} (record { transport = a.transport; pairs = pairs_left (some_text (after 58 (address_then a []))) }) (address_of a) = ap (λ t. record { transport = a.transport; pairs = t }) v in
    x ∙ y

-- the parts of a text that ends with an address, and of one that goes on
pub last_part : (a : SpelledAddress) → IsSpelledAddress a → parts 59 (address_then a []) ≡ address_then a [] ∷ []
last_part a h = cut_parts 59 (address_then a []) (address_then a []) None (cut_address a [] [] None h (refl, refl))

pub next_part : (a : SpelledAddress) (r : List ℕ) → IsSpelledAddress a → parts 59 (address_then a (59 ∷ r)) ≡ address_then a [] ∷ parts 59 r
next_part a r h = cut_parts 59 (address_then a (59 ∷ r)) (address_then a []) (Some r) (cut_address a (59 ∷ r) [] (Some r) h (refl, refl))

more_are : (a : SpelledAddress) (m : List SpelledAddress) → IsSpelledAddress a → AllByRecursion IsSpelledAddress m → addresses_in (address_then a (more_addresses m)) ≡ map address_of (a ∷ m)
more_are a [] h k = ap (map address_in) (last_part a h) ∙ ap (λ z. z ∷ []) (address_is a h)
more_are a (b ∷ m) h k =
    let r = address_then b (more_addresses m) in
    ap (map address_in) (next_part a r h) ∙ ap (λ z. z ∷ map address_in (parts 59 r)) (address_is a h) ∙ ap (λ z. address_of a ∷ z) (more_are b m k.0 k.1)

pub are_parts : (w : List ℕ) (addresses : List Address) → SpellsAddresses w addresses → addresses ≡ addresses_in w
are_parts w addresses h = h.meant ∙ sym (more_are h.first h.more h.first_is h.more_are) ∙ ap addresses_in (sym h.spelled)
