-- A text in which each byte may stand after the one before it is a name.
use Rattle.std.proofs.Common.{◌≡◌, ℕ, zero, suc, ◌+◌, ◌<◌, Bool, true, false, not, ◌||◌, eqb, List, [], ◌∷◌, length, drop, get_or, inl, inr, refl, sym, ap, ◌∙◌, subst, arith, IsTrue}
use Rattle.std.specs.Char.{is_ascii_alphanumeric}
use Rattle.std.specs.List.{AllByRecursion, list_any}
use Rattle.std.proofs.lemmas.Bool.Decides.{nat_tests}
use Rattle.std.proofs.lemmas.Bool.{and_parts, eqb-true, eqb-false, false≢true}
use Rattle.std.proofs.lemmas.List.{drop_more}
use Rattle.dbus_texts.specs.declared.names.Letters.{Letters}
use Rattle.dbus_texts.specs.declared.names.Letters.TheVariants.{Word, Name, Unique, WellKnown}
use Rattle.dbus_texts.specs.declared.names.Tail.TheVariants.{Needed, Free}
use Rattle.dbus_texts.specs.Kinds.{is_word, IsPath, IsBusName, IsMember}
use Rattle.dbus_texts.specs.NameScans.{begins, goes_on, separator, Elements, GoesOn, may_follow, AreLinked}
use Rattle.dbus_texts.proofs.NameSteps.{apart, elements_move, elements_joined, goes_on_more, goes_on_separator, goes_on_end, path_from}

-- the separator begins no element
begins_apart : (l : Letters) → begins l (separator l) ≡ false
begins_apart Word = refl
begins_apart _ = refl

-- each byte after a may stand where it does, and the last is no separator
abbrev Chain : Letters → ℕ → List ℕ → Type 0
Chain l a [] = eqb a (separator l) ≡ false
Chain l a (b ∷ w) = (may_follow (separator l) l a b ≡ true) × Chain l b w

-- the same of AreLinked, by the next place
abbrev Linked : ℕ → Letters → ℕ → List ℕ → Type 0
Linked s l a w = (i : ℕ) → i < length w → may_follow s l (get_or (a ∷ w) i 0) (get_or (a ∷ w) (suc i) 0) ≡ true

linked : (s : ℕ) (l : Letters) (a : ℕ) (w : List ℕ) → AreLinked s l (a ∷ w) → Linked s l a w
linked s l a w h j q = subst {A = ℕ} (λ m. may_follow s l (get_or (a ∷ w) j 0) (get_or (a ∷ w) m 0) ≡ true) {x = j + 1} {y = suc j} (omega arith) (h j (omega arith))

chain_of : (l : Letters) (a : ℕ) (w : List ℕ) → Linked (separator l) l a w → eqb (get_or (a ∷ w) (length w) 0) (separator l) ≡ false → Chain l a w
chain_of l a [] h e = e
chain_of l a (b ∷ w) h e = (h 0 (omega arith), chain_of l b w (λ i k. h (suc i) (omega arith)) e)

-- what follows a
abbrev frame_rest_at : Bool → Letters → List ℕ → Type 0
frame_rest_at true l w = Elements l Free w
frame_rest_at false l w = GoesOn l Free w

begins_on : (l : Letters) (b : ℕ) → begins l b ≡ true → eqb b (separator l) ≡ false
begins_on l b h = grind (arith, nat_tests, begins_apart l)

stops : (l : Letters) (b : ℕ) → b ≡ separator l → goes_on l b ≡ false
stops l b e = ap (goes_on l) e ∙ apart l

module _ (l : Letters) (a b : ℕ) (w : List ℕ) (link : may_follow (separator l) l a b ≡ true) (rest : frame_rest_at (eqb b (separator l)) l w) where
  within : eqb b (separator l) ≡ false → goes_on l b ≡ true
  within e = grind arith

  begun : eqb a (separator l) ≡ true → begins l b ≡ true
  begun e = grind arith

  rest_at : (t : Bool) → eqb b (separator l) ≡ t → frame_rest_at t l w
  rest_at t e = subst (λ u. frame_rest_at u l w) e rest

  within_at : (t : Bool) → eqb b (separator l) ≡ t → GoesOn l Free (b ∷ w)
  within_at true e = let at = eqb-true b (separator l) e in (goes_on_separator l Free b tt (stops l b at) at).from w (rest_at true e)
  within_at false e = (goes_on_more l Free b (within e)).from w (rest_at false e)

  first_at : (t : Bool) → eqb a (separator l) ≡ t → frame_rest_at t l (b ∷ w)
  first_at true e = (elements_move l Free b (begun e)).from w (rest_at false (begins_on l b (begun e)))
  first_at false e = within_at (eqb b (separator l)) refl

  needed_at : (t : Bool) → eqb b (separator l) ≡ t → (i : ℕ) → i < suc (length w) → get_or (b ∷ w) i 0 ≡ separator l → ((j : ℕ) → j < length w → get_or w j 0 ≡ separator l → GoesOn l Needed w) → GoesOn l Needed (b ∷ w)
  needed_at true e i k s ih = let at = eqb-true b (separator l) e in (goes_on_separator l Needed b tt (stops l b at) at).from w (rest_at true e)
  needed_at false e zero k s ih = absurd (eqb-false b (separator l) e s)
  needed_at false e (suc i) k s ih = (goes_on_more l Needed b (within e)).from w (ih i (omega arith) s)

frame_rest : (l : Letters) (a : ℕ) (w : List ℕ) → Chain l a w → frame_rest_at (eqb a (separator l)) l w
frame_rest l a [] h = subst (λ t. frame_rest_at t l []) (sym h) (goes_on_end l Free refl)
frame_rest l a (b ∷ w) h = first_at l a b w h.0 (frame_rest l b w h.1) (eqb a (separator l)) refl

-- a separator is still to come
after_needed : (l : Letters) (a : ℕ) (w : List ℕ) → Chain l a w → (i : ℕ) → i < length w → get_or w i 0 ≡ separator l → GoesOn l Needed w
after_needed l a [] h i k e = absurd (omega arith)
after_needed l a (b ∷ w) h i k e = needed_at l a b w h.0 (frame_rest l b w h.1) (eqb b (separator l)) refl i k e (λ j m s. after_needed l b w h.1 j m s)

unlike : (a b : ℕ) → (a ≡ b → ⊥) → eqb a b ≡ false
unlike a b n = grind (arith, nat_tests)

-- of a whole text
linked_chain : (l : Letters) (a : ℕ) (w : List ℕ) (n : ℕ) → n ≡ length w → (get_or (a ∷ w) n 0 ≡ separator l → ⊥) → AreLinked (separator l) l (a ∷ w) → Chain l a w
linked_chain l a w n last e h =
    chain_of l a w (linked (separator l) l a w h) (unlike _ _ (subst (λ m. get_or (a ∷ w) m 0 ≡ separator l → ⊥) last e))

-- a byte that is found stands somewhere
pub found_at : (w : List ℕ) (s : ℕ) → list_any (λ b. eqb b s) w ≡ true → (i : ℕ) × (i < length w) × (get_or w i 0 ≡ s)
found_at [] s h = absurd (false≢true h)
found_at (b ∷ w) s h = go (eqb b s) refl (found_at w s)
  where
    go : (t : Bool) → eqb b s ≡ t → (list_any (λ c. eqb c s) w ≡ true → (i : ℕ) × (i < length w) × (get_or w i 0 ≡ s)) → (i : ℕ) × (i < length (b ∷ w)) × (get_or (b ∷ w) i 0 ≡ s)
    go true e more = (0, omega arith, eqb-true b s e)
    go false e more = let rest = more (grind arith) in (suc rest.0, omega (arith, rest.1), rest.2)

pub joined_of : (l : Letters) (w : List ℕ) (n i : ℕ) → n + 1 ≡ length w → begins l (get_or w 0 0) ≡ true → (get_or w n 0 ≡ separator l → ⊥) → i < length w → get_or w i 0 ≡ separator l → AreLinked (separator l) l w → Elements l Needed w
joined_of l [] n i long b e k s h = absurd (omega arith)
joined_of l (a ∷ w) n zero long b e k s h = absurd (false≢true (sym (begins_apart l) ∙ (sym (ap (begins l) s) ∙ b)))
joined_of l (a ∷ w) n (suc i) long b e k s h = (elements_move l Needed a b).from w (after_needed l a w (linked_chain l a w n (omega arith) e h) i (omega arith) s)

pub path_of : (w : List ℕ) (n : ℕ) → n + 1 ≡ length w → get_or w 0 0 ≡ 47 → (get_or w n 0 ≡ 47 → ⊥) → AreLinked 47 Word w → IsPath w
path_of [] n long b e h = absurd (omega arith)
path_of (a ∷ w) n long b e h = path_from a w b (inr (subst (λ x. frame_rest_at (eqb x 47) Word w) b (frame_rest Word a w (linked_chain Word a w n (omega arith) e h))))

-- a bus name in bytes, by its first byte
pub unique_of : (xs : List ℕ) (start : ℕ) → start < length xs → get_or xs start 0 ≡ 58 → Elements Unique Needed (drop (start + 1) xs) → IsBusName (drop start xs)
unique_of xs start some colon h = subst IsBusName (sym (drop_more xs start 0 some ∙ ap (λ x. x ∷ drop (start + 1) xs) colon)) (inl (drop (start + 1) xs, elements_joined Unique (drop (start + 1) xs) refl h, refl))

pub known_of : (w : List ℕ) → Elements WellKnown Needed w → IsBusName w
known_of w h = inr (elements_joined WellKnown w refl h)

-- a member: if `_` stands for the separator, each byte after the first is of an element
letter_of : (p q : Bool) → ((p || q) || q) ≡ true → (p || q) ≡ true
letter_of true q h = refl
letter_of false true h = refl
letter_of false false h = h

letters_of : (a : ℕ) (w : List ℕ) → Linked 95 Word a w → AllByRecursion (λ b. IsTrue (is_word b)) w
letters_of a [] h = tt
letters_of a (b ∷ w) h = (letter_of (is_ascii_alphanumeric b) (eqb b 95) (and_parts (is_word b || eqb b 95) (not (eqb a 95) || is_word b) (h 0 (omega arith))).0, letters_of b w (λ i k. h (suc i) (omega arith)))

pub member_of : (w : List ℕ) → 0 < length w → begins Name (get_or w 0 0) ≡ true → AreLinked 95 Word w → IsMember w
member_of [] some b h = absurd (omega arith)
member_of (a ∷ w) some b h = (b, letters_of a w (linked 95 Word a w h))
