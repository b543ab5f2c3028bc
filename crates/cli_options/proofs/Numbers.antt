-- The number that an option is given.
use Rattle.std.proofs.Common.{◌≡◌, ◌<◌, ◌^◌, ℕ, Option, Some, None, Result, Ok, Err, unwrap_or, refl, inl, inr, subst, sym, zero, suc, ◌+◌, List, [], ◌∷◌, ◌++◌, length, get_or, take, drop, map, ap, ◌∙◌, arith, take-append-drop, Bool, true, ◌↔◌, option_map, codes}
use Rattle.std.specs.Str.Parse.{ParsesUnsigned}
use Rattle.std.proofs.lemmas.Bool.{cases_lt}
use Rattle.std.specs.Borrow.{Bor}
use Rattle.std.specs.List.{AllByRecursion, AllZip}
use Rattle.std.specs.Option.{MatchOption}
use Rattle.std.proofs.lemmas.List.{drop_more, map-append, map_more}
use Rattle.std.proofs.lemmas.Slice.Zip.{all_zipped_more}
use Rattle.clap.specs.Matches.{TriesOne}
use Rattle.clap.specs.Words.{Text}
use Rattle.cli_options.specs.Limiting.{GivesGiven, GivesNumber, IsGivenNumber, IsNumberOf}

module _ {E : Type 0} (gives : Text → Result ℕ E → Type 0) (reads : (text : Text) (r : Result ℕ E) → gives text r → ParsesUnsigned 32 10 text r) where
  -- the number that was read, if there is one
  pub number_read : (given : Option Text) (read : Option ℕ) → (given ≡ None → ◌≡◌ {A = Result (Option ℕ) E} (Ok read) (Ok None))
      → ((text : Text) → given ≡ Some text → TriesOne gives text (Ok read)) → IsGivenNumber given read
  number_read None None none value = tt
  number_read None (Some number) none value =
      let bad : ◌≡◌ {A = Result (Option ℕ) E} (Ok (Some number)) (Ok None) = none refl in cc
  number_read (Some text) None none value = absurd (value text refl)
  number_read (Some text) (Some number) none value =
      let parsed = reads text (Ok number) (value text refl) in
      ((parsed.0.0, parsed.1), subst (λ (n : ℕ). n < 2 ^ 32) (sym parsed.1) parsed.0.1)

  -- a text that was not read is no number of 32 bits
  pub number_unread : (given : Option Text) (error : E) → (given ≡ None → ◌≡◌ {A = Result (Option ℕ) E} (Err error) (Ok None))
      → ((text : Text) → given ≡ Some text → TriesOne gives text (Err error)) → GivesGiven given None
  number_unread None error none value number is =
      let bad : ◌≡◌ {A = Result (Option ℕ) E} (Err error) (Ok None) = none refl in cc
  number_unread (Some text) error none value None is = is
  number_unread (Some text) error none value (Some number) is = absurd (reads text (Err error) (value text refl) (is.0.0, subst (λ (n : ℕ). n < 2 ^ 32) is.0.1 is.1))

-- the number that is given, or the default
pub number_or : (given : Option Text) (most : ℕ) (number : Option ℕ) → IsGivenNumber given number → IsNumberOf given most (unwrap_or number most)
number_or None most None is = refl
number_or None most (Some number) is = absurd is
number_or (Some text) most None is = absurd is
number_or (Some text) most (Some number) is = is.0

-- where there is no number of 32 bits, the default is none either
pub no_number : (given : Option Text) (most : ℕ) → GivesGiven given None → GivesNumber given most None
no_number None most none number is = absurd (none None tt)
no_number (Some text) most none number is = elim (cases_lt number (2 ^ 32)) [
  | inl below ↦ absurd (none (Some number) (is, below))
  | inr above ↦ above
]

-- Words one after the other, and what each of them gives.

-- where words give things, each is of those that can
pub each_can : {A B : Type 0} (R : A → B → Type 0) (P : A → Type 0) → ((x : A) (y : B) → R x y → P x) → (xs : List A) (ys : List B) → AllZip R xs ys → AllByRecursion P xs
each_can R P can [] [] h = tt
each_can R P can [] (y ∷ ys) h = absurd h
each_can R P can (x ∷ xs) [] h = absurd h
each_can R P can (x ∷ xs) (y ∷ ys) h = (can x y h.0, each_can R P can xs ys h.1)

-- the words before one, that one, and those after it; d stands for a word past the end
module _ {X A : Type 0} (f : X → A) (xs : List X) (i : ℕ) (d : X) (l : i < length xs) where
  -- one word more gives one thing more
  pub one_more_gives : {B : Type 0} (R : A → B → Type 0) (ys : List B) (y : B) → AllZip R (map f (take i xs)) ys → R (f (get_or xs i d)) y
      → AllZip R (map f (take (i + 1) xs)) (ys ++ y ∷ [])
  one_more_gives R ys y h r = subst (λ zs. AllZip R zs (ys ++ y ∷ [])) (sym (map_more f xs i d l)) (all_zipped_more R (map f (take i xs)) ys (f (get_or xs i d)) y h r)

  pub parted : map f xs ≡ map f (take i xs) ++ f (get_or xs i d) ∷ map f (drop (i + 1) xs)
  parted =
      ap (map f) (sym (take-append-drop i xs)) ∙ (map-append f (take i xs) (drop i xs)
      ∙ ap (λ zs. map f (take i xs) ++ map f zs) (drop_more xs i d l))

-- what holds of each word holds of the one at a place
pub at_place : {X A : Type 0} (P : A → Type 0) (f : X → A) (xs : List X) (i : ℕ) (d : X) → i < length xs → AllByRecursion P (map f xs) → P (f (get_or xs i d))
at_place P f [] i d l h = absurd (omega (arith, l))
at_place P f (y ∷ xs) zero d l h = h.0
at_place P f (y ∷ xs) (suc i) d l h = at_place P f xs i d (omega (arith, l)) h.1

-- a reference to no word, which a list has past its end
abbrev pub past_end : Bor Text
past_end = record { ref_ptr = (0, 0); now = [] }

-- what is told of a word that may be there is told of what clap read
pub flag_told : (word : Option (Bor Text)) (r : Bool) (given : Option Text) → option_map (λ s. s.now) word ≡ given
    → ((r ≡ true) ↔ MatchOption word ⊥ (λ w. w.now ≡ codes "true")) → (r ≡ true) ↔ (given ≡ Some (codes "true"))
flag_told None r given e d = (λ t. absurd (d.0 t), λ h. let bad : None ≡ Some (codes "true") = e ∙ h in absurd cc)
flag_told (Some w) r given e d = (λ t. sym e ∙ ap Some (d.0 t), λ h. let same : Some w.now ≡ Some (codes "true") = e ∙ h in d.1 cc)
