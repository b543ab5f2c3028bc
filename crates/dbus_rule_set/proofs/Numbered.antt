-- The number of a text, byte by byte.
use Rattle.std.proofs.Common.{◌≡◌, ℕ, ◌+◌, ◌<◌, ◌≤◌, List, [], ◌∷◌, ◌++◌, length, get_or, take, drop, refl, sym, ap, ◌∙◌}
use Rattle.std.proofs.lemmas.List.{drop_more, drop_all, take_more}
use Rattle.dbus_rule_set.specs.TextNumbers.{and_byte, number_from}

pub number_more : (n i : ℕ) (w : List ℕ) → i < length w → number_from (and_byte n (get_or w i 0)) (drop (i + 1) w) ≡ number_from n (drop i w)
number_more n i w l = sym (ap (number_from n) (drop_more w i 0 l))

pub number_all : (n i : ℕ) (w : List ℕ) → length w ≤ i → number_from n (drop i w) ≡ n
number_all n i w l = ap (number_from n) (drop_all i w l)

number_last : (n b : ℕ) (w : List ℕ) → number_from n (w ++ b ∷ []) ≡ and_byte (number_from n w) b
number_last n b [] = refl
number_last n b (c ∷ w) = number_last (and_byte n c) b w

-- the number of a text's front with one more byte
pub front_more : (n i : ℕ) (w : List ℕ) → i < length w → number_from n (take (i + 1) w) ≡ and_byte (number_from n (take i w)) (get_or w i 0)
front_more n i w l = ap (number_from n) (take_more w i 0 l) ∙ number_last n (get_or w i 0) (take i w)
