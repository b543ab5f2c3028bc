-- Hashes of texts: texts of two hashes are two. They decide nothing alone; a rule that they lead to
-- is asked.
use Rattle.std.specs.Prelude.{ℕ, ◌*◌, ◌%◌, ◌^◌, List, [], ◌∷◌, bit_xor}

abbrev pub and_byte : ℕ → ℕ → ℕ
and_byte n b = (bit_xor n b * 1099511628211) % 2 ^ 64

abbrev pub number_from : ℕ → List ℕ → ℕ
number_from n [] = n
number_from n (b ∷ w) = number_from (and_byte n b) w

abbrev pub text_hash : List ℕ → ℕ
text_hash w = number_from 14695981039346656037 w % 2 ^ 32
