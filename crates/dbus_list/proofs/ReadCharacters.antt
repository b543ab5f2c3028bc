-- Texts that are read character by character.
use Rattle.std.proofs.Common.{◌≡◌, ℕ, List, [], ◌∷◌, ◌++◌, length, sym, ap, ◌∙◌, append-nil, append_assoc}
use Rattle.std.specs.Char.{encode_utf8}
use Rattle.std.specs.Str.{encode_utf8_all}
use Rattle.std.proofs.lemmas.List.{nil_from_length}
use Rattle.std.proofs.lemmas.Str.{encodes-append}

pub encode_push : (cs : List ℕ) (c : ℕ) → encode_utf8_all (cs ++ c ∷ []) ≡ encode_utf8_all cs ++ encode_utf8 c
encode_push cs c = encodes-append cs (c ∷ []) ∙ ap (λ (t : List ℕ). encode_utf8_all cs ++ t) (append-nil (encode_utf8 c))

-- one character more of a text was read
pub left_push : (text : List ℕ) (done : List ℕ) (c : ℕ) (left rest : List ℕ) → text ≡ encode_utf8_all done ++ left → left ≡ encode_utf8 c ++ rest → text ≡ encode_utf8_all (done ++ c ∷ []) ++ rest
left_push text done c left rest is steps =
    is ∙ ap (λ (t : List ℕ). encode_utf8_all done ++ t) steps ∙ sym (append_assoc (encode_utf8_all done) (encode_utf8 c) rest) ∙ ap (λ (t : List ℕ). t ++ rest) (sym (encode_push done c))

-- all of a text was read
pub left_none : (text : List ℕ) (done : List ℕ) (left : List ℕ) → text ≡ encode_utf8_all done ++ left → length left ≡ 0 → text ≡ encode_utf8_all done
left_none text done left is none = is ∙ ap (λ (t : List ℕ). encode_utf8_all done ++ t) (nil_from_length left none) ∙ append-nil (encode_utf8_all done)
